-- A potential of weights: what merging two of them adds to it is at most their sum. So Huffman's cost of some weights is at
-- least the potential of their sum less the sum of their potentials. The logarithm gives one (w * log2 w); here stands one
-- of lines, in whole numbers: in each octave the same lines, each as steep by one more and twice as low as in the octave
-- before it.
use Rattle.std.specs.Prelude.{ℕ, ◌+◌, ◌-◌, ◌*◌, ◌^◌, ◌<◌, ◌≤◌, max, List, [], ◌∷◌, sum_by}
use Rattle.std.proofs.Common.{zero, suc}
use Rattle.seq_theory.specs.Problem.{Problem}
use Rattle.seq_huff.specs.declared.potential.Line.{Line}

-- what 1 is in the slopes
abbrev pub unit : ℕ
unit = 1048576

-- what a line says of a weight in an octave
abbrev pub line_at : Line → ℕ → ℕ → ℕ
line_at l octave w = (l.slope + octave * unit) * w - l.less * 2 ^ octave

-- the most that some lines say in an octave
abbrev pub most_at : List Line → ℕ → ℕ → ℕ
most_at [] octave w = 0
most_at (l ∷ ls) octave w = max (line_at l octave w) (most_at ls octave w)

-- the most that they say in one of the first so many octaves
abbrev pub most_in : List Line → ℕ → ℕ → ℕ
most_in ls zero w = 0
most_in ls (suc octave) w = max (most_at ls octave w) (most_in ls octave w)

-- no line is lower than two units in its first octave, and slopes are small
abbrev pub AreFlat : List Line → Type 0
AreFlat [] = Unit {0}
AreFlat (l ∷ ls) = (l.less ≤ 2 * unit) × (l.slope < 2 ^ 24) × AreFlat ls

-- the tangents of the weight times its logarithm in the middle of each sixteenth of an octave
unfoldable pub lines : List Line
lines =
    record { slope = 510750; less = 780025 } ∷ record { slope = 599762; less = 827300 } ∷ record { slope = 683827; less = 874574 }
    ∷ record { slope = 763465; less = 921848 } ∷ record { slope = 839119; less = 969122 } ∷ record { slope = 911170; less = 1016396 }
    ∷ record { slope = 979944; less = 1063671 } ∷ record { slope = 1045727; less = 1110945 } ∷ record { slope = 1108769; less = 1158219 }
    ∷ record { slope = 1169288; less = 1205493 } ∷ record { slope = 1227479; less = 1252768 } ∷ record { slope = 1283514; less = 1300042 }
    ∷ record { slope = 1337547; less = 1347316 } ∷ record { slope = 1389717; less = 1394590 } ∷ record { slope = 1440148; less = 1441865 }
    ∷ record { slope = 1488951; less = 1489139 } ∷ []

-- the potential of a weight below 2 ^ 32
unfoldable pub potential : ℕ → ℕ
potential w = most_in lines 33 w

-- the sum of the potentials of the classes
abbrev pub potentials : Problem → List ℕ → ℕ
potentials p group = sum_by (λ c. potential (p.weight c)) group
