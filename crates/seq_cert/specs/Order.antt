-- The order of group lines: by size upwards, and at one size by the group as a number upwards. A list is put in order by
-- placing one item after another, the ties in the order in which they came.
use Rattle.std.specs.Prelude.{Bool, cond, ◌&&◌, ◌||◌, nat_eq, nat_lt, List, [], ◌∷◌}
use Rattle.sig_lines.specs.Hex.{number_of_words}
use Rattle.seq_cert.specs.declared.report.GroupLine.{GroupLine}

-- an item in its place in items in order
abbrev pub placed : {X : Type 0} → (X → X → Bool) → X → List X → List X
placed before x [] = x ∷ []
placed before x (y ∷ more) = cond (before y x) (y ∷ placed before x more) (x ∷ y ∷ more)

-- items in order
abbrev pub ordered : {X : Type 0} → (X → X → Bool) → List X → List X
ordered before [] = []
ordered before (x ∷ more) = placed before x (ordered before more)

-- whether the first line comes before the second
abbrev pub is_before : GroupLine → GroupLine → Bool
is_before a b = nat_lt a.size b.size || (nat_eq a.size b.size && nat_lt (number_of_words a.group.0) (number_of_words b.group.0))

-- group lines in order
unfoldable pub in_order : List GroupLine → List GroupLine
in_order lines = ordered is_before lines
