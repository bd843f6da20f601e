-- What one more state does to the weights of the classes.
use Rattle.std.specs.Prelude.{ℕ, ◌+◌, nat_lt, cond, List, [], ◌∷◌, ◌++◌, length, slice_index, slice_set}

-- the class gains the weight, or a new class begins with it
abbrev pub with_weight : List ℕ → ℕ → ℕ → List ℕ
with_weight weights class weight = cond (nat_lt class (length weights)) (slice_set weights class (slice_index weights class + weight)) (weights ++ weight ∷ [])
