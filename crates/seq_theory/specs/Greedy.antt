-- The greedy strategy.
use Rattle.std.specs.Prelude.{ℕ, cond, nat_le, max, List, [], ◌∷◌, length, map}
use Rattle.std.proofs.Common.{zero, suc}
use Rattle.seq_theory.specs.Problem.{Problem, pass_part, fail_part, splitting, is_end, least_of}
use Rattle.seq_theory.specs.Tree.{Tree, leaf, ask, tree_cost}
use Rattle.seq_theory.specs.Bound.{bound, step_sum}

-- a value at a group that is made from the values at smaller groups, down so many levels
abbrev pub to_depth : {A : Type 0} → A → ((List ℕ → A) → List ℕ → A) → ℕ → List ℕ → A
to_depth other step zero group = other
to_depth other step (suc n) group = step (to_depth other step n) group

-- the same, down to the end: parts are smaller than their group, so one level more than it has classes is enough
unfoldable pub by_parts : {A : Type 0} → A → ((List ℕ → A) → List ℕ → A) → List ℕ → A
by_parts other step group = to_depth other step (suc (length group)) group

-- the first of the list at which f is least
abbrev pub first_least : (ℕ → ℕ) → List ℕ → ℕ
first_least f [] = 0
first_least f (x ∷ []) = x
first_least f (x ∷ y ∷ rest) = cond (nat_le (f x) (f (first_least f (y ∷ rest)))) x (first_least f (y ∷ rest))

-- the test of least cost * weight + bound of the passing part + bound of the failing part, the lowest of these
unfoldable pub greedy_test : Problem → List ℕ → ℕ
greedy_test p group = first_least (step_sum p (bound p) group) (splitting p group)

-- a leaf for one goal; else the greedy test, and greedy in both parts
abbrev pub greedy_step : Problem → (List ℕ → Tree) → List ℕ → Tree
greedy_step p rest group = cond (is_end p group) leaf (ask (greedy_test p group) (rest (pass_part p (greedy_test p group) group)) (rest (fail_part p (greedy_test p group) group)))

abbrev pub greedy : Problem → List ℕ → Tree
greedy p = by_parts leaf (greedy_step p)

abbrev pub greedy_cost : Problem → List ℕ → ℕ
greedy_cost p group = tree_cost p (greedy p group) group

-- the larger of the bound and the least sum of one test and the bounds of its parts; 0 for one goal
unfoldable pub one_step : Problem → List ℕ → ℕ
one_step p group = cond (is_end p group) 0 (max (bound p group) (least_of (map (step_sum p (bound p) group) (splitting p group))))
