-- Bounds over a set of groups that a search has entered, and the strategy that it has found.
use Rattle.std.specs.Prelude.{◌≡◌, ℕ, ◌+◌, ◌*◌, ◌<◌, ◌≤◌, Bool, true, false, cond, nat_eq, ◌&&◌, max, List, [], ◌∷◌, map, Option, Some, None}
use Rattle.std.specs.List.{list_any, filter_map}
use Rattle.seq_theory.specs.Problem.{Problem, all_classes, pass_part, fail_part, splits, splitting, weight_of, is_end, least_of}
use Rattle.seq_theory.specs.Tree.{Tree, leaf, ask, IsLeast}
use Rattle.seq_theory.specs.Bound.{bound, step_sum}
use Rattle.seq_theory.specs.Greedy.{by_parts, greedy, greedy_cost}

-- whether two groups have the same classes
abbrev pub same_group : List ℕ → List ℕ → Bool
same_group [] [] = true
same_group [] (d ∷ ds) = false
same_group (c ∷ cs) [] = false
same_group (c ∷ cs) (d ∷ ds) = nat_eq c d && same_group cs ds

-- whether the group is one of the entered ones
abbrev pub is_entered : List (List ℕ) → List ℕ → Bool
is_entered entered group = list_any (same_group group) entered

-- low: 0 for one goal; the bound of a group that is not entered; else the larger of the bound and the least sum of one
-- test and the lows of its parts
abbrev pub low_step : Problem → List (List ℕ) → (List ℕ → ℕ) → List ℕ → ℕ
low_step p entered l group =
    cond (is_end p group) 0 (cond (is_entered entered group) (max (bound p group) (least_of (map (step_sum p l group) (splitting p group)))) (bound p group))

abbrev pub low : Problem → List (List ℕ) → List ℕ → ℕ
low p entered = by_parts 0 (low_step p entered)

-- the sum of one test and what its two parts cost, where both have a value
abbrev pub sum_with : ℕ → Option ℕ → Option ℕ → Option ℕ
sum_with n None b = None
sum_with n (Some x) None = None
sum_with n (Some x) (Some y) = Some (n + (x + y))

abbrev pub step_value : Problem → (List ℕ → Option ℕ) → List ℕ → ℕ → Option ℕ
step_value p v group t = sum_with (p.cost t * weight_of p group) (v (pass_part p t group)) (v (fail_part p t group))

-- val: 0 for one goal; no value for a group that is not entered; else the least of greedy's cost and the sums of one
-- test and the values of its parts, where both have one
abbrev pub val_step : Problem → List (List ℕ) → (List ℕ → Option ℕ) → List ℕ → Option ℕ
val_step p entered v group =
    cond (is_end p group) (Some 0) (cond (is_entered entered group) (Some (least_of (greedy_cost p group ∷ filter_map (step_value p v group) (splitting p group)))) None)

abbrev pub val : Problem → List (List ℕ) → List ℕ → Option ℕ
val p entered = by_parts None (val_step p entered)

-- whether this is the value
abbrev pub is_value : Option ℕ → Option ℕ → Bool
is_value None b = false
is_value (Some x) None = false
is_value (Some x) (Some y) = nat_eq x y

-- the first of the list that passes, or 0
abbrev pub first_where : (ℕ → Bool) → List ℕ → ℕ
first_where f [] = 0
first_where f (x ∷ xs) = cond (f x) x (first_where f xs)

-- the lowest test that reaches the value of the group
unfoldable pub value_test : Problem → List (List ℕ) → List ℕ → ℕ
value_test p entered group = first_where (λ t. is_value (step_value p (val p entered) group t) (val p entered group)) (splitting p group)

-- the strategy of that value: a leaf for one goal; greedy's where greedy costs no more; else the lowest test that
-- reaches the value, and on in both parts
abbrev pub strat_step : Problem → List (List ℕ) → (List ℕ → Tree) → List ℕ → Tree
strat_step p entered rest group =
    cond (is_end p group) leaf (cond (is_value (Some (greedy_cost p group)) (val p entered group)) (greedy p group)
    (ask (value_test p entered group) (rest (pass_part p (value_test p entered group) group)) (rest (fail_part p (value_test p entered group) group))))

abbrev pub strat : Problem → List (List ℕ) → List ℕ → Tree
strat p entered = by_parts leaf (strat_step p entered)

-- a part of the group by a test and its answer
abbrev pub part : Problem → ℕ → Bool → List ℕ → List ℕ
part p t passed group = cond passed (pass_part p t group) (fail_part p t group)

-- groups that a search may enter: the group of all classes, and each part of a wanted group of two or more goals by a
-- test that splits it, where the test and the bounds of its parts are together at most the group's least cost
pub data IsWanted (p : Problem) : List ℕ → Type 0 where
  root : IsWanted p (all_classes p)
  part_of : (group : List ℕ) (t least : ℕ) (passed : Bool) → IsWanted p group → is_end p group ≡ false → t < p.tests → splits p group t ≡ true → IsLeast p group least → step_sum p (bound p) group t ≤ least → IsWanted p (part p t passed group)

-- a wanted group of two or more goals
pub record IsReal (p : Problem) (group : List ℕ) : Type 0 where
  pub wanted : IsWanted p group
  pub goals : is_end p group ≡ false
