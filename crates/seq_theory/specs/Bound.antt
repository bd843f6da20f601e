-- The lower bound of a group from Huffman's cost, and the greedy strategy.
use Rattle.std.specs.Prelude.{ℕ, ◌+◌, ◌*◌, ◌/◌, ◌%◌, Bool, cond, nat_eq, List, [], ◌∷◌, filter, map}
use Rattle.std.specs.List.{list_any}
use Rattle.std.proofs.Common.{zero, suc}
use Rattle.seq_theory.specs.Problem.{Problem, count_up, pass_part, fail_part, splitting, weight_of, is_end}
use Rattle.seq_theory.specs.Huffman.{upward, huff}

-- whether the group has a class of the goal
abbrev pub has_goal : Problem → List ℕ → ℕ → Bool
has_goal p group g = list_any (λ c. nat_eq (p.goal c) g) group

-- the goal's weight in the group
abbrev pub goal_weight : Problem → List ℕ → ℕ → ℕ
goal_weight p group g = weight_of p (filter (λ c. nat_eq (p.goal c) g) group)

-- the weights that the goals of the group have in it, by the goals' lowest classes upwards
abbrev pub goal_weights : Problem → List ℕ → List ℕ
goal_weights p group = map (goal_weight p group) (filter (has_goal p group) (count_up 0 p.classes))

-- the sum of the first so many of a list
abbrev pub sum_first : ℕ → List ℕ → ℕ
sum_first zero xs = 0
sum_first (suc q) [] = 0
sum_first (suc q) (x ∷ xs) = x + sum_first q xs

-- the next one after so many of a list, or 0 where there is none
abbrev pub next_after : ℕ → List ℕ → ℕ
next_after q [] = 0
next_after zero (x ∷ xs) = x
next_after (suc q) (x ∷ xs) = next_after q xs

-- weight * (the sum of the first q costs) + r * (the next one), where huffman = q * weight + r
abbrev pub bound_from : (weight huffman : ℕ) → (costs : List ℕ) → ℕ
bound_from weight huffman costs = weight * sum_first (huffman / weight) costs + (huffman % weight) * next_after (huffman / weight) costs

-- the costs of the tests that split the group, upwards
abbrev pub splitting_costs : Problem → List ℕ → List ℕ
splitting_costs p group = upward (map p.cost (splitting p group))

-- the lower bound: 0 for one goal
unfoldable pub bound : Problem → List ℕ → ℕ
bound p group = cond (is_end p group) 0 (bound_from (weight_of p group) (huff (goal_weights p group)) (splitting_costs p group))

-- what a first test costs over the group, where l tells what each part costs
abbrev pub step_sum : Problem → (List ℕ → ℕ) → List ℕ → ℕ → ℕ
step_sum p l group t = p.cost t * weight_of p group + (l (pass_part p t group) + l (fail_part p t group))
