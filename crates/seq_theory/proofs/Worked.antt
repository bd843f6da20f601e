-- The definitions on worked problems.
use Rattle.std.proofs.Common.{◌≡◌, ℕ, List, [], ◌∷◌, refl}
use Rattle.std.specs.Prelude.{Some}
use Rattle.seq_theory.specs.Problem.{all_classes}
use Rattle.seq_theory.specs.Tree.{leaf, ask}
use Rattle.seq_theory.specs.Huffman.{huff}
use Rattle.seq_theory.specs.Bound.{goal_weights, bound}
use Rattle.seq_theory.specs.Greedy.{by_parts, greedy_test, greedy, greedy_cost, one_step}
use Rattle.seq_theory.specs.Graph.{low, val, value_test, strat}
use Rattle.seq_theory.specs.Examples.{two_faults, chain, star, units}

two_faults_huff : huff (goal_weights two_faults (all_classes two_faults)) ≡ 14
unfolding huff
two_faults_huff = refl

two_faults_bound : bound two_faults (all_classes two_faults) ≡ 18
unfolding huff bound
two_faults_bound = refl

two_faults_greedy : greedy_cost two_faults (all_classes two_faults) ≡ 27
unfolding huff bound by_parts greedy_test
two_faults_greedy = refl

two_faults_greedy_tree : greedy two_faults (all_classes two_faults) ≡ ask 0 (ask 1 leaf leaf) leaf
unfolding huff bound by_parts greedy_test
two_faults_greedy_tree = refl

-- with the group of all classes alone
two_faults_low : low two_faults (all_classes two_faults ∷ []) (all_classes two_faults) ≡ 27
unfolding huff bound by_parts
two_faults_low = refl

receiver_huff : huff (goal_weights (chain 10 4 2) (0 ∷ 1 ∷ 2 ∷ 3 ∷ [])) ≡ 42
unfolding huff
receiver_huff = refl

receiver_bound : bound (chain 10 4 2) (0 ∷ 1 ∷ 2 ∷ 3 ∷ []) ≡ 84
unfolding huff bound
receiver_bound = refl

receiver_greedy : greedy (chain 10 4 2) (0 ∷ 1 ∷ 2 ∷ 3 ∷ []) ≡ ask 2 leaf (ask 0 (ask 1 leaf leaf) leaf)
unfolding huff bound by_parts greedy_test
receiver_greedy = refl

receiver_greedy_cost : greedy_cost (chain 10 4 2) (0 ∷ 1 ∷ 2 ∷ 3 ∷ []) ≡ 84
unfolding huff bound by_parts greedy_test
receiver_greedy_cost = refl

chain_value : val (chain 1 1 1) ((0 ∷ 1 ∷ 2 ∷ 3 ∷ []) ∷ []) (0 ∷ 1 ∷ 2 ∷ 3 ∷ []) ≡ Some 8
unfolding huff bound by_parts greedy_test
chain_value = refl

chain_strategy : strat (chain 1 1 1) ((0 ∷ 1 ∷ 2 ∷ 3 ∷ []) ∷ []) (0 ∷ 1 ∷ 2 ∷ 3 ∷ []) ≡ ask 1 (ask 2 leaf leaf) (ask 0 leaf leaf)
unfolding huff bound by_parts greedy_test value_test
chain_strategy = refl

star_bound : bound star (all_classes star) ≡ 12
unfolding huff bound
star_bound = refl

star_one_step : one_step star (all_classes star) ≡ 13
unfolding huff bound one_step
star_one_step = refl

star_greedy : greedy_cost star (all_classes star) ≡ 14
unfolding huff bound by_parts greedy_test
star_greedy = refl

abbrev four : List (List ℕ)
four = (0 ∷ 1 ∷ 2 ∷ 4 ∷ []) ∷ (0 ∷ 1 ∷ 3 ∷ 4 ∷ []) ∷ (0 ∷ 2 ∷ 3 ∷ 4 ∷ []) ∷ (0 ∷ 1 ∷ 2 ∷ 3 ∷ 4 ∷ []) ∷ []

-- with four groups there is a gap, and with a fifth there is none
star_low_four : low star four (all_classes star) ≡ 13
unfolding huff bound by_parts
star_low_four = refl

star_low_five : low star ((0 ∷ 1 ∷ 2 ∷ 3 ∷ []) ∷ four) (all_classes star) ≡ 14
unfolding huff bound by_parts
star_low_five = refl

star_value_four : val star four (all_classes star) ≡ Some 14
unfolding huff bound by_parts greedy_test
star_value_four = refl

-- two classes of one goal
units_huff : huff (goal_weights units (all_classes units)) ≡ 6
unfolding huff
units_huff = refl

units_bound : bound units (all_classes units) ≡ 6
unfolding huff bound
units_bound = refl

units_greedy : greedy units (all_classes units) ≡ ask 2 (ask 3 leaf leaf) leaf
unfolding huff bound by_parts greedy_test
units_greedy = refl

units_low : low units (all_classes units ∷ []) (all_classes units) ≡ 7
unfolding huff bound by_parts
units_low = refl
