-- Huffman's cost of a group's goals is at most its weight times the number of its splitting tests: in a strategy that is
-- right no class meets a splitting test twice, and Huffman's cost is at most what the classes meet.
use Rattle.std.proofs.Common.{◌≡◌, ℕ, ◌+◌, ◌*◌, ◌≤◌, List, [], ◌∷◌, length, ap, ◌∙◌, arith}
use Rattle.std.specs.Prelude.{true}
use Rattle.std.proofs.Math.Nat.{mul-le-mul_left}
use Rattle.seq_theory.specs.Problem.{Problem, IsWithin, IsWeighed, AreTold, count_up, splits, splitting, weight_of, is_end}
use Rattle.seq_theory.specs.Tree.{Tree}
use Rattle.seq_theory.specs.Huffman.{huff}
use Rattle.seq_theory.specs.Bound.{goal_weights}
use Rattle.seq_theory.specs.Greedy.{greedy}
use Rattle.seq_theory.proofs.HuffmanLaws.{huff-one}
use Rattle.seq_theory.proofs.GroupLaws.{IsIn-filter}
use Rattle.seq_theory.proofs.CostLaws.{Settles-from_right}
use Rattle.seq_theory.proofs.LeastLaws.{IsIn-count_up}
use Rattle.seq_theory.proofs.BoundLaws.{huff-split_weights, goal_weights-end}
use Rattle.seq_theory.proofs.PathLaws.{splits_met, Offers, way, met_sum, met_sum-is}
use Rattle.seq_theory.proofs.GreedyLaws.{greedy-solves}

module _ (p : Problem) where
  share : (w met most rest weight : ℕ) → met ≤ most → rest ≤ weight * most → w * met + rest ≤ (w + weight) * most
  share w met most rest weight le h = let f = mul-le-mul_left w le in omega arith

  met_sum-le : (tree : Tree) (group xs : List ℕ) (most : ℕ) → ((c : ℕ) → splits_met p tree group c ≤ most) → met_sum p tree group xs ≤ weight_of p xs * most
  met_sum-le tree group [] most h = omega arith
  met_sum-le tree group (c ∷ xs) most h = share (p.weight c) (splits_met p tree group c) most (met_sum p tree group xs) (weight_of p xs) (h c) (met_sum-le tree group xs most h)

  offers-all : (xs : List ℕ) → Offers p (splitting p xs) xs
  unfolding Offers
  offers-all xs t there e = IsIn-filter (splits p xs) t (count_up 0 p.tests) (IsIn-count_up t 0 p.tests (omega arith) (omega arith)) e

  pub huff-count : (xs : List ℕ) → IsWeighed p → AreTold p → IsWithin p xs → 1 ≤ length xs → huff (goal_weights p xs) ≤ weight_of p xs * length (splitting p xs)
  huff-count xs weighed told within some =
      let tree : Tree = greedy p xs in
      let s = greedy-solves p xs told within in
      let f1 = huff-split_weights p weighed tree xs some within (Settles-from_right p tree xs s.right) in
      let f2 = met_sum-is p tree xs in
      let f3 = met_sum-le tree xs xs (length (splitting p xs)) (λ c. (way p tree s.there (splitting p xs) xs c (offers-all xs)).few) in
      omega arith

  -- it is 0 for one goal
  pub huff-end : (xs : List ℕ) → IsWeighed p → IsWithin p xs → 1 ≤ length xs → is_end p xs ≡ true → huff (goal_weights p xs) ≡ 0
  huff-end [] weighed within some e = absurd (let bad : ⊥ = omega arith in bad)
  huff-end (c ∷ xs) weighed within some e = ap huff (goal_weights-end p c xs weighed within e) ∙ huff-one (weight_of p (c ∷ xs))
