-- A strategy that only asks tests which split what reaches them has a class at each leaf, so it is small.
use Rattle.std.proofs.Common.{ℕ, ◌*◌, ◌<◌, ◌≤◌, List, length, arith, ap}
use Rattle.std.specs.Prelude.{max}
use Rattle.std.proofs.lemmas.Bool.{cases_Bool}
use Rattle.std.proofs.Common.{inl, inr}
use Rattle.std.proofs.Math.Nat.{mul-le-mul_left, mul-le-mul_right}
use Rattle.seq_theory.specs.Problem.{Problem, pass_part, fail_part, weight_of}
use Rattle.seq_theory.specs.Tree.{Tree, leaf, ask, asked, costs_of, AsksOnly, tree_cost}
use Rattle.seq_theory.proofs.CostLaws.{tree_cost-leaf, tree_cost-ask}
use Rattle.seq_theory.proofs.GroupLaws.{pass_part_smaller, fail_part_smaller, weight_of-parts, length-two_filters}
use Rattle.seq_theory.specs.Shapes.{height, leaf_count, leaf_of, AsksSplitting}

pub some-leaf : (tree : Tree) → 1 ≤ leaf_count tree
some-leaf leaf = omega arith
some-leaf (ask t pass fail) = omega (arith, some-leaf pass, some-leaf fail)

pub height-lt-leaves : (tree : Tree) → height tree < leaf_count tree
height-lt-leaves leaf = omega arith
height-lt-leaves (ask t pass fail) = omega (arith, height-lt-leaves pass, height-lt-leaves fail)

module _ (p : Problem) where
  pub leaves-le : (tree : Tree) (group : List ℕ) → AsksSplitting p tree group → 1 ≤ length group → leaf_count tree ≤ length group
  leaves-le leaf group s some = some
  leaves-le (ask t pass fail) group s some =
      let lt1 = pass_part_smaller p t group s.0 in
      let lt2 = fail_part_smaller p t group s.0 in
      let l = length-two_filters (p.passes t) group in
      let f1 = leaves-le pass (pass_part p t group) s.1 (omega arith) in
      let f2 = leaves-le fail (fail_part p t group) s.2 (omega arith) in
      omega arith

  -- a strategy costs at most the weight times its height times the greatest cost
  pub tree_cost-le : (most : ℕ) (tree : Tree) (group : List ℕ) → ((t : ℕ) → t < p.tests → p.cost t ≤ most) → AsksOnly p.tests tree → tree_cost p tree group ≤ weight_of p group * (height tree * most)
  tree_cost-le most leaf group costs there = omega (arith, tree_cost-leaf p group)
  tree_cost-le most (ask t pass fail) group costs there =
      let e = tree_cost-ask p t pass fail group in
      let f1 = tree_cost-le most pass (pass_part p t group) costs there.1 in
      let f2 = tree_cost-le most fail (fail_part p t group) costs there.2 in
      let w = weight_of-parts p t group in
      let high = max (height pass) (height fail) in
      let h1 = mul-le-mul_left (weight_of p (pass_part p t group)) (mul-le-mul_right most (let le : height pass ≤ high = omega arith in le)) in
      let h2 = mul-le-mul_left (weight_of p (fail_part p t group)) (mul-le-mul_right most (let le : height fail ≤ high = omega arith in le)) in
      let c = mul-le-mul_left (weight_of p group) (costs t there.0) in
      let s = ap (λ n. n * (high * most)) w in
      omega arith

  -- what one class meets on its way
  pub asked-le : (tree : Tree) (c : ℕ) → length (asked p tree c) ≤ height tree
  asked-le leaf c = omega arith
  asked-le (ask t pass fail) c = elim (cases_Bool (p.passes t c)) [
    | inl y ↦ rw y (omega (arith, asked-le pass c))
    | inr n ↦ rw n (omega (arith, asked-le fail c))
  ]

  pub leaf_of-lt : (tree : Tree) (c : ℕ) → leaf_of p tree c < leaf_count tree
  leaf_of-lt leaf c = omega arith
  leaf_of-lt (ask t pass fail) c = elim (cases_Bool (p.passes t c)) [
    | inl y ↦ rw y (omega (arith, leaf_of-lt pass c, some-leaf fail))
    | inr n ↦ rw n (omega (arith, leaf_of-lt fail c))
  ]

  pub costs-le : (most : ℕ) (tree : Tree) (c : ℕ) → ((t : ℕ) → t < p.tests → p.cost t ≤ most) → AsksOnly p.tests tree → costs_of p (asked p tree c) ≤ height tree * most
  costs-le most leaf c costs there = omega arith
  costs-le most (ask t pass fail) c costs there =
      let first = costs t there.0 in
      let high = max (height pass) (height fail) in
      elim (cases_Bool (p.passes t c)) [
        | inl y ↦ rw y (let f = costs-le most pass c costs there.1 in let m = mul-le-mul_right most (let le : height pass ≤ high = omega arith in le) in omega arith)
        | inr n ↦ rw n (let f = costs-le most fail c costs there.2 in let m = mul-le-mul_right most (let le : height fail ≤ high = omega arith in le) in omega arith)
      ]
