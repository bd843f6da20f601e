-- The numbers of a walk fit their words: a path asks at most 512 tests, and leaves are counted by a word of 32 bits.
use Rattle.std.proofs.Common.{◌≡◌, ℕ, ◌+◌, ◌*◌, ◌^◌, ◌<◌, ◌≤◌, length, arith, subst}
use Rattle.std.proofs.Math.Nat.{mul-le-mul_right}
use Rattle.seq_theory.specs.Problem.{Problem}
use Rattle.seq_theory.specs.Tree.{Tree, ask, asked, costs_of, AsksOnly}
use Rattle.seq_inst.specs.Shapes.{height, leaf_count, leaf_of}
use Rattle.seq_inst.proofs.ShapeLaws.{some-leaf, asked-le, leaf_of-lt, costs-le}

-- of a strategy that asks a first test: what may be passed over, and what one of its sides may add
pub record WalkFits (p : Problem) (t : ℕ) (pass fail : Tree) (c : ℕ) : Type 0 where
  pub there : t < p.tests
  pub over_fits : leaf_count pass < 2 ^ 32
  pub leaf_fits : leaf_count pass + leaf_of p fail c < 2 ^ 32
  pub pass_tests : length (asked p pass c) < 512
  pub fail_tests : length (asked p fail c) < 512
  pub first_cost : p.cost t ≤ 1000000
  pub pass_cost : costs_of p (asked p pass c) ≤ 512 * 1000000
  pub fail_cost : costs_of p (asked p fail c) ≤ 512 * 1000000

pub walk_fits : (p : Problem) (t : ℕ) (pass fail tree : Tree) (c : ℕ) → tree ≡ ask t pass fail → AsksOnly p.tests tree → height tree ≤ 512 → leaf_count tree ≤ 2 ^ 32 → ((t : ℕ) → t < p.tests → p.cost t ≤ 1000000) → WalkFits p t pass fail c
walk_fits p t pass fail tree c is there short few costs =
    let a : AsksOnly p.tests (ask t pass fail) = subst (AsksOnly p.tests) is there in
    let h : height (ask t pass fail) ≤ 512 = subst (λ x. height x ≤ 512) is short in
    let l : leaf_count (ask t pass fail) ≤ 2 ^ 32 = subst (λ x. leaf_count x ≤ 2 ^ 32) is few in
    let hp : height pass ≤ 511 = omega arith in
    let hf : height fail ≤ 511 = omega arith in
    let some = some-leaf fail in
    let lt = leaf_of-lt p fail c in
    let np = asked-le p pass c in
    let nf = asked-le p fail c in
    let cp = costs-le p 1000000 pass c costs a.1 in
    let cf = costs-le p 1000000 fail c costs a.2 in
    let mp = mul-le-mul_right 1000000 hp in
    let mf = mul-le-mul_right 1000000 hf in
    record {
      there = a.0;
      over_fits = omega arith;
      leaf_fits = omega arith;
      pass_tests = omega arith;
      fail_tests = omega arith;
      first_cost = costs t a.0;
      pass_cost = omega arith;
      fail_cost = omega arith;
    }
