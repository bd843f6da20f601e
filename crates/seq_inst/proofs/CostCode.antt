-- What a strategy that asks a first test owes where its cost is summed: that its parts may be summed, that the sum fits
-- a word, and that it is the cost.
use Rattle.std.proofs.Common.{◌≡◌, ℕ, ◌+◌, ◌*◌, ◌^◌, ◌<◌, ◌≤◌, List, arith, ap, ◌∙◌, subst}
use Rattle.std.proofs.Math.Nat.{mul-le-mul_left, mul-le-mul_right}
use Rattle.seq_theory.specs.Problem.{Problem, IsIn, IsWithin, fails, pass_part, fail_part, weight_of}
use Rattle.seq_theory.specs.Tree.{Tree, ask, AsksOnly, tree_cost}
use Rattle.seq_theory.proofs.CostLaws.{tree_cost-ask}
use Rattle.seq_theory.proofs.GroupLaws.{filter-IsIn}
use Rattle.seq_inst.specs.Shapes.{height}
use Rattle.seq_inst.proofs.ShapeLaws.{tree_cost-le}

module _ (p : Problem) where
  -- the strategies of both parts may be asked, over parts that are within the classes
  pub record MayGoOn (t : ℕ) (pass fail tree : Tree) (pass_group fail_group : List ℕ) : Type 0 where
    pub there : t < p.tests
    pub pass_there : AsksOnly p.tests pass
    pub fail_there : AsksOnly p.tests fail
    pub pass_short : height pass ≤ 512
    pub fail_short : height fail ≤ 512
    pub pass_within : IsWithin p pass_group
    pub fail_within : IsWithin p fail_group
    pub pass_lower : height pass < height tree
    pub fail_lower : height fail < height tree

  pub may_go_on : (t : ℕ) (pass fail tree : Tree) (group pass_group fail_group : List ℕ) → tree ≡ ask t pass fail → AsksOnly p.tests tree → height tree ≤ 512 → IsWithin p group → pass_group ≡ pass_part p t group → fail_group ≡ fail_part p t group → MayGoOn t pass fail tree pass_group fail_group
  may_go_on t pass fail tree group pg fg is there short within pe fe =
      let a : AsksOnly p.tests (ask t pass fail) = subst (AsksOnly p.tests) is there in
      let e = ap height is in
      let h : height (ask t pass fail) ≤ 512 = subst (λ x. height x ≤ 512) is short in
      record {
        there = a.0;
        pass_there = a.1;
        fail_there = a.2;
        pass_short = omega arith;
        fail_short = omega arith;
        pass_lower = omega arith;
        fail_lower = omega arith;
        pass_within = λ c i. within c (filter-IsIn (p.passes t) c group (subst (IsIn c) pe i));
        fail_within = λ c i. within c (filter-IsIn (fails p t) c group (subst (IsIn c) fe i));
      }

  -- the sum is the cost, and fits
  pub record IsSum (tree : Tree) (group : List ℕ) (first rest : ℕ) : Type 0 where
    pub is : first + rest ≡ tree_cost p tree group
    pub first_fits : first < 2 ^ 62
    pub fits : first + rest < 2 ^ 62

  pub ask_sum : (t : ℕ) (pass fail tree : Tree) (group pass_group fail_group : List ℕ) (cost weight a b : ℕ) → tree ≡ ask t pass fail → AsksOnly p.tests tree → height tree ≤ 512 → ((t : ℕ) → t < p.tests → p.cost t ≤ 1000000) → weight_of p group ≤ 4097000000 → pass_group ≡ pass_part p t group → fail_group ≡ fail_part p t group → cost ≡ p.cost t → weight ≡ weight_of p group → a ≡ tree_cost p pass pass_group → b ≡ tree_cost p fail fail_group → IsSum tree group (cost * weight) (a + b)
  ask_sum t pass fail tree group pg fg cost weight a b is there short costs light pe fe ce we ae be =
      let product : cost * weight ≡ p.cost t * weight_of p group = ap (λ x. x * weight) ce ∙ ap (λ x. p.cost t * x) we in
      let e1 = ae ∙ ap (tree_cost p pass) pe in
      let e2 = be ∙ ap (tree_cost p fail) fe in
      let total = tree_cost-ask p t pass fail group in
      let same = ap (λ x. tree_cost p x group) is in
      let most = tree_cost-le p 1000000 tree group costs there in
      let m1 = mul-le-mul_left (weight_of p group) (mul-le-mul_right 1000000 short) in
      let m2 = mul-le-mul_right (512 * 1000000) light in
      let sum_is : cost * weight + (a + b) ≡ tree_cost p tree group = omega arith in
      record { is = sum_is; first_fits = omega arith; fits = omega arith }
