-- The lists of an instance over the classes state the problem of the ambiguity groups, and a search can take them.
--
-- That classes differ in a test, weigh something, and weigh together what the states weigh are laws of the theory. What is
-- left are the limits of the matrix: 4,097 states of at most 1,000,000 weigh at most 4,097,000,000.
use Rattle.std.proofs.Common.{◌≡◌, ℕ, zero, suc, ◌+◌, ◌-◌, ◌*◌, ◌<◌, ◌≤◌, List, length, map, get_or, refl, sym, ap, ◌∙◌, arith, inl, inr}
use Rattle.std.specs.Prelude.{nat_eq, nat_lt}
use Rattle.std.proofs.lemmas.Bool.{cases_Bool, ltb-true, ltb-false, eqb-false}
use Rattle.std.proofs.lemmas.List.{length-map, get_or-map}
use Rattle.seq_theory.specs.Problem.{Problem, count_up, weight_of}
use Rattle.seq_theory.specs.States.{System, firsts, state_problem, IsOfClasses}
use Rattle.seq_theory.specs.PassageLaws.{ClassesHold}
use Rattle.seq_theory.proofs.StatesLaws.{class_of-there}
use Rattle.seq_inst.specs.declared.group.Group.{Group}
use Rattle.seq_inst.specs.Valid.{IsValid as IsValidInstance, problem_from}
use Rattle.sig_lines.specs.declared.labels.TestLabel.{TestLabel}
use Rattle.sig_matrix.specs.declared.matrix.Matrix.{Matrix}
use Rattle.sig_matrix.specs.Detection.{before_faults, state_count, state_weight, system_of, no_label}
use Rattle.sig_matrix.specs.Valid.{IsValid}
use Rattle.sig_classes.specs.declared.classes.Classes.{Classes}
use Rattle.sig_classes.specs.Classes.{AreClassesOf}
use Rattle.sig_classes.specs.Passing.{ArePassing}
use Rattle.sig_classes.proofs.ClassesLaws.{weight-at}
use Rattle.sig_classes.proofs.GroupingLaws.{light}

weight_of-le : (p : Problem) (most from n : ℕ) → ((s : ℕ) → s < from + n → p.weight s ≤ most) → weight_of p (count_up from n) ≤ most * n
weight_of-le p most from zero each = omega arith
weight_of-le p most from (suc n) each =
    let first = each from (omega arith) in
    let rest = weight_of-le p most (suc from) n (λ s lt. each s (omega arith)) in
    omega arith

module _ (matrix : Matrix) (valid : IsValid matrix) (classes : Classes) (are : AreClassesOf (system_of matrix) classes) (ws cs : List ℕ) (ps : List Group) (weights : ws ≡ classes.weights.items) (costs : cs ≡ map (λ (t : TestLabel). t.cost) matrix.tests) (passing : ArePassing (system_of matrix) ps) where
  abbrev sys : System
  sys = system_of matrix

  many : length ws ≡ length (firsts sys)
  many = ap length weights ∙ are.as_many

  as_many_costs : length cs ≡ length matrix.tests
  as_many_costs = ap length costs ∙ length-map matrix.tests (λ (t : TestLabel). t.cost)

  cost-at : (t : ℕ) → t < length matrix.tests → get_or cs t 0 ≡ (get_or matrix.tests t no_label).cost
  cost-at t lt = ap (λ l. get_or l t 0) costs ∙ get_or-map (λ (x : TestLabel). x.cost) matrix.tests t no_label 0 lt

  pub of_classes : IsOfClasses sys (problem_from ws cs ps)
  of_classes = record {
    classes = many;
    tests = as_many_costs;
    weight = λ c lt. (let n = many in ap (λ l. get_or l c 0) weights ∙ weight-at sys classes are c (omega arith));
    cost = λ t lt. (let n = as_many_costs in cost-at t (omega arith));
    passes = passing.passing;
    goal = λ c lt. refl;
  }

  heavy : (s : ℕ) → s < state_count matrix → 1 ≤ state_weight matrix s
  heavy s lt = elim (cases_Bool (nat_lt s (before_faults matrix))) [
    | inl healthy ↦ rw healthy (good (ltb-true s (before_faults matrix) healthy))
    | inr faulty ↦ (let after = ltb-false s (before_faults matrix) faulty in rw faulty (valid.weights (s - before_faults matrix) (omega arith)).0)
  ]
    where
      good : s < before_faults matrix → 1 ≤ matrix.good
      good below = elim (cases_Bool (nat_eq matrix.good 0)) [
        | inl none ↦ absurd (let h = rw none at below in let g : ⊥ = omega arith in g)
        | inr some ↦ (let ne = eqb-false matrix.good 0 some in omega arith)
      ]

  pub is_valid : ClassesHold → length (firsts sys) ≤ 512 → IsValidInstance ws cs ps
  is_valid law small =
      let stands = law sys (problem_from ws cs ps) of_classes in
      let weighed = stands.weighed heavy in
      let n = many in
      let tests = as_many_costs in
      let limit = valid.tests in
      record {
        some = (let some_state = valid.some in let there = class_of-there sys 0 (omega arith) in omega arith);
        few = omega arith;
        positive = weighed.positive;
        total =
            (let total = stands.total in
            let states = valid.many in
            let most = weight_of-le (state_problem sys) 1000000 0 (state_count matrix) (λ s lt. light matrix valid s (omega arith)) in
            omega arith);
        tests = omega arith;
        costs = λ t lt. (let at = cost-at t (omega arith) in let within = valid.costs t (omega arith) in (omega arith, omega arith));
        as_many = passing.as_many ∙ sym tests;
        within = λ t c lt l y. (let long = passing.as_many in let h = passing.within t c (omega arith) l y in omega arith);
        told = stands.told;
      }
