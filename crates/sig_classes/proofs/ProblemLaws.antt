-- The lists of an instance over the classes state the one problem of the ambiguity groups, also past its groups and tests.
use mathlib.Core.Path.{fun_ext}
use Rattle.std.proofs.Common.{◌≡◌, ℕ, zero, suc, ◌+◌, ◌/◌, ◌%◌, ◌<◌, ◌≤◌, List, length, map, get_or, refl, sym, ap, ◌∙◌, arith, inl, inr, subst}
use Rattle.std.specs.Prelude.{Bool, true, false, not, ◌&&◌, nat_eq, nat_lt, filter}
use Rattle.std.specs.List.{list_any}
use Rattle.std.specs.Int.{bit_at}
use Rattle.std.proofs.lemmas.Bool.{cases_lt, true≢false, false≢true, eqb-true, eq-eqb, ne_eqb, lt-ltb, le-ltb, or_cases, and_parts, and_from}
use Rattle.std.proofs.lemmas.List.{get_or_past, get_or-map, length-map}
use Rattle.std.proofs.lemmas.List.Folds.{list_any_at}
use Rattle.std.proofs.lemmas.Nat.Bits.{bit_at-zero}
use Rattle.seq_theory.specs.Problem.{Problem, count_up, weight_of}
use Rattle.seq_theory.specs.States.{System, class_of, firsts, state_problem, problem_of_classes}
use Rattle.seq_theory.proofs.BelowLaws.{length-count_up}
use Rattle.seq_theory.proofs.ByNumberLaws.{get_or-count_up}
use Rattle.seq_theory.proofs.StatesLaws.{class_of-there, class_of-found}
use Rattle.seq_inst.specs.declared.group.Group.{Group}
use Rattle.seq_inst.specs.Members.{has_class}
use Rattle.seq_inst.specs.Valid.{no_class, problem_from}
use Rattle.sig_lines.specs.declared.labels.TestLabel.{TestLabel}
use Rattle.sig_matrix.specs.declared.matrix.Matrix.{Matrix}
use Rattle.sig_matrix.specs.Detection.{system_of, no_label}
use Rattle.sig_classes.specs.declared.classes.Classes.{Classes}
use Rattle.sig_classes.specs.Classes.{AreClassesOf}
use Rattle.sig_classes.specs.Passing.{ArePassing}
use Rattle.sig_classes.proofs.ClassesLaws.{weight-at}

-- where no number passes, none weighs
none-weigh : (p : Problem) (f : ℕ → Bool) (from n : ℕ) → ((s : ℕ) → s < from + n → f s ≡ false) → weight_of p (filter f (count_up from n)) ≡ 0
none-weigh p f from zero h = refl
none-weigh p f from (suc n) h = rw (h from (omega arith)) (none-weigh p f (suc from) n (λ s lt. h s (omega arith)))

any-found : (f : ℕ → Bool) (from n : ℕ) → list_any f (count_up from n) ≡ true → (s : ℕ) × (s < from + n) × (f s ≡ true)
any-found f from zero h = absurd (false≢true h)
any-found f from (suc n) h = elim (or_cases (f from) (list_any f (count_up (suc from) n)) h) [
  | inl y ↦ (from, omega arith, y)
  | inr rest ↦ (let w = any-found f (suc from) n rest in (w.0, let l = w.1 in omega arith, w.2))
]

any-at : (f : ℕ → Bool) (n s : ℕ) → s < n → f s ≡ true → list_any f (count_up 0 n) ≡ true
any-at f n s lt y =
    let long = length-count_up 0 n in
    let z : 0 + s ≡ s = omega arith in
    list_any_at f (count_up 0 n) s 0 (omega arith) (ap f (get_or-count_up 0 n s 0 lt ∙ z) ∙ y)

equal : (x y : Bool) → (x ≡ true → y ≡ true) → (y ≡ true → x ≡ true) → x ≡ y
equal true y h k = sym (h refl)
equal false true h k = k refl
equal false false h k = refl

-- a group of eight words has no class from 512 on, and a group of none has no class
none-past : (g : Group) (c : ℕ) → length g.0 ≤ c / 64 → has_class g c ≡ false
none-past g c past = ap (λ w. nat_eq w 1) (ap (λ w. bit_at w (c % 64)) (get_or_past g.0 (c / 64) 0 past) ∙ bit_at-zero (c % 64))

module _ (matrix : Matrix) (classes : Classes) (are : AreClassesOf (system_of matrix) classes) (ws cs : List ℕ) (ps : List Group) (weights : ws ≡ classes.weights.items) (costs : cs ≡ map (λ (t : TestLabel). t.cost) matrix.tests) (passing : ArePassing (system_of matrix) ps) where
  abbrev sys : System
  sys = system_of matrix

  weight-same : (c : ℕ) → get_or ws c 0 ≡ (problem_of_classes sys).weight c
  weight-same c =
      let n : length ws ≡ length (firsts sys) = ap length weights ∙ are.as_many in
      elim (cases_lt c (length (firsts sys))) [
        | inl lt ↦ ap (λ l. get_or l c 0) weights ∙ weight-at sys classes are c lt
        | inr ge ↦ get_or_past ws c 0 (omega arith) ∙ sym (none-weigh (state_problem sys) (λ s. nat_eq (class_of sys s) c) 0 sys.states (λ s lt.
            let there = class_of-there sys s (omega arith) in
            ne_eqb (class_of sys s) c (λ e. let no : ⊥ = omega arith in no)))
      ]

  cost-same : (t : ℕ) → get_or cs t 0 ≡ sys.cost t
  cost-same t =
      let long : length cs ≡ length matrix.tests = ap length costs ∙ length-map matrix.tests (λ (x : TestLabel). x.cost) in
      elim (cases_lt t (length matrix.tests)) [
        | inl lt ↦ ap (λ l. get_or l t 0) costs ∙ get_or-map (λ (x : TestLabel). x.cost) matrix.tests t no_label 0 lt
        | inr ge ↦ get_or_past cs t 0 (omega arith) ∙ sym (ap (λ (x : TestLabel). x.cost) (get_or_past matrix.tests t no_label ge))
      ]

  passes-some : (t c : ℕ) → t < sys.tests → has_class (get_or ps t no_class) c ≡ list_any (λ s. nat_eq (class_of sys s) c && not (sys.fails s t)) (count_up 0 sys.states)
  passes-some t c lt = equal (has_class (get_or ps t no_class) c) (list_any (λ s. nat_eq (class_of sys s) c && not (sys.fails s t)) (count_up 0 sys.states))
      (λ y.
      let found = class_of-found sys c (passing.within t c lt (within y) y) in
      let told = passing.passing t found.0 lt found.1 in
      any-at (λ s. nat_eq (class_of sys s) c && not (sys.fails s t)) sys.states found.0 found.1
      (and_from (nat_eq (class_of sys found.0) c) (not (sys.fails found.0 t)) (eq-eqb (class_of sys found.0) c found.2) (sym told ∙ ap (has_class (get_or ps t no_class)) found.2 ∙ y)))
      (λ y.
      let some = any-found (λ s. nat_eq (class_of sys s) c && not (sys.fails s t)) 0 sys.states y in
      let both = and_parts (nat_eq (class_of sys some.0) c) (not (sys.fails some.0 t)) some.2 in
      let there : some.0 < sys.states = (let l = some.1 in omega arith) in
      ap (has_class (get_or ps t no_class)) (sym (eqb-true (class_of sys some.0) c both.0)) ∙ passing.passing t some.0 lt there ∙ both.1)
    where
      within : has_class (get_or ps t no_class) c ≡ true → c < 512
      within y = elim (cases_lt c 512) [
        | inl below ↦ below
        | inr past ↦
            (let long = passing.as_many in
            let eight = passing.words t (omega arith) in
            absurd (true≢false (sym y ∙ none-past (get_or ps t no_class) c (omega arith))))
      ]

  passes-same : (t c : ℕ) → has_class (get_or ps t no_class) c ≡ (problem_of_classes sys).passes t c
  passes-same t c = elim (cases_lt t sys.tests) [
    | inl lt ↦ passes-some t c lt ∙ ap (λ b. b && list_any (λ s. nat_eq (class_of sys s) c && not (sys.fails s t)) (count_up 0 sys.states)) (sym (lt-ltb t sys.tests lt))
    | inr ge ↦
        (let long = passing.as_many in
        let zero_le : length (no_class.0) ≤ c / 64 = omega arith in
        ap (λ g. has_class g c) (get_or_past ps t no_class (omega arith)) ∙ none-past no_class c zero_le
        ∙ ap (λ b. b && list_any (λ s. nat_eq (class_of sys s) c && not (sys.fails s t)) (count_up 0 sys.states)) (sym (le-ltb t sys.tests ge)))
  ]

  made : ℕ → ℕ → (ℕ → ℕ) → (ℕ → ℕ) → (ℕ → ℕ → Bool) → Problem
  made n k w o q = record { classes = n; tests = k; weight = w; cost = o; passes = q; goal = λ c. c }

  -- the lists state the problem of the ambiguity groups
  pub is_problem : problem_from ws cs ps ≡ problem_of_classes sys
  unfolding made
  is_problem =
      let to = problem_of_classes sys in
      let from = problem_from ws cs ps in
      ap (λ n. made n from.tests from.weight from.cost from.passes) (ap length weights ∙ are.as_many)
      ∙ ap (λ k. made to.classes k from.weight from.cost from.passes) (ap length costs ∙ length-map matrix.tests (λ (x : TestLabel). x.cost))
      ∙ ap (λ w. made to.classes to.tests w from.cost from.passes) (fun_ext weight-same)
      ∙ ap (λ o. made to.classes to.tests to.weight o from.passes) (fun_ext cost-same)
      ∙ ap (λ q. made to.classes to.tests to.weight to.cost q) (fun_ext (λ t. fun_ext (λ c. passes-same t c)))
