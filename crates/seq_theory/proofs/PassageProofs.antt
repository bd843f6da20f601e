-- The laws that the functions of the crate state.
use Rattle.std.proofs.Common.{◌≡◌, ℕ, ◌<◌, ◌≤◌, List, [], ◌∷◌, map, refl, sym, ap, ◌∙◌, arith, inl, inr, subst}
use Rattle.std.specs.Prelude.{Bool, true, false, not, filter, nat_eq}
use Rattle.std.proofs.lemmas.Bool.{eq-eqb}
use Rattle.seq_theory.specs.Problem.{Problem, IsIn, count_up, weight_of, AreTold, IsWeighed}
use Rattle.seq_theory.specs.Tree.{AsksOnly}
use Rattle.seq_theory.proofs.LeastLaws.{IsIn-count_up, count_up-IsIn}
use Rattle.seq_theory.proofs.GroupLaws.{IsIn-filter}
use Rattle.seq_theory.specs.States.{System, row, class_of, state_problem, IsOfClasses}
use Rattle.seq_theory.specs.PassageLaws.{PassageHolds, GroupsHold, ClassesHold}
use Rattle.seq_theory.proofs.GatheredLaws.{cost-same, solves-classes, solves-states, least-classes, least-states, weight-same}
use Rattle.seq_theory.proofs.StatesLaws.{gathers, first_alike-same, first_alike-tells, class_of-same, class_of-tells, class_of-found}

pub passage_holds : PassageHolds
passage_holds sys p h =
    let q = gathers sys p h in
    record {
      right = λ tree. (solves-classes (state_problem sys) p (class_of sys) q tree, solves-states (state_problem sys) p (class_of sys) q tree);
      costs = λ tree only. cost-same (state_problem sys) p (class_of sys) q tree (subst (λ n. AsksOnly n tree) h.tests only);
      least = λ n. (least-classes (state_problem sys) p (class_of sys) q n, least-states (state_problem sys) p (class_of sys) q n);
    }

pub groups_hold : GroupsHold
groups_hold sys a b la lb = record {
  groups = (
    (λ e. first_alike-tells sys a b la lb (class_of-tells sys a b la lb e)),
    (λ e. class_of-same sys a b (first_alike-same sys a b e)),
  );
  goals = (
    (λ e. first_alike-tells sys a b la lb e),
    (λ e. first_alike-same sys a b e),
  );
}

-- equal answers to all tests are equal rows
rows-from_answers : (sys : System) (p : Problem) → IsOfClasses sys p → (x y : ℕ) → x < sys.states → y < sys.states → ((t : ℕ) → t < p.tests → p.passes t (class_of sys x) ≡ p.passes t (class_of sys y)) → row sys x ≡ row sys y
rows-from_answers sys p h x y lx ly agree = go (count_up 0 sys.tests) (λ t i. let f = count_up-IsIn t 0 sys.tests i in omega arith)
  where
    untwist : (a b : Bool) → not a ≡ not b → a ≡ b
    untwist true true e = refl
    untwist true false e = cc
    untwist false true e = cc
    untwist false false e = refl

    go : (ts : List ℕ) → ((t : ℕ) → IsIn t ts → t < sys.tests) → map (sys.fails x) ts ≡ map (sys.fails y) ts
    go [] within = refl
    go (t ∷ ts) within =
        let lt : t < sys.tests = within t (inl refl) in
        let lt' : t < p.tests = let e = h.tests in omega arith in
        let e = untwist (sys.fails x t) (sys.fails y t) (sym (h.passes t x lt lx) ∙ agree t lt' ∙ h.passes t y lt ly) in
        let r = go ts (λ u i. within u (inr i)) in
        cc

told : (sys : System) (p : Problem) → IsOfClasses sys p → AreTold p
told sys p h a b la lb agree =
    let e = h.classes in
    let x = class_of-found sys a (omega arith) in
    let y = class_of-found sys b (omega arith) in
    let lx = x.1 in
    let ly = y.1 in
    let same = rows-from_answers sys p h x.0 y.0 lx ly (λ t lt. ap (p.passes t) x.2 ∙ agree t lt ∙ sym (ap (p.passes t) y.2)) in
    sym x.2 ∙ class_of-same sys x.0 y.0 (first_alike-same sys x.0 y.0 same) ∙ y.2

weight-has : (p : Problem) (s : ℕ) (states : List ℕ) → IsIn s states → p.weight s ≤ weight_of p states
weight-has p s [] i = absurd i
weight-has p s (x ∷ xs) (inl e) = let f = ap p.weight e in omega arith
weight-has p s (x ∷ xs) (inr i) = let h = weight-has p s xs i in omega arith

weighed : (sys : System) (p : Problem) → IsOfClasses sys p → ((s : ℕ) → s < sys.states → 1 ≤ sys.weight s) → IsWeighed p
weighed sys p h positive = record {
  positive = λ c lt.
      (let e = h.classes in
      let x = class_of-found sys c (omega arith) in
      let ls = x.1 in
      let w = positive x.0 ls in
      let i = IsIn-filter (λ s. nat_eq (class_of sys s) c) x.0 (count_up 0 sys.states) (IsIn-count_up x.0 0 sys.states (omega arith) (omega arith)) (eq-eqb (class_of sys x.0) c x.2) in
      let f = weight-has (state_problem sys) x.0 (filter (λ s. nat_eq (class_of sys s) c) (count_up 0 sys.states)) i in
      let g = h.weight c lt in
      omega arith);
  goals = λ c lt. (let e = h.goal c lt in omega arith);
}

pub classes_hold : ClassesHold
classes_hold sys p h = record {
  told = told sys p h;
  weighed = weighed sys p h;
  total = sym (weight-same (state_problem sys) p (class_of sys) (gathers sys p h));
}
