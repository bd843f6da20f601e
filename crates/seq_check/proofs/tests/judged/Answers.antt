use Rattle.std.proofs.Common.{◌≡◌, ℕ, zero, suc, ◌<◌, List, [], ◌∷◌, refl, sym, ap, subst, ◌∙◌, arith, filter, get_or}
use Rattle.std.specs.Prelude.{codes, sum_by}
use Rattle.std.proofs.lemmas.List.Elements.{All-from_recursion}
use Rattle.sig_lines.specs.declared.labels.StateLabel.{StateLabel}
use Rattle.sig_lines.specs.declared.labels.TestLabel.{TestLabel}
use Rattle.sig_lines.specs.declared.labels.Labels.{Labels}
use Rattle.seq_theory.specs.Problem.{Problem}
use Rattle.seq_inst.specs.Valid.{problem_from}
use Rattle.seq_inst.specs.Instances.{problem_of}
use Rattle.seq_inst.specs.declared.group.Group.{Group}
use Rattle.seq_cert.specs.LabelsOf.{AreLabelsOf, no_test}
use Rattle.seq_cert.specs.OutcomeReport.{is_of}
use Rattle.seq_check.proofs.tests.judged.Goals as goal

abbrev the_states : List StateLabel
the_states = record { weight = 6; label = codes "good"; class = 0 } ∷ record { weight = 3; label = codes "A.f"; class = 1 } ∷ record { weight = 1; label = codes "B.f"; class = 2 } ∷ []

abbrev the_tests : List TestLabel
the_tests = record { cost = 2; label = codes "X/tA" } ∷ record { cost = 1; label = codes "Y/tB" } ∷ []

their_weights : (k : ℕ) → k < 3 → sum_by (λ (s : StateLabel). s.weight) (filter (is_of k) the_states) ≡ get_or (6 ∷ 3 ∷ 1 ∷ []) k 0
their_weights zero lt = refl
their_weights (suc zero) lt = refl
their_weights (suc (suc zero)) lt = refl
their_weights (suc (suc (suc k))) lt = absurd (omega arith)

their_costs : (t : ℕ) → t < 2 → (get_or the_tests t no_test).cost ≡ get_or (2 ∷ 1 ∷ []) t 0
their_costs zero lt = refl
their_costs (suc zero) lt = refl
their_costs (suc (suc t)) lt = absurd (omega arith)

theirs : (passes : List Group) (mode : List ℕ) → AreLabelsOf (problem_from (6 ∷ 3 ∷ 1 ∷ []) (2 ∷ 1 ∷ []) passes) (record { mode = mode; states = the_states; tests = the_tests })
theirs passes mode = record {
  classes = All-from_recursion (λ (s : StateLabel). s.class < 3) the_states (omega arith, (omega arith, (omega arith, tt)));
  weights = their_weights;
  tests = refl;
  costs = their_costs;
}

pub check-requires-clause-labels : goal.check-requires-clause-labels
check-requires-clause-labels c =
    let passes = c.in_ok-inst.inst.passes.items in
    let mode = c.in_ok-mode.mode in
    let problem : problem_from (6 ∷ 3 ∷ 1 ∷ []) (2 ∷ 1 ∷ []) passes ≡ problem_of c.in_ok-inst.inst =
    sym (ap (λ (ws : List ℕ). problem_from ws c.in_ok-inst.inst.costs.items passes) c.in_ok-inst.ensures.weights ∙ ap (λ (cs : List ℕ). problem_from (6 ∷ 3 ∷ 1 ∷ []) cs passes) c.in_ok-inst.ensures.costs) in
    let made : List StateLabel → List TestLabel → Labels = λ states tests. record { mode = mode; states = states; tests = tests } in
    let states = ap (λ (s : List StateLabel). made s the_tests) (sym c.in_ok-states.ensures) in
    let tests = ap (λ (t : List TestLabel). made c.in_ok-states.states t) (sym c.in_ok-tests.ensures) in
    let own = subst (λ (l : Labels). AreLabelsOf (problem_from (6 ∷ 3 ∷ 1 ∷ []) (2 ∷ 1 ∷ []) passes) l) (states ∙ tests) (theirs passes mode) in
    subst (λ (p : Problem). AreLabelsOf p (made c.in_ok-states.states c.in_ok-tests.tests)) problem own

pub check-requires-clause-short : goal.check-requires-clause-short
check-requires-clause-short c = let short = c.in_ok-report.ensures.short in let most = c.requires in omega arith
