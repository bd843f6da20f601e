use Rattle.std.proofs.Common.{◌≡◌, ◌<◌, ◌++◌, ℕ, List, length, ap, sym, subst, ◌∙◌, arith}
use Rattle.std.specs.List.{All}
use Rattle.sig_lines.specs.declared.labels.StateLabel.{StateLabel}
use Rattle.sig_lines.specs.declared.labels.TestLabel.{TestLabel}
use Rattle.seq_inst.specs.Instances.{problem_of}
use Rattle.seq_cert.specs.declared.report.ClassLine.{ClassLine}
use Rattle.seq_check.specs.Looks.{first_bad}
use Rattle.seq_check.specs.ModelLooks.{class_looks, test_looks}
use Rattle.seq_check.specs.Lines.{class_length, tests_at, looks_from_classes, looks_from_tree}
use Rattle.seq_check.proofs.LookLaws.{stops, passes}
use Rattle.seq_check.proofs.report_check.first_from_classes.Goals as goal

pub first_in_classes-requires-clause-there : goal.first_in_classes-requires-clause-there
first_in_classes-requires-clause-there c =
    let all : All (λ (x : StateLabel). x.class < length c.args.inst.now.weights.items) c.as_slice-states.result.now =
    subst (λ (s : List StateLabel). All (λ (x : StateLabel). x.class < length c.args.inst.now.weights.items) s) (sym c.as_slice-states.ensures) c.requires.labels.classes in
    λ k d lt. (let below = all k d lt in omega arith)

pub first_in_classes-requires-clause-fits : goal.first_in_classes-requires-clause-fits
first_in_classes-requires-clause-fits c = let e = ap class_length c.as_slice-class_lines.ensures in let fits = c.requires.fits in omega arith

pub first_in_tests-tests-requires : goal.first_in_tests-tests-requires
first_in_tests-tests-requires c =
    let e : length c.as_slice-test_lines.result.now ≡ length (c.args.report.now).test_lines = ap (λ (l : List TestLabel). length l) c.as_slice-test_lines.ensures in
    let at = c.requires.tests in
    let fits = c.requires.fits in
    omega arith

pub returns-then-is_some : goal.returns-then-is_some
unfolding looks_from_classes
returns-then-is_some c =
    let p = problem_of c.args.inst.now in
    let states = (c.args.labels.now).states in
    let r = c.args.report.now in
    let found : c.in_ok-classes.classes ≡ first_bad (class_looks p states 13 0 r.class_lines) =
    c.in_ok-classes.ensures ∙ ap (λ (s : List StateLabel). first_bad (class_looks p s 13 0 c.as_slice-class_lines.result.now)) c.as_slice-states.ensures
    ∙ ap (λ (l : List ClassLine). first_bad (class_looks p states 13 0 l)) c.as_slice-class_lines.ensures in
    stops (class_looks p states 13 0 r.class_lines) (test_looks (tests_at r) (c.args.labels.now).tests r.test_lines ++ looks_from_tree p r) c.in_ok-classes.classes (sym c.if-is_some.ensures) found

pub returns-then-is_some-2 : goal.returns-then-is_some-2
unfolding looks_from_classes
returns-then-is_some-2 c =
    let p = problem_of c.args.inst.now in
    let labels = c.args.labels.now in
    let states = labels.states in
    let r = c.args.report.now in
    let found : c.in_ok-classes.classes ≡ first_bad (class_looks p states 13 0 r.class_lines) =
    c.in_ok-classes.ensures ∙ ap (λ (s : List StateLabel). first_bad (class_looks p s 13 0 c.as_slice-class_lines.result.now)) c.as_slice-states.ensures
    ∙ ap (λ (l : List ClassLine). first_bad (class_looks p states 13 0 l)) c.as_slice-class_lines.ensures in
    let tests : c.first_in_tests-tests.result ≡ first_bad (test_looks (tests_at r) labels.tests r.test_lines) =
    c.first_in_tests-tests.ensures ∙ ap (λ (t : List TestLabel). first_bad (test_looks c.args.places.tests t c.as_slice-test_lines.result.now)) c.as_slice.ensures
    ∙ ap (λ (l : List TestLabel). first_bad (test_looks c.args.places.tests labels.tests l)) c.as_slice-test_lines.ensures
    ∙ ap (λ (k : ℕ). first_bad (test_looks k labels.tests r.test_lines)) c.requires.tests in
    stops (test_looks (tests_at r) labels.tests r.test_lines) (looks_from_tree p r) c.first_in_tests-tests.result (sym c.if-is_some-2.ensures) tests
    ∙ sym (passes (class_looks p states 13 0 r.class_lines) (test_looks (tests_at r) labels.tests r.test_lines ++ looks_from_tree p r) c.in_ok-classes.classes (sym c.if-is_some.ensures) found)

pub returns : goal.returns
unfolding looks_from_classes
returns c =
    let p = problem_of c.args.inst.now in
    let labels = c.args.labels.now in
    let states = labels.states in
    let r = c.args.report.now in
    let found : c.in_ok-classes.classes ≡ first_bad (class_looks p states 13 0 r.class_lines) =
    c.in_ok-classes.ensures ∙ ap (λ (s : List StateLabel). first_bad (class_looks p s 13 0 c.as_slice-class_lines.result.now)) c.as_slice-states.ensures
    ∙ ap (λ (l : List ClassLine). first_bad (class_looks p states 13 0 l)) c.as_slice-class_lines.ensures in
    let tests : c.first_in_tests-tests.result ≡ first_bad (test_looks (tests_at r) labels.tests r.test_lines) =
    c.first_in_tests-tests.ensures ∙ ap (λ (t : List TestLabel). first_bad (test_looks c.args.places.tests t c.as_slice-test_lines.result.now)) c.as_slice.ensures
    ∙ ap (λ (l : List TestLabel). first_bad (test_looks c.args.places.tests labels.tests l)) c.as_slice-test_lines.ensures
    ∙ ap (λ (k : ℕ). first_bad (test_looks k labels.tests r.test_lines)) c.requires.tests in
    c.in_ok-rest.ensures ∙ sym (passes (test_looks (tests_at r) labels.tests r.test_lines) (looks_from_tree p r) c.first_in_tests-tests.result (sym c.if-is_some-2.ensures) tests)
    ∙ sym (passes (class_looks p states 13 0 r.class_lines) (test_looks (tests_at r) labels.tests r.test_lines ++ looks_from_tree p r) c.in_ok-classes.classes (sym c.if-is_some.ensures) found)
