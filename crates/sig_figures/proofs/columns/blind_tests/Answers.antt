use Rattle.std.proofs.Common.{ℕ, ap, sym, arith, ◌∙◌}
use Rattle.std.specs.Prelude.{not}
use Rattle.sig_figures.specs.Coverage.{sees_fault}
use Rattle.sig_figures.proofs.UpTo.{filter-yes, filter-no}
use Rattle.sig_figures.proofs.columns.blind_tests.Goals as goal
use Rattle.sig_figures.proofs.columns.blind_tests.Goals.{then-not-has_test+in_ok-push, else-not-has_test}

pub loop-test-preserved : goal.loop-test-preserved
loop-test-preserved c =
    let p = λ (test : ℕ). not (sees_fault c.args.matrix.now test) in
    let i = c.loop-test.test in
    let few = c.requires.tests in
    let long = c.len-test-end.ensures in
    let seen = c.seeing-row.ensures i (omega arith) in
    elim c.if-not-has_test.branch [
      | then-not-has_test+in_ok-push w ↦ (let inv = c.loop-test.invariant in let next = filter-yes p i (ap not (sym (w.if-not-has_test.ensures ∙ seen))) in let pushed = w.in_ok-push.ensures.ok in let is = w.tests-is in cc)
      | else-not-has_test w ↦ (let inv = c.loop-test.invariant in let next = filter-no p i (ap not (sym (w.if-not-has_test.ensures ∙ seen))) in let is = w.tests-is in cc)
    ]
