use Rattle.std.proofs.Common.{◌≡◌, ◌∷◌, [], ◌++◌, ◌+◌, ap, sym, subst, ◌∙◌, arith}
use Rattle.std.specs.Prelude.{true, false}
use Rattle.sig_matrix.specs.Detection.{in_row}
use Rattle.sig_reason.specs.Rules.{AreWithins}
use Rattle.sig_reason.proofs.Gathering.{withins-next, withins-pass}
use Rattle.sig_reason.proofs.rules.withins_of.Goals as goal
use Rattle.sig_reason.proofs.rules.withins_of.Goals.{then-has_test+in_ok-push, else-has_test}

pub loop-test-preserved : goal.loop-test-preserved
loop-test-preserved c =
    let n = c.loop-test.test in
    let before = c.loop-test.rows.items in
    elim c.if-has_test.branch [
      | then-has_test+in_ok-push w ↦
          (let bad : in_row c.args.failed n ≡ true = sym w.if-has_test.ensures in
          let pushed : w.push.new.self.items ≡ before ++ w.tests_within.result ∷ [] = w.in_ok-push.ensures.items in
          let is = w.rows-is in
          subst (AreWithins c.args.standings.now c.args.failed (n + 1)) (sym (ap (λ v. v.items) is ∙ pushed))
          (withins-next c.args.standings.now c.args.failed n before w.tests_within.result (omega arith) bad w.tests_within.ensures c.loop-test.invariant))
      | else-has_test w ↦
          (let good : in_row c.args.failed n ≡ false = sym w.if-has_test.ensures in
          let is = w.rows-is in
          subst (AreWithins c.args.standings.now c.args.failed (n + 1)) (sym (ap (λ v. v.items) is))
          (withins-pass c.args.standings.now c.args.failed n before good c.loop-test.invariant))
    ]
