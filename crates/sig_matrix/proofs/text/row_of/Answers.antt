use Rattle.std.proofs.Common.{◌≡◌, ◌<◌, ◌∷◌, [], ◌++◌, sym, ap, subst, ◌∙◌}
use Rattle.std.specs.String.{string_bytes}
use Rattle.sig_matrix.specs.Detection.{fails}
use Rattle.sig_matrix.specs.MatrixText.{outcome}
use Rattle.sig_matrix.proofs.TextLaws.{outcome_small, row_next}
use Rattle.sig_matrix.proofs.text.row_of.Goals as goal

pub loop-test-preserved : goal.loop-test-preserved
loop-test-preserved c =
    let before = string_bytes c.loop-test.row in
    let fails_at = fails c.args.matrix.now c.args.state in
    let is : c.outcome.result ≡ outcome (fails_at c.loop-test.test) = c.outcome.ensures ∙ ap outcome c.fails.ensures in
    let small : c.outcome.result < 128 = subst (λ ch. ch < 128) (sym is) (outcome_small (fails_at c.loop-test.test)) in
    c.in_ok-push.ensures.bytes ∙ ap (λ l. before ++ l) (c.in_ok-push.ensures.ascii small ∙ ap (λ ch. ch ∷ []) is) ∙ row_next before outcome fails_at c.loop-test.test c.loop-test.invariant
