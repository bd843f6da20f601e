use Rattle.std.proofs.Common.{◌≡◌, ◌<◌, ◌≤◌, true, ◌++◌, [], ◌∷◌, length, ap, sym, ◌∙◌, arith, subst}
use Rattle.sig_types.specs.LabelText.{is_label}
use Rattle.sig_flat.specs.declared.flat.FlatTest.{FlatTest}
use Rattle.sig_flat.specs.Placed.{test_copy, CostsFit, TestsLabelled}
use Rattle.sig_flat.proofs.WalkLaws.{map-next, fits-more}
use Rattle.sig_flat.proofs.copies.copy_tests.Goals as goal

pub copy_of_test-requires-clause-at : goal.copy_of_test-requires-clause-at
copy_of_test-requires-clause-at c =
    let lt : c.loop-test.test-index < length c.args.patterns.now = omega arith in
    c.requires.fit c.test-item.result (c.loop-test.test-index, lt, sym c.test-item.is)

pub loop-test-preserved : goal.loop-test-preserved
loop-test-preserved c =
    let lt : c.loop-test.test-index < length c.args.patterns.now = omega arith in
    let pushed : c.push.new.self ≡ c.loop-test.tests ++ c.in_ok-copy_of_test.field-0 ∷ [] = c.in_ok-push.ensures.ok in (
      pushed ∙ ap (λ f. c.loop-test.tests ++ f ∷ []) c.in_ok-copy_of_test.ensures.copy ∙ ap (λ l. l ++ test_copy c.args.placed.now c.test-item.result ∷ []) c.loop-test.invariant.0
          ∙ map-next (test_copy c.args.placed.now) c.args.tests.now c.args.patterns.now c.loop-test.test-index c.test-item.result c.test-item.is lt,
      λ old. subst CostsFit (sym pushed) (fits-more (λ (f : FlatTest). (1 ≤ f.cost) × (f.cost ≤ 1000000)) c.loop-test.tests c.in_ok-copy_of_test.field-0 (c.loop-test.invariant.1 old) c.in_ok-copy_of_test.ensures.cost),
      λ old. subst TestsLabelled (sym pushed) (fits-more (λ (f : FlatTest). is_label f.label ≡ true) c.loop-test.tests c.in_ok-copy_of_test.field-0 (c.loop-test.invariant.2 old) c.in_ok-copy_of_test.ensures.label),
    )
