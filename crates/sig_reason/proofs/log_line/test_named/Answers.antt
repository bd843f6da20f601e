use Rattle.std.proofs.Common.{◌≡◌, ℕ, ◌<◌, List, length, get_or, ap, sym, ◌∙◌, subst, arith, below_more}
use Rattle.std.specs.Prelude.{true, false}
use Rattle.std.specs.Str.{bytes_eq}
use Rattle.std.proofs.lemmas.List.{get_or_default}
use Rattle.sig_lines.specs.declared.labels.TestLabel.{TestLabel}
use Rattle.sig_matrix.specs.Detection.{no_label}
use Rattle.sig_reason.proofs.LogLaws.{first-found, none-found}
use Rattle.sig_reason.proofs.log_line.test_named.Goals as goal

-- the label that is read is the test's
read : (tests slice : List TestLabel) (n : ℕ) (found : TestLabel) → slice ≡ tests → n < length slice → found ≡ get_or slice n found → found.label ≡ (get_or tests n no_label).label
read tests slice n found same lt is = ap (λ (t : TestLabel). t.label) (is ∙ get_or_default slice n found no_label lt ∙ ap (λ l. get_or l n no_label) same)

pub returns-then-is_text-clause-test : goal.returns-then-is_text-clause-test
returns-then-is_text-clause-test c =
    let label = c.as_bytes.ensures.value ∙ c.as_str.ensures ∙ read c.args.matrix.now.tests c.as_slice-tests.result.now c.loop-test.test c.index-tests-test.result c.as_slice-tests.ensures c.loop-test-test.true c.index-tests-test.is in
    let long = ap length c.as_slice-tests.ensures in
    first-found (λ t. bytes_eq (get_or c.args.matrix.now.tests t no_label).label c.args.label.now) (length c.args.matrix.now.tests) c.loop-test.test (omega arith) c.loop-test.invariant
    (ap (λ w. bytes_eq w c.args.label.now) (sym label) ∙ sym c.if-is_text.ensures)

pub loop-test-preserved : goal.loop-test-preserved
loop-test-preserved c =
    let label = c.as_bytes.ensures.value ∙ c.as_str.ensures ∙ read c.args.matrix.now.tests c.as_slice-tests.result.now c.loop-test.test c.index-tests-test.result c.as_slice-tests.ensures c.loop-test-test.true c.index-tests-test.is in
    below_more _ _ c.loop-test.invariant (ap (λ w. bytes_eq w c.args.label.now) (sym label) ∙ sym c.if-is_text.ensures)

pub returns-clause-test : goal.returns-clause-test
returns-clause-test c =
    let long = ap length c.as_slice-tests.ensures in
    none-found (λ t. bytes_eq (get_or c.args.matrix.now.tests t no_label).label c.args.label.now) (length c.args.matrix.now.tests)
    (λ j lt. c.loop-test.invariant j (omega arith))
