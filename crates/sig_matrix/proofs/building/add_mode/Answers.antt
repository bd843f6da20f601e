use Rattle.std.proofs.Common.{List, ◌≡◌, ◌<◌, ◌+◌, length, get_or, map, sym, ap, ◌∙◌, subst, arith}
use Rattle.std.proofs.lemmas.List.{get_or_default, length-map}
use Rattle.std.proofs.lemmas.List.Elements.{All-get_or}
use Rattle.sig_flat.specs.declared.flat.FlatTest.{FlatTest}
use Rattle.sig_matrix.specs.Detection.{test_at, no_test}
use Rattle.sig_matrix.specs.Filling.{AreRows, IsTestAdded, is_before}
use Rattle.sig_matrix.proofs.FillingLaws.{is_behind, mode-first, mode-pass, mode-more, mode-last, test_at-map}
use Rattle.sig_matrix.proofs.building.add_mode.Goals as goal
use Rattle.sig_matrix.proofs.building.add_mode.Goals.{then-test-mode, else-test-mode}

pub loop-column-init : goal.loop-column-init
loop-column-init c =
    let numbers = c.args.numbers.now in
    let same : c.args.flat.now.tests ≡ c.as_slice-tests.result.now = sym c.as_slice-tests.ensures in
    mode-first c.args.flat.now (map (test_at c.as_slice-tests.result.now) numbers) c.args.mode c.args.rows.now
    (subst (λ l. AreRows c.args.flat.now (map (test_at l) numbers) (is_before (map (test_at l) numbers) c.args.mode) c.args.rows.now) same c.requires.rows)

pub loop-column-preserved : goal.loop-column-preserved
loop-column-preserved c =
    let flat = c.args.flat.now in
    let source = c.as_slice-tests.result.now in
    let numbers = c.args.numbers.now in
    let n = c.loop-column.column in
    let test = c.index-tests-numbers.result in
    let tests = map (test_at source) numbers in
    let same : source ≡ flat.tests = c.as_slice-tests.ensures in
    let lt : n < length numbers = omega arith in
    let within = All-get_or (λ k. k < length flat.tests) numbers n 0 lt c.requires.there in
    let there : get_or numbers n 0 < length source = subst (λ (l : List FlatTest). get_or numbers n 0 < length l) (sym same) within in
    let is : test ≡ test_at tests n = c.index-tests-numbers.is ∙ get_or_default source (get_or numbers n 0) test no_test there ∙ sym (test_at-map source numbers n lt) in
    let many = length-map numbers (test_at source) in
    elim c.if-test-mode.branch [
      | then-test-mode w ↦
          (let e : (test_at tests n).mode ≡ c.args.mode = ap (λ (t : FlatTest). t.mode) (sym is) ∙ w.if-test-mode.true in
          subst (λ l. AreRows flat tests (is_behind tests c.args.mode (n + 1)) l) (sym w.rows-is)
          (mode-more flat tests c.args.mode n c.loop-column.rows w.add_test.new.rows (omega arith) e (omega arith) (subst (λ (t : FlatTest). IsTestAdded flat t n c.loop-column.rows w.add_test.new.rows) is w.add_test.ensures) c.loop-column.invariant))
      | else-test-mode w ↦
          (subst (λ l. AreRows flat tests (is_behind tests c.args.mode (n + 1)) l) (sym w.rows-is)
          (mode-pass flat tests c.args.mode n c.loop-column.rows (λ e. w.if-test-mode.false (ap (λ (t : FlatTest). t.mode) is ∙ e)) c.loop-column.invariant))
    ]

pub returns : goal.returns
returns c =
    let source = c.as_slice-tests.result.now in
    let numbers = c.args.numbers.now in
    let same : source ≡ c.args.flat.now.tests = c.as_slice-tests.ensures in
    let many = length-map numbers (test_at source) in
    subst (λ l. AreRows c.args.flat.now (map (test_at l) numbers) (is_before (map (test_at l) numbers) (c.args.mode + 1)) c.loop-column.rows) same
    (mode-last c.args.flat.now (map (test_at source) numbers) c.args.mode c.loop-column.column c.loop-column.rows (omega arith) c.loop-column.invariant)
