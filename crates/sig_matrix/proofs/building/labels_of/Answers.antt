use Rattle.std.proofs.Common.{List, map, take, ◌+◌, ◌≡◌, ◌<◌, length, get_or, sym, ap, ◌∙◌, subst, arith}
use Rattle.std.specs.List.{AllZip}
use Rattle.std.proofs.lemmas.List.{get_or_default}
use Rattle.std.proofs.lemmas.List.Elements.{All-get_or}
use Rattle.sig_flat.specs.declared.flat.FlatTest.{FlatTest}
use Rattle.sig_matrix.specs.Detection.{IsLabelOf, test_at, no_test}
use Rattle.sig_matrix.proofs.DetectionLaws.{labels-next}
use Rattle.sig_matrix.proofs.building.labels_of.Goals as goal

pub loop-number-preserved : goal.loop-number-preserved
loop-number-preserved c =
    let tests = c.as_slice-tests.result.now in
    let numbers = c.args.numbers.now in
    let i = c.loop-number.number-index in
    let test = c.index-tests-number.result in
    let same : tests ≡ c.args.flat.now.tests = c.as_slice-tests.ensures in
    let lt : i < length numbers = omega arith in
    let within = All-get_or (λ n. n < length c.args.flat.now.tests) numbers i 0 lt c.requires in
    let there : get_or numbers i 0 < length tests = subst (λ (l : List FlatTest). get_or numbers i 0 < length l) (sym same) within in
    let is : test ≡ test_at tests (get_or numbers i 0) = c.index-tests-number.is ∙ get_or_default tests (get_or numbers i 0) test no_test there in
    let label = c.in_ok-label.ensures ∙ c.as_str.ensures ∙ ap (λ (t : FlatTest). t.label) is in
    let cost = ap (λ (t : FlatTest). t.cost) is in
    subst (λ l. AllZip IsLabelOf (map (test_at tests) (take (i + 1) numbers)) l) (sym c.in_ok-push.ensures.ok) (labels-next tests numbers i c.loop-number.labels _ lt c.loop-number.invariant (record { cost = cost; label = label }))
