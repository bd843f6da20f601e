use Rattle.std.proofs.Common.{List, Vec, Global, ◌≡◌, ◌<◌, ◌+◌, ℕ, length, get_or, sym, ap, ◌∙◌, subst, arith, set, length-set}
use Rattle.std.specs.Prelude.{Bool, true}
use Rattle.std.proofs.lemmas.List.{get_or_default}
use Rattle.std.proofs.lemmas.List.Elements.{All-get_or, All-from_get_or, Contains-get_or}
use Rattle.sig_flat.specs.declared.flat.FlatTest.{FlatTest}
use Rattle.sig_matrix.specs.Detection.{test_at, no_test}
use Rattle.sig_matrix.specs.Filling.{IsWanted}
use Rattle.sig_matrix.proofs.FillingLaws.{wanted-more, wanted-pass}
use Rattle.sig_matrix.proofs.building.wanted_nodes.Goals as goal
use Rattle.sig_matrix.proofs.building.wanted_nodes.Goals.{then-test-mode, else-test-mode}

pub index_mut-requires : goal.index_mut-requires
index_mut-requires c =
    let flat = c.args.flat.now in
    let source = c.as_slice-tests.result.now in
    let numbers = c.args.numbers.now in
    let n = c.loop-number.number-index in
    let same : source ≡ flat.tests = c.as_slice-tests.ensures in
    let lt : n < length numbers = omega arith in
    let within = All-get_or (λ k. k < length flat.tests) numbers n 0 lt c.requires.there in
    let test = c.index-tests-number.result in
    let is : test ≡ test_at flat.tests (get_or numbers n 0) = c.index-tests-number.is ∙ ap (λ (l : List FlatTest). get_or l (get_or numbers n 0) test) same ∙ get_or_default flat.tests (get_or numbers n 0) test no_test within in
    let p = c.args.flat.now.valid.test_points (test_at flat.tests (get_or numbers n 0)) (Contains-get_or flat.tests (get_or numbers n 0) no_test within) in
    let there = p.0 in
    let node = ap (λ (t : FlatTest). t.node) is in
    let long = c.loop-number.invariant.0 in
    omega arith

pub loop-number-preserved : goal.loop-number-preserved
loop-number-preserved c =
    let flat = c.args.flat.now in
    let source = c.as_slice-tests.result.now in
    let numbers = c.args.numbers.now in
    let n = c.loop-number.number-index in
    let same : source ≡ flat.tests = c.as_slice-tests.ensures in
    let lt : n < length numbers = omega arith in
    let within = All-get_or (λ k. k < length flat.tests) numbers n 0 lt c.requires.there in
    let test = c.index-tests-number.result in
    let is : test ≡ test_at flat.tests (get_or numbers n 0) = c.index-tests-number.is ∙ ap (λ (l : List FlatTest). get_or l (get_or numbers n 0) test) same ∙ get_or_default flat.tests (get_or numbers n 0) test no_test within in
    let p = c.args.flat.now.valid.test_points (test_at flat.tests (get_or numbers n 0)) (Contains-get_or flat.tests (get_or numbers n 0) no_test within) in
    let there = p.0 in
    let node = ap (λ (t : FlatTest). t.node) is in
    let i = c.loop-number.invariant in
    let long = i.0 in
    let marks = c.loop-number.wanted.items in
    let kept = c.if-test-mode.wanted.items in
    elim c.if-test-mode.branch [
      | then-test-mode w ↦
          (let e : kept ≡ set marks test.node true = ap (λ (v : Vec Bool Global). v.items) w.wanted-is in (
            ap length e ∙ length-set marks test.node true ∙ i.0,
            subst (λ (l : List Bool). (k : ℕ) → k < n + 1 → IsWanted flat c.args.mode l (get_or numbers k 0)) (sym e) (wanted-more flat c.args.mode numbers marks n test.node node (omega arith) i.1),
          ))
      | else-test-mode w ↦
          (let e : kept ≡ marks = ap (λ (v : Vec Bool Global). v.items) w.wanted-is in (
            ap length e ∙ i.0,
            subst (λ (l : List Bool). (k : ℕ) → k < n + 1 → IsWanted flat c.args.mode l (get_or numbers k 0)) (sym e) (wanted-pass flat c.args.mode numbers marks n (λ m. w.if-test-mode.false (ap (λ (t : FlatTest). t.mode) is ∙ m)) i.1),
          ))
    ]

pub returns-clause-wanted : goal.returns-clause-wanted
returns-clause-wanted c = All-from_get_or (IsWanted c.args.flat.now c.args.mode c.loop-number.wanted.items) c.args.numbers.now 0 (λ k lt. c.loop-number.invariant.1 k (omega arith))
