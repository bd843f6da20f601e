use Rattle.std.proofs.Common.{List, Vec, Global, ◌≡◌, ◌<◌, ◌+◌, ℕ, length, get_or, map, replicate, sym, ap, ◌∙◌, subst, arith}
use Rattle.std.proofs.lemmas.List.{length-map}
use Rattle.std.proofs.lemmas.List.Elements.{All-get_or, Contains-get_or}
use Rattle.sig_flat.specs.declared.flat.FlatTest.{FlatTest}
use Rattle.sig_matrix.specs.Detection.{test_at, no_test}
use Rattle.sig_matrix.specs.Filling.{AreRows, is_before}
use Rattle.sig_matrix.proofs.FillingLaws.{rows-none, rows-whole, mode-unused, test_at-map, whole_rows}
use Rattle.sig_matrix.proofs.building.rows_of.Goals as goal
use Rattle.sig_matrix.proofs.building.rows_of.Goals.{then-is_used+in_ok-wanted+in_ok-reach, else-is_used}

pub loop-mode-init : goal.loop-mode-init
loop-mode-init c =
    let none : c.in_ok-rows.rows.items ≡ replicate (length c.args.flat.now.faults) (replicate {A = ℕ} 4 0) = c.in_ok-rows.ensures ∙ ap (λ n. replicate n (replicate {A = ℕ} 4 0)) c.len.ensures in
    rows-none c.args.flat.now (map (test_at c.args.flat.now.tests) c.args.numbers.now) c.in_ok-rows.rows.items none

pub loop-mode-preserved : goal.loop-mode-preserved
loop-mode-preserved c =
    let flat = c.args.flat.now in
    let numbers = c.args.numbers.now in
    let tests = map (test_at flat.tests) numbers in
    let mode = c.loop-mode.mode in
    let many = length-map numbers (test_at flat.tests) in
    elim c.if-is_used.branch [
      | then-is_used+in_ok-wanted+in_ok-reach w ↦
          (let new = w.add_mode.new.rows in
          let lent = ap length w.as_mut_slice.ensures.value in
          let long : length new ≡ c.loop-mode.rows.len = omega arith in
          subst (λ (v : Vec (List ℕ) Global). AreRows flat tests (is_before tests (mode + 1)) v.items) (sym w.rows-is)
          (subst (λ l. AreRows flat tests (is_before tests (mode + 1)) l) (sym (whole_rows new c.loop-mode.rows.items c.loop-mode.rows.len long)) w.add_mode.ensures))
      | else-is_used w ↦
          (subst (λ (v : Vec (List ℕ) Global). AreRows flat tests (is_before tests (mode + 1)) v.items) (sym w.rows-is)
          (mode-unused flat tests mode c.loop-mode.rows.items (λ t lt e.
          let tn : t < length numbers = omega arith in
          w.if-is_used.ensures t 0 tn (ap (λ (x : FlatTest). x.mode) (sym (test_at-map flat.tests numbers t tn)) ∙ e)) c.loop-mode.invariant))
    ]

pub returns : goal.returns
returns c =
    let flat = c.args.flat.now in
    let numbers = c.args.numbers.now in
    let source = flat.tests in
    let many = length-map numbers (test_at source) in
    rows-whole flat (map (test_at source) numbers) c.loop-mode.rows.items c.loop-mode.mode (λ t lt.
    let tn : t < length numbers = omega arith in
    let there = All-get_or (λ k. k < length source) numbers t 0 tn c.requires.there in
    let p = c.args.flat.now.valid.test_points (test_at source (get_or numbers t 0)) (Contains-get_or source (get_or numbers t 0) no_test there) in
    let e = ap (λ (x : FlatTest). x.mode) (test_at-map source numbers t tn) in
    let below = p.1 in
    let len = c.len-mode-end.ensures in
    omega arith) c.loop-mode.invariant
