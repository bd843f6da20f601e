use Rattle.std.proofs.Common.{length, map, refl, ap, ◌∙◌, subst, arith}
use Rattle.std.proofs.lemmas.List.{length-map}
use Rattle.std.specs.Prelude.{true}
use Rattle.std.specs.List.{AllZip}
use Rattle.sig_matrix.specs.declared.matrix.Matrix.{Matrix}
use Rattle.sig_matrix.specs.Detection.{IsLabelOf, test_at, is_taken}
use Rattle.sig_matrix.specs.Filling.{AreRows}
use Rattle.sig_matrix.proofs.MatrixLaws.{taken-few, matrix-from_parts, valid-from_matrix}
use Rattle.sig_matrix.proofs.building.matrix_of.Goals as goal

pub rows_of-requires-clause-few : goal.rows_of-requires-clause-few
rows_of-requires-clause-few c =
    let flat = c.args.flat.now in
    let numbers = c.as_slice.result.now in
    let e = ap length c.in_ok-numbers.ensures.tests in
    let many = length-map c.in_ok-numbers.numbers.items (test_at flat.tests) in
    let same = ap length c.as_slice.ensures.value in
    let few = taken-few (is_taken c.args.mode) flat.tests in
    let all = c.args.flat.now.valid.tests in
    omega arith

-- the matrix of the parts
abbrev made : goal.After-drop-numbers-2 → Matrix
made c = record { good = c.args.flat.now.good; faults = c.in_ok-faults.faults; tests = c.in_ok-tests.tests }

pub returns-clause-matrix : goal.returns-clause-matrix
returns-clause-matrix c =
    let flat = c.args.flat.now in
    let numbers = c.in_ok-numbers.numbers.items in
    let rows = c.in_ok-rows.rows.items in
    let taken_rows = subst (λ l. AreRows flat (map (test_at flat.tests) l) (λ t. true) rows) c.as_slice.ensures.value c.in_ok-rows.ensures in
    let labels = subst (λ l. AllZip IsLabelOf (map (test_at flat.tests) l) c.in_ok-tests.tests) c.as_slice-2.ensures.value c.in_ok-tests.ensures in
    matrix-from_parts flat c.args.mode (made c) (map (test_at flat.tests) numbers) rows c.in_ok-numbers.ensures.tests refl c.in_ok-faults.ensures.faults (c.in_ok-faults.ensures.rows ∙ c.as_slice-3.ensures.value) labels taken_rows c.in_ok-faults.ensures.words

pub returns-clause-valid : goal.returns-clause-valid
returns-clause-valid c = valid-from_matrix c.args.flat.now c.args.mode (made c) (returns-clause-matrix c)
