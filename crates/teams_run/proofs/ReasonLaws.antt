-- The test of a conflict is one that was found, and so one of the matrix.
use Rattle.std.proofs.Common.{ℕ, ◌<◌, List, length, subst}
use Rattle.std.specs.Prelude.{All, true}
use Rattle.sig_matrix.specs.declared.matrix.Matrix.{Matrix}
use Rattle.sig_reason.specs.declared.found.Finding.{Finding}
use Rattle.sig_reason.specs.Labelling.{IsConflict, case_of}

pub conflict_there : (matrix : Matrix) (found : List Finding) (test : ℕ) → IsConflict (case_of matrix found) test → All (λ (x : Finding). x.test < length matrix.tests) found → test < length matrix.tests
conflict_there matrix found test conflict there =
    let has = ((conflict.first).here).failed in
    subst (λ (x : Finding). x.test < length matrix.tests) has.2 (there has.0 (record { test = test; failed = true }) has.1)
