-- A flat model has one matrix.
use Rattle.std.specs.Prelude.{◌≡◌, ℕ, Option}
use Rattle.sig_flat.specs.declared.flat.Flat.{Flat}
use Rattle.sig_matrix.specs.declared.matrix.Matrix.{Matrix}
use Rattle.sig_matrix.specs.Detection.{IsMatrixOf}

-- two matrices of a flat model, with all its tests or those of one mode, are the same
abbrev pub HasOneMatrix : Type 0
HasOneMatrix = (flat : Flat) (mode : Option ℕ) (matrix other : Matrix) → IsMatrixOf flat mode matrix → IsMatrixOf flat mode other → matrix ≡ other
