use Rattle.sig_matrix.proofs.OneMatrix.{one-matrix}
use Rattle.sig_matrix.proofs.laws.one_matrix.Goals as goal

pub returns : goal.returns
returns c = one-matrix
