use Rattle.sig_flat.proofs.OneFlat.{one-flat}
use Rattle.sig_flat.proofs.laws.one_flat.Goals as goal

pub returns : goal.returns
returns c = λ model sound flat other p q. one-flat model sound flat other p q
