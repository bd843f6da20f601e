use Rattle.sig_reason.proofs.OneReasoning.{one-reasoning}
use Rattle.sig_reason.proofs.laws.one_reasoning.Goals as goal

pub returns : goal.returns
returns c = one-reasoning
