use Rattle.seq_inst.proofs.WithinLaws.{stands}
use Rattle.seq_inst.proofs.instance.Instance.new.Goals as goal

pub invariant_of-result : goal.invariant_of-result
invariant_of-result c = record { valid = c.requires; stands = stands c.args.weights.items c.args.costs.items c.args.passes.items c.requires }
