use Rattle.teams_run.proofs.SampleLaws.{few_groups}
use Rattle.teams_run.proofs.sampling.chain_is_small.Goals as goal

pub returns : goal.returns
returns c = few_groups c.args.parts c.args.flat.now c.args.matrix.now c.requires.parts.1 c.requires.flat c.requires.matrix
