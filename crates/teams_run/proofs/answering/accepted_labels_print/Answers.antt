use Rattle.teams_run.proofs.PrintableLaws.{labels-print}
use Rattle.teams_run.proofs.answering.accepted_labels_print.Goals as goal

pub returns : goal.returns
returns c = labels-print c.args.content.now c.args.plan.now.mode c.args.flat.now c.args.matrix.now c.requires.text c.requires.valid
