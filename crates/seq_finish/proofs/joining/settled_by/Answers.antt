use Rattle.seq_finish.proofs.OutcomeLaws.{row-entered}
use Rattle.seq_finish.proofs.joining.settled_by.Goals as goal

pub settled_one-requires-clause-there : goal.settled_one-requires-clause-there
settled_one-requires-clause-there c = c.requires.there _ (row-entered c.args.rows.now c.loop-row.row-index _ c.loop-row-test.true)
