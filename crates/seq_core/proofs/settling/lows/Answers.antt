use Rattle.std.proofs.Common.{◌∙◌}
use Rattle.seq_inst.specs.Instances.{problem_of}
use Rattle.seq_core.proofs.SettleSteps.{lows-settled}
use Rattle.seq_core.proofs.settling.lows.Goals as goal

pub returns : goal.returns
returns c = c.in_ok-lows.ensures ∙ lows-settled (problem_of c.args.inst.now) c.args.rows.now _ (c.rows.ensures.rows ∙ c.in_ok-core.ensures)
