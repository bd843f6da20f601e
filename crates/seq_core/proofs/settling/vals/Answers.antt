use Rattle.std.proofs.Common.{◌∙◌, ap, Some}
use Rattle.std.specs.Prelude.{map}
use Rattle.seq_core.proofs.SettleSteps.{ups-settled}
use Rattle.seq_core.proofs.settling.vals.Goals as goal

pub returns : goal.returns
returns c = ap (map (λ n. Some n)) c.in_ok-ups.ensures ∙ ups-settled c.args.inst.now c.args.rows.now _ c.requires (c.rows.ensures.rows ∙ c.in_ok-core.ensures)
