use Rattle.seq_core.proofs.TurnLaws.{turns_settle, turns_start, turns_go_on, turns_end}
use Rattle.seq_core.proofs.laws.turns_settle.Goals as goal

pub returns : goal.returns
returns c = record { turn = turns_settle; start = turns_start; next = turns_go_on; end = turns_end }
