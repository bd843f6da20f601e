use Rattle.std.proofs.Common.{◌+◌, ◌*◌, length}
use Rattle.seq_work.proofs.fanning.+fan+fn-fan-join_mut+arg2+fn-fan-join_mut+arg3.Given as goal

abbrev pub decreases-fan : goal.decreases-fan
decreases-fan g l = 2 * length l.seats.now

abbrev pub decreases-join_mut+arg2 : goal.decreases-join_mut+arg2
decreases-join_mut+arg2 g l = 2 * length l.seats_a.now + 1

abbrev pub decreases-join_mut+arg3 : goal.decreases-join_mut+arg3
decreases-join_mut+arg3 g l = 2 * length l.seats_b.now + 1
