use Rattle.std.proofs.Common.{refl}
use Rattle.seq_inst.specs.Instances.{problem_of}
use Rattle.seq_check.proofs.BelowBounds.{stays_below, goes_below}
use Rattle.seq_check.proofs.below.note.Goals as goal

pub returns-in_ok-insert : goal.returns-in_ok-insert
returns-in_ok-insert c = λ lines are. goes_below (problem_of c.args.inst.now) lines c.args.line.now c.args.below.now c.insert.new.self c.same_words_hold.ensures c.group_stands.ensures c.in_ok-insert.ensures.updates.0 are

pub returns-else-not-above : goal.returns-else-not-above
returns-else-not-above c = λ lines are. stays_below (problem_of c.args.inst.now) lines c.args.line.now c.args.below.now (c.if-not-above.ensures refl) are
