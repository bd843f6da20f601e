use Rattle.seq_check.proofs.Alike.{noted, kept}
use Rattle.seq_check.proofs.lows.note.Goals as goal

pub returns-in_ok-insert : goal.returns-in_ok-insert
returns-in_ok-insert c = λ lines are. noted c.args.lows.now lines c.args.line.now c.same_words_hold.ensures c.group_stands.ensures are c.insert.new.self c.if-not-known.ensures c.in_ok-insert.ensures.updates.0

pub returns-else-not-known : goal.returns-else-not-known
returns-else-not-known c = λ lines are. kept c.args.lows.now lines c.args.line.now c.same_words_hold.ensures c.group_stands.ensures are c.if-not-known.ensures
