use Rattle.std.proofs.Common.{arith}
use Rattle.seq_words.proofs.PublishSteps.{publishes_at}
use Rattle.seq_words.proofs.publishing.show.Goals as goal

pub store-requires : goal.store-requires
store-requires c =
    let t = c.requires.table in
    let e = c.state_word.ensures in
    (t.0, omega (arith, t.1), rw e (publishes_at _ _ _ _ _ _ c.requires.role c.requires.stored))
