use Rattle.std.proofs.Common.{refl}
use Rattle.seq_graph.proofs.NumberedLaws.{numbers-reserved}
use Rattle.seq_graph.proofs.numbers.Numbers.release.Goals as goal

pub returns-clause-numbers : goal.returns-clause-numbers
returns-clause-numbers c p are =
    numbers-reserved p c.self.inside.memo c.self.inside.bounds.entries _ c.self.inside.greedy.items _ c.self.inside.room c.self.inside.held _ _ c.args.self.now refl refl c.self.view_is are
