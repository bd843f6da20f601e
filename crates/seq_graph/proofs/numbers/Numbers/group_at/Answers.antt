use Rattle.std.proofs.Common.{sym, subst}
use Rattle.seq_graph.specs.Numbered.{Numbered, HasNumber}
use Rattle.seq_core.specs.Words.{classes_of}
use Rattle.seq_graph.proofs.NumberedLaws.{key-group}
use Rattle.seq_graph.proofs.numbers.Numbers.group_at.Goals as goal

pub returns : goal.returns
returns c = subst (λ (v : Numbered). HasNumber v (classes_of c.in-Some.words.now) c.args.number) c.self.view_is (key-group c.self.inside.bounds.entries c.args.number _ _ (sym c.in-Some.ensures.entry))
