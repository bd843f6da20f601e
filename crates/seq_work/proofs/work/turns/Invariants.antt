use Rattle.std.proofs.Common.{◌≡◌, ◌+◌, ◌≤◌, length}
use Rattle.seq_theory.specs.Problem.{all_classes}
use Rattle.seq_inst.specs.Members.{members}
use Rattle.seq_inst.specs.Instances.{problem_of}
use Rattle.seq_graph.specs.Known.{group_at}
use Rattle.seq_graph.specs.Walks.{left}
use Rattle.seq_words.specs.Knowledge.{Covers}
use Rattle.seq_work.specs.Works.{Ready}
use Rattle.seq_work.proofs.work.turns.Given as goal

abbrev pub invariant-turns : goal.invariant-turns
invariant-turns g l = record {
  ready : Ready l.shared.inst g.N.Naming.words l.seat l.local;
  covers : Covers l.seat.view l.initial.seat.view;
  some : 1 ≤ length l.local.graph.rows.items;
  first : members (group_at l.local.graph.rows.items 0) ≡ all_classes (problem_of l.shared.inst);
  turns : l.count + left g.N.Naming.words.limit l.local.graph.rows.items ≤ 98304;
}

abbrev pub decreases-turns : goal.decreases-turns
decreases-turns g l = left g.N.Naming.words.limit l.local.graph.rows.items
