use Rattle.std.proofs.Common.{◌-◌}
use Rattle.seq_inst.specs.Walks.{IsAheadOf}
use Rattle.seq_inst.specs.Members.{members_below, reached, IsClass}
use Rattle.seq_huff.proofs.MassLaws.{MassBelow}
use Rattle.seq_huff.proofs.mass.mass_of.Given as goal

abbrev pub invariant-loop-next : goal.invariant-loop-next
invariant-loop-next l = record {
  class : IsClass l.group l.next;
  ahead : IsAheadOf l.group l.ahead l.next;
  mass : MassBelow l.inst (members_below l.group (reached l.next)) l.classes l.weight l.potential;
}

abbrev pub decreases-loop-next : goal.decreases-loop-next
decreases-loop-next l = 512 - reached l.next
