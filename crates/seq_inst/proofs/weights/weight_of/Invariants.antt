use Rattle.std.proofs.Common.{◌≡◌, ◌-◌}
use Rattle.seq_theory.specs.Problem.{weight_of}
use Rattle.seq_inst.specs.Members.{members_below}
use Rattle.seq_inst.specs.Instances.{problem_of}
use Rattle.seq_inst.specs.Members.{reached, IsClass}
use Rattle.seq_inst.proofs.weights.weight_of.Given as goal

abbrev pub invariant-loop-next : goal.invariant-loop-next
invariant-loop-next l = record {
  class : IsClass l.group l.next;
  sum : l.total ≡ weight_of (problem_of l.inst) (members_below l.group (reached l.next));
}

abbrev pub decreases-loop-next : goal.decreases-loop-next
decreases-loop-next l = 512 - reached l.next
