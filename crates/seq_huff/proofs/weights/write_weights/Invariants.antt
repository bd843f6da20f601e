use Rattle.std.proofs.Common.{◌-◌}
use Rattle.seq_inst.specs.Members.{members_below, reached, IsClass}
use Rattle.seq_inst.specs.Instances.{problem_of}
use Rattle.seq_huff.proofs.Written.{Written}
use Rattle.seq_huff.proofs.weights.write_weights.Given as goal

abbrev pub invariant-loop-next : goal.invariant-loop-next
invariant-loop-next l = record {
  class : IsClass l.group l.next;
  written : Written (problem_of l.inst).weight (members_below l.group (reached l.next)) l.out l.count;
}

abbrev pub decreases-loop-next : goal.decreases-loop-next
decreases-loop-next l = 512 - reached l.next
