use Rattle.std.proofs.Common.{◌≡◌, ◌∷◌}
use Rattle.std.specs.List.{filter_map}
use Rattle.seq_theory.specs.Problem.{splits, least_of}
use Rattle.seq_inst.specs.Members.{members}
use Rattle.seq_inst.specs.Instances.{problem_of}
use Rattle.seq_theory.specs.Below.{passing_below}
use Rattle.seq_core.specs.Sums.{up_sum}
use Rattle.seq_core.proofs.machine.Core.least_up.Given as goal

abbrev pub invariant-loop-test : goal.invariant-loop-test
invariant-loop-test l = l.least ≡ least_of (l.greedy ∷ filter_map (up_sum (problem_of l.inst) l.self.rows (members l.group)) (passing_below (splits (problem_of l.inst) (members l.group)) l.test))
