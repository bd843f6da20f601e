-- What an instance stands for in the theory.
use Rattle.seq_theory.specs.Problem.{Problem, IsWithin}
use Rattle.seq_inst.specs.declared.instance.Instance.{Instance}
use Rattle.seq_inst.specs.Valid.{problem_from}
use Rattle.seq_inst.specs.declared.group.Group.{Group}
use Rattle.seq_inst.specs.Members.{members}

-- the problem that an instance states
abbrev pub problem_of : Instance → Problem
problem_of inst = problem_from inst.weights.items inst.costs.items inst.passes.items

-- the group's classes are classes of the instance
abbrev pub IsGroupOf : Instance → Group → Type 0
IsGroupOf inst group = IsWithin (problem_of inst) (members group)
