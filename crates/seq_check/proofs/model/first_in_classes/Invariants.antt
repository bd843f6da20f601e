use Rattle.std.proofs.Common.{◌≡◌, ◌+◌, drop}
use Rattle.seq_inst.specs.Instances.{problem_of}
use Rattle.seq_check.specs.Looks.{first_bad}
use Rattle.seq_check.specs.ModelLooks.{class_looks}
use Rattle.seq_check.specs.Lines.{class_length}
use Rattle.seq_check.proofs.model.first_in_classes.Given as goal

-- the classes before this one are good
abbrev pub invariant-loop-class : goal.invariant-loop-class
invariant-loop-class l = record {
  looks_are : first_bad (class_looks (problem_of l.inst) l.states 13 0 l.lines) ≡ first_bad (class_looks (problem_of l.inst) l.states l.line l.class (drop l.class l.lines));
  line_is : l.line + class_length (drop l.class l.lines) ≡ 13 + class_length l.lines;
}
