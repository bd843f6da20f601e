use Rattle.std.proofs.Common.{◌≡◌, map}
use Rattle.sig_lines.specs.Written.{with_lines}
use Rattle.seq_theory.specs.Problem.{count_up}
use Rattle.seq_inst.specs.Instances.{problem_of}
use Rattle.seq_cert.specs.Text.{class_lines}
use Rattle.seq_cert.specs.OutcomeReport.{class_line}
use Rattle.seq_cert.proofs.classes.write_classes.Given as goal

-- the classes before this one are written
abbrev pub invariant-loop-class : goal.invariant-loop-class
invariant-loop-class l = l.out ≡ with_lines l.fn.out (class_lines 0 (map (class_line (problem_of l.inst) l.states) (count_up 0 l.class)))
