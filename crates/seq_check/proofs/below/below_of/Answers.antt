use Rattle.std.proofs.Common.{List, take, subst, sym}
use Rattle.std.proofs.lemmas.List.{take_all, take_more}
use Rattle.seq_inst.specs.Instances.{problem_of}
use Rattle.seq_cert.specs.declared.report.GroupLine.{GroupLine}
use Rattle.seq_check.specs.Listed.{AreBelow}
use Rattle.seq_check.proofs.BelowBounds.{none_below}
use Rattle.seq_check.proofs.below.below_of.Goals as goal

pub loop-line-init : goal.loop-line-init
loop-line-init c = none_below (problem_of c.args.inst.now) c.new-below.result

pub loop-line-preserved : goal.loop-line-preserved
loop-line-preserved c =
    subst (λ (lines : List GroupLine). AreBelow (problem_of c.args.inst.now) c.note.new.below lines) (sym (take_more c.args.lines.now c.loop-line.line-index _ c.loop-line-test.true))
    (c.in_ok-note.ensures (take c.loop-line.line-index c.args.lines.now) c.loop-line.invariant)

pub returns : goal.returns
returns c = subst (λ (lines : List GroupLine). AreBelow (problem_of c.args.inst.now) c.loop-line.below lines) (take_all c.loop-line.line-index c.args.lines.now c.loop-line-test.false) c.loop-line.invariant
