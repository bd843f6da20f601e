use Rattle.std.proofs.Common.{List, take, subst, sym}
use Rattle.std.proofs.lemmas.List.{take_all, take_more}
use Rattle.seq_cert.specs.declared.report.GroupLine.{GroupLine}
use Rattle.seq_check.specs.Listed.{AreLows}
use Rattle.seq_check.proofs.Alike.{no_lows}
use Rattle.seq_check.proofs.lows.lows_of.Goals as goal

pub loop-line-init : goal.loop-line-init
loop-line-init c = no_lows c.new-lows.result c.new-lows.ensures.empty

pub loop-line-preserved : goal.loop-line-preserved
loop-line-preserved c =
    subst (λ (lines : List GroupLine). AreLows c.note.new.lows lines) (sym (take_more c.args.lines.now c.loop-line.line-index _ c.loop-line-test.true))
    (c.in_ok-note.ensures (take c.loop-line.line-index c.args.lines.now) c.loop-line.invariant)

pub returns : goal.returns
returns c = subst (λ (lines : List GroupLine). AreLows c.loop-line.lows lines) (take_all c.loop-line.line-index c.args.lines.now c.loop-line-test.false) c.loop-line.invariant
