use Rattle.std.proofs.Common.{sym}
use Rattle.seq_cert.specs.LineForms.{is_in}
use Rattle.seq_cert.proofs.AllBytes.{goes_on, at_end}
use Rattle.seq_cert.proofs.words.are_label_bytes.Goals as goal

pub loop-at-preserved : goal.loop-at-preserved
loop-at-preserved c = goes_on (is_in 33 126) c.loop-at.at c.args.label.now c.loop-at-test.true (sym c.if-not-is_label_byte.ensures) c.loop-at.invariant

pub returns : goal.returns
returns c = at_end (is_in 33 126) c.loop-at.at c.args.label.now c.loop-at-test.false c.loop-at.invariant
