use Rattle.std.proofs.Common.{ap, ◌∙◌}
use Rattle.sig_lines.specs.Written.{Written}
use Rattle.sig_lines.proofs.WrittenLines.{text_of_lines}
use Rattle.sig_lines.proofs.lines.Lines.into_bytes.Goals as goal

pub returns-clause-lines : goal.returns-clause-lines
returns-clause-lines c = λ lines written. ap (λ (w : Written). w.text) c.self.view_is ∙ text_of_lines c.args.self lines written
