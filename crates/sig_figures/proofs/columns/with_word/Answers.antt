use Rattle.std.proofs.Common.{bit_or, sym, subst, ◌-◌, arith}
use Rattle.sig_figures.specs.Gathering.{AddsBits}
use Rattle.sig_figures.proofs.Words.{adds-those, adds-others}
use Rattle.sig_figures.proofs.columns.with_word.Goals as goal

pub returns-then-alike : goal.returns-then-alike
returns-then-alike c = subst (λ b. AddsBits c.args.word c.args.other b (bit_or c.args.word (18446744073709551615 - c.args.other))) (sym c.if-alike.true) (adds-others c.args.word c.args.other (omega arith))

pub returns-else-alike : goal.returns-else-alike
returns-else-alike c = subst (λ b. AddsBits c.args.word c.args.other b (bit_or c.args.word c.args.other)) (sym c.if-alike.false) (adds-those c.args.word c.args.other)
