use Rattle.std.proofs.Common.{◌∙◌}
use Rattle.sig_figures.proofs.ColumnLaws.{first-equal}
use Rattle.sig_figures.proofs.columns.first_equal.Goals as goal

pub returns : goal.returns
returns c = c.first_clear.ensures ∙ first-equal c.args.matrix.now c.args.test c.differing.result c.requires.test c.differing.ensures
