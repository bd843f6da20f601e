use Rattle.sig_types.proofs.VerdictLaws.{handed-on}
use Rattle.sig_types.proofs.RepeatLaws.{taken-fault}
use Rattle.sig_types.proofs.check.names.take_names.Goals as goal

pub returns-in_err-take_name-clause-verdict : goal.returns-in_err-take_name-clause-verdict
returns-in_err-take_name-clause-verdict g c =
    let told = rw (c.name.ensures, c.name_place.ensures) at c.in_err-take_name.ensures.verdict in
    handed-on _ _ _ c.from_residual.ensures.1
    (taken-fault _ (g.T.Named.name_place c.args.list) _ _ _ _ c.loop-k.invariant c.index-items-k.result c.in_err-take_name.field-0.0 c.loop-k-test.true c.index-items-k.is told.says)
