use Rattle.std.proofs.Common.{ap, sym, ◌∙◌}
use Rattle.std.specs.Option.{is_some}
use Rattle.sig_types.proofs.LookupLaws.{use-some}
use Rattle.sig_types.proofs.check.link.check_item.Goals as goal

pub returns-in-None : goal.returns-in-None
returns-in-None c =
    let known = c.is_some.ensures ∙ ap is_some c.used_block.ensures ∙ sym (use-some c.args.scope.now.block.uses c.args.end.now.first) in
    rw (c.in-None.is, ← known) c.refuse_if.ensures
