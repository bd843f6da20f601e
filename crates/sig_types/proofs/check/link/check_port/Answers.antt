use Rattle.std.proofs.Common.{sym}
use Rattle.sig_types.proofs.LookupLaws.{use-found, use-missing}
use Rattle.sig_types.proofs.check.link.check_port.Goals as goal

pub returns-in-Some : goal.returns-in-Some
returns-in-Some c =
    let found = use-found c.args.scope.now.block.uses c.args.name.now _ (sym c.in-Some.ensures) in
    rw (found.0, found.1, ← c.has_port.ensures) c.refuse_if.ensures

pub returns-in-None : goal.returns-in-None
returns-in-None c =
    let missing = use-missing c.args.scope.now.block.uses c.args.name.now (sym c.in-None.ensures) in
    rw missing c.refuse_if-in-None.ensures
