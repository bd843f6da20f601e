-- Where a list can't be read, the breaches before it are none, and its own come before all that follow.
use Rattle.std.proofs.Common.{rules}
use Rattle.std.proofs.lemmas.Result.{err_from_is_err_and}
use Rattle.sig_text.proofs.First.{told_before, told_after}
use Rattle.sig_text.proofs.tables.block_in.Goals as goal

pub returns-in_err-ports : goal.returns-in_err-ports
returns-in_err-ports c =
    let exit = err_from_is_err_and c.from_residual-in_err-ports.result c.from_residual-in_err-ports.ensures.1 in
    rw (exit.1, exit.2) (search (rules, told_after, told_before))

pub returns-in_err-switches : goal.returns-in_err-switches
returns-in_err-switches c =
    let exit = err_from_is_err_and c.from_residual-in_err-switches.result c.from_residual-in_err-switches.ensures.1 in
    rw (exit.1, exit.2) (search (rules, told_after, told_before))

pub returns-in_err-parts : goal.returns-in_err-parts
returns-in_err-parts c =
    let exit = err_from_is_err_and c.from_residual-in_err-parts.result c.from_residual-in_err-parts.ensures.1 in
    rw (exit.1, exit.2) (search (rules, told_after, told_before))

pub returns-in_err-uses : goal.returns-in_err-uses
returns-in_err-uses c =
    let exit = err_from_is_err_and c.from_residual-in_err-uses.result c.from_residual-in_err-uses.ensures.1 in
    rw (exit.1, exit.2) (search (rules, told_after, told_before))

pub returns-in_err-points : goal.returns-in_err-points
returns-in_err-points c =
    let exit = err_from_is_err_and c.from_residual-in_err-points.result c.from_residual-in_err-points.ensures.1 in
    rw (exit.1, exit.2) (search (rules, told_after, told_before))
