-- Where a list can't be read, the breaches before it are none, and its own come before all that follow.
use Rattle.std.proofs.Common.{rules}
use Rattle.std.proofs.lemmas.Result.{err_from_is_err_and}
use Rattle.sig_text.proofs.First.{told_before, told_after}
use Rattle.sig_text.proofs.tables.model_in.Goals as goal

pub returns-in_err-signals : goal.returns-in_err-signals
returns-in_err-signals c =
    let exit = err_from_is_err_and c.from_residual-in_err-signals.result c.from_residual-in_err-signals.ensures.1 in
    rw (exit.1, exit.2) (search (rules, told_after, told_before))

pub returns-in_err-modes : goal.returns-in_err-modes
returns-in_err-modes c =
    let exit = err_from_is_err_and c.from_residual-in_err-modes.result c.from_residual-in_err-modes.ensures.1 in
    rw (exit.1, exit.2) (search (rules, told_after, told_before))

pub returns-in_err-top : goal.returns-in_err-top
returns-in_err-top c =
    let exit = err_from_is_err_and c.from_residual-in_err-top.result c.from_residual-in_err-top.ensures.1 in
    rw (exit.1, exit.2) (search (rules, told_after, told_before))
