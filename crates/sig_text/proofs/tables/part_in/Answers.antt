-- Where a value can't be read, the breaches before it are none, and its own come before all that follow.
use Rattle.std.proofs.Common.{rules}
use Rattle.std.proofs.lemmas.Result.{err_from_is_err_and}
use Rattle.sig_text.proofs.First.{told_before, told_after}
use Rattle.sig_text.proofs.tables.part_in.Goals as goal

pub returns-in_err-general : goal.returns-in_err-general
returns-in_err-general c =
    let exit = err_from_is_err_and c.from_residual-in_err-general.result c.from_residual-in_err-general.ensures.1 in
    rw (exit.1, exit.2) (search (rules, told_after, told_before))

pub returns-in_err-functional : goal.returns-in_err-functional
returns-in_err-functional c =
    let exit = err_from_is_err_and c.from_residual-in_err-functional.result c.from_residual-in_err-functional.ensures.1 in
    rw (exit.1, exit.2) (search (rules, told_after, told_before))
