use Rattle.std.proofs.Common.{sym, subst, arith, Option}
use Rattle.std.specs.Prelude.{IfSome}
use Rattle.std.specs.Option.{option_map}
use Rattle.seq_inst.specs.declared.group.Group.{Group}
use Rattle.seq_theory.proofs.BelowLaws.{length-passing}
use Rattle.seq_inst.specs.Members.{has_class}
use Rattle.seq_cert.specs.OutcomeReport.{missed_line}
use Rattle.seq_cert.specs.ReportForm.{IsMissedLine}
use Rattle.seq_cert.proofs.groups.write_missed.Goals as goal

pub returns-in_err-word-in-Some-clause-fits : goal.returns-in_err-word-in-Some-clause-fits
returns-in_err-word-in-Some-clause-fits c =
    let few = length-passing (has_class c.in-Some.group) 512 in
    subst (λ (m : Option Group). IfSome (option_map missed_line m) IsMissedLine) (sym c.in-Some.is) (record { size = omega arith; group = c.know_group.ensures })
