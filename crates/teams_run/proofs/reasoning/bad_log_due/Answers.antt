use Rattle.teams_run.proofs.reasoning.bad_log_due.Goals as goal

pub returns : goal.returns
returns c = record { bad = c.args.bad; first = c.requires; line = c.in_ok-text.ensures }
