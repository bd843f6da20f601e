use Rattle.teams_run.proofs.reasoning.conflict_due.Goals as goal

pub returns : goal.returns
returns c = record { found = c.args.found.now; log_is = c.requires.log; test = c.args.test; conflict = c.requires.conflict; line = c.in_ok-text.ensures }
