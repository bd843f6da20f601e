use Rattle.teams_words.proofs.Started.{rest_found, rest_missing, some_length}
use Rattle.teams_words.proofs.word.rest_after.Goals as goal

pub returns-in-Some : goal.returns-in-Some
returns-in-Some c = rest_found c.args.start.now c.args.word.now c.in-Some.rest.now c.in-Some.ensures.cases (some_length c.in-Some.rest.now c.in-Some.not-empty)

pub returns-in-None : goal.returns-in-None
returns-in-None c = rest_missing c.args.start.now c.args.word.now c.in-None.ensures.cases
