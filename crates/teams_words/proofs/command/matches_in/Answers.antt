use Rattle.std.proofs.Common.{◌≡◌, ◌∙◌, ap, map, string_bytes}
use Rattle.std.proofs.lemmas.Result.{IfErr-weaker, IfOk-weaker}
use Rattle.clap.specs.Words.{app_of, found_of, is_simple, takes, matches_of}
use Rattle.teams_words.specs.Command.{teams}
use Rattle.teams_words.proofs.Walked.{simple}
use Rattle.teams_words.proofs.Taken.{found_is, taken_where}
use Rattle.teams_words.proofs.command.matches_in.Goals as goal

pub returns-clause-found : goal.returns-clause-found
returns-clause-found c =
    let words = map string_bytes c.args.words.now in
    let command_is : app_of c.in_ok-command.command ≡ teams = c.in_ok-command.ensures in
    IfOk-weaker c.try_get_matches_from.result _ _
    (λ m h. found_is words (found_of m) ((h (ap is_simple command_is ∙ simple)).0 ∙ ap (λ a. matches_of a words) command_is))
    c.try_get_matches_from.ensures.matches

pub returns-clause-memory : goal.returns-clause-memory
returns-clause-memory c =
    let words = map string_bytes c.args.words.now in
    let command_is : app_of c.in_ok-command.command ≡ teams = c.in_ok-command.ensures in
    IfErr-weaker c.try_get_matches_from.result _ _
    (λ e h. h (ap (λ a. takes a words) command_is ∙ taken_where words c.requires))
    c.try_get_matches_from.ensures.passes
