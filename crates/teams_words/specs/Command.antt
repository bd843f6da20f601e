-- The command that is handed to clap: two words, and five options that take one value each.
use Rattle.std.specs.Prelude.{List, ℕ, Some, codes, true}
use Rattle.clap.specs.Words.{App, Rule, new_app, new_rule, with_rule}
use Rattle.clap.specs.Simple.{Shape, on_top}

abbrev pub option_rule : List ℕ → Rule
option_rule name = record (new_rule name) { long = Some name }

abbrev pub bare : App
bare = on_top (λ (s : Shape). record s { no_binary_name = true; disable_help_flag = true }) (new_app (codes "teams"))

abbrev pub with_words : App
with_words = with_rule (with_rule bare (new_rule (codes "action"))) (new_rule (codes "model"))

abbrev pub teams : App
teams = with_rule (with_rule (with_rule (with_rule (with_rule with_words (option_rule (codes "cert"))) (option_rule (codes "workers"))) (option_rule (codes "groups"))) (option_rule (codes "mode"))) (option_rule (codes "log"))
