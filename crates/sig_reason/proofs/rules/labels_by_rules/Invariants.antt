use Rattle.std.proofs.Common.{◌≡◌, ◌<◌, ℕ, length, get_or}
use Rattle.sig_reason.specs.declared.found.Label.TheVariants.{Unknown}
use Rattle.sig_reason.specs.Causes.{no_standing}
use Rattle.sig_reason.specs.Rules.{IsRuled}
use Rattle.sig_reason.proofs.rules.labels_by_rules.Given as goal

-- the faults so far are called what the rules say
abbrev pub invariant-loop-standing : goal.invariant-loop-standing
invariant-loop-standing l = (length l.labels.items ≡ l.standing-index) × ((f : ℕ) → f < l.standing-index → IsRuled (get_or l.standings f no_standing) l.several l.withins (get_or l.labels.items f Unknown))
