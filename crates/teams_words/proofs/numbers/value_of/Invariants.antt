use Rattle.std.proofs.Common.{◌≡◌, min, take}
use Rattle.teams_words.specs.Plans.{value_after}
use Rattle.teams_words.proofs.numbers.value_of.Given as goal

abbrev pub invariant-loop-digit : goal.invariant-loop-digit
invariant-loop-digit l = l.value ≡ min (value_after 0 (take l.digit-index l.digits)) 100000
