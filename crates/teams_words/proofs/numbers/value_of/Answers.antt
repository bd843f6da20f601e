use Rattle.std.proofs.Common.{◌∙◌, ◌+◌, ◌*◌, min, ap}
use Rattle.teams_words.proofs.ValueLaws.{value-step}
use Rattle.teams_words.proofs.numbers.value_of.Goals as goal

pub loop-digit-preserved : goal.loop-digit-preserved
loop-digit-preserved c =
    c.min-value.ensures ∙ ap (λ d. min (c.loop-digit.value * 10 + d) 100000) (c.from.ensures ∙ c.saturating_sub.ensures)
    ∙ value-step c.args.digits.now c.loop-digit.digit-index c.loop-digit.value c.loop-digit-test.true c.loop-digit.invariant
