use Rattle.std.proofs.Common.{◌≡◌, ◌∷◌, [], ◌++◌, ◌+◌, ◌<◌, ℕ, length, get_or, ap, sym, subst, ◌∙◌, arith}
use Rattle.std.proofs.lemmas.List.{get_or_default}
use Rattle.sig_reason.specs.declared.causes.Standing.{Standing}
use Rattle.sig_reason.specs.declared.found.Label.{Label}
use Rattle.sig_reason.specs.declared.found.Label.TheVariants.{Unknown}
use Rattle.sig_reason.specs.Causes.{no_standing}
use Rattle.sig_reason.specs.Rules.{IsRuled}
use Rattle.sig_reason.proofs.Gathering.{each-next, length-next}
use Rattle.sig_reason.proofs.rules.labels_by_rules.Goals as goal

pub loop-standing-preserved : goal.loop-standing-preserved
loop-standing-preserved c =
    let n = c.loop-standing.standing-index in
    let label = c.label_by_rules.result in
    let before = c.loop-standing.labels.items in
    let pushed : c.push.new.self.items ≡ before ++ label ∷ [] = c.in_ok-push.ensures.items in
    let P : ℕ → Label → Type 0 = λ f x. IsRuled (get_or c.args.standings.now f no_standing) c.args.several c.args.withins.now x in
    let here : P n label = subst (λ (s : Standing). IsRuled s c.args.several c.args.withins.now label) (get_or_default c.args.standings.now n _ no_standing c.loop-standing-test.true) c.label_by_rules.ensures in
    let grown = each-next P before label Unknown n c.loop-standing.invariant.0 c.loop-standing.invariant.1 here in
    let long = length-next before label in
    (ap length pushed ∙ long ∙ ap (λ k. k + 1) c.loop-standing.invariant.0, λ f lt. subst (λ l. P f (get_or l f Unknown)) (sym pushed) (grown f lt))
