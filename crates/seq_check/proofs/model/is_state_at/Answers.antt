use Rattle.std.proofs.Common.{◌≡◌, ap, sym, ◌∙◌}
use Rattle.std.specs.Prelude.{true, false, ◌&&◌, nat_eq}
use Rattle.std.proofs.lemmas.Bool.{eq-eqb, ne_eqb}
use Rattle.std.specs.Str.{bytes_eq}
use Rattle.seq_check.proofs.PickedStates.{state_at}
use Rattle.seq_check.proofs.model.is_state_at.Goals as goal

pub returns-then-line-from : goal.returns-then-line-from
returns-then-line-from c =
    let s = c.index-states-numbers.result in
    let line = c.args.line.now in
    let y : nat_eq line.weight s.weight ≡ true = eq-eqb line.weight s.weight (c.if-line-from.true ∙ c.from.ensures) in
    c.is_same_text.ensures ∙ sym (state_at c.args.states.now c.args.numbers.now c.args.at s line c.if-at-numbers.true c.requires c.index-states-numbers.is ∙ ap (λ b. b && bytes_eq line.label s.label) y)

pub returns-else-line-from : goal.returns-else-line-from
returns-else-line-from c =
    let s = c.index-states-numbers.result in
    let line = c.args.line.now in
    let n : nat_eq line.weight s.weight ≡ false = ne_eqb line.weight s.weight (λ e. c.if-line-from.false (e ∙ sym c.from.ensures)) in
    ap (nat_eq line.weight) c.from.ensures ∙ n ∙ sym (state_at c.args.states.now c.args.numbers.now c.args.at s line c.if-at-numbers.true c.requires c.index-states-numbers.is ∙ ap (λ b. b && bytes_eq line.label s.label) n)
