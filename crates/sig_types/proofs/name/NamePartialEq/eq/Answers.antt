-- Names of the same length have the same zeros behind them, so their bytes are the same where the names are.
use Rattle.std.proofs.Common.{◌≡◌, ◌-◌, drop, replicate, ap, ◌∙◌, sym, ℕ, rules}
use Rattle.sig_types.proofs.Padded.{same_front}
use Rattle.sig_types.proofs.name.NamePartialEq.eq.Goals as goal

pub returns-then-self-other : goal.returns-then-self-other
returns-then-self-other c =
    let own = c.self.inside in
    let other = c.other.inside in
    let even : own.len ≡ other.len = search rules in
    let zeros : drop own.len own.bytes ≡ drop own.len other.bytes =
    c.self.invariant.2 ∙ ap (λ n. replicate {A = ℕ} (32 - n) 0) even ∙ sym c.other.invariant.2 ∙ ap (λ n. drop n other.bytes) (sym even) in
    let same = same_front own.len own.bytes other.bytes zeros in
    rw (← c.self.view_is, ← c.other.view_is, ← even, c.eq.ensures) same
