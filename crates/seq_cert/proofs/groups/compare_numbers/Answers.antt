use Rattle.std.proofs.Common.{◌≡◌, ◌-◌, ◌<◌, ◌∙◌, ℕ, suc, subst, length, drop, arith}
use Rattle.seq_cert.proofs.NumberOrder.{AreSmall, compared_at}
use Rattle.seq_cert.proofs.groups.compare_numbers.Goals as goal

pub returns-then-a-at : goal.returns-then-a-at
returns-then-a-at c =
    let a = c.args.a.now in
    let b = c.args.b.now in
    let at = length a - 1 - c.loop-passed.passed in
    let in_a : at < length a = omega arith in
    let in_b : at < length b = omega arith in
    let next : length a - c.loop-passed.passed ≡ suc at = omega arith in
    let above : drop (suc at) a ≡ drop (suc at) b = subst (λ (k : ℕ). drop k a ≡ drop k b) next c.loop-passed.invariant in
    let small_a : AreSmall a = λ i l. omega (arith, c.type_inv.a i) in
    let small_b : AreSmall b = λ i l. omega (arith, c.type_inv.b i) in
    c.cmp.ensures ∙ compared_at a b at in_a in_b small_a small_b above c.if-a-at.true
