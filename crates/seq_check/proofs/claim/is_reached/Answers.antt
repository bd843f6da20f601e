use Rattle.std.proofs.Common.{◌≡◌, ◌+◌, ◌*◌, ◌∙◌, ap, refl, arith}
use Rattle.seq_check.specs.GroupLooks.{claims_of}
use Rattle.std.proofs.lemmas.List.{get_or_default}
use Rattle.std.specs.Prelude.{nat_le}
use Rattle.seq_check.proofs.LeastSums.{bounds_reach, counted_sum}
use Rattle.seq_inst.specs.Instances.{problem_of}
use Rattle.seq_inst.specs.Members.{members}
use Rattle.seq_check.proofs.claim.is_reached.Goals as goal

pub counted-pass-requires-clause-within : goal.counted-pass-requires-clause-within
counted-pass-requires-clause-within c = c.parts_of-parts.ensures.pass_within c.requires.within

pub counted-fail-requires-clause-within : goal.counted-fail-requires-clause-within
counted-fail-requires-clause-within c = c.parts_of-parts.ensures.fail_within c.requires.within

pub returns-then-low-least_sum : goal.returns-then-low-least_sum
returns-then-low-least_sum c = λ lines are.
    let p = problem_of c.args.inst.now in
    let group = members c.args.group.now in
    let pass = c.if-counts_bound.ensures p lines are.below refl in
    let fail = c.if-counts_bound-2.ensures p lines are.below refl in
    let most = c.least_sum.ensures in
    let reached = c.if-low-least_sum.true in
    bounds_reach p (claims_of lines) group (members c.parts_of-parts.result.pass) (members c.parts_of-parts.result.fail) c.args.test c.args.low c.parts_of-parts.ensures.pass c.parts_of-parts.ensures.fail pass fail (omega arith)

pub returns : goal.returns
returns c = λ lines are.
    let p = problem_of c.args.inst.now in
    let cost : c.from.result ≡ p.cost c.args.test = c.from.ensures ∙ c.index.ensures ∙ get_or_default c.args.inst.now.costs.items c.args.test c.index.result.now 0 (let n = c.args.inst.now.costs.ok.0 in let there = c.requires.there in omega arith) in
    ap (λ n. nat_le n (c.from.result * c.from-2.result + (c.from-4.result + c.from-5.result))) c.from-3.ensures
    ∙ counted_sum p (claims_of lines) (members c.args.group.now) (members c.parts_of-parts.result.pass) (members c.parts_of-parts.result.fail) c.args.test c.args.low c.from.result c.from-2.result c.from-4.result c.from-5.result c.listed-pass_low.result c.listed-fail_low.result
    c.parts_of-parts.ensures.pass c.parts_of-parts.ensures.fail (c.listed-pass_low.ensures lines are.lows) (c.listed-fail_low.ensures lines are.lows)
    (c.from-4.ensures ∙ c.counted-pass.ensures) (c.from-5.ensures ∙ c.counted-fail.ensures) cost (c.from-2.ensures ∙ c.requires.weight)
