use Rattle.std.proofs.Common.{◌≡◌, ◌∙◌, ◌+◌, ap, arith}
use Rattle.seq_theory.specs.Bound.{sum_first}
use Rattle.seq_huff.proofs.BoundFits.{first_more, first_there, sum_first-le}
use Rattle.seq_huff.proofs.lower.sum_of_first.Goals as goal

pub overflow_add-total : goal.overflow_add-total
overflow_add-total c =
    let more = first_more c.loop-place.place c.args.numbers.now (omega arith) in
    let le = sum_first-le (c.loop-place.place + 1) c.args.numbers.now in
    let r = c.requires in
    let i = c.loop-place.invariant in
    omega arith

pub loop-place-preserved : goal.loop-place-preserved
loop-place-preserved c =
    let more = first_more c.loop-place.place c.args.numbers.now (omega arith) in
    let i = c.loop-place.invariant in
    omega arith

pub returns : goal.returns
returns c =
    let i = c.loop-place.invariant in
    let end : c.loop-place.place ≡ c.min-end.result = omega arith in
    i ∙ ap (λ n. sum_first n c.args.numbers.now) end ∙ first_there c.min-end.result c.args.count c.args.numbers.now c.min-end.ensures
