use Rattle.std.proofs.Common.{◌≡◌, ◌+◌, length, get_or, set, take, ap, sym, ◌∙◌, arith}
use Rattle.std.proofs.lemmas.Grind.{common_steps}
use Rattle.std.proofs.lemmas.List.{get_or_read, take_more, length-take-le}
use Rattle.sig_figures.specs.Counts.{times_in, counts_of}
use Rattle.seq_theory.proofs.ByNumberLaws.{length-by_number, get_or-by_number}
use Rattle.sig_figures.proofs.SizeLaws.{counts-none, counts-more, count-small}
use Rattle.sig_figures.proofs.sizes.counts_of.Goals as goal

pub loop-number-init : goal.loop-number-init
loop-number-init c = let none = counts-none c.args.bound in grind (arith, common_steps)

pub index_mut-requires : goal.index_mut-requires
index_mut-requires c =
    let i = c.loop-number.number-index in
    let below = c.requires.below i 0 c.loop-number-test.true in
    let long = ap length c.loop-number.invariant ∙ length-by_number (times_in (take i c.args.numbers.now)) c.args.bound in
    omega arith

pub overflow_add-index_mut : goal.overflow_add-index_mut
overflow_add-index_mut c =
    let i = c.loop-number.number-index in
    let numbers = c.args.numbers.now in
    let m = get_or numbers i 0 in
    let below = c.requires.below i 0 c.loop-number-test.true in
    let few = c.requires.few in
    let long = ap length c.loop-number.invariant ∙ length-by_number (times_in (take i numbers)) c.args.bound in
    let read : c.index_mut.result.now ≡ times_in (take i numbers) m = get_or_read c.loop-number.counts.items m c.index_mut.result.now (omega arith) c.index_mut.ensures.value 0 ∙ ap (λ l. get_or l m 0) c.loop-number.invariant ∙ get_or-by_number (times_in (take i numbers)) c.args.bound m 0 below in
    let front : length (take i numbers) ≡ i = length-take-le i numbers (omega arith) in
    let small = count-small (take i numbers) m i (omega arith) in
    omega arith

pub loop-number-preserved : goal.loop-number-preserved
loop-number-preserved c =
    let i = c.loop-number.number-index in
    let numbers = c.args.numbers.now in
    let m = get_or numbers i 0 in
    let below = c.requires.below i 0 c.loop-number-test.true in
    let long = ap length c.loop-number.invariant ∙ length-by_number (times_in (take i numbers)) c.args.bound in
    ap (λ k. set c.loop-number.counts.items m (k + 1)) (get_or_read c.loop-number.counts.items m c.index_mut.result.now (omega arith) c.index_mut.ensures.value 0) ∙ ap (λ l. set l m (get_or l m 0 + 1)) c.loop-number.invariant
    ∙ counts-more (take i numbers) m c.args.bound (c.requires.below i 0 c.loop-number-test.true) ∙ ap (λ l. counts_of l c.args.bound) (sym (take_more numbers i 0 c.loop-number-test.true))
