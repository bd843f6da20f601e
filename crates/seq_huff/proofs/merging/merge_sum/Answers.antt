use Rattle.std.proofs.Common.{arith, ◌+◌, ◌<◌, ◌^◌}
use Rattle.seq_huff.proofs.MergingLaws.{MergedOnce, merging-begin, merged-once, merging-end, merging-fits}
use Rattle.seq_huff.proofs.merging.merge_sum.Goals as goal

pub loop-made-init : goal.loop-made-init
loop-made-init c = merging-begin c.args.numbers.now c.requires.up

pub overflow_add-both : goal.overflow_add-both
overflow_add-both c =
    let m : MergedOnce c.args.numbers.now c.loop-made.numbers c.take_least-second.new.fronts.weight c.take_least-second.new.fronts.sum c.loop-made.made c.loop-made.cost c.take_least-least.result c.take_least-second.result =
    merged-once c.args.numbers.now c.loop-made.numbers c.loop-made.fronts.weight c.loop-made.fronts.sum c.take_least-least.new.fronts.weight c.take_least-least.new.fronts.sum c.take_least-second.new.fronts.weight c.take_least-second.new.fronts.sum c.loop-made.made c.loop-made.cost c.take_least-least.result c.take_least-second.result
    (omega arith) c.loop-made.invariant c.take_least-least.ensures.takes c.take_least-second.ensures.takes c.take_least-second.ensures.weights c.take_least-second.ensures.sums (omega arith) in
    let f = m.fits in
    let w : c.take_least-least.result + c.take_least-second.result < 2 ^ 64 = merging-fits c.args.numbers.now (c.take_least-least.result + c.take_least-second.result) c.requires.fits (omega arith) in
    omega arith

pub overflow_add-cost : goal.overflow_add-cost
overflow_add-cost c =
    let m : MergedOnce c.args.numbers.now c.loop-made.numbers c.take_least-second.new.fronts.weight c.take_least-second.new.fronts.sum c.loop-made.made c.loop-made.cost c.take_least-least.result c.take_least-second.result =
    merged-once c.args.numbers.now c.loop-made.numbers c.loop-made.fronts.weight c.loop-made.fronts.sum c.take_least-least.new.fronts.weight c.take_least-least.new.fronts.sum c.take_least-second.new.fronts.weight c.take_least-second.new.fronts.sum c.loop-made.made c.loop-made.cost c.take_least-least.result c.take_least-second.result
    (omega arith) c.loop-made.invariant c.take_least-least.ensures.takes c.take_least-second.ensures.takes c.take_least-second.ensures.weights c.take_least-second.ensures.sums (omega arith) in
    let w : c.loop-made.cost + (c.take_least-least.result + c.take_least-second.result) < 2 ^ 64 = merging-fits c.args.numbers.now (c.loop-made.cost + (c.take_least-least.result + c.take_least-second.result)) c.requires.fits m.fits in
    omega arith

pub loop-made-preserved : goal.loop-made-preserved
loop-made-preserved c =
    let m : MergedOnce c.args.numbers.now c.loop-made.numbers c.take_least-second.new.fronts.weight c.take_least-second.new.fronts.sum c.loop-made.made c.loop-made.cost c.take_least-least.result c.take_least-second.result =
    merged-once c.args.numbers.now c.loop-made.numbers c.loop-made.fronts.weight c.loop-made.fronts.sum c.take_least-least.new.fronts.weight c.take_least-least.new.fronts.sum c.take_least-second.new.fronts.weight c.take_least-second.new.fronts.sum c.loop-made.made c.loop-made.cost c.take_least-least.result c.take_least-second.result
    (omega arith) c.loop-made.invariant c.take_least-least.ensures.takes c.take_least-second.ensures.takes c.take_least-second.ensures.weights c.take_least-second.ensures.sums (omega arith) in
    m.after

pub returns : goal.returns
returns c = merging-end c.args.numbers.now c.loop-made.numbers c.loop-made.fronts.weight c.loop-made.fronts.sum c.loop-made.made c.loop-made.cost (omega arith) (omega arith) c.loop-made.invariant
