use Rattle.std.proofs.Common.{◌<◌, length, get_or, subst, arith}
use Rattle.std.proofs.lemmas.List.{take_all}
use Rattle.std.proofs.lemmas.List.Elements.{Contains-get_or}
use Rattle.sig_flat.specs.Counting.{AreSums}
use Rattle.sig_flat.proofs.CountingLaws.{sums-start, sums-more}
use Rattle.sig_flat.proofs.counting.with_uses.Goals as goal

pub bounds-counts-used : goal.bounds-counts-used
bounds-counts-used c =
    let lt : c.loop-used.used-index < length c.args.uses.now = omega arith in
    c.requires (get_or c.args.uses.now c.loop-used.used-index 0) (Contains-get_or c.args.uses.now c.loop-used.used-index 0 lt)

pub loop-used-init : goal.loop-used-init
loop-used-init c = sums-start c.args.own c.args.counts.now (omega arith) (omega arith) (omega arith) (omega arith) (omega arith) (omega arith)

pub loop-used-preserved : goal.loop-used-preserved
loop-used-preserved c =
    sums-more c.args.own c.loop-used.total c.with_use-total.result c.args.uses.now c.args.counts.now c.loop-used.used-index (omega arith) c.loop-used.invariant c.with_use-total.ensures

pub returns : goal.returns
returns c =
    subst (λ l. AreSums c.args.own l c.args.counts.now c.loop-used.total) (take_all c.loop-used.used-index c.args.uses.now (omega arith)) c.loop-used.invariant
