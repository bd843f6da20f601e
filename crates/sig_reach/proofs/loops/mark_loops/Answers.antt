use Rattle.std.proofs.Common.{◌<◌, length, arith, subst, ap, ◌∙◌}
use Rattle.std.specs.Prelude.{◌↔◌, IsTrue}
use Rattle.std.specs.List.{Contains}
use Rattle.std.proofs.lemmas.Grind.{get_or_default_zero}
use Rattle.sig_reach.specs.Marks.{LeadsTo, all_open, sources_at}
use Rattle.sig_reach.specs.Components.{HasNumbered}
use Rattle.sig_reach.proofs.MarkLaws.{row-read}
use Rattle.sig_reach.proofs.LoopLaws.{loop-numbers, marks-more}
use Rattle.sig_reach.proofs.loops.mark_loops.Goals as goal

pub has_numbered-loops-requires : goal.has_numbered-loops-requires
has_numbered-loops-requires c = λ v i.
    let sources = c.args.sources.now in
    let node = c.loop-node.node in
    let lt : node < length sources = omega arith in
    let row = row-read sources node c.index-sources-node.result c.as_slice.result.now c.index-sources-node.is lt c.as_slice.ensures in
    let there = c.requires.there node v (subst (λ l. Contains l v) row i) in
    let long = c.in_ok-numbers.ensures.long in
    let value = ap length c.as_slice-in-loop-node.ensures.value in
    omega arith

pub loop-node-preserved : goal.loop-node-preserved
loop-node-preserved c =
    let sources = c.args.sources.now in
    let node = c.loop-node.node in
    let numbers = c.in_ok-numbers.numbers.items in
    let h = c.in_ok-numbers.ensures in
    let long = h.long in
    let lt : node < length sources = omega arith in
    let row = row-read sources node c.index-sources-node.result c.as_slice.result.now c.index-sources-node.is lt c.as_slice.ensures in
    let number = c.index-number.ensures ∙ get_or_default_zero numbers node c.index-number.result.now (omega arith) in
    let told = subst (λ n. IsTrue c.has_numbered-loops.result ↔ HasNumbered (sources_at sources node) numbers n) number
    (subst (λ l. IsTrue c.has_numbered-loops.result ↔ HasNumbered (sources_at sources node) l c.index-number.result.now) c.as_slice-in-loop-node.ensures.value
    (subst (λ l. IsTrue c.has_numbered-loops.result ↔ HasNumbered l c.as_slice-in-loop-node.result.now c.index-number.result.now) row c.has_numbered-loops.ensures)) in
    let loop = loop-numbers sources numbers node c.requires.there h lt in
    marks-more (λ v. LeadsTo sources (all_open sources) v v) c.loop-node.marks.items c.push.new.self.items c.has_numbered-loops.result node c.in_ok-push.ensures.items c.loop-node.invariant.0
    ((λ t. loop.0 (told.0 t)), (λ r. told.1 (loop.1 r))) c.loop-node.invariant.1
