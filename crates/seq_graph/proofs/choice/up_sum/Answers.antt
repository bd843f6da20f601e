use Rattle.std.proofs.Common.{◌≡◌, ◌∙◌, arith}
use Rattle.std.proofs.lemmas.List.{get_or_read}
use Rattle.seq_inst.specs.Instances.{problem_of}
use Rattle.seq_graph.proofs.CountLaws.{up-sum}
use Rattle.seq_graph.proofs.choice.up_sum.Goals as goal

pub overflow_mul-result : goal.overflow_mul-result
overflow_mul-result c =
    let s = c.args.graph.now in
    let inst = c.args.inst.now in
    let cost : c.from.result ≡ (problem_of inst).cost c.args.split.test = c.from.ensures ∙ get_or_read inst.costs.items c.args.split.test c.index-3.result.now c.requires.there c.index-3.ensures 0 in
    let f = up-sum inst s.numbers s.rows.items s.nodes.items s.counts.items c.requires.known c.args.place c.requires.place c.args.split c.from.result c.index-4.result.now c.index.result.now c.index-2.result.now c.requires.parts c.requires.there cost c.index-4.ensures c.index.ensures c.index-2.ensures c.if-pass.false c.if-fail.false in
    omega (arith, f.product)

pub overflow_add-result : goal.overflow_add-result
overflow_add-result c =
    let s = c.args.graph.now in
    let inst = c.args.inst.now in
    let cost : c.from.result ≡ (problem_of inst).cost c.args.split.test = c.from.ensures ∙ get_or_read inst.costs.items c.args.split.test c.index-3.result.now c.requires.there c.index-3.ensures 0 in
    let f = up-sum inst s.numbers s.rows.items s.nodes.items s.counts.items c.requires.known c.args.place c.requires.place c.args.split c.from.result c.index-4.result.now c.index.result.now c.index-2.result.now c.requires.parts c.requires.there cost c.index-4.ensures c.index.ensures c.index-2.ensures c.if-pass.false c.if-fail.false in
    omega (arith, f.passing, f.failing)

pub overflow_add-result-2 : goal.overflow_add-result-2
overflow_add-result-2 c =
    let s = c.args.graph.now in
    let inst = c.args.inst.now in
    let cost : c.from.result ≡ (problem_of inst).cost c.args.split.test = c.from.ensures ∙ get_or_read inst.costs.items c.args.split.test c.index-3.result.now c.requires.there c.index-3.ensures 0 in
    let f = up-sum inst s.numbers s.rows.items s.nodes.items s.counts.items c.requires.known c.args.place c.requires.place c.args.split c.from.result c.index-4.result.now c.index.result.now c.index-2.result.now c.requires.parts c.requires.there cost c.index-4.ensures c.index.ensures c.index-2.ensures c.if-pass.false c.if-fail.false in
    omega (arith, f.product, f.passing, f.failing)

pub returns : goal.returns
returns c =
    let s = c.args.graph.now in
    let inst = c.args.inst.now in
    let cost : c.from.result ≡ (problem_of inst).cost c.args.split.test = c.from.ensures ∙ get_or_read inst.costs.items c.args.split.test c.index-3.result.now c.requires.there c.index-3.ensures 0 in
    (up-sum inst s.numbers s.rows.items s.nodes.items s.counts.items c.requires.known c.args.place c.requires.place c.args.split c.from.result c.index-4.result.now c.index.result.now c.index-2.result.now c.requires.parts c.requires.there cost c.index-4.ensures c.index.ensures c.index-2.ensures c.if-pass.false c.if-fail.false).sum
