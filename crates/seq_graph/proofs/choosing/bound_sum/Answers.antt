use Rattle.std.proofs.Common.{◌≡◌, ◌∙◌, arith}
use Rattle.std.proofs.lemmas.List.{get_or_read}
use Rattle.seq_inst.specs.Instances.{problem_of}
use Rattle.seq_graph.proofs.ChoosingLaws.{bound-sum}
use Rattle.seq_graph.proofs.choosing.bound_sum.Goals as goal

pub overflow_mul-result : goal.overflow_mul-result
overflow_mul-result c =
    let s = c.args.graph.now in
    let inst = c.args.inst.now in
    let cost : c.from.result ≡ (problem_of inst).cost c.args.split.test = c.from.ensures ∙ get_or_read inst.costs.items c.args.split.test c.index.result.now c.requires.there c.index.ensures 0 in
    let f = bound-sum inst s.numbers s.rows.items s.nodes.items s.counts.items c.requires.known c.args.place c.requires.place c.args.split c.from.result c.bound_at-pass.result c.bound_at-fail.result c.index-2.result.now c.requires.parts c.requires.there cost c.index-2.ensures c.bound_at-pass.ensures c.bound_at-fail.ensures in
    omega (arith, f.fits)

pub overflow_add-result : goal.overflow_add-result
overflow_add-result c =
    let s = c.args.graph.now in
    let inst = c.args.inst.now in
    let cost : c.from.result ≡ (problem_of inst).cost c.args.split.test = c.from.ensures ∙ get_or_read inst.costs.items c.args.split.test c.index.result.now c.requires.there c.index.ensures 0 in
    let f = bound-sum inst s.numbers s.rows.items s.nodes.items s.counts.items c.requires.known c.args.place c.requires.place c.args.split c.from.result c.bound_at-pass.result c.bound_at-fail.result c.index-2.result.now c.requires.parts c.requires.there cost c.index-2.ensures c.bound_at-pass.ensures c.bound_at-fail.ensures in
    omega (arith, f.pass_fits, f.fail_fits)

pub overflow_add-result-2 : goal.overflow_add-result-2
overflow_add-result-2 c =
    let s = c.args.graph.now in
    let inst = c.args.inst.now in
    let cost : c.from.result ≡ (problem_of inst).cost c.args.split.test = c.from.ensures ∙ get_or_read inst.costs.items c.args.split.test c.index.result.now c.requires.there c.index.ensures 0 in
    let f = bound-sum inst s.numbers s.rows.items s.nodes.items s.counts.items c.requires.known c.args.place c.requires.place c.args.split c.from.result c.bound_at-pass.result c.bound_at-fail.result c.index-2.result.now c.requires.parts c.requires.there cost c.index-2.ensures c.bound_at-pass.ensures c.bound_at-fail.ensures in
    omega (arith, f.fits, f.pass_fits, f.fail_fits)

pub returns : goal.returns
returns c =
    let s = c.args.graph.now in
    let inst = c.args.inst.now in
    let cost : c.from.result ≡ (problem_of inst).cost c.args.split.test = c.from.ensures ∙ get_or_read inst.costs.items c.args.split.test c.index.result.now c.requires.there c.index.ensures 0 in
    let f = bound-sum inst s.numbers s.rows.items s.nodes.items s.counts.items c.requires.known c.args.place c.requires.place c.args.split c.from.result c.bound_at-pass.result c.bound_at-fail.result c.index-2.result.now c.requires.parts c.requires.there cost c.index-2.ensures c.bound_at-pass.ensures c.bound_at-fail.ensures in
    f.is
