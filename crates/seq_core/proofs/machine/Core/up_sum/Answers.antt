use Rattle.std.proofs.Common.{◌≡◌, ◌∙◌, ◌<◌, arith}
use Rattle.std.proofs.lemmas.List.{get_or_read}
use Rattle.seq_inst.specs.Instances.{problem_of}
use Rattle.seq_core.proofs.SumLaws.{first-fits}
use Rattle.seq_core.proofs.machine.Core.up_sum.Goals as goal

pub overflow_mul-first : goal.overflow_mul-first
overflow_mul-first c =
    let p = problem_of c.args.inst.now in
    let n = c.args.inst.now.costs.ok.0 in
    let t = c.requires.there in
    let there : c.args.test < p.tests = omega arith in
    let cost : c.from.result ≡ p.cost c.args.test = c.from.ensures ∙ get_or_read c.args.inst.now.costs.items c.args.test c.index.result.now there c.index.ensures 0 in
    let f = first-fits c.args.inst.now c.args.group.now c.from.result c.args.weight c.args.test c.requires.within there cost c.requires.weight in
    omega arith
