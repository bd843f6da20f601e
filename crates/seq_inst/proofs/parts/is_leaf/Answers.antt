use Rattle.std.proofs.Common.{◌+◌, ◌∙◌}
use Rattle.std.specs.Option.{is_some}
use Rattle.seq_inst.proofs.FirstLaws.{found-by}
use Rattle.seq_inst.proofs.PartsLaws.{not-back, is_end-none, is_end-first}
use Rattle.seq_inst.proofs.parts.is_leaf.Goals as goal

pub returns-in-Some : goal.returns-in-Some
returns-in-Some c =
    let second = found-by c.args.group.now (c.in-Some.first + 1) c.first_from-in-Some.result c.first_from-in-Some.ensures.found c.first_from-in-Some.ensures.none in
    not-back (is_some c.first_from-in-Some.result) c.is_none.result c.is_none.ensures ∙ is_end-first c.args.inst.now c.args.group.now c.in-Some.first c.first_from-in-Some.result c.in-Some.ensures.found second

pub returns-in-None : goal.returns-in-None
returns-in-None c = is_end-none c.args.inst.now c.args.group.now c.in-None.ensures.none
