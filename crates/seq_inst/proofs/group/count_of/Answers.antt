use Rattle.std.proofs.Common.{arith}
use Rattle.seq_inst.proofs.LaneLaws.{is-count}
use Rattle.seq_inst.proofs.group.count_of.Goals as goal

pub overflow_add-result : goal.overflow_add-result
overflow_add-result c = (is-count c.args.group.now c.lanes_of.result c.lanes_of.ensures.words c.lanes_of.ensures.lanes).steps

pub overflow_cast-result-2 : goal.overflow_cast-result-2
overflow_cast-result-2 c = let small = (is-count c.args.group.now c.lanes_of.result c.lanes_of.ensures.words c.lanes_of.ensures.lanes).small in record { fits = omega arith }

pub returns : goal.returns
returns c = (is-count c.args.group.now c.lanes_of.result c.lanes_of.ensures.words c.lanes_of.ensures.lanes).count
