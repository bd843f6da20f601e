use Rattle.std.proofs.Common.{◌*◌, ◌/◌, ◌%◌, ◌^◌, ◌+◌, arith}
use Rattle.seq_huff.specs.Potential.{lines}
use Rattle.seq_huff.proofs.PotentialLaws.{slope-small, less-small, one-line, top-small}
use Rattle.seq_huff.proofs.potential.nearly_potential.Goals as goal

pub value_at-requires-clause-slope : goal.value_at-requires-clause-slope
unfolding lines
value_at-requires-clause-slope c = slope-small (c.args.weight * 16 % 18446744073709551616 / 2 ^ c.ilog2-top.result % 16) _ (omega arith)

pub value_at-requires-clause-less : goal.value_at-requires-clause-less
unfolding lines
value_at-requires-clause-less c = less-small (c.args.weight * 16 % 18446744073709551616 / 2 ^ c.ilog2-top.result % 16) _ (omega arith)

pub value_at-requires-clause-octave : goal.value_at-requires-clause-octave
value_at-requires-clause-octave c =
    let t = top-small c.ilog2-top.result c.args.weight c.ilog2-top.ensures.power_le c.requires.light in
    omega arith

pub returns : goal.returns
unfolding lines
returns c =
    let t = top-small c.ilog2-top.result c.args.weight c.ilog2-top.ensures.power_le c.requires.light in
    one-line (c.args.weight * 16 % 18446744073709551616 / 2 ^ c.ilog2-top.result % 16) (c.ilog2-top.result + 1) c.args.weight c.value_at.result _ (omega arith) (omega arith) c.value_at.ensures
