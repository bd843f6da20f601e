use Rattle.std.proofs.Common.{◌∙◌, sym, arith}
use Rattle.seq_theory.specs.Huffman.{huff}
use Rattle.seq_theory.specs.Bound.{goal_weights}
use Rattle.seq_inst.specs.Members.{members}
use Rattle.seq_inst.specs.Instances.{problem_of}
use Rattle.seq_huff.proofs.MassLaws.{mass-says}
use Rattle.seq_huff.proofs.mass.least_huffman.Goals as goal

pub huffman_by_mass-requires-clause-some : goal.huffman_by_mass-requires-clause-some
huffman_by_mass-requires-clause-some c =
    let says = mass-says c.args.inst.now c.args.group.now c.args.mass c.requires.within (sym c.is_leaf.ensures ∙ c.if-is_leaf.false) c.requires.mass in
    let some = says.some in
    omega arith

pub huffman_by_mass-requires-clause-light : goal.huffman_by_mass-requires-clause-light
huffman_by_mass-requires-clause-light c =
    let says = mass-says c.args.inst.now c.args.group.now c.args.mass c.requires.within (sym c.is_leaf.ensures ∙ c.if-is_leaf.false) c.requires.mass in
    let low = says.light in
    omega arith

pub returns-else-is_leaf : goal.returns-else-is_leaf
returns-else-is_leaf c =
    let says = mass-says c.args.inst.now c.args.group.now c.args.mass c.requires.within (sym c.is_leaf.ensures ∙ c.if-is_leaf.false) c.requires.mass in
    let whole = says.whole in
    let by = c.huffman_by_mass.ensures (huff (goal_weights (problem_of c.args.inst.now) (members c.args.group.now))) says.low in
    let m = c.max.ensures in
    omega arith
