use Rattle.std.proofs.Common.{◌∙◌, sym, ap}
use Rattle.seq_theory.specs.Huffman.{huff}
use Rattle.seq_huff.proofs.GoalLaws.{goal_weights-members}
use Rattle.seq_huff.proofs.BoundFits.{weights-fit}
use Rattle.seq_huff.proofs.LeastBounds.{huffman-undercuts}
use Rattle.seq_huff.proofs.weights.huffman.Goals as goal

pub huffman_of-requires : goal.huffman_of-requires
huffman_of-requires c = weights-fit c.args.inst.now c.args.group.now _ c.requires c.write_weights-count.ensures.weights

pub returns : goal.returns
returns c =
    let weights = goal_weights-members c.args.inst.now c.args.group.now c.requires in
    let value = c.huffman_of.ensures ∙ ap huff (c.write_weights-count.ensures.weights ∙ sym weights) in
    record { value = value; weights = weights; least = huffman-undercuts c.huffman_is_least.ensures.least _ c.huffman_of.result value }
