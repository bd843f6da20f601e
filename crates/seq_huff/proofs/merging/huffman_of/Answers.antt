use Rattle.std.proofs.Common.{◌∙◌, ◌*◌, sym, ap, length, arith}
use Rattle.std.specs.Prelude.{sum}
use Rattle.seq_theory.specs.Huffman.{upward, merging, huff}
use Rattle.seq_theory.proofs.HuffmanLaws.{length-upward}
use Rattle.seq_huff.proofs.SumLaws.{sum-upward}
use Rattle.seq_huff.proofs.SortLaws.{upward-twice}
use Rattle.seq_huff.proofs.merging.huffman_of.Goals as goal

pub merge_sum-requires : goal.merge_sum-requires
merge_sum-requires c =
    let l = ap length c.sort_upward.ensures ∙ length-upward c.args.numbers.now in
    let s = ap sum c.sort_upward.ensures ∙ sum-upward c.args.numbers.now in
    let e = ap (λ n. n * sum c.sort_upward.new.numbers) l ∙ ap (λ n. length c.args.numbers.now * n) s in
    let r = c.requires in
    record {
      up = c.sort_upward.ensures ∙ sym (ap upward c.sort_upward.ensures ∙ upward-twice c.args.numbers.now);
      fits = omega arith;
    }

pub returns : goal.returns
unfolding huff
returns c =
    c.merge_sum.ensures ∙ ap (λ xs. merging (length xs) xs) c.sort_upward.ensures ∙ ap (λ n. merging n (upward c.args.numbers.now)) (length-upward c.args.numbers.now)
