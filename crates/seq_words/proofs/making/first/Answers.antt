use Rattle.std.proofs.Common.{ℕ, List, length, slice_index, ap, ◌∙◌, arith}
use Rattle.seq_words.proofs.Opening.{opens}
use Rattle.seq_words.proofs.making.first.Goals as goal

pub of_words-requires : goal.of_words-requires
of_words-requires c =
    let a = c.as_slice.ensures.value in
    let m = ap (λ (ns : List ℕ). length ns) a in
    let l = c.in_ok-blank.ensures.len in
    opens _ _ _ (omega arith) (λ k h. ap (λ (ns : List ℕ). slice_index ns k) a ∙ c.in_ok-blank.ensures.words k (omega arith))
