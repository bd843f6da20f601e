use Rattle.std.proofs.lemmas.List.Sorted.{IsNonDecreasingBy-from_sort}
use Rattle.seq_huff.proofs.SortLaws.{sorted-upward}
use Rattle.seq_huff.proofs.sorting.sort_upward.Goals as goal

pub returns : goal.returns
returns c = sorted-upward c.args.numbers.now _ c.sort_unstable.ensures.permutation (IsNonDecreasingBy-from_sort (λ n. n) _ c.sort_unstable.ensures.sorted)
