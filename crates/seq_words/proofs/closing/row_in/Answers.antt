use Rattle.std.proofs.Common.{◌+◌, ◌*◌, arith}
use Rattle.std.specs.Mem.Slots.{slots_items}
use Rattle.seq_words.proofs.ClosedRows.{word_is, row_read}
use Rattle.seq_words.specs.Layout.{low_at, up_at}
use Rattle.seq_words.proofs.closing.row_in.Goals as goal

pub returns : goal.returns
returns c =
    let ws = slots_items c.args.closed.now.words in
    let p = c.args.place in
    row_read ws p _ _ _ _ _ _ _ _ _ _
    (word_is ws _ (11 * p + 2) _ c.word.ensures (omega arith))
    (word_is ws _ (11 * p + 2 + 1) _ c.word-2.ensures (omega arith))
    (word_is ws _ (11 * p + 2 + 1 + 1) _ c.word-3.ensures (omega arith))
    (word_is ws _ (11 * p + 2 + 1 + 1 + 1) _ c.word-4.ensures (omega arith))
    (word_is ws _ (11 * p + 2 + 1 + 1 + 1 + 1) _ c.word-5.ensures (omega arith))
    (word_is ws _ (11 * p + 2 + 1 + 1 + 1 + 1 + 1) _ c.word-6.ensures (omega arith))
    (word_is ws _ (11 * p + 2 + 1 + 1 + 1 + 1 + 1 + 1) _ c.word-7.ensures (omega arith))
    (word_is ws _ (11 * p + 2 + 1 + 1 + 1 + 1 + 1 + 1 + 1) _ c.word-8.ensures (omega arith))
    (word_is ws _ (low_at p) _ c.word-9.ensures (omega arith))
    (word_is ws _ (up_at p) _ c.word-10.ensures (omega arith))
