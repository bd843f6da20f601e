use Rattle.std.proofs.Common.{◌+◌, arith, sym, ◌∙◌, subst}
use Rattle.std.specs.Mem.Slots.{slots_items}
use Rattle.seq_words.proofs.ClosedRows.{word_is, core_more, core_end}
use Rattle.seq_words.specs.Layout.{state_at}
use Rattle.seq_words.specs.Closing.{IsCoreTo}
use Rattle.seq_words.proofs.closing.rows_in.Goals as goal

pub returns-then-word-ne1 : goal.returns-then-word-ne1
returns-then-word-ne1 c =
    let w = word_is (slots_items c.args.closed.now.words) _ (state_at c.loop-place.place) c.word.result c.word.ensures (omega arith) in
    let not = c.if-word-ne1.true in
    core_end _ _ _ _ (omega arith) c.loop-place.invariant.rows (λ h e. not (sym w ∙ e))

pub loop-place-preserved : goal.loop-place-preserved
loop-place-preserved c =
    let ws = slots_items c.args.closed.now.words in
    let w = word_is ws _ (state_at c.loop-place.place) c.word.result c.word.ensures (omega arith) in
    let is = c.if-word-ne1.false in
    let i = c.loop-place.invariant in record {
      len = (let l = c.push_reserved.ensures.len in let m = i.len in omega arith);
      room = (let l = c.push_reserved.ensures.capacity in let m = i.room in omega arith);
      rows = subst (IsCoreTo ws (c.loop-place.place + 1)) (sym c.push_reserved.ensures.items)
          (core_more ws _ _ _ i.rows (w ∙ is) c.row_in.ensures);
    }
