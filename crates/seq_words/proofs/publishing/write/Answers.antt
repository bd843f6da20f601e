use Rattle.std.proofs.Common.{ℕ, arith, sym, ap, ◌∙◌, get_or}
use Rattle.seq_words.specs.Layout.{bits_at}
use Rattle.seq_words.proofs.PublishSteps.{writes_at}
use Rattle.seq_words.proofs.publishing.write.Goals as goal

pub store-requires : goal.store-requires
store-requires c =
    let v = c.args.seat.now.me.0 in
    let t = c.requires.table in
    let part = c.requires.part in
    let e = c.bits_word.ensures ∙ ap (bits_at c.args.place) (sym part.2) in
    (t.0, (let w = c.bits_word.ensures in omega (arith, t.1)), rw e (writes_at _ _ _ _ _ _ _ c.requires.role (omega (arith, part.0, part.2)) (omega (arith, part.1, part.2)) (c.requires.bits ∙ ap (λ (j : ℕ). get_or v.draft j 0) (sym part.2))))
