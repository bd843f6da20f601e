use Rattle.std.proofs.Common.{sym, ◌∙◌, subst}
use Rattle.seq_words.specs.Knowledge.{Covers}
use Rattle.seq_words.specs.Seats.{IsOf, Sitting}
use Rattle.seq_words.proofs.ClosedRows.{learnt_kept, learnt_told, of_learnt}
use Rattle.seq_words.proofs.learning.learn_at.Goals as goal

pub returns-clause-of : goal.returns-clause-of
returns-clause-of c = subst (IsOf c.args.words.now) (sym c.learn_to.ensures.learns) (of_learnt c.args.words.now c.args.seat.now c.args.scribe.now c.requires.seat)

pub returns-clause-covers : goal.returns-clause-covers
returns-clause-covers c =
    let sizes = c.requires.seat.sized ∙ sym c.requires.scribe.sized in
    subst (λ (x : Sitting). Covers x.view c.args.seat.now.view) (sym c.learn_to.ensures.learns) (learnt_kept c.args.seat.now.view c.args.scribe.now.view sizes c.learn_to.ensures.agree)

pub returns-clause-told : goal.returns-clause-told
returns-clause-told c =
    let sizes = c.requires.seat.sized ∙ sym c.requires.scribe.sized in
    subst (λ (x : Sitting). Covers x.view c.args.scribe.now.view) (sym c.learn_to.ensures.learns) (learnt_told c.args.seat.now.view c.args.scribe.now.view sizes c.learn_to.ensures.agree)
