use Rattle.std.proofs.Common.{◌≡◌, ℕ, List, refl, arith, sym, ap, ◌∙◌, subst, length-set}
use Rattle.seq_words.proofs.GroupReads.{reading_first, reading_next, reading_last}
use Rattle.seq_words.specs.Plays.{knows_bits}
use Rattle.seq_words.specs.Seats.{Reading}
use Rattle.seq_words.proofs.seeing.look_group.Goals as goal

pub loop-part-init : goal.loop-part-init
loop-part-init c = record { size = refl; so_far = reading_first _ _ _ _ c.requires.seat c.requires.there }

pub loop-part-preserved : goal.loop-part-preserved
loop-part-preserved c =
    let i = c.loop-part.invariant in record {
      size = length-set c.loop-part.group c.loop-part.part c.look_part.result ∙ i.size;
      so_far = reading_next _ _ _ _ _ _ _ _ (omega arith) i.size i.so_far c.look_part.ensures;
    }

pub returns-clause-group : goal.returns-clause-group
returns-clause-group c =
    let i = c.loop-part.invariant in
    let e : c.loop-part.part ≡ 8 = omega arith in
    let r = subst (λ (n : ℕ). Reading c.args.words.now c.args.seat.now c.args.place c.loop-part.seat c.loop-part.group n) e i.so_far in
    (r.there, sym (reading_last _ _ _ _ _ i.size r), i.size)

pub returns-clause-learns : goal.returns-clause-learns
returns-clause-learns c =
    let i = c.loop-part.invariant in
    let e : c.loop-part.part ≡ 8 = omega arith in
    let r = subst (λ (n : ℕ). Reading c.args.words.now c.args.seat.now c.args.place c.loop-part.seat c.loop-part.group n) e i.so_far in
    r.is ∙ ap (λ (g : List ℕ). record { table = c.args.seat.now.table; view = knows_bits c.args.place g c.args.seat.now.view }) (sym (reading_last _ _ _ _ _ i.size r))

pub returns-clause-known : goal.returns-clause-known
returns-clause-known c =
    let i = c.loop-part.invariant in
    let e : c.loop-part.part ≡ 8 = omega arith in
    let r = subst (λ (n : ℕ). Reading c.args.words.now c.args.seat.now c.args.place c.loop-part.seat c.loop-part.group n) e i.so_far in
    λ h. reading_last _ _ _ _ _ i.size r ∙ r.whole h
