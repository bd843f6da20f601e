use Rattle.std.proofs.Common.{rules, ◌≡◌, List, [], ◌∷◌, ◌++◌, length, get_or, All, arith, sym, ◌∙◌, subst}
use Rattle.std.proofs.Math.ListN.{get_or-append, length-append}
use Rattle.std.proofs.Math.Seq.{get_or-append_seam}
use Rattle.std.proofs.lemmas.List.Elements.{All-append}
use Rattle.seq_words.proofs.ClosedRows.{learnt_kept, learnt_told, of_learnt, covers_self, covers_trans}
use Rattle.seq_words.specs.Plays.{learnt}
use Rattle.seq_words.specs.Knowledge.{Covers}
use Rattle.seq_words.specs.Seats.{IsOf, Sitting}
use Rattle.seq_words.proofs.closing.gather.Goals as goal

all_front : {X : Type 0} (P : X → Type 0) (xs ys : List X) → All P (xs ++ ys) → All P xs
all_front P xs ys a k d h = subst P (get_or-append xs ys d k h) (a k d (omega (arith, length-append xs ys)))

all_last : {X : Type 0} (P : X → Type 0) (xs : List X) (x : X) → All P (xs ++ x ∷ []) → P x
all_last P xs x a = subst P (get_or-append_seam xs x [] x) (a (length xs) x (omega (arith, length-append xs (x ∷ []))))

all_one : {X : Type 0} (P : X → Type 0) (x : X) → P x → All P (x ∷ [])
all_one P x p k d h = let e : 0 ≡ k = omega arith in subst (λ j. P (get_or (x ∷ []) j d)) e p

pub loop-seat-preserved : goal.loop-seat-preserved
loop-seat-preserved c =
    let i = c.loop-seat.invariant in
    let w = c.args.words.now in
    let x = c.loop-seat.scribe in
    let y = c.in-Some.seat in
    let left = c.pop.new.self.items in
    let items = c.in-Some.ensures.items in
    let rest = subst (All (IsOf w)) items i.rest in
    let mine = all_last (IsOf w) left y rest in
    let sizes : length x.view.known ≡ length y.view.known = i.of.sized ∙ sym mine.sized in
    let agree = c.absorb.ensures.agree in
    let is = sym c.absorb.ensures.learns in
    let kept = learnt_kept x.view y.view sizes agree in
    let told = learnt_told x.view y.view sizes agree in record {
      of = subst (IsOf w) is (of_learnt w x y i.of);
      first = subst (λ (z : Sitting). Covers z.view c.args.scribe.view) is (covers_trans (learnt x.view y.view) x.view c.args.scribe.view kept i.first);
      rest = all_front (IsOf w) left (y ∷ []) rest;
      all = λ u cov below.
          let cov' = subst (λ (z : Sitting). Covers u z.view) c.absorb.ensures.learns cov in
          let here = covers_trans u (learnt x.view y.view) y.view cov' told in
          i.all u (covers_trans u (learnt x.view y.view) x.view cov' kept)
          (subst (All (λ (s : Sitting). Covers u s.view)) (sym items) (All-append (λ (s : Sitting). Covers u s.view) left (y ∷ []) below (all_one (λ (s : Sitting). Covers u s.view) y here)));
    }

pub returns-clause-seats : goal.returns-clause-seats
returns-clause-seats c = c.loop-seat.invariant.all c.loop-seat.scribe.view (covers_self c.loop-seat.scribe.view)
    (λ k d h. let e : length c.loop-seat.seats.items ≡ 0 = search rules in absurd (omega arith))
