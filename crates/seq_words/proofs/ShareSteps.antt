-- Seats that are split and joined, and the load at which two seats' knowledge is put together.
use Rattle.std.proofs.Common.{◌≡◌, ◌≢◌, ◌⊎◌, inl, inr, ⊎_elim, ℕ, zero, suc, ◌<◌, ◌≤◌, Bool, true, false, ◌||◌, cond, ltb, true≢false, List, [], ◌∷◌, length, get_or, set, refl, sym, ap, ◌∙◌, subst, arith}
use Rattle.std.proofs.lemmas.List.{get_or_past}
use mathlib.Core.Logic.{dite}
use Rattle.std.proofs.lemmas.Bool.Decides.{nat_tests}
use mathlib.Core.Option.{none, some}
use native.Mathlib.Decide.{dec_le}
use lib.ListN.{get_elem?}
use Rattle.atomic_table.specs.Table.{step, keeps, Allows, Splits, Joins}
use Rattle.atomic_table.proofs.Lists.{at_set, at_snoc, set_again}
use Rattle.seq_theory.specs.Rows.{no_value}
use Rattle.seq_inst.specs.declared.instance.Instance.{Instance}
use Rattle.seq_words.specs.declared.view.Known.{Known}
use Rattle.seq_words.specs.declared.view.View.{View}
use Rattle.seq_words.specs.declared.view.Role.TheVariants.{Worker, Scribe, Spent}
use Rattle.seq_core.specs.Words.{classes_of}
use Rattle.seq_words.specs.Layout.{bits_at, up_at}
use Rattle.seq_words.specs.Knowledge.{unknown, known, heard}
use Rattle.seq_words.specs.Rule.{Stands, Fits, Kept}
use Rattle.seq_words.specs.Plays.{as_worker, spent, both_bits, both_known, both_lists, beside, settled, Settles}
use Rattle.seq_words.proofs.Core.{same_list}
use Rattle.seq_words.proofs.Alone.{view-alone}
use Rattle.seq_words.proofs.Views.{mine, looks, M, not_true, there_inside}

nothing_stands : (ws : List ℕ) (p : ℕ) → get_or ws (up_at p) 0 ≤ no_value → Stands ws p unknown
nothing_stands ws p small = record { there = λ t. absurd (true≢false (sym t)); few = omega arith; first = λ h. absurd (omega arith); bits = λ i h. absurd (omega arith); low = omega arith; up = small; most = omega arith }

worker_fits : (inst : Instance) (limit : ℕ) (ws : List ℕ) (seat count id j : ℕ) (v : View) → ((p : ℕ) → get_or ws (up_at p) 0 ≤ no_value) → v.role ≢ Spent → Fits inst limit ws seat count id v → Fits inst limit ws seat count j (as_worker v)
worker_fits inst limit ws seat count id j v small live f = record {
  scribe = λ n e. let none_such : Worker ≡ Scribe n = e in cc;
  knows = λ n e. let none_such : Worker ≡ Scribe n = e in cc;
  no_other = λ n e. let none_such : Worker ≡ Scribe n = e in cc;
  drafts = λ n e. let none_such : Worker ≡ Scribe n = e in cc;
  terms = λ _. f.terms live;
  stands = f.stands;
  hears = λ p. nothing_stands ws p (small p);
}

pub forks : (inst : Instance) (limit id : ℕ) (v : View) → v.role ≢ Spent → Splits (Kept inst limit) id v v (as_worker v)
forks inst limit id v live s r at = record {
  seat = r.seat;
  count = r.count;
  wide = r.wide;
  unused = r.unused;
  most = r.most;
  published = r.published;
  unpublished = r.unpublished;
  fresh = r.fresh;
  small = r.small;
  sound = r.sound;
  views = λ j u e. ⊎_elim
      (λ was. r.views j u (subst (λ l. get_elem? l j ≡ some u) (set_again s.views id v at) was))
      (λ (same : as_worker v ≡ u). subst (Fits inst limit s.words r.seat r.count j) same (worker_fits inst limit s.words r.seat r.count id j v r.small live (r.views id v at)))
      (at_snoc (set s.views id v) (as_worker v) u j e);
}

-- the kept seat has heard what the other knew
pub merges : (inst : Instance) (limit id : ℕ) (v : View) (other : ℕ) (w : View) → Joins (Kept inst limit) id v other w (beside v w) spent
merges inst limit id v other w s r at apart there =
    let theirs = ⊎_elim (λ (t : (other ≡ id) × (beside v w ≡ w)). absurd (apart t.0)) (λ (t : (other ≢ id) × (get_elem? s.views other ≡ some w)). r.views other w t.1) (at_set s.views id other (beside v w) w there) in
    let fit = r.views id v at in record {
      seat = r.seat;
      count = r.count;
      wide = r.wide;
      unused = r.unused;
      most = r.most;
      published = r.published;
      unpublished = r.unpublished;
      fresh = r.fresh;
      small = r.small;
      sound = r.sound;
      views = λ j u e. ⊎_elim
          (λ (x : (j ≡ other) × (spent ≡ u)). subst (Fits inst limit s.words r.seat r.count j) x.1 record {
            scribe = λ n eq. let none_such : Spent ≡ Scribe n = eq in cc;
            knows = λ n eq. let none_such : Spent ≡ Scribe n = eq in cc;
            no_other = λ n eq. let none_such : Spent ≡ Scribe n = eq in cc;
            drafts = λ n eq. let none_such : Spent ≡ Scribe n = eq in cc;
            terms = λ l. absurd (l refl);
            stands = λ p. nothing_stands s.words p (r.small p);
            hears = λ p. nothing_stands s.words p (r.small p);
          })
          (λ (x : (j ≢ other) × (get_elem? (set s.views id (beside v w)) j ≡ some u)). ⊎_elim
          (λ (y : (j ≡ id) × (beside v w ≡ u)). subst (λ (z : ℕ × View). Fits inst limit s.words r.seat r.count z.0 z.1) (λ i'. (sym y.0 i', y.1 i')) record {
            scribe = fit.scribe;
            knows = fit.knows;
            no_other = fit.no_other;
            drafts = λ n eq. let d = fit.drafts n eq in record { room = d.room; real = d.real; whole = d.whole; new = d.new; few = d.few; stored = d.stored };
            terms = fit.terms;
            stands = fit.stands;
            hears = theirs.stands;
          })
          (λ (y : (j ≢ id) × (get_elem? s.views j ≡ some u)). r.views j u y.1)
          (at_set s.views id j (beside v w) u x.1))
          (at_set (set s.views id (beside v w)) other j spent u e);
    }

pub both_at : (xs ys : List Known) (p : ℕ) → p < length xs → get_or (both_lists xs ys) p unknown ≡ both_known (get_or xs p unknown) (get_or ys p unknown)
both_at [] ys p h = absurd (omega arith)
both_at (x ∷ xs) [] zero h = refl
both_at (x ∷ xs) [] (suc p) h = both_at xs [] p (omega arith)
both_at (x ∷ xs) (y ∷ ys) zero h = refl
both_at (x ∷ xs) (y ∷ ys) (suc p) h = both_at xs ys p (omega arith)

pub length-both : (xs ys : List Known) → length (both_lists xs ys) ≡ length xs
length-both [] ys = refl
length-both (x ∷ xs) [] = ap suc (length-both xs [])
length-both (x ∷ xs) (y ∷ ys) = ap suc (length-both xs ys)

either_true : (a b : Bool) → (a || b) ≡ true → (a ≡ true) ⊎ (b ≡ true)
either_true true b e = inl refl
either_true false b e = inr e

pub or_left : (a b : Bool) → a ≡ true → (a || b) ≡ true
or_left true b e = refl
or_left false b e = absurd (true≢false (sym e))

pub or_right : (a b : Bool) → b ≡ true → (a || b) ≡ true
or_right true b e = refl
or_right false b e = e

-- the longer of two beginnings
both_bits_are : (P : List ℕ → Type 0) (a b : List ℕ) → P a → P b → P (both_bits a b)
both_bits_are P a b p q = by_case (ltb (length a) (length b))
  where
    by_case : (c : Bool) → P (cond c b a)
    by_case true = q
    by_case false = p

below : (m n : ℕ) → ltb m n ≡ true → m < n
below m n l = grind (arith, nat_tests)

not_below : (m n : ℕ) → ltb m n ≡ false → n ≤ m
not_below m n l = grind (arith, nat_tests)

-- the first is whole, and so is kept
pub keeps_whole : (a b : List ℕ) → length a ≡ 8 → length b ≤ 8 → both_bits a b ≡ a
keeps_whole a b e h = by_case (ltb (length a) (length b)) refl
  where
    by_case : (c : Bool) → ltb (length a) (length b) ≡ c → cond c b a ≡ a
    by_case true l = let lt = below (length a) (length b) l in absurd (omega arith)
    by_case false l = refl

-- where the first is whole, the two agree or the second is short; where the second is whole, it is kept
pub keeps_first : (a b : List ℕ) → length a ≡ 8 → (length b ≡ 8 → a ≡ b) → length b ≤ 8 → both_bits a b ≡ a
keeps_first a b e same h = keeps_whole a b e h

pub keeps_second : (a b : List ℕ) → length b ≡ 8 → (length a ≡ 8 → a ≡ b) → length a ≤ 8 → both_bits a b ≡ b
keeps_second a b e same h = by_case (ltb (length a) (length b)) refl
  where
    by_case : (c : Bool) → ltb (length a) (length b) ≡ c → cond c b a ≡ b
    by_case true l = refl
    by_case false l = let n = not_below (length a) (length b) l in same (omega arith)

stands_both : (ws : List ℕ) (p : ℕ) (a b : Known) → Stands ws p a → Stands ws p b → Stands ws p (both_known a b)
stands_both ws p a b f g = record {
  there = λ t. ⊎_elim (λ x. f.there x) (λ x. g.there x) (either_true a.there b.there t);
  few = both_bits_are (λ (l : List ℕ). length l ≤ 8) a.bits b.bits f.few g.few;
  first = both_bits_are (λ (l : List ℕ). 0 < length l → (a.there || b.there) ≡ true) a.bits b.bits (λ h. or_left a.there b.there (f.first h)) (λ h. or_right a.there b.there (g.first h));
  bits = both_bits_are (λ (l : List ℕ). (j : ℕ) → j < length l → get_or ws (bits_at p j) 0 ≡ get_or l j 0) a.bits b.bits f.bits g.bits;
  low = let x = f.low in let y = g.low in omega arith;
  up = let x = f.up in let y = g.up in omega arith;
  most = let x = f.most in let y = g.most in omega arith;
}

neither : (a b : Bool) → a ≡ false → b ≡ false → (a || b) ≡ false
neither true b e f = e
neither false b e f = f

-- a place past the list
known_past : (ks : List Known) (p : ℕ) → length ks ≤ p → get_or ks p unknown ≡ unknown
known_past ks p h = get_or_past ks p unknown h

pub settles : (inst : Instance) (limit slots id : ℕ) (me : M) → me.0.role ≢ Spent → Allows (Kept inst limit) slots id me 0 (λ n. n) (Settles (step slots 0 0 0 none) me)
settles inst limit slots id me live s r _ at tiny =
    let v = me.0 in
    let ws = s.words in
    let fit = mine inst limit s r id v at in
    let w = settled v in
    let next : M = (w, me.1) in
    let all : (p : ℕ) → p < length v.known → known w p ≡ both_known (known v p) (heard v p) = λ p h. both_at v.known v.heard p h in
    let len : length w.known ≡ length v.known = length-both v.known v.heard in
    let past : (p : ℕ) → length v.known ≤ p → known w p ≡ unknown = λ p h. known_past w.known p (omega arith) in
    let stands : (p : ℕ) → Stands ws p (known w p) = λ p. dite (dec_le (length v.known) p)
    (λ h. subst (Stands ws p) (sym (past p h)) (nothing_stands ws p (r.small p)))
    (λ h. subst (Stands ws p) (sym (all p (omega arith))) (stands_both ws p (known v p) (heard v p) (fit.stands p) (fit.hears p))) in (
      w,
      keeps,
      tt,
      looks inst limit s r id v at 0 w (λ e. omega arith) record {
        scribe = fit.scribe;
        knows = λ n eq q b. let f = fit.knows n eq q b in let i = there_inside v q f.0 in subst (λ (z : Known). (z.there ≡ true) × (length z.bits ≡ 8)) (sym (all q i))
            (or_left (known v q).there (heard v q).there f.0, ap (λ (l : List ℕ). length l) (keeps_whole (known v q).bits (heard v q).bits f.1 (fit.hears q).few) ∙ f.1);
        no_other = λ n eq q b. dite (dec_le (length v.known) q)
            (λ h. ap (λ (z : Known). z.there) (past q h))
            (λ h. subst (λ (z : Known). z.there ≡ false) (sym (all q (omega arith))) (neither (known v q).there (heard v q).there (fit.no_other n eq q b)
            (not_true (heard v q).there (λ t. let c = (fit.scribe n eq).1 in let z = r.unpublished q (omega arith) in let o = (fit.hears q).there t in absurd (omega arith)))));
        drafts = λ n eq. let d = fit.drafts n eq in record {
          room = d.room;
          real = d.real;
          whole = d.whole;
          new = λ h q b. let f = fit.knows n eq q b in let i = there_inside v q f.0 in subst (λ (z : Known). classes_of z.bits ≢ classes_of v.draft) (sym (all q i)) (subst (λ (l : List ℕ). classes_of l ≢ classes_of v.draft) (sym (keeps_whole (known v q).bits (heard v q).bits f.1 (fit.hears q).few)) (d.new h q b));
          few = d.few;
          stored = d.stored;
        };
        terms = λ l. ((fit.terms live).0, (fit.terms live).1, len ∙ (fit.terms live).2);
        stands = stands;
        hears = λ p. nothing_stands ws p (r.small p);
      } me.1,
      (
        refl,
        record {
          same = λ p a b. same_list (known v p).bits (heard v p).bits 0 (a ∙ sym b) (λ j h. sym ((fit.stands p).bits j h) ∙ (fit.hears p).bits j (omega arith));
          few_left = λ p. (fit.stands p).few;
          few_right = λ p. (fit.hears p).few;
        },
        view-alone inst limit s r w stands,
      ),
    )
