-- What closed words are: the rows that were read are the core of the words, so they are sound, and what a view knew is true of them.
use Rattle.std.proofs.Common.{◌≡◌, ◌≢◌, ℕ, zero, suc, ◌+◌, ◌*◌, ◌<◌, ◌≤◌, List, [], ◌∷◌, ◌++◌, length, get_or, refl, sym, ap, ◌∙◌, subst, arith}
use Rattle.std.proofs.lemmas.List.{get_or_past}
use mathlib.Core.Logic.{dite}
use mathlib.Core.Option.{some, some-injective, some-ne-none}
use native.Mathlib.Decide.{dec_le}
use lib.ListN.{get_elem?}
use Rattle.atomic_table.specs.Table.{State}
use Rattle.seq_theory.specs.Rows.{IsSound}
use Rattle.seq_inst.specs.declared.instance.Instance.{Instance}
use Rattle.seq_inst.specs.declared.outcome.Row.{Row}
use Rattle.seq_inst.specs.Instances.{problem_of}
use Rattle.seq_words.specs.declared.view.Known.{Known}
use Rattle.seq_words.specs.declared.view.View.{View}
use Rattle.seq_core.specs.RowsOf.{rows_of}
use Rattle.seq_words.specs.Layout.{state_at, low_at, up_at, row_held, core_of}
use Rattle.seq_words.specs.Knowledge.{unknown, known, Covers}
use Rattle.seq_words.specs.Rule.{Kept}
use Rattle.seq_words.specs.Plays.{both_known, learnt, Agree}
use Rattle.seq_words.specs.Seats.{IsOf, Wording, Sitting, sees}
use Rattle.seq_words.specs.Closing.{IsCoreTo, IsCore, AreOf}
use Rattle.seq_words.proofs.Core.{length-core, core_at}
use Rattle.seq_words.proofs.Views.{mine, there_below, group_is}
use Rattle.seq_words.proofs.ShareSteps.{both_at, keeps_whole, keeps_second, or_left, or_right, length-both}

get_or_read_at : (l : List ℕ) (i a : ℕ) → get_elem? l i ≡ some a → get_or l i 0 ≡ a
get_or_read_at [] i a e = absurd (some-ne-none a (sym e))
get_or_read_at (x ∷ xs) zero a e = some-injective x a e
get_or_read_at (x ∷ xs) (suc i) a e = get_or_read_at xs i a e

pub word_is : (ws : List ℕ) (i j a : ℕ) → get_elem? ws i ≡ some a → i ≡ j → get_or ws j 0 ≡ a
word_is ws i j a e same = subst (λ k. get_or ws k 0 ≡ a) same (get_or_read_at ws i a e)

pub core_more : (ws : List ℕ) (n : ℕ) (rows : List Row) (b : Row) → IsCoreTo ws n rows → get_or ws (state_at n) 0 ≡ 1 → b ≡ row_held ws n → IsCoreTo ws (n + 1) (rows ++ b ∷ [])
core_more ws n rows b r is e =
    let one : suc n ≡ n + 1 = omega arith in record {
      is = (λ k. r.is k ++ e k ∷ []) ∙ ap (core_of ws) one;
      published = λ p h. dite (dec_le n p) (λ b'. let same : n ≡ p = omega arith in subst (λ k. get_or ws (state_at k) 0 ≡ 1) same is) (λ b'. r.published p (omega arith));
    }

pub core_end : (ws : List ℕ) (limit n : ℕ) (rows : List Row) → n ≤ limit → IsCoreTo ws n rows → (n < limit → get_or ws (state_at n) 0 ≢ 1) → IsCore ws limit rows
core_end ws limit n rows h r stops = record { count = n; within = h; is = r.is; published = r.published; last = stops }

-- the rows that were read are those of the rule
same_count : (inst : Instance) (limit : ℕ) (s : State (Unit {0}) View) (r : Kept inst limit s) (rows : List Row) (o : IsCore s.words limit rows) → o.count ≡ r.count
same_count inst limit s r rows o =
    let w = o.within in
    let m = r.most in
    dite (dec_le o.count r.count)
    (λ h. dite (dec_le r.count o.count)
    (λ h'. omega arith)
    (λ h'. absurd (o.last (omega arith) (r.published o.count (omega arith)))))
    (λ h. let z = r.unpublished r.count (omega arith) in let one = o.published r.count (omega arith) in absurd (omega arith))

pub ends : (inst : Instance) (limit id : ℕ) (v : View) (rows : List Row) (s : State (Unit {0}) View) → Kept inst limit s → get_elem? s.views id ≡ some v → IsCore s.words limit rows → IsSound (problem_of inst) limit (rows_of rows) × AreOf v rows
ends inst limit id v rows s r at o =
    let is : rows ≡ core_of s.words r.count = o.is ∙ ap (core_of s.words) (same_count inst limit s r rows o) in
    let len = length-core s.words r.count in
    let all : AreOf v (core_of s.words r.count) = λ p t.
    let fit = mine inst limit s r id v at in
    let st = fit.stands p in
    let below = there_below inst limit s r id v at p t in
    let row_is = core_at s.words r.count p below in
    let a = st.low in
    let b = st.up in record {
      there = omega arith;
      group = λ e. ap (λ (x : Row). x.group.0) row_is ∙ group_is inst limit s r id v at p e;
      low = let e = ap (λ (x : Row). x.low) row_is in omega arith;
      up = let e = ap (λ (x : Row). x.up) row_is in omega arith;
    } in
    (subst (λ (l : List Row). IsSound (problem_of inst) limit (rows_of l)) (sym is) r.sound, subst (AreOf v) (sym is) all)

pub covers_self : (v : View) → Covers v v
covers_self v p = record { there = λ t. t; bits = λ e. refl; low = omega arith; up = omega arith }

pub covers_trans : (u v w : View) → Covers u v → Covers v w → Covers u w
covers_trans u v w f g p = let a = f p in let b = g p in record {
  there = λ t. a.there (b.there t);
  bits = λ e. a.bits (ap (λ (l : List ℕ). length l) (b.bits e) ∙ e) ∙ b.bits e;
  low = let x = a.low in let y = b.low in omega arith;
  up = let x = a.up in let y = b.up in omega arith;
}

pub covered : (v w : View) (rows : List Row) → Covers v w → AreOf v rows → AreOf w rows
covered v w rows c a p t = let f = c p in let g = a p (f.there t) in record {
  there = g.there;
  group = λ e. g.group (ap (λ (l : List ℕ). length l) (f.bits e) ∙ e) ∙ f.bits e;
  low = let x = f.low in let y = g.low in omega arith;
  up = let x = f.up in let y = g.up in omega arith;
}

module _ (v w : View) (e : length v.known ≡ length w.known) (agree : Agree v.known w.known) where
  learnt_is : (p : ℕ) → p < length v.known → known (learnt v w) p ≡ both_known (known v p) (known w p)
  learnt_is p h = both_at v.known w.known p h

  -- past the list nothing is known
  none_past : (u : View) (p : ℕ) → length u.known ≤ p → known u p ≡ unknown
  none_past u p h = get_or_past u.known p unknown h

  len : length (learnt v w).known ≡ length v.known
  len = length-both v.known w.known

  pub learnt_kept : Covers (learnt v w) v
  learnt_kept p = dite (dec_le (length v.known) p)
      (λ h. let a = none_past v p h in let b = none_past (learnt v w) p (omega (arith, len)) in let same : known (learnt v w) p ≡ known v p = b ∙ sym a in
      record { there = λ t. ap (λ (k : Known). k.there) same ∙ t; bits = λ _. ap (λ (k : Known). k.bits) same; low = let l = ap (λ (k : Known). k.low) same in omega arith; up = let l = ap (λ (k : Known). k.up) same in omega arith })
      (λ h. let is = learnt_is p (omega arith) in record {
        there = λ t. ap (λ (k : Known). k.there) is ∙ or_left (known v p).there (known w p).there t;
        bits = λ t. ap (λ (k : Known). k.bits) is ∙ keeps_whole (known v p).bits (known w p).bits t (agree.few_right p);
        low = let l = ap (λ (k : Known). k.low) is in omega arith;
        up = let l = ap (λ (k : Known). k.up) is in omega arith;
      })

  pub learnt_told : Covers (learnt v w) w
  learnt_told p = dite (dec_le (length v.known) p)
      (λ h. let a = none_past w p (omega arith) in let b = none_past (learnt v w) p (omega (arith, len)) in let same : known (learnt v w) p ≡ known w p = b ∙ sym a in
      record { there = λ t. ap (λ (k : Known). k.there) same ∙ t; bits = λ _. ap (λ (k : Known). k.bits) same; low = let l = ap (λ (k : Known). k.low) same in omega arith; up = let l = ap (λ (k : Known). k.up) same in omega arith })
      (λ h. let is = learnt_is p (omega arith) in record {
        there = λ t. ap (λ (k : Known). k.there) is ∙ or_right (known v p).there (known w p).there t;
        bits = λ t. ap (λ (k : Known). k.bits) is ∙ keeps_second (known v p).bits (known w p).bits t (λ a. agree.same p a t) (agree.few_left p);
        low = let l = ap (λ (k : Known). k.low) is in omega arith;
        up = let l = ap (λ (k : Known). k.up) is in omega arith;
      })

pub of_learnt : (w : Wording) (x y : Sitting) → IsOf w x → IsOf w (sees x (learnt x.view y.view))
of_learnt w x y f = record { table = f.table; told = f.told; limit = f.limit; sized = length-both x.view.known y.view.known ∙ f.sized }

pub row_read : (ws : List ℕ) (p a b c d e f g h l u : ℕ)
    → get_or ws (11 * p + 2) 0 ≡ a → get_or ws (11 * p + 2 + 1) 0 ≡ b → get_or ws (11 * p + 2 + 1 + 1) 0 ≡ c → get_or ws (11 * p + 2 + 1 + 1 + 1) 0 ≡ d
    → get_or ws (11 * p + 2 + 1 + 1 + 1 + 1) 0 ≡ e → get_or ws (11 * p + 2 + 1 + 1 + 1 + 1 + 1) 0 ≡ f → get_or ws (11 * p + 2 + 1 + 1 + 1 + 1 + 1 + 1) 0 ≡ g → get_or ws (11 * p + 2 + 1 + 1 + 1 + 1 + 1 + 1 + 1) 0 ≡ h
    → get_or ws (low_at p) 0 ≡ l → get_or ws (up_at p) 0 ≡ u
    → record { group = record { 0 = a ∷ b ∷ c ∷ d ∷ e ∷ f ∷ g ∷ h ∷ [] }; low = l; up = u } ≡ row_held ws p
row_read ws p a b c d e f g h l u ea eb ec ed ee ef eg eh el eu =
    sym (λ k. record { group = record { 0 = ea k ∷ eb k ∷ ec k ∷ ed k ∷ ee k ∷ ef k ∷ eg k ∷ eh k ∷ [] }; low = el k; up = eu k })
