-- Loads of a state word, a word of bits, a low and an up.
use Rattle.std.proofs.Common.{◌≡◌, ◌≢◌, ◌⊎◌, inl, inr, ℕ, ◌+◌, ◌<◌, ◌≤◌, true, false, [], ◌∷◌, ◌++◌, length, get_or, refl, sym, ◌∙◌, subst, arith, length-append}
use Rattle.std.proofs.Math.ListN.{get_or-append}
use Rattle.std.proofs.Math.Seq.{get_or-append_seam}
use mathlib.Core.Logic.{dite}
use mathlib.Core.Option.{none}
use native.Mathlib.Decide.{dec_le, ℕ_discrete}
use Rattle.atomic_table.specs.Table.{step, keeps, Allows}
use Rattle.seq_inst.specs.declared.instance.Instance.{Instance}
use Rattle.seq_words.specs.declared.view.Known.{Known}
use Rattle.seq_words.specs.declared.view.Role.TheVariants.{Spent}
use Rattle.seq_words.specs.Layout.{bits_at, state_at, low_at, up_at}
use Rattle.seq_words.specs.Knowledge.{known, low_seen, up_seen, IsThere, IsLowAt, IsUpAt, IsRealAt, AreAlone}
use Rattle.seq_words.specs.Rule.{Kept}
use Rattle.seq_words.specs.Plays.{hears, hears_bits, hears_low, hears_up, finds_free, Finds, SeesBits, SeesLow, SeesUp}
use Rattle.seq_words.proofs.Later.{later_same}
use Rattle.seq_words.proofs.Views.{mine, there_below, right_in, real_in, knows_fits, looks, M, not_true, no_change}
use Rattle.seq_words.proofs.Alone.{view-alone}

pub finds : (inst : Instance) (limit slots id : ℕ) (me : M) (p : ℕ) → me.0.role ≢ Spent
    → Allows (Kept inst limit) slots id me (state_at p) (λ n. n) (Finds (step slots (state_at p) 0 0 none) me)
finds inst limit slots id me p live s r _ at tiny =
    let v = me.0 in
    let ws = s.words in
    let found : ℕ = get_or ws (state_at p) 0 in
    let fit = mine inst limit s r id v at in
    let st = fit.stands p in
    dite (dec_le r.count p)
    (λ h.
    let none_yet : found ≡ 0 = r.unpublished p h in
    let w = finds_free p v in
    let next : M = (w, me.1) in (
      w,
      keeps,
      tt,
      looks inst limit s r id v at (state_at p) w (λ e. omega arith) record {
        scribe = fit.scribe;
        knows = fit.knows;
        no_other = fit.no_other;
        drafts = λ n e. let d = fit.drafts n e in record { room = d.room; real = d.real; whole = d.whole; new = d.new; few = d.few; stored = d.stored };
        terms = fit.terms;
        stands = fit.stands;
        hears = fit.hears;
      } me.1,
      (λ q e. let same : p ≡ q = omega arith in subst (λ (j : ℕ). (((found ≡ 1) × (next ≡ (hears j v, me.1))) ⊎ ((found ≡ 0) × (next ≡ (finds_free j v, me.1)) × ((known v j).there ≡ false))) × AreAlone next.0) same
          (inr (none_yet, refl, not_true (known v p).there (λ t. let o = st.there t in absurd (omega arith))), view-alone inst limit s r w fit.stands)),
    ))
    (λ h.
    let below : p < r.count = omega arith in
    let one : found ≡ 1 = r.published p below in
    let k : Known = record (known v p) { there = true } in
    let w = hears p v in
    let next : M = (w, me.1) in
    let fits = knows_fits inst limit s r id v at ws p k (later_same ws) (no_change ws) live below (λ _. refl) (λ _. refl) record { there = λ _. one; few = st.few; first = λ _. refl; bits = st.bits; low = st.low; up = st.up; most = st.most } in (
      w,
      keeps,
      tt,
      looks inst limit s r id v at (state_at p) w (λ e. omega arith) fits me.1,
      (λ q e. let same : p ≡ q = omega arith in subst (λ (j : ℕ). (((found ≡ 1) × (next ≡ (hears j v, me.1))) ⊎ ((found ≡ 0) × (next ≡ (finds_free j v, me.1)) × ((known v j).there ≡ false))) × AreAlone next.0) same
          (inl (one, refl), view-alone inst limit s r w fits.stands)),
    ))

pub sees_bits : (inst : Instance) (limit slots id : ℕ) (me : M) (p j : ℕ) → me.0.role ≢ Spent → IsThere p me.0 → j < 8 → j ≤ length (known me.0 p).bits
    → Allows (Kept inst limit) slots id me (bits_at p j) (λ n. n) (SeesBits (step slots (bits_at p j) 0 0 none) me)
sees_bits inst limit slots id me p j live t small next s r _ at tiny =
    let v = me.0 in
    let ws = s.words in
    let l : ℕ = length (known v p).bits in
    let found : ℕ = get_or ws (bits_at p j) 0 in
    let fit = mine inst limit s r id v at in
    let below = there_below inst limit s r id v at p t in
    let st = fit.stands p in
    let bs = (known v p).bits in
    let few = st.few in
    dite (dec_le l j)
    (λ h.
    let last : j ≡ l = omega arith in
    let k : Known = record (known v p) { bits = bs ++ found ∷ [] } in
    let w = hears_bits p found v in
    let next : M = (w, me.1) in
    let len : length (bs ++ found ∷ []) ≡ l + 1 = length-append bs (found ∷ []) in (
      w,
      keeps,
      tt,
      looks inst limit s r id v at (bits_at p j) w (λ e. omega arith)
          (knows_fits inst limit s r id v at ws p k (later_same ws) (no_change ws) live below (λ y. y) (λ e. absurd (omega arith)) record {
            there = st.there;
            few = omega arith;
            first = λ _. t;
            bits = λ i b. dite (ℕ_discrete i l)
                (λ e. subst (λ z. get_or ws (bits_at p z) 0 ≡ get_or (bs ++ found ∷ []) i 0) (last ∙ sym e) (sym (subst (λ z. get_or (bs ++ found ∷ []) z 0 ≡ found) (sym e) (get_or-append_seam bs found [] 0))))
                (λ ne. st.bits i (omega arith) ∙ sym (get_or-append bs (found ∷ []) 0 i (omega arith)));
            low = st.low;
            up = st.up;
            most = st.most;
          }) me.1,
      (λ q i e b. let same : p ≡ q = omega arith in let ij : j ≡ i = omega arith in
          subst (λ (z : ℕ × ℕ). (length (known v z.0).bits ≤ 8) × (z.1 < length (known v z.0).bits → (next ≡ me) × (found ≡ get_or (known v z.0).bits z.1 0)) × (z.1 ≡ length (known v z.0).bits → next ≡ (hears_bits z.0 found v, me.1))) (λ k'. (same k', ij k'))
          (few, (λ b'. absurd (omega arith)), (λ _. refl))),
    ))
    (λ h.
    let old : j < l = omega arith in
    let next : M = (v, me.1) in (
      v,
      keeps,
      tt,
      looks inst limit s r id v at (bits_at p j) v (λ e. omega arith) fit me.1,
      (λ q i e b. let same : p ≡ q = omega arith in let ij : j ≡ i = omega arith in
          subst (λ (z : ℕ × ℕ). (length (known v z.0).bits ≤ 8) × (z.1 < length (known v z.0).bits → (next ≡ me) × (found ≡ get_or (known v z.0).bits z.1 0)) × (z.1 ≡ length (known v z.0).bits → next ≡ (hears_bits z.0 found v, me.1))) (λ k'. (same k', ij k'))
          (few, (λ _. (refl, st.bits j old)), (λ b'. absurd (omega arith)))),
    ))

pub sees_low : (inst : Instance) (limit slots id : ℕ) (me : M) (p : ℕ) → me.0.role ≢ Spent → IsThere p me.0
    → Allows (Kept inst limit) slots id me (low_at p) (λ n. n) (SeesLow (step slots (low_at p) 0 0 none) me)
sees_low inst limit slots id me p live t s r _ at tiny =
    let v = me.0 in
    let ws = s.words in
    let found : ℕ = get_or ws (low_at p) 0 in
    let fit = mine inst limit s r id v at in
    let below = there_below inst limit s r id v at p t in
    let st = fit.stands p in
    let k : Known = record (known v p) { low = found } in
    let next : M = (hears_low p found v, me.1) in (
      hears_low p found v,
      keeps,
      tt,
      looks inst limit s r id v at (low_at p) (hears_low p found v) (λ e. omega arith)
          (knows_fits inst limit s r id v at ws p k (later_same ws) (no_change ws) live below (λ y. y) (λ _. refl) record { there = st.there; few = st.few; first = st.first; bits = st.bits; low = omega arith; up = st.up; most = st.most }) me.1,
      (λ q e. let same : p ≡ q = omega arith in subst (λ (j : ℕ). (next ≡ (hears_low j found v, me.1)) × (low_seen j v ≤ found) × IsLowAt j v found) same
          (refl, st.low, (right_in inst limit s r id v at ws p live below r.sound refl).0)),
    )

pub sees_up : (inst : Instance) (limit slots id : ℕ) (me : M) (p : ℕ) → me.0.role ≢ Spent → IsThere p me.0
    → Allows (Kept inst limit) slots id me (up_at p) (λ n. n) (SeesUp (step slots (up_at p) 0 0 none) me)
sees_up inst limit slots id me p live t s r _ at tiny =
    let v = me.0 in
    let ws = s.words in
    let found : ℕ = get_or ws (up_at p) 0 in
    let fit = mine inst limit s r id v at in
    let below = there_below inst limit s r id v at p t in
    let st = fit.stands p in
    let k : Known = record (known v p) { up = found } in
    let w = hears_up p found v in
    let next : M = (w, me.1) in
    let fits = knows_fits inst limit s r id v at ws p k (later_same ws) (no_change ws) live below (λ y. y) (λ _. refl) record { there = st.there; few = st.few; first = st.first; bits = st.bits; low = st.low; up = omega arith; most = r.small p } in (
      w,
      keeps,
      tt,
      looks inst limit s r id v at (up_at p) w (λ e. omega arith) fits me.1,
      (λ q e. let same : p ≡ q = omega arith in subst (λ (j : ℕ). (next ≡ (hears_up j found v, me.1)) × (found ≤ up_seen j v) × IsUpAt j v found × IsRealAt j v × AreAlone next.0) same
          (refl, st.up, (right_in inst limit s r id v at ws p live below r.sound refl).1, real_in inst limit s r id v at p live below, view-alone inst limit s r w fits.stands)),
    )
