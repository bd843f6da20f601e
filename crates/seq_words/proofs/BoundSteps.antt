-- A raise of a low word and a cap of an up word keep the rule.
use Rattle.std.proofs.Common.{◌≡◌, ◌≢◌, ℕ, ◌<◌, ◌≤◌, length, get_or, set, min, max, refl, sym, ap, ◌∙◌, subst, arith, get_or-set_same}
use mathlib.Core.Option.{none}
use Rattle.atomic_table.specs.Table.{step, keeps, Allows}
use Rattle.seq_theory.specs.Rows.{IsSound, raise, cap}
use Rattle.seq_inst.specs.declared.instance.Instance.{Instance}
use Rattle.seq_inst.specs.declared.outcome.Row.{Row}
use Rattle.seq_inst.specs.Instances.{problem_of}
use Rattle.seq_words.specs.declared.view.Known.{Known}
use Rattle.seq_words.specs.declared.view.Role.TheVariants.{Spent}
use Rattle.seq_core.specs.RowsOf.{rows_of}
use Rattle.seq_words.specs.Layout.{bits_at, state_at, low_at, up_at, core_of}
use Rattle.seq_words.specs.Knowledge.{known, low_seen, up_seen, MayRaise, MayCap, IsLowAt, IsUpAt}
use Rattle.seq_words.specs.Rule.{Kept}
use Rattle.seq_words.specs.Plays.{hears_low, hears_up, Raises, Caps}
use Rattle.seq_words.proofs.Events.{event-sound}
use Rattle.seq_words.proofs.CoreEvents.{raising, lowering}
use Rattle.seq_words.proofs.Later.{fits_later, other_low, other_up, later_low, later_up, row_low, row_up}
use Rattle.seq_words.proofs.Views.{mine, there_below, right_in, goes, knows_fits, M}

pub raises : (inst : Instance) (limit slots id : ℕ) (me : M) (p x : ℕ) → me.0.role ≢ Spent → MayRaise me.0 p x
    → Allows (Kept inst limit) slots id me (low_at p) (λ n. max n x) (Raises (step slots (low_at p) x 0 none) me)
raises inst limit slots id me p x live may s r _ at tiny =
    let v = me.0 in
    let ws = s.words in
    let found : ℕ = get_or ws (low_at p) 0 in
    let n : ℕ = max found x in
    let fit = mine inst limit s r id v at in
    let below = there_below inst limit s r id v at p may.there in
    let most = r.most in
    let wide = r.wide in
    let in_words : low_at p < length ws = omega arith in
    let q = problem_of inst in
    let rows = core_of ws r.count in
    let played = raising inst limit s r id v at p x live may in
    let later = later_low ws p n in_words (omega arith) in
    let ws' = set ws (low_at p) n in
    let new_row = row_low ws p n in_words in
    let sound : IsSound q limit (rows_of (core_of ws' r.count)) = subst (IsSound q limit) (sym played.after) (event-sound inst limit (rows_of rows) (raise p x) r.sound played.allowed) in
    let bits : (q j : ℕ) → j < 8 → get_or ws' (bits_at q j) 0 ≡ get_or ws (bits_at q j) 0 = λ q j b. other_low ws p n (bits_at q j) (λ e. omega arith) in
    let st = fit.stands p in
    let k : Known = record (known v p) { low = n } in
    let next : M = (hears_low p n v, me.1) in
    let s' = other_low ws p n (state_at p) (λ e. omega arith) in
    let u' = other_low ws p n (up_at p) (λ e. omega arith) in
    let is_now : get_or ws' (low_at p) 0 ≡ n = get_or-set_same ws (low_at p) n 0 in_words in (
      hears_low p n v,
      keeps,
      tt,
      goes inst limit s r id v at (low_at p) n (hears_low p n v) (λ e. omega arith) later (λ q. other_low ws p n (state_at q) (λ e. omega arith))
          (λ q h b. let f = r.fresh q h b in (other_low ws p n (low_at q) (λ e. omega arith) ∙ f.0, other_low ws p n (up_at q) (λ e. omega arith) ∙ f.1))
          sound
          (knows_fits inst limit s r id v at ws' p k later bits live below (λ y. y) (λ _. refl) record {
            there = λ y. s' ∙ st.there y;
            few = st.few;
            first = st.first;
            bits = λ j b. let f = st.few in bits p j (omega arith) ∙ st.bits j b;
            low = omega arith;
            up = let a = st.up in omega arith;
            most = st.most;
          })
          (λ j u _ f. fits_later inst limit ws ws' r.seat r.count j u later bits f)
          me.1,
      (λ q e. let same : p ≡ q = omega arith in subst (λ (j : ℕ). (next ≡ (hears_low j n v, me.1)) × (low_seen j v ≤ found) × IsLowAt j v n) same
          (refl, st.low, subst (IsLowAt p v) is_now (right_in inst limit s r id v at ws' p live below sound (ap (λ (z : Row). z.group.0) new_row)).0)),
    )

pub caps : (inst : Instance) (limit slots id : ℕ) (me : M) (p x : ℕ) → me.0.role ≢ Spent → MayCap me.0 p x
    → Allows (Kept inst limit) slots id me (up_at p) (λ n. min n x) (Caps (step slots (up_at p) x 0 none) me)
caps inst limit slots id me p x live may s r _ at tiny =
    let v = me.0 in
    let ws = s.words in
    let found : ℕ = get_or ws (up_at p) 0 in
    let n : ℕ = min found x in
    let fit = mine inst limit s r id v at in
    let below = there_below inst limit s r id v at p may.there in
    let most = r.most in
    let wide = r.wide in
    let in_words : up_at p < length ws = omega arith in
    let q = problem_of inst in
    let rows = core_of ws r.count in
    let played = lowering inst limit s r id v at p x live may in
    let later = later_up ws p n in_words (omega arith) in
    let ws' = set ws (up_at p) n in
    let new_row = row_up ws p n in_words in
    let sound : IsSound q limit (rows_of (core_of ws' r.count)) = subst (IsSound q limit) (sym played.after) (event-sound inst limit (rows_of rows) (cap p x) r.sound played.allowed) in
    let bits : (q j : ℕ) → j < 8 → get_or ws' (bits_at q j) 0 ≡ get_or ws (bits_at q j) 0 = λ q j b. other_up ws p n (bits_at q j) (λ e. omega arith) in
    let st = fit.stands p in
    let k : Known = record (known v p) { up = n } in
    let next : M = (hears_up p n v, me.1) in
    let s' = other_up ws p n (state_at p) (λ e. omega arith) in
    let l' = other_up ws p n (low_at p) (λ e. omega arith) in
    let is_now : get_or ws' (up_at p) 0 ≡ n = get_or-set_same ws (up_at p) n 0 in_words in (
      hears_up p n v,
      keeps,
      tt,
      goes inst limit s r id v at (up_at p) n (hears_up p n v) (λ e. omega arith) later (λ q. other_up ws p n (state_at q) (λ e. omega arith))
          (λ q h b. let f = r.fresh q h b in (other_up ws p n (low_at q) (λ e. omega arith) ∙ f.0, other_up ws p n (up_at q) (λ e. omega arith) ∙ f.1))
          sound
          (knows_fits inst limit s r id v at ws' p k later bits live below (λ y. y) (λ _. refl) record {
            there = λ y. s' ∙ st.there y;
            few = st.few;
            first = st.first;
            bits = λ j b. let f = st.few in bits p j (omega arith) ∙ st.bits j b;
            low = let a = st.low in omega arith;
            up = omega arith;
            most = let a = r.small p in omega arith;
          })
          (λ j u _ f. fits_later inst limit ws ws' r.seat r.count j u later bits f)
          me.1,
      (λ q e. let same : p ≡ q = omega arith in subst (λ (j : ℕ). (next ≡ (hears_up j n v, me.1)) × (found ≤ up_seen j v) × IsUpAt j v n) same
          (refl, st.up, subst (IsUpAt p v) is_now (right_in inst limit s r id v at ws' p live below sound (ap (λ (z : Row). z.group.0) new_row)).1)),
    )
