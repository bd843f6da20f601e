-- Stores by the scribe: the words of bits of a new place one by one, and its state word, which enters the group in the core.
use Rattle.std.proofs.Common.{◌≡◌, ◌≢◌, ⊎_elim, ℕ, ◌+◌, ◌<◌, true, false, List, [], ◌∷◌, length, get_or, set, refl, sym, ap, ◌∙◌, subst, arith, length-set, get_or-set_same}
use Rattle.std.proofs.lemmas.List.{get_or-set_other}
use Rattle.std.proofs.lemmas.Bool.{false≢true}
use mathlib.Core.Logic.{dite}
use mathlib.Core.Option.{none, some}
use native.Mathlib.Decide.{ℕ_discrete}
use lib.ListN.{get_elem?}
use Rattle.atomic_table.specs.Table.{State, step, keeps, stepped, Allows}
use Rattle.atomic_table.proofs.Lists.{at_set}
use Rattle.seq_theory.specs.Graph.{IsReal}
use Rattle.seq_theory.specs.Rows.{no_value, IsSound, enter}
use Rattle.seq_inst.specs.declared.instance.Instance.{Instance}
use Rattle.seq_inst.specs.declared.outcome.Row.{Row}
use Rattle.seq_inst.specs.Instances.{problem_of}
use Rattle.seq_words.specs.declared.view.Told.{Told}
use Rattle.seq_words.specs.declared.view.Known.{Known}
use Rattle.seq_words.specs.declared.view.View.{View}
use Rattle.seq_words.specs.declared.view.Role.TheVariants.{Scribe}
use Rattle.seq_core.specs.RowsOf.{rows_of}
use Rattle.seq_core.specs.Words.{classes_of}
use Rattle.seq_words.specs.Layout.{bits_at, state_at, low_at, up_at, core_of}
use Rattle.seq_words.specs.Knowledge.{problem_in, unknown, known, heard}
use Rattle.seq_words.specs.Rule.{Stands, Drafts, Fits, Kept}
use Rattle.seq_words.specs.Plays.{begins, writes, publishes, Begins, Writes, Publishes}
use Rattle.seq_words.specs.Laws.{IsPlayed}
use Rattle.seq_words.proofs.Events.{event-sound}
use Rattle.seq_words.proofs.CoreEvents.{writing, publishing}
use Rattle.seq_words.proofs.Later.{Later, stands_later, fits_other, read_set, other_state, later_state, later_bits}
use Rattle.seq_words.proofs.Views.{known_set, count_of, scribe_live, mine, goes, M}

-- another view beside a scribe's is no scribe's
others_not : (inst : Instance) (limit : ℕ) (ws : List ℕ) (seat count id : ℕ) (v : View) (n : ℕ) → v.role ≡ Scribe n → Fits inst limit ws seat count id v → (j : ℕ) (u : View) → j ≢ id → Fits inst limit ws seat count j u → (m : ℕ) → u.role ≢ Scribe m
others_not inst limit ws seat count id v n is f j u apart g m e = apart ((g.scribe m e).0 ∙ sym (f.scribe n is).0)

-- the scribe stores a bits word of the next place
stores : (inst : Instance) (limit : ℕ) (s : State (Unit {0}) View) (r : Kept inst limit s) (id : ℕ) (v : View) (at : get_elem? s.views id ≡ some v) (n j x : ℕ) (w : View) → v.role ≡ Scribe n → n < limit → j < 8
    → w.role ≡ v.role → w.known ≡ v.known → w.heard ≡ v.heard → w.told ≡ v.told → w.limit ≡ v.limit → (Later s.words (set s.words (bits_at n j) x) → Drafts inst limit (set s.words (bits_at n j) x) n w)
    → (c : List (ℕ × Unit {0})) → Kept inst limit (stepped s (bits_at n j) x id c w keeps)
stores inst limit s r id v at n j x w is room small er ek eh ei el drafts c =
    let ws = s.words in
    let fit = mine inst limit s r id v at in
    let here = (fit.scribe n is).1 in
    let free : get_or ws (state_at n) 0 ≡ 0 = r.unpublished n (omega arith) in
    let later = later_bits ws n j x small free in
    let ws' = set ws (bits_at n j) x in
    let other : (i : ℕ) → i ≢ bits_at n j → get_or ws' i 0 ≡ get_or ws i 0 = λ i ne. get_or-set_other ws (bits_at n j) i x 0 ne in
    let role : w.role ≡ Scribe n = er ∙ is in
    let known_is : (p : ℕ) → known w p ≡ known v p = λ p. ap (λ (ks : List Known). get_or ks p unknown) ek in
    goes inst limit s r id v at (bits_at n j) x w (λ e. omega arith) later (λ q. other (state_at q) (λ e. omega arith))
    (λ q h b. let f = r.fresh q h b in (other (low_at q) (λ e. omega arith) ∙ f.0, other (up_at q) (λ e. omega arith) ∙ f.1))
    (subst (λ (l : List Row). IsSound (problem_of inst) limit (rows_of l)) (sym (writing inst limit s r id v at n j x is small)) r.sound)
    record {
      scribe = λ m e. let mn : n ≡ m = ap count_of (sym role ∙ e) in ((fit.scribe n is).0, sym mn ∙ here);
      knows = λ m e p b. let mn : n ≡ m = ap count_of (sym role ∙ e) in let f = fit.knows n is p (omega arith) in subst (λ (z : Known). (z.there ≡ true) × (length z.bits ≡ 8)) (sym (known_is p)) f;
      no_other = λ m e p b. let mn : n ≡ m = ap count_of (sym role ∙ e) in subst (λ (z : Known). z.there ≡ false) (sym (known_is p)) (fit.no_other n is p (omega arith));
      drafts = λ m e. let mn : n ≡ m = ap count_of (sym role ∙ e) in subst (λ z. Drafts inst limit ws' z w) mn (drafts later);
      terms = λ l. let t = fit.terms (scribe_live v.role n is) in (ei ∙ t.0, el ∙ t.1, ap (λ (ks : List Known). length ks) ek ∙ t.2);
      stands = λ p. subst (Stands ws' p) (sym (known_is p)) (stands_later ws ws' p (known v p) later (fit.stands p));
      hears = λ p. subst (Stands ws' p) (sym (ap (λ (ks : List Known). get_or ks p unknown) eh)) (stands_later ws ws' p (heard v p) later (fit.hears p));
    }
    (λ i u apart f. fits_other inst limit ws ws' r.seat r.count r.count i u later (others_not inst limit ws r.seat r.count id v n is fit i u apart f) f)
    c

pub begins_at : (inst : Instance) (limit slots id : ℕ) (me : M) (n x : ℕ) (g : List ℕ) → me.0.role ≡ Scribe n → me.0.stored ≡ 0 → n < me.0.limit → IsReal (problem_in me.0.told) (classes_of g) → length g ≡ 8 → ((p : ℕ) → p < n → classes_of (known me.0 p).bits ≢ classes_of g) → x ≡ get_or g 0 0
    → Allows (Kept inst limit) slots id me (bits_at n 0) (λ _. x) (λ _. Begins g (step slots (bits_at n 0) x 0 none) me x)
begins_at inst limit slots id me n x g is none_stored room real whole new val s r _ at tiny =
    let v = me.0 in
    let ws = s.words in
    let fit = mine inst limit s r id v at in
    let live = scribe_live v.role n is in
    let t = fit.terms live in
    let room' : n < limit = let e = t.1 in omega arith in
    let wide = r.wide in
    let in_words : bits_at n 0 < length ws = omega arith in
    let w = begins g v in (
      w,
      keeps,
      tt,
      stores inst limit s r id v at n 0 x w is room' (omega arith) refl refl refl refl refl
          (λ later. record {
            room = λ _. room';
            real = λ _. subst (λ (i : Told). IsReal (problem_in i) (classes_of g)) t.0 real;
            whole = λ _. whole;
            new = λ _ p b. new p b;
            few = omega arith;
            stored = λ j b. let e : 0 ≡ j = omega arith in subst (λ i. get_or (set ws (bits_at n 0) x) (bits_at n i) 0 ≡ get_or g i 0) e (get_or-set_same ws (bits_at n 0) x 0 in_words ∙ val);
          })
          me.1,
      refl,
    )

pub writes_at : (inst : Instance) (limit slots id : ℕ) (me : M) (n x : ℕ) → me.0.role ≡ Scribe n → 0 < me.0.stored → me.0.stored < 8 → x ≡ get_or me.0.draft me.0.stored 0
    → Allows (Kept inst limit) slots id me (bits_at n me.0.stored) (λ _. x) (λ _. Writes (step slots (bits_at n me.0.stored) x 0 none) me x)
writes_at inst limit slots id me n x is some_stored few val s r _ at tiny =
    let v = me.0 in
    let ws = s.words in
    let fit = mine inst limit s r id v at in
    let d = fit.drafts n is in
    let room : n < limit = d.room some_stored in
    let wide = r.wide in
    let k : ℕ = v.stored in
    let in_words : bits_at n k < length ws = omega arith in
    let w = writes v in (
      w,
      keeps,
      tt,
      stores inst limit s r id v at n k x w is room few refl refl refl refl refl
          (λ later. record {
            room = λ _. room;
            real = λ _. d.real some_stored;
            whole = λ _. d.whole some_stored;
            new = λ _ p b. d.new some_stored p b;
            few = omega arith;
            stored = λ j b. dite (ℕ_discrete j k)
                (λ e. subst (λ i. get_or (set ws (bits_at n k) x) (bits_at n i) 0 ≡ get_or v.draft i 0) (sym e) (get_or-set_same ws (bits_at n k) x 0 in_words ∙ val))
                (λ ne. get_or-set_other ws (bits_at n k) (bits_at n j) x 0 (λ e. ne (omega arith)) ∙ d.stored j (omega arith));
          })
          me.1,
      refl,
    )

-- of a place that is not known to be published, and that has its first bounds, nothing is known
nothing_known : (ws : List ℕ) (p : ℕ) (k : Known) → Stands ws p k → k.there ≡ false → (get_or ws (low_at p) 0 ≡ 0) × (get_or ws (up_at p) 0 ≡ no_value) → k ≡ unknown
nothing_known ws p k st free fresh =
    let bits : k.bits ≡ [] = no_bits k.bits (λ h. absurd (false≢true (sym free ∙ st.first h))) in
    let low : k.low ≡ 0 = let a = st.low in let b = fresh.0 in omega arith in
    let up : k.up ≡ no_value = let a = st.up in let b = fresh.1 in let d = st.most in omega arith in
    λ i. record { there = free i; bits = bits i; low = low i; up = up i }
  where
    no_bits : (l : List ℕ) → (0 < length l → ⊥) → l ≡ []
    no_bits [] h = refl
    no_bits (x ∷ xs) h = absurd (h (omega arith))

pub publishes_at : (inst : Instance) (limit slots id : ℕ) (me : M) (n : ℕ) → me.0.role ≡ Scribe n → me.0.stored ≡ 8
    → Allows (Kept inst limit) slots id me (state_at n) (λ _. 1) (λ _. Publishes (step slots (state_at n) 1 0 none) me 1)
publishes_at inst limit slots id me n is all_stored s r _ at tiny =
    let v = me.0 in
    let ws = s.words in
    let fit = mine inst limit s r id v at in
    let live = scribe_live v.role n is in
    let t = fit.terms live in
    let d = fit.drafts n is in
    let some_stored : 0 < v.stored = omega arith in
    let room : n < limit = d.room some_stored in
    let wide = r.wide in
    let in_words : state_at n < length ws = omega arith in
    let here = (fit.scribe n is).1 in
    let ws' = set ws (state_at n) 1 in
    let later = later_state ws n in_words in
    let other : (i : ℕ) → i ≢ state_at n → get_or ws' i 0 ≡ get_or ws i 0 = λ i ne. other_state ws n 1 i ne in
    let is_now : get_or ws' (state_at n) 0 ≡ 1 = get_or-set_same ws (state_at n) 1 0 in_words in
    let fresh = r.fresh n (omega arith) room in
    let whole = d.whole some_stored in
    let q = problem_of inst in
    let played = subst (λ z. IsPlayed q limit (core_of ws z) (core_of ws' (z + 1)) (enter (classes_of v.draft))) (sym here) (publishing inst limit s r id v at n is all_stored) in
    let sound_n : IsSound q limit (rows_of (core_of ws n)) = subst (λ z. IsSound q limit (rows_of (core_of ws z))) (sym here) r.sound in
    let entered = event-sound inst limit (rows_of (core_of ws n)) (enter (classes_of v.draft)) sound_n played.allowed in
    let w = publishes n v in
    let next : M = (w, me.1) in
    let k : Known = record { there = true; bits = v.draft; low = 0; up = no_value } in
    let size = t.2 in
    let inside : n < length v.known = omega arith in
    let up_now = r.small n in (
      w,
      keeps,
      tt,
      record {
        seat = r.seat;
        count = n + 1;
        wide = length-set ws (state_at n) 1 ∙ wide;
        unused = other 1 (λ e. omega arith) ∙ r.unused;
        most = omega arith;
        published = λ q b. read_set (λ x. x ≡ 1) ws (state_at n) 1 (state_at q) in_words (λ _. refl) (λ ne. r.published q (let apart : q ≢ n = λ (e : q ≡ n). ne (ap state_at e) in omega arith));
        unpublished = λ q b. other (state_at q) (λ e. omega arith) ∙ r.unpublished q (omega arith);
        fresh = λ q h b. let f = r.fresh q (omega arith) b in (other (low_at q) (λ e. omega arith) ∙ f.0, other (up_at q) (λ e. omega arith) ∙ f.1);
        small = λ p. let a = r.small p in let b = later.up p in omega arith;
        sound = subst (IsSound q limit) (sym played.after) entered;
        views = λ j u e. ⊎_elim
            (λ (x : (j ≡ id) × (w ≡ u)). subst (λ (y : ℕ × View). Fits inst limit ws' r.seat (n + 1) y.0 y.1) (λ i'. (sym x.0 i', x.1 i')) record {
              scribe = λ m eq. let mn : n + 1 ≡ m = ap count_of eq in ((fit.scribe n is).0, sym mn);
              knows = λ m eq q b. let mn : n + 1 ≡ m = ap count_of eq in known_set v n q k (λ (z : Known). (z.there ≡ true) × (length z.bits ≡ 8)) inside (λ _. (refl, whole)) (λ ne. fit.knows n is q (omega arith));
              no_other = λ m eq q b. let mn : n + 1 ≡ m = ap count_of eq in known_set v n q k (λ (z : Known). z.there ≡ false) inside (λ same. absurd (omega arith)) (λ _. fit.no_other n is q (omega arith));
              drafts = λ m eq. record { room = λ h. absurd (omega arith); real = λ h. absurd (omega arith); whole = λ h. absurd (omega arith); new = λ h. absurd (omega arith); few = omega arith; stored = λ j h. absurd (omega arith) };
              terms = λ l. (t.0, t.1, length-set v.known n k ∙ size);
              stands = λ q. known_set v n q k (Stands ws' q) inside
                  (λ same. subst (λ z. Stands ws' z k) (sym same) record {
                    there = λ _. is_now;
                    few = omega arith;
                    first = λ _. refl;
                    bits = λ j b. other (bits_at n j) (λ e. omega arith) ∙ d.stored j (omega arith);
                    low = omega arith;
                    up = let a = later.up n in omega arith;
                    most = omega arith;
                  })
                  (λ _. stands_later ws ws' q (known v q) later (fit.stands q));
              hears = λ q. stands_later ws ws' q (heard v q) later (fit.hears q);
            })
            (λ (x : (j ≢ id) × (get_elem? s.views j ≡ some u)). let f = r.views j u x.1 in fits_other inst limit ws ws' r.seat r.count (n + 1) j u later (others_not inst limit ws r.seat r.count id v n is fit j u x.0 f) f)
            (at_set s.views id j w u e);
      },
      (λ q e. let same : n ≡ q = omega arith in subst (λ (j : ℕ). (next ≡ (publishes j v, me.1)) × (known v j ≡ unknown)) same (refl, nothing_known ws n (known v n) (fit.stands n) (fit.no_other n is n (omega arith)) fresh)),
    )
