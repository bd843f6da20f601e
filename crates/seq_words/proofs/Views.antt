-- A seat's view beside the words: what it knows is true of the core, and a step that keeps the words' bounds right keeps the rule.
use Rattle.std.proofs.Common.{◌≡◌, ◌≢◌, inl, inr, ⊎_elim, ℕ, suc, ◌+◌, ◌*◌, ◌<◌, ◌≤◌, Bool, true, false, ◌&&◌, cond, eqb, true≢false, List, [], ◌∷◌, length, get_or, set, refl, sym, ap, ◌∙◌, subst, arith, length-set}
use Rattle.std.proofs.lemmas.List.{get_or-set_other, get_or_past, set-get_or}
use Rattle.std.proofs.lemmas.Grind.{get_or-set_at}
use mathlib.Core.Logic.{dite}
use Rattle.std.proofs.lemmas.Bool.Decides.{nat_tests}
use mathlib.Core.Option.{some}
use native.Mathlib.Decide.{dec_le, ℕ_discrete}
use lib.ListN.{get_elem?}
use Rattle.atomic_table.specs.Table.{State, Me, keeps, stepped}
use Rattle.atomic_table.proofs.Lists.{at_set}
use Rattle.seq_theory.specs.Graph.{IsReal}
use Rattle.seq_theory.specs.Rows.{no_value, IsRow, IsSound}
use Rattle.seq_theory.specs.Rows.{Row as TheoryRow}
use Rattle.seq_inst.specs.declared.instance.Instance.{Instance}
use Rattle.seq_inst.specs.declared.outcome.Row.{Row}
use Rattle.seq_inst.specs.Instances.{problem_of}
use Rattle.seq_words.specs.declared.view.Told.{Told}
use Rattle.seq_words.specs.declared.view.Known.{Known}
use Rattle.seq_words.specs.declared.view.View.{View}
use Rattle.seq_words.specs.declared.view.Role.{Role}
use Rattle.seq_words.specs.declared.view.Role.TheVariants.{Worker, Scribe, Spent}
use Rattle.seq_core.specs.RowsOf.{row_of, rows_of}
use Rattle.seq_core.specs.Settled.{row_at}
use Rattle.seq_core.specs.Words.{classes_of}
use Rattle.seq_words.specs.Layout.{bits_at, state_at, low_at, up_at, span, row_held, core_of}
use Rattle.seq_words.specs.Knowledge.{told_of, problem_in, unknown, known, heard, IsThere, group_at, is_whole, seen_row, known_rows, IsLow, IsUp, IsLowAt, IsUpAt, IsRealAt}
use Rattle.seq_words.specs.Rule.{Stands, Fits, Kept}
use Rattle.seq_words.specs.Plays.{knows}
use Rattle.seq_words.proofs.Core.{same_list, span_at, length-core, core_at}
use Rattle.seq_words.proofs.Events.{row-among, row-right}
use Rattle.seq_words.specs.Laws.{IsBettered, AreBettered}
use Rattle.seq_words.proofs.Later.{Later, stands_later, drafts_later, later_same}

-- what is known of a place after a change at one place
pub known_set : (v : View) (p q : ℕ) (k : Known) (P : Known → Type 0) → p < length v.known → (q ≡ p → P k) → (q ≢ p → P (known v q)) → P (known (knows p k v) q)
known_set v p q k P h hit miss = dite (ℕ_discrete q p)
    (λ e. subst P (sym (get_or-set_at v.known p q k unknown e h)) (hit e))
    (λ ne. subst P (sym (get_or-set_other v.known p q k unknown ne)) (miss ne))

abbrev pub count_of : Role → ℕ
count_of (Scribe n) = n
count_of Worker = 0
count_of Spent = 0

pub worker_live : (r : Role) → r ≡ Worker → r ≢ Spent
worker_live r e z = let f : Worker ≡ Spent = sym e ∙ z in cc

pub scribe_live : (r : Role) (n : ℕ) → r ≡ Scribe n → r ≢ Spent
scribe_live r n e z = let f : Scribe n ≡ Spent = sym e ∙ z in cc

is_eight : (n : ℕ) → eqb n 8 ≡ true → n ≡ 8
is_eight n h = grind (arith, nat_tests)

pub whole_parts : (k : Known) → is_whole k ≡ true → (k.there ≡ true) × (length k.bits ≡ 8)
whole_parts k e = both_true k.there (eqb (length k.bits) 8) (length k.bits) e (λ h. is_eight (length k.bits) h)
  where
    both_true : (a b : Bool) (n : ℕ) → (a && b) ≡ true → (b ≡ true → n ≡ 8) → (a ≡ true) × (n ≡ 8)
    both_true true b n e f = (refl, f e)
    both_true false b n e f = absurd (true≢false (sym e))

-- a known row is that of a place
abbrev pub IsFrom : List Known → TheoryRow → Type 0
IsFrom ks x = (p : ℕ) × (p < length ks) × (is_whole (get_or ks p unknown) ≡ true) × (seen_row (get_or ks p unknown) ≡ x)

from_cons : (k : Known) (ks : List Known) (rs : List TheoryRow) (b : Bool) → is_whole k ≡ b → ((x : TheoryRow) → IsRow x rs → IsFrom ks x) → (x : TheoryRow) → IsRow x (cond b (seen_row k ∷ rs) rs) → IsFrom (k ∷ ks) x
from_cons k ks rs true e f x (inl i) = (0, omega arith, e, i)
from_cons k ks rs true e f x (inr i) = let g = f x i in (suc g.0, omega (arith, g.1), g.2, g.3)
from_cons k ks rs false e f x i = let g = f x i in (suc g.0, omega (arith, g.1), g.2, g.3)

pub known_row : (ks : List Known) (x : TheoryRow) → IsRow x (known_rows ks) → IsFrom ks x
known_row [] x i = absurd i
known_row (k ∷ ks) x i = from_cons k ks (known_rows ks) (is_whole k) refl (known_row ks) x i

module _ (inst : Instance) (limit : ℕ) (s : State (Unit {0}) View) (r : Kept inst limit s) (id : ℕ) (v : View) (at : get_elem? s.views id ≡ some v) where
  pub mine : Fits inst limit s.words r.seat r.count id v
  mine = r.views id v at

  pub there_below : (p : ℕ) → IsThere p v → p < r.count
  there_below p t = dite (dec_le r.count p) (λ h. let z = r.unpublished p h in let o = (mine.stands p).there t in absurd (omega arith)) (λ n. omega arith)

  -- a group that is known is that of its row
  pub group_is : (p : ℕ) → length (known v p).bits ≡ 8 → (row_held s.words p).group.0 ≡ (known v p).bits
  group_is p e =
      let st = mine.stands p in
      same_list (span s.words (11 * p + 2) 8) (known v p).bits 0 (sym e)
      (λ j h. let b : j < 8 = h in span_at s.words (11 * p + 2) 8 j b ∙ (ap (λ k. get_or s.words k 0) (omega arith) ∙ st.bits j (omega arith)))

  pub core_row : (p : ℕ) → p < r.count → row_at (core_of s.words r.count) p ≡ row_held s.words p
  core_row p h = core_at s.words r.count p h

  pub in_core : (p : ℕ) → p < r.count → p < length (core_of s.words r.count)
  in_core p h = let l = length-core s.words r.count in omega arith

  -- the rows that the view knows are rows of the core, with bounds that are no worse there
  pub bettered : AreBettered (known_rows v.known) (rows_of (core_of s.words r.count))
  bettered x i =
      let f = known_row v.known x i in
      let p = f.0 in
      let w = whole_parts (known v p) f.2 in
      let b = there_below p w.0 in
      let st = mine.stands p in
      let is = core_row p b in
      let low_is = ap (λ (z : Row). z.low) is in
      let up_is = ap (λ (z : Row). z.up) is in
      let low = st.low in
      let up = st.up in
      subst (IsBettered (rows_of (core_of s.words r.count))) f.3 record {
        by = row_of (row_at (core_of s.words r.count) p);
        among = row-among (core_of s.words r.count) p (in_core p b);
        group = ap (λ (z : Row). classes_of z.group.0) is ∙ ap classes_of (group_is p w.1);
        low = omega arith;
        up = omega arith;
        most = st.most;
      }

  -- the bounds in words whose rows are sound are right for a group that the view knows
  pub right_in : (ws : List ℕ) (p : ℕ) → v.role ≢ Spent → p < r.count → IsSound (problem_of inst) limit (rows_of (core_of ws r.count)) → (row_held ws p).group.0 ≡ (row_held s.words p).group.0
      → IsLowAt p v (get_or ws (low_at p) 0) × IsUpAt p v (get_or ws (up_at p) 0)
  right_in ws p live h sound same =
      let told = sym (mine.terms live).0 in
      let is = core_at ws r.count p h in
      let len = length-core ws r.count in
      let b : p < length (core_of ws r.count) = omega arith in
      let right : (e : length (known v p).bits ≡ 8) → IsLow (told_of inst) (known v p).bits (row_held ws p).low × IsUp (told_of inst) (known v p).bits (row_held ws p).up =
      λ e. subst (λ (z : Row). IsLow (told_of inst) (known v p).bits z.low × IsUp (told_of inst) (known v p).bits z.up) is
      (row-right inst limit (core_of ws r.count) p (known v p).bits b sound (ap (λ (z : Row). z.group.0) is ∙ (same ∙ group_is p e))) in
      ((λ e. subst (λ (t : Told). IsLow t (known v p).bits (row_held ws p).low) told (right e).0), (λ e. subst (λ (t : Told). IsUp t (known v p).bits (row_held ws p).up) told (right e).1))

  -- the group of a place that the view knows is real, as that of its row is
  pub real_in : (p : ℕ) → v.role ≢ Spent → p < r.count → IsRealAt p v
  real_in p live h e =
      let rows = core_of s.words r.count in
      let real = r.sound.real (row_of (row_at rows p)) (row-among rows p (in_core p h)) in
      let group : classes_of (row_at rows p).group.0 ≡ group_at p v = ap (λ (z : Row). classes_of z.group.0) (core_row p h) ∙ ap classes_of (group_is p e) in
      subst (λ (t : Told). IsReal (problem_in t) (group_at p v)) (sym (mine.terms live).0) (subst (IsReal (problem_of inst)) group real)

  -- a step that publishes nothing
  pub goes : (i n : ℕ) (w : View) → i ≢ 1 → Later s.words (set s.words i n)
      → ((p : ℕ) → get_or (set s.words i n) (state_at p) 0 ≡ get_or s.words (state_at p) 0)
      → ((p : ℕ) → r.count ≤ p → p < limit → (get_or (set s.words i n) (low_at p) 0 ≡ 0) × (get_or (set s.words i n) (up_at p) 0 ≡ no_value))
      → IsSound (problem_of inst) limit (rows_of (core_of (set s.words i n) r.count))
      → Fits inst limit (set s.words i n) r.seat r.count id w
      → ((j : ℕ) (u : View) → j ≢ id → Fits inst limit s.words r.seat r.count j u → Fits inst limit (set s.words i n) r.seat r.count j u)
      → (c : List (ℕ × Unit {0})) → Kept inst limit (stepped s i n id c w keeps)
  goes i n w far later states fresh sound new others c = record {
    seat = r.seat;
    count = r.count;
    wide = length-set s.words i n ∙ r.wide;
    unused = get_or-set_other s.words i 1 n 0 (λ k. far (sym k)) ∙ r.unused;
    most = r.most;
    published = λ p h. states p ∙ r.published p h;
    unpublished = λ p h. states p ∙ r.unpublished p h;
    fresh = fresh;
    small = λ p. let a = r.small p in let b = later.up p in omega arith;
    sound = sound;
    views = λ j u e. ⊎_elim
        (λ (x : (j ≡ id) × (w ≡ u)). subst (λ (y : ℕ × View). Fits inst limit (set s.words i n) r.seat r.count y.0 y.1) (λ i'. (sym x.0 i', x.1 i')) new)
        (λ (x : (j ≢ id) × (get_elem? s.views j ≡ some u)). others j u x.0 (r.views j u x.1))
        (at_set s.views id j w u e);
  }

  -- the same view with other knowledge of one place
  pub knows_fits : (ws : List ℕ) (p : ℕ) (k : Known) → Later s.words ws → ((q j : ℕ) → j < 8 → get_or ws (bits_at q j) 0 ≡ get_or s.words (bits_at q j) 0) → v.role ≢ Spent → p < r.count
      → ((known v p).there ≡ true → k.there ≡ true) → (length (known v p).bits ≡ 8 → k.bits ≡ (known v p).bits) → Stands ws p k
      → Fits inst limit ws r.seat r.count id (knows p k v)
  knows_fits ws p k later same live below kept whole stands =
      let size = (mine.terms live).2 in
      let m = r.most in
      let inside : p < length v.known = omega arith in record {
        scribe = mine.scribe;
        knows = λ n e q b. known_set v p q k (λ (x : Known). (x.there ≡ true) × (length x.bits ≡ 8)) inside
            (λ is. let f = mine.knows n e p (subst (λ z. z < n) is b) in (kept f.0, ap (λ (g : List ℕ). length g) (whole f.1) ∙ f.1))
            (λ _. mine.knows n e q b);
        no_other = λ n e q b. let c = (mine.scribe n e).1 in known_set v p q k (λ (x : Known). x.there ≡ false) inside (λ is. absurd (omega arith)) (λ _. mine.no_other n e q b);
        drafts = λ n e. let d = drafts_later inst limit s.words ws n v same (mine.drafts n e) in record {
          room = d.room;
          real = d.real;
          whole = d.whole;
          new = λ h q b. known_set v p q k (λ (x : Known). classes_of x.bits ≢ classes_of v.draft) inside
              (λ is. let b' : p < n = omega arith in let f = mine.knows n e p b' in subst (λ (g : List ℕ). classes_of g ≢ classes_of v.draft) (sym (whole f.1)) (d.new h p b'))
              (λ _. d.new h q b);
          few = d.few;
          stored = d.stored;
        };
        terms = λ l. ((mine.terms live).0, (mine.terms live).1, length-set v.known p k ∙ size);
        stands = λ q. known_set v p q k (Stands ws q) inside (λ is. subst (λ j. Stands ws j k) (sym is) stands) (λ _. stands_later s.words ws q (known v q) later (mine.stands q));
        hears = λ q. stands_later s.words ws q (heard v q) later (mine.hears q);
      }

  -- a load
  pub looks : (i : ℕ) (w : View) → i ≢ 1 → Fits inst limit s.words r.seat r.count id w → (c : List (ℕ × Unit {0})) → Kept inst limit (stepped s i (get_or s.words i 0) id c w keeps)
  looks i w far new c =
      let same : set s.words i (get_or s.words i 0) ≡ s.words = set-get_or s.words i 0 in
      goes i (get_or s.words i 0) w far
      (subst (Later s.words) (sym same) (later_same s.words))
      (λ p. ap (λ l. get_or l (state_at p) 0) same)
      (λ p h b. subst (λ (l : List ℕ). (get_or l (low_at p) 0 ≡ 0) × (get_or l (up_at p) 0 ≡ no_value)) (sym same) (r.fresh p h b))
      (subst (λ (l : List ℕ). IsSound (problem_of inst) limit (rows_of (core_of l r.count))) (sym same) r.sound)
      (subst (λ (l : List ℕ). Fits inst limit l r.seat r.count id w) (sym same) new)
      (λ j u _ f. subst (λ (l : List ℕ). Fits inst limit l r.seat r.count j u) (sym same) f)
      c

abbrev pub M : Type 0
M = Me (Unit {0}) View

pub not_true : (b : Bool) → (b ≡ true → ⊥) → b ≡ false
not_true true n = absurd (n refl)
not_true false n = refl

pub no_change : (ws : List ℕ) (q j : ℕ) → j < 8 → get_or ws (bits_at q j) 0 ≡ get_or ws (bits_at q j) 0
no_change ws q j b = refl

pub there_inside : (v : View) (p : ℕ) → IsThere p v → p < length v.known
there_inside v p t = dite (dec_le (length v.known) p)
    (λ h. let e : false ≡ true = subst (λ (k : Known). k.there ≡ true) (get_or_past v.known p unknown h) t in cc)
    (λ n. omega arith)
