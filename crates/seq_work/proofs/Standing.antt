-- A worker's rows beside its seat's view. As the view only ever knows more, a row that stands goes on standing; and as each row stands,
-- the view's rows are no worse than the worker's, so what these allow the view allows.
use Rattle.std.proofs.Common.{◌≡◌, inl, inr, ℕ, zero, suc, ◌<◌, ◌≤◌, Bool, true, false, ◌&&◌, cond, List, [], ◌∷◌, length, get_or, set, refl, sym, ap, ◌∙◌, subst, arith, true≢false, All, eqb}
use Rattle.std.proofs.lemmas.Bool.{and_from, eq-eqb}
use Rattle.std.proofs.lemmas.List.{get_or_past, get_or-set_same}
use mathlib.Core.Logic.{dite}
use native.Mathlib.Decide.{dec_le}
use Rattle.std.specs.List.{AllZip}
use Rattle.seq_theory.specs.Rows.{groups_of, IsRow, AreDistinct, no_value}
use Rattle.seq_theory.specs.Rows.{Row as TheoryRow}
use Rattle.seq_inst.specs.declared.outcome.Row.{Row}
use Rattle.seq_core.specs.Words.{classes_of}
use Rattle.seq_core.specs.RowsOf.{row_of as row_from, rows_of as rows_from}
use Rattle.seq_words.specs.declared.view.Known.{Known}
use Rattle.seq_words.specs.declared.view.View.{View}
use Rattle.seq_words.specs.Knowledge.{unknown, known, IsThere, AreAlone, Covers, low_seen, up_seen, is_whole, seen_row, known_rows}
use Rattle.seq_words.specs.Plays.{hears_low, hears_up}
use Rattle.seq_words.specs.Laws.{IsBettered, AreBettered}
use Rattle.seq_work.specs.Works.{StandsAt}

-- a row goes on standing where the view knows more
pub moved : (v w : View) → Covers w v → (r : Row) (q : ℕ) → StandsAt v r q → StandsAt w r q
moved v w c r q s =
    let k = c q in
    let bits = k.bits s.known.1 in
    record {
      known = (k.there s.known.0, ap (λ (l : List ℕ). length l) bits ∙ s.known.1);
      group = ap classes_of bits ∙ s.group;
      low = (let a = k.low in let b = s.low in omega arith);
      up = (let a = k.up in let b = s.up in omega arith);
    }

-- a place that is known is one of the list
pub inside : (v : View) (p : ℕ) → IsThere p v → p < length v.known
inside v p t = dite (dec_le (length v.known) p) (λ h. absurd (true≢false (sym t ∙ ap (λ (k : Known). k.there) (get_or_past v.known p unknown h)))) (λ n. omega arith)

pub low-heard : (v : View) (p x : ℕ) → IsThere p v → low_seen p (hears_low p x v) ≡ x
low-heard v p x t = ap (λ (k : Known). k.low) (get_or-set_same v.known p (record (known v p) { low = x }) unknown (inside v p t))

pub up-heard : (v : View) (p x : ℕ) → IsThere p v → up_seen p (hears_up p x v) ≡ x
up-heard v p x t = ap (λ (k : Known). k.up) (get_or-set_same v.known p (record (known v p) { up = x }) unknown (inside v p t))

-- ---- hearing bounds changes no group ----

cond-groups : (b : Bool) (r s : TheoryRow) (xs ys : List TheoryRow) → r.group ≡ s.group → groups_of xs ≡ groups_of ys → groups_of (cond b (r ∷ xs) xs) ≡ groups_of (cond b (s ∷ ys) ys)
cond-groups true r s xs ys e f = (λ i. e i ∷ f i)
cond-groups false r s xs ys e f = f

groups-same : (ks : List Known) (p : ℕ) (k : Known) → k.there ≡ (get_or ks p unknown).there → k.bits ≡ (get_or ks p unknown).bits → groups_of (known_rows (set ks p k)) ≡ groups_of (known_rows ks)
groups-same [] p k t b = refl
groups-same (y ∷ ks) zero k t b =
    let whole : is_whole k ≡ is_whole y = ap (λ x. x && (eqb (length k.bits) 8)) t ∙ ap (λ (l : List ℕ). y.there && (eqb (length l) 8)) b in
    ap (λ x. groups_of (cond x (seen_row k ∷ known_rows ks) (known_rows ks))) whole ∙ cond-groups (is_whole y) (seen_row k) (seen_row y) (known_rows ks) (known_rows ks) (ap classes_of b) refl
groups-same (y ∷ ks) (suc p) k t b = cond-groups (is_whole y) (seen_row y) (seen_row y) (known_rows (set ks p k)) (known_rows ks) refl (groups-same ks p k t b)

pub alone-low : (v : View) (p x : ℕ) → AreAlone v → AreAlone (hears_low p x v)
alone-low v p x a = subst AreDistinct (sym (groups-same v.known p (record (known v p) { low = x }) refl refl)) a

pub alone-up : (v : View) (p x : ℕ) → AreAlone v → AreAlone (hears_up p x v)
alone-up v p x a = subst AreDistinct (sym (groups-same v.known p (record (known v p) { up = x }) refl refl)) a

-- ---- the view's rows are no worse ----

row-known : (ks : List Known) (p : ℕ) → is_whole (get_or ks p unknown) ≡ true → IsRow (seen_row (get_or ks p unknown)) (known_rows ks)
row-known [] p w = absurd (true≢false (sym w))
row-known (k ∷ ks) zero w = subst (λ b. IsRow (seen_row k) (cond b (seen_row k ∷ known_rows ks) (known_rows ks))) (sym w) (inl refl)
row-known (k ∷ ks) (suc p) w = go (is_whole k) (row-known ks p w)
  where
    go : (b : Bool) → IsRow (seen_row (get_or ks p unknown)) (known_rows ks) → IsRow (seen_row (get_or ks p unknown)) (cond b (seen_row k ∷ known_rows ks) (known_rows ks))
    go true i = inr i
    go false i = i

one-bettered : (v : View) (r : Row) (p : ℕ) → StandsAt v r p → r.up ≤ no_value → IsBettered (known_rows v.known) (row_from r)
one-bettered v r p s small = record {
  by = seen_row (known v p);
  among = row-known v.known p (and_from _ _ s.known.0 (eq-eqb (length (known v p).bits) 8 s.known.1));
  group = s.group;
  low = s.low;
  up = s.up;
  most = small;
}

pub bettered : (v : View) (rows : List Row) (places : List ℕ) → AllZip (StandsAt v) rows places → All (λ (r : Row). r.up ≤ no_value) rows → AreBettered (rows_from rows) (known_rows v.known)
bettered v [] places a small x i = absurd i
bettered v (r ∷ rest) [] a small x i = absurd a
bettered v (r ∷ rest) (p ∷ ps) a small x (inl e) = subst (IsBettered (known_rows v.known)) e (one-bettered v r p a.0 (small 0 r (omega arith)))
bettered v (r ∷ rest) (p ∷ ps) a small x (inr i) = bettered v rest ps a.1 (λ k d lt. small (suc k) d (omega arith)) x i
