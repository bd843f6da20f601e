-- What stands beside the numbers while rows change. Where a row is narrowed, or a group gets a row, what all other groups count
-- stays as it is; and a group that was not met before has no row.
use Rattle.std.proofs.Common.{◌≡◌, ◌≢◌, ℕ, zero, suc, ◌<◌, ◌≤◌, max, min, List, [], ◌∷◌, ◌++◌, length, get_or, set, drop, refl, sym, ap, ◌∙◌, arith, inl, inr, subst, Option, Some, None, length-append, ◌⊎◌}
use Rattle.std.specs.Prelude.{false, cond, nat_eq, map, slice_get, true, All, filter, nat_le}
use Rattle.std.proofs.lemmas.Bool.{cases_Bool, eqb-true, true≢false}
use Rattle.std.proofs.lemmas.List.{get_or-set_same, length-map}
use Rattle.std.proofs.lemmas.Option.{slice_get_within}
use Rattle.std.proofs.Math.ListN.{length-set}
use Rattle.seq_theory.specs.Problem.{Problem, is_end, pass_part, fail_part}
use Rattle.seq_theory.specs.Greedy.{greedy_cost}
use Rattle.seq_theory.specs.Bound.{bound, step_sum}
use Rattle.seq_theory.specs.Graph.{is_entered, IsReal, same_group}
use Rattle.seq_theory.specs.Rows.{Row as PlainRow, no_value, groups_of, row_for, low_or, up_or, known_low}
use Rattle.seq_theory.proofs.GreedyLaws.{bound-end}
use Rattle.seq_huff.specs.Bounds.{greatest_cost}
use Rattle.seq_inst.specs.declared.group.Group.{Group}
use Rattle.seq_inst.specs.declared.instance.Instance.{Instance}
use Rattle.seq_inst.specs.declared.outcome.Row.{Row}
use Rattle.seq_inst.specs.Members.{members}
use Rattle.seq_inst.specs.Instances.{problem_of}
use Rattle.seq_graph.specs.declared.node.Node.{Node}
use Rattle.seq_graph.specs.KeptOf.{IsKeptOf, AreTestsOf, KeepsTests}
use Rattle.seq_graph.specs.Numbered.{Numbered, HasNumber, AreNumbers, KeepsNumbers}
use Rattle.seq_core.specs.RowsOf.{row_of as row_from, rows_of as rows_from, place_of_group}
use Rattle.seq_core.specs.Settled.{value_or}
use Rattle.seq_graph.specs.declared.graph.Count.{Count}
use Rattle.seq_graph.specs.Known.{AreRows, AreBounds, AreKept, AreKnown, count_of, no_row, row_at, group_at, raised_at, capped_at, narrowed_at, IsKeptBy}
use Rattle.seq_graph.specs.Counts.{new_count, count_at}
use Rattle.seq_graph.proofs.KnownLaws.{row-real, bound-le-known_low}
use Rattle.seq_graph.proofs.PlaceLaws.{place-found, place-none, row-at-place, absent-row, absent-place, set-places, set-others, more-others, more-other-places, more-row, more-place}
use Rattle.seq_graph.proofs.NumberLaws.{map-changed, map-later, number-once}
use Rattle.seq_graph.proofs.CountLaws.{kept-read, count-at, countable, counted-is}
use Rattle.seq_graph.proofs.EventLaws.{IsRefreshed, learnt-rows, length-Narrows, group-Narrows, up-Narrows}
use Rattle.seq_theory.proofs.RowLaws.{same_group-true, same_group-refl}
use Rattle.seq_graph.specs.declared.node.Split.{Split}
use Rattle.seq_graph.specs.Sums.{counted_sum, IsCountable}
use Rattle.seq_graph.proofs.CoverLaws.{tests-rise, tests-keep, tests-left}
use Rattle.seq_graph.proofs.SplitLaws.{split-at}

-- ---- what a row gives ----

-- two groups, or one group in two lists of rows, count the same where the same is found of them
count-same : (p : Problem) (a b : List Row) (g : List ℕ) → row_for (rows_from a) g ≡ row_for (rows_from b) g → place_of_group (rows_from a) g ≡ place_of_group (rows_from b) g → count_of p a g ≡ count_of p b g
count-same p a b g rows places =
    ap (λ (o : Option PlainRow). record { low = cond (is_end p g) 0 (low_or (bound p g) o); up = value_or (cond (is_end p g) (Some 0) (up_or o)); place = place_of_group (rows_from a) g }) rows
    ∙ ap (λ (o : Option ℕ). record (count_of p b g) { place = o }) places

value-row : (r : PlainRow) → value_or (up_or (Some r)) ≡ r.up
value-row r = elim (cases_Bool (nat_eq r.up no_value)) [
  | inl y ↦ (let e = eqb-true r.up no_value y in rw y (sym e))
  | inr n ↦ rw n refl
]

pub count-row : (p : Problem) (rows : List Row) (g : List ℕ) (r : PlainRow) (o : Option ℕ) → is_end p g ≡ false → row_for (rows_from rows) g ≡ Some r → place_of_group (rows_from rows) g ≡ o
    → count_of p rows g ≡ record { low = max r.low (bound p g); up = r.up; place = o }
count-row p rows g r o e is at = rw (e, is, at) (ap (λ n. record { low = max r.low (bound p g); up = n; place = o }) (value-row r))

count-none : (p : Problem) (rows : List Row) (g : List ℕ) → row_for (rows_from rows) g ≡ None → count_of p rows g ≡ new_count p g
count-none p rows g is = elim (cases_Bool (is_end p g)) [
  | inl y ↦ rw (y, absent-place rows g is) (ap (λ n. record { low = n; up = 0; place = None }) (sym (bound-end p g y)))
  | inr n ↦ rw (n, is, absent-place rows g is) refl
]

-- ---- what is kept ----

-- what is kept of a row stays right while lows rise and its up falls
kept-narrows : (p : Problem) (v : Numbered) (rows now : List Row) (r s : Row) (k : Node) → s.group ≡ r.group → ((h : List ℕ) → known_low p (rows_from rows) h ≤ known_low p (rows_from now) h) → s.up ≤ r.up → IsKeptBy p v rows r k → IsKeptBy p v now s k
kept-narrows p v rows now r s k e rises falls kept = subst (λ (g : Group). IsKeptBy p v now (record { group = g; low = s.low; up = s.up }) k) (sym e) (record {
  number = kept.number;
  weight = kept.weight;
  bound_is = kept.bound_is;
  capped = λ e. (let a = kept.capped e in omega arith);
  tests = tests-rise p (members r.group) k.splits.items k.waiting.items v (step_sum p (known_low p (rows_from rows)) (members r.group)) (step_sum p (known_low p (rows_from now)) (members r.group)) (min r.up k.most) (min s.up k.most) kept.tests
      (λ t. let a = rises (pass_part p t (members r.group)) in let b = rises (fail_part p t (members r.group)) in omega arith) (omega arith);
})

-- and while more groups get numbers
kept-keeps : (p : Problem) (old new : Numbered) (rows : List Row) (r : Row) (k : Node) → KeepsNumbers old new → IsKeptBy p old rows r k → IsKeptBy p new rows r k
kept-keeps p old new rows r k keeps h = record {
  number = keeps (members r.group) k.number h.number;
  weight = h.weight;
  bound_is = h.bound_is;
  capped = h.capped;
  tests = tests-keep p (members r.group) k.splits.items k.waiting.items old new (step_sum p (known_low p (rows_from rows)) (members r.group)) (min r.up k.most) keeps h.tests;
}

-- what is known stays right while more is known of the numbers
pub numbers-known : (p : Problem) (old new : Numbered) (rows : List Row) (kept : List Node) (counts : List Count) → AreKnown p old rows kept counts → AreNumbers p new → KeepsNumbers old new → new.groups ≡ old.groups → AreKnown p new rows kept counts
numbers-known p old new rows kept counts known numbers keeps same = record {
  rows_are = known.rows_are;
  numbers_are = numbers;
  kept_are = record { as_many = known.kept_are.as_many; each = λ q x e. kept-keeps p old new rows (row_at rows q) x keeps (known.kept_are.each q x e) };
  counts_are = known.counts_are ∙ ap (map (count_of p rows)) (sym same);
}

-- what is kept of a group at first is right of its new row. Lows are no less than bounds
kept-whole : (p : Problem) (v : Numbered) (rows : List Row) (r : Row) (k : Node) → AreRows p rows → IsKeptOf p v (members r.group) k → IsKeptBy p v rows r k
kept-whole p v rows r k known h = record {
  number = h.number;
  weight = h.weight;
  bound_is = h.bound;
  capped = λ e. absurd (true≢false (sym e ∙ h.uncapped));
  tests = tests-rise p (members r.group) k.splits.items k.waiting.items v (step_sum p (bound p) (members r.group)) (step_sum p (known_low p (rows_from rows)) (members r.group)) k.most (min r.up k.most) h.tests
      (λ t. let a = bound-le-known_low p rows known (pass_part p t (members r.group)) in let b = bound-le-known_low p rows known (fail_part p t (members r.group)) in omega arith) (omega arith);
}

kept-more : (P : Row → Node → Type 0) (rows : List Row) (kept : List Node) (r : Row) (k : Node) → length kept ≡ length rows
    → ((q : ℕ) (x : Node) → slice_get kept q ≡ Some x → P (row_at rows q) x) → P r k
    → (q : ℕ) (x : Node) → slice_get (kept ++ k ∷ []) q ≡ Some x → P (row_at (rows ++ r ∷ []) q) x
kept-more P [] [] r k l all here zero x e = let same : k ≡ x = cc in subst (P r) same here
kept-more P [] [] r k l all here (suc q) x e = absurd (let bad : ⊥ = cc in bad)
kept-more P [] (y ∷ kept) r k l all here q x e = absurd (let bad : ⊥ = omega arith in bad)
kept-more P (s ∷ rows) [] r k l all here q x e = absurd (let bad : ⊥ = omega arith in bad)
kept-more P (s ∷ rows) (y ∷ kept) r k l all here zero x e = all 0 x e
kept-more P (s ∷ rows) (y ∷ kept) r k l all here (suc q) x e = kept-more P rows kept r k (omega arith) (λ j z f. all (suc j) z f) here q x e

get-set : {A : Type 0} (xs : List A) (k : ℕ) (x : A) (q : ℕ) (y : A) → slice_get (set xs k x) q ≡ Some y → ((q ≡ k) × (x ≡ y)) ⊎ (slice_get xs q ≡ Some y)
get-set [] k x q y e = inr e
get-set (z ∷ xs) zero x zero y e = let same : x ≡ y = cc in inl (refl, same)
get-set (z ∷ xs) zero x (suc q) y e = inr e
get-set (z ∷ xs) (suc k) x zero y e = inr e
get-set (z ∷ xs) (suc k) x (suc q) y e = elim (get-set xs k x q y e) [ inl s ↦ inl (ap suc s.0, s.1) | inr o ↦ inr o ]

-- one that is kept gives way to another that is right too
replaced-kept : (p : Problem) (v : Numbered) (rows : List Row) (kept : List Node) (place : ℕ) (other : Node) → length kept ≡ length rows
    → ((q : ℕ) (x : Node) → slice_get kept q ≡ Some x → IsKeptBy p v rows (row_at rows q) x) → IsKeptBy p v rows (row_at rows place) other → AreKept p v rows (set kept place other)
replaced-kept p v rows kept place other l all here = record {
  as_many = length-set kept place other ∙ l;
  each = λ q x e. elim (get-set kept place other q x e) [
    | inl s ↦ subst (λ n. IsKeptBy p v rows (row_at rows n) x) (sym s.0) (subst (IsKeptBy p v rows (row_at rows place)) s.1 here)
    | inr o ↦ all q x o
  ];
}

-- a low that counts no less
low-cases : (p : Problem) (rows now : List Row) (g : List ℕ) → ((h : List ℕ) → h ≢ g → count_of p now h ≡ count_of p rows h) → known_low p (rows_from rows) g ≤ known_low p (rows_from now) g
    → (h : List ℕ) → known_low p (rows_from rows) h ≤ known_low p (rows_from now) h
low-cases p rows now g others here h = elim (cases_Bool (same_group h g)) [
  | inl y ↦ subst (λ x. known_low p (rows_from rows) x ≤ known_low p (rows_from now) x) (sym (same_group-true h g y)) here
  | inr n ↦ (let e = ap (λ (c : Count). c.low) (others h (λ s. true≢false (sym (subst (λ x. same_group h x ≡ true) s (same_group-refl h)) ∙ n))) in omega arith)
]

-- ---- a row is narrowed ----

module _ (inst : Instance) (v : Numbered) (rows : List Row) (kept : List Node) (counts : List Count) (known : AreKnown (problem_of inst) v rows kept counts) (place : ℕ) (lt : place < length rows) (k : Node)
    (read : k ≡ get_or kept place k) (low up : ℕ) (narrowed : IsRefreshed (problem_of inst) rows (capped_at (raised_at rows place low) place up) place low up) where
  now : List Row
  now = capped_at (raised_at rows place low) place up

  group : List ℕ
  group = members (group_at rows place)

  raised-row : row_at (raised_at rows place low) place ≡ record (row_at rows place) { low = max (row_at rows place).low low }
  raised-row = get_or-set_same rows place _ no_row lt

  now-row : row_at (capped_at (raised_at rows place low) place up) place ≡ record { group = group_at rows place; low = max (row_at rows place).low low; up = min (row_at rows place).up up }
  now-row = get_or-set_same (raised_at rows place low) place _ no_row (let l = length-set rows place (record (row_at rows place) { low = max (row_at rows place).low low }) in omega arith) ∙ ap (λ (r : Row). record r { up = min r.up up }) raised-row

  raised-group : group_at (raised_at rows place low) place ≡ group_at rows place
  raised-group = ap (λ (r : Row). r.group) raised-row

  same-row : (h : List ℕ) → h ≢ members (group_at rows place) → row_for (rows_from (capped_at (raised_at rows place low) place up)) h ≡ row_for (rows_from rows) h
  same-row h ne = set-others (raised_at rows place low) place _ h refl (λ e. ne (e ∙ ap members raised-group)) ∙ set-others rows place _ h refl ne

  same-place : (h : List ℕ) → place_of_group (rows_from (capped_at (raised_at rows place low) place up)) h ≡ place_of_group (rows_from rows) h
  same-place h = set-places (raised_at rows place low) place _ h refl ∙ set-places rows place _ h refl

  same-counts : (h : List ℕ) → h ≢ members (group_at rows place) → count_of (problem_of inst) (capped_at (raised_at rows place low) place up) h ≡ count_of (problem_of inst) rows h
  same-counts h ne = count-same (problem_of inst) (capped_at (raised_at rows place low) place up) rows h (same-row h ne) (same-place h)

  goals : is_end (problem_of inst) (members (group_at rows place)) ≡ false
  goals = (row-real (problem_of inst) rows known.rows_are place lt).goals

  now-long : length (capped_at (raised_at rows place low) place up) ≡ length rows
  now-long = length-Narrows rows (capped_at (raised_at rows place low) place up) narrowed.narrows

  now-found : row_for (rows_from (capped_at (raised_at rows place low) place up)) (members (group_at rows place)) ≡ Some (row_from (record { group = group_at rows place; low = max (row_at rows place).low low; up = min (row_at rows place).up up }))
  now-found =
      subst (λ (g : Group). row_for (rows_from (capped_at (raised_at rows place low) place up)) (members g) ≡ Some (row_from (row_at (capped_at (raised_at rows place low) place up) place))) (ap (λ (r : Row). r.group) now-row)
      (row-at-place (capped_at (raised_at rows place low) place up) place narrowed.known.distinct (let l = now-long in omega arith))
      ∙ ap (λ (r : Row). Some (row_from r)) now-row

  before : count_of (problem_of inst) rows (members (group_at rows place)) ≡ record { low = max (row_at rows place).low (bound (problem_of inst) (members (group_at rows place))); up = (row_at rows place).up; place = place_of_group (rows_from rows) (members (group_at rows place)) }
  before = count-row (problem_of inst) rows (members (group_at rows place)) (row_from (row_at rows place)) (place_of_group (rows_from rows) (members (group_at rows place))) goals (row-at-place rows place known.rows_are.distinct lt) refl

  after : count_of (problem_of inst) (capped_at (raised_at rows place low) place up) (members (group_at rows place))
      ≡ record { low = max (max (row_at rows place).low low) (bound (problem_of inst) (members (group_at rows place))); up = min (row_at rows place).up up; place = place_of_group (rows_from rows) (members (group_at rows place)) }
  after = count-row (problem_of inst) (capped_at (raised_at rows place low) place up) (members (group_at rows place)) _ (place_of_group (rows_from rows) (members (group_at rows place))) goals now-found (same-place (members (group_at rows place)))

  max-swap : (a b c : ℕ) → max (max a b) c ≡ max (max a c) b
  max-swap a b c = omega arith

  narrowed-count : record (count_of (problem_of inst) rows (members (group_at rows place))) { low = max (count_of (problem_of inst) rows (members (group_at rows place))).low low; up = min (count_of (problem_of inst) rows (members (group_at rows place))).up up }
      ≡ count_of (problem_of inst) (capped_at (raised_at rows place low) place up) (members (group_at rows place))
  narrowed-count =
      ap (λ (c : Count). record c { low = max c.low low; up = min c.up up }) before
      ∙ ap (λ n. record { low = n; up = min (row_at rows place).up up; place = place_of_group (rows_from rows) (members (group_at rows place)) }) (max-swap (row_at rows place).low (bound (problem_of inst) (members (group_at rows place))) low)
      ∙ sym after

  lows-rise : (h : List ℕ) → known_low (problem_of inst) (rows_from rows) h ≤ known_low (problem_of inst) (rows_from (capped_at (raised_at rows place low) place up)) h
  lows-rise = low-cases (problem_of inst) rows (capped_at (raised_at rows place low) place up) (members (group_at rows place)) same-counts
      (let a = ap (λ (c : Count). c.low) before in let b = ap (λ (c : Count). c.low) after in omega arith)

  pub narrowed-known : AreKnown (problem_of inst) v (capped_at (raised_at rows place low) place up) kept (narrowed_at counts k.number low up)
  narrowed-known =
      let p = problem_of inst in
      let g = members (group_at rows place) in
      let has = (kept-read p v rows kept counts known place k lt read).number in
      let here : count_at counts k.number ≡ count_of p rows g = ap (λ l. count_at l k.number) known.counts_are ∙ count-at (count_of p rows) v.groups k.number g has in
      record {
        rows_are = narrowed.known;
        numbers_are = known.numbers_are;
        kept_are = record {
          as_many = known.kept_are.as_many ∙ sym now-long;
          each = λ q x e.
              let within = slice_get_within kept q x e in
              let l = known.kept_are.as_many in
              kept-narrows p v rows (capped_at (raised_at rows place low) place up) (row_at rows q) (row_at (capped_at (raised_at rows place low) place up) q) x (group-Narrows rows (capped_at (raised_at rows place low) place up) q narrowed.narrows (omega arith)) lows-rise
              (up-Narrows rows (capped_at (raised_at rows place low) place up) q narrowed.narrows (omega arith)) (known.kept_are.each q x e);
        };
        counts_are = ap (λ (c : Count). set counts k.number (record c { low = max c.low low; up = min c.up up })) here ∙ ap (λ c. set counts k.number c) narrowed-count ∙ ap (λ l. set l k.number (count_of p (capped_at (raised_at rows place low) place up) g)) known.counts_are
            ∙ sym (map-changed (count_of p rows) (count_of p (capped_at (raised_at rows place low) place up)) v.groups k.number g known.numbers_are.distinct has same-counts);
      }

-- ---- a group gets a row ----

some-there : {A : Type 0} (xs : List A) (i : ℕ) → i < length xs → (x : A) × (slice_get xs i ≡ Some x)
some-there [] i lt = absurd (let bad : ⊥ = omega arith in bad)
some-there (x ∷ xs) zero lt = (x, refl)
some-there (x ∷ xs) (suc i) lt = some-there xs i (omega arith)

with-bounds : (low up b place n : ℕ) (c other : Count) → c.low ≡ b → place ≡ n → other ≡ record { low = max low b; up = up; place = Some n } → record { low = max c.low low; up = up; place = Some place } ≡ other
with-bounds low up b place n c other is at e =
    let either : max c.low low ≡ max low b = omega arith in
    ap (λ m. record { low = m; up = up; place = Some place }) either ∙ ap (λ m. record { low = max low b; up = up; place = Some m }) at ∙ sym e

module _ (inst : Instance) (old new : Numbered) (rows : List Row) (kept : List Node) (counts : List Count) (known : AreKnown (problem_of inst) old rows kept counts) (numbers : AreNumbers (problem_of inst) new) (keeps : KeepsNumbers old new) where
  -- a group with a later number has no row
  later-none : (h : List ℕ) (n : ℕ) → length old.groups ≤ n → HasNumber new h n → row_for (rows_from rows) h ≡ None
  later-none h n le has = go (place_of_group (rows_from rows) h) refl
    where
      go : (o : Option ℕ) → place_of_group (rows_from rows) h ≡ o → row_for (rows_from rows) h ≡ None
      go None e = place-none rows h e
      go (Some q) e = absurd (
          let at = place-found rows h q e in
          let range = at.in_range in
          let l = known.kept_are.as_many in
          let k = some-there kept q (omega arith) in
          let first : HasNumber old h (k.0).number = subst (λ x. HasNumber old x (k.0).number) (sym at.same) (known.kept_are.each q k.0 k.1).number in
          let same = number-once new.groups (k.0).number n h numbers.distinct (keeps h (k.0).number first) has in
          let within = slice_get_within old.groups (k.0).number h first in
          let bad : ⊥ = omega arith in
          bad
          )

  -- the counts as they are once each number has one
  pub counts-grown : (more : List Count) → more ≡ counts ++ map (new_count (problem_of inst)) (drop (length counts) new.groups) → more ≡ map (count_of (problem_of inst) rows) new.groups
  counts-grown more e =
      let p = problem_of inst in
      let f = count_of p rows in
      let l : length counts ≡ length old.groups = ap length known.counts_are ∙ length-map old.groups f in
      e ∙ ap (λ n. counts ++ map (new_count p) (drop n new.groups)) l ∙ ap (λ c. c ++ map (new_count p) (drop (length old.groups) new.groups)) known.counts_are
      ∙ map-later f (new_count p) old.groups new.groups keeps (λ h n le has. count-none p rows h (later-none h n le has))

  -- it counts the row's bounds, and its low is no less than its bound
  pub learnt-known : (g : Group) (k : Node) (more : List Count) (place low up : ℕ) → IsReal (problem_of inst) (members g) → is_entered (groups_of (rows_from rows)) (members g) ≡ false → AreBounds (problem_of inst) (members g) low up → up ≤ greatest_cost
      → IsKeptOf (problem_of inst) new (members g) k → more ≡ counts ++ map (new_count (problem_of inst)) (drop (length counts) new.groups) → place ≡ length rows
      → AreKnown (problem_of inst) new (rows ++ record { group = g; low = low; up = up } ∷ []) (kept ++ k ∷ []) (set more k.number (record { low = max (count_at more k.number).low low; up = up; place = Some place }))
  learnt-known g k more place low up real absent right small of grown place_is =
      let p = problem_of inst in
      let f = count_of p rows in
      let row : Row = record { group = g; low = low; up = up } in
      let now = count_of p (rows ++ row ∷ []) in
      let l = known.kept_are.as_many in
      let counted = counts-grown more grown in
      let none = absent-row rows (members g) absent in
      let here : count_at more k.number ≡ f (members g) = ap (λ c. count_at c k.number) counted ∙ count-at f new.groups k.number (members g) of.number in
      let old_is : f (members g) ≡ new_count p (members g) = count-none p rows (members g) none in
      let new_is : now (members g) ≡ record { low = max low (bound p (members g)); up = up; place = Some (length rows) } = count-row p (rows ++ row ∷ []) (members g) (row_from row) (Some (length rows)) real.goals (more-row rows row absent) (more-place rows row absent) in
      let others = λ (h : List ℕ) (ne : h ≢ members g). count-same p (rows ++ row ∷ []) rows h (more-others rows row h ne) (more-other-places rows row h ne) in
      let placed = with-bounds low up (bound p (members g)) place (length rows) (count_at more k.number) (now (members g)) (ap (λ (c : Count). c.low) (here ∙ old_is)) place_is new_is in
      let learnt = learnt-rows inst rows g low up real absent right small known.rows_are in
      record {
        rows_are = learnt;
        numbers_are = numbers;
        kept_are = record {
          as_many = (let a = length-append kept (k ∷ []) in let b = length-append rows (row ∷ []) in omega arith);
          each = kept-more (λ r x. IsKeptBy p new (rows ++ row ∷ []) r x) rows kept row k l
              (λ q x e. kept-narrows p new rows (rows ++ row ∷ []) (row_at rows q) (row_at rows q) x refl
              (low-cases p rows (rows ++ row ∷ []) (members g) others (let a = ap (λ (c : Count). c.low) old_is in let b = ap (λ (c : Count). c.low) new_is in omega arith)) (omega arith) (kept-keeps p old new rows (row_at rows q) x keeps (known.kept_are.each q x e)))
              (kept-whole p new (rows ++ row ∷ []) row k learnt of);
        };
        counts_are = ap (λ c. set more k.number c) placed ∙ ap (λ c. set c k.number (now (members g))) counted
            ∙ sym (map-changed f now new.groups k.number (members g) numbers.distinct of.number others);
      }

  -- nothing but the numbers and their counts changes
  pub grown-known : (more : List Count) → more ≡ counts ++ map (new_count (problem_of inst)) (drop (length counts) new.groups) → AreKnown (problem_of inst) new rows kept more
  grown-known more grown = record {
    rows_are = known.rows_are;
    numbers_are = numbers;
    kept_are = record { as_many = known.kept_are.as_many; each = λ q x e. kept-keeps (problem_of inst) old new rows (row_at rows q) x keeps (known.kept_are.each q x e) };
    counts_are = counts-grown more grown;
  }

  -- a test of a group is evaluated
  pub evaluated-known : (place : ℕ) (k other : Node) (more : List Count) → place < length rows → k ≡ get_or kept place k → other.number ≡ k.number → other.weight ≡ k.weight → other.bound ≡ k.bound → other.capped ≡ k.capped → other.most ≡ k.most
      → KeepsTests (problem_of inst) old new (members (group_at rows place)) k other → more ≡ counts ++ map (new_count (problem_of inst)) (drop (length counts) new.groups)
      → AreKnown (problem_of inst) new rows (set kept place other) more
  evaluated-known place k other more lt read en ew eb ec em tests grown =
      let p = problem_of inst in
      let r = row_at rows place in
      let of = kept-read p old rows kept counts known place k lt read in
      record {
        rows_are = known.rows_are;
        numbers_are = numbers;
        kept_are = replaced-kept p new rows kept place other known.kept_are.as_many (λ q x e. kept-keeps p old new rows (row_at rows q) x keeps (known.kept_are.each q x e)) (record {
          number = subst (HasNumber new (members r.group)) (sym en) (keeps (members r.group) k.number of.number);
          weight = ew ∙ of.weight;
          bound_is = eb ∙ of.bound_is;
          capped = λ e. of.capped (sym ec ∙ e);
          tests = subst (λ n. AreTestsOf p new (members r.group) (step_sum p (known_low p (rows_from rows)) (members r.group)) (min r.up n) other.splits.items other.waiting.items) (sym em)
              (tests (step_sum p (known_low p (rows_from rows)) (members r.group)) (min r.up k.most) of.tests);
        });
        counts_are = counts-grown more grown;
      }

-- ---- tests are left out ----

module _ (inst : Instance) (v : Numbered) (rows : List Row) (kept : List Node) (counts : List Count) (known : AreKnown (problem_of inst) v rows kept counts) (place : ℕ) (lt : place < length rows) (k : Node)
    (read : k ≡ get_or kept place k) where
  of-row : IsKeptBy (problem_of inst) v rows (row_at rows place) k
  of-row = kept-read (problem_of inst) v rows kept counts known place k lt read

  pub all-countable : All (IsCountable inst.costs.items k.weight counts) k.splits.items
  all-countable i d h =
      let at = split-at (problem_of inst) v rows (row_at rows place) k k.splits.items of-row refl i d h in
      countable inst v rows kept counts known place lt (get_or k.splits.items i d) k at.parts at.there read

  replaced : (other : Node) → IsKeptBy (problem_of inst) v rows (row_at rows place) other → AreKnown (problem_of inst) v rows (set kept place other) counts
  replaced other here = record {
    rows_are = known.rows_are;
    numbers_are = known.numbers_are;
    kept_are = replaced-kept (problem_of inst) v rows kept place other known.kept_are.as_many known.kept_are.each here;
    counts_are = known.counts_are;
  }

  pub thinned-known : (prune : Node) (up : ℕ) → up ≡ (row_at rows place).up → prune.number ≡ k.number → prune.weight ≡ k.weight → prune.bound ≡ k.bound → prune.capped ≡ k.capped → prune.most ≡ k.most
      → prune.splits.items ≡ filter (λ s. nat_le (counted_sum inst.costs.items k.weight counts s) up) k.splits.items → prune.waiting.items ≡ filter (λ w. nat_le w.least up) k.waiting.items → AreKnown (problem_of inst) v rows (set kept place prune) counts
  thinned-known prune up up_is en ew eb ec em splits_are waiting_are =
      let p = problem_of inst in
      let r = row_at rows place in
      let g = members r.group in
      let f = step_sum p (known_low p (rows_from rows)) g in
      let stays = λ (s : Split). nat_le (counted_sum inst.costs.items k.weight counts s) up in
      replaced prune (record {
        number = subst (HasNumber v g) (sym en) of-row.number;
        weight = ew ∙ of-row.weight;
        bound_is = eb ∙ of-row.bound_is;
        capped = λ e. of-row.capped (sym ec ∙ e);
        tests = subst (λ n. AreTestsOf p v g f (min r.up n) prune.splits.items prune.waiting.items) (sym em) (subst (λ n. AreTestsOf p v g f (min n k.most) prune.splits.items prune.waiting.items) up_is
            (tests-left p v g f k.most up k.splits.items prune.splits.items k.waiting.items prune.waiting.items stays (subst (λ n. AreTestsOf p v g f (min n k.most) k.splits.items k.waiting.items) (sym up_is) of-row.tests) (λ i d h.
            let at = split-at p v rows r k k.splits.items of-row refl i d h in
            ap (λ n. nat_le n up) (counted-is inst v rows kept counts known place lt (get_or k.splits.items i d) k at.parts read)) splits_are waiting_are));
      })

  -- the row's up is at most greedy's cost
  pub flagged-known : (flag : Node) → (row_at rows place).up ≤ greedy_cost (problem_of inst) (members (group_at rows place)) → flag.number ≡ k.number → flag.weight ≡ k.weight → flag.bound ≡ k.bound → flag.most ≡ k.most → flag.splits.items ≡ k.splits.items → flag.waiting.items ≡ k.waiting.items
      → AreKnown (problem_of inst) v rows (set kept place flag) counts
  flagged-known flag le en ew eb em splits_are waiting_are =
      let p = problem_of inst in
      let r = row_at rows place in
      let g = members r.group in
      let f = step_sum p (known_low p (rows_from rows)) g in
      replaced flag (record {
        number = subst (HasNumber v g) (sym en) of-row.number;
        weight = ew ∙ of-row.weight;
        bound_is = eb ∙ of-row.bound_is;
        capped = λ e. le;
        tests = subst (λ n. AreTestsOf p v g f (min r.up n) flag.splits.items flag.waiting.items) (sym em) (subst (λ l. AreTestsOf p v g f (min r.up k.most) l flag.waiting.items) (sym splits_are) (subst (AreTestsOf p v g f (min r.up k.most) k.splits.items) (sym waiting_are) of-row.tests));
      })

  -- its tests are listed with numbers that are at most their sums over bounds
  pub listed-known : (fresh : Node) → fresh.number ≡ k.number → fresh.weight ≡ k.weight → fresh.bound ≡ k.bound → fresh.capped ≡ k.capped
      → AreTestsOf (problem_of inst) v (members (group_at rows place)) (step_sum (problem_of inst) (bound (problem_of inst)) (members (group_at rows place))) (min (row_at rows place).up fresh.most) fresh.splits.items fresh.waiting.items
      → AreKnown (problem_of inst) v rows (set kept place fresh) counts
  listed-known fresh en ew eb ec tests =
      let p = problem_of inst in
      let r = row_at rows place in
      let g = members r.group in
      replaced fresh (record {
        number = subst (HasNumber v g) (sym en) of-row.number;
        weight = ew ∙ of-row.weight;
        bound_is = eb ∙ of-row.bound_is;
        capped = λ e. of-row.capped (sym ec ∙ e);
        tests = tests-rise p g fresh.splits.items fresh.waiting.items v (step_sum p (bound p) g) (step_sum p (known_low p (rows_from rows)) g) (min r.up fresh.most) (min r.up fresh.most) tests
            (λ t. let a = bound-le-known_low p rows known.rows_are (pass_part p t g) in let b = bound-le-known_low p rows known.rows_are (fail_part p t g) in omega arith) (omega arith);
      })

  -- the same tests in lists of less room
  pub fitted-known : (fit : Node) → fit.number ≡ k.number → fit.weight ≡ k.weight → fit.bound ≡ k.bound → fit.capped ≡ k.capped → fit.most ≡ k.most → fit.splits.items ≡ k.splits.items → fit.waiting.items ≡ k.waiting.items → AreKnown (problem_of inst) v rows (set kept place fit) counts
  fitted-known fit en ew eb ec em splits_are waiting_are =
      let p = problem_of inst in
      let r = row_at rows place in
      let g = members r.group in
      let f = step_sum p (known_low p (rows_from rows)) g in
      replaced fit (record {
        number = subst (HasNumber v g) (sym en) of-row.number;
        weight = ew ∙ of-row.weight;
        bound_is = eb ∙ of-row.bound_is;
        capped = λ e. of-row.capped (sym ec ∙ e);
        tests = subst (λ n. AreTestsOf p v g f (min r.up n) fit.splits.items fit.waiting.items) (sym em) (subst (λ l. AreTestsOf p v g f (min r.up k.most) l fit.waiting.items) (sym splits_are) (subst (AreTestsOf p v g f (min r.up k.most) k.splits.items) (sym waiting_are) of-row.tests));
      })
