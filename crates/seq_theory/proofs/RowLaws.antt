-- Each event keeps the rows sound.
use Rattle.std.proofs.Common.{◌≡◌, ℕ, zero, suc, ◌+◌, ◌*◌, ◌≤◌, max, min, List, [], ◌∷◌, ◌++◌, length, refl, sym, ap, ◌∙◌, arith, ◌⊎◌, inl, inr, subst, Option, Some, None, length-append}
use Rattle.std.specs.Prelude.{Bool, true, false, ◌||◌, cond, nat_eq, slice_get}
use Rattle.std.specs.List.{filter_map}
use Rattle.std.proofs.lemmas.Bool.{cases_Bool, true≢false, false≢true, eqb-true, eq-eqb, and_parts, and_from, or_parts}
use Rattle.seq_theory.specs.Problem.{Problem, IsWithin, IsWeighed, IsSized, AreTold, count_up, fails, pass_part, fail_part, splitting, weight_of, is_end, least_of, all_classes}
use Rattle.seq_theory.specs.Bound.{step_sum}
use Rattle.seq_theory.specs.Greedy.{greedy_cost}
use Rattle.seq_theory.specs.Graph.{same_group, is_entered, low, val, step_value, sum_with, part, IsWanted, root, part_of, IsReal}
use Rattle.seq_theory.specs.Rows.{Row, no_value, groups_of, IsRow, AreDistinct, IsSound, row_for, known_low, up_or, known_up, most_low, least_up, Event, enter, raise, cap, IsAllowed, AreAllowed, change_at, after, after_all}
use Rattle.std.proofs.Math.Nat.{mul-le-mul_left, mul-le-mul_right}
use Rattle.seq_theory.proofs.GroupLaws.{filter-IsIn, length-two_filters, weight_of-parts}
use Rattle.seq_theory.proofs.GreedyLaws.{greedy-cheap}
use Rattle.seq_theory.proofs.LeastLaws.{least, count_up-IsIn}
use Rattle.seq_theory.proofs.PartsRecursion.{least_of-mono}
use Rattle.seq_theory.proofs.LowLaws.{low-entered, bound-le-low, low-le-least, low-grows}
use Rattle.seq_theory.proofs.ValLaws.{least_of-values-le, least_of-first, values-at_least, sum_with-parts, val-end, val-entered, IsBelow, val-falls, least-le-val, some-one}

-- ---- groups as lists ----

pub same_group-true : (a b : List ℕ) → same_group a b ≡ true → a ≡ b
same_group-true [] [] e = refl
same_group-true [] (d ∷ ds) e = absurd (false≢true e)
same_group-true (c ∷ cs) [] e = absurd (false≢true e)
same_group-true (c ∷ cs) (d ∷ ds) e =
    let s = and_parts (nat_eq c d) (same_group cs ds) e in
    ap (λ n. n ∷ cs) (eqb-true c d s.0) ∙ ap (λ l. d ∷ l) (same_group-true cs ds s.1)

pub same_group-refl : (a : List ℕ) → same_group a a ≡ true
same_group-refl [] = refl
same_group-refl (c ∷ cs) = and_from _ _ (eq-eqb c c refl) (same_group-refl cs)

pub or-left : (a b : Bool) → a ≡ true → (a || b) ≡ true
or-left true b e = refl
or-left false b e = absurd (false≢true e)

pub or-right : (a b : Bool) → b ≡ true → (a || b) ≡ true
or-right true b e = refl
or-right false b e = e

entered-itself : (g : List ℕ) (groups : List (List ℕ)) → is_entered (groups ++ g ∷ []) g ≡ true
entered-itself g [] = or-left _ _ (same_group-refl g)
entered-itself g (h ∷ rest) = or-right (same_group g h) _ (entered-itself g rest)

row-entered : (r : Row) (rows : List Row) → IsRow r rows → is_entered (groups_of rows) r.group ≡ true
row-entered r [] i = absurd i
row-entered r (s ∷ rest) (inl e) = or-left _ _ (subst (λ g. same_group r.group g ≡ true) (sym (ap (λ x. x.group) e)) (same_group-refl r.group))
row-entered r (s ∷ rest) (inr i) = or-right (same_group r.group s.group) _ (row-entered r rest i)

-- the row of a group
record RowOf (rows : List Row) (group : List ℕ) (r : Row) : Type 0 where
  pub among : IsRow r rows
  pub same : group ≡ r.group

row_of-found : (rows : List Row) (group : List ℕ) (r : Row) → row_for rows group ≡ Some r → RowOf rows group r
row_of-found [] group r e = absurd (let h : ⊥ = cc in h)
row_of-found (s ∷ rest) group r e = go (same_group group s.group) refl e (row_of-found rest group r)
  where
    go : (b : Bool) → same_group group s.group ≡ b → cond b (Some s) (row_for rest group) ≡ Some r → (row_for rest group ≡ Some r → RowOf rest group r) → RowOf (s ∷ rest) group r
    go true y e later = let is : s ≡ r = cc in record { among = inl is; same = same_group-true group s.group y ∙ ap (λ x. x.group) is }
    go false n e later = let f = later e in record { among = inr f.among; same = f.same }

cases_row : (o : Option Row) → (o ≡ None) ⊎ ((r : Row) × (o ≡ Some r))
cases_row None = inl refl
cases_row (Some r) = inr (r, refl)

up-is : (x u : ℕ) → up_or (Some (record { group = []; low = 0; up = x })) ≡ Some u → x ≡ u
up-is x u e = go (nat_eq x no_value) e
  where
    go : (b : Bool) → cond b None (Some x) ≡ Some u → x ≡ u
    go true e = absurd (let bad : ⊥ = cc in bad)
    go false e = cc

no-value : (u : ℕ) → up_or None ≡ Some u → ⊥
no-value u e = let bad : ⊥ = cc in bad

module _ (p : Problem) where
  -- ---- raising ----

  known_low-le : (entered : List (List ℕ)) (rows : List Row) → ((r : Row) → IsRow r rows → r.low ≤ low p (entered) r.group) → (group : List ℕ) → known_low p rows group ≤ low p (entered) group
  known_low-le entered rows lows group = elim (cases_Bool (is_end p group)) [
    | inl e ↦ rw e (omega arith)
    | inr e ↦ rw e (elim (cases_row (row_for rows group)) [
      | inl n ↦ rw n (bound-le-low p (entered) group)
      | inr found ↦ rw (found.1)
          (let f = row_of-found rows group found.0 found.1 in
          let l = subst (λ g. (found.0).low ≤ low p (entered) g) (sym f.same) (lows found.0 f.among) in
          let b = bound-le-low p (entered) group in
          omega arith)
    ])
  ]

  -- what a row may be raised to is at most the low of its group
  pub most_low-le : (entered : List (List ℕ)) (rows : List Row) → ((r : Row) → IsRow r rows → r.low ≤ low p (entered) r.group) → (group : List ℕ) → is_end p group ≡ false → is_entered (entered) group ≡ true → most_low p rows group ≤ low p (entered) group
  most_low-le entered rows lows group e i =
      let f = low-entered p (entered) group e i in
      let m = least_of-mono (step_sum p (known_low p rows) group) (step_sum p (low p (entered)) group) (splitting p group) (λ t it.
      let a = known_low-le entered rows lows (pass_part p t group) in
      let b = known_low-le entered rows lows (fail_part p t group) in
      omega arith) in
      omega arith

  -- ---- capping ----

  abbrev Ups : List (List ℕ) → List Row → Type 0
  Ups entered rows = (r : Row) → IsRow r rows → (v : ℕ) → val p (entered) r.group ≡ Some v → v ≤ r.up

  known_up-ge : (entered : List (List ℕ)) (rows : List Row) → Ups entered rows → ((r : Row) → IsRow r rows → is_entered entered r.group ≡ true) → (group : List ℕ) (u : ℕ) → known_up p rows group ≡ Some u → IsBelow p (val p (entered) group) u
  known_up-ge entered rows ups inside group u e = elim (cases_Bool (is_end p group)) [
    | inl y ↦ record { value = 0; is = val-end p (entered) group y; le = omega arith }
    | inr n ↦ elim (cases_row (row_for rows group)) [
      | inl none ↦ absurd (no-value u (sym (ap up_or none) ∙ rw n at e))
      | inr found ↦
          (let h : up_or (row_for rows group) ≡ Some u = rw n at e in
          let h2 : up_or (Some found.0) ≡ Some u = sym (ap up_or found.1) ∙ h in
          let f = row_of-found rows group found.0 found.1 in
          let i = subst (λ g. is_entered (entered) g ≡ true) (sym f.same) (inside found.0 f.among) in
          let value = least_of (greedy_cost p group ∷ filter_map (step_value p (val p (entered)) group) (splitting p group)) in
          let v : val p (entered) group ≡ Some value = val-entered p (entered) group n i in
          let le = ups found.0 f.among value (subst (λ g. val p (entered) g ≡ Some value) f.same v) in
          let up = up-is (found.0).up u h2 in
          record { value = value; is = v; le = omega arith })
    ]
  ]

  -- what a row may be capped to is at least the value of its group
  pub least_up-ge : (entered : List (List ℕ)) (rows : List Row) → Ups entered rows → ((r : Row) → IsRow r rows → is_entered entered r.group ≡ true) → (group : List ℕ) (v : ℕ) → is_end p group ≡ false → is_entered (entered) group ≡ true → val p (entered) group ≡ Some v → v ≤ least_up p rows group
  least_up-ge entered rows ups inside group v e i is =
      let f = some-one p _ v (val p (entered) group) (val-entered p (entered) group e i) is in
      let first = least_of-first (greedy_cost p group) (filter_map (step_value p (val p (entered)) group) (splitting p group)) in
      let le = values-at_least v (greedy_cost p group) (step_value p (known_up p rows) group) (splitting p group) (omega arith) (λ t u it eu.
      let parts = sum_with-parts (p.cost t * weight_of p group) (known_up p rows (pass_part p t group)) (known_up p rows (fail_part p t group)) u eu in
      let b1 = known_up-ge entered rows ups inside (pass_part p t group) parts.left parts.left_is in
      let b2 = known_up-ge entered rows ups inside (fail_part p t group) parts.right parts.right_is in
      let is2 : step_value p (val p (entered)) group t ≡ Some (p.cost t * weight_of p group + (b1.value + b2.value)) = ap (λ a. sum_with (p.cost t * weight_of p group) a (val p (entered) (fail_part p t group))) b1.is ∙ ap (λ b. sum_with (p.cost t * weight_of p group) (Some b1.value) b) b2.is in
      let g = least_of-values-le (greedy_cost p group) (step_value p (val p (entered)) group) t _ (splitting p group) it is2 in
      let l1 = b1.le in
      let l2 = b2.le in
      let l3 = parts.sum in
      omega arith) in
      le

-- ---- groups that may be entered ----

pub wanted-within : (p : Problem) (g : List ℕ) → IsWanted p g → IsWithin p g
wanted-within p g root = λ c i. let w = count_up-IsIn c 0 p.classes i in omega arith
wanted-within p g (part_of group t n passed w e there s l le) = go passed (wanted-within p group w)
  where
    go : (b : Bool) → IsWithin p group → IsWithin p (part p t b group)
    go true within c i = within c (filter-IsIn (p.passes t) c group i)
    go false within c i = within c (filter-IsIn (fails p t) c group i)

-- ---- lists of rows ----

rows-last : (r n : Row) (rows : List Row) → IsRow r (rows ++ n ∷ []) → IsRow r rows ⊎ (n ≡ r)
rows-last r n [] (inl e) = inr e
rows-last r n [] (inr i) = absurd i
rows-last r n (s ∷ rest) (inl e) = inl (inl e)
rows-last r n (s ∷ rest) (inr i) = elim (rows-last r n rest i) [ inl j ↦ inl (inr j) | inr e ↦ inr e ]

groups-last : (n : Row) (rows : List Row) → groups_of (rows ++ n ∷ []) ≡ groups_of rows ++ n.group ∷ []
groups-last n [] = refl
groups-last n (s ∷ rest) = ap (λ l. s.group ∷ l) (groups-last n rest)

entered-last : (g n : List ℕ) (groups : List (List ℕ)) → is_entered groups g ≡ true → is_entered (groups ++ n ∷ []) g ≡ true
entered-last g n [] e = absurd (false≢true e)
entered-last g n (h ∷ rest) e = go (same_group g h) e (entered-last g n rest)
  where
    go : (b : Bool) → (b || is_entered rest g) ≡ true → (is_entered rest g ≡ true → is_entered (rest ++ n ∷ []) g ≡ true) → (b || is_entered (rest ++ n ∷ []) g) ≡ true
    go true e later = refl
    go false e later = later e

not-same : (a b : List ℕ) → same_group b a ≡ false → same_group a b ≡ false
not-same a b e = elim (cases_Bool (same_group a b)) [
  | inr n ↦ n
  | inl y ↦ absurd (true≢false (sym (subst (λ g. same_group g a ≡ true) (same_group-true a b y) (same_group-refl a)) ∙ e))
]

entered-not_last : (g n : List ℕ) (groups : List (List ℕ)) → is_entered groups g ≡ false → same_group g n ≡ false → is_entered (groups ++ n ∷ []) g ≡ false
entered-not_last g n [] e d = rw d refl
entered-not_last g n (h ∷ rest) e d = let s = or_parts (same_group g h) (is_entered rest g) e in rw s.0 (entered-not_last g n rest s.1 d)

distinct-last : (n : List ℕ) (groups : List (List ℕ)) → AreDistinct groups → is_entered groups n ≡ false → AreDistinct (groups ++ n ∷ [])
distinct-last n [] d e = (refl, tt)
distinct-last n (g ∷ rest) d e =
    let s = or_parts (same_group n g) (is_entered rest n) e in
    (entered-not_last g n rest d.0 (not-same g n s.0), distinct-last n rest d.1 s.1)

row-at : (rows : List Row) (place : ℕ) (r : Row) → slice_get rows place ≡ Some r → IsRow r rows
row-at [] place r e = absurd (let bad : ⊥ = cc in bad)
row-at (s ∷ rest) zero r e = inl (let is : s ≡ r = cc in is)
row-at (s ∷ rest) (suc place) r e = inr (row-at rest place r e)

-- a row of the changed list is an old one, or the changed one
record IsChanged (rows : List Row) (place : ℕ) (f : Row → Row) (r : Row) : Type 0 where
  pub from : Row
  pub at : slice_get rows place ≡ Some from
  pub is : f from ≡ r

rows-changed : (rows : List Row) (place : ℕ) (f : Row → Row) (r : Row) → IsRow r (change_at rows place f) → IsRow r rows ⊎ IsChanged rows place f r
rows-changed [] place f r i = absurd i
rows-changed (s ∷ rest) zero f r (inl e) = inr (record { from = s; at = refl; is = e })
rows-changed (s ∷ rest) zero f r (inr i) = inl (inr i)
rows-changed (s ∷ rest) (suc place) f r (inl e) = inl (inl e)
rows-changed (s ∷ rest) (suc place) f r (inr i) = elim (rows-changed rest place f r i) [
  | inl j ↦ inl (inr j)
  | inr c ↦ inr (record { from = c.from; at = c.at; is = c.is })
]

groups-changed : (rows : List Row) (place : ℕ) (f : Row → Row) → ((r : Row) → (f r).group ≡ r.group) → groups_of (change_at rows place f) ≡ groups_of rows
groups-changed [] place f keeps = refl
groups-changed (s ∷ rest) zero f keeps = ap (λ g. g ∷ groups_of rest) (keeps s)
groups-changed (s ∷ rest) (suc place) f keeps = ap (λ l. s.group ∷ l) (groups-changed rest place f keeps)

length-changed : (rows : List Row) (place : ℕ) (f : Row → Row) → length (change_at rows place f) ≡ length rows
length-changed [] place f = refl
length-changed (s ∷ rest) zero f = refl
length-changed (s ∷ rest) (suc place) f = ap suc (length-changed rest place f)

module _ (p : Problem) (limit : ℕ) where
  -- ---- each event keeps the rows sound ----

  -- what changes one row, and keeps its group
  change-sound : (rows : List Row) (place : ℕ) (f : Row → Row) → ((r : Row) → (f r).group ≡ r.group) → IsSound p limit rows
      → ((r : Row) → slice_get rows place ≡ Some r → (f r).low ≤ low p (groups_of rows) r.group)
      → ((r : Row) → slice_get rows place ≡ Some r → (v : ℕ) → val p (groups_of rows) r.group ≡ Some v → v ≤ (f r).up)
      → IsSound p limit (change_at rows place f)
  change-sound rows place f keeps s lows ups =
      let same = groups-changed rows place f keeps in
      record {
        few = (let l = length-changed rows place f in let few = s.few in omega arith);
        distinct = subst AreDistinct (sym same) s.distinct;
        real = λ r i. elim (rows-changed rows place f r i) [
          | inl j ↦ s.real r j
          | inr c ↦ subst (IsReal p) (sym (keeps c.from) ∙ ap (λ x. x.group) c.is) (s.real c.from (row-at rows place c.from c.at))
        ];
        lows = λ r i. subst (λ g. r.low ≤ low p g r.group) (sym same) (elim (rows-changed rows place f r i) [
          | inl j ↦ s.lows r j
          | inr c ↦ subst (λ (x : Row). x.low ≤ low p (groups_of rows) x.group) c.is
              (subst (λ g. (f c.from).low ≤ low p (groups_of rows) g) (sym (keeps c.from)) (lows c.from c.at))
        ]);
        ups = λ r i v e.
            let e' : val p (groups_of rows) r.group ≡ Some v = subst (λ g. val p g r.group ≡ Some v) same e in
            elim (rows-changed rows place f r i) [
              | inl j ↦ s.ups r j v e'
              | inr c ↦
                  (let k : r.group ≡ (c.from).group = sym (ap (λ x. x.group) c.is) ∙ keeps c.from in
                  let u : v ≤ (f c.from).up = ups c.from c.at v (subst (λ g. val p (groups_of rows) g ≡ Some v) k e') in
                  subst (λ (x : Row). v ≤ x.up) c.is u)
            ];
      }

  raise-sound : (rows : List Row) (place to : ℕ) → IsSound p limit rows → IsAllowed p limit rows (raise place to) → IsSound p limit (after rows (raise place to))
  raise-sound rows place to s allowed = change-sound rows place (λ r. record { group = r.group; low = max r.low to; up = r.up }) (λ r. refl) s
      (λ r e.
      let i = row-at rows place r e in
      let is : allowed.0 ≡ r = cc in
      let a : to ≤ most_low p rows r.group = subst (λ (x : Row). to ≤ most_low p rows x.group) is allowed.2 in
      let m = most_low-le p (groups_of rows) rows s.lows r.group (s.real r i).goals (row-entered r rows i) in
      let l = s.lows r i in
      omega arith)
      (λ r e v is. s.ups r (row-at rows place r e) v is)

  cap-sound : (rows : List Row) (place to : ℕ) → IsSound p limit rows → IsAllowed p limit rows (cap place to) → IsSound p limit (after rows (cap place to))
  cap-sound rows place to s allowed = change-sound rows place (λ r. record { group = r.group; low = r.low; up = min r.up to }) (λ r. refl) s
      (λ r e. s.lows r (row-at rows place r e))
      (λ r e v is.
      let i = row-at rows place r e in
      let same : allowed.0 ≡ r = cc in
      let a : least_up p rows r.group ≤ to = subst (λ (x : Row). least_up p rows x.group ≤ to) same allowed.2 in
      let m = least_up-ge p (groups_of rows) rows s.ups (λ q k. row-entered q rows k) r.group v (s.real r i).goals (row-entered r rows i) is in
      let l = s.ups r i v is in
      omega arith)

-- wanted groups are no larger than all classes
record IsSmall (p : Problem) (g : List ℕ) : Type 0 where
  pub short : length g ≤ p.classes
  pub light : weight_of p g ≤ weight_of p (all_classes p)

wanted-small : (p : Problem) (g : List ℕ) → IsWanted p g → IsSmall p g
wanted-small p g root = record { short = (let l = length-count_up 0 p.classes in omega arith); light = omega arith }
  where
    length-count_up : (from n : ℕ) → length (count_up from n) ≡ n
    length-count_up from zero = refl
    length-count_up from (suc n) = ap suc (length-count_up (suc from) n)
wanted-small p g (part_of group t n passed w e there s l le) = go passed (wanted-small p group w)
  where
    go : (b : Bool) → IsSmall p group → IsSmall p (part p t b group)
    go true h = record {
      short = (let a = length-two_filters (p.passes t) group in let b = h.short in omega arith);
      light = (let a = weight_of-parts p t group in let b = h.light in omega arith);
    }
    go false h = record {
      short = (let a = length-two_filters (p.passes t) group in let b = h.short in omega arith);
      light = (let a = weight_of-parts p t group in let b = h.light in omega arith);
    }

product-le : (a b c d : ℕ) → a ≤ c → b ≤ d → a * b ≤ c * d
product-le a b c d h1 h2 = let f1 = mul-le-mul_left a h2 in let f2 = mul-le-mul_right d h1 in omega arith

-- greedy's cost fits a word
wanted-fits : (p : Problem) (g : List ℕ) → IsSized p → AreTold p → IsWanted p g → greedy_cost p g ≤ no_value
wanted-fits p g sized told w =
    let small = wanted-small p g w in
    let f1 = greedy-cheap p 1000000 g sized.costs told (wanted-within p g w) in
    let s1 = small.short in
    let s2 = small.light in
    let s3 = sized.classes in
    let s4 = sized.weights in
    let f2 = product-le (weight_of p g) (length g * 1000000) 4097000000 512000000 (omega arith) (omega arith) in
    omega arith

module _ (p : Problem) (limit : ℕ) where
  enter-sound : (rows : List Row) (g : List ℕ) → IsSized p → AreTold p → IsSound p limit rows → IsAllowed p limit rows (enter g) → IsSound p limit (after rows (enter g))
  enter-sound rows g sized told s allowed =
      let n : Row = record { group = g; low = 0; up = no_value } in
      let same = groups-last n rows in
      let more = (λ (h : List ℕ) (e : is_entered (groups_of rows) h ≡ true). subst (λ gs. is_entered gs h ≡ true) (sym same) (entered-last h g (groups_of rows) e)) in
      record {
        few = (let l = length-append rows (n ∷ []) in let lt = allowed.2 in omega arith);
        distinct = subst AreDistinct (sym same) (distinct-last g (groups_of rows) s.distinct allowed.1);
        real = λ r i. elim (rows-last r n rows i) [
          | inl j ↦ s.real r j
          | inr e ↦ subst (λ (x : Row). IsReal p x.group) e allowed.0
        ];
        lows = λ r i. elim (rows-last r n rows i) [
          | inl j ↦ (let a = s.lows r j in let b = low-grows p (groups_of rows) (groups_of (rows ++ n ∷ [])) r.group more in omega arith)
          | inr e ↦ subst (λ (x : Row). x.low ≤ low p (groups_of (rows ++ n ∷ [])) x.group) e (omega arith)
        ];
        ups = λ r i v is. elim (rows-last r n rows i) [
          | inl j ↦
              (let value = least_of (greedy_cost p r.group ∷ filter_map (step_value p (val p (groups_of rows)) r.group) (splitting p r.group)) in
              let old : val p (groups_of rows) r.group ≡ Some value = val-entered p (groups_of rows) r.group (s.real r j).goals (row-entered r rows j) in
              let a = s.ups r j value old in
              let b = val-falls p (groups_of rows) (groups_of (rows ++ n ∷ [])) r.group value more old in
              let c = b.le in
              let d = some-one p v b.value (val p (groups_of (rows ++ n ∷ [])) r.group) is b.is in
              omega arith)
          | inr e ↦ subst (λ (x : Row). v ≤ x.up) e (new_up v (subst (λ (x : Row). val p (groups_of (rows ++ n ∷ [])) x.group ≡ Some v) (sym e) is) same)
        ];
      }
    where
      new_up : (v : ℕ) {groups : List (List ℕ)} → val p groups g ≡ Some v → groups ≡ groups_of rows ++ g ∷ [] → v ≤ no_value
      new_up v {groups} is same =
          let i = subst (λ gs. is_entered gs g ≡ true) (sym same) (entered-itself g (groups_of rows)) in
          let e = some-one p v _ (val p groups g) is (val-entered p groups g (allowed.0).goals i) in
          let f = least_of-first (greedy_cost p g) (filter_map (step_value p (val p groups) g) (splitting p g)) in
          let b = wanted-fits p g sized told (allowed.0).wanted in
          omega arith

  event-sound : (rows : List Row) (e : Event) → IsSized p → AreTold p → IsSound p limit rows → IsAllowed p limit rows e → IsSound p limit (after rows e)
  event-sound rows (enter g) sized told s a = enter-sound rows g sized told s a
  event-sound rows (raise place to) sized told s a = raise-sound p limit rows place to s a
  event-sound rows (cap place to) sized told s a = cap-sound p limit rows place to s a

  -- every list of allowed events keeps the rows sound
  pub events-sound : (rows : List Row) (events : List Event) → IsSized p → AreTold p → IsSound p limit rows → AreAllowed p limit rows events → IsSound p limit (after_all rows events)
  events-sound rows [] sized told s a = s
  events-sound rows (e ∷ rest) sized told s a = events-sound (after rows e) rest sized told (event-sound rows e sized told s a.0) a.1

  pub none-sound : IsSound p limit []
  none-sound = record { few = omega arith; distinct = tt; real = λ r i. absurd i; lows = λ r i. absurd i; ups = λ r i v e. absurd i }

  -- so the least cost of each row's group lies between its low and its up
  pub sound-bounds : (rows : List Row) (r : Row) → IsWeighed p → AreTold p → IsSound p limit rows → IsRow r rows → (r.low ≤ least p r.group) × (least p r.group ≤ r.up)
  sound-bounds rows r w told s i =
      let real = s.real r i in
      let within = wanted-within p r.group real.wanted in
      let value = least_of (greedy_cost p r.group ∷ filter_map (step_value p (val p (groups_of rows)) r.group) (splitting p r.group)) in
      let is : val p (groups_of rows) r.group ≡ Some value = val-entered p (groups_of rows) r.group real.goals (row-entered r rows i) in
      let a = s.lows r i in
      let b = low-le-least p (groups_of rows) r.group w told within in
      let c = least-le-val p (groups_of rows) r.group value told within is in
      let d = s.ups r i value is in
      (omega arith, omega arith)
