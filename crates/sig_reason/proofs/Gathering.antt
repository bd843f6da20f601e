-- What is gathered fault by fault: which tests have a cause and which several, which lie outside a test, and lists that grow by an item.
use Rattle.std.proofs.Common.{◌≡◌, ℕ, ◌+◌, ◌<◌, List, [], ◌∷◌, ◌++◌, length, get_or, refl, sym, ap, ◌∙◌, subst, arith, inl, inr, replicate, length-append}
use Rattle.std.specs.Prelude.{Bool, true, false, not, ◌||◌, ◌&&◌}
use Rattle.std.proofs.lemmas.Bool.{cases_Bool, cases_lt, both_ways, or_cases, or_parts, and_parts, and_cases, and_from, not-true, not-false}
use Rattle.std.proofs.lemmas.List.{get_or_append_left}
use Rattle.std.proofs.Math.Seq.{get_or-append_seam}
use Rattle.sig_matrix.specs.Detection.{in_row}
use Rattle.sig_reason.specs.declared.causes.Standing.{Standing}
use Rattle.sig_reason.specs.declared.rules.Tally.{Tally}
use Rattle.sig_reason.specs.Rows.{HasJust, HasSome}
use Rattle.sig_reason.specs.Causes.{no_standing, is_cause_in}
use Rattle.sig_reason.specs.Rules.{AddsCauses, IsTally, IsOutside, IsWithin, AreWithins, SparesEach}
use Rattle.sig_reason.proofs.WordLaws.{zero-row}

-- what holds of each item so far and of the next holds of each with the next
pub each-next : {X : Type 0} (P : ℕ → X → Type 0) (xs : List X) (x d : X) (n : ℕ) → length xs ≡ n → ((f : ℕ) → f < n → P f (get_or xs f d)) → P n x → (f : ℕ) → f < n + 1 → P f (get_or (xs ++ x ∷ []) f d)
each-next P xs x d n long each here f lt = elim (cases_lt f n) [
  | inl below ↦ subst (P f) (sym (get_or_append_left xs (x ∷ []) d f (omega arith))) (each f below)
  | inr past ↦ (let at_end : length xs ≡ f = omega arith in let same : n ≡ f = omega arith in
      subst (P f) (sym (ap (λ k. get_or (xs ++ x ∷ []) k d) (sym at_end) ∙ get_or-append_seam xs x [] d)) (subst (λ k. P k x) same here))
]

pub length-next : {X : Type 0} (xs : List X) (x : X) → length (xs ++ x ∷ []) ≡ length xs + 1
length-next xs x = length-append xs (x ∷ [])

-- the tests of which the next fault is a cause
this-is : (standings : List Standing) (n : ℕ) (causes : List ℕ) → causes ≡ (get_or standings n no_standing).causes → (f t : ℕ) → n ≡ f → in_row causes t ≡ is_cause_in standings f t
this-is standings n causes e f t same = ap (λ (x : List ℕ). in_row x t) (e ∙ ap (λ k. (get_or standings k no_standing).causes) same)

pub tally-none : (standings : List Standing) → IsTally standings 0 (record { some = replicate {A = ℕ} 4 0; several = replicate {A = ℕ} 4 0 })
tally-none standings = record {
  some = λ t lt y. absurd (both_ways (in_row (replicate {A = ℕ} 4 0) t) (zero-row t) y);
  none = λ t lt away f below. absurd (let bad : ⊥ = omega arith in bad);
  several = λ t lt y. absurd (both_ways (in_row (replicate {A = ℕ} 4 0) t) (zero-row t) y);
  lone = λ t lt away f g fl gl. absurd (let bad : ⊥ = omega arith in bad);
}

pub tally-next : (standings : List Standing) (n : ℕ) (old new : Tally) (causes : List ℕ) → IsTally standings n old → AddsCauses old causes new → causes ≡ (get_or standings n no_standing).causes → IsTally standings (n + 1) new
tally-next standings n old new causes h adds e = record { some = some; none = none; several = several; lone = lone }
  where
    mine : (f t : ℕ) → n ≡ f → in_row causes t ≡ is_cause_in standings f t
    mine = this-is standings n causes e

    some : (t : ℕ) → t < 256 → in_row new.some t ≡ true → (f : ℕ) × (f < n + 1) × (is_cause_in standings f t ≡ true)
    some t lt y = elim (or_cases (in_row old.some t) (in_row causes t) (sym (adds.some t lt) ∙ y)) [
      | inl before ↦ (let x = h.some t lt before in (x.0, (let p = x.1 in omega arith), x.2))
      | inr now_one ↦ (n, omega arith, sym (mine n t refl) ∙ now_one)
    ]

    none : (t : ℕ) → t < 256 → in_row new.some t ≡ false → (f : ℕ) → f < n + 1 → is_cause_in standings f t ≡ false
    none t lt away f below =
        let p = or_parts (in_row old.some t) (in_row causes t) (sym (adds.some t lt) ∙ away) in
        elim (cases_lt f n) [
          | inl under ↦ h.none t lt p.0 f under
          | inr past ↦ (let same : n ≡ f = omega arith in sym (mine f t same) ∙ p.1)
        ]

    several : (t : ℕ) → t < 256 → in_row new.several t ≡ true → (f : ℕ) × (g : ℕ) × (f < g) × (g < n + 1) × (is_cause_in standings f t ≡ true) × (is_cause_in standings g t ≡ true)
    several t lt y = elim (or_cases (in_row old.several t) (in_row old.some t && in_row causes t) (sym (adds.several t lt) ∙ y)) [
      | inl before ↦ (let x = h.several t lt before in (x.0, x.1, x.2, (let p = x.3 in omega arith), x.4, x.5))
      | inr both ↦ (let p = and_parts (in_row old.some t) (in_row causes t) both in let x = h.some t lt p.0 in (x.0, n, x.1, omega arith, x.2, sym (mine n t refl) ∙ p.1))
    ]

    apart : (t : ℕ) → t < 256 → in_row new.several t ≡ false → (f g : ℕ) → f < n → n ≡ g → is_cause_in standings f t ≡ true → is_cause_in standings g t ≡ true → ⊥
    apart t lt away f g below same cf cg =
        let p = or_parts (in_row old.several t) (in_row old.some t && in_row causes t) (sym (adds.several t lt) ∙ away) in
        elim (cases_Bool (in_row old.some t)) [
          | inl one ↦ both_ways (in_row old.some t && in_row causes t) p.1 (and_from (in_row old.some t) (in_row causes t) one (mine g t same ∙ cg))
          | inr nothing ↦ both_ways (is_cause_in standings f t) (h.none t lt nothing f below) cf
        ]

    lone : (t : ℕ) → t < 256 → in_row new.several t ≡ false → (f g : ℕ) → f < n + 1 → g < n + 1 → is_cause_in standings f t ≡ true → is_cause_in standings g t ≡ true → f ≡ g
    lone t lt away f g fl gl cf cg =
        let p = or_parts (in_row old.several t) (in_row old.some t && in_row causes t) (sym (adds.several t lt) ∙ away) in
        elim (cases_lt f n) [
          | inl f_under ↦ elim (cases_lt g n) [
            | inl g_under ↦ h.lone t lt p.0 f g f_under g_under cf cg
            | inr g_past ↦ (let same : n ≡ g = omega arith in absurd (apart t lt away f g f_under same cf cg))
          ]
          | inr f_past ↦ (let f_same : n ≡ f = omega arith in elim (cases_lt g n) [
            | inl g_under ↦ absurd (apart t lt away g f g_under f_same cg cf)
            | inr g_past ↦ omega arith
          ])
        ]

-- the failed tests that aren't outside
pub within-is : (standings : List Standing) (failed outside row : List ℕ) (test : ℕ) → IsOutside standings test (length standings) outside → HasJust row (λ u. in_row failed u && not (in_row outside u)) → IsWithin standings failed test row
within-is standings failed outside row test h just = record {
  fails = λ u lt y. (parts u lt y).0;
  within = λ u lt y. h.within u lt (not-true (in_row outside u) (parts u lt y).1);
  outside = λ u lt bad away. h.outside u lt (elim (and_cases (in_row failed u) (not (in_row outside u)) (sym (just.tests u lt) ∙ away)) [
    | inl isnt ↦ absurd (both_ways (in_row failed u) isnt bad)
    | inr there ↦ not-false (in_row outside u) there
  ]);
}
  where
    parts : (u : ℕ) → u < 256 → in_row row u ≡ true → (in_row failed u ≡ true) × (not (in_row outside u) ≡ true)
    parts u lt y = and_parts (in_row failed u) (not (in_row outside u)) (sym (just.tests u lt) ∙ y)

pub withins-none : (standings : List Standing) (failed : List ℕ) → AreWithins standings failed 0 []
withins-none standings failed = record { each = λ k lt. absurd (let bad : ⊥ = omega arith in bad); all = λ t lt. absurd (let bad : ⊥ = omega arith in bad) }

pub withins-pass : (standings : List Standing) (failed : List ℕ) (n : ℕ) (rows : List (List ℕ)) → in_row failed n ≡ false → AreWithins standings failed n rows → AreWithins standings failed (n + 1) rows
withins-pass standings failed n rows away h = record {
  each = h.each;
  all = λ t lt bad. elim (cases_lt t n) [
    | inl under ↦ h.all t under bad
    | inr past ↦ (let same : n ≡ t = omega arith in absurd (both_ways (in_row failed t) (subst (λ k. in_row failed k ≡ false) same away) bad))
  ];
}

pub withins-next : (standings : List Standing) (failed : List ℕ) (n : ℕ) (rows : List (List ℕ)) (row : List ℕ) → n < 256 → in_row failed n ≡ true → IsWithin standings failed n row → AreWithins standings failed n rows → AreWithins standings failed (n + 1) (rows ++ row ∷ [])
withins-next standings failed n rows row small bad here h = record { each = each; all = all }
  where
    seam : get_or (rows ++ row ∷ []) (length rows) [] ≡ row
    seam = get_or-append_seam rows row [] []

    left : (k : ℕ) → k < length rows → get_or (rows ++ row ∷ []) k [] ≡ get_or rows k []
    left k lt = get_or_append_left rows (row ∷ []) [] k lt

    each : (k : ℕ) → k < length (rows ++ row ∷ []) → (t : ℕ) × (t < 256) × (in_row failed t ≡ true) × IsWithin standings failed t (get_or (rows ++ row ∷ []) k [])
    each k lt = let long = length-next rows row in elim (cases_lt k (length rows)) [
      | inl under ↦ (let x = h.each k under in (x.0, x.1, x.2, subst (IsWithin standings failed x.0) (sym (left k under)) x.3))
      | inr past ↦ (let same : length rows ≡ k = omega arith in (n, small, bad, subst (λ i. IsWithin standings failed n (get_or (rows ++ row ∷ []) i [])) same (subst (IsWithin standings failed n) (sym seam) here)))
    ]

    all : (t : ℕ) → t < n + 1 → in_row failed t ≡ true → (k : ℕ) × (k < length (rows ++ row ∷ [])) × IsWithin standings failed t (get_or (rows ++ row ∷ []) k [])
    all t lt y = let long = length-next rows row in elim (cases_lt t n) [
      | inl under ↦ (let x = h.all t under y in (x.0, (let p = x.1 in omega arith), subst (IsWithin standings failed t) (sym (left x.0 x.1)) x.2))
      | inr past ↦ (let same : n ≡ t = omega arith in (length rows, omega arith, subst (λ i. IsWithin standings failed i (get_or (rows ++ row ∷ []) (length rows) [])) same (subst (IsWithin standings failed n) (sym seam) here)))
    ]

-- a row has a test that the causes lack
pub spare-next : (causes : List ℕ) (rows : List (List ℕ)) (n : ℕ) (row rest : List ℕ) → HasJust rest (λ u. in_row row u && not (in_row causes u)) → HasSome rest → SparesEach causes rows n → row ≡ get_or rows n [] → SparesEach causes rows (n + 1)
spare-next causes rows n row rest just some h e k lt = elim (cases_lt k n) [
  | inl under ↦ h k under
  | inr past ↦ (let same : n ≡ k = omega arith in let p = and_parts (in_row row some.test) (not (in_row causes some.test)) (sym (just.tests some.test some.small) ∙ some.there) in
      (some.test, some.small, subst (λ r. in_row r some.test ≡ true) (e ∙ ap (λ i. get_or rows i []) same) p.0, not-true (in_row causes some.test) p.1))
]
