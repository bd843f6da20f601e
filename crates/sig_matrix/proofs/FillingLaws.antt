-- Rows are filled in bit by bit: by faults for one test, by tests for one mode, and mode by mode.
use Rattle.std.proofs.Common.{◌≡◌, ◌≢◌, ℕ, zero, suc, ◌+◌, ◌*◌, ◌/◌, ◌%◌, ◌^◌, ◌<◌, ◌≤◌, List, [], ◌∷◌, ◌++◌, length, get_or, set, replicate, refl, sym, ap, ◌∙◌, arith, map, take, drop, lt-ltb, ne_eqb, ◌⊎◌, inl, inr, subst, get_or-set_other, get_or-set_same, w64}
use Rattle.std.specs.Prelude.{Bool, true, false, ◌↔◌, ◌||◌, ◌&&◌, bit_or, nat_eq, nat_lt}
use Rattle.std.proofs.Math.Seq.{take-append_seam}
use Rattle.std.proofs.lemmas.List.{length-replicate}
use Rattle.std.proofs.lemmas.Bool.{cases_lt, cases_eq, true≢false, eq-eqb}
use Rattle.std.proofs.lemmas.Bool.Decides.{nat_tests}
use Rattle.std.proofs.lemmas.Nat.Bits.{bit_at_set_same, bit_at_set_other, bit_at-zero}
use Rattle.std.specs.Int.{bit_at}
use Rattle.sig_types.specs.Sets.{has_bit}
use Rattle.sig_flat.specs.declared.flat.Flat.{Flat}
use Rattle.sig_flat.specs.declared.flat.FlatTest.{FlatTest}
use Rattle.sig_matrix.specs.Detection.{Detects, in_row, fault_at, test_at}
use Rattle.sig_matrix.specs.Filling.{is_set, IsSetIn, IsTestAdded, IsWanted, AreRows, is_before}

-- a row with one more bit
abbrev pub with_bit : List ℕ → ℕ → List ℕ
with_bit row test = set row (test / 64) (bit_or (get_or row (test / 64) 0) (1 * 2 ^ (test % 64) % 2 ^ 64))

pub with_bit-is : (row : List ℕ) (test : ℕ) → test / 64 < length row → IsSetIn test row (with_bit row test)
with_bit-is row test there = record {
  there = ap (λ w. has_bit w (test % 64)) itself ∙ eq-eqb (bit_at (bit_or (get_or row (test / 64) 0) (1 * 2 ^ (test % 64) % 2 ^ 64)) (test % 64)) 1 (bit_at_set_same w64 (get_or row (test / 64) 0) (test % 64) small);
  others = λ t ne. elim (cases_eq (t / 64) (test / 64)) [
    | inl same ↦
        (let apart : t % 64 ≢ test % 64 = λ e. ne (omega arith) in
        subst (λ k. has_bit (get_or (with_bit row test) k 0) (t % 64) ≡ has_bit (get_or row k 0) (t % 64)) (sym same)
        (ap (λ w. has_bit w (t % 64)) itself ∙ ap (λ b. nat_eq b 1) (bit_at_set_other w64 (get_or row (test / 64) 0) (test % 64) small (t % 64) apart)))
    | inr apart ↦ ap (λ w. has_bit w (t % 64)) (get_or-set_other row (test / 64) (t / 64) (bit_or (get_or row (test / 64) 0) (1 * 2 ^ (test % 64) % 2 ^ 64)) 0 apart)
  ];
}
  where
    small : test % 64 < 64
    small = omega arith

    itself : get_or (with_bit row test) (test / 64) 0 ≡ bit_or (get_or row (test / 64) 0) (1 * 2 ^ (test % 64) % 2 ^ 64)
    itself = get_or-set_same row (test / 64) (bit_or (get_or row (test / 64) 0) (1 * 2 ^ (test % 64) % 2 ^ 64)) 0 there

-- the faults below a number are done
pub record IsTestAddedBelow (flat : Flat) (test : FlatTest) (column : ℕ) (old new : List (List ℕ)) (n : ℕ) : Type 0 where
  pub detected : (f : ℕ) → f < n → Detects flat (fault_at flat f) test → is_set new f column ≡ true
  pub only : (f : ℕ) → f < n → is_set new f column ≡ true → (is_set old f column ≡ true) ⊎ Detects flat (fault_at flat f) test
  pub rest : (f : ℕ) → n ≤ f → get_or new f [] ≡ get_or old f []
  pub others : (f t : ℕ) → t ≢ column → is_set new f t ≡ is_set old f t

module _ (flat : Flat) (test : FlatTest) (column : ℕ) (old : List (List ℕ)) where
  pub added-none : IsTestAddedBelow flat test column old old 0
  added-none = record {
    detected = λ f lt d. absurd (let no : ⊥ = omega arith in no);
    only = λ f lt h. absurd (let no : ⊥ = omega arith in no);
    rest = λ f le. refl;
    others = λ f t ne. refl;
  }

  -- a fault that the test does not detect is passed
  pub added-pass : (new : List (List ℕ)) (n : ℕ) → (Detects flat (fault_at flat n) test → ⊥) → IsTestAddedBelow flat test column old new n → IsTestAddedBelow flat test column old new (n + 1)
  added-pass new n not h = record {
    detected = λ f lt d. elim (cases_lt f n) [
      | inl below ↦ h.detected f below d
      | inr ge ↦ (let e : f ≡ n = omega arith in absurd (not (subst (λ k. Detects flat (fault_at flat k) test) e d)))
    ];
    only = λ f lt s. elim (cases_lt f n) [
      | inl below ↦ h.only f below s
      | inr ge ↦ inl (sym (ap (λ row. in_row row column) (h.rest f ge)) ∙ s)
    ];
    rest = λ f le. h.rest f (omega arith);
    others = h.others;
  }

  -- a fault that it detects gets the bit
  pub added-more : (new : List (List ℕ)) (n : ℕ) (row : List ℕ) → n < length new → Detects flat (fault_at flat n) test → IsSetIn column (get_or new n []) row → IsTestAddedBelow flat test column old new n
      → IsTestAddedBelow flat test column old (set new n row) (n + 1)
  added-more new n row there d s h = record {
    detected = λ f lt g. elim (cases_eq f n) [
      | inl e ↦ subst (λ k. is_set (set new n row) k column ≡ true) (sym e) (ap (λ r. in_row r column) itself ∙ s.there)
      | inr ne ↦ ap (λ r. in_row r column) (other f ne) ∙ h.detected f (omega arith) g
    ];
    only = λ f lt g. elim (cases_eq f n) [
      | inl e ↦ inr (subst (λ k. Detects flat (fault_at flat k) test) (sym e) d)
      | inr ne ↦ h.only f (omega arith) (sym (ap (λ r. in_row r column) (other f ne)) ∙ g)
    ];
    rest = λ f le. elim (cases_eq f n) [
      | inl e ↦ absurd (let no : ⊥ = omega arith in no)
      | inr ne ↦ other f ne ∙ h.rest f (omega arith)
    ];
    others = λ f t ne. elim (cases_eq f n) [
      | inl e ↦ subst (λ k. is_set (set new n row) k t ≡ is_set old k t) (sym e) (ap (λ r. in_row r t) itself ∙ s.others t ne ∙ h.others n t ne)
      | inr apart ↦ ap (λ r. in_row r t) (other f apart) ∙ h.others f t ne
    ];
  }
    where
      itself : get_or (set new n row) n [] ≡ row
      itself = get_or-set_same new n row [] there

      other : (f : ℕ) → f ≢ n → get_or (set new n row) f [] ≡ get_or new f []
      other f ne = get_or-set_other new n f row [] ne

  pub added-all : (new : List (List ℕ)) (n : ℕ) → length flat.faults ≤ n → IsTestAddedBelow flat test column old new n → IsTestAdded flat test column old new
  added-all new n le h = record {
    detected = λ f lt d. h.detected f (omega arith) d;
    only = λ f lt s. h.only f (omega arith) s;
    others = h.others;
  }

-- whether the test is of an earlier mode, or of this mode and below a number
abbrev pub is_behind : List FlatTest → ℕ → ℕ → ℕ → Bool
is_behind tests mode n t = is_before tests mode t || (nat_eq (test_at tests t).mode mode && nat_lt t n)

module _ (flat : Flat) (tests : List FlatTest) where
  -- the same tests are done
  pub rows-same : (is_done is_done' : ℕ → Bool) (rows : List (List ℕ)) → ((t : ℕ) → t < length tests → is_done' t ≡ is_done t) → AreRows flat tests is_done rows → AreRows flat tests is_done' rows
  rows-same is_done is_done' rows same h = record {
    long = h.long;
    filled = λ f t lf lt d. h.filled f t lf lt (sym (same t lt) ∙ d);
    clear = λ f t lf lt d. h.clear f t lf lt (sym (same t lt) ∙ d);
    past = h.past;
  }

  -- one more test is done
  pub rows-more : (is_done is_done' : ℕ → Bool) (column : ℕ) (old new : List (List ℕ)) → column < length tests → is_done column ≡ false → is_done' column ≡ true → ((t : ℕ) → t < length tests → t ≢ column → is_done' t ≡ is_done t) → length new ≡ length old → IsTestAdded flat (test_at tests column) column old new
      → AreRows flat tests is_done old → AreRows flat tests is_done' new
  rows-more is_done is_done' column old new there undone done kept long added h = record {
    long = long ∙ h.long;
    filled = λ f t lf lt d. elim (cases_eq t column) [
      | inl e ↦ subst (λ k. (is_set new f k ≡ true) ↔ Detects flat (fault_at flat f) (test_at tests k)) (sym e) (
        (λ s. elim (added.only f lf s) [ inl o ↦ absurd (true≢false (sym o ∙ h.clear f column lf there undone)) | inr g ↦ g ]),
        (λ g. added.detected f lf g),
      )
      | inr ne ↦
          (let r = h.filled f t lf lt (sym (kept t lt ne) ∙ d) in
          ((λ s. r.0 (sym (added.others f t ne) ∙ s)), (λ g. added.others f t ne ∙ r.1 g)))
    ];
    clear = λ f t lf lt d. elim (cases_eq t column) [
      | inl e ↦ absurd (true≢false (sym (ap is_done' e ∙ done) ∙ d))
      | inr ne ↦ added.others f t ne ∙ h.clear f t lf lt (sym (kept t lt ne) ∙ d)
    ];
    past = λ f t lf ge lt. added.others f t (λ e. let no : ⊥ = omega arith in no) ∙ h.past f t lf ge lt;
  }

-- the tests with some numbers, one by one
pub test_at-map : (tests : List FlatTest) (numbers : List ℕ) (t : ℕ) → t < length numbers → test_at (map (test_at tests) numbers) t ≡ test_at tests (get_or numbers t 0)
test_at-map tests [] t lt = absurd (let no : ⊥ = omega arith in no)
test_at-map tests (n ∷ numbers) zero lt = refl
test_at-map tests (n ∷ numbers) (suc t) lt = test_at-map tests numbers t (omega arith)

-- a test of this mode that is next
next-undone : (m mode n : ℕ) → m ≡ mode → (nat_lt m mode || (nat_eq m mode && nat_lt n n)) ≡ false
next-undone m mode n e = grind (arith, nat_tests)

next-done : (m mode n : ℕ) → m ≡ mode → (nat_lt m mode || (nat_eq m mode && nat_lt n (n + 1))) ≡ true
next-done m mode n e = grind (arith, nat_tests)

-- every other test is behind as before
other-same : (m mode n t : ℕ) → t ≢ n → (nat_lt m mode || (nat_eq m mode && nat_lt t (n + 1))) ≡ (nat_lt m mode || (nat_eq m mode && nat_lt t n))
other-same m mode n t ne = ap (λ b. nat_lt m mode || (nat_eq m mode && b)) (below t n ne)
  where
    below : (t n : ℕ) → t ≢ n → nat_lt t (n + 1) ≡ nat_lt t n
    below t n ne = grind (arith, nat_tests)

-- a test of another mode is behind as before
pass-same : (m mode n t : ℕ) → m ≢ mode → (nat_lt m mode || (nat_eq m mode && nat_lt t (n + 1))) ≡ (nat_lt m mode || (nat_eq m mode && nat_lt t n))
pass-same m mode n t ne = ap (λ b. nat_lt m mode || (b && nat_lt t (n + 1))) (ne_eqb m mode ne) ∙ sym (ap (λ b. nat_lt m mode || (b && nat_lt t n)) (ne_eqb m mode ne))

-- at first the tests of earlier modes are behind, and at last those of this mode too
first-same : (m mode t : ℕ) → (nat_lt m mode || (nat_eq m mode && nat_lt t 0)) ≡ nat_lt m mode
first-same m mode t = grind (arith, nat_tests)

last-same : (m mode n t : ℕ) → t < n → nat_lt m (mode + 1) ≡ (nat_lt m mode || (nat_eq m mode && nat_lt t n))
last-same m mode n t lt = grind (arith, nat_tests)

unused-same : (m mode : ℕ) → m ≢ mode → nat_lt m (mode + 1) ≡ nat_lt m mode
unused-same m mode ne = grind (arith, nat_tests)

module _ (flat : Flat) (tests : List FlatTest) (mode : ℕ) where
  -- before the first test of a mode
  pub mode-first : (rows : List (List ℕ)) → AreRows flat tests (is_before tests mode) rows → AreRows flat tests (is_behind tests mode 0) rows
  mode-first rows h = rows-same flat tests (is_before tests mode) (is_behind tests mode 0) rows (λ t lt. first-same (test_at tests t).mode mode t) h

  -- the next test is of another mode
  pub mode-pass : (n : ℕ) (rows : List (List ℕ)) → (test_at tests n).mode ≢ mode → AreRows flat tests (is_behind tests mode n) rows → AreRows flat tests (is_behind tests mode (n + 1)) rows
  mode-pass n rows ne h = rows-same flat tests (is_behind tests mode n) (is_behind tests mode (n + 1)) rows (λ t lt. elim (cases_eq t n) [
    | inl e ↦ subst (λ k. is_behind tests mode (n + 1) k ≡ is_behind tests mode n k) (sym e) (pass-same (test_at tests n).mode mode n n ne)
    | inr apart ↦ other-same (test_at tests t).mode mode n t apart
  ]) h

  -- the next test is of this mode, and is added
  pub mode-more : (n : ℕ) (old new : List (List ℕ)) → n < length tests → (test_at tests n).mode ≡ mode → length new ≡ length old → IsTestAdded flat (test_at tests n) n old new
      → AreRows flat tests (is_behind tests mode n) old → AreRows flat tests (is_behind tests mode (n + 1)) new
  mode-more n old new there e long added h =
      rows-more flat tests (is_behind tests mode n) (is_behind tests mode (n + 1)) n old new there (next-undone (test_at tests n).mode mode n e) (next-done (test_at tests n).mode mode n e) (λ t lt apart. other-same (test_at tests t).mode mode n t apart) long added h

  -- after the last test
  pub mode-last : (n : ℕ) (rows : List (List ℕ)) → length tests ≤ n → AreRows flat tests (is_behind tests mode n) rows → AreRows flat tests (is_before tests (mode + 1)) rows
  mode-last n rows le h = rows-same flat tests (is_behind tests mode n) (is_before tests (mode + 1)) rows (λ t lt. last-same (test_at tests t).mode mode n t (omega arith)) h

  -- no test is made in the mode
  pub mode-unused : (rows : List (List ℕ)) → ((t : ℕ) → t < length tests → (test_at tests t).mode ≢ mode) → AreRows flat tests (is_before tests mode) rows → AreRows flat tests (is_before tests (mode + 1)) rows
  mode-unused rows none h = rows-same flat tests (is_before tests mode) (is_before tests (mode + 1)) rows (λ t lt. unused-same (test_at tests t).mode mode (none t lt)) h

-- the nodes of tests that are made in the mode are marked, number by number
module _ (flat : Flat) (mode : ℕ) (numbers : List ℕ) where
  abbrev wanted_test : ℕ → FlatTest
  wanted_test k = test_at flat.tests (get_or numbers k 0)

  -- the next test is made in the mode, and its node is marked
  pub wanted-more : (marks : List Bool) (i node : ℕ) → node ≡ (wanted_test i).node → node < length marks → ((k : ℕ) → k < i → IsWanted flat mode marks (get_or numbers k 0)) → (k : ℕ) → k < i + 1 → IsWanted flat mode (set marks node true) (get_or numbers k 0)
  wanted-more marks i node is there h k lt made = elim (cases_eq (wanted_test k).node node) [
    | inl same ↦ ap (λ v. get_or (set marks node true) v false) same ∙ get_or-set_same marks node true false there
    | inr ne ↦
        (let apart : k ≢ i = λ e. ne (ap (λ j. (wanted_test j).node) e ∙ sym is) in
        get_or-set_other marks node (wanted_test k).node true false ne ∙ h k (omega arith) made)
  ]

  -- the next test is made in another mode
  pub wanted-pass : (marks : List Bool) (i : ℕ) → (wanted_test i).mode ≢ mode → ((k : ℕ) → k < i → IsWanted flat mode marks (get_or numbers k 0)) → (k : ℕ) → k < i + 1 → IsWanted flat mode marks (get_or numbers k 0)
  wanted-pass marks i other h k lt made = elim (cases_eq k i) [
    | inl e ↦ absurd (other (sym (ap (λ j. (wanted_test j).mode) e) ∙ made))
    | inr ne ↦ h k (omega arith) made
  ]

-- at first no bit is set
no-bit : (n f t : ℕ) → is_set (replicate n (replicate {A = ℕ} 4 0)) f t ≡ false
no-bit n f t = ap (λ w. has_bit w (t % 64)) (zero-word n f (t / 64)) ∙ ap (λ b. nat_eq b 1) (bit_at-zero (t % 64))
  where
    four : (k : ℕ) → get_or (replicate {A = ℕ} 4 0) k 0 ≡ 0
    four zero = refl
    four (suc zero) = refl
    four (suc (suc zero)) = refl
    four (suc (suc (suc zero))) = refl
    four (suc (suc (suc (suc k)))) = refl

    zero-word : (n f k : ℕ) → get_or (get_or (replicate n (replicate {A = ℕ} 4 0)) f []) k 0 ≡ 0
    zero-word zero f k = refl
    zero-word (suc n) zero k = four k
    zero-word (suc n) (suc f) k = zero-word n f k

pub rows-none : (flat : Flat) (tests : List FlatTest) (rows : List (List ℕ)) → rows ≡ replicate (length flat.faults) (replicate {A = ℕ} 4 0) → AreRows flat tests (is_before tests 0) rows
rows-none flat tests rows e = record {
  long = ap length e ∙ length-replicate (length flat.faults) (replicate {A = ℕ} 4 0);
  filled = λ f t lf lt d. absurd (let no : ⊥ = never (test_at tests t).mode d in no);
  clear = λ f t lf lt d. ap (λ l. is_set l f t) e ∙ no-bit (length flat.faults) f t;
  past = λ f t lf ge lt. ap (λ l. is_set l f t) e ∙ no-bit (length flat.faults) f t;
}
  where
    never : (m : ℕ) → nat_lt m 0 ≡ true → ⊥
    never m h = grind (arith, nat_tests)

-- at last every test is done
pub rows-whole : (flat : Flat) (tests : List FlatTest) (rows : List (List ℕ)) (modes : ℕ) → ((t : ℕ) → t < length tests → (test_at tests t).mode < modes) → AreRows flat tests (is_before tests modes) rows → AreRows flat tests (λ t. true) rows
rows-whole flat tests rows modes few h = rows-same flat tests (is_before tests modes) (λ t. true) rows (λ t lt. sym (lt-ltb (test_at tests t).mode modes (few t lt))) h

-- a slice that was lent from a list of rows comes back whole
pub whole_rows : (new items : List (List ℕ)) (n : ℕ) → length new ≡ n → take n (new ++ drop (length new) items) ≡ new
whole_rows new items n e = subst (λ k. take k (new ++ drop (length new) items) ≡ new) e (take-append_seam new (drop (length new) items))
