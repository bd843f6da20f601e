-- The four words of two states are equal exactly where their rows are.
--
-- A test below 256 is one bit of the words, and the bits past the tests are 0 in all states. So equal rows have equal
-- bits, and words of 64 bits with equal bits are equal.
use Rattle.std.proofs.Common.{◌≡◌, ℕ, ◌+◌, ◌-◌, ◌*◌, ◌/◌, ◌%◌, ◌<◌, ◌≤◌, length, get_or, replicate, refl, sym, ap, ◌∙◌, arith, inl, inr}
use Rattle.std.specs.Prelude.{Bool, true, false, nat_lt, nat_eq}
use Rattle.std.specs.Int.{bit_at}
use Rattle.std.specs.Str.{bytes_eq}
use Rattle.std.proofs.lemmas.Bool.{cases_Bool, cases_lt, eqb-true, ltb-false, true≢false}
use Rattle.std.proofs.lemmas.List.{ext_get_or, get_or-replicate, get_or_past}
use Rattle.std.proofs.lemmas.Nat.Bits.{bit_at-zero, bit_at-lt, same_from_bits_below}
use Rattle.std.proofs.lemmas.Slice.Eq.{bytes_eq-Decides}
use Rattle.sig_types.specs.Sets.{has_bit}
use Rattle.seq_theory.specs.States.{System, row, same_row}
use Rattle.seq_theory.proofs.StatesLaws.{row-from_same, same-from_row}
use Rattle.sig_matrix.specs.declared.matrix.Matrix.{Matrix}
use Rattle.sig_matrix.specs.Detection.{fails, before_faults, state_count, system_of, state_row, in_row, AreFourWords}
use Rattle.sig_matrix.specs.Valid.{IsValid}
use Rattle.seq_theory.proofs.ByNumberLaws.{length-by_number, get_or-by_number}

no_bit : (t : ℕ) → in_row (replicate {A = ℕ} 4 0) t ≡ false
no_bit t = ap (λ w. has_bit w (t % 64)) zero_word ∙ ap (λ b. nat_eq b 1) (bit_at-zero (t % 64))
  where
    zero_word : get_or (replicate {A = ℕ} 4 0) (t / 64) 0 ≡ 0
    zero_word = elim (cases_lt (t / 64) 4) [
      | inl lt ↦ get_or-replicate 4 (t / 64) 0 0 lt
      | inr past ↦ get_or_past (replicate {A = ℕ} 4 0) (t / 64) 0 past
    ]

-- a state fails the tests whose bits are in its words
pub fails-state_row : (matrix : Matrix) (s t : ℕ) → fails matrix s t ≡ in_row (state_row matrix s) t
fails-state_row matrix s t = elim (cases_Bool (nat_lt s (before_faults matrix))) [
  | inl healthy ↦ rw healthy (sym (no_bit t))
  | inr faulty ↦ rw faulty refl
]

-- equal rows fail the same tests
pub fails-from_row : (sys : System) (a b t : ℕ) → row sys a ≡ row sys b → t < sys.tests → sys.fails a t ≡ sys.fails b t
fails-from_row sys a b t e lt = sym (get_or-by_number (sys.fails a) sys.tests t false lt) ∙ ap (λ r. get_or r t false) e ∙ get_or-by_number (sys.fails b) sys.tests t false lt

bits_equal : (x y i : ℕ) → has_bit x i ≡ has_bit y i → bit_at x i ≡ bit_at y i
bits_equal x y i e = elim (cases_Bool (has_bit x i)) [
  | inl one ↦ (let p = eqb-true (bit_at x i) 1 one in let q = eqb-true (bit_at y i) 1 (sym e ∙ one) in p ∙ sym q)
  | inr none ↦ (let p = zero x none in let q = zero y (sym e ∙ none) in p ∙ sym q)
]
  where
    zero : (w : ℕ) → has_bit w i ≡ false → bit_at w i ≡ 0
    zero w none = let lt = bit_at-lt w i in elim (cases_lt (bit_at w i) 1) [
      | inl low ↦ omega arith
      | inr high ↦ (let one : bit_at w i ≡ 1 = omega arith in absurd (true≢false (sym (ap (λ b. nat_eq b 1) one) ∙ none)))
    ]

module _ (matrix : Matrix) (valid : IsValid matrix) where
  -- no bit past the tests
  none_past : (s t : ℕ) → s < state_count matrix → length matrix.tests ≤ t → t < 256 → in_row (state_row matrix s) t ≡ false
  none_past s t there past lt = elim (cases_Bool (nat_lt s (before_faults matrix))) [
    | inl healthy ↦ rw healthy (no_bit t)
    | inr faulty ↦
        (let after = ltb-false s (before_faults matrix) faulty in
        rw faulty (valid.nothing_else (s - before_faults matrix) t (omega arith) past lt))
  ]

  bits-from_row : (a b t : ℕ) → a < state_count matrix → b < state_count matrix → row (system_of matrix) a ≡ row (system_of matrix) b → t < 256 → in_row (state_row matrix a) t ≡ in_row (state_row matrix b) t
  bits-from_row a b t la lb e lt = elim (cases_lt t (length matrix.tests)) [
    | inl test ↦ sym (fails-state_row matrix a t) ∙ fails-from_row (system_of matrix) a b t e test ∙ fails-state_row matrix b t
    | inr past ↦ none_past a t la past lt ∙ sym (none_past b t lb past lt)
  ]

  words-from_row : (a b : ℕ) → a < state_count matrix → b < state_count matrix → AreFourWords (state_row matrix a) → AreFourWords (state_row matrix b) → row (system_of matrix) a ≡ row (system_of matrix) b → state_row matrix a ≡ state_row matrix b
  words-from_row a b la lb wa wb e = ext_get_or 0 (state_row matrix a) (state_row matrix b) (wa.four ∙ sym wb.four) (λ k lt. word k (let four = wa.four in omega arith))
    where
      word : (k : ℕ) → k < 4 → get_or (state_row matrix a) k 0 ≡ get_or (state_row matrix b) k 0
      word k lt = same_from_bits_below 64 (get_or (state_row matrix a) k 0) (get_or (state_row matrix b) k 0) (wa.words k lt) (wb.words k lt) (λ i below. bits_equal (get_or (state_row matrix a) k 0) (get_or (state_row matrix b) k 0) i (bit k i lt below))
        where
          bit : (k i : ℕ) → k < 4 → i < 64 → has_bit (get_or (state_row matrix a) k 0) i ≡ has_bit (get_or (state_row matrix b) k 0) i
          bit k i lt below =
              let quotient : (64 * k + i) / 64 ≡ k = omega arith in
              let rest : (64 * k + i) % 64 ≡ i = omega arith in
              let in_range : 64 * k + i < 256 = omega arith in
              ap (λ q. has_bit (get_or (state_row matrix a) q 0) i) (sym quotient)
              ∙ ap (λ r. has_bit (get_or (state_row matrix a) ((64 * k + i) / 64) 0) r) (sym rest)
              ∙ bits-from_row a b (64 * k + i) la lb e in_range
              ∙ ap (λ r. has_bit (get_or (state_row matrix b) ((64 * k + i) / 64) 0) r) rest
              ∙ ap (λ q. has_bit (get_or (state_row matrix b) q 0) i) quotient

  row-from_words : (a b : ℕ) → state_row matrix a ≡ state_row matrix b → row (system_of matrix) a ≡ row (system_of matrix) b
  row-from_words a b e = ext_get_or false (row (system_of matrix) a) (row (system_of matrix) b)
      (length-by_number (fails matrix a) n ∙ sym (length-by_number (fails matrix b) n))
      (λ t lt.
      (let long = length-by_number (fails matrix a) n in
      get_or-by_number (fails matrix a) n t false (omega arith)
      ∙ fails-state_row matrix a t ∙ ap (λ w. in_row w t) e ∙ sym (fails-state_row matrix b t)
      ∙ sym (get_or-by_number (fails matrix b) n t false (omega arith))))
    where
      n : ℕ
      n = length matrix.tests

  pub words-decide : (a b : ℕ) → a < state_count matrix → b < state_count matrix → AreFourWords (state_row matrix a) → AreFourWords (state_row matrix b) → bytes_eq (state_row matrix a) (state_row matrix b) ≡ same_row (system_of matrix) a b
  words-decide a b la lb wa wb = equal (bytes_eq (state_row matrix a) (state_row matrix b)) (same_row (system_of matrix) a b)
      (λ t. same-from_row (system_of matrix) a b (row-from_words a b ((bytes_eq-Decides (state_row matrix a) (state_row matrix b)).0 t)))
      (λ t. (bytes_eq-Decides (state_row matrix a) (state_row matrix b)).1 (words-from_row a b la lb wa wb (row-from_same (system_of matrix) a b t)))
    where
      equal : (x y : Bool) → (x ≡ true → y ≡ true) → (y ≡ true → x ≡ true) → x ≡ y
      equal true y h k = sym (h refl)
      equal false true h k = k refl
      equal false false h k = refl
