-- A stretch of classes as the bits of one word: how many classes are in it, whether one is, and which is the first.
use Rattle.std.proofs.Common.{◌≡◌, ◌⊎◌, ℕ, zero, suc, ◌+◌, ◌*◌, ◌/◌, ◌%◌, ◌^◌, ◌<◌, ◌≤◌, List, [], ◌∷◌, ◌++◌, length, get_or, refl, sym, ap, ◌∙◌, arith, inl, inr, length-append}
use Rattle.std.specs.Prelude.{Bool, true, false, ◌&&◌, ◌||◌, not, filter, nat_eq, nat_lt, bit_and, bit_xor, count_ones}
use Rattle.std.specs.List.{list_any}
use Rattle.std.specs.Int.{bit_at}
use Rattle.std.proofs.lemmas.Bool.{cases_Bool, cases_lt, eq-eqb, ne_eqb, lt-ltb}
use Rattle.std.proofs.lemmas.Nat.{ones-le, zero_from_ones, xor_lt}
use Rattle.std.specs.Int.Bits.{and_lt}
use Rattle.std.proofs.lemmas.Nat.Bits.{bit_at_lowest, bit_at-suc}
use Rattle.std.proofs.lemmas.List.Folds.{list_any-append}
use Rattle.std.specs.Int.Count.{ones_step}
use native.Mathlib.Nat.{pow-suc}
use Rattle.seq_theory.specs.Problem.{count_up}
use Rattle.seq_theory.proofs.BelowLaws.{passing-split}
use Rattle.seq_inst.specs.declared.group.Group.{Group}
use Rattle.seq_inst.specs.Members.{has_class, members_below}
use Rattle.seq_inst.proofs.MembersLaws.{bit-and, bit-lacks}

-- the word has the k bits of the stretch from a class on, and no more
pub record IsWordOf (f : ℕ → Bool) (from k n : ℕ) : Type 0 where
  pub below : n < 2 ^ k
  pub bits : (i : ℕ) → i < k → f (from + i) ≡ nat_eq (bit_at n i) 1

word-rest : (f : ℕ → Bool) (from k n : ℕ) → IsWordOf f from (suc k) n → IsWordOf f (suc from) k (n / 2)
word-rest f from k n w = record {
  below = (let b = w.below in let p = pow-suc 2 k in omega arith);
  bits = λ i lt. ap f (let e : suc from + i ≡ from + suc i = omega arith in e) ∙ w.bits (suc i) (omega arith) ∙ ap (λ b. nat_eq b 1) (bit_at-suc n i);
}

-- the word's ones are as many as the classes
pub length-word : (f : ℕ → Bool) (from k n : ℕ) → IsWordOf f from k n → length (filter f (count_up from k)) ≡ count_ones n
length-word f from zero n w = let few = ones-le 0 n w.below in omega arith
length-word f from (suc k) n w =
    let rest = length-word f (suc from) k (n / 2) (word-rest f from k n w) in
    let first = ap f (let e : from ≡ from + 0 = omega arith in e) ∙ w.bits 0 (omega arith) ∙ ap (λ b. nat_eq b 1) (bit_at_lowest n) in
    let step = ones_step n in
    elim (cases_lt (n % 2) 1) [
      | inl even ↦ (let no' : f from ≡ false = first ∙ ne_eqb (n % 2) 1 (λ s. let bad : ⊥ = omega arith in bad) in rw no' (omega arith))
      | inr odd ↦ (let yes' : f from ≡ true = first ∙ eq-eqb (n % 2) 1 (omega arith) in rw yes' (omega arith))
    ]

ones-some : (n : ℕ) → nat_lt 0 (count_ones n) ≡ nat_lt 0 n
ones-some zero = ap (nat_lt 0) (let few = ones-le 0 0 (omega arith) in let e : count_ones 0 ≡ 0 = omega arith in e)
ones-some (suc n) = lt-ltb 0 (count_ones (suc n)) (some (cases_lt 0 (count_ones (suc n)))) ∙ sym (lt-ltb 0 (suc n) (omega arith))
  where
    some : (0 < count_ones (suc n)) ⊎ (count_ones (suc n) ≤ 0) → 0 < count_ones (suc n)
    some (inl lt) = lt
    some (inr le) = absurd (let e = zero_from_ones (suc n) (omega arith) in let bad : ⊥ = omega arith in bad)

any-length : (f : ℕ → Bool) (xs : List ℕ) → nat_lt 0 (length (filter f xs)) ≡ list_any f xs
any-length f [] = refl
any-length f (x ∷ xs) = elim (cases_Bool (f x)) [
  | inl y ↦ rw y (lt-ltb 0 (suc (length (filter f xs))) (omega arith))
  | inr n ↦ rw n (any-length f xs)
]

-- there is a class exactly where the word is not 0
pub any-word : (f : ℕ → Bool) (from k n : ℕ) → IsWordOf f from k n → list_any f (count_up from k) ≡ nat_lt 0 n
any-word f from k n w = sym (any-length f (count_up from k)) ∙ ap (nat_lt 0) (length-word f from k n w) ∙ ones-some n

-- a group up to a class, and the stretch from there
pub members_below-split : (g : Group) (m k : ℕ) → members_below g (m + k) ≡ members_below g m ++ filter (has_class g) (count_up m k)
members_below-split g m k = passing-split (has_class g) m k

pub members_below-word : (g : Group) (i : ℕ) → members_below g (64 * (i + 1)) ≡ members_below g (64 * i) ++ filter (has_class g) (count_up (64 * i) 64)
members_below-word g i = ap (members_below g) (let e : 64 * (i + 1) ≡ 64 * i + 64 = omega arith in e) ∙ members_below-split g (64 * i) 64

pub place : (g : Group) (i j : ℕ) → j < 64 → has_class g (64 * i + j) ≡ nat_eq (bit_at (get_or g.0 i 0) j) 1
place g i j lt =
    let d : (64 * i + j) / 64 ≡ i = omega arith in
    let m : (64 * i + j) % 64 ≡ j = omega arith in
    ap (λ k. nat_eq (bit_at (get_or g.0 k 0) ((64 * i + j) % 64)) 1) d ∙ ap (λ k. nat_eq (bit_at (get_or g.0 i 0) k) 1) m

-- word i of a group has the classes from 64 * i on
pub word-of : (g : Group) (i : ℕ) → get_or g.0 i 0 < 2 ^ 64 → IsWordOf (has_class g) (64 * i) 64 (get_or g.0 i 0)
word-of g i below = record { below = below; bits = λ j lt. place g i j lt }

-- one word more of a count
pub length-members_word : (g : Group) (i : ℕ) → get_or g.0 i 0 < 2 ^ 64 → length (members_below g (64 * (i + 1))) ≡ length (members_below g (64 * i)) + count_ones (get_or g.0 i 0)
length-members_word g i below =
    ap length (members_below-word g i) ∙ length-append (members_below g (64 * i)) (filter (has_class g) (count_up (64 * i) 64))
    ∙ ap (λ n. length (members_below g (64 * i)) + n) (length-word (has_class g) (64 * i) 64 (get_or g.0 i 0) (word-of g i below))

any-filter : (f g : ℕ → Bool) (xs : List ℕ) → list_any g (filter f xs) ≡ list_any (λ c. f c && g c) xs
any-filter f g [] = refl
any-filter f g (x ∷ xs) = elim (cases_Bool (f x)) [
  | inl y ↦ rw y (ap (λ b. g x || b) (any-filter f g xs))
  | inr n ↦ rw n (any-filter f g xs)
]

-- one word more of a search for a class of the group that passes
pub any-members_word : (a : Group) (g : ℕ → Bool) (i n : ℕ) → IsWordOf (λ c. has_class a c && g c) (64 * i) 64 n → list_any g (members_below a (64 * (i + 1))) ≡ (list_any g (members_below a (64 * i)) || nat_lt 0 n)
any-members_word a g i n w =
    ap (list_any g) (members_below-word a i) ∙ list_any-append g (members_below a (64 * i)) (filter (has_class a) (count_up (64 * i) 64))
    ∙ ap (λ b. list_any g (members_below a (64 * i)) || b) (any-filter (has_class a) g (count_up (64 * i) 64) ∙ any-word (λ c. has_class a c && g c) (64 * i) 64 n w)

-- the word of what two groups share, and of what the one lacks of the other
pub word-shared : (a b : Group) (i : ℕ) → get_or a.0 i 0 < 2 ^ 64 → get_or b.0 i 0 < 2 ^ 64 → IsWordOf (λ c. has_class a c && has_class b c) (64 * i) 64 (bit_and (get_or a.0 i 0) (get_or b.0 i 0))
word-shared a b i la lb = record {
  below = and_lt 64 (get_or a.0 i 0) (get_or b.0 i 0) la lb;
  bits = λ j lt. ap (λ v. v && has_class b (64 * i + j)) (place a i j lt) ∙ ap (λ v. nat_eq (bit_at (get_or a.0 i 0) j) 1 && v) (place b i j lt) ∙ sym (bit-and (get_or a.0 i 0) (get_or b.0 i 0) j);
}

pub word-lacked : (a b : Group) (i : ℕ) → get_or a.0 i 0 < 2 ^ 64 → get_or b.0 i 0 < 2 ^ 64 → IsWordOf (λ c. has_class a c && not (has_class b c)) (64 * i) 64 (bit_xor (get_or a.0 i 0) (bit_and (get_or a.0 i 0) (get_or b.0 i 0)))
word-lacked a b i la lb = record {
  below = xor_lt 64 (get_or a.0 i 0) (bit_and (get_or a.0 i 0) (get_or b.0 i 0)) la (and_lt 64 (get_or a.0 i 0) (get_or b.0 i 0) la lb);
  bits = λ j lt. ap (λ v. v && not (has_class b (64 * i + j))) (place a i j lt) ∙ ap (λ v. nat_eq (bit_at (get_or a.0 i 0) j) 1 && not v) (place b i j lt) ∙ sym (bit-lacks (get_or a.0 i 0) (get_or b.0 i 0) j);
}
