-- A test of each byte, from the first on.
use Rattle.std.proofs.Common.{◌≡◌, ℕ, zero, suc, ◌+◌, ◌<◌, ◌≤◌, List, [], ◌∷◌, drop, get_or, length, refl, sym, subst, ◌∙◌, arith, inl, inr}
use Rattle.std.specs.Prelude.{Bool, true, false, not, ◌&&◌, nat_eq, nat_le, codes}
use Rattle.std.specs.List.{list_all}
use Rattle.std.specs.Str.{IsAscii}
use Rattle.std.proofs.lemmas.Bool.{and_parts, or_cases}
use Rattle.std.proofs.lemmas.Bool.Decides.{nat_tests}
use Rattle.std.proofs.lemmas.Slice.Eq.{bytes_eq-Decides}
use Rattle.sig_types.specs.NameText.{is_name_byte, is_name}
use Rattle.std.specs.Str.{bytes_eq}
use Rattle.seq_cert.specs.LineForms.{is_in, is_label, is_mode}

-- the test whether two texts are the same tells it
pub text_is : (a b : List ℕ) → bytes_eq a b ≡ true → a ≡ b
text_is a b e = (bytes_eq-Decides a b).0 e

pub text_self : (a : List ℕ) → bytes_eq a a ≡ true
text_self a = (bytes_eq-Decides a a).1 refl

module _ (f : ℕ → Bool) where
  step : (i : ℕ) (xs : List ℕ) → i < length xs → list_all f (drop i xs) ≡ (f (get_or xs i 0) && list_all f (drop (suc i) xs))
  step i [] lt = absurd (let bad : ⊥ = omega arith in bad)
  step zero (x ∷ xs) lt = refl
  step (suc i) (x ∷ xs) lt = step i xs (omega arith)

  next : (i : ℕ) (xs : List ℕ) → i < length xs → list_all f (drop i xs) ≡ (f (get_or xs i 0) && list_all f (drop (i + 1) xs))
  next i xs lt = let k : suc i ≡ i + 1 = omega arith in subst (λ (j : ℕ). list_all f (drop i xs) ≡ (f (get_or xs i 0) && list_all f (drop j xs))) k (step i xs lt)

  pub goes_on : (i : ℕ) (xs : List ℕ) → i < length xs → f (get_or xs i 0) ≡ true → list_all f (drop i xs) ≡ list_all f xs → list_all f (drop (i + 1) xs) ≡ list_all f xs
  goes_on i xs lt y so_far = (rw y at (sym (next i xs lt))) ∙ so_far

  pub fails_at : (i : ℕ) (xs : List ℕ) → i < length xs → f (get_or xs i 0) ≡ false → list_all f (drop i xs) ≡ list_all f xs → false ≡ list_all f xs
  fails_at i xs lt n so_far = (rw n at (sym (next i xs lt))) ∙ so_far

  past : (i : ℕ) (xs : List ℕ) → length xs ≤ i → list_all f (drop i xs) ≡ true
  past zero [] le = refl
  past (suc i) [] le = refl
  past zero (x ∷ xs) le = absurd (let bad : ⊥ = omega arith in bad)
  past (suc i) (x ∷ xs) le = past i xs (omega arith)

  pub at_end : (i : ℕ) (xs : List ℕ) → length xs ≤ i → list_all f (drop i xs) ≡ list_all f xs → true ≡ list_all f xs
  at_end i xs le so_far = sym (past i xs le) ∙ so_far

  all_at : (xs : List ℕ) → list_all f xs ≡ true → (i : ℕ) → i < length xs → f (get_or xs i 0) ≡ true
  all_at [] e i lt = absurd (let bad : ⊥ = omega arith in bad)
  all_at (x ∷ xs) e zero lt = (and_parts (f x) (list_all f xs) e).0
  all_at (x ∷ xs) e (suc i) lt = all_at xs (and_parts (f x) (list_all f xs) e).1 i (omega arith)

  pub ascii_all : ((c : ℕ) → f c ≡ true → c < 128) → (xs : List ℕ) → list_all f xs ≡ true → IsAscii xs
  ascii_all below [] e i = omega arith
  ascii_all below (x ∷ xs) e zero = below x (and_parts (f x) (list_all f xs) e).0
  ascii_all below (x ∷ xs) e (suc i) = ascii_all below xs (and_parts (f x) (list_all f xs) e).1 i

label_byte : (c : ℕ) → is_in 33 126 c ≡ true → c < 128
label_byte c e = let h = and_parts (nat_le 33 c) (nat_le c 126) e in let e' = h.1 in grind (arith, nat_tests)

pub ascii_label : (label : List ℕ) → is_label label ≡ true → IsAscii label
ascii_label label e = ascii_all (is_in 33 126) label_byte label (and_parts (not (nat_eq (length label) 0)) (list_all (is_in 33 126) label) e).1

name_byte : (c : ℕ) → is_name_byte c ≡ true → c < 128
name_byte c e = grind (arith, nat_tests)

pub ascii_name : (name : List ℕ) → is_name name ≡ true → IsAscii name
ascii_name name e = ascii_all is_name_byte name_byte name (and_parts _ _ (and_parts _ _ e).1).1

dash : IsAscii (codes "-")
dash zero = omega arith
dash (suc i) = omega arith

pub ascii_mode : (mode : List ℕ) → is_mode mode ≡ true → IsAscii mode
ascii_mode mode e = elim (or_cases (bytes_eq mode (codes "-")) (is_name mode) e) [
  | inl h ↦ (let same = text_is mode (codes "-") h in subst IsAscii (sym same) dash)
  | inr h ↦ ascii_name mode h
]
