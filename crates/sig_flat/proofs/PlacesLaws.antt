-- The place of a name in a list, where it was looked for there.
use Rattle.std.proofs.Common.{inl, inr, ◌≡◌, ℕ, ◌<◌, ◌≤◌, List, length, refl, sym, ◌∙◌, arith, Bool, true, false}
use Rattle.std.specs.Prelude.{cond, not, nat_lt, Some, None}
use Rattle.std.specs.List.{position, position_or_len}
use Rattle.std.proofs.lemmas.Bool.{cases_lt, lt-ltb, le-ltb, cond-true, cond-false}
use Rattle.std.proofs.lemmas.Bool.Decides.{nat_tests}
use Rattle.std.proofs.lemmas.List.Sums.{prefix_len-le-length}

pub place-le-length : {X : Type 0} (p : X → Bool) (xs : List X) → position_or_len p xs ≤ length xs
place-le-length p xs = prefix_len-le-length (λ x. not (p x)) xs

pub none-place : {X : Type 0} (p : X → Bool) (xs : List X) → position p xs ≡ None → position_or_len p xs ≡ length xs
none-place p xs e = let le = place-le-length p xs in let h : nat_lt (position_or_len p xs) (length xs) ≡ false = told (nat_lt (position_or_len p xs) (length xs)) (position_or_len p xs) e in grind (arith, nat_tests)
  where
    told : (b : Bool) (k : ℕ) → cond b (Some k) None ≡ None → b ≡ false
    told true k e = cc
    told false k e = refl

-- a place that was found is the first one, and it is there
pub some-place : {X : Type 0} (p : X → Bool) (xs : List X) (k : ℕ) → position p xs ≡ Some k → (k ≡ position_or_len p xs) × (k < length xs)
some-place p xs k e = elim (cases_lt (position_or_len p xs) (length xs)) [
  | inl lt ↦
      (let found = sym (cond-true (nat_lt (position_or_len p xs) (length xs)) (Some (position_or_len p xs)) None (lt-ltb (position_or_len p xs) (length xs) lt)) ∙ e in
      let same = some_same (position_or_len p xs) k found in
      (sym same, omega arith))
  | inr ge ↦ absurd (none_some k (sym (cond-false (nat_lt (position_or_len p xs) (length xs)) (Some (position_or_len p xs)) None (le-ltb (position_or_len p xs) (length xs) (omega arith))) ∙ e))
]
  where
    some_same : (a b : ℕ) → Some a ≡ Some b → a ≡ b
    some_same a b e = cc

    none_some : (k : ℕ) → None ≡ Some k → ⊥
    none_some k e = cc
