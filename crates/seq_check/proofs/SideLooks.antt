-- Lines beside items, step by step: after so many lines that are those of their items, what is left is the lines and the
-- items from there on.
use Rattle.std.proofs.Common.{◌≡◌, ℕ, zero, suc, ◌+◌, ◌<◌, ◌≤◌, List, [], ◌∷◌, drop, get_or, length, refl, sym, ap, ◌∙◌, arith, Some, None}
use Rattle.std.specs.Prelude.{Bool, true, false}
use Rattle.std.proofs.Math.Seq.{drop-cons}
use Rattle.seq_cert.specs.declared.fault.BadCode.TheVariants.{C02}
use Rattle.seq_check.specs.Looks.{first_bad}
use Rattle.seq_check.specs.ModelLooks.{has_line, rest, side_looks}

pub rest-drop : {A : Type 0} (i : ℕ) (xs : List A) → rest (drop i xs) ≡ drop (suc i) xs
rest-drop zero [] = refl
rest-drop zero (x ∷ xs) = refl
rest-drop (suc i) [] = refl
rest-drop (suc i) (x ∷ xs) = rest-drop i xs

pub drop-past : {A : Type 0} (i : ℕ) (xs : List A) → length xs ≤ i → drop i xs ≡ []
drop-past zero [] le = refl
drop-past (suc i) [] le = refl
drop-past zero (x ∷ xs) le = absurd (let bad : ⊥ = omega arith in bad)
drop-past (suc i) (x ∷ xs) le = drop-past i xs (omega arith)

pub drop-step : {A : Type 0} (i : ℕ) (xs : List A) (d : A) → i < length xs → drop i xs ≡ get_or xs i d ∷ drop (i + 1) xs
drop-step i xs d lt = let k : suc i ≡ i + 1 = omega arith in drop-cons xs i d lt ∙ ap (λ j. get_or xs i d ∷ drop j xs) k

module _ {A B : Type 0} (same : A → B → Bool) (n i : ℕ) (xs : List A) (ys : List B) (d : B) (lt : i < length ys) where
  here : side_looks same (n + i) (drop i xs) (drop i ys) ≡ side_looks same (n + i) (drop i xs) (get_or ys i d ∷ drop (i + 1) ys)
  here = ap (side_looks same (n + i) (drop i xs)) (drop-step i ys d lt)

  pub side_goes_on : has_line same (drop i xs) (get_or ys i d) ≡ true → first_bad (side_looks same n xs ys) ≡ first_bad (side_looks same (n + i) (drop i xs) (drop i ys))
      → first_bad (side_looks same n xs ys) ≡ first_bad (side_looks same (n + (i + 1)) (drop (i + 1) xs) (drop (i + 1) ys))
  side_goes_on good so_far =
      let k : suc i ≡ i + 1 = omega arith in
      let m : n + i + 1 ≡ n + (i + 1) = omega arith in
      let rest_is : rest (drop i xs) ≡ drop (i + 1) xs = rest-drop i xs ∙ ap (λ j. drop j xs) k in
      so_far ∙ ap first_bad here ∙ rw good (ap (λ l. first_bad (side_looks same (n + i + 1) l (drop (i + 1) ys))) rest_is ∙ ap (λ j. first_bad (side_looks same j (drop (i + 1) xs) (drop (i + 1) ys))) m)

  pub side_stops : has_line same (drop i xs) (get_or ys i d) ≡ false → first_bad (side_looks same n xs ys) ≡ first_bad (side_looks same (n + i) (drop i xs) (drop i ys))
      → Some (record { line = n + i; code = C02 }) ≡ first_bad (side_looks same n xs ys)
  side_stops bad so_far = sym (so_far ∙ ap first_bad here ∙ rw bad refl)

pub side_ends : {A B : Type 0} (same : A → B → Bool) (n i : ℕ) (xs : List A) (ys : List B) → length ys ≤ i → first_bad (side_looks same n xs ys) ≡ first_bad (side_looks same (n + i) (drop i xs) (drop i ys))
    → None ≡ first_bad (side_looks same n xs ys)
side_ends same n i xs ys le so_far = sym (so_far ∙ ap (λ l. first_bad (side_looks same (n + i) (drop i xs) l)) (drop-past i ys le))
