-- The names of a chain are names, and a list grows by its next item.
use Rattle.std.proofs.Common.{◌≡◌, inl, inr, ◌∙◌, ℕ, ◌+◌, ◌<◌, ◌≤◌, Bool, true, false, List, [], ◌∷◌, ◌++◌, map, length, append_assoc, get_or, refl, ap, sym, arith}
use Rattle.std.specs.List.{range_with_len, list_all}
use Rattle.std.proofs.lemmas.Bool.{cases_Bool}
use Rattle.std.proofs.lemmas.List.FromFn.{map-range_with_len_more, get_or-range_with_len, length-range_with_len}
use Rattle.std.proofs.lemmas.List.Folds.{list_all_at}
use Rattle.std.specs.Fmt.{digits}
use Rattle.sig_types.specs.NameText.{is_name}
use Rattle.sig_sample.specs.Chain.{part_name, point_name}

pub one_more : {X : Type 0} (f : ℕ → X) (n : ℕ) → map f (range_with_len 1 (n + 1)) ≡ map f (range_with_len 1 n) ++ f (n + 1) ∷ []
one_more f n = map-range_with_len_more f 1 n (n + 1) (omega arith)

pub one_more_behind : {X : Type 0} (xs : List X) (f : ℕ → X) (n : ℕ) → xs ++ map f (range_with_len 1 (n + 1)) ≡ (xs ++ map f (range_with_len 1 n)) ++ f (n + 1) ∷ []
one_more_behind xs f n = ap (λ ys. xs ++ ys) (one_more f n) ∙ sym (append_assoc xs (map f (range_with_len 1 n)) (f (n + 1) ∷ []))

-- what is computed for all numbers below n holds of each
pub each_below : (p : ℕ → Bool) (n i : ℕ) → list_all p (range_with_len 0 n) ≡ true → i < n → p i ≡ true
each_below p n i all below =
    elim (cases_Bool (p i)) [
      | inl so ↦ so
      | inr not_so ↦
          let there : get_or (range_with_len 0 n) i 0 ≡ i = omega (arith, get_or-range_with_len 0 n i 0 below) in
          let none = list_all_at p (range_with_len 0 n) i 0 (rw (length-range_with_len 0 n) below) (ap p there ∙ not_so) in
          absurd (true_false (sym all ∙ none))
    ]
  where
    true_false : true ≡ false → ⊥
    true_false e = cc

pub part_is_name : (i : ℕ) → i ≤ 100 → is_name (part_name i) ≡ true
unfolding digits
part_is_name i few = each_below (λ k. is_name (part_name k)) 101 i refl (omega arith)

pub point_is_name : (i : ℕ) → i ≤ 100 → is_name (point_name i) ≡ true
unfolding digits
point_is_name i few = each_below (λ k. is_name (point_name k)) 101 i refl (omega arith)
