-- Lists over the numbers from 0 up to one number, and up to the next: the last number is added at the end.
use Rattle.std.proofs.Common.{◌≡◌, ℕ, zero, suc, ◌+◌, ◌-◌, ◌<◌, [], ◌∷◌, ◌++◌, get_or, refl, sym, ap, ◌∙◌, arith, append-nil, add-one, zero-add, inl, inr}
use Rattle.std.specs.Prelude.{Bool, true, false, ◌||◌, ◌&&◌, cond, filter, sum_by, Option, None, Some, find, All}
use Rattle.std.specs.List.{list_any, list_all, filter_map, cons_option}
use Rattle.std.specs.Option.{option_or}
use Rattle.std.proofs.lemmas.List.Elements.{filter-append, filter_map-append, All-from_get_or}
use Rattle.std.proofs.lemmas.List.Folds.{find-append, list_all-append, list_any-append}
use Rattle.std.proofs.lemmas.List.Sums.{sum_by_push}
use Rattle.std.proofs.lemmas.Bool.{cases_Bool}
use Rattle.seq_theory.specs.Problem.{count_up}
use Rattle.seq_theory.proofs.StatesLaws.{count_up-last}
use Rattle.seq_theory.proofs.BelowLaws.{length-count_up}

pub up-next : (n : ℕ) → count_up 0 (n + 1) ≡ count_up 0 n ++ n ∷ []
up-next n = ap (count_up 0) (add-one n) ∙ count_up-last 0 n ∙ ap (λ k. count_up 0 n ++ k ∷ []) (zero-add n)

count_up-at : (from n i d : ℕ) → i < n → get_or (count_up from n) i d ≡ from + i
count_up-at from zero i d lt = absurd (let h : ⊥ = omega arith in h)
count_up-at from (suc n) zero d lt = let e : from ≡ from + 0 = omega arith in e
count_up-at from (suc n) (suc i) d lt = let e : suc from + i ≡ from + suc i = omega arith in count_up-at (suc from) n i d (omega arith) ∙ e

pub up-at : (n i d : ℕ) → i < n → get_or (count_up 0 n) i d ≡ i
up-at n i d lt = count_up-at 0 n i d lt ∙ zero-add i

pub below-end : (n : ℕ) → All (λ v. v < n) (count_up 0 n)
below-end n = All-from_get_or (λ v. v < n) (count_up 0 n) 0 (λ i lt. let long = length-count_up 0 n in let at = up-at n i 0 (omega arith) in omega arith)

pub filter-next : (p : ℕ → Bool) (n : ℕ) → filter p (count_up 0 (n + 1)) ≡ filter p (count_up 0 n) ++ cond (p n) (n ∷ []) []
filter-next p n = ap (filter p) (up-next n) ∙ filter-append p (count_up 0 n) (n ∷ [])

pub filter-yes : (p : ℕ → Bool) (n : ℕ) → p n ≡ true → filter p (count_up 0 (n + 1)) ≡ filter p (count_up 0 n) ++ n ∷ []
filter-yes p n y = filter-next p n ∙ ap (λ b. filter p (count_up 0 n) ++ cond b (n ∷ []) []) y

pub filter-no : (p : ℕ → Bool) (n : ℕ) → p n ≡ false → filter p (count_up 0 (n + 1)) ≡ filter p (count_up 0 n)
filter-no p n y = filter-next p n ∙ ap (λ b. filter p (count_up 0 n) ++ cond b (n ∷ []) []) y ∙ append-nil (filter p (count_up 0 n))

pub any-next : (p : ℕ → Bool) (n : ℕ) → list_any p (count_up 0 (n + 1)) ≡ (list_any p (count_up 0 n) || p n)
any-next p n = ap (list_any p) (up-next n) ∙ list_any-append p (count_up 0 n) (n ∷ []) ∙ ap (λ b. list_any p (count_up 0 n) || b) (or-false (p n))
  where
    or-false : (b : Bool) → (b || false) ≡ b
    or-false true = refl
    or-false false = refl

pub all-next : (p : ℕ → Bool) (n : ℕ) → list_all p (count_up 0 (n + 1)) ≡ (list_all p (count_up 0 n) && p n)
all-next p n = ap (list_all p) (up-next n) ∙ list_all-append p (count_up 0 n) (n ∷ []) ∙ ap (λ b. list_all p (count_up 0 n) && b) (and-true (p n))
  where
    and-true : (b : Bool) → (b && true) ≡ b
    and-true true = refl
    and-true false = refl

pub sum-next : (f : ℕ → ℕ) (n : ℕ) → sum_by f (count_up 0 (n + 1)) ≡ sum_by f (count_up 0 n) + f n
sum-next f n = ap (sum_by f) (up-next n) ∙ sum_by_push f (count_up 0 n) n

-- of the numbers that pass
pub sum-yes : (f : ℕ → ℕ) (p : ℕ → Bool) (n : ℕ) → p n ≡ true → sum_by f (filter p (count_up 0 (n + 1))) ≡ sum_by f (filter p (count_up 0 n)) + f n
sum-yes f p n y = ap (sum_by f) (filter-yes p n y) ∙ sum_by_push f (filter p (count_up 0 n)) n

pub sum-no : (f : ℕ → ℕ) (p : ℕ → Bool) (n : ℕ) → p n ≡ false → sum_by f (filter p (count_up 0 (n + 1))) ≡ sum_by f (filter p (count_up 0 n))
sum-no f p n y = ap (sum_by f) (filter-no p n y)

pub filter_map-next : {Y : Type 0} (h : ℕ → Option Y) (n : ℕ) → filter_map h (count_up 0 (n + 1)) ≡ filter_map h (count_up 0 n) ++ cons_option (h n) []
filter_map-next h n = ap (filter_map h) (up-next n) ∙ filter_map-append h (count_up 0 n) (n ∷ [])

pub filter_map-yes : {Y : Type 0} (h : ℕ → Option Y) (n : ℕ) (y : Y) → h n ≡ Some y → filter_map h (count_up 0 (n + 1)) ≡ filter_map h (count_up 0 n) ++ y ∷ []
filter_map-yes h n y e = filter_map-next h n ∙ ap (λ o. filter_map h (count_up 0 n) ++ cons_option o []) e

pub filter_map-no : {Y : Type 0} (h : ℕ → Option Y) (n : ℕ) → h n ≡ None → filter_map h (count_up 0 (n + 1)) ≡ filter_map h (count_up 0 n)
filter_map-no h n e = filter_map-next h n ∙ ap (λ o. filter_map h (count_up 0 n) ++ cons_option o []) e ∙ append-nil (filter_map h (count_up 0 n))

-- none before, and then this one
pub find-here : (p : ℕ → Bool) (n : ℕ) → find p (count_up 0 n) ≡ None → p n ≡ true → find p (count_up 0 (n + 1)) ≡ Some n
find-here p n none y =
    ap (find p) (up-next n) ∙ find-append p (count_up 0 n) (n ∷ []) ∙ ap (λ o. option_or o (find p (n ∷ []))) none ∙ ap (λ b. cond b (Some n) None) y

pub find-none : (p : ℕ → Bool) (n : ℕ) → find p (count_up 0 n) ≡ None → p n ≡ false → find p (count_up 0 (n + 1)) ≡ None
find-none p n none y =
    ap (find p) (up-next n) ∙ find-append p (count_up 0 n) (n ∷ []) ∙ ap (λ o. option_or o (find p (n ∷ []))) none ∙ ap (λ b. cond b (Some n) None) y

-- what was found below a number is found below a greater one
count_up-split : (from n more : ℕ) → count_up from (n + more) ≡ count_up from n ++ count_up (from + n) more
count_up-split from zero more = ap (λ k. count_up from k) (zero-add more) ∙ ap (λ k. count_up k more) (let e : from ≡ from + 0 = omega arith in e)
count_up-split from (suc n) more =
    let e : suc n + more ≡ suc (n + more) = omega arith in
    let f : suc from + n ≡ from + suc n = omega arith in
    ap (count_up from) e ∙ ap (λ l. from ∷ l) (count_up-split (suc from) n more ∙ ap (λ k. count_up (suc from) n ++ count_up k more) f)

pub find-stays : (p : ℕ → Bool) (n more x : ℕ) → find p (count_up 0 n) ≡ Some x → find p (count_up 0 (n + more)) ≡ Some x
find-stays p n more x e =
    ap (find p) (count_up-split 0 n more) ∙ find-append p (count_up 0 n) (count_up (0 + n) more) ∙ ap (λ o. option_or o (find p (count_up (0 + n) more))) e

-- what is found is one of the numbers
pub find-below : (p : ℕ → Bool) (from n x : ℕ) → find p (count_up from n) ≡ Some x → x < from + n
find-below p from zero x e = absurd (cc)
find-below p from (suc n) x e = elim (cases_Bool (p from)) [
  | inl y ↦ (let h : Some from ≡ Some x = ap (λ b. cond b (Some from) (find p (count_up (suc from) n))) (sym y) ∙ e in let g : from ≡ x = cc in omega arith)
  | inr y ↦ (let h : find p (count_up (suc from) n) ≡ Some x = ap (λ b. cond b (Some from) (find p (count_up (suc from) n))) (sym y) ∙ e in let g = find-below p (suc from) n x h in omega arith)
]

-- the first that passes
pub found-first : (p : ℕ → Bool) (n total : ℕ) → n < total → find p (count_up 0 n) ≡ None → p n ≡ true → Some n ≡ find p (count_up 0 total)
found-first p n total lt none y =
    let whole : (n + 1) + (total - (n + 1)) ≡ total = omega arith in
    sym (find-stays p (n + 1) (total - (n + 1)) n (find-here p n none y)) ∙ ap (λ k. find p (count_up 0 k)) whole
