-- The rows that the words hold: their list, and what it becomes where the words of one place change.
use Rattle.std.proofs.Common.{◌≡◌, ◌≢◌, ℕ, zero, suc, ◌+◌, ◌<◌, List, [], ◌∷◌, ◌++◌, length, get_or, set, refl, sym, ap, ◌∙◌, subst, arith, length-set, length-append}
use Rattle.std.proofs.Math.ListN.{get_or-append}
use Rattle.std.proofs.Math.Seq.{get_or-append_seam}
use Rattle.std.proofs.lemmas.List.{get_or-set_other}
use Rattle.std.proofs.lemmas.Grind.{get_or-set_at}
use mathlib.Core.Logic.{dite}
use native.Mathlib.Decide.{ℕ_discrete}
use Rattle.seq_core.specs.Settled.{first_row, row_at}
use Rattle.seq_words.specs.Layout.{span, row_held, core_of}

-- two lists are one where they have the same elements
pub same_list : {X : Type 0} (xs ys : List X) (d : X) → length xs ≡ length ys → ((i : ℕ) → i < length xs → get_or xs i d ≡ get_or ys i d) → xs ≡ ys
same_list [] [] d e f = refl
same_list [] (y ∷ ys) d e f = absurd (omega arith)
same_list (x ∷ xs) [] d e f = absurd (omega arith)
same_list (x ∷ xs) (y ∷ ys) d e f = λ k. f 0 (omega arith) k ∷ same_list xs ys d (omega arith) (λ i h. f (suc i) (omega arith)) k

pub length-span : (ws : List ℕ) (i n : ℕ) → length (span ws i n) ≡ n
length-span ws i zero = refl
length-span ws i (suc n) = ap suc (length-span ws (i + 1) n)

pub span_at : (ws : List ℕ) (i n j : ℕ) → j < n → get_or (span ws i n) j 0 ≡ get_or ws (i + j) 0
span_at ws i zero j h = absurd (omega arith)
span_at ws i (suc n) zero h = ap (λ k. get_or ws k 0) (omega arith)
span_at ws i (suc n) (suc j) h = span_at ws (i + 1) n j (omega arith) ∙ ap (λ k. get_or ws k 0) (omega arith)

pub span_same : (ws ws' : List ℕ) (i n : ℕ) → ((j : ℕ) → j < n → get_or ws' (i + j) 0 ≡ get_or ws (i + j) 0) → span ws' i n ≡ span ws i n
span_same ws ws' i n f = same_list (span ws' i n) (span ws i n) 0 (length-span ws' i n ∙ sym (length-span ws i n))
    (λ j h. let l = length-span ws' i n in let b : j < n = omega arith in span_at ws' i n j b ∙ (f j b ∙ sym (span_at ws i n j b)))

pub length-core : (ws : List ℕ) (n : ℕ) → length (core_of ws n) ≡ n
length-core ws zero = refl
length-core ws (suc n) = let l = length-core ws n in omega (arith, length-append (core_of ws n) (row_held ws n ∷ []))

pub core_at : (ws : List ℕ) (n p : ℕ) → p < n → row_at (core_of ws n) p ≡ row_held ws p
core_at ws zero p h = absurd (omega arith)
core_at ws (suc n) p h = dite (ℕ_discrete p n)
    (λ e. let l = length-core ws n in subst (λ k. get_or (core_of ws n ++ row_held ws n ∷ []) k first_row ≡ row_held ws p) (l ∙ sym e) (get_or-append_seam (core_of ws n) (row_held ws n) [] first_row ∙ ap (row_held ws) (sym e)))
    (λ ne. let l = length-core ws n in get_or-append (core_of ws n) (row_held ws n ∷ []) first_row p (omega arith) ∙ core_at ws n p (omega arith))

-- the rows of other words, where one row has changed
pub core_set : (ws ws' : List ℕ) (n p : ℕ) → p < n → ((q : ℕ) → q < n → q ≢ p → row_held ws' q ≡ row_held ws q) → core_of ws' n ≡ set (core_of ws n) p (row_held ws' p)
core_set ws ws' n p h same = same_list (core_of ws' n) (set (core_of ws n) p (row_held ws' p)) first_row
    (length-core ws' n ∙ sym (length-set (core_of ws n) p (row_held ws' p) ∙ length-core ws n))
    (λ q b. let l = length-core ws' n in let l' = length-core ws n in core_at ws' n q (omega arith) ∙ dite (ℕ_discrete q p)
    (λ e. ap (row_held ws') e ∙ sym (get_or-set_at (core_of ws n) p q (row_held ws' p) first_row e (omega arith)))
    (λ ne. same q (omega arith) ne ∙ (sym (core_at ws n q (omega arith)) ∙ sym (get_or-set_other (core_of ws n) p q (row_held ws' p) first_row ne))))

-- the rows of other words that have the same rows
pub core_same : (ws ws' : List ℕ) (n : ℕ) → ((q : ℕ) → q < n → row_held ws' q ≡ row_held ws q) → core_of ws' n ≡ core_of ws n
core_same ws ws' zero same = refl
core_same ws ws' (suc n) same = λ k. core_same ws ws' n (λ q h. same q (omega arith)) k ++ same n (omega arith) k ∷ []
