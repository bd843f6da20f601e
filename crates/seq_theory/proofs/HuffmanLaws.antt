-- Huffman's cost is at most the weighted path length of each binary tree over the weights.
use Rattle.std.proofs.Common.{◌≡◌, ℕ, suc, ◌+◌, ◌*◌, ◌<◌, ◌≤◌, List, [], ◌∷◌, ◌++◌, length, refl, sym, ap, ◌∙◌, arith, inl, inr, append_assoc}
use Rattle.std.proofs.lemmas.Bool.{cases_lt, cases_order}
use Rattle.std.specs.Prelude.{IsPermutation, sum_by, cond, nat_le}
use Rattle.std.proofs.lemmas.List.Sorted.{sum_by-IsPermutation}
use Rattle.std.proofs.lemmas.List.Sums.{sum_by-cons}
use Rattle.std.proofs.lemmas.Bool.{le-leb, lt-leb}
use Rattle.seq_theory.specs.Huffman.{place_in, upward, merging, huff, BinaryTree, tip, fork, leaves, path_length_at}
use Rattle.seq_theory.proofs.UpwardLaws.{AtMost, IsUp, place-swap, IsUp-upward}
use Rattle.seq_theory.proofs.MergeLaws.{any_merge_costs, spread_saves}

pub length-place : (n : ℕ) (xs : List ℕ) → length (place_in n xs) ≡ suc (length xs)
length-place n [] = refl
length-place n (x ∷ xs) = elim (cases_lt x n) [
  | inl lt ↦ rw (lt-leb n x lt) (ap suc (length-place n xs))
  | inr ge ↦ rw (le-leb n x ge) refl
]

pub length-upward : (xs : List ℕ) → length (upward xs) ≡ length xs
length-upward [] = refl
length-upward (x ∷ xs) = length-place x (upward xs) ∙ ap suc (length-upward xs)

-- the order of the weights is nothing to it
pub huff-same : (xs ys : List ℕ) → upward xs ≡ upward ys → huff xs ≡ huff ys
unfolding huff
huff-same xs ys e =
    let l : length xs ≡ length ys = sym (length-upward xs) ∙ ap length e ∙ length-upward ys in
    ap (λ n. merging n (upward xs)) l ∙ ap (merging (length ys)) e

pub huff-one : (n : ℕ) → huff (n ∷ []) ≡ 0
unfolding huff
huff-one n = refl

-- a merge of any two is no better
pub huff-merge : (a b : ℕ) (xs : List ℕ) → huff (a ∷ b ∷ xs) ≤ (a + b) + huff ((a + b) ∷ xs)
unfolding huff
huff-merge a b xs = any_merge_costs (suc (length xs)) a b (upward xs) (IsUp-upward xs)

-- two weights that lie further apart cost no more
pub huff-spread : (a b c d : ℕ) (xs : List ℕ) → a + d ≡ b + c → a ≤ b → a ≤ c → huff (a ∷ d ∷ xs) ≤ huff (b ∷ c ∷ xs)
unfolding huff
huff-spread a b c d xs = spread_saves (suc (suc (length xs))) a b c d (upward xs) (IsUp-upward xs)

pub upward-middle : (xs : List ℕ) (n : ℕ) (ys : List ℕ) → upward (xs ++ n ∷ ys) ≡ place_in n (upward (xs ++ ys))
upward-middle [] n ys = refl
upward-middle (x ∷ xs) n ys = ap (place_in x) (upward-middle xs n ys) ∙ place-swap x n (upward (xs ++ ys))

-- the sum of the leaves
abbrev pub whole : BinaryTree → ℕ
whole (tip w) = w
whole (fork l r) = whole l + whole r

-- the sum over the inner nodes of what hangs below each
abbrev pub inner : BinaryTree → ℕ
inner (tip w) = 0
inner (fork l r) = (inner l + inner r) + (whole l + whole r)

huff-tree : (t : BinaryTree) (ys : List ℕ) → huff (leaves t ++ ys) ≤ inner t + huff (whole t ∷ ys)
huff-tree (tip w) ys = omega arith
huff-tree (fork l r) ys =
    let f1 = ap huff (append_assoc (leaves l) (leaves r) ys) in
    let f2 = huff-tree l (leaves r ++ ys) in
    let f3 = huff-same (whole l ∷ (leaves r ++ ys)) (leaves r ++ (whole l ∷ ys)) (sym (upward-middle (leaves r) (whole l) ys)) in
    let f4 = huff-tree r (whole l ∷ ys) in
    let f5 = huff-merge (whole r) (whole l) ys in
    let e : whole r + whole l ≡ whole l + whole r = omega arith in
    let f6 = ap (λ n. huff (n ∷ ys)) e in
    omega arith

pub path-inner : (d : ℕ) (t : BinaryTree) → path_length_at d t ≡ inner t + d * whole t
path-inner d (tip w) = omega arith
path-inner d (fork l r) = omega (arith, path-inner (d + 1) l, path-inner (d + 1) r)

pub huff-le-path_length : (t : BinaryTree) → huff (leaves t) ≤ path_length_at 0 t
huff-le-path_length t =
    let f1 = huff-tree t [] in
    let f2 = ap huff (append-nil (leaves t)) in
    let f3 = huff-one (whole t) in
    omega (arith, path-inner 0 t)
  where
    append-nil : (xs : List ℕ) → xs ++ [] ≡ xs
    append-nil [] = refl
    append-nil (x ∷ xs) = ap (λ l. x ∷ l) (append-nil xs)

-- the sum of f over a list
abbrev pub total : (ℕ → ℕ) → List ℕ → ℕ
total f [] = 0
total f (x ∷ xs) = f x + total f xs

total-is : (f : ℕ → ℕ) (xs : List ℕ) → sum_by f xs ≡ total f xs
total-is f [] = refl
total-is f (x ∷ xs) = sum_by-cons f x xs ∙ ap (λ n. f x + n) (total-is f xs)

pub total-place : (f : ℕ → ℕ) (n : ℕ) (xs : List ℕ) → total f (place_in n xs) ≡ f n + total f xs
total-place f n [] = refl
total-place f n (x ∷ xs) = elim (cases_lt x n) [
  | inl lt ↦ rw (lt-leb n x lt) (omega (arith, total-place f n xs))
  | inr ge ↦ rw (le-leb n x ge) refl
]

pub total-upward : (f : ℕ → ℕ) (xs : List ℕ) → total f (upward xs) ≡ total f xs
total-upward f [] = refl
total-upward f (x ∷ xs) = total-place f x (upward xs) ∙ ap (λ n. f x + n) (total-upward f xs)

-- 1 at the numbers that are at most this one
abbrev at_most : ℕ → ℕ → ℕ
at_most a x = cond (nat_le x a) 1 0

none_at_most : (a b : ℕ) (xs : List ℕ) → a < b → AtMost b xs → IsUp xs → total (at_most a) xs ≡ 0
none_at_most a b [] lt h up = refl
none_at_most a b (x ∷ xs) lt h up =
    let below : a < x = omega arith in
    let rest = none_at_most a x xs below up.0 up.1 in
    rw (lt-leb x a below) (omega arith)

no_first_below : (a b : ℕ) (xs ys : List ℕ) → a < b → IsUp (b ∷ ys) → ((f : ℕ → ℕ) → total f (a ∷ xs) ≡ total f (b ∷ ys)) → ⊥
no_first_below a b xs ys lt up same =
    let one : at_most a a ≡ 1 = rw (le-leb a a (omega arith)) refl in
    let none = none_at_most a b (b ∷ ys) lt (omega arith) up in
    let e = same (at_most a) in
    omega arith

-- two lists in upward order in which each number stands equally often are one list
pub same_upward : (xs ys : List ℕ) → IsUp xs → IsUp ys → ((f : ℕ → ℕ) → total f xs ≡ total f ys) → xs ≡ ys
same_upward [] [] up1 up2 same = refl
same_upward [] (y ∷ ys) up1 up2 same = absurd (let e = same (λ _. 1) in omega arith)
same_upward (x ∷ xs) [] up1 up2 same = absurd (let e = same (λ _. 1) in omega arith)
same_upward (x ∷ xs) (y ∷ ys) up1 up2 same = elim (cases_order x y) [
  | inl e ↦
      (let tails = same_upward xs ys up1.1 up2.1 (λ f. let s = same f in let fe = ap f e in omega arith) in
      ap (λ n. n ∷ xs) e ∙ ap (λ l. y ∷ l) tails)
  | inr (inl lt) ↦ absurd (no_first_below x y xs ys lt up2 same)
  | inr (inr gt) ↦ absurd (no_first_below y x ys xs gt up1 (λ f. sym (same f)))
]

pub upward-IsPermutation : (xs ys : List ℕ) → IsPermutation xs ys → upward xs ≡ upward ys
upward-IsPermutation xs ys p = same_upward (upward xs) (upward ys) (IsUp-upward xs) (IsUp-upward ys)
    (λ f. total-upward f xs ∙ sym (total-is f xs) ∙ sym (sum_by-IsPermutation f xs ys p) ∙ total-is f ys ∙ sym (total-upward f ys))

pub huffman_is_least : (ws : List ℕ) (t : BinaryTree) → IsPermutation ws (leaves t) → huff ws ≤ path_length_at 0 t
huffman_is_least ws t p =
    let e = huff-same ws (leaves t) (upward-IsPermutation ws (leaves t) p) in
    omega (arith, huff-le-path_length t)
