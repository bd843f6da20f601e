-- Some binary tree has Huffman's cost as its weighted path length.
use Rattle.std.proofs.Common.{◌≡◌, ℕ, zero, suc, ◌+◌, List, [], ◌∷◌, ◌++◌, length, refl, sym, ap, ◌∙◌, arith, ◌⊎◌, inl, inr, subst}
use Rattle.std.specs.Prelude.{Bool, true, false, cond, nat_le}
use Rattle.seq_theory.specs.Problem.{IsIn}
use Rattle.seq_theory.specs.Huffman.{place_in, upward, merging, huff, BinaryTree, tip, fork, leaves, path_length_at}
use Rattle.seq_theory.proofs.UpwardLaws.{IsUp, place-low, place-least, IsUp-place, IsUp-upward}
use Rattle.seq_theory.proofs.MergeLaws.{place-third}
use Rattle.seq_theory.proofs.HuffmanLaws.{length-place, length-upward, upward-middle, whole, inner, path-inner, total, total-place, total-upward, same_upward}

-- what is placed can be taken away again
place-cancel : (n : ℕ) (xs ys : List ℕ) → IsUp xs → IsUp ys → place_in n xs ≡ place_in n ys → xs ≡ ys
place-cancel n xs ys up1 up2 e = same_upward xs ys up1 up2 (λ f.
    let t = ap (total f) e in
    omega (arith, total-place f n xs, total-place f n ys))

total-append : (f : ℕ → ℕ) (xs ys : List ℕ) → total f (xs ++ ys) ≡ total f xs + total f ys
total-append f [] ys = omega arith
total-append f (x ∷ xs) ys = omega (arith, total-append f xs ys)

append-left : (xs ys zs : List ℕ) → upward xs ≡ upward ys → upward (xs ++ zs) ≡ upward (ys ++ zs)
append-left xs ys zs e = same_upward (upward (xs ++ zs)) (upward (ys ++ zs)) (IsUp-upward (xs ++ zs)) (IsUp-upward (ys ++ zs)) (λ f.
    let t = ap (total f) e in
    omega (arith, total-upward f (xs ++ zs), total-upward f (ys ++ zs), total-append f xs zs, total-append f ys zs, total-upward f xs, total-upward f ys))

append-right : (xs ys zs : List ℕ) → upward ys ≡ upward zs → upward (xs ++ ys) ≡ upward (xs ++ zs)
append-right [] ys zs e = e
append-right (x ∷ xs) ys zs e = ap (place_in x) (append-right xs ys zs e)

-- the tree with a fork of a and b in place of a tip of their sum
record Grown (t : BinaryTree) (a b : ℕ) : Type 0 where
  tree : BinaryTree
  weights : upward ((a + b) ∷ leaves tree) ≡ upward (a ∷ b ∷ leaves t)
  cost : inner tree ≡ inner t + (a + b)
  sum : whole tree ≡ whole t

in-append : (n : ℕ) (xs ys : List ℕ) → IsIn n (xs ++ ys) → IsIn n xs ⊎ IsIn n ys
in-append n [] ys i = inr i
in-append n (x ∷ xs) ys (inl e) = inl (inl e)
in-append n (x ∷ xs) ys (inr i) = elim (in-append n xs ys i) [ inl j ↦ inl (inr j) | inr j ↦ inr j ]

grow : (t : BinaryTree) (a b : ℕ) → IsIn (a + b) (leaves t) → Grown t a b
grow (tip w) a b (inr i) = absurd i
grow (tip w) a b (inl e) = record {
  tree = fork (tip a) (tip b);
  weights = sym (place-third a b (a + b) []) ∙ ap (λ n. place_in a (place_in b (place_in n []))) (sym e);
  cost = omega arith;
  sum = sym e;
}
grow (fork l r) a b i = elim (in-append (a + b) (leaves l) (leaves r) i) [
  | inl j ↦
      (let g = grow l a b j in
      let c = g.cost in
      let s = g.sum in
      record {
        tree = fork g.tree r;
        weights = append-left ((a + b) ∷ leaves g.tree) (a ∷ b ∷ leaves l) (leaves r) g.weights;
        cost = omega arith;
        sum = omega arith;
      })
  | inr j ↦
      (let g = grow r a b j in
      let c = g.cost in
      let s = g.sum in
      record {
        tree = fork l g.tree;
        weights = sym (upward-middle (leaves l) (a + b) (leaves g.tree)) ∙ append-right (leaves l) ((a + b) ∷ leaves g.tree) (a ∷ b ∷ leaves r) g.weights
            ∙ upward-middle (leaves l) a (b ∷ leaves r) ∙ ap (place_in a) (upward-middle (leaves l) b (leaves r));
        cost = omega arith;
        sum = omega arith;
      })
]

in-place : (n m : ℕ) (xs : List ℕ) → IsIn n (place_in m xs) → (m ≡ n) ⊎ IsIn n xs
in-place n m [] (inl e) = inl e
in-place n m [] (inr i) = absurd i
in-place n m (x ∷ xs) i = go (nat_le m x) i (in-place n m xs)
  where
    go : (b : Bool) → IsIn n (cond b (m ∷ x ∷ xs) (x ∷ place_in m xs)) → (IsIn n (place_in m xs) → (m ≡ n) ⊎ IsIn n xs) → (m ≡ n) ⊎ IsIn n (x ∷ xs)
    go true (inl e) later = inl e
    go true (inr j) later = inr j
    go false (inl e) later = inr (inl e)
    go false (inr j) later = elim (later j) [ inl e ↦ inl e | inr k ↦ inr (inr k) ]

in-upward : (n : ℕ) (xs : List ℕ) → IsIn n (upward xs) → IsIn n xs
in-upward n [] i = i
in-upward n (x ∷ xs) i = elim (in-place n x (upward xs) i) [ inl e ↦ inl e | inr j ↦ inr (in-upward n xs j) ]

placed-in : (n : ℕ) (xs : List ℕ) → IsIn n (place_in n xs)
placed-in n [] = inl refl
placed-in n (x ∷ xs) = go (nat_le n x) (placed-in n xs)
  where
    go : (b : Bool) → IsIn n (place_in n xs) → IsIn n (cond b (n ∷ x ∷ xs) (x ∷ place_in n xs))
    go true i = inl refl
    go false i = inr i

record TreeOf (k : ℕ) (xs : List ℕ) : Type 0 where
  tree : BinaryTree
  weights : upward (leaves tree) ≡ xs
  cost : inner tree ≡ merging k xs

tree-of : (k : ℕ) (xs : List ℕ) → IsUp xs → length xs ≡ suc k → TreeOf (suc k) xs
tree-of k [] up l = absurd (let bad : ⊥ = omega arith in bad)
tree-of k (x ∷ []) up l = record { tree = tip x; weights = refl; cost = refl }
tree-of zero (x ∷ y ∷ xs) up l = absurd (let bad : ⊥ = omega arith in bad)
tree-of (suc k) (x ∷ y ∷ xs) up l =
    let zs = place_in (x + y) xs in
    let t = tree-of k zs (IsUp-place (x + y) xs up.1.1) (length-place (x + y) xs ∙ (let e : suc (length xs) ≡ suc k = omega arith in e)) in
    let i = in-upward (x + y) (leaves t.tree) (subst (IsIn (x + y)) (sym t.weights) (placed-in (x + y) xs)) in
    let g = grow t.tree x y i in
    let e1 : place_in (x + y) (upward (leaves g.tree)) ≡ place_in x (place_in y (place_in (x + y) xs)) = g.weights ∙ ap (λ m. place_in x (place_in y m)) t.weights in
    let e2 = place-cancel (x + y) (upward (leaves g.tree)) (place_in x (place_in y xs)) (IsUp-upward (leaves g.tree)) (IsUp-place x (place_in y xs) (IsUp-place y xs up.1.1)) (e1 ∙ place-third x y (x + y) xs) in
    let e3 = ap (place_in x) (place-least y xs up.1.0) ∙ place-low x y xs up.0 in
    let c1 = g.cost in
    let c2 = t.cost in
    record { tree = g.tree; weights = e2 ∙ e3; cost = omega arith }

-- a tree with one leaf for each weight, whose path length is Huffman's cost
pub record Reaches (ws : List ℕ) : Type 0 where
  pub tree : BinaryTree
  pub weights : upward (leaves tree) ≡ upward ws
  pub length_is : path_length_at 0 tree ≡ huff ws

pub huff-reached : (w : ℕ) (ws : List ℕ) → Reaches (w ∷ ws)
unfolding huff
huff-reached w ws =
    let t = tree-of (length ws) (upward (w ∷ ws)) (IsUp-upward (w ∷ ws)) (length-upward (w ∷ ws)) in
    let c = t.cost in
    let p = path-inner 0 t.tree in
    record { tree = t.tree; weights = t.weights; length_is = omega arith }
