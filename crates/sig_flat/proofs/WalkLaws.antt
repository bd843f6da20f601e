-- The instances of a block that the walk writes down, by those of the blocks that it uses.
use Rattle.std.proofs.Common.{◌≡◌, ℕ, zero, suc, ◌+◌, ◌<◌, ◌^◌, List, [], ◌∷◌, ◌++◌, length, take, get_or, refl, sym, ap, ◌∙◌, arith, append_assoc, add-one, subst, inl, inr}
use Rattle.std.specs.List.{Contains, flat_map}
use Rattle.std.proofs.Math.Seq.{take-suc}
use Rattle.std.proofs.lemmas.Grind.{flat_map-append}
use Rattle.std.specs.Prelude.{map}
use Rattle.std.proofs.lemmas.List.{append-nil, map-append, get_or_default}
use Rattle.std.proofs.lemmas.List.Elements.{Contains-append_left, Contains-append_right, Contains-append_cases}
use Rattle.sig_flat.specs.declared.inner.Inner.{Inner}
use Rattle.sig_flat.specs.declared.walk.Placed.{Placed}
use Rattle.sig_flat.specs.Placed.{placed_down, placed_at, inner_prefix, NestEarlier, StartsFit}

pub flat_map-same : {X Y : Type 0} (f g : X → List Y) (xs : List X) → ((x : X) → Contains xs x → f x ≡ g x) → flat_map f xs ≡ flat_map g xs
flat_map-same f g [] h = refl
flat_map-same f g (x ∷ xs) h = two (h x (0, omega arith, refl)) (flat_map-same f g xs (λ y (k, lt, e). h y (suc k, omega arith, e)))
  where
    two : f x ≡ g x → flat_map f xs ≡ flat_map g xs → f x ++ flat_map f xs ≡ g x ++ flat_map g xs
    two a b = cc

-- what an item gives is in what all give
pub contains-flat_map : {X Y : Type 0} (f : X → List Y) (xs : List X) (x : X) (y : Y) → Contains xs x → Contains (f x) y → Contains (flat_map f xs) y
contains-flat_map f [] x y (k, lt, e) h = absurd (let g : ⊥ = omega arith in g)
contains-flat_map f (z ∷ xs) x y (zero, lt, e) h = Contains-append_left (f z) (flat_map f xs) y (subst (λ w. Contains (f w) y) (sym e) h)
contains-flat_map f (z ∷ xs) x y (suc k, lt, e) h = Contains-append_right (f z) (flat_map f xs) y (contains-flat_map f xs x y (k, omega arith, e) h)

-- one item more
pub flat_map-next : {X Y : Type 0} (f : X → List Y) (xs : List X) (i : ℕ) (x : X) → x ≡ get_or xs i x → i < length xs → flat_map f (take i xs) ++ f x ≡ flat_map f (take (i + 1) xs)
flat_map-next f xs i x e lt =
    let more : take (i + 1) xs ≡ take i xs ++ x ∷ [] = rw add-one (take-suc xs i x lt ∙ ap (λ y. take i xs ++ y ∷ []) (sym e)) in
    sym (ap (flat_map f) more ∙ flat_map-append f (take i xs) (x ∷ []) ∙ ap (λ l. flat_map f (take i xs) ++ l) (append-nil (f x)))

module _ (inners : List (List Inner)) (earlier : NestEarlier inners) where
  -- the levels say nothing, where there are enough of them
  down-same : (n m : ℕ) (prefix : List ℕ) (k start : ℕ) → k < n → k < m → placed_down inners n prefix k start ≡ placed_down inners m prefix k start
  down-same zero m prefix k start ln lm = absurd (let f : ⊥ = omega arith in f)
  down-same (suc n) zero prefix k start ln lm = absurd (let f : ⊥ = omega arith in f)
  down-same (suc n) (suc m) prefix k start ln lm =
      ap (λ (l : List Placed). record { prefix = prefix; block = k; start = start } ∷ l)
      (flat_map-same (λ (inner : Inner). placed_down inners n (inner_prefix prefix inner.name) inner.block (start + inner.offset)) (λ (inner : Inner). placed_down inners m (inner_prefix prefix inner.name) inner.block (start + inner.offset)) (get_or inners k [])
      (λ inner i. let b = earlier k inner i in down-same n m (inner_prefix prefix inner.name) inner.block (start + inner.offset) (omega arith) (omega arith)))

  -- the instances inside the instance of a block
  abbrev pub inside : List ℕ → ℕ → Inner → List Placed
  inside prefix start inner = placed_at inners (inner_prefix prefix inner.name) inner.block (start + inner.offset)

  pub placed-uses : (prefix : List ℕ) (k start : ℕ) → placed_at inners prefix k start ≡ record { prefix = prefix; block = k; start = start } ∷ flat_map (inside prefix start) (get_or inners k [])
  unfolding placed_at
  placed-uses prefix k start =
      ap (λ (l : List Placed). record { prefix = prefix; block = k; start = start } ∷ l)
      (flat_map-same (λ (inner : Inner). placed_down inners k (inner_prefix prefix inner.name) inner.block (start + inner.offset)) (inside prefix start) (get_or inners k [])
      (λ inner i. let b = earlier k inner i in down-same k (suc inner.block) (inner_prefix prefix inner.name) inner.block (start + inner.offset) b (omega arith)))

  pub placed-at-levels : (levels : ℕ) (prefix : List ℕ) (k start : ℕ) → k < levels → placed_down inners levels prefix k start ≡ placed_at inners prefix k start
  unfolding placed_at
  placed-at-levels levels prefix k start lt = down-same levels (suc k) prefix k start lt (omega arith)

  -- where the starts of all fit, so do those of an inner instance and of all below it
  pub inside-fits : (prefix : List ℕ) (k start : ℕ) (inner : Inner) → StartsFit (placed_at inners prefix k start) → Contains (get_or inners k []) inner → StartsFit (inside prefix start inner)
  inside-fits prefix k start inner h i = λ p there.
      h p (subst (λ (l : List Placed). Contains l p) (sym (placed-uses prefix k start)) (later (contains-flat_map (inside prefix start) (get_or inners k []) inner p i there)))
    where
      later : {p : Placed} → Contains (flat_map (inside prefix start) (get_or inners k [])) p → Contains (record { prefix = prefix; block = k; start = start } ∷ flat_map (inside prefix start) (get_or inners k [])) p
      later (n, lt, e) = (suc n, omega arith, e)

  -- the first of them is the inner instance itself
  pub first-fits : (prefix : List ℕ) (k start : ℕ) → StartsFit (placed_at inners prefix k start) → start < 2 ^ 32
  first-fits prefix k start h =
      let me : Placed = record { prefix = prefix; block = k; start = start } in
      h me (subst (λ (l : List Placed). Contains l me) (sym (placed-uses prefix k start)) (0, omega arith, refl))

-- one item more in a list that is made from another
pub map-next : {X Y : Type 0} (f : X → Y) (front : List Y) (xs : List X) (i : ℕ) (x : X) → x ≡ get_or xs i x → i < length xs → (front ++ map f (take i xs)) ++ f x ∷ [] ≡ front ++ map f (take (i + 1) xs)
map-next f front xs i x e lt =
    let more : take (i + 1) xs ≡ take i xs ++ x ∷ [] = rw add-one (take-suc xs i x lt ∙ ap (λ y. take i xs ++ y ∷ []) (sym e)) in
    append_assoc front (map f (take i xs)) (f x ∷ []) ∙ sym (ap (λ l. front ++ l) (ap (map f) more ∙ map-append f (take i xs) (x ∷ [])))

pub fits-more : {X : Type 0} (P : X → Type 0) (xs : List X) (x : X) → ((y : X) → Contains xs y → P y) → P x → (y : X) → Contains (xs ++ x ∷ []) y → P y
fits-more P xs x h here y i = elim (Contains-append_cases xs (x ∷ []) y i) [
  | inl left ↦ h y left
  | inr right ↦ last right
]
  where
    last : Contains (x ∷ []) y → P y
    last (zero, lt, e) = subst P e here
    last (suc k, lt, e) = absurd (let f : ⊥ = omega arith in f)

-- an item of a row that was read is one of that row
pub among-row : {X : Type 0} (rows : List (List X)) (k : ℕ) (row items : List X) (i : ℕ) (x : X) → items ≡ row → row ≡ get_or rows k row → k < length rows → x ≡ get_or items i x → i < length items → Contains (get_or rows k []) x
among-row rows k row items i x e r lt is inside = subst (λ l. Contains l x) (e ∙ r ∙ get_or_default rows k row [] lt) (i, inside, sym is)
