-- Lists whose items stand in a relation, place by place.
use Rattle.std.proofs.Common.{◌≡◌, zero, suc, List, [], ◌∷◌, ◌++◌, refl, ap, arith, subst}
use Rattle.std.specs.Prelude.{map}
use Rattle.std.specs.List.{AllZip, Contains, flat_map}

pub zip-append : {A B : Type 0} (R : A → B → Type 0) (xs xs' : List A) (ys ys' : List B) → AllZip R xs ys → AllZip R xs' ys' → AllZip R (xs ++ xs') (ys ++ ys')
zip-append R [] xs' [] ys' z z' = z'
zip-append R [] xs' (y ∷ ys) ys' z z' = absurd z
zip-append R (x ∷ xs) xs' [] ys' z z' = absurd z
zip-append R (x ∷ xs) xs' (y ∷ ys) ys' z z' = (z.0, zip-append R xs xs' ys ys' z.1 z')

pub zip-flat_map : {A B C D : Type 0} (R : A → B → Type 0) (S : C → D → Type 0) (f : A → List C) (g : B → List D) (xs : List A) (ys : List B) → AllZip R xs ys → ((x : A) (y : B) → R x y → AllZip S (f x) (g y)) → AllZip S (flat_map f xs) (flat_map g ys)
zip-flat_map R S f g [] [] z h = tt
zip-flat_map R S f g [] (y ∷ ys) z h = absurd z
zip-flat_map R S f g (x ∷ xs) [] z h = absurd z
zip-flat_map R S f g (x ∷ xs) (y ∷ ys) z h = zip-append S (f x) (flat_map f xs) (g y) (flat_map g ys) (h x y z.0) (zip-flat_map R S f g xs ys z.1 h)

-- two lists made of one list
pub zip-maps : {X A B : Type 0} (R : A → B → Type 0) (f : X → A) (g : X → B) (xs : List X) → ((x : X) → Contains xs x → R (f x) (g x)) → AllZip R (map f xs) (map g xs)
zip-maps R f g [] h = tt
zip-maps R f g (x ∷ xs) h = (h x (0, omega arith, refl), zip-maps R f g xs (λ y (k, lt, e). h y (suc k, omega arith, e)))

-- the partner of an item of the second list
pub zip-partner : {A B : Type 0} (R : A → B → Type 0) (xs : List A) (ys : List B) (y : B) → AllZip R xs ys → Contains ys y → (x : A) × R x y
zip-partner R [] [] y z (k, lt, e) = absurd (let f : ⊥ = omega arith in f)
zip-partner R [] (w ∷ ys) y z i = absurd z
zip-partner R (x ∷ xs) [] y z i = absurd z
zip-partner {A = A} R (x ∷ xs) (w ∷ ys) y z (zero, lt, e) = (x, subst (R x) e z.0)
zip-partner R (x ∷ xs) (w ∷ ys) y z (suc k, lt, e) = zip-partner R xs ys y z.1 (k, omega arith, e)

pub contains-map : {X Y : Type 0} (f : X → Y) (xs : List X) (x : X) → Contains xs x → Contains (map f xs) (f x)
contains-map f [] x (k, lt, e) = absurd (let g : ⊥ = omega arith in g)
contains-map f (z ∷ xs) x (zero, lt, e) = (0, omega arith, ap f e)
contains-map f (z ∷ xs) x (suc k, lt, e) = let h = contains-map f xs x (k, omega arith, e) in (suc h.0, (let g = h.1 in omega arith), h.2)

pub map-flat : {X Y Z : Type 0} (g : Y → Z) (f : X → Y) (xs : List X) → map g (map f xs) ≡ map (λ x. g (f x)) xs
map-flat g f [] = refl
map-flat g f (x ∷ xs) = ap (λ l. g (f x) ∷ l) (map-flat g f xs)
