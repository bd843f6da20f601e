-- Names among names: a name that is there stands at its place.
use Rattle.std.proofs.Common.{◌≡◌, ℕ, suc, ◌+◌, ◌<◌, ◌≤◌, List, [], ◌∷◌, ◌++◌, length, refl, sym, ap, ◌∙◌, arith, Bool, true, false}
use Rattle.std.specs.Prelude.{cond, map, slice_get, not, ◌||◌, Some}
use Rattle.std.specs.List.{position_or_len, list_any}
use Rattle.std.specs.Str.{bytes_eq}
use Rattle.std.proofs.lemmas.Bool.{eq-eqb, ne_eqb}
use Rattle.std.proofs.lemmas.Bool.Decides.{same_from_decides}
use Rattle.std.proofs.lemmas.List.Folds.{prefix_len-append}
use Rattle.std.proofs.lemmas.List.Sums.{prefix_len-le-length}
use Rattle.std.proofs.lemmas.Slice.Eq.{bytes_eq-Decides}
use Rattle.sig_types.specs.declared.model.Block.{Block}
use Rattle.sig_types.specs.declared.model.Used.{Used}
use Rattle.sig_types.specs.Breaches.{has, has_port, block_of_use}
use Rattle.sig_flat.specs.Instances.{block_named}
use Rattle.sig_flat.specs.Resolved.{block_at}
use Rattle.sig_flat.specs.Words.{place_among}

pub bytes_eq-swap : (a b : List ℕ) → bytes_eq a b ≡ bytes_eq b a
bytes_eq-swap a b =
    let d = bytes_eq-Decides b a in
    same_from_decides (bytes_eq a b) (bytes_eq b a) (bytes_eq-Decides a b) (λ e. sym (d.0 e), λ e. d.1 (sym e))

-- where a test passes, there is a first place
pub any-place : {X : Type 0} (p : X → Bool) (xs : List X) → list_any p xs ≡ true → position_or_len p xs < length xs
any-place p [] e = absurd (let f : ⊥ = cc in f)
any-place p (x ∷ xs) e = at_head (p x) e (any-place p xs)
  where
    at_head : (b : Bool) {r : Bool} {n m : ℕ} → (b || r) ≡ true → (r ≡ true → n < m) → cond (not b) (1 + n) 0 < suc m
    at_head true e h = omega arith
    at_head false e h = let lt = h e in omega arith

-- the name at the place of a name that is there is that name
pub place-found : (names : List (List ℕ)) (name : List ℕ) → place_among names name < length names → slice_get names (place_among names name) ≡ Some name
place-found [] name lt = absurd (let f : ⊥ = omega arith in f)
place-found (n ∷ names) name lt = at_head (bytes_eq name n) refl (place-found names name) lt
  where
    at_head : (b : Bool) → bytes_eq name n ≡ b → (place_among names name < length names → slice_get names (place_among names name) ≡ Some name) → cond (not b) (1 + place_among names name) 0 < suc (length names) → slice_get (n ∷ names) (cond (not b) (1 + place_among names name) 0) ≡ Some name
    at_head true e h lt = ap Some (sym ((bytes_eq-Decides name n).0 e))
    at_head false e h lt =
        let below : place_among names name < length names = omega arith in
        let one : 1 + place_among names name ≡ suc (place_among names name) = omega arith in
        ap (slice_get (n ∷ names)) one ∙ h below

-- a name that stands in the front of a list has its place there
pub place-left : (xs ys : List (List ℕ)) (name : List ℕ) → place_among xs name < length xs → place_among (xs ++ ys) name ≡ place_among xs name
place-left xs ys name lt =
    prefix_len-append (λ n. not (bytes_eq name n)) xs ys
    ∙ ap (λ b. cond b (length xs + position_or_len (bytes_eq name) ys) (position_or_len (bytes_eq name) xs)) (ne_eqb (position_or_len (bytes_eq name) xs) (length xs) (λ e. omega arith))

-- and one that doesn't has its place behind the front
pub place-right : (xs ys : List (List ℕ)) (name : List ℕ) → length xs ≤ place_among xs name → place_among (xs ++ ys) name ≡ length xs + place_among ys name
place-right xs ys name le =
    let end = prefix_len-le-length (λ n. not (bytes_eq name n)) xs in
    prefix_len-append (λ n. not (bytes_eq name n)) xs ys
    ∙ ap (λ b. cond b (length xs + position_or_len (bytes_eq name) ys) (position_or_len (bytes_eq name) xs)) (eq-eqb (position_or_len (bytes_eq name) xs) (length xs) (omega arith))

-- the block of a name stands at its place
pub named-at : (blocks : List Block) (name : List ℕ) → block_named blocks name ≡ block_at blocks (place_among (map (λ (b : Block). b.name) blocks) name)
named-at [] name = refl
named-at (b ∷ blocks) name = ap (λ (v : Bool). cond v b (block_named blocks name)) (bytes_eq-swap b.name name) ∙ at_head (bytes_eq name b.name) (named-at blocks name)
  where
    at_head : (v : Bool) → block_named blocks name ≡ block_at blocks (place_among (map (λ (b : Block). b.name) blocks) name) → cond v b (block_named blocks name) ≡ block_at (b ∷ blocks) (cond (not v) (1 + place_among (map (λ (b : Block). b.name) blocks) name) 0)
    at_head true h = refl
    at_head false h =
        let k = place_among (map (λ (b : Block). b.name) blocks) name in
        let one : 1 + k ≡ suc k = omega arith in
        h ∙ sym (ap (block_at (b ∷ blocks)) one)

-- the block of the first use of a name
pub use-named-at : (uses : List Used) (name : List ℕ) (u : Used) → slice_get uses (place_among (map (λ (u : Used). u.name) uses) name) ≡ Some u → block_of_use uses name ≡ u.block
use-named-at [] name u e = absurd (let f : ⊥ = cc in f)
use-named-at (v ∷ uses) name u e = ap (λ (b : Bool). cond b v.block (block_of_use uses name)) (bytes_eq-swap v.name name) ∙ at_head (bytes_eq name v.name) (use-named-at uses name u) e
  where
    at_head : (b : Bool) → (slice_get uses (place_among (map (λ (u : Used). u.name) uses) name) ≡ Some u → block_of_use uses name ≡ u.block) → slice_get (v ∷ uses) (cond (not b) (1 + place_among (map (λ (u : Used). u.name) uses) name) 0) ≡ Some u → cond b v.block (block_of_use uses name) ≡ u.block
    at_head true h e = let s : v ≡ u = cc in ap (λ (w : Used). w.block) s
    at_head false h e =
        let k = place_among (map (λ (u : Used). u.name) uses) name in
        let one : 1 + k ≡ suc k = omega arith in
        h (sym (ap (slice_get (v ∷ uses)) one) ∙ e)

-- a port is one of the block of the name
pub port-of-named : (blocks : List Block) (name port : List ℕ) → has_port blocks name port ≡ true → has (block_named blocks name).ports port ≡ true
port-of-named [] name port e = absurd (let f : ⊥ = cc in f)
port-of-named (b ∷ blocks) name port e = at_head (bytes_eq b.name name) (port-of-named blocks name port) e
  where
    at_head : (v : Bool) → (has_port blocks name port ≡ true → has (block_named blocks name).ports port ≡ true) → cond v (has b.ports port) (has_port blocks name port) ≡ true → has (cond v b (block_named blocks name)).ports port ≡ true
    at_head true h e = e
    at_head false h e = h e

-- a use of the name is a name of a use
pub use-name : (uses : List Used) (name : List ℕ) → list_any (λ (u : Used). bytes_eq u.name name) uses ≡ has (map (λ (u : Used). u.name) uses) name
use-name [] name = refl
use-name (u ∷ uses) name = ap (λ (b : Bool). b || list_any (λ (u : Used). bytes_eq u.name name) uses) (bytes_eq-swap u.name name) ∙ ap (λ (b : Bool). bytes_eq name u.name || b) (use-name uses name)
