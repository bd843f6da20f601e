-- The node at an end's place in the instance of a block, whatever levels are below it.
use Rattle.std.proofs.Common.{◌≡◌, ℕ, zero, suc, ◌<◌, List, [], ◌∷◌, ◌++◌, length, take, refl, ap, ◌∙◌, arith}
use Rattle.std.specs.Prelude.{map, slice_get, slice_index, slice_index_or, Option, Some, None}
use Rattle.std.specs.List.{AllZip, Contains, flat_map}
use Rattle.std.proofs.lemmas.List.{map-append}
use Rattle.std.proofs.lemmas.List.Elements.{Contains-get_or}
use Rattle.sig_types.specs.declared.model.Block.{Block}
use Rattle.sig_types.specs.declared.model.Used.{Used}
use Rattle.sig_types.specs.declared.model.End.{End}
use Rattle.sig_flat.specs.Instances.{Path, Instance, own_nodes, end_path, instances_at, block_named}
use Rattle.sig_flat.specs.Sizes.{sum_over, size_down, size, UseEarlier}
use Rattle.sig_flat.specs.Resolved.{block_at, IsNumberOf, AreResolved}
use Rattle.sig_flat.specs.Places.{own_names, IsEndPlace}
use Rattle.sig_flat.proofs.PlaceLaws.{path_of, nodes_below, end-at-place, own_paths, get-left, get-map}
use Rattle.sig_flat.proofs.SizeLaws.{size_down-same}

pub get-below : {X : Type 0} (xs : List X) (i : ℕ) (x : X) → slice_get xs i ≡ Some x → i < length xs
get-below [] i x e = absurd (none_some e)
  where
    none_some : {X : Type 0} {x : X} → None ≡ Some x → ⊥
    none_some e = cc
get-below (y ∷ xs) zero x e = omega arith
get-below (y ∷ xs) (suc i) x e = let h = get-below xs i x e in omega arith

pub zip-length : {A B : Type 0} (R : A → B → Type 0) (xs : List A) (ys : List B) → AllZip R xs ys → length xs ≡ length ys
zip-length R [] [] z = refl
zip-length R [] (y ∷ ys) z = absurd z
zip-length R (x ∷ xs) [] z = absurd z
zip-length R (x ∷ xs) (y ∷ ys) z = ap suc (zip-length R xs ys z.1)

sum_over-take : (f g : ℕ → ℕ) (xs : List ℕ) (n : ℕ) → ((x : ℕ) → Contains xs x → f x ≡ g x) → sum_over f (take n xs) ≡ sum_over g (take n xs)
sum_over-take f g xs zero h = refl
sum_over-take f g [] (suc n) h = refl
sum_over-take f g (x ∷ xs) (suc n) h =
    let e = h x (0, omega arith, refl) in
    let r = sum_over-take f g xs n (λ y (k, lt, s). h y (suc k, omega arith, s)) in
    omega arith

module _ (blocks : List Block) (own : List ℕ) (numbers : List (List ℕ)) (r : AreResolved blocks (λ b. length (own_names b)) own numbers) (earlier : UseEarlier numbers) where
  own-node-at : (levels : ℕ) (path : Path) (k : ℕ) (first : List ℕ) (place : ℕ) → slice_get (own_names (block_at blocks k)) place ≡ Some first → slice_get (map path_of (nodes_below blocks own numbers r (suc levels) path k)) place ≡ Some (path ++ first ∷ [])
  own-node-at levels path k first place h =
      let i : Instance = record { path = path; block = block_at blocks k } in
      let rest = flat_map own_nodes (flat_map (λ (u : Used). instances_at levels blocks (path ++ u.name ∷ []) (block_named blocks u.block)) (block_at blocks k).uses) in
      ap (λ l. slice_get l place) (map-append path_of (own_nodes i) rest ∙ ap (λ l. l ++ map path_of rest) (own_paths i))
      ∙ get-left (map (λ n. path ++ n ∷ []) (own_names (block_at blocks k))) (map path_of rest) place (path ++ first ∷ []) (get-map (λ n. path ++ n ∷ []) (own_names (block_at blocks k)) place first h)

  -- the block of the use stands among the numbers
  used-number : (k nth : ℕ) (u : Used) → k < length blocks → slice_get (block_at blocks k).uses nth ≡ Some u → Contains (slice_index_or numbers k []) (slice_index (slice_index_or numbers k []) nth)
  used-number k nth u lt e =
      let js = slice_index_or numbers k [] in
      let long = zip-length (IsNumberOf blocks) (block_at blocks k).uses js (r.uses k lt) in
      let at = get-below (block_at blocks k).uses nth u e in
      Contains-get_or js nth 0 (omega arith)

  node-at : (levels : ℕ) (path : Path) (k : ℕ) → k < length blocks → k < levels → (first : List ℕ) (second : Option (List ℕ)) (place : ℕ) → IsEndPlace blocks numbers (size own numbers) k (record { first = first; second = second }) place
      → slice_get (map path_of (nodes_below blocks own numbers r levels path k)) place ≡ Some (end_path path (record { first = first; second = second }))
  unfolding size
  node-at zero path k lt lv first second place h = absurd (let f : ⊥ = omega arith in f)
  node-at (suc levels) path k lt lv first None place h = own-node-at levels path k first place h
  node-at (suc zero) path k lt lv first (Some port) place h =
      let js = slice_index_or numbers k [] in
      let below = earlier k (slice_index js h.nth) (used-number k h.nth h.used lt h.is_used) in
      absurd (let f : ⊥ = omega arith in f)
  node-at (suc (suc levels)) path k lt lv first (Some port) place h =
      let js = slice_index_or numbers k [] in
      let same = sum_over-take (size own numbers) (size_down own numbers (suc levels)) js h.nth (λ j i. let b = earlier k j i in sized j (omega arith)) in
      let adds = h.adds in
      end-at-place blocks own numbers r levels path k lt (record { first = first; second = Some port }) place
      (record { nth = h.nth; used = h.used; at = h.at; is_used = h.is_used; name = h.name; is_port = h.is_port; adds = omega arith })
    where
      sized : (j : ℕ) → j < suc levels → size own numbers j ≡ size_down own numbers (suc levels) j
      sized j b = size_down-same own numbers earlier (suc j) (suc levels) j (omega arith) b

  -- the node at an end's place is the end's node
  pub end-at : (levels : ℕ) (path : Path) (k : ℕ) → k < length blocks → k < levels → (e : End) (place : ℕ) → IsEndPlace blocks numbers (size own numbers) k e place
      → slice_get (map path_of (nodes_below blocks own numbers r levels path k)) place ≡ Some (end_path path e)
  end-at levels path k lt lv e place h = node-at levels path k lt lv e.first e.second place h
