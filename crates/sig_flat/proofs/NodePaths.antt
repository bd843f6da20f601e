-- No two nodes of a model have the same path, where the items and uses of each block have names of their own.
--
-- The path of a node begins with that of its instance. What follows is the name of an item of the block, and so one name,
-- or the name of a use and then what follows in the used block, and so two names at least. So two nodes of an instance and of all
-- below it with one path are both items of its block, or both of one use of it, and there the same holds one level down.
use Rattle.std.proofs.Common.{◌≡◌, ℕ, zero, suc, List, [], ◌∷◌, ◌++◌, map, refl, sym, ap, ◌∙◌, subst, append_assoc, inl, inr}
use Rattle.std.specs.List.{Contains, flat_map}
use Rattle.std.proofs.lemmas.Grind.{flat_map-append}
use Rattle.std.proofs.lemmas.List.{map-append}
use Rattle.std.proofs.lemmas.List.Elements.{Contains-append_cases}
use Rattle.sig_types.specs.declared.model.Block.{Block}
use Rattle.sig_types.specs.declared.model.Used.{Used}
use Rattle.sig_flat.specs.Instances.{Path, Instance, instances_at, block_named, own_nodes}
use Rattle.sig_flat.specs.Known.{use_names}
use Rattle.sig_flat.specs.Places.{own_names}
use Rattle.sig_flat.proofs.ApartLaws.{AreApart, apart-append, apart-map, apart-flat_map, contains-none, contains-made, contains-joined}
use Rattle.sig_flat.proofs.PlaceLaws.{path_of, own_paths, map-map}

-- the items and the uses of a block have names of their own
pub record IsApart (block : Block) : Type 0 where
  pub own : AreApart (own_names block)
  pub uses : AreApart (use_names block)

abbrev alone : List ℕ → Path
alone name = name ∷ []

abbrev under : Used → Path → Path
under used path = used.name ∷ path

-- what follows an instance's path in the paths of its nodes and of those below it
abbrev paths_below : ℕ → List Block → Block → List Path
paths_below zero blocks block = []
paths_below (suc levels) blocks block =
    map alone (own_names block) ++ flat_map (λ (used : Used). map (under used) (paths_below levels blocks (block_named blocks used.block))) block.uses

abbrev head_of : Path → List ℕ
head_of [] = []
head_of (name ∷ path) = name

abbrev tail_of : Path → Path
tail_of [] = []
tail_of (name ∷ path) = path

full : (name : List ℕ) (path : Path) → name ∷ path ≡ [] → ⊥
full name path e = cc

alone-one : (x y : List ℕ) → alone x ≡ alone y → x ≡ y
alone-one x y e = ap head_of e

under-one : (used : Used) (p q : Path) → under used p ≡ under used q → p ≡ q
under-one used p q e = ap tail_of e

module _ (blocks : List Block) where
  abbrev below : ℕ → Used → List Path
  below levels used = map (under used) (paths_below levels blocks (block_named blocks used.block))

  -- at least one name follows
  some-follows : (levels : ℕ) (block : Block) (p : Path) → Contains (paths_below levels blocks block) p → p ≡ [] → ⊥
  some-follows zero block p h e = contains-none p h
  some-follows (suc levels) block p h e = elim (Contains-append_cases (map alone (own_names block)) (flat_map (below levels) block.uses) p h) [
    | inl l ↦ (let (name, there, is) = contains-made alone (own_names block) p l in full name [] (is ∙ e))
    | inr r ↦ (
        let (used, there, inside) = contains-joined (below levels) block.uses p r in
        let (q, deep, is) = contains-made (under used) (paths_below levels blocks (block_named blocks used.block)) p inside in
        full used.name q (is ∙ e)
        )
  ]

  one-use : (levels : ℕ) (u v : Used) (p : Path) → Contains (below levels u) p → Contains (below levels v) p → u.name ≡ v.name
  one-use levels u v p l r =
      let (q, deep, is) = contains-made (under u) (paths_below levels blocks (block_named blocks u.block)) p l in
      let (q', deep', is') = contains-made (under v) (paths_below levels blocks (block_named blocks v.block)) p r in
      ap head_of (is ∙ sym is')

  item-or-below : (levels : ℕ) (block : Block) (p : Path) → Contains (map alone (own_names block)) p → Contains (flat_map (below levels) block.uses) p → ⊥
  item-or-below levels block p l r =
      let (name, there, is) = contains-made alone (own_names block) p l in
      let (used, there', inside) = contains-joined (below levels) block.uses p r in
      let (q, deep, is') = contains-made (under used) (paths_below levels blocks (block_named blocks used.block)) p inside in
      some-follows levels (block_named blocks used.block) q deep (ap tail_of (is' ∙ sym is))

  apart-below : ((name : List ℕ) → IsApart (block_named blocks name)) → (levels : ℕ) (block : Block) → IsApart block → AreApart (paths_below levels blocks block)
  apart-below all zero block a = tt
  apart-below all (suc levels) block a =
      apart-append (map alone (own_names block)) (flat_map (below levels) block.uses)
      (apart-map alone alone-one (own_names block) a.own)
      (apart-flat_map (below levels) (λ (u : Used). u.name) (one-use levels) block.uses a.uses
      (λ u there. apart-map (under u) (under-one u) (paths_below levels blocks (block_named blocks u.block)) (apart-below all levels (block_named blocks u.block) (all u.block))))
      (item-or-below levels block)

  -- the paths themselves
  map-same : {X Y : Type 0} (f g : X → Y) → ((x : X) → f x ≡ g x) → (xs : List X) → map f xs ≡ map g xs
  map-same f g h [] = refl
  map-same f g h (x ∷ xs) = let a = h x in let b = map-same f g h xs in cc

  joined : {X : Type 0} (a a' b b' : List X) → a ≡ a' → b ≡ b' → a ++ b ≡ a' ++ b'
  joined a a' b b' ea eb = cc

  abbrev inner : ℕ → Path → Used → List Instance
  inner levels path used = instances_at levels blocks (path ++ used.name ∷ []) (block_named blocks used.block)

  of_uses : (levels : ℕ) (path : Path) → ((u : Used) → map path_of (flat_map own_nodes (inner levels path u)) ≡ map (λ p. path ++ p) (below levels u))
      → (us : List Used) → map path_of (flat_map own_nodes (flat_map (inner levels path) us)) ≡ map (λ p. path ++ p) (flat_map (below levels) us)
  of_uses levels path of_use [] = refl
  of_uses levels path of_use (u ∷ us) =
      ap (map path_of) (flat_map-append own_nodes (inner levels path u) (flat_map (inner levels path) us))
      ∙ map-append path_of (flat_map own_nodes (inner levels path u)) (flat_map own_nodes (flat_map (inner levels path) us))
      ∙ joined _ _ _ _ (of_use u) (of_uses levels path of_use us)
      ∙ sym (map-append (λ p. path ++ p) (below levels u) (flat_map (below levels) us))

  paths-are : (levels : ℕ) (path : Path) (block : Block) → map path_of (flat_map own_nodes (instances_at levels blocks path block)) ≡ map (λ p. path ++ p) (paths_below levels blocks block)
  paths-are zero path block = refl
  paths-are (suc levels) path block =
      map-append path_of (own_nodes (record { path = path; block = block })) (flat_map own_nodes (flat_map (inner levels path) block.uses))
      ∙ joined _ _ _ _ (own_paths (record { path = path; block = block }) ∙ sym (map-map (λ p. path ++ p) alone (own_names block)))
      (of_uses levels path (λ u.
      paths-are levels (path ++ u.name ∷ []) (block_named blocks u.block)
      ∙ map-same (λ p. (path ++ u.name ∷ []) ++ p) (λ p. path ++ under u p) (λ p. append_assoc path (u.name ∷ []) p) (paths_below levels blocks (block_named blocks u.block))
      ∙ sym (map-map (λ p. path ++ p) (under u) (paths_below levels blocks (block_named blocks u.block)))) block.uses)
      ∙ sym (map-append (λ p. path ++ p) (map alone (own_names block)) (flat_map (below levels) block.uses))

  -- the paths of the nodes of an instance at the top, and of all below it, are apart
  pub apart-paths : ((name : List ℕ) → IsApart (block_named blocks name)) → (levels : ℕ) (block : Block) → IsApart block → AreApart (map path_of (flat_map own_nodes (instances_at levels blocks [] block)))
  apart-paths all levels block a = subst AreApart (sym (paths-are levels [] block)) (apart-map (λ p. [] ++ p) (λ p q e. e) (paths_below levels blocks block) (apart-below all levels block a))
