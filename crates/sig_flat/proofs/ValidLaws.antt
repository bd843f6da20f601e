-- What a model without breach keeps to: each use names an earlier block, each test a mode that is there, and each
-- link's end a node of the block or a port of one of its uses.
use Rattle.std.proofs.Common.{◌≡◌, ℕ, zero, suc, ◌+◌, ◌<◌, ◌≤◌, List, [], ◌∷◌, ◌++◌, length, get_or, refl, sym, ap, ◌∙◌, arith, Bool, true, false, subst}
use Rattle.std.specs.Prelude.{cond, map, not, nat_le, nat_lt, ◌&&◌, ◌||◌, Option, Some, None}
use Rattle.std.specs.List.{Contains, list_any, position_or_len}
use Rattle.std.specs.Str.{bytes_eq}
use Rattle.std.proofs.lemmas.Bool.{ltb-false, leb-false}
use Rattle.std.proofs.lemmas.List.{map-append}
use Rattle.std.proofs.lemmas.List.Folds.{list_any-append}
use Rattle.sig_types.specs.declared.model.Model.{Model}
use Rattle.sig_types.specs.declared.model.Block.{Block}
use Rattle.sig_types.specs.declared.model.Part.{Part}
use Rattle.sig_types.specs.declared.model.Used.{Used}
use Rattle.sig_types.specs.declared.model.Point.{Point}
use Rattle.sig_types.specs.declared.model.Test.{Test}
use Rattle.sig_types.specs.declared.model.Link.{Link}
use Rattle.sig_types.specs.declared.refusals.Refusal.{Refusal}
use Rattle.sig_types.specs.declared.refusals.Code.{Code}
use Rattle.sig_types.specs.declared.refusals.Place.{Place}
use Rattle.sig_types.specs.declared.refusals.Kind.TheVariants.{Part as PartKind, Use as UseKind, Point as PointKind}
use Rattle.sig_types.specs.declared.refusals.Key.TheVariants.{Name, Ports, Switches}
use Rattle.sig_types.specs.Breaches.{breaches, each, each_from, breach_if, has, has_use, has_port, block_of_use, block_names, known_modes, block_breaches, contents_breaches, count_breaches, repeated_at_top, indexed_breaches, repeats, repeated_tests, part_breaches, use_breaches, test_breaches, mode_breaches, link_breaches, end_breaches, end_of_item, scope_of, names_of, named, in_block, in_item, or_normal}
use Rattle.sig_flat.specs.Instances.{no_block, block_named}
use Rattle.sig_flat.specs.Resolved.{block_at}
use Rattle.sig_flat.specs.Places.{own_names}
use Rattle.sig_flat.specs.Words.{place_among}
use Rattle.sig_flat.specs.Known.{use_names, EndIsKnown, ModeIsKnown, IsKnownBlock, IsKnown}
use Rattle.sig_flat.proofs.NameLaws.{any-place, use-name, port-of-named}

-- two lists that are empty together
pub both-empty : {X : Type 0} (xs ys : List X) → xs ++ ys ≡ [] → (xs ≡ []) × (ys ≡ [])
both-empty [] ys e = (refl, e)
both-empty (x ∷ xs) ys e = absurd (let f : ⊥ = cc in f)

pub no-breach : (b : Bool) (code : Code) (place : Place) → breach_if b code place ≡ [] → b ≡ false
no-breach true code place e = absurd (let f : ⊥ = cc in f)
no-breach false code place e = refl

pub each-at : {X Y : Type 0} (f : ℕ → X → List Y) (n : ℕ) (xs : List X) → each_from n f xs ≡ [] → (i : ℕ) (d : X) → i < length xs → f (n + i) (get_or xs i d) ≡ []
each-at f n [] e i d lt = absurd (let g : ⊥ = omega arith in g)
each-at f n (x ∷ xs) e zero d lt = let z : n + 0 ≡ n = omega arith in rw z ((both-empty (f n x) (each_from (suc n) f xs) e).0)
each-at f n (x ∷ xs) e (suc i) d lt =
    let s : n + suc i ≡ suc n + i = omega arith in
    rw s (each-at f (suc n) xs ((both-empty (f n x) (each_from (suc n) f xs) e).1) i d (omega arith))

pub each-of : {X Y : Type 0} (f : ℕ → X → List Y) (xs : List X) (x : X) → each f xs ≡ [] → Contains xs x → (i : ℕ) × (f i x ≡ [])
each-of f xs x e (i, lt, at) = (0 + i, subst (λ y. f (0 + i) y ≡ []) at (each-at f 0 xs e i x lt))

not-false : (v : Bool) → not v ≡ false → v ≡ true
not-false true h = refl
not-false false h = absurd (let g : ⊥ = cc in g)

-- uses
use-known : (model : Model) (b k : ℕ) (used : Used) → use_breaches model b k used ≡ [] → (place_among (block_names model) used.block < length (block_names model)) × (place_among (block_names model) used.block < b)
use-known model b k used e =
    let two = both-empty (breach_if (not (has (block_names model) used.block)) _ _) _ e in
    let known = not-false (has (block_names model) used.block) (no-breach (not (has (block_names model) used.block)) _ _ two.0) in
    let early = no-breach (has (block_names model) used.block && nat_le b (position_or_len (bytes_eq used.block) (block_names model))) _ _ two.1 in
    (any-place (bytes_eq used.block) (block_names model) known, leb-false b (place_among (block_names model) used.block) (second (has (block_names model) used.block) (nat_le b (position_or_len (bytes_eq used.block) (block_names model))) known early))
  where
    second : (v w : Bool) → v ≡ true → (v && w) ≡ false → w ≡ false
    second true w h g = g
    second false w h g = absurd (let f : ⊥ = cc in f)

-- modes
mode-known : (model : Model) (place : Place) (mode : Option (List ℕ)) → mode_breaches model place mode ≡ [] → ModeIsKnown (known_modes model) mode
mode-known model place None e = tt
mode-known model place (Some mode) e = any-place (bytes_eq mode) (known_modes model) (not-false (has (known_modes model) mode) (no-breach (not (has (known_modes model) mode)) _ _ e))

-- the names of a scope
pub names-each : {X : Type 0} (name : X → List ℕ) (at : ℕ → Place) (n : ℕ) (xs : List X) → names_of (each_from n (λ k x. named (name x) (at k)) xs) ≡ map name xs
names-each name at n [] = refl
names-each name at n (x ∷ xs) = ap (λ l. name x ∷ l) (names-each name at (suc n) xs)

pub map-id : (xs : List (List ℕ)) → map (λ x. x) xs ≡ xs
map-id [] = refl
map-id (x ∷ xs) = ap (λ l. x ∷ l) (map-id xs)

pub scope-names : (b : ℕ) (block : Block) → names_of (scope_of b block) ≡ block.ports ++ block.switches ++ map (λ (p : Part). p.name) block.parts ++ map (λ (u : Used). u.name) block.uses ++ map (λ (p : Point). p.name) block.points
scope-names b block =
    simp (map-append, names-each (λ (n : List ℕ). n) (λ k. in_block b Ports (Some k)) 0 block.ports, names-each (λ (n : List ℕ). n) (λ k. in_block b Switches (Some k)) 0 block.switches, names-each (λ (p : Part). p.name) (λ k. in_item b PartKind k (Some Name) None) 0 block.parts, names-each (λ (u : Used). u.name) (λ k. in_item b UseKind k (Some Name) None) 0 block.uses, names-each (λ (p : Point). p.name) (λ k. in_item b PointKind k (Some Name) None) 0 block.points, map-id)

-- an item that is no use is a node
item-or-use : (b : ℕ) (block : Block) (name : List ℕ) → has (names_of (scope_of b block)) name ≡ true → has_use block name ≡ false → has (own_names block) name ≡ true
item-or-use b block name e u =
    let p : List ℕ → Bool = bytes_eq name in
    let front = block.ports ++ block.switches ++ map (λ (p : Part). p.name) block.parts in
    let uses = map (λ (u : Used). u.name) block.uses in
    let points = map (λ (p : Point). p.name) block.points in
    let s : ((list_any p front || list_any p uses) || list_any p points) ≡ true =
    ap (λ v. v || list_any p points) (sym (list_any-append p front uses)) ∙ sym (list_any-append p (front ++ uses) points) ∙ sym (ap (list_any p) (scope-names b block)) ∙ e in
    let w : list_any p uses ≡ false = sym (use-name block.uses name) ∙ u in
    list_any-append p front points ∙ without (list_any p front) (list_any p uses) (list_any p points) s w
  where
    without : (x y z : Bool) → ((x || y) || z) ≡ true → y ≡ false → (x || z) ≡ true
    without true y z h g = refl
    without false true z h g = absurd (let f : ⊥ = cc in f)
    without false false z h g = h

-- ends
known-item : (v : Bool) (xs : List Refusal) (r : Refusal) → cond v xs (r ∷ []) ≡ [] → (v ≡ true) × (xs ≡ [])
known-item true xs r e = (refl, e)
known-item false xs r e = absurd (let f : ⊥ = cc in f)

and-false : (v w : Bool) → v ≡ true → (v && w) ≡ false → w ≡ false
and-false true w h g = g
and-false false w h g = absurd (let f : ⊥ = cc in f)

end-known : (model : Model) (b : ℕ) (block : Block) (place : Place) (first : List ℕ) (second : Option (List ℕ)) → end_breaches model b block place (record { first = first; second = second }) ≡ [] → EndIsKnown model.blocks block first second
end-known model b block place first None e =
    let two = known-item (has (names_of (scope_of b block)) first) (end_of_item model block place first None) _ e in
    any-place (bytes_eq first) (own_names block) (item-or-use b block first two.0 (no-breach (has_use block first) _ _ two.1))
end-known model b block place first (Some port) e =
    let two = known-item (has (names_of (scope_of b block)) first) (end_of_item model block place first (Some port)) _ e in
    let parts = both-empty (breach_if (not (has_use block first)) _ _) _ two.1 in
    let used = not-false (has_use block first) (no-breach (not (has_use block first)) _ _ parts.0) in
    let lacks = no-breach (has_use block first && not (has_port model.blocks (block_of_use block.uses first) port)) _ _ parts.1 in
    let ported = not-false (has_port model.blocks (block_of_use block.uses first) port) (and-false (has_use block first) (not (has_port model.blocks (block_of_use block.uses first) port)) used lacks) in (
      any-place (bytes_eq first) (use_names block) (sym (use-name block.uses first) ∙ used),
      any-place (bytes_eq port) (block_named model.blocks (block_of_use block.uses first)).ports (port-of-named model.blocks (block_of_use block.uses first) port ported),
    )

-- the breaches of a link, apart
link-ends : (model : Model) (b : ℕ) (block : Block) (k : ℕ) (link : Link) → link_breaches model b block k link ≡ [] → EndIsKnown model.blocks block link.from.first link.from.second × EndIsKnown model.blocks block link.to.first link.to.second
link-ends model b block k link e =
    let one = (both-empty _ _ e).0 in
    let two = (both-empty _ _ one).0 in
    let three = both-empty _ _ two in (
      end-known model b block _ link.from.first link.from.second three.0,
      end-known model b block _ link.to.first link.to.second three.1,
    )

test-mode : (model : Model) (b p t : ℕ) (test : Test) → test_breaches model b p t test ≡ [] → ModeIsKnown (known_modes model) test.mode
test-mode model b p t test e = mode-known model _ test.mode (both-empty _ _ e).1

block-known : (model : Model) (b : ℕ) (block : Block) → known_modes model ≡ model.modes → block_breaches model b block ≡ [] → IsKnownBlock model b block
block-known model b block modes e =
    let whole = both-empty (repeats (scope_of b block)) (contents_breaches model b block) e in
    let last = both-empty (repeated_tests b block.points ++ each (part_breaches model b) block.parts ++ each (use_breaches model b) block.uses ++ each (λ p (point : Point). each (test_breaches model b p) point.tests) block.points) (each (link_breaches model b block) block.links) whole.1 in
    let third = both-empty (repeated_tests b block.points ++ each (part_breaches model b) block.parts ++ each (use_breaches model b) block.uses) (each (λ p (point : Point). each (test_breaches model b p) point.tests) block.points) last.0 in
    let second = both-empty (repeated_tests b block.points ++ each (part_breaches model b) block.parts) (each (use_breaches model b) block.uses) third.0 in
    record {
      uses = λ used i. let at = each-of (use_breaches model b) block.uses used second.1 i in use-known model b at.0 used at.1;
      tests = λ point i test j.
          let at = each-of (λ p (point : Point). each (test_breaches model b p) point.tests) block.points point third.1 i in
          let under = each-of (test_breaches model b at.0) point.tests test at.1 j in
          subst (λ l. ModeIsKnown l test.mode) modes (test-mode model b at.0 under.0 test under.1);
      from = λ link i. let at = each-of (link_breaches model b block) block.links link last.1 i in (link-ends model b block at.0 link at.1).0;
      to = λ link i. let at = each-of (link_breaches model b block) block.links link last.1 i in (link-ends model b block at.0 link at.1).1;
    }

few : (limit count : ℕ) (code : Code) (place : Place) → breach_if (nat_lt limit count) code place ≡ [] → count ≤ limit
few limit count code place e = ltb-false limit count (no-breach (nat_lt limit count) code place e)

modes-kept : (modes : List (List ℕ)) → 1 ≤ length modes → or_normal modes ≡ modes
modes-kept [] h = absurd (let f : ⊥ = omega arith in f)
modes-kept (m ∷ rest) h = refl

-- a model without breach
pub known : (model : Model) → breaches model ≡ [] → 1 ≤ length model.modes → IsKnown model
known model e some =
    let parts = both-empty (count_breaches model ++ repeated_at_top model) (indexed_breaches model) e in
    let counts = both-empty (count_breaches model) (repeated_at_top model) parts.0 in
    let blocks = both-empty _ _ counts.0 in
    let two = both-empty _ _ blocks.0 in
    let indexed = both-empty _ _ parts.1 in
    record {
      signals = few 64 (length model.signals) _ _ two.0;
      modes = few 32 (length model.modes) _ _ two.1;
      blocks = few 1024 (length model.blocks) _ _ blocks.1;
      block = λ b lt. block-known model b (block_at model.blocks b) (modes-kept model.modes some) (let z : 0 + b ≡ b = omega arith in subst (λ n. block_breaches model n (block_at model.blocks b) ≡ []) z (each-at (block_breaches model) 0 model.blocks indexed.0 b no_block lt));
      top = any-place (bytes_eq model.top) (block_names model) (not-false (has (block_names model) model.top) (no-breach (not (has (block_names model) model.top)) _ _ indexed.1));
    }
