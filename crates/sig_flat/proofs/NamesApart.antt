-- In a model without breach no name repeats in its scope: among the modes, and among the items and uses of a block.
use Rattle.std.proofs.Common.{◌≡◌, ℕ, zero, suc, ◌+◌, ◌<◌, Bool, true, false, ◌||◌, cond, List, [], ◌∷◌, ◌++◌, length, map, refl, sym, ap, ◌∙◌, subst, arith, true≢false}
use Rattle.std.specs.List.{Contains}
use Rattle.std.specs.Str.{bytes_eq}
use Rattle.std.proofs.lemmas.List.Elements.{Contains-append_left, Contains-append_right}
use Rattle.std.proofs.lemmas.Slice.Eq.{bytes_eq-Decides}
use Rattle.sig_types.specs.declared.model.Model.{Model}
use Rattle.sig_types.specs.declared.model.Block.{Block}
use Rattle.sig_types.specs.declared.model.Part.{Part}
use Rattle.sig_types.specs.declared.model.Used.{Used}
use Rattle.sig_types.specs.declared.model.Point.{Point}
use Rattle.sig_types.specs.declared.refusals.Code.TheVariants.{M07}
use Rattle.sig_types.specs.declared.refusals.Key.TheVariants.{Modes}
use Rattle.std.specs.Prelude.{Some}
use Rattle.sig_types.specs.Breaches.{Named, names_of, has, breach_if, repeats, repeats_after, scope_of, in_document, block_breaches, breaches, contents_breaches, count_breaches, indexed_breaches, repeated_at_top}
use Rattle.sig_types.specs.Symbols.{item_names}
use Rattle.sig_flat.specs.Instances.{no_block, block_named}
use Rattle.sig_flat.specs.Resolved.{block_at}
use Rattle.sig_flat.proofs.ApartLaws.{AreApart, apart-append, apart-left, apart-right, apart-between, contains-none, contains-here, contains-later}
use Rattle.sig_flat.proofs.NodePaths.{IsApart}
use Rattle.sig_flat.proofs.ValidLaws.{both-empty, no-breach, each-at, each-of, names-each, scope-names, map-id}

-- a name that a list has is found there
contains-has : (names : List (List ℕ)) (name : List ℕ) → Contains names name → has names name ≡ true
contains-has [] name h = absurd (contains-none name h)
contains-has (n ∷ names) name (zero, lt, e) = ap (λ b. b || has names name) ((bytes_eq-Decides name n).1 (sym e))
contains-has (n ∷ names) name (suc k, lt, e) = or-true (bytes_eq name n) (contains-has names name (k, omega arith, e))
  where
    or-true : (a : Bool) {b : Bool} → b ≡ true → (a || b) ≡ true
    or-true true h = refl
    or-true false h = h

-- the names of a scope are apart, and none of them was seen before
abbrev AreFresh : List (List ℕ) → List Named → Type 0
AreFresh seen scope = AreApart (names_of scope) × ((name : List ℕ) → Contains seen name → Contains (names_of scope) name → ⊥)

one-more : (seen : List (List ℕ)) (x : Named) (rest : List Named) → breach_if (has seen x.name) M07 x.place ≡ [] → AreFresh (seen ++ x.name ∷ []) rest → AreFresh seen (x ∷ rest)
one-more seen x rest new later = (((λ h. later.1 x.name (Contains-append_right seen (x.name ∷ []) x.name (contains-here x.name [])) h), later.0), met)
  where
    met : (name : List ℕ) → Contains seen name → Contains (x.name ∷ names_of rest) name → ⊥
    met name l (zero, lt, e) =
        let none : has seen x.name ≡ false = no-breach (has seen x.name) M07 x.place new in
        true≢false (sym (contains-has seen x.name (subst (Contains seen) (sym e) l)) ∙ none)
    met name l (suc k, lt, e) = later.1 name (Contains-append_left seen (x.name ∷ []) name l) (k, omega arith, e)

fresh : (seen : List (List ℕ)) (scope : List Named) → repeats_after seen scope ≡ [] → AreFresh seen scope
fresh seen [] e = (tt, λ name l r. contains-none name r)
fresh seen (x ∷ rest) e =
    let two = both-empty (breach_if (has seen x.name) M07 x.place) (repeats_after (seen ++ x.name ∷ []) rest) e in
    one-more seen x rest two.0 (fresh (seen ++ x.name ∷ []) rest two.1)

pub scope-apart : (scope : List Named) → repeats scope ≡ [] → AreApart (names_of scope)
scope-apart scope e = (fresh [] scope e).0

-- the items of a block
items-apart : (model : Model) (b : ℕ) (block : Block) → block_breaches model b block ≡ [] → AreApart (item_names block)
items-apart model b block e = subst AreApart (scope-names b block) (scope-apart (scope_of b block) ((both-empty (repeats (scope_of b block)) (contents_breaches model b block) e).0))

-- the nodes and the uses of a block
pub block-apart : (model : Model) (b : ℕ) (block : Block) → block_breaches model b block ≡ [] → IsApart block
block-apart model b block e = record {
  own = apart-append front points (apart-left front uses (apart-left (front ++ uses) points whole)) (apart-right (front ++ uses) points whole)
      (λ x l r. apart-between (front ++ uses) points whole x (Contains-append_left front uses x l) r);
  uses = apart-right front uses (apart-left (front ++ uses) points whole);
}
  where
    front : List (List ℕ)
    front = block.ports ++ block.switches ++ map (λ (p : Part). p.name) block.parts

    uses : List (List ℕ)
    uses = map (λ (u : Used). u.name) block.uses

    points : List (List ℕ)
    points = map (λ (p : Point). p.name) block.points

    whole : AreApart ((front ++ uses) ++ points)
    whole = items-apart model b block e

-- of the block of any name
named-apart : (blocks : List Block) → ((b : Block) → Contains blocks b → IsApart b) → (name : List ℕ) → IsApart (block_named blocks name)
named-apart [] h name = record { own = tt; uses = tt }
named-apart (b ∷ blocks) h name = either (bytes_eq b.name name) (h b (contains-here b blocks)) (named-apart blocks (λ c there. h c (contains-later b blocks c there)) name)
  where
    either : {c d : Block} (v : Bool) → IsApart c → IsApart d → IsApart (cond v c d)
    either true p q = p
    either false p q = q

module _ (model : Model) (sound : breaches model ≡ []) where
  parts : (count_breaches model ++ repeated_at_top model ≡ []) × (indexed_breaches model ≡ [])
  parts = both-empty (count_breaches model ++ repeated_at_top model) (indexed_breaches model) sound

  pub blocks-apart : (name : List ℕ) → IsApart (block_named model.blocks name)
  blocks-apart = named-apart model.blocks (λ b there.
      let at = each-of (block_breaches model) model.blocks b ((both-empty _ _ parts.1).0) there in
      block-apart model at.0 b at.1)

  pub items-apart-at : (k : ℕ) → k < length model.blocks → AreApart (item_names (block_at model.blocks k))
  items-apart-at k lt =
      items-apart model (0 + k) (block_at model.blocks k) (each-at (block_breaches model) 0 model.blocks ((both-empty _ _ parts.1).0) k no_block lt)

  pub modes-apart : AreApart model.modes
  modes-apart =
      let names = (both-empty _ _ ((both-empty (count_breaches model) (repeated_at_top model) parts.0).1)).0 in
      let modes = (both-empty _ _ names).1 in
      subst AreApart (names-each (λ (n : List ℕ). n) (λ k. in_document Modes (Some k)) 0 model.modes ∙ map-id model.modes) (scope-apart _ modes)
