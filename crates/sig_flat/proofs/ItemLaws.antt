-- Where a name stands among the items of a block decides where it stands among the block's nodes, and where among its
-- uses: no two items share a name, so it stands in one of the three parts of the items and in neither of the others.
use Rattle.std.proofs.Common.{◌≡◌, ℕ, ◌+◌, ◌<◌, ◌≤◌, List, [], ◌++◌, length, get_or, map, inl, inr, ap, ◌∙◌, arith, length-append}
use Rattle.std.specs.List.{Contains}
use Rattle.std.specs.Str.{bytes_eq}
use Rattle.std.proofs.lemmas.Bool.{cases_lt}
use Rattle.std.proofs.lemmas.List.{length-map}
use Rattle.std.proofs.lemmas.List.Elements.{Contains-append_right}
use Rattle.sig_types.specs.declared.model.Model.{Model}
use Rattle.sig_types.specs.declared.model.Block.{Block}
use Rattle.sig_types.specs.declared.model.Part.{Part}
use Rattle.sig_types.specs.declared.model.Used.{Used}
use Rattle.sig_types.specs.declared.model.Point.{Point}
use Rattle.sig_types.specs.Breaches.{breaches}
use Rattle.sig_types.specs.Symbols.{item_names, items_by_block}
use Rattle.sig_flat.specs.Instances.{no_block}
use Rattle.sig_flat.specs.Known.{use_names}
use Rattle.sig_flat.specs.Places.{own_names}
use Rattle.sig_flat.specs.Resolved.{block_at}
use Rattle.sig_flat.specs.Words.{place_among}
use Rattle.sig_flat.proofs.ApartLaws.{AreApart, apart-between, apart-left, contains-at}
use Rattle.sig_flat.proofs.KnownLaws.{at-map}
use Rattle.sig_flat.proofs.NameLaws.{place-found, place-left, place-right}
use Rattle.sig_flat.proofs.NamesApart.{items-apart-at}
use Rattle.sig_flat.proofs.PlacesLaws.{place-le-length}

-- a name has at most one place in two lists without repetition
other-part : (xs ys : List (List ℕ)) (name : List ℕ) → ((z : List ℕ) → Contains xs z → Contains ys z → ⊥) → place_among xs name < length xs → length ys ≤ place_among ys name
other-part xs ys name never lt = elim (cases_lt (place_among ys name) (length ys)) [
  | inl both ↦ absurd (never name (contains-at xs (place_among xs name) name (place-found xs name lt)) (contains-at ys (place_among ys name) name (place-found ys name both)))
  | inr le ↦ omega arith
]

-- the places among all, among the first and the last, and among those between, where each part is so long
pub record AreSides (first middle last all ends between : ℕ) : Type 0 where
  pub in_first : all < first → (ends ≡ all) × (between ≡ middle)
  pub in_middle : first ≤ all → all < first + middle → (ends ≡ first + last) × (first + between ≡ all)
  pub in_last : first + middle ≤ all → (middle + ends ≡ all) × (between ≡ middle)

sides : (xs ys zs : List (List ℕ)) (name : List ℕ) → AreApart ((xs ++ ys) ++ zs)
    → AreSides (length xs) (length ys) (length zs) (place_among ((xs ++ ys) ++ zs) name) (place_among (xs ++ zs) name) (place_among ys name)
sides xs ys zs name apart =
    let both = length-append xs ys in
    let least = place-le-length (bytes_eq name) ys in
    let last = place-le-length (bytes_eq name) zs in
    elim (cases_lt (place_among xs name) (length xs)) [
      | inl lt ↦
          (let two = place-left xs ys name lt in
          let all = place-left (xs ++ ys) zs name (omega arith) in
          let ends = place-left xs zs name lt in
          let none = other-part xs ys name (apart-between xs ys (apart-left (xs ++ ys) zs apart)) lt in
          record { in_first = λ l. (omega arith, omega arith); in_middle = λ l m. absurd (omega arith); in_last = λ l. absurd (omega arith) })
      | inr ge ↦
          (let two = place-right xs ys name (omega arith) in
          let ends = place-right xs zs name (omega arith) in
          elim (cases_lt (place_among ys name) (length ys)) [
            | inl lt ↦
                (let all = place-left (xs ++ ys) zs name (omega arith) in
                let none = other-part ys zs name (λ z l r. apart-between (xs ++ ys) zs apart z (Contains-append_right xs ys z l) r) lt in
                record { in_first = λ l. absurd (omega arith); in_middle = λ l m. (omega arith, omega arith); in_last = λ l. absurd (omega arith) })
            | inr le ↦
                (let all = place-right (xs ++ ys) zs name (omega arith) in
                record { in_first = λ l. absurd (omega arith); in_middle = λ l m. absurd (omega arith); in_last = λ l. (omega arith, omega arith) })
          ])
    ]

-- the names of the items before the uses
abbrev pub front_names : Block → List (List ℕ)
front_names block = block.ports ++ block.switches ++ map (λ (p : Part). p.name) block.parts

-- the names by number are those of the block's items
pub items-are : (model : Model) (k : ℕ) → k < length model.blocks → get_or (items_by_block model) k [] ≡ item_names (block_at model.blocks k)
items-are model k lt = at-map item_names model.blocks k no_block [] lt

pub items-counted : (model : Model) (k : ℕ) → k < length model.blocks → length (get_or (items_by_block model) k []) ≡ length (front_names (block_at model.blocks k)) + length (block_at model.blocks k).uses + length (block_at model.blocks k).points
items-counted model k lt = ap length (items-are model k lt) ∙ simp (length-append, length-map)

module _ (model : Model) (sound : breaches model ≡ []) (k : ℕ) (lt : k < length model.blocks) where
  pub item-sides : (name : List ℕ) → AreSides (length (front_names (block_at model.blocks k))) (length (block_at model.blocks k).uses) (length (block_at model.blocks k).points)
      (place_among (item_names (block_at model.blocks k)) name) (place_among (own_names (block_at model.blocks k)) name) (place_among (use_names (block_at model.blocks k)) name)
  item-sides name =
      let block = block_at model.blocks k in
      rw (← length-map block.uses (λ (u : Used). u.name), ← length-map block.points (λ (p : Point). p.name))
      (sides (front_names block) (use_names block) (map (λ (p : Point). p.name) block.points) name (items-apart-at model sound k lt))
