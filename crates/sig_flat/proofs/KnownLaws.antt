-- The numbers of a model without breach: the blocks of its uses, and the places of its links' ends.
use Rattle.std.proofs.Common.{◌≡◌, ℕ, zero, suc, ◌+◌, ◌<◌, ◌≤◌, List, [], ◌∷◌, ◌++◌, length, take, get_or, refl, sym, ap, ◌∙◌, arith, subst, inl, inr, length-append}
use Rattle.std.specs.Prelude.{map, slice_get, slice_index, slice_index_or, Option, Some, None}
use Rattle.std.specs.List.{AllZip, Contains}
use Rattle.std.proofs.lemmas.List.{length-map}
use Rattle.std.proofs.lemmas.Bool.{cases_lt}
use Rattle.std.proofs.lemmas.Option.{slice_get-get_or}
use Rattle.sig_types.specs.declared.model.Model.{Model}
use Rattle.sig_types.specs.declared.model.Block.{Block}
use Rattle.sig_types.specs.declared.model.Part.{Part}
use Rattle.sig_types.specs.declared.model.Point.{Point}
use Rattle.sig_types.specs.declared.model.Used.{Used}
use Rattle.sig_types.specs.Breaches.{block_names, block_of_use}
use Rattle.sig_flat.specs.Instances.{no_block, block_named}
use Rattle.sig_flat.specs.Sizes.{sum_over, in_word, UseEarlier}
use Rattle.sig_flat.specs.Resolved.{block_at, IsNumberOf, AreResolved}
use Rattle.sig_flat.specs.Places.{own_names, IsEndPlace}
use Rattle.sig_flat.specs.Words.{place_among}
use Rattle.sig_flat.specs.Layouts.{number_of, numbers_of_block, inners_from, no_inner}
use Rattle.sig_flat.specs.Known.{use_names, EndIsKnown, IsKnown}
use Rattle.sig_flat.proofs.NameLaws.{place-found, place-left, named-at, use-named-at}
use Rattle.sig_flat.proofs.PlaceLaws.{get-map}

pub at-map : {X Y : Type 0} (f : X → Y) (xs : List X) (k : ℕ) (d : X) (e : Y) → k < length xs → get_or (map f xs) k e ≡ f (get_or xs k d)
at-map f [] k d e lt = absurd (let g : ⊥ = omega arith in g)
at-map f (x ∷ xs) zero d e lt = refl
at-map f (x ∷ xs) (suc k) d e lt = at-map f xs k d e (omega arith)

pub at-end : {X : Type 0} (xs : List X) (k : ℕ) (d : X) → length xs ≤ k → get_or xs k d ≡ d
at-end [] k d le = refl
at-end (x ∷ xs) zero d le = absurd (let g : ⊥ = omega arith in g)
at-end (x ∷ xs) (suc k) d le = at-end xs k d (omega arith)

zip-map : {X Y : Type 0} (R : X → Y → Type 0) (f : X → Y) (xs : List X) → ((x : X) → Contains xs x → R x (f x)) → AllZip R xs (map f xs)
zip-map R f [] h = tt
zip-map R f (x ∷ xs) h = (h x (0, omega arith, refl), zip-map R f xs (λ y (k, lt, e). h y (suc k, omega arith, e)))

pub from-map : {X Y : Type 0} (f : X → Y) (xs : List X) (y : Y) → Contains (map f xs) y → (x : X) × Contains xs x × (f x ≡ y)
from-map f [] y (k, lt, e) = absurd (let g : ⊥ = omega arith in g)
from-map f (x ∷ xs) y (zero, lt, e) = (x, (0, omega arith, refl), e)
from-map f (x ∷ xs) y (suc k, lt, e) =
    let h = from-map f xs y (k, omega arith, e) in
    (h.0, (suc h.1.0, (let l = h.1.1 in omega arith), h.1.2), h.2)

-- the uses of a block, one after another
pub inner-at : (sizes : List ℕ) (size_of : ℕ → ℕ) (t t' : ℕ) (us : List Used) (js : List ℕ) (nth : ℕ) (d : Used) → t' ≡ in_word t → length us ≡ length js → ((j : ℕ) → Contains js j → get_or sizes j 0 ≡ in_word (size_of j)) → nth < length us
    → get_or (inners_from sizes t' us js) nth no_inner ≡ record { name = (get_or us nth d).name; block = get_or js nth 0; offset = in_word (t + sum_over size_of (take nth js)) }
inner-at sizes size_of t t' [] js nth d e long sized lt = absurd (let f : ⊥ = omega arith in f)
inner-at sizes size_of t t' (u ∷ us) [] nth d e long sized lt = absurd (let f : ⊥ = omega arith in f)
inner-at sizes size_of t t' (u ∷ us) (j ∷ js) zero d e long sized lt = let q : t' ≡ in_word (t + 0) = omega arith in ap (λ (n : ℕ). record { name = u.name; block = j; offset = n }) q
inner-at sizes size_of t t' (u ∷ us) (j ∷ js) (suc nth) d e long sized lt =
    let here = sized j (0, omega arith, refl) in
    inner-at sizes size_of (t + size_of j) (in_word (t' + get_or sizes j 0)) us js nth d (omega arith) (omega arith) (λ i (k, lt, s). sized i (suc k, omega arith, s)) (omega arith)
    ∙ ap (λ (n : ℕ). record { name = (get_or us nth d).name; block = get_or js nth 0; offset = in_word n }) (let s : (t + size_of j) + sum_over size_of (take nth js) ≡ t + (size_of j + sum_over size_of (take nth js)) = omega arith in s)

abbrev pub no_used : Used
no_used = record { name = []; block = [] }

module _ (model : Model) (known : IsKnown model) where
  abbrev names : List (List ℕ)
  names = block_names model

  abbrev pub own : List ℕ
  own = map (λ (b : Block). length (own_names b)) model.blocks

  abbrev pub numbers : List (List ℕ)
  numbers = map (numbers_of_block names) model.blocks

  pub row-of : (k : ℕ) → k < length model.blocks → slice_index_or numbers k [] ≡ numbers_of_block names (block_at model.blocks k)
  row-of k lt = at-map (numbers_of_block names) model.blocks k no_block [] lt

  number-known : (k : ℕ) → k < length model.blocks → (u : Used) → Contains (block_at model.blocks k).uses u → IsNumberOf model.blocks u (number_of names u)
  number-known k lt u i =
      let h = (known.block k lt).uses u i in
      let long = length-map model.blocks (λ (b : Block). b.name) in
      record { there = omega (arith, h.0, long); block = named-at model.blocks u.block }

  pub resolved : (count : Block → ℕ) → AreResolved model.blocks count (map count model.blocks) numbers
  resolved count = record {
    own = λ k lt. at-map count model.blocks k no_block 0 lt;
    uses = λ k lt. subst (AllZip (IsNumberOf model.blocks) (block_at model.blocks k).uses) (sym (row-of k lt)) (zip-map (IsNumberOf model.blocks) (number_of names) (block_at model.blocks k).uses (number-known k lt));
  }

  pub earlier : UseEarlier numbers
  earlier k used i = elim (cases_lt k (length model.blocks)) [
    | inl lt ↦
        (let h = from-map (number_of names) (block_at model.blocks k).uses used (subst (λ l. Contains l used) (row-of k lt) i) in
        let b = ((known.block k lt).uses h.0 h.1).1 in
        omega (arith, b, h.2))
    | inr ge ↦ none (subst (λ l. Contains l used) (at-end numbers k [] (let long = length-map model.blocks (numbers_of_block names) in omega arith)) i)
  ]
    where
      none : Contains [] used → used < k
      none (n, lt, e) = absurd (let f : ⊥ = omega arith in f)

  -- the place of an end, as a whole number
  abbrev pub true_place : (ℕ → ℕ) → ℕ → List ℕ → Option (List ℕ) → ℕ
  true_place sizes k first None = place_among (own_names (block_at model.blocks k)) first
  true_place sizes k first (Some port) =
      length (own_names (block_at model.blocks k))
      + (sum_over sizes (take (place_among (use_names (block_at model.blocks k)) first) (slice_index_or numbers k []))
      + place_among (own_names (block_at model.blocks (slice_index (slice_index_or numbers k []) (place_among (use_names (block_at model.blocks k)) first)))) port)

  pub end-place : (sizes : ℕ → ℕ) (k : ℕ) → k < length model.blocks → (first : List ℕ) (second : Option (List ℕ)) → EndIsKnown model.blocks (block_at model.blocks k) first second → IsEndPlace model.blocks numbers sizes k (record { first = first; second = second }) (true_place sizes k first second)
  end-place sizes k lt first None h = place-found (own_names (block_at model.blocks k)) first h
  end-place sizes k lt first (Some port) h =
      let block = block_at model.blocks k in
      let nth = place_among (use_names block) first in
      let long = length-map block.uses (λ (u : Used). u.name) in
      let inside : nth < length block.uses = omega (arith, h.0, long) in
      let used : Used = get_or block.uses nth no_used in
      let is_used : slice_get block.uses nth ≡ Some used = slice_get-get_or block.uses nth no_used inside in
      let name : used.name ≡ first = same (sym (get-map (λ (u : Used). u.name) block.uses nth used is_used) ∙ place-found (use_names block) first h.0) in
      let number : slice_index (slice_index_or numbers k []) nth ≡ number_of names used = ap (λ l. slice_index l nth) (row-of k lt) ∙ at-map (number_of names) block.uses nth no_used 0 inside in
      let inner : block_named model.blocks (block_of_use block.uses first) ≡ block_at model.blocks (slice_index (slice_index_or numbers k []) nth) =
      ap (block_named model.blocks) (use-named-at block.uses first used is_used) ∙ named-at model.blocks used.block ∙ ap (block_at model.blocks) (sym number) in
      let port_in : place_among (block_at model.blocks (slice_index (slice_index_or numbers k []) nth)).ports port < length (block_at model.blocks (slice_index (slice_index_or numbers k []) nth)).ports =
      subst (λ (b : Block). place_among b.ports port < length b.ports) inner h.1 in
      let at = port-place (block_at model.blocks (slice_index (slice_index_or numbers k []) nth)) port port_in in
      record {
        nth = nth;
        used = used;
        at = place_among (own_names (block_at model.blocks (slice_index (slice_index_or numbers k []) nth))) port;
        is_used = is_used;
        name = name;
        is_port = ap (slice_get (block_at model.blocks (slice_index (slice_index_or numbers k []) nth)).ports) at ∙ place-found (block_at model.blocks (slice_index (slice_index_or numbers k []) nth)).ports port port_in;
        adds = refl;
      }
    where
      same : {a b : List ℕ} → Some a ≡ Some b → a ≡ b
      same e = cc

      port-place : (b : Block) (port : List ℕ) → place_among b.ports port < length b.ports → place_among (own_names b) port ≡ place_among b.ports port
      port-place b port lt =
          let one = place-left b.ports b.switches port lt in
          let long = length-append b.ports b.switches in
          let two = place-left (b.ports ++ b.switches) (map (λ (p : Part). p.name) b.parts) port (omega arith) in
          let long' = length-append (b.ports ++ b.switches) (map (λ (p : Part). p.name) b.parts) in
          place-left (b.ports ++ b.switches ++ map (λ (p : Part). p.name) b.parts) (map (λ (p : Point). p.name) b.points) port (omega arith) ∙ two ∙ one
