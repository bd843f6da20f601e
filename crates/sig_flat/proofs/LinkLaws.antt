-- The places of a block's link ends, and the copies of its links.
use Rattle.std.proofs.Common.{◌≡◌, ℕ, zero, suc, ◌+◌, ◌<◌, ◌≤◌, List, [], ◌∷◌, length, take, get_or, refl, sym, ap, ◌∙◌, arith, subst, inl, inr}
use Rattle.std.specs.Prelude.{map, slice_get, slice_index_or, Option, Some, None}
use Rattle.std.specs.List.{AllZip, Contains}
use Rattle.std.proofs.lemmas.List.{length-map}
use Rattle.std.proofs.lemmas.Option.{slice_get-get_or}
use Rattle.sig_types.specs.declared.model.Model.{Model}
use Rattle.sig_types.specs.declared.model.Block.{Block}
use Rattle.sig_types.specs.declared.model.Used.{Used}
use Rattle.sig_types.specs.declared.model.Link.{Link}
use Rattle.sig_types.specs.declared.model.End.{End}
use Rattle.sig_flat.specs.declared.inner.Inner.{Inner}
use Rattle.sig_flat.specs.declared.links.LinkPattern.{LinkPattern}
use Rattle.sig_flat.specs.declared.walk.Placed.{Placed}
use Rattle.sig_flat.specs.Instances.{no_block, Instance, own_links, end_path, nodes}
use Rattle.sig_flat.specs.Sizes.{sum_over, size, in_word}
use Rattle.sig_flat.specs.Resolved.{block_at, IsNumberOf}
use Rattle.std.proofs.lemmas.Bool.{cases_lt}
use Rattle.sig_flat.specs.Places.{own_names}
use Rattle.sig_flat.specs.Flats.{alive_modes, IsPlace, IsLinkOf}
use Rattle.sig_flat.specs.Words.{place_among}
use Rattle.sig_flat.specs.Known.{use_names, EndIsKnown, IsKnown}
use Rattle.sig_flat.specs.Layouts.{numbers_of_block, inners_from, no_inner, port_place, end_place, link_pattern, NamesUse}
use Rattle.sig_types.specs.Breaches.{block_names}
use Rattle.sig_flat.specs.Placed.{link_copy, NestEarlier}
use Rattle.sig_flat.specs.Surveys.{numbers_of, own_of}
use Rattle.sig_flat.proofs.WordLaws.{word-is-set}
use Rattle.sig_flat.proofs.PlaceLaws.{path_of, number_beside, map-map}
use Rattle.sig_flat.proofs.EndLaws.{get-below, zip-length}
use Rattle.sig_flat.proofs.PlacedLaws.{IsPlaced}
use Rattle.sig_flat.proofs.ZipLaws.{zip-maps}
use Rattle.sig_flat.proofs.KnownLaws.{at-map, at-end, inner-at, no_used, resolved, earlier, true_place, end-place}

inner-of : (sizes : List ℕ) (t : ℕ) (us : List Used) (js : List ℕ) (inner : Inner) → Contains (inners_from sizes t us js) inner → Contains js inner.block
inner-of sizes t [] js inner (k, lt, e) = absurd (let f : ⊥ = omega arith in f)
inner-of sizes t (u ∷ us) [] inner (k, lt, e) = absurd (let f : ⊥ = omega arith in f)
inner-of sizes t (u ∷ us) (j ∷ js) inner (zero, lt, e) = (0, omega arith, ap (λ (i : Inner). i.block) e)
inner-of sizes t (u ∷ us) (j ∷ js) inner (suc k, lt, e) =
    let h = inner-of sizes (in_word (t + get_or sizes j 0)) us js inner (k, omega arith, e) in
    (suc h.0, (let l = h.1 in omega arith), h.2)

pub inners-long : (sizes : List ℕ) (t : ℕ) (us : List Used) (js : List ℕ) → length us ≡ length js → length (inners_from sizes t us js) ≡ length us
inners-long sizes t [] js e = refl
inners-long sizes t (u ∷ us) [] e = absurd (let f : ⊥ = omega arith in f)
inners-long sizes t (u ∷ us) (j ∷ js) e = ap suc (inners-long sizes (in_word (t + get_or sizes j 0)) us js (omega arith))

module _ (model : Model) (known : IsKnown model) where
  pub uses-long : (k : ℕ) → k < length model.blocks → length (block_at model.blocks k).uses ≡ length (slice_index_or (numbers_of model) k [])
  uses-long k lt = zip-length (IsNumberOf model.blocks) (block_at model.blocks k).uses (slice_index_or (numbers_of model) k []) ((resolved model known (λ b. 0)).uses k lt)

  -- each block that is used is one of the blocks
  pub numbers-known : (k n : ℕ) → Contains (slice_index_or (numbers_of model) k []) n → n < length model.blocks
  numbers-known k n i = elim (cases_lt k (length model.blocks)) [
    | inl lt ↦ (let e = earlier model known k n i in omega arith)
    | inr ge ↦ none (subst (λ l. Contains l n) (at-end (numbers_of model) k [] (let long = length-map model.blocks (numbers_of_block (block_names model)) in omega arith)) i)
  ]
    where
      none : Contains [] n → n < length model.blocks
      none (m, lt, e) = absurd (let f : ⊥ = omega arith in f)

  -- a link's ends with ports name uses
  pub names-use : (k : ℕ) → (first : List ℕ) (second : Option (List ℕ)) → EndIsKnown model.blocks (block_at model.blocks k) first second → NamesUse (use_names (block_at model.blocks k)) first second
  names-use k first None h = tt
  names-use k first (Some port) h = h.0

  module _ (sizes : List ℕ) (sized : (k : ℕ) → k < length model.blocks → get_or sizes k 0 ≡ in_word (size (own_of model) (numbers_of model) k)) (inners : List (List Inner)) (long : length inners ≡ length model.blocks) (nested : (k : ℕ) → k < length model.blocks → get_or inners k [] ≡ inners_from sizes (length (own_names (block_at model.blocks k))) (block_at model.blocks k).uses (get_or (numbers_of model) k [])) where
    -- an instance inside is of one of the blocks
    pub inner-known : (k : ℕ) (inner : Inner) → Contains (get_or inners k []) inner → inner.block < length model.blocks
    inner-known k inner i = elim (cases_lt k (length model.blocks)) [
      | inl lt ↦
          numbers-known k inner.block (inner-of sizes (length (own_names (block_at model.blocks k))) (block_at model.blocks k).uses (get_or (numbers_of model) k []) inner (subst (λ (l : List Inner). Contains l inner) (nested k lt) i))
      | inr ge ↦ none (subst (λ (l : List Inner). Contains l inner) (at-end inners k [] (omega arith)) i)
    ]
      where
        none : Contains [] inner → inner.block < length model.blocks
        none (n, lt, e) = absurd (let f : ⊥ = omega arith in f)

    pub inside-long : (k : ℕ) → k < length model.blocks → length (get_or inners k []) ≡ length (block_at model.blocks k).uses
    inside-long k lt = ap length (nested k lt) ∙ inners-long sizes (length (own_names (block_at model.blocks k))) (block_at model.blocks k).uses (get_or (numbers_of model) k []) (uses-long k lt)

    pub nest-earlier : NestEarlier inners
    nest-earlier k inner i = elim (cases_lt k (length model.blocks)) [
      | inl lt ↦
          earlier model known k inner.block (inner-of sizes (length (own_names (block_at model.blocks k))) (block_at model.blocks k).uses (get_or (numbers_of model) k []) inner (subst (λ (l : List Inner). Contains l inner) (nested k lt) i))
      | inr ge ↦ none (subst (λ (l : List Inner). Contains l inner) (at-end inners k [] (omega arith)) i)
    ]
      where
        none : Contains [] inner → inner.block < k
        none (n, lt, e) = absurd (let f : ⊥ = omega arith in f)

    -- an end's place is as it should be, where a word holds that
    place-true : (k : ℕ) → k < length model.blocks → (first : List ℕ) (second : Option (List ℕ)) → EndIsKnown model.blocks (block_at model.blocks k) first second → true_place model known (size (own_of model) (numbers_of model)) k first second ≤ 4096
        → end_place (own_names (block_at model.blocks k)) (use_names (block_at model.blocks k)) (get_or inners k []) (map own_names model.blocks) first second ≡ true_place model known (size (own_of model) (numbers_of model)) k first second
    unfolding port_place
    place-true k lt first None h le = refl
    place-true k lt first (Some port) h le =
        let block = block_at model.blocks k in
        let nth = place_among (use_names block) first in
        let js = get_or (numbers_of model) k [] in
        let sz = size (own_of model) (numbers_of model) in
        let inside : nth < length block.uses = let l = length-map block.uses (λ (u : Used). u.name) in omega (arith, h.0, l) in
        let used : Used = get_or block.uses nth no_used in
        let beside = number_beside model.blocks block.uses js nth used ((resolved model known (λ b. 0)).uses k lt) (slice_get-get_or block.uses nth no_used inside) in
        let at : get_or (get_or inners k []) nth no_inner ≡ record { name = used.name; block = get_or js nth 0; offset = in_word (length (own_names block) + sum_over sz (take nth js)) } =
        ap (λ (l : List Inner). get_or l nth no_inner) (nested k lt)
        ∙ inner-at sizes sz (length (own_names block)) (length (own_names block)) block.uses js nth no_used (small (length (own_names block)) (sum_over sz (take nth js) + place_among (own_names (block_at model.blocks (get_or js nth 0))) port) le) (uses-long k lt) (λ j i. sized j (let e = earlier model known k j i in omega arith)) inside in
        let row : get_or (map own_names model.blocks) (get_or js nth 0) [] ≡ own_names (block_at model.blocks (get_or js nth 0)) = at-map own_names model.blocks (get_or js nth 0) no_block [] beside.there in
        ap (λ (i : Inner). in_word (i.offset + place_among (get_or (map own_names model.blocks) i.block []) port)) at
        ∙ ap (λ l. in_word (in_word (length (own_names block) + sum_over sz (take nth js)) + place_among l port)) row
        ∙ held (length (own_names block)) (sum_over sz (take nth js)) (place_among (own_names (block_at model.blocks (get_or js nth 0))) port) le
      where
        small : (a b : ℕ) → a + b ≤ 4096 → a ≡ in_word a
        small a b l = omega arith

        held : (a b c : ℕ) → a + (b + c) ≤ 4096 → in_word (in_word (a + b) + c) ≡ a + (b + c)
        held a b c l = omega arith

    abbrev pattern_in : ℕ → Link → LinkPattern
    pattern_in k l = link_pattern model.modes (own_names (block_at model.blocks k)) (use_names (block_at model.blocks k)) (get_or inners k []) (map own_names model.blocks) l

    -- the links of an instance
    pub links-copied : (i : Instance) (p : Placed) → IsPlaced model.blocks (numbers_of model) (own_of model) (map path_of (nodes model)) i p → length (nodes model) ≤ 4096
        → AllZip (IsLinkOf model) (own_links i) (map (link_copy p) (map (link_pattern model.modes (own_names (block_at model.blocks p.block)) (use_names (block_at model.blocks p.block)) (get_or inners p.block []) (map own_names model.blocks)) (block_at model.blocks p.block).links))
    links-copied i p ip few =
        subst (λ (b : Block). AllZip (IsLinkOf model) (own_links (record { path = i.path; block = b })) (map (link_copy p) (map (pattern_in p.block) (block_at model.blocks p.block).links))) (sym ip.block)
        (subst (AllZip (IsLinkOf model) (own_links (record { path = i.path; block = block_at model.blocks p.block }))) (sym (map-map (link_copy p) (pattern_in p.block) (block_at model.blocks p.block).links))
        (zip-maps (IsLinkOf model) (λ (l : Link). record { from = end_path i.path l.from; to = end_path i.path l.to; modes = l.modes }) (λ l. link_copy p (pattern_in p.block l)) (block_at model.blocks p.block).links
        (λ l there. record {
          from = placed l.from ((known.block p.block ip.there).from l there);
          to = placed l.to ((known.block p.block ip.there).to l there);
          modes = word-is-set model.modes (alive_modes model.modes l.modes);
        })))
      where
        placed : (e : End) → EndIsKnown model.blocks (block_at model.blocks p.block) e.first e.second
            → IsPlace model (end_path i.path e) (p.start + end_place (own_names (block_at model.blocks p.block)) (use_names (block_at model.blocks p.block)) (get_or inners p.block []) (map own_names model.blocks) e.first e.second)
        placed e h =
            let sz = size (own_of model) (numbers_of model) in
            let true_at = true_place model known sz p.block e.first e.second in
            let found : slice_get (map path_of (nodes model)) (p.start + true_at) ≡ Some (end_path i.path e) = ip.ends e true_at (end-place model known sz p.block ip.there e.first e.second h) in
            let below = get-below (map path_of (nodes model)) (p.start + true_at) (end_path i.path e) found in
            let len = length-map (nodes model) path_of in
            let same = place-true p.block ip.there e.first e.second h (omega arith) in
            ap (λ n. slice_get (map path_of (nodes model)) (p.start + n)) same ∙ found
