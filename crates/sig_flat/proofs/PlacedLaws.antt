-- The instances that the walk writes down are those of the model, in its order, each with the number of its first
-- node: a block's own nodes come first, and then those of its uses, one instance after another.
use Rattle.std.proofs.Common.{◌≡◌, ℕ, zero, suc, ◌+◌, ◌<◌, ◌≤◌, List, [], ◌∷◌, ◌++◌, length, get_or, refl, sym, ap, ◌∙◌, arith, subst}
use Rattle.std.specs.Prelude.{map, slice_get, slice_index_or, Some}
use Rattle.std.specs.List.{flat_map, AllZip, Contains}
use Rattle.std.proofs.lemmas.List.{append_assoc, map-append, length-map}
use Rattle.std.proofs.lemmas.Grind.{flat_map-append}
use Rattle.sig_types.specs.declared.model.Block.{Block}
use Rattle.sig_types.specs.declared.model.Used.{Used}
use Rattle.sig_types.specs.declared.model.End.{End}
use Rattle.sig_flat.specs.declared.inner.Inner.{Inner}
use Rattle.sig_flat.specs.declared.walk.Placed.{Placed}
use Rattle.sig_flat.specs.Instances.{Path, Instance, own_nodes, end_path, instances_at, block_named}
use Rattle.sig_flat.specs.Sizes.{sum_over, size, in_word, UseEarlier}
use Rattle.sig_flat.specs.Resolved.{block_at, IsNumberOf, AreResolved}
use Rattle.sig_flat.specs.Places.{own_names, IsEndPlace}
use Rattle.sig_flat.specs.Flats.{path_text}
use Rattle.sig_flat.specs.Layouts.{inners_from}
use Rattle.sig_flat.specs.Placed.{placed_down, inner_prefix}
use Rattle.sig_flat.proofs.PlaceLaws.{path_of, nodes_below, own_length, get-left, get-right}
use Rattle.sig_flat.proofs.SizeLaws.{size_down-same, size-uses}
use Rattle.sig_flat.proofs.InstanceLaws.{length-instances}
use Rattle.sig_flat.proofs.EndLaws.{end-at}
use Rattle.sig_flat.proofs.ZipLaws.{zip-append}

-- the names of a path, with a `/` after each
abbrev pub prefix_text : Path → List ℕ
prefix_text [] = []
prefix_text (name ∷ rest) = name ++ 47 ∷ prefix_text rest

pub prefix-more : (path : Path) (name : List ℕ) → prefix_text (path ++ name ∷ []) ≡ inner_prefix (prefix_text path) name
prefix-more [] name = refl
prefix-more (n ∷ path) name = ap (λ l. n ++ 47 ∷ l) (prefix-more path name) ∙ sym (ap (λ l. l ++ 47 ∷ []) (append_assoc n (47 ∷ prefix_text path) name) ∙ append_assoc n ((47 ∷ prefix_text path) ++ name) (47 ∷ []))

pub path-last : (path : Path) (name : List ℕ) → path_text (path ++ name ∷ []) ≡ prefix_text path ++ name
path-last [] name = refl
path-last (n ∷ []) name = sym (append_assoc n (47 ∷ []) name)
path-last (n ∷ m ∷ path) name = ap (λ l. n ++ 47 ∷ l) (path-last (m ∷ path) name) ∙ sym (append_assoc n (47 ∷ prefix_text (m ∷ path)) name)

-- a list stands in another one from a place on
pub record StandsIn (whole part : List Path) (start : ℕ) : Type 0 where
  pub at : (place : ℕ) (x : Path) → slice_get part place ≡ Some x → slice_get whole (start + place) ≡ Some x

stands-left : (whole xs ys : List Path) (start : ℕ) → StandsIn whole (xs ++ ys) start → StandsIn whole xs start
stands-left whole xs ys start h = record { at = λ place x e. h.at place x (get-left xs ys place x e) }

stands-right : (whole xs ys : List Path) (start : ℕ) → StandsIn whole (xs ++ ys) start → StandsIn whole ys (start + length xs)
stands-right whole xs ys start h = record {
  at = λ place x e.
      let n : (start + length xs) + place ≡ start + (length xs + place) = omega arith in
      ap (slice_get whole) n ∙ h.at (length xs + place) x (get-right xs ys place ∙ e);
}

-- an instance as it was written down: an end's place, from its first node on, is that of the end's node
pub record IsPlaced (blocks : List Block) (numbers : List (List ℕ)) (own : List ℕ) (whole : List Path) (i : Instance) (p : Placed) : Type 0 where
  pub prefix : p.prefix ≡ prefix_text i.path
  pub there : p.block < length blocks
  pub start : p.start ≤ 4096
  pub block : i.block ≡ block_at blocks p.block
  pub ends : (e : End) (place : ℕ) → IsEndPlace blocks numbers (size own numbers) p.block e place → slice_get whole (p.start + place) ≡ Some (end_path i.path e)

module _ (blocks : List Block) (own : List ℕ) (numbers : List (List ℕ)) (r : AreResolved blocks (λ b. length (own_names b)) own numbers) (earlier : UseEarlier numbers) (sizes : List ℕ) (sized : (k : ℕ) → k < length blocks → get_or sizes k 0 ≡ in_word (size own numbers k)) (inners : List (List Inner)) (nested : (k : ℕ) → k < length blocks → slice_index_or inners k [] ≡ inners_from sizes (get_or own k 0) (block_at blocks k).uses (slice_index_or numbers k [])) (whole : List Path) where
  abbrev below : ℕ → Path → Used → List Instance
  below levels path u = instances_at levels blocks (path ++ u.name ∷ []) (block_named blocks u.block)

  abbrev copies : ℕ → Path → ℕ → Inner → List Placed
  copies levels path start inner = placed_down inners levels (inner_prefix (prefix_text path) inner.name) inner.block (start + inner.offset)

  -- what is shown of fewer levels
  abbrev Shown : ℕ → Type 0
  Shown levels = (path : Path) (k start : ℕ) → k < length blocks → k < levels → start + size own numbers k ≤ 4096 → StandsIn whole (map path_of (nodes_below blocks own numbers r levels path k)) start → AllZip (IsPlaced blocks numbers own whole) (instances_at levels blocks path (block_at blocks k)) (placed_down inners levels (prefix_text path) k start)

  length-below : (levels : ℕ) (path : Path) (u : Used) (j : ℕ) → IsNumberOf blocks u j → j < levels → length (map path_of (flat_map own_nodes (below levels path u))) ≡ size own numbers j
  unfolding size
  length-below levels path u j n lt =
      length-map (flat_map own_nodes (below levels path u)) path_of
      ∙ ap (λ (b : Block). length (flat_map own_nodes (instances_at levels blocks (path ++ u.name ∷ []) b))) n.block
      ∙ length-instances own_nodes (λ b. length (own_names b)) own_length blocks own numbers r levels (path ++ u.name ∷ []) j n.there
      ∙ size_down-same own numbers earlier levels (suc j) j lt (omega arith)

  placed-uses : (levels : ℕ) → Shown levels → (path : Path) (start t : ℕ) (us : List Used) (js : List ℕ) → AllZip (IsNumberOf blocks) us js → ((j : ℕ) → Contains js j → j < levels) → start + (t + sum_over (size own numbers) js) ≤ 4096
      → StandsIn whole (map path_of (flat_map own_nodes (flat_map (below levels path) us))) (start + t)
      → AllZip (IsPlaced blocks numbers own whole) (flat_map (below levels path) us) (flat_map (copies levels path start) (inners_from sizes t us js))
  placed-uses levels ih path start t [] js z few le h = tt
  placed-uses levels ih path start t (u ∷ us) [] z few le h = absurd z
  placed-uses levels ih path start t (u ∷ us) (j ∷ js) z few le h =
      let here = map path_of (flat_map own_nodes (below levels path u)) in
      let rest = map path_of (flat_map own_nodes (flat_map (below levels path) us)) in
      let both : map path_of (flat_map own_nodes (below levels path u ++ flat_map (below levels path) us)) ≡ here ++ rest =
      ap (map path_of) (flat_map-append own_nodes (below levels path u) (flat_map (below levels path) us)) ∙ map-append path_of (flat_map own_nodes (below levels path u)) (flat_map own_nodes (flat_map (below levels path) us)) in
      let h' : StandsIn whole (here ++ rest) (start + t) = subst (λ l. StandsIn whole l (start + t)) both h in
      let lt = few j (0, omega arith, refl) in
      let long = length-below levels path u j z.0 lt in
      let left : StandsIn whole here (start + t) = stands-left whole here rest (start + t) h' in
      let right : StandsIn whole rest ((start + t) + length here) = stands-right whole here rest (start + t) h' in
      let sum : (start + t) + length here ≡ start + (t + size own numbers j) = omega arith in
      let word : in_word (t + get_or sizes j 0) ≡ t + size own numbers j = let s = sized j z.0.there in omega arith in
      zip-append (IsPlaced blocks numbers own whole) (below levels path u) (flat_map (below levels path) us) (copies levels path start (record { name = u.name; block = j; offset = t })) (flat_map (copies levels path start) (inners_from sizes (in_word (t + get_or sizes j 0)) us js))
      (one levels ih path start t u j z.0 lt (omega arith) left)
      (subst (λ n. AllZip (IsPlaced blocks numbers own whole) (flat_map (below levels path) us) (flat_map (copies levels path start) (inners_from sizes n us js))) (sym word)
      (placed-uses levels ih path start (t + size own numbers j) us js z.1 (λ k i. few k (later k i)) (omega arith) (subst (StandsIn whole rest) sum right)))
    where
      later : (k : ℕ) → Contains js k → Contains (j ∷ js) k
      later k (at, lt, e) = (suc at, omega arith, e)

      one : (levels : ℕ) → Shown levels → (path : Path) (start t : ℕ) (u : Used) (j : ℕ) → IsNumberOf blocks u j → j < levels → (start + t) + size own numbers j ≤ 4096 → StandsIn whole (map path_of (flat_map own_nodes (below levels path u))) (start + t) → AllZip (IsPlaced blocks numbers own whole) (below levels path u) (copies levels path start (record { name = u.name; block = j; offset = t }))
      one levels ih path start t u j n lt le h =
          subst (λ (b : Block). AllZip (IsPlaced blocks numbers own whole) (instances_at levels blocks (path ++ u.name ∷ []) b) (copies levels path start (record { name = u.name; block = j; offset = t }))) (sym n.block)
          (subst (λ l. AllZip (IsPlaced blocks numbers own whole) (instances_at levels blocks (path ++ u.name ∷ []) (block_at blocks j)) (placed_down inners levels l j (start + t))) (prefix-more path u.name)
          (ih (path ++ u.name ∷ []) j (start + t) n.there lt le
          (subst (λ (b : Block). StandsIn whole (map path_of (flat_map own_nodes (instances_at levels blocks (path ++ u.name ∷ []) b))) (start + t)) n.block h)))

  ends-placed : (levels : ℕ) (path : Path) (k start : ℕ) → k < length blocks → k < levels → StandsIn whole (map path_of (nodes_below blocks own numbers r levels path k)) start → (e : End) (place : ℕ) → IsEndPlace blocks numbers (size own numbers) k e place → slice_get whole (start + place) ≡ Some (end_path path e)
  ends-placed levels path k start lt lv h e place p = h.at place (end_path path e) (end-at blocks own numbers r earlier levels path k lt lv e place p)

  pub placed-instances : (levels : ℕ) → Shown levels
  placed-instances zero path k start lt lv le h = absurd (let f : ⊥ = omega arith in f)
  placed-instances (suc levels) path k start lt lv le h =
      let i : Instance = record { path = path; block = block_at blocks k } in
      let uses = size-uses own numbers earlier k in
      let long = own_length i in
      let here = map path_of (own_nodes i) in
      let rest = map path_of (flat_map own_nodes (flat_map (below levels path) (block_at blocks k).uses)) in
      let both : map path_of (own_nodes i ++ flat_map own_nodes (flat_map (below levels path) (block_at blocks k).uses)) ≡ here ++ rest = map-append path_of (own_nodes i) (flat_map own_nodes (flat_map (below levels path) (block_at blocks k).uses)) in
      let right = stands-right whole here rest start (subst (λ l. StandsIn whole l start) both h) in
      let ownk = r.own k lt in
      let len : start + length here ≡ start + get_or own k 0 = let m = length-map (own_nodes i) path_of in omega arith in (
        record { prefix = refl; there = lt; start = omega arith; block = refl; ends = ends-placed (suc levels) path k start lt lv h },
        subst (λ l. AllZip (IsPlaced blocks numbers own whole) (flat_map (below levels path) (block_at blocks k).uses) (flat_map (copies levels path start) l)) (sym (nested k lt))
            (placed-uses levels (placed-instances levels) path start (get_or own k 0) (block_at blocks k).uses (slice_index_or numbers k []) (r.uses k lt)
            (λ j i. let b = earlier k j i in omega arith) (omega arith) (subst (StandsIn whole rest) len right)),
      )
