-- From the walk and the copies to the flat model: the items of all instances, in their order.
use Rattle.std.proofs.Common.{◌≡◌, ℕ, zero, suc, ◌+◌, ◌<◌, ◌≤◌, ◌^◌, List, [], length, get_or, refl, sym, ap, ◌∙◌, arith, subst, inl, inr, Bool, true, false}
use Rattle.std.specs.Prelude.{map, slice_get, slice_index_or, Option, Some, None, ◌⊎◌, nat_eq, nat_lt, ◌&&◌}
use Rattle.std.specs.List.{AllZip, Contains, flat_map, list_any}
use Rattle.std.proofs.lemmas.Bool.{and_parts, ltb-true}
use Rattle.std.proofs.lemmas.List.{length-map}
use Rattle.sig_types.specs.declared.model.Model.{Model}
use Rattle.sig_types.specs.declared.model.Block.{Block}
use Rattle.sig_types.specs.declared.refusals.Counted.{Counted}
use Rattle.sig_types.specs.Sets.{has_bit}
use Rattle.sig_flat.specs.declared.flat.Node.{Node}
use Rattle.sig_flat.specs.declared.flat.FlatLink.{FlatLink}
use Rattle.sig_flat.specs.declared.flat.Fault.{Fault}
use Rattle.sig_flat.specs.declared.flat.FlatTest.{FlatTest}
use Rattle.sig_flat.specs.declared.pattern.Pattern.{Pattern}
use Rattle.sig_flat.specs.declared.links.LinkPattern.{LinkPattern}
use Rattle.sig_flat.specs.declared.inner.Inner.{Inner}
use Rattle.sig_flat.specs.declared.walk.Placed.{Placed}
use Rattle.sig_flat.specs.Instances.{Path, Instance, no_block, instances, instances_at, own_nodes, own_links, own_faults, own_tests, nodes, links, faults, tests}
use Rattle.sig_flat.specs.Counts.{limited, first_over, has_no_state, refusal_after, flat_refusal}
use Rattle.sig_flat.specs.Sizes.{size, in_word}
use Rattle.sig_flat.specs.Resolved.{block_at}
use Rattle.sig_flat.specs.Places.{own_names}
use Rattle.sig_flat.specs.Flats.{IsPlace, IsModeOf, IsNodeOf, IsLinkOf, IsFaultOf, IsTestOf, IsSetOf, alive_modes}
use Rattle.sig_flat.specs.FlatLists.{AreValid}
use Rattle.sig_flat.specs.Words.{place_among}
use Rattle.sig_flat.specs.Known.{use_names, IsKnown, AreNames}
use Rattle.sig_flat.specs.Patterns.{pattern_of}
use Rattle.sig_flat.specs.Layouts.{inners_from, link_pattern}
use Rattle.sig_flat.specs.Placed.{placed_at, StartsFit, node_copy, link_copy, fault_copy, test_copy, node_copies, link_copies, fault_copies, test_copies, no_pattern, WeightsFit, CostsFit, NodesLabelled, FaultsLabelled, TestsLabelled}
use Rattle.sig_flat.specs.Surveys.{numbers_of, top_of, own_of, patterns_of_model, IsPlacing}
use Rattle.sig_flat.proofs.PlaceLaws.{path_of}
use Rattle.sig_flat.proofs.EndLaws.{get-below, zip-length}
use Rattle.sig_flat.proofs.WalkLaws.{placed-at-levels}
use Rattle.sig_flat.proofs.PlacedLaws.{IsPlaced, placed-instances}
use Rattle.sig_flat.proofs.ZipLaws.{zip-flat_map, zip-partner, contains-map}
use Rattle.sig_flat.proofs.KnownLaws.{at-map, resolved, earlier}
use Rattle.sig_flat.proofs.CountLaws.{top-there, top-instances, all-nodes, IsWithin, within}
use Rattle.sig_flat.proofs.FlatLaws.{NodesAt, nodes-copied, faults-copied, tests-copied}
use Rattle.sig_flat.proofs.LinkLaws.{nest-earlier, links-copied}

-- a model that is not refused is within its limits and has a state
none-over : (o : Option Counted) (b : Bool) → refusal_after o b ≡ None → (o ≡ None) × (b ≡ false)
none-over None false e = (refl, refl)
none-over None true e = absurd (let f : ⊥ = cc in f)
none-over (Some c) b e = absurd (let f : ⊥ = cc in f)

pub is-within : (model : Model) → flat_refusal model ≡ None → IsWithin model
is-within model e = within model ((none-over (first_over (limited model)) (has_no_state model) e).0)

pub has-state : (model : Model) → flat_refusal model ≡ None → (1 ≤ model.good) ⊎ (1 ≤ length (faults model))
has-state model e = some model.good (length (faults model)) ((none-over (first_over (limited model)) (has_no_state model) e).1)
  where
    some : (g n : ℕ) → (nat_eq g 0 && nat_eq n 0) ≡ false → (1 ≤ g) ⊎ (1 ≤ n)
    some zero zero h = absurd (let f : ⊥ = cc in f)
    some zero (suc n) h = inr (omega arith)
    some (suc g) n h = inl (omega arith)

module _ (model : Model) (known : IsKnown model) (accepted : flat_refusal model ≡ None) (sizes : List ℕ) (sized : (k : ℕ) → k < length model.blocks → get_or sizes k 0 ≡ in_word (size (own_of model) (numbers_of model) k)) (inners : List (List Inner)) (long : length inners ≡ length model.blocks) (nested : (k : ℕ) → k < length model.blocks → get_or inners k [] ≡ inners_from sizes (length (own_names (block_at model.blocks k))) (block_at model.blocks k).uses (get_or (numbers_of model) k [])) where
  abbrev whole : List Path
  whole = map path_of (nodes model)

  abbrev Is : Instance → Placed → Type 0
  Is = IsPlaced model.blocks (numbers_of model) (own_of model) whole

  -- the instances that the walk writes down are those of the model
  pub all-placed : AllZip (IsPlaced model.blocks (numbers_of model) (own_of model) (map path_of (nodes model))) (instances model) (placed_at inners [] (top_of model) 0)
  all-placed =
      let few = (is-within model accepted).nodes in
      let count = all-nodes model known in
      let there = top-there model known in
      let nest = nest-earlier model known sizes sized inners long nested in
      let offset : (k : ℕ) → k < length model.blocks → get_or inners k [] ≡ inners_from sizes (get_or (own_of model) k 0) (block_at model.blocks k).uses (get_or (numbers_of model) k []) =
      λ k lt. nested k lt ∙ ap (λ n. inners_from sizes n (block_at model.blocks k).uses (get_or (numbers_of model) k [])) (sym (at-map (λ (b : Block). length (own_names b)) model.blocks k no_block 0 lt)) in
      subst (λ is. AllZip Is is (placed_at inners [] (top_of model) 0)) (sym (top-instances model known))
      (subst (AllZip Is (instances_at (length model.blocks) model.blocks [] (block_at model.blocks (top_of model)))) (placed-at-levels inners nest (length model.blocks) [] (top_of model) 0 there)
      (placed-instances model.blocks (own_of model) (numbers_of model) (resolved model known (λ b. length (own_names b))) (earlier model known) sizes sized inners offset whole (length model.blocks) [] (top_of model) 0 there there (omega arith)
      (record { at = λ place x e. let z : 0 + place ≡ place = omega arith in ap (slice_get whole) z ∙ ap (λ is. slice_get (map path_of (flat_map own_nodes is)) place) (top-instances model known) ∙ e })))

  partner : (p : Placed) → Contains (placed_at inners [] (top_of model) 0) p → (i : Instance) × Is i p
  partner p c = zip-partner Is (instances model) (placed_at inners [] (top_of model) 0) p all-placed c

  pub starts-fit : StartsFit (placed_at inners [] (top_of model) 0)
  starts-fit = λ p c. let start = (partner p c).1.start in omega arith

  pattern-at : (p : Placed) → p.block < length model.blocks → slice_index_or (patterns_of_model model) p.block no_pattern ≡ pattern_of model.signals model.modes (block_at model.blocks p.block)
  pattern-at p lt = at-map (pattern_of model.signals model.modes) model.blocks p.block no_block no_pattern lt

  nodes-at : (i : Instance) (p : Placed) → Is i p → NodesAt model i.path (block_at model.blocks p.block) p.start
  nodes-at i p ip = λ at name e. ip.ends (record { first = name; second = None }) at e

  nodes-of : (i : Instance) (p : Placed) → Is i p → AllZip (IsNodeOf model) (own_nodes i) (node_copies (patterns_of_model model) p)
  nodes-of i p ip =
      subst (λ (b : Block). AllZip (IsNodeOf model) (own_nodes (record { path = i.path; block = b })) (node_copies (patterns_of_model model) p)) (sym ip.block)
      (subst (λ (q : Pattern). AllZip (IsNodeOf model) (own_nodes (record { path = i.path; block = block_at model.blocks p.block })) (map (node_copy p) q.nodes)) (sym (pattern-at p ip.there))
      (nodes-copied model i.path (block_at model.blocks p.block) p ip.prefix))

  faults-of : (i : Instance) (p : Placed) → Is i p → AllZip (IsFaultOf model) (own_faults i) (fault_copies (patterns_of_model model) p)
  faults-of i p ip =
      subst (λ (b : Block). AllZip (IsFaultOf model) (own_faults (record { path = i.path; block = b })) (fault_copies (patterns_of_model model) p)) (sym ip.block)
      (subst (λ (q : Pattern). AllZip (IsFaultOf model) (own_faults (record { path = i.path; block = block_at model.blocks p.block })) (map (fault_copy p) q.faults)) (sym (pattern-at p ip.there))
      (faults-copied model i.path (block_at model.blocks p.block) p ip.prefix (nodes-at i p ip)))

  tests-of : (i : Instance) (p : Placed) → Is i p → AllZip (IsTestOf model) (own_tests i) (test_copies (patterns_of_model model) p)
  tests-of i p ip =
      subst (λ (b : Block). AllZip (IsTestOf model) (own_tests (record { path = i.path; block = b })) (test_copies (patterns_of_model model) p)) (sym ip.block)
      (subst (λ (q : Pattern). AllZip (IsTestOf model) (own_tests (record { path = i.path; block = block_at model.blocks p.block })) (map (test_copy p) q.tests)) (sym (pattern-at p ip.there))
      (tests-copied model i.path (block_at model.blocks p.block) p ip.prefix (nodes-at i p ip) (known.block p.block ip.there).tests))

  place-fits : (path : Path) (n : ℕ) → IsPlace model path n → n < 2 ^ 32
  place-fits path n e = let below = get-below whole n path e in let len = length-map (nodes model) path_of in let few = (is-within model accepted).nodes in omega arith

  pub is-placing : (joined : List (List LinkPattern)) → length joined ≡ length model.blocks
      → ((k : ℕ) → k < length model.blocks → slice_index_or joined k [] ≡ map (link_pattern model.modes (own_names (block_at model.blocks k)) (use_names (block_at model.blocks k)) (get_or inners k []) (map own_names model.blocks)) (block_at model.blocks k).links)
      → IsPlacing model (placed_at inners [] (top_of model) 0) joined
  is-placing joined same each = record {
    long = same;
    there = λ p c. (partner p c).1.there;
    links_fit = λ p c link l.
        let ip = partner p c in
        let z = zip-partner (IsLinkOf model) (own_links ip.0) (link_copies joined p) (link_copy p link) (links-of ip.0 p ip.1) (contains-map (link_copy p) (slice_index_or joined p.block []) link l) in
        (place-fits z.0.from (p.start + link.from) z.1.from, place-fits z.0.to (p.start + link.to) z.1.to);
    faults_fit = λ p c fault f.
        let ip = partner p c in
        let z = zip-partner (IsFaultOf model) (own_faults ip.0) (fault_copies (patterns_of_model model) p) (fault_copy p fault) (faults-of ip.0 p ip.1) (contains-map (fault_copy p) (slice_index_or (patterns_of_model model) p.block no_pattern).faults fault f) in
        place-fits z.0.part (p.start + fault.at) z.1.node;
    tests_fit = λ p c test t.
        let ip = partner p c in
        let z = zip-partner (IsTestOf model) (own_tests ip.0) (test_copies (patterns_of_model model) p) (test_copy p test) (tests-of ip.0 p ip.1) (contains-map (test_copy p) (slice_index_or (patterns_of_model model) p.block no_pattern).tests test t) in
        place-fits z.0.point (p.start + test.at) z.1.node;
    nodes = zip-flat_map Is (IsNodeOf model) own_nodes (node_copies (patterns_of_model model)) (instances model) (placed_at inners [] (top_of model) 0) all-placed nodes-of;
    links = zip-flat_map Is (IsLinkOf model) own_links (link_copies joined) (instances model) (placed_at inners [] (top_of model) 0) all-placed links-of;
    faults = zip-flat_map Is (IsFaultOf model) own_faults (fault_copies (patterns_of_model model)) (instances model) (placed_at inners [] (top_of model) 0) all-placed faults-of;
    tests = zip-flat_map Is (IsTestOf model) own_tests (test_copies (patterns_of_model model)) (instances model) (placed_at inners [] (top_of model) 0) all-placed tests-of;
  }
    where
      links-of : (i : Instance) (p : Placed) → Is i p → AllZip (IsLinkOf model) (own_links i) (link_copies joined p)
      links-of i p ip =
          subst (λ (l : List LinkPattern). AllZip (IsLinkOf model) (own_links i) (map (link_copy p) l)) (sym (each p.block ip.there))
          (links-copied model known sizes sized inners long nested i p ip (is-within model accepted).nodes)

-- the lists of a flat model of the definition are valid
pub are-valid : (model : Model) → IsKnown model → 1 ≤ length model.modes → flat_refusal model ≡ None
    → (good : ℕ) (modes : List (List ℕ)) (ns : List Node) (ls : List FlatLink) (fs : List Fault) (ts : List FlatTest)
    → good ≡ model.good → modes ≡ model.modes → AllZip (IsNodeOf model) (nodes model) ns → AllZip (IsLinkOf model) (links model) ls → AllZip (IsFaultOf model) (faults model) fs → AllZip (IsTestOf model) (tests model) ts
    → model.good ≤ 1000000 → WeightsFit fs → CostsFit ts → AreNames modes → NodesLabelled ns → FaultsLabelled fs → TestsLabelled ts → AreValid good modes ns ls fs ts
are-valid model known some accepted good modes ns ls fs ts same_good same_modes are_nodes are_links are_faults are_tests good_fits weights costs names node_labels fault_labels test_labels =
    let w = is-within model accepted in
    let m = ap length same_modes in
    let n = zip-length (IsNodeOf model) (nodes model) ns are_nodes in
    let l = zip-length (IsLinkOf model) (links model) ls are_links in
    let f = zip-length (IsFaultOf model) (faults model) fs are_faults in
    let t = zip-length (IsTestOf model) (tests model) ts are_tests in
    let few = known.modes in
    let wn = w.nodes in
    let wl = w.links in
    let wf = w.faults in
    let wt = w.tests in
    record {
      modes = (omega arith, omega arith);
      nodes = omega arith;
      links = omega arith;
      faults = omega arith;
      tests = omega arith;
      good = omega arith;
      link_ends = λ link i.
          let z = zip-partner (IsLinkOf model) (links model) ls link are_links i in
          (in-nodes z.0.from link.from n z.1.from, in-nodes z.0.to link.to n z.1.to);
      link_modes = λ link i mode on.
          let z = zip-partner (IsLinkOf model) (links model) ls link are_links i in
          let below = set-below model.modes (alive_modes model.modes z.0.modes) link.modes.0 z.1.modes mode on in
          omega arith;
      fault_parts = λ fault i.
          let z = zip-partner (IsFaultOf model) (faults model) fs fault are_faults i in
          (in-nodes z.0.part fault.node n z.1.node, (weights fault i).0, (weights fault i).1);
      test_points = λ test i.
          let z = zip-partner (IsTestOf model) (tests model) ts test are_tests i in
          (in-nodes z.0.point test.node n z.1.node, in-modes z.0.mode test.mode z.1.mode, (costs test i).0, (costs test i).1);
      state = kept (has-state model accepted) same_good f;
      mode_names = names;
      node_labels = node_labels;
      fault_labels = fault_labels;
      test_labels = test_labels;
    }
  where
    in-nodes : (path : Path) (k : ℕ) → length (nodes model) ≡ length ns → IsPlace model path k → k < length ns
    in-nodes path k n e = let below = get-below (map path_of (nodes model)) k path e in let len = length-map (nodes model) path_of in omega arith

    in-modes : (mode : Option (List ℕ)) (k : ℕ) → IsModeOf model mode k → k < length modes
    in-modes None k e = let same = ap length same_modes in omega arith
    in-modes (Some name) k e = let below = get-below model.modes k name e in let same = ap length same_modes in omega arith

    set-below : (all names : List (List ℕ)) (word : ℕ) → IsSetOf all names word → (k : ℕ) → has_bit word k ≡ true → k < length all
    set-below all names word is k on = ltb-true k (length all) (and_parts (nat_lt k (length all)) (list_any (λ name. nat_eq (place_among all name) k) names) (sym (is k) ∙ on)).0

    kept : (1 ≤ model.good) ⊎ (1 ≤ length (faults model)) → good ≡ model.good → length (faults model) ≡ length fs → 1 ≤ good + length fs
    kept h g f = elim h [ inl a ↦ omega arith | inr b ↦ omega arith ]
