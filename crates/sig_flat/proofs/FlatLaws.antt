-- The copies of a block's items are the items of its instance.
use Rattle.std.proofs.Common.{◌≡◌, ℕ, suc, ◌+◌, List, [], ◌∷◌, ◌++◌, length, refl, sym, ap, ◌∙◌, arith, subst, length-append}
use Rattle.std.specs.Prelude.{map, slice_get, Option, Some, None}
use Rattle.std.specs.List.{AllZip, Contains, flat_map}
use Rattle.std.proofs.lemmas.List.{map-append, length-map}
use Rattle.sig_types.specs.declared.model.Model.{Model}
use Rattle.sig_types.specs.declared.model.Block.{Block}
use Rattle.sig_types.specs.declared.model.Part.{Part}
use Rattle.sig_types.specs.declared.model.Functional.{Functional}
use Rattle.sig_types.specs.declared.model.Point.{Point}
use Rattle.sig_types.specs.declared.model.Test.{Test}
use Rattle.sig_flat.specs.declared.flat.Node.{Node}
use Rattle.sig_flat.specs.declared.flat.NodeKind.{NodeKind}
use Rattle.sig_flat.specs.declared.flat.NodeKind.TheVariants.{Port, Switch, Part as PartNode, Point as PointNode}
use Rattle.sig_flat.specs.declared.walk.Placed.{Placed}
use Rattle.sig_flat.specs.Instances.{Path, plain_node, own_nodes, own_faults, own_tests, functional_fault, general_fault}
use Rattle.sig_flat.specs.Places.{own_names}
use Rattle.sig_flat.specs.Flats.{path_text, IsPlace, IsModeOf, IsNodeOf, IsFaultOf, IsTestOf}
use Rattle.sig_flat.specs.Known.{ModeIsKnown}
use Rattle.sig_flat.specs.Patterns.{plain_pattern, part_pattern, point_pattern, node_patterns, functional_patterns, general_patterns, fault_patterns_from, fault_patterns, mode_number, test_pattern, test_patterns_from, test_patterns, first_part, first_point}
use Rattle.sig_flat.specs.Placed.{node_copy, fault_copy, test_copy}
use Rattle.sig_flat.proofs.NameLaws.{place-found}
use Rattle.sig_flat.proofs.WordLaws.{word-is-set, nothing-is-set}
use Rattle.sig_flat.proofs.PlaceLaws.{get-left, get-right, map-map}
use Rattle.sig_flat.proofs.PlacedLaws.{prefix_text, path-last}
use Rattle.sig_flat.proofs.ZipLaws.{zip-append, zip-maps}

-- the number of a node of the block, in an instance of it
abbrev pub NodesAt : Model → Path → Block → ℕ → Type 0
NodesAt model path block start = (at : ℕ) (name : List ℕ) → slice_get (own_names block) at ≡ Some name → IsPlace model (path ++ name ∷ []) (start + at)

module _ (model : Model) where
  -- nodes
  abbrev ports_copied : Placed → Block → List Node
  ports_copied p block = map (λ n. node_copy p (plain_pattern Port n)) block.ports

  abbrev switches_copied : Placed → Block → List Node
  switches_copied p block = map (λ n. node_copy p (plain_pattern Switch n)) block.switches

  abbrev parts_copied : Placed → Block → List Node
  parts_copied p block = map (λ (q : Part). node_copy p (part_pattern model.signals q)) block.parts

  abbrev points_copied : Placed → Block → List Node
  points_copied p block = map (λ (q : Point). node_copy p (point_pattern q)) block.points

  copies-apart : (p : Placed) (block : Block) → map (node_copy p) (node_patterns model.signals block) ≡ ports_copied p block ++ switches_copied p block ++ parts_copied p block ++ points_copied p block
  unfolding node_patterns
  copies-apart p block = simp (map-append, map-map)

  pub nodes-copied : (path : Path) (block : Block) (p : Placed) → p.prefix ≡ prefix_text path → AllZip (IsNodeOf model) (own_nodes (record { path = path; block = block })) (map (node_copy p) (node_patterns model.signals block))
  nodes-copied path block p e =
      let ports = map (plain_node path Port) block.ports in
      let switches = map (plain_node path Switch) block.switches in
      let parts = map (λ (q : Part). record { path = path ++ q.name ∷ []; kind = PartNode; stops = q.stops }) block.parts in
      let points = map (λ (q : Point). plain_node path PointNode q.name) block.points in
      let a = ports_copied p block in
      let b = switches_copied p block in
      let c = parts_copied p block in
      let d = points_copied p block in
      let za : AllZip (IsNodeOf model) ports a = zip-maps (IsNodeOf model) (plain_node path Port) (λ n. node_copy p (plain_pattern Port n)) block.ports (λ n i. plain Port n) in
      let zb : AllZip (IsNodeOf model) switches b = zip-maps (IsNodeOf model) (plain_node path Switch) (λ n. node_copy p (plain_pattern Switch n)) block.switches (λ n i. plain Switch n) in
      let zc : AllZip (IsNodeOf model) parts c =
      zip-maps (IsNodeOf model) (λ (q : Part). record { path = path ++ q.name ∷ []; kind = PartNode; stops = q.stops }) (λ (q : Part). node_copy p (part_pattern model.signals q)) block.parts
      (λ q i. record { path = named q.name; kind = refl; stops = word-is-set model.signals q.stops }) in
      let zd : AllZip (IsNodeOf model) points d = zip-maps (IsNodeOf model) (λ (q : Point). plain_node path PointNode q.name) (λ (q : Point). node_copy p (point_pattern q)) block.points (λ q i. plain PointNode q.name) in
      subst (AllZip (IsNodeOf model) (ports ++ switches ++ parts ++ points)) (sym (copies-apart p block))
      (zip-append (IsNodeOf model) (ports ++ switches ++ parts) points (a ++ b ++ c) d
      (zip-append (IsNodeOf model) (ports ++ switches) parts (a ++ b) c (zip-append (IsNodeOf model) ports switches a b za zb) zc) zd)
    where
      named : (name : List ℕ) → p.prefix ++ name ≡ path_text (path ++ name ∷ [])
      named name = ap (λ l. l ++ name) e ∙ sym (path-last path name)

      plain : (kind : NodeKind) (name : List ℕ) → IsNodeOf model (plain_node path kind name) (node_copy p (plain_pattern kind name))
      plain kind name = record { path = named name; kind = refl; stops = nothing-is-set model.signals }

  -- faults
  faults-from : (path : Path) (p : Placed) (at : ℕ) (parts : List Part) → p.prefix ≡ prefix_text path → ((j : ℕ) (name : List ℕ) → slice_get (map (λ (q : Part). q.name) parts) j ≡ Some name → IsPlace model (path ++ name ∷ []) (p.start + (at + j)))
      → AllZip (IsFaultOf model) (flat_map (λ (q : Part). functional_fault (path ++ q.name ∷ []) q.functional ++ general_fault (path ++ q.name ∷ []) q.general) parts) (map (fault_copy p) (fault_patterns_from model.signals at parts))
  faults-from path p at [] e h = tt
  faults-from path p at (q ∷ parts) e h =
      let mine = functional_patterns model.signals at q.name q.functional ++ general_patterns at q.name q.general in
      let n : at + 0 ≡ at = omega arith in
      let node : IsPlace model (path ++ q.name ∷ []) (p.start + at) = subst (λ m. IsPlace model (path ++ q.name ∷ []) (p.start + m)) n (h 0 q.name refl) in
      let rest = faults-from path p (suc at) parts e (λ j name s. let m : at + suc j ≡ suc at + j = omega arith in subst (λ m. IsPlace model (path ++ name ∷ []) (p.start + m)) m (h (suc j) name s)) in
      subst (AllZip (IsFaultOf model) ((functional_fault (path ++ q.name ∷ []) q.functional ++ general_fault (path ++ q.name ∷ []) q.general) ++ flat_map (λ (q : Part). functional_fault (path ++ q.name ∷ []) q.functional ++ general_fault (path ++ q.name ∷ []) q.general) parts)) (sym (map-append (fault_copy p) mine (fault_patterns_from model.signals (suc at) parts)))
      (zip-append (IsFaultOf model) (functional_fault (path ++ q.name ∷ []) q.functional ++ general_fault (path ++ q.name ∷ []) q.general) (flat_map (λ (q : Part). functional_fault (path ++ q.name ∷ []) q.functional ++ general_fault (path ++ q.name ∷ []) q.general) parts) (map (fault_copy p) mine) (map (fault_copy p) (fault_patterns_from model.signals (suc at) parts))
      (subst (AllZip (IsFaultOf model) (functional_fault (path ++ q.name ∷ []) q.functional ++ general_fault (path ++ q.name ∷ []) q.general)) (sym (map-append (fault_copy p) (functional_patterns model.signals at q.name q.functional) (general_patterns at q.name q.general)))
      (zip-append (IsFaultOf model) (functional_fault (path ++ q.name ∷ []) q.functional) (general_fault (path ++ q.name ∷ []) q.general) (map (fault_copy p) (functional_patterns model.signals at q.name q.functional)) (map (fault_copy p) (general_patterns at q.name q.general))
      (functional q.name q.functional node) (general q.name q.general node)))
      rest)
    where
      labelled : (name : List ℕ) (letter : ℕ) → (p.prefix ++ name) ++ 46 ∷ letter ∷ [] ≡ path_text (path ++ name ∷ []) ++ 46 ∷ letter ∷ []
      labelled name letter = ap (λ l. l ++ 46 ∷ letter ∷ []) (ap (λ l. l ++ name) e ∙ sym (path-last path name))

      functional : (name : List ℕ) (f : Option Functional) → IsPlace model (path ++ name ∷ []) (p.start + at) → AllZip (IsFaultOf model) (functional_fault (path ++ name ∷ []) f) (map (fault_copy p) (functional_patterns model.signals at name f))
      functional name None node = tt
      functional name (Some f) node = (record { node = node; general = refl; signals = word-is-set model.signals f.signals; weight = refl; label = labelled name 102 }, tt)

      general : (name : List ℕ) (w : Option ℕ) → IsPlace model (path ++ name ∷ []) (p.start + at) → AllZip (IsFaultOf model) (general_fault (path ++ name ∷ []) w) (map (fault_copy p) (general_patterns at name w))
      general name None node = tt
      general name (Some w) node = (record { node = node; general = refl; signals = nothing-is-set model.signals; weight = refl; label = labelled name 103 }, tt)

  pub faults-copied : (path : Path) (block : Block) (p : Placed) → p.prefix ≡ prefix_text path → NodesAt model path block p.start → AllZip (IsFaultOf model) (own_faults (record { path = path; block = block })) (map (fault_copy p) (fault_patterns model.signals block))
  unfolding fault_patterns
  faults-copied path block p e h = faults-from path p (first_part block) block.parts e (λ j name s. h (first_part block + j) name (among j name s))
    where
      among : (j : ℕ) (name : List ℕ) → slice_get (map (λ (q : Part). q.name) block.parts) j ≡ Some name → slice_get (own_names block) (first_part block + j) ≡ Some name
      among j name s =
          let long = length-append block.ports block.switches in
          let n : first_part block + j ≡ length (block.ports ++ block.switches) + j = omega arith in
          get-left (block.ports ++ block.switches ++ map (λ (q : Part). q.name) block.parts) (map (λ (q : Point). q.name) block.points) (first_part block + j) name
          (ap (slice_get (block.ports ++ block.switches ++ map (λ (q : Part). q.name) block.parts)) n ∙ get-right (block.ports ++ block.switches) (map (λ (q : Part). q.name) block.parts) j ∙ s)

  -- tests
  mode-found : (mode : Option (List ℕ)) → ModeIsKnown model.modes mode → IsModeOf model mode (mode_number model.modes mode)
  mode-found None h = refl
  mode-found (Some name) h = place-found model.modes name h

  tests-from : (path : Path) (p : Placed) (at : ℕ) (points : List Point) → p.prefix ≡ prefix_text path → ((j : ℕ) (name : List ℕ) → slice_get (map (λ (q : Point). q.name) points) j ≡ Some name → IsPlace model (path ++ name ∷ []) (p.start + (at + j)))
      → ((q : Point) → Contains points q → (t : Test) → Contains q.tests t → ModeIsKnown model.modes t.mode)
      → AllZip (IsTestOf model) (flat_map (λ (q : Point). map (λ (t : Test). record { point = path ++ q.name ∷ []; name = t.name; cost = t.cost; signals = t.signals; mode = t.mode }) q.tests) points) (map (test_copy p) (test_patterns_from model.signals model.modes at points))
  tests-from path p at [] e h modes = tt
  tests-from path p at (q ∷ points) e h modes =
      let n : at + 0 ≡ at = omega arith in
      let node : IsPlace model (path ++ q.name ∷ []) (p.start + at) = subst (λ m. IsPlace model (path ++ q.name ∷ []) (p.start + m)) n (h 0 q.name refl) in
      let items = map (λ (t : Test). record { point = path ++ q.name ∷ []; name = t.name; cost = t.cost; signals = t.signals; mode = t.mode }) q.tests in
      let later = flat_map (λ (q : Point). map (λ (t : Test). record { point = path ++ q.name ∷ []; name = t.name; cost = t.cost; signals = t.signals; mode = t.mode }) q.tests) points in
      subst (AllZip (IsTestOf model) (items ++ later))
      (sym (map-append (test_copy p) (map (test_pattern model.signals model.modes at q.name) q.tests) (test_patterns_from model.signals model.modes (suc at) points) ∙ ap (λ l. l ++ map (test_copy p) (test_patterns_from model.signals model.modes (suc at) points)) (map-map (test_copy p) (test_pattern model.signals model.modes at q.name) q.tests)))
      (zip-append (IsTestOf model) items later (map (λ t. test_copy p (test_pattern model.signals model.modes at q.name t)) q.tests) (map (test_copy p) (test_patterns_from model.signals model.modes (suc at) points))
      (zip-maps (IsTestOf model) (λ (t : Test). record { point = path ++ q.name ∷ []; name = t.name; cost = t.cost; signals = t.signals; mode = t.mode }) (λ t. test_copy p (test_pattern model.signals model.modes at q.name t)) q.tests
      (λ t i. record { node = node; cost = refl; signals = word-is-set model.signals t.signals; mode = mode-found t.mode (modes q (0, omega arith, refl) t i); label = labelled q.name t.name }))
      (tests-from path p (suc at) points e (λ j name s. let m : at + suc j ≡ suc at + j = omega arith in subst (λ m. IsPlace model (path ++ name ∷ []) (p.start + m)) m (h (suc j) name s)) (λ r (k, lt, s). modes r (suc k, omega arith, s))))
    where
      labelled : (point name : List ℕ) → (p.prefix ++ point) ++ 47 ∷ name ≡ path_text (path ++ point ∷ []) ++ 47 ∷ name
      labelled point name = ap (λ l. l ++ 47 ∷ name) (ap (λ l. l ++ point) e ∙ sym (path-last path point))

  pub tests-copied : (path : Path) (block : Block) (p : Placed) → p.prefix ≡ prefix_text path → NodesAt model path block p.start
      → ((q : Point) → Contains block.points q → (t : Test) → Contains q.tests t → ModeIsKnown model.modes t.mode)
      → AllZip (IsTestOf model) (own_tests (record { path = path; block = block })) (map (test_copy p) (test_patterns model.signals model.modes block))
  unfolding test_patterns
  tests-copied path block p e h modes = tests-from path p (first_point block) block.points e (λ j name s. h (first_point block + j) name (among j name s)) modes
    where
      among : (j : ℕ) (name : List ℕ) → slice_get (map (λ (q : Point). q.name) block.points) j ≡ Some name → slice_get (own_names block) (first_point block + j) ≡ Some name
      among j name s =
          let long = length-append block.ports block.switches in
          let long' = length-append (block.ports ++ block.switches) (map (λ (q : Part). q.name) block.parts) in
          let parts = length-map block.parts (λ (q : Part). q.name) in
          let n : first_point block + j ≡ length (block.ports ++ block.switches ++ map (λ (q : Part). q.name) block.parts) + j = omega arith in
          ap (slice_get (own_names block)) n ∙ get-right (block.ports ++ block.switches ++ map (λ (q : Part). q.name) block.parts) (map (λ (q : Point). q.name) block.points) j ∙ s
