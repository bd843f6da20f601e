-- The counts of the unfolded model are the sizes and the height of the top block.
use Rattle.std.proofs.Common.{◌≡◌, ℕ, zero, suc, ◌+◌, ◌<◌, ◌≤◌, List, [], ◌∷◌, ◌++◌, length, refl, sym, ap, ◌∙◌, arith, length-append, Bool, true, false, lit≤, inl, inr}
use Rattle.std.specs.Prelude.{cond, map, nat_lt, nat_eq, ◌&&◌, Option, Some, None}
use Rattle.std.specs.List.{flat_map}
use Rattle.std.proofs.lemmas.List.{length-map}
use Rattle.sig_types.specs.declared.model.Model.{Model}
use Rattle.sig_types.specs.declared.model.Block.{Block}
use Rattle.sig_types.specs.declared.model.Part.{Part}
use Rattle.sig_types.specs.declared.model.Functional.{Functional}
use Rattle.sig_types.specs.declared.model.Point.{Point}
use Rattle.sig_types.specs.declared.model.Test.{Test}
use Rattle.sig_types.specs.declared.model.Link.{Link}
use Rattle.sig_types.specs.Breaches.{block_names}
use Rattle.std.proofs.lemmas.Bool.{ltb-false, lt-ltb, le-ltb, ne_eqb, cases_lt}
use Rattle.sig_types.specs.declared.refusals.Counted.{Counted}
use Rattle.sig_types.specs.declared.refusals.Counted.TheVariants.{Depth, Uses, Nodes, Links, Faults, Tests}
use Rattle.sig_flat.specs.declared.counts.Counts.{Counts}
use Rattle.sig_flat.specs.Instances.{Path, Instance, TestItem, instances, instances_at, own_nodes, own_links, own_faults, own_tests, nodes, links, faults, tests, depth, uses, functional_fault, general_fault, greatest, end_path}
use Rattle.sig_flat.specs.Counts.{limited, first_over, has_no_state, refusal_after, flat_refusal}
use Rattle.sig_flat.specs.Counting.{limits_of}
use Rattle.sig_flat.specs.Layouts.{numbers_of_block}
use Rattle.sig_flat.specs.Sizes.{size, in_word, height, height_down}
use Rattle.sig_flat.specs.Resolved.{block_at}
use Rattle.sig_flat.specs.Places.{own_names}
use Rattle.sig_flat.specs.Known.{IsKnown}
use Rattle.sig_flat.specs.Surveys.{numbers_of, top_of, own_of, CountsAre}
use Rattle.sig_flat.specs.Patterns.{functional_patterns, general_patterns, fault_patterns_from, fault_patterns, test_patterns_from, test_patterns, test_pattern, first_part, first_point}
use Rattle.sig_flat.proofs.NameLaws.{named-at}
use Rattle.sig_flat.proofs.PlaceLaws.{own_length}
use Rattle.sig_flat.proofs.SizeLaws.{size_down-same}
use Rattle.sig_flat.proofs.HeightLaws.{height_down-same}
use Rattle.sig_flat.proofs.DepthLaws.{deepest-instances}
use Rattle.sig_flat.proofs.InstanceLaws.{length-instances}
use Rattle.sig_flat.proofs.KnownLaws.{resolved, earlier}

faults-counted : (signals : List (List ℕ)) (path : Path) (at : ℕ) (parts : List Part) → length (flat_map (λ (q : Part). functional_fault (path ++ q.name ∷ []) q.functional ++ general_fault (path ++ q.name ∷ []) q.general) parts) ≡ length (fault_patterns_from signals at parts)
faults-counted signals path at [] = refl
faults-counted signals path at (q ∷ parts) =
    let f = functional_fault (path ++ q.name ∷ []) q.functional in
    let g = general_fault (path ++ q.name ∷ []) q.general in
    let f' = functional_patterns signals at q.name q.functional in
    let g' = general_patterns at q.name q.general in
    let rest = faults-counted signals path (suc at) parts in
    length-append (f ++ g) (flat_map (λ (q : Part). functional_fault (path ++ q.name ∷ []) q.functional ++ general_fault (path ++ q.name ∷ []) q.general) parts)
    ∙ (let a = length-append f g in let b = length-append f' g' in let c = functional q.name q.functional in let d = general q.name q.general in omega arith)
    ∙ sym (length-append (f' ++ g') (fault_patterns_from signals (suc at) parts))
  where
    functional : (name : List ℕ) (o : Option Functional) → length (functional_fault (path ++ name ∷ []) o) ≡ length (functional_patterns signals at name o)
    functional name None = refl
    functional name (Some f) = refl

    general : (name : List ℕ) (o : Option ℕ) → length (general_fault (path ++ name ∷ []) o) ≡ length (general_patterns at name o)
    general name None = refl
    general name (Some w) = refl

abbrev item_of : Path → Point → Test → TestItem
item_of path q t = record { point = path ++ q.name ∷ []; name = t.name; cost = t.cost; signals = t.signals; mode = t.mode }

tests-counted : (signals modes : List (List ℕ)) (path : Path) (at : ℕ) (points : List Point) → length (flat_map (λ (q : Point). map (item_of path q) q.tests) points) ≡ length (test_patterns_from signals modes at points)
tests-counted signals modes path at [] = refl
tests-counted signals modes path at (q ∷ points) =
    let items : List TestItem = map (item_of path q) q.tests in
    let rest = tests-counted signals modes path (suc at) points in
    let a = length-map q.tests (item_of path q) in
    let b = length-map q.tests (test_pattern signals modes at q.name) in
    let c = length-append items (flat_map (λ (q : Point). map (item_of path q) q.tests) points) in
    let d = length-append (map (test_pattern signals modes at q.name) q.tests) (test_patterns_from signals modes (suc at) points) in
    let sum : length (items ++ flat_map (λ (q : Point). map (item_of path q) q.tests) points) ≡ length (map (test_pattern signals modes at q.name) q.tests ++ test_patterns_from signals modes (suc at) points) = omega arith in
    sum

pub one-each : {A : Type 0} (xs : List A) → length (flat_map (λ x. x ∷ []) xs) ≡ length xs
one-each [] = refl
one-each (x ∷ xs) = ap suc (one-each xs)

module _ (model : Model) (known : IsKnown model) where
  pub top-there : top_of model < length model.blocks
  top-there = let t = known.top in let long = length-map model.blocks (λ (b : Block). b.name) in omega arith

  pub top-instances : instances model ≡ instances_at (length model.blocks) model.blocks [] (block_at model.blocks (top_of model))
  top-instances = ap (instances_at (length model.blocks) model.blocks []) (named-at model.blocks model.top)

  -- items whose number the block decides
  counted : {A : Type 0} (f : Instance → List A) (count : Block → ℕ) → ((i : Instance) → length (f i) ≡ count i.block) → length (flat_map f (instances model)) ≡ size (map count model.blocks) (numbers_of model) (top_of model)
  unfolding size
  counted f count counts =
      ap (λ is. length (flat_map f is)) top-instances
      ∙ length-instances f count counts model.blocks (map count model.blocks) (numbers_of model) (resolved model known count) (length model.blocks) [] (top_of model) top-there
      ∙ size_down-same (map count model.blocks) (numbers_of model) (earlier model known) (length model.blocks) (suc (top_of model)) (top_of model) top-there (omega arith)

  pub instances-counted : length (instances model) ≡ size (map (λ (b : Block). 1) model.blocks) (numbers_of model) (top_of model)
  instances-counted = sym (one-each (instances model)) ∙ counted {A = Instance} (λ (i : Instance). i ∷ []) (λ b. 1) (λ i. refl)

  pub links-counted : length (links model) ≡ size (map (λ (b : Block). length b.links) model.blocks) (numbers_of model) (top_of model)
  links-counted = counted own_links (λ b. length b.links) (λ i. length-map i.block.links (λ (l : Link). record { from = end_path i.path l.from; to = end_path i.path l.to; modes = l.modes }))

  pub all-faults : length (faults model) ≡ size (map (λ (b : Block). length (fault_patterns model.signals b)) model.blocks) (numbers_of model) (top_of model)
  unfolding fault_patterns
  all-faults = counted own_faults (λ b. length (fault_patterns model.signals b)) (λ i. faults-counted model.signals i.path (first_part i.block) i.block.parts)

  pub all-tests : length (tests model) ≡ size (map (λ (b : Block). length (test_patterns model.signals model.modes b)) model.blocks) (numbers_of model) (top_of model)
  unfolding test_patterns
  all-tests = counted own_tests (λ b. length (test_patterns model.signals model.modes b)) (λ i. tests-counted model.signals model.modes i.path (first_point i.block) i.block.points)

  pub all-nodes : length (nodes model) ≡ size (own_of model) (numbers_of model) (top_of model)
  all-nodes = counted own_nodes (λ b. length (own_names b)) own_length

  pub depth-is : depth model ≡ height (numbers_of model) (top_of model)
  unfolding height
  depth-is =
      ap (λ is. greatest (map (λ (i : Instance). length i.path) is)) top-instances
      ∙ deepest-instances model.blocks (λ b. 1) (map (λ (b : Block). 1) model.blocks) (numbers_of model) (resolved model known (λ b. 1)) (earlier model known) (length model.blocks) [] (top_of model) top-there top-there
      ∙ (let z : length {A = List ℕ} [] + height_down (numbers_of model) (length model.blocks) (top_of model) ≡ height_down (numbers_of model) (length model.blocks) (top_of model) = omega arith in z)
      ∙ height_down-same (numbers_of model) (earlier model known) (length model.blocks) (suc (top_of model)) (top_of model) top-there (omega arith)

  -- the top block is an instance itself
  pub uses-less : uses model + 1 ≡ length (instances model)
  uses-less = let e = ap length top-instances in let some = at-least-one (length model.blocks) (block_at model.blocks (top_of model)) (let t = top-there in omega arith) in omega arith
    where
      at-least-one : (levels : ℕ) (block : Block) → 0 < levels → 0 < length (instances_at levels model.blocks [] block)
      at-least-one zero block lt = absurd (let f : ⊥ = omega arith in f)
      at-least-one (suc levels) block lt = omega arith

-- a limit is passed by a count exactly where it is by as much of it as a word has
over : (limit n : ℕ) → limit ≤ 32768 → nat_lt limit (in_word n) ≡ nat_lt limit n
over limit n le = elim (cases_lt limit n) [
  | inl lt ↦ (let h : limit < in_word n = omega arith in lt-ltb limit (in_word n) h ∙ sym (lt-ltb limit n lt))
  | inr ge ↦ (let h : in_word n ≤ limit = omega arith in le-ltb limit (in_word n) h ∙ sym (le-ltb limit n ge))
]

pub same-over : (model : Model) (counts : Counts) → CountsAre model counts → first_over (limits_of counts) ≡ first_over (limited model)
same-over model counts c =
    let a : nat_lt 16 counts.depth ≡ nat_lt 16 (depth model) = ap (nat_lt 16) c.depth ∙ over 16 (depth model) (lit≤ tt) in
    let b : nat_lt 4096 counts.uses ≡ nat_lt 4096 (uses model) = ap (nat_lt 4096) c.uses ∙ over 4096 (uses model) (lit≤ tt) in
    let d : nat_lt 4096 counts.nodes ≡ nat_lt 4096 (length (nodes model)) = ap (nat_lt 4096) c.nodes ∙ over 4096 (length (nodes model)) (lit≤ tt) in
    let e : nat_lt 32768 counts.links ≡ nat_lt 32768 (length (links model)) = ap (nat_lt 32768) c.links ∙ over 32768 (length (links model)) (lit≤ tt) in
    let f : nat_lt 4096 counts.faults ≡ nat_lt 4096 (length (faults model)) = ap (nat_lt 4096) c.faults ∙ over 4096 (length (faults model)) (lit≤ tt) in
    let g : nat_lt 256 counts.tests ≡ nat_lt 256 (length (tests model)) = ap (nat_lt 256) c.tests ∙ over 256 (length (tests model)) (lit≤ tt) in
    six a b d e f g
  where
    six : {a a' b b' d d' e e' f f' g g' : Bool} → a ≡ a' → b ≡ b' → d ≡ d' → e ≡ e' → f ≡ f' → g ≡ g'
        → cond a (Some Depth) (cond b (Some Uses) (cond d (Some Nodes) (cond e (Some Links) (cond f (Some Faults) (cond g (Some Tests) None)))))
        ≡ cond a' (Some Depth) (cond b' (Some Uses) (cond d' (Some Nodes) (cond e' (Some Links) (cond f' (Some Faults) (cond g' (Some Tests) None)))))
    six p q r s t u = cc

pub same-state : (model : Model) (counts : Counts) → CountsAre model counts → (nat_eq model.good 0 && nat_eq counts.faults 0) ≡ has_no_state model
same-state model counts c = ap (λ b. nat_eq model.good 0 && b) (ap (λ n. nat_eq n 0) c.faults ∙ none (length (faults model)))
  where
    none : (n : ℕ) → nat_eq (in_word n) 0 ≡ nat_eq n 0
    none zero = refl
    none (suc n) = ne_eqb (in_word (suc n)) 0 (λ e. omega arith) ∙ sym (ne_eqb (suc n) 0 (λ e. omega arith))

pub refusal-is : (model : Model) (counts : Counts) → CountsAre model counts → refusal_after (first_over (limits_of counts)) (nat_eq model.good 0 && nat_eq counts.faults 0) ≡ flat_refusal model
refusal-is model counts c = two (same-over model counts c) (same-state model counts c)
  where
    two : {o o' : Option Counted} {b b' : Bool} → o ≡ o' → b ≡ b' → refusal_after o b ≡ refusal_after o' b'
    two p q = cc

-- a model that is not refused is within its limits
pub record IsWithin (model : Model) : Type 0 where
  pub depth : depth model ≤ 16
  pub nodes : length (nodes model) ≤ 4096
  pub links : length (links model) ≤ 32768
  pub faults : length (faults model) ≤ 4096
  pub tests : length (tests model) ≤ 256

pub within : (model : Model) → first_over (limited model) ≡ None → IsWithin model
within model e =
    let a = passed (nat_lt 16 (depth model)) Depth _ e in
    let b = passed (nat_lt 4096 (uses model)) Uses _ a.1 in
    let c = passed (nat_lt 4096 (length (nodes model))) Nodes _ b.1 in
    let d = passed (nat_lt 32768 (length (links model))) Links _ c.1 in
    let f = passed (nat_lt 4096 (length (faults model))) Faults _ d.1 in
    let g = passed (nat_lt 256 (length (tests model))) Tests _ f.1 in
    record {
      depth = ltb-false 16 (depth model) a.0;
      nodes = ltb-false 4096 (length (nodes model)) c.0;
      links = ltb-false 32768 (length (links model)) d.0;
      faults = ltb-false 4096 (length (faults model)) f.0;
      tests = ltb-false 256 (length (tests model)) g.0;
    }
  where
    passed : (b : Bool) (counted : Counted) (rest : Option Counted) → cond b (Some counted) rest ≡ None → (b ≡ false) × (rest ≡ None)
    passed true counted rest e = absurd (let f : ⊥ = cc in f)
    passed false counted rest e = (refl, e)

-- the top block among the rows of numbers
pub top-in-numbers : (model : Model) → IsKnown model → (top : ℕ) (rows : List (List ℕ)) → top ≡ top_of model → rows ≡ numbers_of model → top < length rows
top-in-numbers model known top rows e r =
    let there = top-there model known in
    let long = length-map model.blocks (numbers_of_block (block_names model)) in
    let same = ap length r in
    omega arith
