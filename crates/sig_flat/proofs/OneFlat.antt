-- A model without breach has one flat model: what the definition asks of each node, link, fault and test of a flat model
-- leaves it no choice. A set of names is a word by its bits; a path is that of one node, and a mode's name that of one mode.
use Rattle.std.proofs.Common.{◌≡◌, ℕ, zero, suc, ◌<◌, List, [], ◌∷◌, map, length, Option, Some, None, refl, sym, ap, ◌∙◌, subst, arith, true≢false}
use Rattle.std.specs.Prelude.{nat_eq}
use Rattle.std.specs.List.{AllZip}
use Rattle.std.specs.Int.{bit_at}
use Rattle.std.proofs.lemmas.Nat.Bits.{bit_at-lt, same_from_bits}
use Rattle.sig_types.specs.declared.model.Model.{Model}
use Rattle.sig_types.specs.Breaches.{breaches}
use Rattle.sig_flat.specs.declared.flat.Node.{Node}
use Rattle.sig_flat.specs.declared.flat.FlatLink.{FlatLink}
use Rattle.sig_flat.specs.declared.flat.Fault.{Fault}
use Rattle.sig_flat.specs.declared.flat.FlatTest.{FlatTest}
use Rattle.sig_flat.specs.declared.flat.Flat.{Flat}
use denote.Struct.Props.{props}
use Rattle.sig_flat.specs.FlatLists.{AreValid}
use Rattle.sig_flat.specs.Instances.{Path, NodeItem, LinkItem, FaultItem, TestItem, nodes, links, faults, tests, block_named}
use Rattle.sig_flat.specs.Flats.{IsSetOf, IsPlace, IsModeOf, IsNodeOf, IsLinkOf, IsFaultOf, IsTestOf, IsFlatOf}
use Rattle.sig_flat.proofs.ApartLaws.{one-place}
use Rattle.sig_flat.proofs.NamesApart.{blocks-apart, modes-apart}
use Rattle.sig_flat.proofs.NodePaths.{apart-paths}
use Rattle.sig_flat.proofs.PlaceLaws.{path_of}

-- two lists beside one, where an item has one partner
zip-one : {A B : Type 0} (R : A → B → Type 0) → ((x : A) (y z : B) → R x y → R x z → y ≡ z) → (xs : List A) (ys zs : List B) → AllZip R xs ys → AllZip R xs zs → ys ≡ zs
zip-one R one [] [] [] p q = refl
zip-one R one [] [] (z ∷ zs) p q = absurd q
zip-one R one [] (y ∷ ys) zs p q = absurd p
zip-one R one (x ∷ xs) [] zs p q = absurd p
zip-one R one (x ∷ xs) (y ∷ ys) [] p q = absurd q
zip-one R one (x ∷ xs) (y ∷ ys) (z ∷ zs) p q = let a = one x y z p.0 q.0 in let b = zip-one R one xs ys zs p.1 q.1 in cc

-- a word by its bits
one-bit : (a b : ℕ) → a < 2 → b < 2 → nat_eq a 1 ≡ nat_eq b 1 → a ≡ b
one-bit zero zero l m e = refl
one-bit zero (suc zero) l m e = absurd (true≢false (sym e))
one-bit (suc zero) zero l m e = absurd (true≢false e)
one-bit (suc zero) (suc zero) l m e = refl
one-bit (suc (suc a)) b l m e = absurd (let f : ⊥ = omega arith in f)
one-bit zero (suc (suc b)) l m e = absurd (let f : ⊥ = omega arith in f)
one-bit (suc zero) (suc (suc b)) l m e = absurd (let f : ⊥ = omega arith in f)

one-set : (all names : List (List ℕ)) (w v : ℕ) → IsSetOf all names w → IsSetOf all names v → w ≡ v
one-set all names w v p q = same_from_bits w v (λ k. one-bit (bit_at w k) (bit_at v k) (bit_at-lt w k) (bit_at-lt v k) (p k ∙ sym (q k)))

-- what a flat model has, apart from what it keeps to
record Lists : Type 0 where
  pub good : ℕ
  pub modes : List (List ℕ)
  pub nodes : List Node
  pub links : List FlatLink
  pub faults : List Fault
  pub tests : List FlatTest

abbrev lists_of : Flat → Lists
lists_of flat = record { good = flat.good; modes = flat.modes; nodes = flat.nodes; links = flat.links; faults = flat.faults; tests = flat.tests }

abbrev Keeps : Lists → Type 0
Keeps l = AreValid l.good l.modes l.nodes l.links l.faults l.tests

abbrev flat_with : (l : Lists) → Keeps l → Flat
flat_with l v = record { good = l.good; modes = l.modes; nodes = l.nodes; links = l.links; faults = l.faults; tests = l.tests; valid = v }

keeps-prop : (l : Lists) → IsProp (Keeps l)
keeps-prop l = hlevel props

with_lists : (l k : Lists) (v : Keeps l) (w : Keeps k) → l ≡ k → flat_with l v ≡ flat_with k w
with_lists l k v w e = subst (λ (m : Lists). (u : Keeps m) → flat_with l v ≡ flat_with m u) e (λ u. ap (flat_with l) (keeps-prop l v u)) w

module _ (model : Model) (sound : breaches model ≡ []) where
  one-node : (path : Path) (i j : ℕ) → IsPlace model path i → IsPlace model path j → i ≡ j
  one-node path i j = one-place (map path_of (nodes model)) i j path
      (apart-paths model.blocks (blocks-apart model sound) (length model.blocks) (block_named model.blocks model.top) (blocks-apart model sound model.top))

  one-mode : (mode : Option (List ℕ)) (i j : ℕ) → IsModeOf model mode i → IsModeOf model mode j → i ≡ j
  one-mode None i j p q = p ∙ sym q
  one-mode (Some name) i j p q = one-place model.modes i j name (modes-apart model sound) p q

  node-one : (item : NodeItem) (x y : Node) → IsNodeOf model item x → IsNodeOf model item y → x ≡ y
  node-one item x y p q =
      ap (λ l. record x { path = l }) (p.path ∙ sym q.path)
      ∙ ap (λ k. record y { kind = k; stops = x.stops }) (p.kind ∙ sym q.kind)
      ∙ ap (λ w. record y { stops = record { 0 = w } }) (one-set model.signals item.stops x.stops.0 y.stops.0 p.stops q.stops)

  link-one : (item : LinkItem) (x y : FlatLink) → IsLinkOf model item x → IsLinkOf model item y → x ≡ y
  link-one item x y p q =
      ap (λ n. record x { from = n }) (one-node item.from x.from y.from p.from q.from)
      ∙ ap (λ n. record y { to = n; modes = x.modes }) (one-node item.to x.to y.to p.to q.to)
      ∙ ap (λ w. record y { modes = record { 0 = w } }) (one-set _ _ x.modes.0 y.modes.0 p.modes q.modes)

  fault-one : (item : FaultItem) (x y : Fault) → IsFaultOf model item x → IsFaultOf model item y → x ≡ y
  fault-one item x y p q =
      ap (λ n. record x { node = n }) (one-node item.part x.node y.node p.node q.node)
      ∙ ap (λ b. record x { node = y.node; general = b }) (p.general ∙ sym q.general)
      ∙ ap (λ w. record x { node = y.node; general = y.general; signals = record { 0 = w } }) (one-set _ _ x.signals.0 y.signals.0 p.signals q.signals)
      ∙ ap (λ w. record y { weight = w; label = x.label }) (p.weight ∙ sym q.weight)
      ∙ ap (λ l. record y { label = l }) (p.label ∙ sym q.label)

  test-one : (item : TestItem) (x y : FlatTest) → IsTestOf model item x → IsTestOf model item y → x ≡ y
  test-one item x y p q =
      ap (λ n. record x { node = n }) (one-node item.point x.node y.node p.node q.node)
      ∙ ap (λ c. record x { node = y.node; cost = c }) (p.cost ∙ sym q.cost)
      ∙ ap (λ w. record x { node = y.node; cost = y.cost; signals = record { 0 = w } }) (one-set _ _ x.signals.0 y.signals.0 p.signals q.signals)
      ∙ ap (λ m. record y { mode = m; label = x.label }) (one-mode item.mode x.mode y.mode p.mode q.mode)
      ∙ ap (λ l. record y { label = l }) (p.label ∙ sym q.label)

  -- the lists of two flat models
  module _ (flat other : Flat) (p : IsFlatOf model flat) (q : IsFlatOf model other) where
    same-good : flat.good ≡ other.good
    same-good = p.good ∙ sym q.good

    same-modes : flat.modes ≡ other.modes
    same-modes = p.modes ∙ sym q.modes

    same-nodes : flat.nodes ≡ other.nodes
    same-nodes = zip-one (IsNodeOf model) node-one (nodes model) flat.nodes other.nodes p.nodes q.nodes

    same-links : flat.links ≡ other.links
    same-links = zip-one (IsLinkOf model) link-one (links model) flat.links other.links p.links q.links

    same-faults : flat.faults ≡ other.faults
    same-faults = zip-one (IsFaultOf model) fault-one (faults model) flat.faults other.faults p.faults q.faults

    same-tests : flat.tests ≡ other.tests
    same-tests = zip-one (IsTestOf model) test-one (tests model) flat.tests other.tests p.tests q.tests

    same-lists : lists_of flat ≡ lists_of other
    same-lists =
        ap (λ g. record (lists_of flat) { good = g }) same-good
        ∙ ap (λ l. record (lists_of flat) { good = other.good; modes = l }) same-modes
        ∙ ap (λ l. record (lists_of flat) { good = other.good; modes = other.modes; nodes = l }) same-nodes
        ∙ ap (λ l. record (lists_of other) { links = l; faults = flat.faults; tests = flat.tests }) same-links
        ∙ ap (λ l. record (lists_of other) { faults = l; tests = flat.tests }) same-faults
        ∙ ap (λ l. record (lists_of other) { tests = l }) same-tests

    -- and with them the two themselves, since that the lists are valid is a proposition
    pub one-flat : flat ≡ other
    one-flat = with_lists (lists_of flat) (lists_of other) flat.valid other.valid same-lists
