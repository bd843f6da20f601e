-- Small flat models that the definitions are tried on.
use Rattle.std.proofs.Common.{◌≡◌, ℕ, zero, suc, ◌<◌, ◌≤◌, List, [], ◌∷◌, length, refl, sym, ap, ◌∙◌, arith, subst}
use Rattle.std.specs.Prelude.{Bool, true, ◌&&◌, codes, nat_eq, nat_lt}
use Rattle.std.specs.List.{Contains, list_all}
use Rattle.std.proofs.lemmas.Bool.{and_parts, ltb-true, eqb-true, false≢true}
use Rattle.std.proofs.lemmas.Nat.Bits.{bit_at-pow_other}
use Rattle.sig_types.specs.NameText.{is_name}
use Rattle.sig_types.specs.LabelText.{is_label}
use Rattle.sig_types.specs.Sets.{has_bit}
use Rattle.sig_flat.specs.declared.flat.Flat.{Flat}
use Rattle.sig_flat.specs.declared.flat.Node.{Node}
use Rattle.sig_flat.specs.declared.flat.NodeKind.{NodeKind}
use Rattle.sig_flat.specs.declared.flat.NodeKind.TheVariants.{Part, Point}
use Rattle.sig_flat.specs.declared.flat.FlatLink.{FlatLink}
use Rattle.sig_flat.specs.FlatLists.{AreValid}

abbrev pub node : List ℕ → NodeKind → ℕ → Node
node path kind stops = record { path = path; kind = kind; stops = record { 0 = stops } }

abbrev pub link : ℕ → ℕ → FlatLink
link from to = record { from = from; to = to; modes = record { 0 = 1 } }

of-all : {A : Type 0} (p : A → Bool) (xs : List A) (x : A) → list_all p xs ≡ true → Contains xs x → p x ≡ true
of-all p [] x h (k, lt, e) = absurd (let no : ⊥ = omega arith in no)
of-all p (y ∷ xs) x h (zero, lt, e) = ap p (sym e) ∙ (and_parts (p y) (list_all p xs) h).0
of-all p (y ∷ xs) x h (suc k, lt, e) = of-all p xs x (and_parts (p y) (list_all p xs) h).1 (k, omega arith, e)

-- the first mode alone
first-mode : (k : ℕ) → has_bit 1 k ≡ true → k < 1
first-mode zero h = omega arith
first-mode (suc k) h = absurd (false≢true (sym (ap (λ b. nat_eq b 1) (bit_at-pow_other 0 (suc k) (λ e. let no : ⊥ = omega arith in no))) ∙ h))

-- lists of nodes with labels, and of links between them in the one mode, are those of a flat model
pub lists-valid : (ns : List Node) (ls : List FlatLink) → length ns ≤ 4096 → length ls ≤ 32768
    → list_all (λ (n : Node). is_label n.path) ns ≡ true
    → list_all (λ (l : FlatLink). nat_lt l.from (length ns) && (nat_lt l.to (length ns) && nat_eq l.modes.0 1)) ls ≡ true
    → AreValid 1 (codes "normal" ∷ []) ns ls [] []
lists-valid ns ls few_nodes few_links labels joined = record {
  modes = (omega arith, omega arith);
  nodes = few_nodes;
  links = few_links;
  faults = omega arith;
  tests = omega arith;
  good = omega arith;
  link_ends = λ l i. let s = and_parts (nat_lt l.from (length ns)) _ (at l i) in (ltb-true l.from (length ns) s.0, ltb-true l.to (length ns) (and_parts (nat_lt l.to (length ns)) _ s.1).0);
  link_modes = λ l i k on.
      let s = and_parts (nat_lt l.from (length ns)) _ (at l i) in
      first-mode k (subst (λ w. has_bit w k ≡ true) (eqb-true l.modes.0 1 (and_parts (nat_lt l.to (length ns)) _ s.1).1) on);
  fault_parts = λ f (k, lt, e). absurd (let no : ⊥ = omega arith in no);
  test_points = λ t (k, lt, e). absurd (let no : ⊥ = omega arith in no);
  state = omega arith;
  mode_names = λ n i. of-all is_name (codes "normal" ∷ []) n refl i;
  node_labels = λ n i. of-all (λ (n : Node). is_label n.path) ns n labels i;
  fault_labels = λ f (k, lt, e). absurd (let no : ⊥ = omega arith in no);
  test_labels = λ t (k, lt, e). absurd (let no : ⊥ = omega arith in no);
}
  where
    at : (l : FlatLink) → Contains ls l → (nat_lt l.from (length ns) && (nat_lt l.to (length ns) && nat_eq l.modes.0 1)) ≡ true
    at l i = of-all (λ (l : FlatLink). nat_lt l.from (length ns) && (nat_lt l.to (length ns) && nat_eq l.modes.0 1)) ls l joined i

abbrev pub stopped_nodes : List Node
stopped_nodes = node (codes "A") Part 0 ∷ node (codes "P") Part 1 ∷ node (codes "X") Point 0 ∷ []

abbrev pub stopped_links : List FlatLink
stopped_links = link 0 1 ∷ link 1 2 ∷ []

-- A leads to P, which stops signal 0, and P to the point X
abbrev pub stopped_line : Flat
stopped_line = record {
  good = 1;
  modes = codes "normal" ∷ [];
  nodes = stopped_nodes;
  links = stopped_links;
  faults = [];
  tests = [];
  valid = lists-valid stopped_nodes stopped_links (omega arith) (omega arith) refl refl;
}

abbrev pub two_nodes : List Node
two_nodes = node (codes "A") Part 0 ∷ node (codes "P") Part 1 ∷ node (codes "X") Point 0 ∷ node (codes "Q") Part 0 ∷ []

abbrev pub joining_links : List FlatLink
joining_links = link 0 1 ∷ link 1 2 ∷ link 0 3 ∷ link 3 2 ∷ []

-- the same with a second path from A over Q, which is node 3
abbrev pub two_lines : Flat
two_lines = record {
  good = 1;
  modes = codes "normal" ∷ [];
  nodes = two_nodes;
  links = joining_links;
  faults = [];
  tests = [];
  valid = lists-valid two_nodes joining_links (omega arith) (omega arith) refl refl;
}
