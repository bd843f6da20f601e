-- What a flat model keeps to. The facts are told of its lists, since they are a field of the flat model itself.
use Rattle.std.specs.Prelude.{◌≡◌, ℕ, ◌+◌, ◌<◌, ◌≤◌, true, List, length}
use Rattle.std.specs.List.{Contains}
use Rattle.sig_types.specs.NameText.{is_name}
use Rattle.sig_types.specs.LabelText.{is_label}
use Rattle.sig_types.specs.Sets.{has_bit}
use Rattle.sig_flat.specs.Limits.{max_nodes, max_links, max_faults, max_tests}
use Rattle.sig_flat.specs.declared.flat.Node.{Node}
use Rattle.sig_flat.specs.declared.flat.FlatLink.{FlatLink}
use Rattle.sig_flat.specs.declared.flat.Fault.{Fault}
use Rattle.sig_flat.specs.declared.flat.FlatTest.{FlatTest}

-- its lists are within the limits, each number of a node or mode in it is that of one, weights and costs are in their
-- ranges, there is a state, modes have names, and nodes, faults and tests have labels
pub record AreValid (g : ℕ) (ms : List (List ℕ)) (ns : List Node) (ls : List FlatLink) (fs : List Fault) (ts : List FlatTest) : Type 0 where
  pub modes : (1 ≤ length ms) × (length ms ≤ 32)
  pub nodes : length ns ≤ max_nodes
  pub links : length ls ≤ max_links
  pub faults : length fs ≤ max_faults
  pub tests : length ts ≤ max_tests
  pub good : g ≤ 1000000
  pub link_ends : (link : FlatLink) → Contains ls link → (link.from < length ns) × (link.to < length ns)
  pub link_modes : (link : FlatLink) → Contains ls link → (mode : ℕ) → has_bit link.modes.0 mode ≡ true → mode < length ms
  pub fault_parts : (fault : Fault) → Contains fs fault → (fault.node < length ns) × (1 ≤ fault.weight) × (fault.weight ≤ 1000000)
  pub test_points : (test : FlatTest) → Contains ts test → (test.node < length ns) × (test.mode < length ms) × (1 ≤ test.cost) × (test.cost ≤ 1000000)
  pub state : 1 ≤ g + length fs
  pub mode_names : (mode : List ℕ) → Contains ms mode → is_name mode ≡ true
  pub node_labels : (node : Node) → Contains ns node → is_label node.path ≡ true
  pub fault_labels : (fault : Fault) → Contains fs fault → is_label fault.label ≡ true
  pub test_labels : (test : FlatTest) → Contains ts test → is_label test.label ≡ true
