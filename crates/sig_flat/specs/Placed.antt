-- The instances of a model as the walk writes them down.
use Rattle.std.specs.Prelude.{◌≡◌, true, ℕ, zero, suc, ◌+◌, ◌^◌, ◌<◌, ◌≤◌, cond, List, [], ◌∷◌, ◌++◌, map, slice_index_or}
use Rattle.std.specs.List.{Contains, flat_map, list_all}
use Rattle.sig_types.specs.LabelText.{is_label, is_label_byte}
use Rattle.sig_flat.specs.declared.flat.Node.{Node}
use Rattle.sig_flat.specs.declared.flat.FlatLink.{FlatLink}
use Rattle.sig_flat.specs.declared.flat.Fault.{Fault}
use Rattle.sig_flat.specs.declared.flat.FlatTest.{FlatTest}
use Rattle.sig_flat.specs.declared.pattern.NodePattern.{NodePattern}
use Rattle.sig_flat.specs.declared.pattern.FaultPattern.{FaultPattern}
use Rattle.sig_flat.specs.declared.pattern.TestPattern.{TestPattern}
use Rattle.sig_flat.specs.declared.pattern.Pattern.{Pattern}
use Rattle.sig_flat.specs.declared.inner.Inner.{Inner}
use Rattle.sig_flat.specs.declared.links.LinkPattern.{LinkPattern}
use Rattle.sig_flat.specs.declared.walk.Placed.{Placed}

abbrev pub inner_prefix : List ℕ → List ℕ → List ℕ
inner_prefix outer name = outer ++ name ++ 47 ∷ []

-- the instance of a block, and then those of its uses, each whole, down so many levels
abbrev pub placed_down : List (List Inner) → ℕ → List ℕ → ℕ → ℕ → List Placed
placed_down inners zero prefix block start = []
placed_down inners (suc levels) prefix block start =
    record { prefix = prefix; block = block; start = start } ∷ flat_map (λ (inner : Inner). placed_down inners levels (inner_prefix prefix inner.name) inner.block (start + inner.offset)) (slice_index_or inners block [])

-- a block uses earlier blocks, so no more levels than this are there
unfoldable pub placed_at : List (List Inner) → List ℕ → ℕ → ℕ → List Placed
placed_at inners prefix block start = placed_down inners (suc block) prefix block start

-- each block has instances of earlier blocks inside
abbrev pub NestEarlier : List (List Inner) → Type 0
NestEarlier inners = (block : ℕ) (inner : Inner) → Contains (slice_index_or inners block []) inner → inner.block < block

abbrev pub StartsFit : List Placed → Type 0
StartsFit placed = (p : Placed) → Contains placed p → p.start < 2 ^ 32

-- the copies of a block's items

abbrev pub node_copy : Placed → NodePattern → Node
node_copy p node = record { path = p.prefix ++ node.name; kind = node.kind; stops = node.stops }

abbrev pub link_copy : Placed → LinkPattern → FlatLink
link_copy p link = record { from = p.start + link.from; to = p.start + link.to; modes = link.modes }

abbrev pub fault_copy : Placed → FaultPattern → Fault
fault_copy p fault = record { node = p.start + fault.at; general = fault.general; signals = fault.signals; weight = fault.weight; label = p.prefix ++ fault.part ++ 46 ∷ cond fault.general 103 102 ∷ [] }

abbrev pub test_copy : Placed → TestPattern → FlatTest
test_copy p test = record { node = p.start + test.at; cost = test.cost; signals = test.signals; mode = test.mode; label = p.prefix ++ test.point ++ 47 ∷ test.name }

abbrev pub no_pattern : Pattern
no_pattern = record { nodes = []; faults = []; tests = [] }

abbrev pub node_copies : List Pattern → Placed → List Node
node_copies patterns p = map (node_copy p) (slice_index_or patterns p.block no_pattern).nodes

abbrev pub link_copies : List (List LinkPattern) → Placed → List FlatLink
link_copies links p = map (link_copy p) (slice_index_or links p.block [])

abbrev pub fault_copies : List Pattern → Placed → List Fault
fault_copies patterns p = map (fault_copy p) (slice_index_or patterns p.block no_pattern).faults

abbrev pub test_copies : List Pattern → Placed → List FlatTest
test_copies patterns p = map (test_copy p) (slice_index_or patterns p.block no_pattern).tests

-- the numbers of the copies fit

abbrev pub LinksFit : Placed → List LinkPattern → Type 0
LinksFit p links = (link : LinkPattern) → Contains links link → (p.start + link.from < 2 ^ 32) × (p.start + link.to < 2 ^ 32)

abbrev pub FaultsFit : Placed → List FaultPattern → Type 0
FaultsFit p faults = (fault : FaultPattern) → Contains faults fault → p.start + fault.at < 2 ^ 32

abbrev pub TestsFit : Placed → List TestPattern → Type 0
TestsFit p tests = (test : TestPattern) → Contains tests test → p.start + test.at < 2 ^ 32

-- what stands before the names of an instance's items can be shown

abbrev pub IsShown : List ℕ → Type 0
IsShown text = list_all is_label_byte text ≡ true

abbrev pub PrefixesShown : List Placed → Type 0
PrefixesShown placed = (p : Placed) → Contains placed p → IsShown p.prefix

-- the copies have labels

abbrev pub NodesLabelled : List Node → Type 0
NodesLabelled nodes = (node : Node) → Contains nodes node → is_label node.path ≡ true

abbrev pub FaultsLabelled : List Fault → Type 0
FaultsLabelled faults = (fault : Fault) → Contains faults fault → is_label fault.label ≡ true

abbrev pub TestsLabelled : List FlatTest → Type 0
TestsLabelled tests = (test : FlatTest) → Contains tests test → is_label test.label ≡ true

-- weights and costs are in their ranges

abbrev pub WeightsFit : List Fault → Type 0
WeightsFit faults = (fault : Fault) → Contains faults fault → (1 ≤ fault.weight) × (fault.weight ≤ 1000000)

abbrev pub CostsFit : List FlatTest → Type 0
CostsFit tests = (test : FlatTest) → Contains tests test → (1 ≤ test.cost) × (test.cost ≤ 1000000)
