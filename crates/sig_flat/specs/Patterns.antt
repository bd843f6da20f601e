-- The own items of a block, numbered from the first node of an instance.
use Rattle.std.specs.Prelude.{ℕ, suc, ◌+◌, true, false, List, [], ◌∷◌, ◌++◌, map, length, Option, Some, None}
use Rattle.sig_types.specs.declared.model.Block.{Block}
use Rattle.sig_types.specs.declared.model.Part.{Part}
use Rattle.sig_types.specs.declared.model.Functional.{Functional}
use Rattle.sig_types.specs.declared.model.Point.{Point}
use Rattle.sig_types.specs.declared.model.Test.{Test}
use Rattle.sig_flat.specs.declared.flat.NodeKind.{NodeKind}
use Rattle.sig_flat.specs.declared.flat.NodeKind.TheVariants.{Port, Switch, Part as PartNode, Point as PointNode}
use Rattle.sig_flat.specs.declared.pattern.NodePattern.{NodePattern}
use Rattle.sig_flat.specs.declared.pattern.FaultPattern.{FaultPattern}
use Rattle.sig_flat.specs.declared.pattern.TestPattern.{TestPattern}
use Rattle.sig_flat.specs.declared.pattern.Pattern.{Pattern}
use Rattle.sig_flat.specs.Words.{place_among, word_of}

abbrev pub plain_pattern : NodeKind → List ℕ → NodePattern
plain_pattern kind name = record { name = name; kind = kind; stops = record { 0 = 0 } }

abbrev pub part_pattern : List (List ℕ) → Part → NodePattern
part_pattern signals p = record { name = p.name; kind = PartNode; stops = record { 0 = word_of signals p.stops } }

abbrev pub point_pattern : Point → NodePattern
point_pattern p = plain_pattern PointNode p.name

-- ports, switches, parts, points
unfoldable pub node_patterns : List (List ℕ) → Block → List NodePattern
node_patterns signals block =
    map (plain_pattern Port) block.ports
    ++ map (plain_pattern Switch) block.switches
    ++ map (part_pattern signals) block.parts
    ++ map point_pattern block.points

abbrev pub functional_patterns : List (List ℕ) → ℕ → List ℕ → Option Functional → List FaultPattern
functional_patterns signals at part None = []
functional_patterns signals at part (Some f) = record { at = at; part = part; general = false; signals = record { 0 = word_of signals f.signals }; weight = f.weight } ∷ []

abbrev pub general_patterns : ℕ → List ℕ → Option ℕ → List FaultPattern
general_patterns at part None = []
general_patterns at part (Some w) = record { at = at; part = part; general = true; signals = record { 0 = 0 }; weight = w } ∷ []

-- the faults of parts that stand one after another from a place on
abbrev pub fault_patterns_from : List (List ℕ) → ℕ → List Part → List FaultPattern
fault_patterns_from signals at [] = []
fault_patterns_from signals at (p ∷ rest) = (functional_patterns signals at p.name p.functional ++ general_patterns at p.name p.general) ++ fault_patterns_from signals (suc at) rest

abbrev pub first_part : Block → ℕ
first_part block = length block.ports + length block.switches

abbrev pub first_point : Block → ℕ
first_point block = first_part block + length block.parts

unfoldable pub fault_patterns : List (List ℕ) → Block → List FaultPattern
fault_patterns signals block = fault_patterns_from signals (first_part block) block.parts

abbrev pub mode_number : List (List ℕ) → Option (List ℕ) → ℕ
mode_number modes None = 0
mode_number modes (Some mode) = place_among modes mode

abbrev pub test_pattern : List (List ℕ) → List (List ℕ) → ℕ → List ℕ → Test → TestPattern
test_pattern signals modes at point t =
    record { at = at; point = point; name = t.name; cost = t.cost; signals = record { 0 = word_of signals t.signals }; mode = mode_number modes t.mode }

-- the tests of points that stand one after another from a place on
abbrev pub test_patterns_from : List (List ℕ) → List (List ℕ) → ℕ → List Point → List TestPattern
test_patterns_from signals modes at [] = []
test_patterns_from signals modes at (p ∷ rest) = map (test_pattern signals modes at p.name) p.tests ++ test_patterns_from signals modes (suc at) rest

unfoldable pub test_patterns : List (List ℕ) → List (List ℕ) → Block → List TestPattern
test_patterns signals modes block = test_patterns_from signals modes (first_point block) block.points

abbrev pub pattern_of : List (List ℕ) → List (List ℕ) → Block → Pattern
pattern_of signals modes block = record { nodes = node_patterns signals block; faults = fault_patterns signals block; tests = test_patterns signals modes block }
