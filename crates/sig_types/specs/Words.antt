-- The word by which each code, count, kind of item and key is written, in a text and in a refusal.
use Rattle.std.specs.Prelude.{ℕ, List, codes}
use Rattle.sig_types.specs.declared.refusals.Code.{Code}
use Rattle.sig_types.specs.declared.refusals.Code.TheVariants.{M01, M02, M03, M04, M05, M06, M07, M08, M09, M10, M11, M12, M13, M14, M15}
use Rattle.sig_types.specs.declared.refusals.Counted.{Counted}
use Rattle.sig_types.specs.declared.refusals.Counted.TheVariants.{Signals as ManySignals, Modes as ManyModes, Blocks, Depth, Uses, Nodes, Links, Faults, Tests, Classes}
use Rattle.sig_types.specs.declared.refusals.Kind.{Kind}
use Rattle.sig_types.specs.declared.refusals.Kind.TheVariants.{Part as PartKind, Use as UseKind, Point as PointKind, Link as LinkKind}
use Rattle.sig_types.specs.declared.refusals.Key.{Key}
use Rattle.sig_types.specs.declared.refusals.Key.TheVariants.{Version, Good, Top, Signals, Modes, Block, Name, Ports, Switches, Part, Use, Point, Link, Functional, General, Stops, Test, Cost, Mode, From, To}

-- a code
abbrev pub code_word : Code → List ℕ
code_word M01 = codes "M01"
code_word M02 = codes "M02"
code_word M03 = codes "M03"
code_word M04 = codes "M04"
code_word M05 = codes "M05"
code_word M06 = codes "M06"
code_word M07 = codes "M07"
code_word M08 = codes "M08"
code_word M09 = codes "M09"
code_word M10 = codes "M10"
code_word M11 = codes "M11"
code_word M12 = codes "M12"
code_word M13 = codes "M13"
code_word M14 = codes "M14"
code_word M15 = codes "M15"

-- what is counted
abbrev pub counted_word : Counted → List ℕ
counted_word ManySignals = codes "signals"
counted_word ManyModes = codes "modes"
counted_word Blocks = codes "blocks"
counted_word Depth = codes "depth"
counted_word Uses = codes "uses"
counted_word Nodes = codes "nodes"
counted_word Links = codes "links"
counted_word Faults = codes "faults"
counted_word Tests = codes "tests"
counted_word Classes = codes "classes"

-- a kind of item
abbrev pub kind_word : Kind → List ℕ
kind_word PartKind = codes "part"
kind_word UseKind = codes "use"
kind_word PointKind = codes "point"
kind_word LinkKind = codes "link"

-- a key
abbrev pub key_word : Key → List ℕ
key_word Version = codes "version"
key_word Good = codes "good"
key_word Top = codes "top"
key_word Signals = codes "signals"
key_word Modes = codes "modes"
key_word Block = codes "block"
key_word Name = codes "name"
key_word Ports = codes "ports"
key_word Switches = codes "switches"
key_word Part = codes "part"
key_word Use = codes "use"
key_word Point = codes "point"
key_word Link = codes "link"
key_word Functional = codes "functional"
key_word General = codes "general"
key_word Stops = codes "stops"
key_word Test = codes "test"
key_word Cost = codes "cost"
key_word Mode = codes "mode"
key_word From = codes "from"
key_word To = codes "to"
