-- A chain of n parts p1 to pn, each behind the one before it, with a test point x1 to xn behind each.
use Rattle.std.specs.Prelude.{ℕ, ◌+◌, ◌-◌, ◌*◌, ◌%◌, List, [], ◌∷◌, ◌++◌, map, codes, decimal, Some, None}
use Rattle.std.specs.List.{range_with_len}
use Rattle.sig_types.specs.declared.model.Model.{Model}
use Rattle.sig_types.specs.declared.model.Block.{Block}
use Rattle.sig_types.specs.declared.model.Part.{Part}
use Rattle.sig_types.specs.declared.model.Point.{Point}
use Rattle.sig_types.specs.declared.model.Test.{Test}
use Rattle.sig_types.specs.declared.model.Link.{Link}
use Rattle.sig_types.specs.declared.model.End.{End}

-- how many parts a chain may have
abbrev pub most_parts : ℕ
most_parts = 100

-- the names of part i and of point i
abbrev pub part_name : ℕ → List ℕ
part_name i = codes "p" ++ decimal i

abbrev pub point_name : ℕ → List ℕ
point_name i = codes "x" ++ decimal i

-- the one signal
abbrev pub signals : List (List ℕ)
signals = codes "s" ∷ []

-- the weight of part i, and the cost of test i
abbrev pub part_weight : ℕ → ℕ
part_weight i = 1 + 7 * i % 10

abbrev pub test_cost : ℕ → ℕ
test_cost i = 1 + 3 * i % 4

-- part i has a functional fault on the signal
abbrev pub part : ℕ → Part
part i = record { name = part_name i; functional = Some (record { weight = part_weight i; signals = signals }); general = None; stops = [] }

-- point i has one test for the signal
abbrev pub point : ℕ → Point
point i = record { name = point_name i; tests = record { name = codes "t"; cost = test_cost i; signals = signals; mode = None } ∷ [] }

abbrev pub end_at : List ℕ → End
end_at name = record { first = name; second = None }

-- from part i to the part behind it
abbrev pub step : ℕ → Link
step i = record { from = end_at (part_name i); to = end_at (part_name (i + 1)); modes = [] }

-- from part i to its point
abbrev pub tap : ℕ → Link
tap i = record { from = end_at (part_name i); to = end_at (point_name i); modes = [] }

abbrev pub chain_block : ℕ → Block
chain_block n = record {
  name = codes "chain";
  ports = [];
  switches = [];
  parts = map part (range_with_len 1 n);
  uses = [];
  points = map point (range_with_len 1 n);
  links = map step (range_with_len 1 (n - 1)) ++ map tap (range_with_len 1 n);
}

abbrev pub chain : ℕ → Model
chain n = record { good = 10; top = codes "chain"; signals = signals; modes = []; blocks = chain_block n ∷ [] }
