-- Texts that the definitions are tried on.
use Rattle.std.specs.Prelude.{ℕ, List, codes}

-- two parts, each seen by a test of its own
abbrev pub box : List ℕ
box = codes "version = 1\ngood = 6\ntop = \"box\"\nsignals = [\"s\"]\n\n[[block]]\nname = \"box\"\npart = [\n  {name = \"A\", functional = 3, signals = [\"s\"]},\n  {name = \"B\", functional = 1, signals = [\"s\"]},\n]\npoint = [\n  {name = \"X\", test = [{name = \"tA\", cost = 2, signals = [\"s\"]}]},\n  {name = \"Y\", test = [{name = \"tB\", cost = 1, signals = [\"s\"]}]},\n]\nlink = [{from = \"A\", to = \"X\"}, {from = \"B\", to = \"Y\"}]\n"

-- a block of every kind of item
abbrev pub stage : List ℕ
stage = codes "version = 1\ngood = 0\ntop = \"b\"\nmodes = [\"m\"]\n[[block]]\nname = \"b\"\nports = [\"in\"]\nswitches = [\"W\"]\npart = [{name = \"P\", general = 2, stops = [\"s\"]}]\nuse = [{name = \"u\", block = \"a\"}]\npoint = [{name = \"X\", test = [{name = \"t\", cost = 1, signals = [], mode = \"m\"}]}]\nlink = [{from = \"u.out\", to = \"W\", modes = [\"m\"]}]\n"

-- a text with breaches of each code, more than one in some tables
abbrev pub broken : List ℕ
broken = codes "version = 2\ngood = -1\nsignals = [\"s\", 7, \"a b\"]\nblock = [{name = \"b\", part = [{colour = 1, signals = []}, {name = \"P\", functional = 0}], link = [{from = \"a.b.c\", to = \"a.b\"}, 7]}]\n"
