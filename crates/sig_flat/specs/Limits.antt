-- The limits of a flat model.
use Rattle.std.specs.Prelude.{ℕ}

-- how many uses may stand one in another
abbrev pub max_depth : ℕ
max_depth = 16

abbrev pub max_uses : ℕ
max_uses = 4096

abbrev pub max_nodes : ℕ
max_nodes = 4096

abbrev pub max_links : ℕ
max_links = 32768

abbrev pub max_faults : ℕ
max_faults = 4096

abbrev pub max_tests : ℕ
max_tests = 256
