-- Files in memory, the newest first.
use Rattle.std.specs.Prelude.{ℕ, List, [], ◌∷◌, Option, Some, None, string_bytes, if◌then◌else◌}
use Rattle.std.specs.Str.{bytes_eq}
use Rattle.sig_edge.specs.declared.memory_shelf.File.{File}

-- the bytes of the first file with the name
abbrev pub found : List File → List ℕ → Option (List ℕ)
found [] name = None
found (f ∷ files) name = if bytes_eq (string_bytes f.name) name then Some f.bytes.items else found files name
