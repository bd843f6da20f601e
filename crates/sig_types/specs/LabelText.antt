-- The texts that are labels: what a line can show as one word.
use Rattle.std.specs.Prelude.{ℕ, Bool, ◌&&◌, not, nat_eq, nat_le, List, length}
use Rattle.std.specs.List.{list_all}

-- a byte from 0x21 to 0x7e: it is printed, and it is no blank
abbrev pub is_label_byte : ℕ → Bool
is_label_byte b = nat_le 33 b && nat_le b 126

-- one or more such bytes
abbrev pub is_label : List ℕ → Bool
is_label text = not (nat_eq (length text) 0) && list_all is_label_byte text
