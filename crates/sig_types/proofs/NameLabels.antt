-- A name is a label: each byte of it is one that a label may have.
use Rattle.std.proofs.Common.{◌≡◌, ℕ, ◌≤◌, List, [], ◌∷◌, length, refl, arith}
use Rattle.std.specs.Prelude.{true, not, ◌&&◌, ◌==◌, nat_eq, nat_le, slice_index}
use Rattle.std.specs.List.{list_all}
use Rattle.std.proofs.lemmas.Bool.{and_parts, and_from, not_from_false, leb-true, ne_eqb}
use Rattle.std.proofs.lemmas.Bool.Decides.{nat_tests}
use Rattle.sig_types.specs.NameText.{is_name, is_name_byte}
use Rattle.sig_types.specs.LabelText.{is_label, is_label_byte}

name-byte : (b : ℕ) → is_name_byte b ≡ true → is_label_byte b ≡ true
name-byte b e = grind (arith, nat_tests)

name-bytes : (text : List ℕ) → list_all is_name_byte text ≡ true → list_all is_label_byte text ≡ true
name-bytes [] e = refl
name-bytes (b ∷ text) e =
    let s = and_parts (is_name_byte b) (list_all is_name_byte text) e in
    and_from (is_label_byte b) (list_all is_label_byte text) (name-byte b s.0) (name-bytes text s.1)

some-bytes : (text : List ℕ) → 1 ≤ length text → not (nat_eq (length text) 0) ≡ true
some-bytes text some = not_from_false (nat_eq (length text) 0) (ne_eqb (length text) 0 (λ z. let bad : ⊥ = omega arith in bad))

pub name_is_label : (text : List ℕ) → is_name text ≡ true → is_label text ≡ true
name_is_label text e =
    let s = and_parts (nat_le 1 (length text) && nat_le (length text) 32) (not (slice_index text 0 == 45) && list_all is_name_byte text) e in
    let some = leb-true 1 (length text) (and_parts (nat_le 1 (length text)) (nat_le (length text) 32) s.0).0 in
    let bytes = (and_parts (not (slice_index text 0 == 45)) (list_all is_name_byte text) s.1).1 in
    and_from (not (nat_eq (length text) 0)) (list_all is_label_byte text) (some-bytes text some) (name-bytes text bytes)
