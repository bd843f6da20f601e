-- What toml's answer over bytes says of `document_of`.
use Rattle.std.proofs.Common.{◌≡◌, ℕ, List, Some, None, inl, inr}
use Rattle.std.specs.Prelude.{IsUtf8}
use Rattle.std.specs.Str.{is_utf8}
use Rattle.std.proofs.lemmas.Bool.{cases_Bool}
use Rattle.std.proofs.lemmas.Str.{is_utf8-from_IsUtf8, IsUtf8-from_is_utf8}
use Rattle.toml.specs.Data.{Members}
use Rattle.toml.specs.Parse.{parse_document}
use Rattle.sig_text.specs.Document.{document_of}

pub document_of-some : (bytes : List ℕ) (found : Members) → IsUtf8 bytes → parse_document bytes ≡ Some found → document_of bytes ≡ Some found
document_of-some bytes found utf8 parsed = rw (is_utf8-from_IsUtf8 bytes utf8) parsed

pub document_of-none : (bytes : List ℕ) → (IsUtf8 bytes → parse_document bytes ≡ None) → document_of bytes ≡ None
document_of-none bytes refused =
    elim (cases_Bool (is_utf8 bytes)) [
      | inl valid ↦ rw valid (refused (IsUtf8-from_is_utf8 bytes valid))
      | inr broken ↦ rw broken
    ]
