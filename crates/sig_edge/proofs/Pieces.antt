-- One more piece, read or written. A loop over pieces keeps that what was read so far is the beginning of the file, or that what
-- was written so far is the beginning of the text. The next piece begins where that ends, so the two together are a beginning.
use Rattle.std.proofs.Common.{◌≡◌, ℕ, ◌+◌, ◌≤◌, List, [], ◌++◌, length, take, drop, Option, Some, None, Ok, refl, ap, ◌∙◌, append_assoc, length-append, length-take, arith}
use Rattle.std.specs.Bool.{⊤}
use Rattle.std.proofs.Math.Seq.{take-add}
use Rattle.sig_edge.specs.Sink.{Appends}
use Rattle.sig_edge.specs.Shelf.{Holds, ReadsAt, PartOf}

-- the content is the beginning of the file; of no file only nothing is
abbrev pub BeginsIn : Option (List ℕ) → List ℕ → Type 0
BeginsIn None content = content ≡ []
BeginsIn (Some bytes) content = take (length content) bytes ≡ content

-- where the shelf tells, the content is the beginning of what the name is held with
abbrev pub HoldsFront : Holds → List ℕ → List ℕ → Type 0
HoldsFront None name content = ⊤
HoldsFront (Some held) name content = BeginsIn (held name) content

-- the next n bytes after the first i
pub appends_more : (old now new : Option (List ℕ)) (bytes : List ℕ) (i n : ℕ) → Appends old now (take i bytes) → Appends now new (take n (drop i bytes)) → Appends old new (take (i + n) bytes)
appends_more None now new bytes i n first more = rw (more, first) refl
appends_more (Some old) now new bytes i n first more = rw (more, first, take-add i n bytes) (ap Some (append_assoc old _ _))

-- a beginning and the part of the file that follows it are a beginning
taken_more : (bytes content piece : List ℕ) (n : ℕ) → take (length content) bytes ≡ content → piece ≡ take n (drop (length content) bytes) → n ≤ length (drop (length content) bytes) → take (length (content ++ piece)) bytes ≡ content ++ piece
taken_more bytes content piece n front same within =
    let long : length piece ≡ n = ap length same ∙ length-take n _ ∙ omega arith in
    rw (length-append content piece, long, take-add (length content) n bytes, front, ← same) refl

-- so it is with what a read gave
begins_more : (o : Option (List ℕ)) (content into piece : List ℕ) (n : ℕ) → BeginsIn o content → PartOf o (length content) into n → piece ≡ take n into → BeginsIn o (content ++ piece)
begins_more None content into piece n front part same = absurd part
begins_more (Some bytes) content into piece n front part same = taken_more bytes content piece n front (same ∙ part.same) part.within

-- what was read before is the beginning of what is held, and so it is with what was read now
pub holds_more : (h : Holds) (name content into piece : List ℕ) (n : ℕ) → HoldsFront h name content → ReadsAt h name (length content) into (Ok n) → piece ≡ take n into → HoldsFront h name (content ++ piece)
holds_more None name content into piece n front read same = tt
holds_more (Some held) name content into piece n front read same = begins_more (held name) content into piece n front read same
