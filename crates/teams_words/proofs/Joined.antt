-- Lists of words joined in front of lists.
use Rattle.std.proofs.Common.{◌≡◌, ℕ, Bool, true, false, List, ◌∷◌, Option, Some, None, refl, ap, append_assoc}
use Rattle.teams_words.specs.Words.{Parts, joined, with_parts, no_parts}
use Rattle.teams_words.specs.declared.parts.Reader.{Reader}
use Rattle.teams_words.specs.Read.{Reads, whole}

joined_assoc : (p q r : Parts) → joined p (joined q r) ≡ joined (joined p q) r
joined_assoc p q r = rw (append_assoc p.cert q.cert r.cert, append_assoc p.workers q.workers r.workers, append_assoc p.groups q.groups r.groups, append_assoc p.mode q.mode r.mode, append_assoc p.log q.log r.log, append_assoc p.others q.others r.others) refl

pub with_more : (p q : Parts) (r : Option Parts) → with_parts p (with_parts q r) ≡ with_parts (joined p q) r
with_more p q None = refl
with_more p q (Some r) = ap Some (joined_assoc p q r)

pub with_none : (p : Option Parts) → with_parts no_parts p ≡ p
with_none None = refl
with_none (Some p) = refl

pub refused_by : (taken : Bool) (word : List ℕ) (old new : Reader) → taken ≡ false → Reads word old new taken → (rest : List (List ℕ)) → whole old (word ∷ rest) ≡ None
refused_by true word old new e reads rest = cc
refused_by false word old new e reads rest = reads rest

pub taken_by : (taken : Bool) (word : List ℕ) (old new : Reader) → taken ≡ true → Reads word old new taken → (rest : List (List ℕ)) → whole old (word ∷ rest) ≡ whole new rest
taken_by true word old new e reads rest = reads rest
taken_by false word old new e reads rest = cc
