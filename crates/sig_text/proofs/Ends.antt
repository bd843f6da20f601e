-- The two parts of a text round its first `.`: where there is none, nothing stands after it.
use Rattle.std.proofs.Common.{◌≡◌, ◌+◌, ◌<◌, ℕ, List, [], length, Option, Some, None, MatchOption, Bor, arith}
use Rattle.std.specs.List.{position_or_len, before_first, after_first}
use Rattle.std.proofs.lemmas.List.{drop_all}
use Rattle.sig_text.specs.Values.{is_dot}

pub parts_of : (text : List ℕ) (parts : Option (Bor (List ℕ) × Bor (List ℕ)))
    → MatchOption parts (position_or_len is_dot text ≡ length text) (λ x. (position_or_len is_dot text < length text) × (x.0.now ≡ before_first is_dot text) × (x.1.now ≡ after_first is_dot text))
    → MatchOption parts (after_first is_dot text ≡ []) (λ x. (x.0.now ≡ before_first is_dot text) × (x.1.now ≡ after_first is_dot text))
parts_of text None h = drop_all (position_or_len is_dot text + 1) text (omega arith)
parts_of text (Some x) h = (h.1, h.2)
