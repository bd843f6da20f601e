-- No chain has a breach: it is computed for each length.
use Rattle.std.proofs.Common.{◌≡◌, ℕ, ◌+◌, ◌<◌, ◌≤◌, Bool, true, false, List, [], ◌∷◌, refl, arith}
use Rattle.std.specs.List.{range_with_len, list_all}
use Rattle.std.specs.Fmt.{digits}
use Rattle.sig_types.specs.declared.refusals.Refusal.{Refusal}
use Rattle.sig_types.specs.Breaches.{breaches}
use Rattle.sig_sample.specs.Chain.{chain}
use Rattle.sig_sample.proofs.NameLaws.{each_below}

abbrev is_none_left : List Refusal → Bool
is_none_left [] = true
is_none_left (r ∷ rest) = false

none_left : (rs : List Refusal) → is_none_left rs ≡ true → rs ≡ []
none_left [] e = refl
none_left (r ∷ rest) e = cc

pub no_breach : (n : ℕ) → n ≤ 100 → breaches (chain n) ≡ []
unfolding digits
no_breach n few = none_left (breaches (chain n)) (each_below (λ k. is_none_left (breaches (chain k))) 101 n refl (omega arith))
