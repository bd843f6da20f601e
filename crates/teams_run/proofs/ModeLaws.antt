-- A mode's name has a place among the modes exactly where it is one of them.
use Rattle.std.proofs.Common.{◌≡◌, ℕ, List, [], ◌∷◌, length, sym, ap, ◌∙◌, arith, inl, inr}
use Rattle.std.specs.Prelude.{Bool, true, false, cond, not, Some, None}
use Rattle.std.specs.List.{position, position_or_len, list_any}
use Rattle.std.specs.Str.{bytes_eq}
use Rattle.std.proofs.lemmas.Bool.{cases_lt, lt-ltb}
use Rattle.std.proofs.lemmas.Option.{none-some}
use Rattle.std.proofs.lemmas.List.Quantifiers.{position-Some}
use Rattle.std.proofs.lemmas.List.Folds.{list_any_at, list_any_none}
use Rattle.std.proofs.lemmas.List.Sums.{fails_before_first}
use Rattle.sig_types.specs.declared.refusals.Code.TheVariants.{M15}
use Rattle.sig_types.specs.declared.refusals.Place.TheVariants.{ModeOption}
use Rattle.sig_types.specs.Breaches.{breach_if}
use Rattle.teams_run.specs.Accepted.{mode_refusals}

pub any-found : {X : Type 0} (p : X → Bool) (xs : List X) (i : ℕ) (d : X) → position p xs ≡ Some i → list_any p xs ≡ true
any-found p xs i d found = let at = position-Some p xs i d found in list_any_at p xs i d at.0 at.1

pub any-none : {X : Type 0} (p : X → Bool) (xs : List X) → position p xs ≡ None → list_any p xs ≡ false
any-none p xs none = elim (cases_lt (position_or_len p xs) (length xs)) [
  | inl there ↦ absurd (let passes = lt-ltb (position_or_len p xs) (length xs) there in let bad : Some (position_or_len p xs) ≡ None = sym (ap (λ b. cond b (Some (position_or_len p xs)) None) passes) ∙ none in none-some (position_or_len p xs) (sym bad))
  | inr past ↦ list_any_none p xs (λ k d lt. fails_before_first p xs k d (omega (arith, past)))
]

-- a mode that has a place is no breach
pub mode-known : (modes : List (List ℕ)) (name : List ℕ) (i : ℕ) → position (bytes_eq name) modes ≡ Some i → mode_refusals modes (Some name) ≡ []
mode-known modes name i found = ap (λ b. breach_if (not b) M15 ModeOption) (any-found (bytes_eq name) modes i [] found)

-- a mode that has none is one
pub mode-unknown : (modes : List (List ℕ)) (name : List ℕ) → position (bytes_eq name) modes ≡ None → mode_refusals modes (Some name) ≡ record { code = M15; place = ModeOption } ∷ []
mode-unknown modes name none = ap (λ b. breach_if (not b) M15 ModeOption) (any-none (bytes_eq name) modes none)
