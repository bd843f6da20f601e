-- A model without a breach stays one where `normal` is added.
use Rattle.std.proofs.Common.{◌≡◌, ℕ, ◌≤◌, List, [], ◌∷◌, length, lit≤, arith}
use Rattle.sig_types.specs.declared.model.Model.{Model}
use Rattle.sig_types.specs.Breaches.{breaches, known_modes, or_normal}

pub modes-kept : (modes : List (List ℕ)) → 1 ≤ length (or_normal modes)
modes-kept [] = lit≤ tt
modes-kept (m ∷ modes) = omega arith

sound : (model : Model) (modes : List (List ℕ)) → breaches (record model { modes = modes }) ≡ [] → breaches (record model { modes = or_normal modes }) ≡ []
sound model [] h = h
sound model (m ∷ modes) h = h

pub kept-sound : (model : Model) → breaches model ≡ [] → breaches (record model { modes = known_modes model }) ≡ []
kept-sound model h = sound model model.modes h
