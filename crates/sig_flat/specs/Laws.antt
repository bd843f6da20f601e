-- A model has one flat model.
use Rattle.std.specs.Prelude.{◌≡◌, []}
use Rattle.sig_types.specs.declared.model.Model.{Model}
use Rattle.sig_types.specs.Breaches.{breaches}
use Rattle.sig_flat.specs.declared.flat.Flat.{Flat}
use Rattle.sig_flat.specs.Flats.{IsFlatOf}

-- two flat models of a model without breach are the same
abbrev pub HasOneFlat : Type 0
HasOneFlat = (model : Model) → breaches model ≡ [] → (flat other : Flat) → IsFlatOf model flat → IsFlatOf model other → flat ≡ other
