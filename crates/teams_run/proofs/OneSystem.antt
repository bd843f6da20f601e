-- One system of a text: a text without breach has a model without breach, which has one flat model, which has one matrix.
use Rattle.std.proofs.Common.{◌≡◌, ℕ, List, [], ◌∷◌, ◌++◌, Option, subst}
use Rattle.std.specs.Option.{option_to_list}
use Rattle.sig_types.specs.declared.model.Model.{Model}
use Rattle.sig_types.specs.Breaches.{breaches, or_normal}
use Rattle.sig_text.specs.Texts.{text_breaches, text_model}
use Rattle.sig_flat.specs.declared.flat.Flat.{Flat}
use Rattle.sig_flat.specs.Counts.{flat_refusal}
use Rattle.sig_flat.specs.Laws.{HasOneFlat}
use Rattle.sig_matrix.specs.Detection.{IsMatrixOf}
use Rattle.sig_matrix.specs.Laws.{HasOneMatrix}
use Rattle.teams_run.specs.Accepted.{mode_number, mode_refusals, model_of, refusals, text_refusals}
use Rattle.teams_run.specs.Exact.{HasOneSystem}
use Rattle.teams_run.proofs.RefusalLaws.{front-none, rest-none}

-- the one mode of a model that declares none brings no breach
with-normal : (model : Model) (modes : List (List ℕ)) → breaches (record model { modes = modes }) ≡ [] → breaches (record model { modes = or_normal modes }) ≡ []
with-normal model [] e = e
with-normal model (m ∷ modes) e = e

-- the model of an accepted text has no breach
sound : (content : List ℕ) (mode : Option (List ℕ)) → refusals content mode ≡ [] → breaches (model_of content) ≡ []
sound content mode e =
    let of_text = front-none (text_refusals content) (mode_refusals (model_of content).modes mode) e in
    let later = rest-none (text_breaches content) (breaches (text_model content) ++ option_to_list (flat_refusal (model_of content))) of_text in
    with-normal (text_model content) (text_model content).modes (front-none (breaches (text_model content)) (option_to_list (flat_refusal (model_of content))) later)

pub one-system : HasOneFlat → HasOneMatrix → HasOneSystem
one-system one_flat one_matrix content mode flat other matrix another p q =
    let same : flat ≡ other = one_flat (model_of content) (sound content mode p.accepted) flat other p.flat_is q.flat_is in
    let number = mode_number (model_of content).modes mode in
    (same, one_matrix other number matrix another (subst (λ (f : Flat). IsMatrixOf f number matrix) same p.matrix_is) q.matrix_is)
