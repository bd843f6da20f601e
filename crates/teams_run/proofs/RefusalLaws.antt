-- The first of several lists of refusals, one after the other; and which layer a text is refused by.
use Rattle.std.proofs.Common.{◌≡◌, ℕ, List, [], ◌∷◌, ◌++◌, refl, sym, subst}
use Rattle.std.specs.Prelude.{Option}
use Rattle.std.specs.Option.{option_to_list}
use Rattle.std.proofs.lemmas.Option.{none-some}
use Rattle.sig_types.specs.declared.model.Model.{Model}
use Rattle.sig_types.specs.declared.refusals.Refusal.{Refusal}
use Rattle.sig_types.specs.declared.refusals.ModelFault.{ModelFault}
use Rattle.sig_types.specs.declared.refusals.ModelFault.TheVariants.{Refused, OutOfMemory}
use Rattle.sig_types.specs.Breaches.{breaches}
use Rattle.sig_types.specs.Refused.{TellsFirst}
use Rattle.sig_text.specs.Texts.{text_breaches, text_model}
use Rattle.sig_flat.specs.Counts.{flat_refusal}
use Rattle.teams_run.specs.Accepted.{model_of, mode_refusals, refusals, text_refusals}

-- lists that are nothing one after the other are nothing each
pub front-none : {X : Type 0} (xs ys : List X) → xs ++ ys ≡ [] → xs ≡ []
front-none [] ys e = refl
front-none (x ∷ xs) ys e = absurd (let no : ⊥ = cc in no)

pub rest-none : {X : Type 0} (xs ys : List X) → xs ++ ys ≡ [] → ys ≡ []
rest-none [] ys e = e
rest-none (x ∷ xs) ys e = absurd (let no : ⊥ = cc in no)

-- the first of the first list is the first of all
tells_left : (xs ys : List Refusal) (f : ModelFault) → TellsFirst xs f → TellsFirst (xs ++ ys) f
tells_left [] ys (Refused r) t = absurd (none-some r t)
tells_left (x ∷ xs) ys (Refused r) t = t
tells_left [] ys OutOfMemory t = tt
tells_left (x ∷ xs) ys OutOfMemory t = tt

-- where the first list is empty, the first of the second
tells_right : (xs ys : List Refusal) (f : ModelFault) → xs ≡ [] → TellsFirst ys f → TellsFirst (xs ++ ys) f
tells_right xs ys f none t = subst (λ zs. TellsFirst (zs ++ ys) f) (sym none) t

pub refused_by_reader : (content : List ℕ) (f : ModelFault) → TellsFirst (text_breaches content) f → TellsFirst (text_refusals content) f
refused_by_reader content f t = tells_left (text_breaches content) (breaches (text_model content) ++ option_to_list (flat_refusal (model_of content))) f t

pub refused_by_check : (content : List ℕ) (model : Model) (f : ModelFault) → text_breaches content ≡ [] → model ≡ text_model content → TellsFirst (breaches model) f → TellsFirst (text_refusals content) f
refused_by_check content model f read is t =
    tells_right (text_breaches content) (breaches (text_model content) ++ option_to_list (flat_refusal (model_of content))) f read
    (tells_left (breaches (text_model content)) (option_to_list (flat_refusal (model_of content))) f (subst (λ m. TellsFirst (breaches m) f) is t))

pub refused_as_text : (content : List ℕ) (mode : Option (List ℕ)) (f : ModelFault) → TellsFirst (text_refusals content) f → TellsFirst (refusals content mode) f
refused_as_text content mode f t = tells_left (text_refusals content) (mode_refusals (model_of content).modes mode) f t
