-- Which model texts are accepted, and the flat model and the matrix of one that is.
use Rattle.std.specs.Prelude.{◌≡◌, ℕ, List, [], ◌++◌, not, Option, Some, None}
use Rattle.std.specs.List.{position}
use Rattle.std.specs.Option.{option_to_list}
use Rattle.std.specs.Str.{bytes_eq}
use Rattle.sig_types.specs.declared.model.Model.{Model}
use Rattle.sig_types.specs.declared.refusals.Refusal.{Refusal}
use Rattle.sig_types.specs.declared.refusals.Code.TheVariants.{M15}
use Rattle.sig_types.specs.declared.refusals.Place.TheVariants.{ModeOption}
use Rattle.sig_types.specs.Breaches.{breaches, breach_if, has, known_modes}
use Rattle.sig_text.specs.Texts.{text_breaches, text_model}
use Rattle.sig_flat.specs.declared.flat.Flat.{Flat}
use Rattle.sig_flat.specs.Flats.{IsFlatOf}
use Rattle.sig_flat.specs.Counts.{flat_refusal}
use Rattle.sig_matrix.specs.declared.matrix.Matrix.{Matrix}
use Rattle.sig_matrix.specs.Detection.{IsMatrixOf}

-- the model that a text stands for; where it declares no mode, `normal` is the one mode
abbrev pub model_of : List ℕ → Model
model_of content = let model = text_model content in record model { modes = known_modes model }

-- a mode that is named has to be one of the model's
abbrev pub mode_refusals : List (List ℕ) → Option (List ℕ) → List Refusal
mode_refusals modes None = []
mode_refusals modes (Some name) = breach_if (not (has modes name)) M15 ModeOption

-- what a text is refused for, in order: its keys and values, its names and links, its unfolded size. What a later layer
-- says counts only where the earlier ones say nothing.
abbrev pub text_refusals : List ℕ → List Refusal
text_refusals content = text_breaches content ++ (breaches (text_model content) ++ option_to_list (flat_refusal (model_of content)))

-- and then a mode that isn't one of its own
abbrev pub refusals : List ℕ → Option (List ℕ) → List Refusal
refusals content mode = text_refusals content ++ mode_refusals (model_of content).modes mode

-- the number of the mode that is named
abbrev pub mode_number : List (List ℕ) → Option (List ℕ) → Option ℕ
mode_number modes None = None
mode_number modes (Some name) = position (bytes_eq name) modes

-- the text is accepted, and the flat model is that of its blocks, unfolded
pub record IsFlatOfText (content : List ℕ) (flat : Flat) : Type 0 where
  pub accepted : text_refusals content ≡ []
  pub flat_is : IsFlatOf (model_of content) flat

-- the text is accepted with this mode, and the matrix is that of its tests in this mode, or of all its tests
pub record IsMatrixOfText (content : List ℕ) (mode : Option (List ℕ)) (flat : Flat) (matrix : Matrix) : Type 0 where
  pub accepted : refusals content mode ≡ []
  pub flat_is : IsFlatOf (model_of content) flat
  pub matrix_is : IsMatrixOf flat (mode_number (model_of content).modes mode) matrix
