-- The breaches of a text, all of them, in the order in which they are looked for, and the model that it stands for.
use Rattle.std.specs.Prelude.{ℕ, List, Option, Some, None}
use Rattle.toml.specs.Data.{Members, no_members}
use Rattle.sig_types.specs.declared.model.Model.{Model}
use Rattle.sig_types.specs.declared.refusals.Code.TheVariants.{M01}
use Rattle.sig_types.specs.declared.refusals.Place.TheVariants.{Document}
use Rattle.sig_types.specs.declared.refusals.Refusal.{Refusal}
use Rattle.sig_types.specs.Breaches.{breach}
use Rattle.sig_text.specs.Document.{document_of}
use Rattle.sig_text.specs.Tables.{document_breaches, model_of}

-- of the table that the bytes are a document of, where they are one
abbrev pub breaches_of : Option Members → List Refusal
breaches_of None = breach M01 Document
breaches_of (Some members) = document_breaches members

abbrev pub stands_for : Option Members → Model
stands_for None = model_of no_members
stands_for (Some members) = model_of members

-- the breaches of a text
abbrev pub text_breaches : List ℕ → List Refusal
text_breaches bytes = breaches_of (document_of bytes)

-- each field is the value of its key; it is meant where there is no breach
abbrev pub text_model : List ℕ → Model
text_model bytes = stands_for (document_of bytes)
