-- What an answer for the document's table says of the text.
use Rattle.std.proofs.Common.{◌≡◌, ℕ, List, [], Some, Ok, Err}
use Rattle.std.specs.Prelude.{Result, IfOk, IfErr}
use Rattle.toml.specs.Data.{Members}
use Rattle.sig_types.specs.declared.model.Model.{Model}
use Rattle.sig_types.specs.declared.refusals.ModelFault.{ModelFault}
use Rattle.sig_text.specs.Document.{document_of}
use Rattle.sig_text.specs.Tables.{document_breaches, model_of}
use Rattle.sig_text.specs.Texts.{text_breaches, text_model}
use Rattle.sig_types.specs.Refused.{Answers, TellsFirst}

pub stands_for : (bytes : List ℕ) (table : Members) (answer : Result Model ModelFault) → document_of bytes ≡ Some table → Answers answer (document_breaches table) (model_of table) → IfOk answer (λ model. (text_breaches bytes ≡ []) × (model ≡ text_model bytes))
stands_for bytes table (Ok model) found h = rw found h
stands_for bytes table (Err fault) found h = tt

pub tells_first : (bytes : List ℕ) (table : Members) (answer : Result Model ModelFault) → document_of bytes ≡ Some table → Answers answer (document_breaches table) (model_of table) → IfErr answer (TellsFirst (text_breaches bytes))
tells_first bytes table (Ok model) found h = tt
tells_first bytes table (Err fault) found h = rw found h
