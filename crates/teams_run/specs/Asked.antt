-- What a plan that asks for a strategy comes to before the search.
use Rattle.std.specs.Prelude.{ℕ, ◌≤◌, List, length}
use Rattle.sig_edge.specs.Shelf.{Holds, HoldsWhole}
use Rattle.sig_matrix.specs.Valid.{IsValid}
use Rattle.sig_classes.specs.Labels.{labels_from}
use Rattle.seq_shown.specs.Laws.{ArePrintable}
use Rattle.teams_words.specs.declared.plan.Plan.{Plan}
use Rattle.teams_run.specs.declared.answering.Accepted.{Accepted}
use Rattle.teams_run.specs.declared.preparing.Prepared.{Prepared}
use Rattle.teams_run.specs.declared.asking.Asked.{Asked}
use Rattle.teams_run.specs.declared.asking.Asked.TheVariants.{Told, Search}
use Rattle.teams_run.specs.Accepted.{IsMatrixOfText}
use Rattle.teams_run.specs.Ready.{IsPrepared}
use Rattle.teams_run.specs.Runs.{model_limit}
use Rattle.teams_run.specs.Texts.{IsDue, mode_word}

-- the bytes are accepted, and their model is ready for a search
pub record IsPosed (plan : Plan) (content : List ℕ) (accepted : Accepted) (prepared : Prepared) : Type 0 where
  pub of_text : IsMatrixOfText content plan.mode accepted.flat accepted.matrix
  pub valid : IsValid accepted.matrix
  pub printable : ArePrintable (labels_from accepted.matrix (mode_word plan.mode))
  pub ready : IsPrepared accepted.matrix (mode_word plan.mode) prepared

-- a text is due for the bytes already, or a search is
abbrev pub IsAsked : Plan → List ℕ → Asked → Type 0
IsAsked plan content (Told due) = (holds : Holds) → IsDue plan holds content due.status due.text.items
IsAsked plan content (Search accepted prepared) = IsPosed plan content accepted prepared

-- so it is for the file that is held under the plan's MODEL
pub record IsAskedOfFile (plan : Plan) (holds : Holds) (asked : Asked) : Type 0 where
  pub content : List ℕ
  pub held : HoldsWhole holds plan.model content
  pub within : length content ≤ model_limit
  pub is_asked : IsAsked plan content asked
