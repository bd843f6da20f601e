-- What `sample` writes: a summary of the solved chain.
use Rattle.std.specs.Prelude.{◌≡◌, ℕ, List, [], ◌∷◌, length, codes, None}
use Rattle.seq_theory.specs.Problem.{Problem}
use Rattle.seq_theory.specs.States.{problem_of_classes}
use Rattle.seq_inst.specs.declared.outcome.Outcome.{Outcome}
use Rattle.seq_inst.specs.declared.outcome.Verdict.{Verdict}
use Rattle.sig_types.specs.declared.model.Model.{Model}
use Rattle.sig_types.specs.Breaches.{known_modes}
use Rattle.sig_sample.specs.Chain.{chain}
use Rattle.sig_lines.specs.Pieces.{Words, number_words, bytes_of}
use Rattle.sig_flat.specs.declared.flat.Flat.{Flat}
use Rattle.sig_flat.specs.Flats.{IsFlatOf}
use Rattle.sig_matrix.specs.declared.matrix.Matrix.{Matrix}
use Rattle.sig_matrix.specs.Detection.{IsMatrixOf, state_count, system_of}
use Rattle.seq_inst.specs.Verdicts.{verdict_word}
use Rattle.teams_run.specs.Solved.{IsSolved}

-- the chain as it is once it is checked, with `normal` as its one mode
abbrev pub chain_model : ℕ → Model
chain_model parts = let model = chain parts in record model { modes = known_modes model }

-- the counts of the chain, and what its search came to
abbrev pub summary_lines : ℕ → Matrix → Problem → Outcome → List Words
summary_lines parts matrix problem outcome =
    (codes "teams" ∷ codes "sample" ∷ codes "1" ∷ [])
    ∷ number_words (codes "parts") parts
    ∷ number_words (codes "states") (state_count matrix)
    ∷ number_words (codes "classes") problem.classes
    ∷ number_words (codes "tests") (length matrix.tests)
    ∷ (codes "result" ∷ verdict_word outcome.verdict ∷ [])
    ∷ number_words (codes "cost") outcome.cost
    ∷ number_words (codes "low") outcome.low
    ∷ number_words (codes "groups") (length outcome.rows.items)
    ∷ (codes "end" ∷ [])
    ∷ []

-- the text is the summary of a right outcome over the ambiguity groups of the chain of so many parts, with this limit of groups
pub record IsSummary (parts groups : ℕ) (verdict : Verdict) (text : List ℕ) : Type 0 where
  pub flat : Flat
  pub matrix : Matrix
  pub flat_is : IsFlatOf (chain_model parts) flat
  pub matrix_is : IsMatrixOf flat None matrix
  pub outcome : Outcome
  pub solved : IsSolved (system_of matrix) (problem_of_classes (system_of matrix)) groups outcome
  pub verdict_is : outcome.verdict ≡ verdict
  pub text_is : text ≡ bytes_of (summary_lines parts matrix (problem_of_classes (system_of matrix)) outcome)
