-- What is due for a plan and its files is one answer, and what `solve` wrote `check` accepts.
use Rattle.std.specs.Prelude.{◌≡◌, ⊤, ◌⊎◌, ℕ, ◌≤◌, List, length, Option, Some}
use Rattle.sig_edge.specs.Shelf.{Holds, HoldsWhole}
use Rattle.sig_flat.specs.declared.flat.Flat.{Flat}
use Rattle.sig_matrix.specs.declared.matrix.Matrix.{Matrix}
use Rattle.teams_words.specs.declared.plan.Plan.{Plan}
use Rattle.teams_words.specs.declared.plan.Action.TheVariants.{Solve, Check}
use Rattle.teams_run.specs.declared.status.Status.{Status}
use Rattle.teams_run.specs.declared.status.Status.TheVariants.{Done, Bounded}
use Rattle.teams_run.specs.Accepted.{IsMatrixOfText}
use Rattle.teams_run.specs.Texts.{IsAnswer, IsDue, cert_limit, cert_name}

-- two flat models of one text are the same, and so are two matrices of one text and mode
abbrev pub HasOneSystem : Type 0
HasOneSystem = (content : List ℕ) (mode : Option (List ℕ)) (flat other : Flat) (matrix another : Matrix)
    → IsMatrixOfText content mode flat matrix → IsMatrixOfText content mode other another → (flat ≡ other) × (matrix ≡ another)

-- the statuses of a strategy's report
abbrev pub IsSearched : Status → Type 0
IsSearched Done = ⊤
IsSearched Bounded = ⊤
IsSearched other = ⊥

-- both texts are reports that `solve` may write: which groups a search enters is left open, so of two reports one may be
-- optimal and the other bounded, but no text is both
pub record AreReports (plan : Plan) (status other : Status) (text another : List ℕ) : Type 0 where
  pub action : plan.action ≡ Solve
  pub searched : IsSearched status
  pub searched_too : IsSearched other
  pub told : text ≡ another → status ≡ other

-- two answers are one, with one status; but for two reports of a search
abbrev pub AreOne : Plan → Status → Status → List ℕ → List ℕ → Type 0
AreOne plan status other text another = ((status ≡ other) × (text ≡ another)) ⊎ AreReports plan status other text another

-- no two of Done, Bounded, ModelRefused, Rejected and Conflict are due: two answers that are due for the same bytes, plan,
-- and certificate or log are one
abbrev pub HasOneAnswer : Type 0
HasOneAnswer = (plan : Plan) (held : List ℕ → Option (List ℕ)) (content text another : List ℕ) (status other : Status)
    → IsDue plan (Some held) content status text → IsDue plan (Some held) content other another → AreOne plan status other text another

-- what `solve` wrote of some bytes and a mode, held as a certificate within its limit, `check` accepts for them
abbrev pub SolvedIsAccepted : Type 0
SolvedIsAccepted = (solve check : Plan) (holds : Holds) (content text : List ℕ) (status : Status)
    → solve.action ≡ Solve → check.action ≡ Check → check.mode ≡ solve.mode
    → IsAnswer solve content status text → HoldsWhole holds (cert_name check) text → length text ≤ cert_limit
    → (line : List ℕ) × IsDue check holds content Done line
