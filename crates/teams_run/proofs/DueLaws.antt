-- What is judged of a certificate, or is reasoned over a log, is what is due.
use Rattle.std.proofs.Common.{◌≡◌, ℕ, ◌≤◌, List, length, inl, inr}
use Rattle.sig_edge.specs.Shelf.{Holds, HoldsWhole}
use Rattle.sig_flat.specs.declared.flat.Flat.{Flat}
use Rattle.sig_matrix.specs.declared.matrix.Matrix.{Matrix}
use Rattle.sig_matrix.specs.Detection.{system_of}
use Rattle.sig_classes.specs.Labels.{labels_from}
use Rattle.teams_words.specs.declared.plan.Plan.{Plan}
use Rattle.teams_words.specs.declared.plan.Action.TheVariants.{Check, Reason}
use Rattle.teams_run.specs.declared.status.Status.{Status}
use Rattle.teams_run.specs.declared.status.Status.TheVariants.{Done, ModelRefused, Usage, Bounded, ReadFault, WriteFault, NoMemory, Rejected, Missing, TooLong, Conflict}
use Rattle.teams_run.specs.Accepted.{IsMatrixOfText}
use Rattle.teams_run.specs.Judged.{IsJudgement}
use Rattle.teams_run.specs.Reasoned.{IsReasoning}
use Rattle.teams_run.specs.Texts.{IsChecked, IsDue, IsReasoned, cert_limit, cert_name, log_limit, log_name, mode_word}

module _ (plan : Plan) (holds : Holds) (content text cert : List ℕ) (flat : Flat) (matrix : Matrix)
    (action : plan.action ≡ Check) (of_text : IsMatrixOfText content plan.mode flat matrix)
    (held : HoldsWhole holds (cert_name plan) cert) (within : length cert ≤ cert_limit) where
  checked : (status : Status) → IsJudgement (system_of matrix) (labels_from matrix (mode_word plan.mode)) cert status text → IsChecked plan holds content status text
  checked status judged = record { action = action; flat = flat; matrix = matrix; of_text = of_text; cert = cert; held = held; within = within; judged = judged }

  pub due : (status : Status) → IsJudgement (system_of matrix) (labels_from matrix (mode_word plan.mode)) cert status text → IsDue plan holds content status text
  due Done judged = inr (inl (checked Done judged))
  due Rejected judged = inl (checked Rejected judged)
  due ModelRefused judged = absurd judged
  due Usage judged = absurd judged
  due Bounded judged = absurd judged
  due ReadFault judged = absurd judged
  due WriteFault judged = absurd judged
  due NoMemory judged = absurd judged
  due Missing judged = absurd judged
  due TooLong judged = absurd judged
  due Conflict judged = absurd judged

module _ (plan : Plan) (holds : Holds) (content text log : List ℕ) (flat : Flat) (matrix : Matrix)
    (action : plan.action ≡ Reason) (of_text : IsMatrixOfText content plan.mode flat matrix)
    (held : HoldsWhole holds (log_name plan) log) (within : length log ≤ log_limit) where
  reasoned : (status : Status) → IsReasoning matrix (mode_word plan.mode) log status text → IsReasoned plan holds content status text
  reasoned status reasoning = record { action = action; flat = flat; matrix = matrix; of_text = of_text; log = log; held = held; within = within; reasoning = reasoning }

  pub due_by_log : (status : Status) → IsReasoning matrix (mode_word plan.mode) log status text → IsDue plan holds content status text
  due_by_log Done reasoning = inr (inr (reasoned Done reasoning))
  due_by_log Rejected reasoning = inr (reasoned Rejected reasoning)
  due_by_log Conflict reasoning = reasoned Conflict reasoning
  due_by_log ModelRefused reasoning = absurd reasoning
  due_by_log Usage reasoning = absurd reasoning
  due_by_log Bounded reasoning = absurd reasoning
  due_by_log ReadFault reasoning = absurd reasoning
  due_by_log WriteFault reasoning = absurd reasoning
  due_by_log NoMemory reasoning = absurd reasoning
  due_by_log Missing reasoning = absurd reasoning
  due_by_log TooLong reasoning = absurd reasoning
