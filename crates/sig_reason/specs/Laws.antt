-- A matrix and the bytes of a log leave nothing open: neither what was found, nor what a fault is called, nor what is wrong.
use Rattle.std.specs.Prelude.{◌≡◌, ℕ, List}
use Rattle.sig_matrix.specs.declared.matrix.Matrix.{Matrix}
use Rattle.sig_reason.specs.declared.found.Finding.{Finding}
use Rattle.sig_reason.specs.declared.found.Label.{Label}
use Rattle.sig_reason.specs.declared.log.BadLogLine.{BadLogLine}
use Rattle.sig_reason.specs.FaultSets.{Case, IsPossible}
use Rattle.sig_reason.specs.Labelling.{AreCalled, IsConflict}
use Rattle.sig_reason.specs.Log.{IsLog, IsFirstBadLine}

pub record HasOneReasoning : Type 0 where
  -- bytes are a log of one list of findings, or have one first bad line
  pub one_log : (matrix : Matrix) (bytes : List ℕ) (found other : List Finding) → IsLog matrix bytes found → IsLog matrix bytes other → found ≡ other
  pub one_bad : (matrix : Matrix) (bytes : List ℕ) (bad other : BadLogLine) → IsFirstBadLine matrix bytes bad → IsFirstBadLine matrix bytes other → bad ≡ other
  pub log_or_bad : (matrix : Matrix) (bytes : List ℕ) (found : List Finding) (bad : BadLogLine) → IsLog matrix bytes found → IsFirstBadLine matrix bytes bad → ⊥
  -- each fault is called one thing, or one test is the conflict
  pub one_label : (c : Case) (labels other : List Label) → IsPossible c → AreCalled c labels → AreCalled c other → labels ≡ other
  pub one_conflict : (c : Case) (test other : ℕ) → IsConflict c test → IsConflict c other → test ≡ other
  pub possible_or_conflict : (c : Case) (test : ℕ) → IsPossible c → IsConflict c test → ⊥
