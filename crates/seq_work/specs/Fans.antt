-- Seats with what their workers keep, before and after they work.
use Rattle.std.specs.Prelude.{◌≡◌, List, [], length, All, Option, IfSome, IsSome}
use Rattle.std.specs.List.{AllZip}
use Rattle.seq_inst.specs.declared.instance.Instance.{Instance}
use Rattle.seq_inst.specs.Instances.{problem_of}
use Rattle.seq_words.specs.Seats.{Wording, Sitting, IsOf}
use Rattle.seq_work.specs.declared.local.Local.{Local}
use Rattle.seq_work.specs.declared.work.WorkEnd.{WorkEnd}
use Rattle.seq_work.specs.Works.{Ready}
use Rattle.seq_work.specs.Ends.{KnowsRoot, Worked}

-- the worker is ready, has no row yet, and its seat knows the place of the group of all classes
pub record MayBegin (inst : Instance) (words : Wording) (seat : Sitting) (l : Local) : Type 0 where
  pub ready : Ready inst words seat l
  pub empty : l.graph.rows.items ≡ []
  pub root : KnowsRoot (problem_of inst) seat.view

-- a seat whose worker has ended: it knows the group of all classes still, and the end has its cause
pub record WorkedAt (inst : Instance) (words : Wording) (seat : Sitting) (end : Option WorkEnd) : Type 0 where
  pub root : KnowsRoot (problem_of inst) seat.view
  pub cause : IfSome end (Worked inst words seat)
  pub some : IsSome end

-- seats, what their workers keep, and room for their ends
pub record AreReady (inst : Instance) (words : Wording) (seats : List Sitting) (locals : List Local) (ends : List (Option WorkEnd)) : Type 0 where
  pub as_locals : length seats ≡ length locals
  pub as_ends : length seats ≡ length ends
  pub ready : AllZip (MayBegin inst words) seats locals

-- seats whose workers have ended, with what these know
pub record AreDone (inst : Instance) (words : Wording) (seats : List Sitting) (locals : List Local) (ends : List (Option WorkEnd)) : Type 0 where
  pub of : All (IsOf words) seats
  pub ready : AllZip (Ready inst words) seats locals
  pub ended : AllZip (WorkedAt inst words) seats ends
