-- The number of each status.
use Rattle.std.specs.Prelude.{ℕ}
use Rattle.teams_run.specs.declared.status.Status.{Status}
use Rattle.teams_run.specs.declared.status.Status.TheVariants.{Done, ModelRefused, Usage, Bounded, ReadFault, WriteFault, NoMemory, Rejected, Missing, TooLong, Conflict}

abbrev pub status_number : Status → ℕ
status_number Done = 0
status_number ModelRefused = 1
status_number Usage = 2
status_number Bounded = 3
status_number ReadFault = 4
status_number WriteFault = 5
status_number NoMemory = 6
status_number Rejected = 7
status_number Missing = 8
status_number TooLong = 9
status_number Conflict = 10
