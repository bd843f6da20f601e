use Rattle.seq_inst.specs.Instances.{problem_of}
use Rattle.seq_solo.proofs.FoundLaws.{sound-long}
use Rattle.seq_solo.proofs.tests.crossed_within_seven_groups.Goals as goal

pub settle-requires-clause-sound : goal.settle-requires-clause-sound
settle-requires-clause-sound g c = sound-long _ 7 _ c.in_ok-graph.ensures.sound
