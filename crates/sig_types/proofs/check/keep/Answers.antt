use Rattle.sig_types.proofs.KeptLaws.{kept-sound}
use Rattle.sig_types.proofs.check.keep.Goals as goal

pub of-requires-clause-sound : goal.of-requires-clause-sound
of-requires-clause-sound c = rw c.in_ok-kept_modes.ensures (kept-sound c.args.model c.requires.sound)
