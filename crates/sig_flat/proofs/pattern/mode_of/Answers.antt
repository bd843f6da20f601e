use Rattle.std.proofs.Common.{arith}
use Rattle.std.specs.Str.{bytes_eq}
use Rattle.sig_flat.proofs.PlacesLaws.{place-le-length}
use Rattle.sig_flat.proofs.pattern.mode_of.Goals as goal

pub overflow_cast-result : goal.overflow_cast-result
overflow_cast-result c = let le = place-le-length (bytes_eq c.in-Some.name) c.args.valid.now.modes in omega (arith, le, c.mode_place.ensures, c.requires)
