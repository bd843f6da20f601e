use Rattle.std.proofs.Common.{refl, sym, arith}
use Rattle.std.specs.Str.{bytes_eq}
use Rattle.sig_flat.proofs.PlacesLaws.{none-place, some-place}
use Rattle.sig_flat.proofs.WordLaws.{with-there, with-unknown}
use Rattle.sig_flat.proofs.sets.with_signal.Goals as goal

pub returns-in-Some : goal.returns-in-Some
returns-in-Some c =
    let place = some-place (bytes_eq c.args.name.now) c.args.valid.now.signals c.in-Some.number (sym c.in-Some.ensures) in
    with-there c.args.valid.now.signals c.args.word c.args.name.now c.in-Some.number _ 64 place.0 refl place.1 c.requires

pub returns-in-None : goal.returns-in-None
returns-in-None c =
    let none = none-place (bytes_eq c.args.name.now) c.args.valid.now.signals (sym c.in-None.ensures) in
    with-unknown c.args.valid.now.signals c.args.word c.args.name.now _ _ refl refl (omega arith)
