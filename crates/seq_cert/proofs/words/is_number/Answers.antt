use Rattle.std.proofs.Common.{ap, ◌∙◌, arith}
use Rattle.std.specs.Prelude.{nat_eq}
use Rattle.seq_cert.proofs.WordForms.{writes_number, writes_none}
use Rattle.seq_cert.proofs.words.is_number.Goals as goal

pub returns-in-Some : goal.returns-in-Some
returns-in-Some c =
    let range = c.ranges.n.fits in
    let same = c.from.ensures in
    ap (nat_eq c.in-Some.m) same ∙ writes_number c.args.word.now c.in-Some.m c.args.n c.in-Some.ensures.small (omega arith) c.in-Some.ensures.some

pub returns-in-None : goal.returns-in-None
returns-in-None c = let range = c.ranges.n.fits in writes_none c.args.word.now c.args.n (c.in-None.ensures.none c.args.n (omega arith))
