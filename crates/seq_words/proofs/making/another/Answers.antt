use Rattle.std.proofs.Common.{arith}
use Rattle.seq_words.proofs.Inside.{of_inside}
use Rattle.seq_words.proofs.Views.{scribe_live}
use Rattle.seq_words.proofs.ShareSteps.{forks}
use Rattle.seq_words.proofs.making.another.Goals as goal

pub split_seat-seat-requires : goal.split_seat-seat-requires
split_seat-seat-requires c =
    let i = c.words.invariant in
    let of = of_inside c.words.view_is c.scribe.view_is c.requires in
    (of.table, omega (arith, i.0), forks _ _ _ _ (scribe_live _ _ c.scribe.invariant.1))
