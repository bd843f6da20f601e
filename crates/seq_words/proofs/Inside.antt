-- What contracts say, of the fields.
use Rattle.std.proofs.Common.{◌≡◌, sym, subst}
use Rattle.seq_words.specs.Seats.{IsOf, Wording, Sitting}

pub of_inside : {w w' : Wording} {x x' : Sitting} → w' ≡ w → x' ≡ x → IsOf w x → IsOf w' x'
of_inside {w} {w'} {x} {x'} e f h = subst (λ y. IsOf y x') (sym e) (subst (λ z. IsOf w z) (sym f) h)
