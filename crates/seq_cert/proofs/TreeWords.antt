-- How many asks are left.
use Rattle.std.proofs.Common.{◌≡◌, ℕ, zero, suc, ◌-◌, ◌<◌, ap, arith, Some}
use Rattle.seq_cert.specs.declared.report.TreeLine.TheVariants.{Ask}
use Rattle.seq_cert.specs.Places.{asks_after}

pub some_asks : (asks t : ℕ) → 0 < asks → asks_after asks (Ask t) ≡ Some (asks - 1)
some_asks zero t lt = absurd (let bad : ⊥ = omega arith in bad)
some_asks (suc n) t lt = let e : n ≡ suc n - 1 = omega arith in ap (λ k. Some k) e
