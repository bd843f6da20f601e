use Rattle.seq_theory.proofs.PublicLaws.{certificate_holds as law}
use Rattle.seq_theory.proofs.ClaimLaws.{low_claims-hold}
use Rattle.seq_theory.proofs.laws.certificate_holds.Goals as goal

pub returns : goal.returns
returns c = record { sound = law; complete = low_claims-hold }
