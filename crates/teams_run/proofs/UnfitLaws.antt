-- Why no text comes of a matrix says why none comes of the bytes.
use Rattle.std.proofs.Common.{◌≡◌, ◌∙◌, ◌⊎◌, ℕ, ◌<◌, List, length, inl, inr, sym, ap, subst, refl, arith}
use Rattle.std.specs.Prelude.{true, nat_lt, Some, slice_get}
use Rattle.std.proofs.lemmas.Bool.Decides.{nat_tests}
use Rattle.seq_theory.specs.States.{System, firsts}
use Rattle.sig_types.specs.declared.refusals.ModelFault.{ModelFault}
use Rattle.sig_types.specs.declared.refusals.ModelFault.TheVariants.{Refused, OutOfMemory}
use Rattle.sig_types.specs.declared.refusals.Code.TheVariants.{M13}
use Rattle.sig_types.specs.declared.refusals.Place.TheVariants.{Count}
use Rattle.sig_types.specs.declared.refusals.Counted.TheVariants.{Classes as ManyClasses}
use Rattle.sig_types.specs.Breaches.{breach_if}
use Rattle.sig_types.specs.Refused.{TellsFirst}
use Rattle.sig_flat.specs.declared.flat.Flat.{Flat}
use Rattle.sig_matrix.specs.declared.matrix.Matrix.{Matrix}
use Rattle.sig_matrix.specs.Detection.{system_of}
use Rattle.sig_classes.specs.Refusals.{TellsManyClasses}
use Rattle.teams_words.specs.declared.plan.Plan.{Plan}
use Rattle.teams_words.specs.declared.plan.Action.{Action}
use Rattle.teams_words.specs.declared.plan.Action.TheVariants.{Solve, Check}
use Rattle.teams_run.specs.Accepted.{IsMatrixOfText}
use Rattle.teams_run.specs.Solved.{class_refusals}
use Rattle.teams_run.specs.Texts.{IsFaultOfBytes, IsFit, fit_refusals}
use Rattle.teams_run.specs.Ready.{IsPrepared}
use Rattle.teams_run.specs.declared.preparing.Prepared.{Prepared}

-- why a matrix gives no instance is what its system is refused for
pub many_classes : (sys : System) (fault : ModelFault) → TellsManyClasses (length (firsts sys)) fault → TellsFirst (class_refusals sys) fault
many_classes sys (Refused refusal) (many, is) =
    let more : nat_lt 512 (length (firsts sys)) ≡ true = grind (arith, nat_tests) in
    ap (λ b. slice_get (breach_if b M13 (Count ManyClasses)) 0) more ∙ ap Some (sym is)
many_classes sys OutOfMemory few = tt

pub unfit : (plan : Plan) (content : List ℕ) (flat : Flat) (matrix : Matrix) (fault : ModelFault) → IsMatrixOfText content plan.mode flat matrix → TellsFirst (fit_refusals plan.action (system_of matrix)) fault → IsFaultOfBytes plan content fault
unfit plan content flat matrix fault of_text first = inr (record { flat = flat; matrix = matrix; of_text = of_text; first = first })

-- a search and a check refuse a system for its ambiguity groups
pub unprepared : (plan : Plan) (content : List ℕ) (flat : Flat) (matrix : Matrix) (fault : ModelFault) → (plan.action ≡ Solve) ⊎ (plan.action ≡ Check) → IsMatrixOfText content plan.mode flat matrix → TellsFirst (class_refusals (system_of matrix)) fault → IsFaultOfBytes plan content fault
unprepared plan content flat matrix fault (inl is) of_text first = unfit plan content flat matrix fault of_text (subst (λ a. TellsFirst (fit_refusals a (system_of matrix)) fault) (sym is) first)
unprepared plan content flat matrix fault (inr is) of_text first = unfit plan content flat matrix fault of_text (subst (λ a. TellsFirst (fit_refusals a (system_of matrix)) fault) (sym is) first)

-- an accepted model that is prepared is fit for a check
pub is_fit : (plan : Plan) (content : List ℕ) (flat : Flat) (matrix : Matrix) (mode : List ℕ) (prepared : Prepared) → IsMatrixOfText content plan.mode flat matrix → IsPrepared matrix mode prepared → IsFit plan content
is_fit plan content flat matrix mode prepared of_text ready = record { flat = flat; matrix = matrix; of_text = of_text; few = ready.few }
