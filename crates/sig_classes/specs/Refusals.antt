-- Why a matrix gives no instance.
use Rattle.std.specs.Prelude.{◌≡◌, ℕ, ◌<◌, ◌≤◌}
use Rattle.sig_types.specs.declared.refusals.ModelFault.{ModelFault}
use Rattle.sig_types.specs.declared.refusals.ModelFault.TheVariants.{Refused, OutOfMemory}
use Rattle.sig_types.specs.declared.refusals.Code.TheVariants.{M13}
use Rattle.sig_types.specs.declared.refusals.Place.TheVariants.{Count}
use Rattle.sig_types.specs.declared.refusals.Counted.TheVariants.{Classes as ManyClasses}

-- M13 at the classes tells that there are more than 512, and the want of memory that there are not
abbrev pub TellsManyClasses : ℕ → ModelFault → Type 0
TellsManyClasses classes (Refused refusal) = (512 < classes) × (refusal ≡ record { code = M13; place = Count ManyClasses })
TellsManyClasses classes OutOfMemory = classes ≤ 512
