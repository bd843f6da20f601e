use Rattle.std.proofs.Common.{◌≡◌, ◌∙◌, [], sym, ap₂, subst, refl}
use Rattle.std.specs.Prelude.{option_map}
use Rattle.std.specs.List.{position}
use Rattle.std.specs.Str.{bytes_eq}
use Rattle.sig_types.specs.declared.refusals.ModelFault.TheVariants.{Refused}
use Rattle.sig_types.specs.declared.refusals.Code.TheVariants.{M15}
use Rattle.sig_types.specs.declared.refusals.Place.TheVariants.{ModeOption}
use Rattle.sig_types.specs.Refused.{TellsFirst}
use Rattle.teams_run.specs.Accepted.{mode_refusals}
use Rattle.teams_run.proofs.ModeLaws.{mode-known, mode-unknown}
use Rattle.teams_run.proofs.accepting.mode_of.Goals as goal

pub returns-in-Some-place_of-clause-known : goal.returns-in-Some-place_of-clause-known
returns-in-Some-place_of-clause-known c =
    let found = ap₂ (λ name modes. position (bytes_eq name) modes) (sym c.as_str.ensures) (sym c.as_slice.ensures) ∙ sym c.place_of.ensures ∙ c.in-Some-place_of.is in
    subst (λ mode. mode_refusals c.args.flat.now.modes (option_map (λ m. m.now) mode) ≡ []) (sym c.in-Some.is) (mode-known c.args.flat.now.modes c.in-Some.mode.now _ found)

pub returns-in-None-clause-refused : goal.returns-in-None-clause-refused
returns-in-None-clause-refused c =
    let none = ap₂ (λ name modes. position (bytes_eq name) modes) (sym c.as_str.ensures) (sym c.as_slice.ensures) ∙ sym c.place_of.ensures ∙ c.in-None.is in
    subst (λ mode. TellsFirst (mode_refusals c.args.flat.now.modes (option_map (λ m. m.now) mode)) (Refused (record { code = M15; place = ModeOption }))) (sym c.in-Some.is)
    (subst (λ rs. TellsFirst rs (Refused (record { code = M15; place = ModeOption }))) (sym (mode-unknown c.args.flat.now.modes c.in-Some.mode.now none)) refl)
