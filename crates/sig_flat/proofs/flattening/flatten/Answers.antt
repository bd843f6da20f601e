use Rattle.std.proofs.Common.{◌≡◌, ◌∙◌, ap, sym}
use Rattle.std.specs.Prelude.{nat_eq, ◌&&◌, Option, Some, None, slice_get}
use Rattle.std.specs.Option.{option_to_list}
use Rattle.sig_types.specs.declared.model.Model.{Model}
use Rattle.sig_types.specs.declared.refusals.Refusal.{Refusal}
use Rattle.sig_flat.specs.Counts.{first_over, refusal_after, flat_refusal}
use Rattle.sig_flat.specs.Counting.{limits_of}
use Rattle.sig_flat.proofs.ValidLaws.{known}
use Rattle.sig_flat.proofs.CountLaws.{refusal-is}
use Rattle.sig_flat.proofs.flattening.flatten.Goals as goal

-- a refusal that is the only one is the first
alone : (o : Option Refusal) (r : Refusal) → o ≡ Some r → slice_get (option_to_list o) 0 ≡ Some r
alone None r e = e
alone (Some x) r e = e

pub surveyed-requires : goal.surveyed-requires
surveyed-requires c = let e = c.model-model.ensures in known c.args.valid.now e.sound e.modes

pub unfolded-requires-clause-known : goal.unfolded-requires-clause-known
unfolded-requires-clause-known c = let e = c.model-model.ensures in known c.args.valid.now e.sound e.modes

pub unfolded-requires-clause-within : goal.unfolded-requires-clause-within
unfolded-requires-clause-within c =
    sym (refusal-is c.args.valid.now c.in-Ok.found.1 c.in-Ok.ensures.1)
    ∙ ap (λ (m : Model). refusal_after (first_over (limits_of c.in-Ok.found.1)) (nat_eq m.good 0 && nat_eq c.in-Ok.found.1.faults 0)) (sym c.model-model.ensures.same) ∙ sym c.in_default.ensures

pub returns-in-Some-clause-refused : goal.returns-in-Some-clause-refused
returns-in-Some-clause-refused c =
    alone (flat_refusal c.args.valid.now) c.in-Some.refusal
    (sym (refusal-is c.args.valid.now c.in-Ok.found.1 c.in-Ok.ensures.1)
    ∙ ap (λ (m : Model). refusal_after (first_over (limits_of c.in-Ok.found.1)) (nat_eq m.good 0 && nat_eq c.in-Ok.found.1.faults 0)) (sym c.model-model.ensures.same) ∙ sym c.in-Some.ensures)
