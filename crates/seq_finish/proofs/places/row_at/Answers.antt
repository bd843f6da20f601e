use Rattle.std.proofs.Common.{◌≡◌, ◌+◌, ◌∙◌, sym, ap, arith}
use Rattle.seq_inst.specs.Members.{members}
use Rattle.seq_core.specs.Entered.{no_row}
use Rattle.seq_core.specs.Mapping.{place_of}
use Rattle.seq_finish.proofs.PlaceLaws.{place-found, place-none}
use Rattle.seq_finish.proofs.places.row_at.Goals as goal

pub bounds-rows-place : goal.bounds-rows-place
bounds-rows-place c =
    let f = place-found 0 c.args.rows.now (members c.args.group.now) c.in-Some.place (sym (ap (λ l. place_of l (members c.args.group.now)) c.requires) ∙ sym c.find.ensures ∙ c.in-Some.is) in
    let range = f.in_range in
    omega arith

pub returns-in-Some : goal.returns-in-Some
returns-in-Some c =
    let f = place-found 0 c.args.rows.now (members c.args.group.now) c.in-Some.place (sym (ap (λ l. place_of l (members c.args.group.now)) c.requires) ∙ sym c.find.ensures ∙ c.in-Some.is) in
    sym (f.row_is c.in-Some.place (let e : 0 + c.in-Some.place ≡ c.in-Some.place = omega arith in e) no_row)

pub returns-in-None : goal.returns-in-None
returns-in-None c = sym (place-none 0 c.args.rows.now (members c.args.group.now) (sym (ap (λ l. place_of l (members c.args.group.now)) c.requires) ∙ sym c.find.ensures ∙ c.in-None.is))
