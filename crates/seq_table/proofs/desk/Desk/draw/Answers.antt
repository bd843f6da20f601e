use Rattle.std.proofs.Common.{◌≡◌, ◌<◌, sym, ap, ◌∙◌, subst, arith}
use Rattle.seq_inst.specs.Members.{members}
use Rattle.seq_core.specs.Mapping.{Mapping}
use Rattle.seq_words.specs.Knowledge.{IsKnown, group_at}
use Rattle.seq_words.specs.Seats.{Wording, IsOf}
use Rattle.seq_table.specs.Agreed.{Agreed, Standing}
use Rattle.seq_table.proofs.DeskLaws.{found, more}
use Rattle.seq_table.proofs.desk.Desk.draw.Goals as goal

pub invariant_of-self : goal.invariant_of-self
invariant_of-self g c =
    let w = g.N.Naming.words in
    let place = c.places-place.result in
    let room : place < w.limit = let l = c.limit.ensures in let e = ap (λ (x : Wording). x.limit) c.requires.words in let f = c.if-place-limit.false in omega arith in
    let absent = sym c.find.ensures ∙ c.in-None.is in
    let e = c.publish.ensures in
    subst (λ (i : Mapping). Agreed w c.publish.new.scribe i) (sym c.add.ensures)
    (more w c.self.inside.scribe c.self.inside.index c.self.invariant c.publish.new.scribe c.args.group.now place c.places-place.ensures room absent
    (subst (λ (x : Wording). IsOf x c.publish.new.scribe) c.requires.words e.of) e.count e.knows e.others)

pub returns-in-Some-clause-entered : goal.returns-in-Some-clause-entered
returns-in-Some-clause-entered g c =
    let place = c.in-Some.place in
    let group = members c.args.group.now in
    subst (λ (x : Standing). IsKnown place x.scribe.view × (group_at place x.scribe.view ≡ group)) c.self.view_is
    (found g.N.Naming.words c.self.inside.scribe c.self.inside.index c.self.invariant group place (sym c.find.ensures ∙ c.in-Some.is))
