use Rattle.std.proofs.Common.{◌≡◌, ◌∙◌, Option, sym, ap, subst, length, rules, arith}
use Rattle.seq_inst.specs.declared.group.Group.{Group}
use Rattle.seq_inst.specs.Instances.{problem_of}
use Rattle.seq_core.specs.Settled.{groups_in}
use Rattle.seq_core.specs.Entered.{MayStop}
use Rattle.seq_words.specs.Seats.{Wording}
use Rattle.std.specs.List.{AllZip}
use Rattle.seq_work.specs.Works.{Ready}
use Rattle.seq_work.specs.Searches.{HaveEnded}
use Rattle.seq_work.proofs.EndLaws.{filled, begins-done, sound-rows, root-entered, have-ended, may-stop, behind, last-ready, as-many}
use Rattle.seq_work.proofs.searching.search_named.Goals as goal

pub returns-clause-first : goal.returns-clause-first
returns-clause-first g c =
    let inst = c.args.prepared.inst in
    let rows = c.close-closed.result.rows in
    let ends = c.fan_out.new.ends in
    let some = c.requires.prepared.some in
    let count : c.len-count.result ≡ length c.args.prepared.seats.items = c.len-count.ensures ∙ c.args.prepared.seats.ok.0 in
    let long : length ends ≡ c.len-count.result = search rules in
    begins-done inst g.N.Naming.words rows c.fan_out.new.seats.items c.fan_out.new.locals.items ends c.len-count.result c.fan_out.ensures c.close-closed.ensures.seats long (omega arith)

pub returns-clause-root : goal.returns-clause-root
returns-clause-root g c =
    let inst = c.args.prepared.inst in
    let rows = c.close-closed.result.rows in
    let ends = c.fan_out.new.ends in
    let some = c.requires.prepared.some in
    let count : c.len-count.result ≡ length c.args.prepared.seats.items = c.len-count.ensures ∙ c.args.prepared.seats.ok.0 in
    let long : length ends ≡ c.len-count.result = search rules in
    let first = begins-done inst g.N.Naming.words rows c.fan_out.new.seats.items c.fan_out.new.locals.items ends c.len-count.result c.fan_out.ensures c.close-closed.ensures.seats long (omega arith) in
    root-entered (problem_of inst) rows first

pub returns-clause-ended : goal.returns-clause-ended
returns-clause-ended g c =
    let inst = c.args.prepared.inst in
    let limit = c.args.prepared.limit in
    let words = g.N.Naming.words in
    let rows = c.close-closed.result.rows in
    let seats = c.fan_out.new.seats.items in
    let ends = c.fan_out.new.ends in
    let n = c.len-count.result in
    let p = c.requires.prepared in
    let some = p.some in
    let count : n ≡ length c.args.prepared.seats.items = c.len-count.ensures ∙ c.args.prepared.seats.ok.0 in
    let long : length ends ≡ n = search rules in
    let sound = sound-rows inst c.args.prepared.words limit rows p.told p.limit_is c.close-closed.ensures.sound in
    let first = begins-done inst words rows seats c.fan_out.new.locals.items ends n c.fan_out.ensures c.close-closed.ensures.seats long (omega arith) in
    let is = sym (ap (λ (w : Wording). w.limit) c.requires.named) ∙ p.limit_is in
    subst (λ m. HaveEnded (problem_of inst) limit m rows (filled n ends)) count
    (have-ended inst limit rows sound words seats c.fan_out.new.locals.items ends n is first c.fan_out.ensures c.close-closed.ensures.seats long)

pub returns-clause-stopped : goal.returns-clause-stopped
returns-clause-stopped g c =
    let inst = c.args.prepared.inst in
    let limit = c.args.prepared.limit in
    let words = g.N.Naming.words in
    let rows = c.close-closed.result.rows in
    let seats = c.fan_out.new.seats.items in
    let ends = c.fan_out.new.ends in
    let n = c.len-count.result in
    let p = c.requires.prepared in
    let some = p.some in
    let count : n ≡ length c.args.prepared.seats.items = c.len-count.ensures ∙ c.args.prepared.seats.ok.0 in
    let long : length ends ≡ n = search rules in
    let sound = sound-rows inst c.args.prepared.words limit rows p.told p.limit_is c.close-closed.ensures.sound in
    let first = begins-done inst words rows seats c.fan_out.new.locals.items ends n c.fan_out.ensures c.close-closed.ensures.seats long (omega arith) in
    let is = sym (ap (λ (w : Wording). w.limit) c.requires.named) ∙ p.limit_is in
    let ended = have-ended inst limit rows sound words seats c.fan_out.new.locals.items ends n is first c.fan_out.ensures c.close-closed.ensures.seats long in
    subst (λ (o : Option Group). MayStop (problem_of inst) limit (groups_in rows) o) (sym c.first_missed-missed.ensures) (may-stop inst limit rows sound n (filled n ends) (omega arith) ended)

pub returns-clause-known : goal.returns-clause-known
returns-clause-known g c =
    let inst = c.args.prepared.inst in
    let ready = subst (AllZip (Ready inst g.N.Naming.words) c.fan_out.new.seats.items) c.in-Some.ensures.items c.fan_out.ensures.ready in
    let last = last-ready inst g.N.Naming.words c.close-closed.result.rows c.fan_out.new.seats.items c.pop.new.self.items c.in-Some.local ready c.close-closed.ensures.seats in
    last.1.graph

pub returns-clause-behind : goal.returns-clause-behind
returns-clause-behind g c =
    let inst = c.args.prepared.inst in
    let rows = c.close-closed.result.rows in
    let ready = subst (AllZip (Ready inst g.N.Naming.words) c.fan_out.new.seats.items) c.in-Some.ensures.items c.fan_out.ensures.ready in
    let last = last-ready inst g.N.Naming.words rows c.fan_out.new.seats.items c.pop.new.self.items c.in-Some.local ready c.close-closed.ensures.seats in
    behind last.0.view rows last.2 c.in-Some.local.graph.rows.items c.in-Some.local.places.items last.1.standing

pub unreachable-requires : goal.unreachable-requires
unreachable-requires g c =
    let some = c.requires.prepared.some in
    let count : c.len-count.result ≡ length c.args.prepared.seats.items = c.len-count.ensures ∙ c.args.prepared.seats.ok.0 in
    let long : length c.fan_out.new.ends ≡ c.len-count.result = search rules in
    let many = as-many c.args.prepared.inst g.N.Naming.words c.fan_out.new.seats.items c.fan_out.new.locals.items c.fan_out.new.ends c.fan_out.ensures in
    let none = c.in_default.ensures.cases.0 in
    let held = c.fan_out.new.locals.ok.0 in
    omega arith
