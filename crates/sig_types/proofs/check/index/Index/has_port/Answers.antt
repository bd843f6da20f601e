use Rattle.std.proofs.Common.{◌≡◌, [], map, get_or, length, sym, ap, ◌∙◌, arith}
use Rattle.std.proofs.lemmas.List.{get_or-map, length-map}
use Rattle.indexmap.specs.IndexSet.{keys}
use Rattle.sig_types.specs.declared.model.Model.{Model}
use Rattle.sig_types.specs.Breaches.{has_port, has}
use Rattle.sig_types.proofs.LookupLaws.{port-by-number, port-missing, port_set, name_of}
use Rattle.sig_types.proofs.check.index.Index.has_port.Goals as goal

pub returns-in-Some : goal.returns-in-Some
returns-in-Some c =
    let set : keys c.index.result.now ≡ get_or (map keys c.self.inside.ports.items) c.in-Some.number [] =
    ap keys (c.index.ensures) ∙ sym (get_or-map keys c.self.inside.ports.items c.in-Some.number c.index.result.now [] (omega (arith, ap length c.self.invariant.2, ap length c.self.invariant.3, c.in-Some.ensures.within, length-map c.self.inside.ports.items keys, length-map c.self.inside.model.now.blocks port_set, length-map c.self.inside.model.now.blocks name_of))) in
    let found = port-by-number c.self.inside.model.now.blocks c.self.inside.blocks.keys (map keys c.self.inside.ports.items) c.args.block.now c.args.port.now c.in-Some.number c.index.result.now.keys
    c.self.invariant.2 c.self.invariant.3 (sym c.in-Some.ensures.index) set in
    c.contains.ensures ∙ sym found ∙ ap (λ (m : Model). has_port m.blocks c.args.block.now c.args.port.now) c.self.view_is

pub returns-in-None : goal.returns-in-None
returns-in-None c =
    let absent = sym c.in-None.ensures.found in
    sym (ap (λ (m : Model). has_port m.blocks c.args.block.now c.args.port.now) (sym c.self.view_is) ∙ port-missing c.self.inside.model.now.blocks c.args.block.now c.args.port.now (ap (λ l. has l c.args.block.now) (sym c.self.invariant.2) ∙ absent))
