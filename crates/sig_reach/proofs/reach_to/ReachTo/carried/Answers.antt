use Rattle.std.proofs.Common.{◌≡◌, ◌<◌, ℕ, true, length, subst, sym, ◌∙◌, arith}
use Rattle.std.specs.Prelude.{◌↔◌}
use Rattle.sig_types.specs.Sets.{has_bit}
use Rattle.sig_reach.specs.declared.column.Column.{Column}
use Rattle.sig_reach.specs.Graphs.{Targets}
use Rattle.sig_reach.specs.Marks.{is_marked}
use Rattle.sig_reach.specs.Columns.{IsColumn}
use Rattle.sig_reach.specs.Paths.{HasSignalPath}
use Rattle.sig_reach.proofs.ReachLaws.{some-same, none-some, column-at, wanted-there, carried-read}
use Rattle.sig_reach.proofs.reach_to.ReachTo.carried.Goals as goal

pub index-requires : goal.index-requires
index-requires c =
    let i = c.self.invariant in
    let long = i.0 in
    let t = subst (λ (g : Targets). is_marked g.wanted c.args.to ≡ true) (sym c.self.view_is) c.requires.to in
    let lt = wanted-there c.self.inside.of.value c.self.inside.wanted.items c.args.to i.1 t in
    omega arith

pub index-requires-in-Some : goal.index-requires-in-Some
index-requires-in-Some c =
    let i = c.self.invariant in
    let t = subst (λ (g : Targets). is_marked g.wanted c.args.to ≡ true) (sym c.self.view_is) c.requires.to in
    let lt = wanted-there c.self.inside.of.value c.self.inside.wanted.items c.args.to i.1 t in
    let r = column-at c.self.inside.of.value c.self.inside.mode c.self.inside.columns.items c.args.to c.index.result.now i.0 lt c.index.ensures (i.2 c.args.to t) in
    let s : r.0 ≡ c.in-Some.column = some-same r.0 c.in-Some.column (sym r.1 ∙ c.in-Some.is) in
    let h = subst (λ (k : Column). IsColumn c.self.inside.of.value c.self.inside.mode c.args.to k.carried.items k.joined.items) s r.2 in
    let long = h.long.0 in
    let from = subst (λ (g : Targets). c.args.from < length g.flat.nodes) (sym c.self.view_is) c.requires.from in
    omega arith

pub unreachable-requires : goal.unreachable-requires
unreachable-requires c =
    let i = c.self.invariant in
    let t = subst (λ (g : Targets). is_marked g.wanted c.args.to ≡ true) (sym c.self.view_is) c.requires.to in
    let lt = wanted-there c.self.inside.of.value c.self.inside.wanted.items c.args.to i.1 t in
    let r = column-at c.self.inside.of.value c.self.inside.mode c.self.inside.columns.items c.args.to c.index.result.now i.0 lt c.index.ensures (i.2 c.args.to t) in
    none-some r.0 (sym c.in-None.is ∙ r.1)

pub returns : goal.returns
returns c =
    let i = c.self.invariant in
    let t = subst (λ (g : Targets). is_marked g.wanted c.args.to ≡ true) (sym c.self.view_is) c.requires.to in
    let lt = wanted-there c.self.inside.of.value c.self.inside.wanted.items c.args.to i.1 t in
    let r = column-at c.self.inside.of.value c.self.inside.mode c.self.inside.columns.items c.args.to c.index.result.now i.0 lt c.index.ensures (i.2 c.args.to t) in
    let s : r.0 ≡ c.in-Some.column = some-same r.0 c.in-Some.column (sym r.1 ∙ c.in-Some.is) in
    let h = subst (λ (k : Column). IsColumn c.self.inside.of.value c.self.inside.mode c.args.to k.carried.items k.joined.items) s r.2 in
    let from = subst (λ (g : Targets). c.args.from < length g.flat.nodes) (sym c.self.view_is) c.requires.from in
    subst (λ (g : Targets). (s : ℕ) → s < 64 → (has_bit c.index-in-Some.result.now s ≡ true) ↔ HasSignalPath g.flat g.mode s c.args.from c.args.to) c.self.view_is (carried-read c.self.inside.of.value c.self.inside.mode c.args.to c.args.from c.in-Some.column.carried.items c.in-Some.column.joined.items c.index-in-Some.result.now from c.index-in-Some.ensures h)
