use Rattle.std.proofs.Common.{◌≡◌, ℕ, List, [], ◌++◌, map, map-id, Some, None}
use Rattle.sig_types.specs.declared.model.Part.{Part}
use Rattle.sig_types.specs.declared.model.Used.{Used}
use Rattle.sig_types.specs.declared.model.Point.{Point}
use Rattle.sig_types.specs.declared.refusals.Key.TheVariants.{Name, Ports, Switches}
use Rattle.sig_types.specs.declared.refusals.Kind.TheVariants.{Part as PartKind, Use as UseKind, Point as PointKind}
use Rattle.sig_types.specs.Breaches.{in_block, in_item, scope_of}
use Rattle.sig_types.proofs.VerdictLaws.{handed-on}
use Rattle.sig_types.proofs.RepeatLaws.{TellsRepeat, taken-none, taken-more, taken-tells, tells-earlier}
use Rattle.sig_types.proofs.check.scope.names_in.Goals as goal

pub returns-in_err-take_names-clause-verdict : goal.returns-in_err-take_names-clause-verdict
returns-in_err-take_names-clause-verdict c =
    let t0 = taken-none c.new-names.result.keys c.new-names.ensures.empty in
    let told = rw (c.as_slice.ensures, c.at-ports.ensures, c.block-spot.ensures) at c.in_err-take_names.ensures.verdict in
    let whole : TellsRepeat (scope_of c.args.number c.args.block.now) c.in_err-take_names.field-0.0 = tells-earlier _ _ _ (tells-earlier _ _ _ (tells-earlier _ _ _ (tells-earlier _ _ _ (taken-tells (λ n. n) (λ k. in_block c.args.number Ports (Some k)) c.args.block.now.ports _ c.new-names.result.keys t0 _ told.says)))) in
    handed-on _ _ _ c.from_residual.ensures.1 whole.told

pub returns-in_err-take_names-2-clause-verdict : goal.returns-in_err-take_names-2-clause-verdict
returns-in_err-take_names-2-clause-verdict c =
    let t0 = taken-none c.new-names.result.keys c.new-names.ensures.empty in
    let e1 = rw (c.as_slice.ensures, c.at-ports.ensures, c.block-spot.ensures) at c.in_ok-take_names.ensures in
    let t1 = taken-more (λ n. n) (λ k. in_block c.args.number Ports (Some k)) c.args.block.now.ports _ c.new-names.result.keys t0 c.take_names.new.seen.keys e1.seen e1.verdict.says in
    let told = rw (c.as_slice-2.ensures, c.at-switches.ensures, c.block-spot.ensures) at c.in_err-take_names-2.ensures.verdict in
    let whole : TellsRepeat (scope_of c.args.number c.args.block.now) c.in_err-take_names-2.field-0.0 = tells-earlier _ _ _ (tells-earlier _ _ _ (tells-earlier _ _ _ (taken-tells (λ n. n) (λ k. in_block c.args.number Switches (Some k)) c.args.block.now.switches _ c.take_names.new.seen.keys t1 _ told.says))) in
    handed-on _ _ _ c.from_residual-in_err-take_names-2.ensures.1 whole.told

pub returns-in_err-take_names-3-clause-verdict : goal.returns-in_err-take_names-3-clause-verdict
returns-in_err-take_names-3-clause-verdict c =
    let t0 = taken-none c.new-names.result.keys c.new-names.ensures.empty in
    let e1 = rw (c.as_slice.ensures, c.at-ports.ensures, c.block-spot.ensures) at c.in_ok-take_names.ensures in
    let t1 = taken-more (λ n. n) (λ k. in_block c.args.number Ports (Some k)) c.args.block.now.ports _ c.new-names.result.keys t0 c.take_names.new.seen.keys e1.seen e1.verdict.says in
    let e2 = rw (c.as_slice-2.ensures, c.at-switches.ensures, c.block-spot.ensures) at c.in_ok-take_names-2.ensures in
    let t2 = taken-more (λ n. n) (λ k. in_block c.args.number Switches (Some k)) c.args.block.now.switches _ c.take_names.new.seen.keys t1 c.take_names-2.new.seen.keys e2.seen e2.verdict.says in
    let told = rw (c.as_slice-3.ensures, c.block-spot.ensures) at c.in_err-take_names-3.ensures.verdict in
    let whole : TellsRepeat (scope_of c.args.number c.args.block.now) c.in_err-take_names-3.field-0.0 = tells-earlier _ _ _ (tells-earlier _ _ _ (taken-tells (λ (p : Part). p.name) (λ k. in_item c.args.number PartKind k (Some Name) None) c.args.block.now.parts _ c.take_names-2.new.seen.keys t2 _ told.says)) in
    handed-on _ _ _ c.from_residual-in_err-take_names-3.ensures.1 whole.told

pub returns-in_err-take_names-4-clause-verdict : goal.returns-in_err-take_names-4-clause-verdict
returns-in_err-take_names-4-clause-verdict c =
    let t0 = taken-none c.new-names.result.keys c.new-names.ensures.empty in
    let e1 = rw (c.as_slice.ensures, c.at-ports.ensures, c.block-spot.ensures) at c.in_ok-take_names.ensures in
    let t1 = taken-more (λ n. n) (λ k. in_block c.args.number Ports (Some k)) c.args.block.now.ports _ c.new-names.result.keys t0 c.take_names.new.seen.keys e1.seen e1.verdict.says in
    let e2 = rw (c.as_slice-2.ensures, c.at-switches.ensures, c.block-spot.ensures) at c.in_ok-take_names-2.ensures in
    let t2 = taken-more (λ n. n) (λ k. in_block c.args.number Switches (Some k)) c.args.block.now.switches _ c.take_names.new.seen.keys t1 c.take_names-2.new.seen.keys e2.seen e2.verdict.says in
    let e3 = rw (c.as_slice-3.ensures, c.block-spot.ensures) at c.in_ok-take_names-3.ensures in
    let t3 = taken-more (λ (p : Part). p.name) (λ k. in_item c.args.number PartKind k (Some Name) None) c.args.block.now.parts _ c.take_names-2.new.seen.keys t2 c.take_names-3.new.seen.keys e3.seen e3.verdict.says in
    let told = rw (c.as_slice-4.ensures, c.block-spot.ensures) at c.in_err-take_names-4.ensures.verdict in
    let whole : TellsRepeat (scope_of c.args.number c.args.block.now) c.in_err-take_names-4.field-0.0 = tells-earlier _ _ _ (taken-tells (λ (u : Used). u.name) (λ k. in_item c.args.number UseKind k (Some Name) None) c.args.block.now.uses _ c.take_names-3.new.seen.keys t3 _ told.says) in
    handed-on _ _ _ c.from_residual-in_err-take_names-4.ensures.1 whole.told

pub returns-in_err-take_names-5-clause-verdict : goal.returns-in_err-take_names-5-clause-verdict
returns-in_err-take_names-5-clause-verdict c =
    let t0 = taken-none c.new-names.result.keys c.new-names.ensures.empty in
    let e1 = rw (c.as_slice.ensures, c.at-ports.ensures, c.block-spot.ensures) at c.in_ok-take_names.ensures in
    let t1 = taken-more (λ n. n) (λ k. in_block c.args.number Ports (Some k)) c.args.block.now.ports _ c.new-names.result.keys t0 c.take_names.new.seen.keys e1.seen e1.verdict.says in
    let e2 = rw (c.as_slice-2.ensures, c.at-switches.ensures, c.block-spot.ensures) at c.in_ok-take_names-2.ensures in
    let t2 = taken-more (λ n. n) (λ k. in_block c.args.number Switches (Some k)) c.args.block.now.switches _ c.take_names.new.seen.keys t1 c.take_names-2.new.seen.keys e2.seen e2.verdict.says in
    let e3 = rw (c.as_slice-3.ensures, c.block-spot.ensures) at c.in_ok-take_names-3.ensures in
    let t3 = taken-more (λ (p : Part). p.name) (λ k. in_item c.args.number PartKind k (Some Name) None) c.args.block.now.parts _ c.take_names-2.new.seen.keys t2 c.take_names-3.new.seen.keys e3.seen e3.verdict.says in
    let e4 = rw (c.as_slice-4.ensures, c.block-spot.ensures) at c.in_ok-take_names-4.ensures in
    let t4 = taken-more (λ (u : Used). u.name) (λ k. in_item c.args.number UseKind k (Some Name) None) c.args.block.now.uses _ c.take_names-3.new.seen.keys t3 c.take_names-4.new.seen.keys e4.seen e4.verdict.says in
    let told = rw (c.as_slice-5.ensures, c.block-spot.ensures) at c.in_err-take_names-5.ensures.verdict in
    let whole : TellsRepeat (scope_of c.args.number c.args.block.now) c.in_err-take_names-5.field-0.0 = taken-tells (λ (p : Point). p.name) (λ k. in_item c.args.number PointKind k (Some Name) None) c.args.block.now.points _ c.take_names-4.new.seen.keys t4 _ told.says in
    handed-on _ _ _ c.from_residual-in_err-take_names-5.ensures.1 whole.told

pub returns-clause-names : goal.returns-clause-names
returns-clause-names c =
    let t0 = taken-none c.new-names.result.keys c.new-names.ensures.empty in
    let e1 = rw (c.as_slice.ensures, c.at-ports.ensures, c.block-spot.ensures) at c.in_ok-take_names.ensures in
    let t1 = taken-more (λ n. n) (λ k. in_block c.args.number Ports (Some k)) c.args.block.now.ports _ c.new-names.result.keys t0 c.take_names.new.seen.keys e1.seen e1.verdict.says in
    let e2 = rw (c.as_slice-2.ensures, c.at-switches.ensures, c.block-spot.ensures) at c.in_ok-take_names-2.ensures in
    let t2 = taken-more (λ n. n) (λ k. in_block c.args.number Switches (Some k)) c.args.block.now.switches _ c.take_names.new.seen.keys t1 c.take_names-2.new.seen.keys e2.seen e2.verdict.says in
    let e3 = rw (c.as_slice-3.ensures, c.block-spot.ensures) at c.in_ok-take_names-3.ensures in
    let t3 = taken-more (λ (p : Part). p.name) (λ k. in_item c.args.number PartKind k (Some Name) None) c.args.block.now.parts _ c.take_names-2.new.seen.keys t2 c.take_names-3.new.seen.keys e3.seen e3.verdict.says in
    let e4 = rw (c.as_slice-4.ensures, c.block-spot.ensures) at c.in_ok-take_names-4.ensures in
    let t4 = taken-more (λ (u : Used). u.name) (λ k. in_item c.args.number UseKind k (Some Name) None) c.args.block.now.uses _ c.take_names-3.new.seen.keys t3 c.take_names-4.new.seen.keys e4.seen e4.verdict.says in
    let e5 = rw (c.as_slice-5.ensures, c.block-spot.ensures) at c.in_ok-take_names-5.ensures in
    let t5 = taken-more (λ (p : Point). p.name) (λ k. in_item c.args.number PointKind k (Some Name) None) c.args.block.now.points _ c.take_names-4.new.seen.keys t4 c.take_names-5.new.seen.keys e5.seen e5.verdict.says in
    t5.keys

-- five lists that are put one after another
joined : (k k1 k2 k3 k4 k5 ports switches parts uses points : List (List ℕ)) → k ≡ [] → k1 ≡ k ++ map (λ n. n) ports → k2 ≡ k1 ++ map (λ n. n) switches → k3 ≡ k2 ++ parts → k4 ≡ k3 ++ uses → k5 ≡ k4 ++ points
    → k5 ≡ ports ++ switches ++ parts ++ uses ++ points
joined k k1 k2 k3 k4 k5 ports switches parts uses points e e1 e2 e3 e4 e5 = cc (map-id ports, map-id switches)

pub returns-clause-items : goal.returns-clause-items
returns-clause-items c =
    let none = c.new-names.ensures.empty in
    let ports = rw c.as_slice.ensures at c.in_ok-take_names.ensures.seen in
    let switches = rw c.as_slice-2.ensures at c.in_ok-take_names-2.ensures.seen in
    let parts = rw c.as_slice-3.ensures at c.in_ok-take_names-3.ensures.seen in
    let uses = rw c.as_slice-4.ensures at c.in_ok-take_names-4.ensures.seen in
    let points = rw c.as_slice-5.ensures at c.in_ok-take_names-5.ensures.seen in
    joined _ _ _ _ _ _ c.args.block.now.ports c.args.block.now.switches _ _ _ none ports switches parts uses points

pub returns-clause-verdict : goal.returns-clause-verdict
returns-clause-verdict c =
    let t0 = taken-none c.new-names.result.keys c.new-names.ensures.empty in
    let e1 = rw (c.as_slice.ensures, c.at-ports.ensures, c.block-spot.ensures) at c.in_ok-take_names.ensures in
    let t1 = taken-more (λ n. n) (λ k. in_block c.args.number Ports (Some k)) c.args.block.now.ports _ c.new-names.result.keys t0 c.take_names.new.seen.keys e1.seen e1.verdict.says in
    let e2 = rw (c.as_slice-2.ensures, c.at-switches.ensures, c.block-spot.ensures) at c.in_ok-take_names-2.ensures in
    let t2 = taken-more (λ n. n) (λ k. in_block c.args.number Switches (Some k)) c.args.block.now.switches _ c.take_names.new.seen.keys t1 c.take_names-2.new.seen.keys e2.seen e2.verdict.says in
    let e3 = rw (c.as_slice-3.ensures, c.block-spot.ensures) at c.in_ok-take_names-3.ensures in
    let t3 = taken-more (λ (p : Part). p.name) (λ k. in_item c.args.number PartKind k (Some Name) None) c.args.block.now.parts _ c.take_names-2.new.seen.keys t2 c.take_names-3.new.seen.keys e3.seen e3.verdict.says in
    let e4 = rw (c.as_slice-4.ensures, c.block-spot.ensures) at c.in_ok-take_names-4.ensures in
    let t4 = taken-more (λ (u : Used). u.name) (λ k. in_item c.args.number UseKind k (Some Name) None) c.args.block.now.uses _ c.take_names-3.new.seen.keys t3 c.take_names-4.new.seen.keys e4.seen e4.verdict.says in
    let e5 = rw (c.as_slice-5.ensures, c.block-spot.ensures) at c.in_ok-take_names-5.ensures in
    let t5 = taken-more (λ (p : Point). p.name) (λ k. in_item c.args.number PointKind k (Some Name) None) c.args.block.now.points _ c.take_names-4.new.seen.keys t4 c.take_names-5.new.seen.keys e5.seen e5.verdict.says in
    record { says = t5.none }
