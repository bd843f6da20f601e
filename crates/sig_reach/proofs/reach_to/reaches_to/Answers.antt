use Rattle.std.proofs.Common.{◌≡◌, ◌<◌, ℕ, length, [], ◌∷◌, ◌++◌, true, false, subst, sym, ap, ◌∙◌, arith, length-append}
use Rattle.std.specs.Prelude.{IsTrue, Some}
use Rattle.std.proofs.lemmas.List.{get_or_default}
use Rattle.sig_flat.specs.declared.flat.Flat.{Flat}
use Rattle.sig_reach.specs.declared.column.Column.{Column}
use Rattle.sig_reach.specs.Marks.{is_marked}
use Rattle.sig_reach.specs.Columns.{IsColumn, HasColumn}
use Rattle.sig_reach.proofs.ReachLaws.{columns-more}
use Rattle.sig_reach.proofs.MarkLaws.{marked-there}
use Rattle.sig_reach.proofs.reach_to.reaches_to.Goals as goal

pub loop-node-preserved : goal.loop-node-preserved
loop-node-preserved c =
    let n = c.loop-node.node in
    let found = c.in_ok-column.column in
    let push : c.push.new.self.items ≡ c.loop-node.columns.items ++ found ∷ [] = c.in_ok-push.ensures.items in
    let same = c.in_ok-inward.ensures in
    let lt : n < length c.args.wanted.items = omega arith in
    let read : c.index.result.now ≡ is_marked c.args.wanted.items n = c.index.ensures ∙ get_or_default c.args.wanted.items n c.index.result.now false lt in
    let here = subst (λ m. IsTrue (is_marked c.args.wanted.items n) → (column : Column) × (found ≡ Some column) × IsColumn c.args.flat.now m n column.carried.items column.joined.items) same.1
    (subst (λ (f : Flat). IsTrue (is_marked c.args.wanted.items n) → (column : Column) × (found ≡ Some column) × IsColumn f c.in_ok-inward.inward.mode n column.carried.items column.joined.items) same.0
    (subst (λ b. IsTrue b → (column : Column) × (found ≡ Some column) × IsColumn c.in_ok-inward.inward.flat c.in_ok-inward.inward.mode n column.carried.items column.joined.items) read c.in_ok-column.ensures)) in
    let len = ap length push ∙ length-append c.loop-node.columns.items (found ∷ []) in
    let old = c.loop-node.invariant.0 in (
      omega arith,
      λ v below m. subst (λ l. HasColumn c.args.flat.now c.args.mode l v) (sym push)
          (columns-more c.args.flat.now c.args.mode c.loop-node.columns.items found c.args.wanted.items n old here c.loop-node.invariant.1 v below m),
    )

pub invariant_of-result : goal.invariant_of-result
invariant_of-result c =
    let wanted = c.args.wanted.items in
    let e : c.args.flat.now ≡ c.of-2.result.value = sym c.of-2.ensures in
    let many = c.requires.long in
    let old = c.loop-node.invariant in
    let long = old.0 in
    let full : length c.loop-node.columns.items ≡ length c.args.flat.now.nodes = omega arith in
    let columns : (v : ℕ) → is_marked wanted v ≡ true → HasColumn c.args.flat.now c.args.mode c.loop-node.columns.items v =
    λ v m. (let lt = marked-there wanted v m in
    old.1 v (omega arith) m) in
    subst (λ (f : Flat). (length c.loop-node.columns.items ≡ length f.nodes) × (length wanted ≡ length f.nodes) × ((v : ℕ) → is_marked wanted v ≡ true → HasColumn f c.args.mode c.loop-node.columns.items v)) e (full, many, columns)
