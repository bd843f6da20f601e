use Rattle.std.proofs.Common.{◌≡◌, sym, subst}
use Rattle.std.specs.Prelude.{true, All}
use Rattle.seq_theory.specs.Tree.{IsLeast}
use Rattle.seq_theory.specs.Graph.{is_entered}
use Rattle.seq_inst.specs.Instances.{problem_of}
use Rattle.seq_inst.specs.Members.{members}
use Rattle.seq_core.specs.Settled.{groups_in}
use Rattle.seq_graph.specs.Known.{no_row}
use Rattle.seq_finish.specs.Joining.{IsAllowedBy}
use Rattle.seq_finish.proofs.OutcomeLaws.{row-entered}
use Rattle.seq_finish.proofs.JoinLaws.{groups-heard, once-groups, once-allowed, heard-allowed}
use Rattle.seq_finish.proofs.joining.hear_row.Goals as goal

pub hear-requires-clause-right : goal.hear-requires-clause-right
hear-requires-clause-right c = λ n l. c.requires.right n (subst (λ g. IsLeast (problem_of c.args.inst.now) g n) c.in_ok-place.ensures.place.same l)

pub returns-clause-allowed : goal.returns-clause-allowed
returns-clause-allowed c = λ entered a all.
    let p = problem_of c.args.inst.now in
    let row = c.args.row.now in
    let mid = c.place_for.new.graph.rows.items in
    let once = once-allowed p entered row c.args.graph.now.rows.items mid c.in_ok-place.ensures.rows a all in
    subst (All (IsAllowedBy p entered)) (sym c.hear.ensures.rows) (heard-allowed p entered row mid c.in_ok-place.field-0 c.in_ok-place.ensures.place a once)

pub returns-clause-keeps : goal.returns-clause-keeps
returns-clause-keeps c = λ g e.
    let p = problem_of c.args.inst.now in
    let row = c.args.row.now in
    let mid = c.place_for.new.graph.rows.items in
    subst (λ l. is_entered (groups_in l) g ≡ true) (sym c.hear.ensures.rows)
    (subst (λ gs. is_entered gs g ≡ true) (sym (groups-heard mid c.in_ok-place.field-0 row.low row.up))
    (once-groups p row.group c.args.graph.now.rows.items mid c.in_ok-place.ensures.rows g e))

pub returns-clause-there : goal.returns-clause-there
returns-clause-there c =
    let row = c.args.row.now in
    let mid = c.place_for.new.graph.rows.items in
    let at = c.in_ok-place.ensures.place in
    subst (λ l. is_entered (groups_in l) (members row.group) ≡ true) (sym c.hear.ensures.rows)
    (subst (λ gs. is_entered gs (members row.group) ≡ true) (sym (groups-heard mid c.in_ok-place.field-0 row.low row.up))
    (subst (λ g. is_entered (groups_in mid) g ≡ true) at.same (row-entered mid c.in_ok-place.field-0 no_row at.there)))
