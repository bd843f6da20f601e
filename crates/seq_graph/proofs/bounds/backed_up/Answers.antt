use Rattle.std.proofs.Common.{◌∙◌, ap, subst, ◌≤◌}
use Rattle.seq_theory.specs.Rows.{most_low}
use Rattle.seq_inst.specs.Members.{members}
use Rattle.seq_inst.specs.Instances.{problem_of}
use Rattle.seq_core.specs.RowsOf.{rows_of as rows_from}
use Rattle.seq_graph.specs.Known.{AreBounds, Allow, group_at}
use Rattle.seq_graph.specs.Steps.{ClosesBelow}
use Rattle.seq_graph.proofs.bounds.backed_up.Goals as goal

pub returns-clause-low : goal.returns-clause-low
returns-clause-low c =
    let p = problem_of c.args.inst.now in
    c.bounds_by.ensures.low ∙ ap (λ l. most_low p (rows_from l) (members (group_at l c.args.place))) (ap (λ v. v.items) c.least_test-least.ensures.rows)

pub returns-clause-allowed : goal.returns-clause-allowed
returns-clause-allowed c =
    let p = problem_of c.args.inst.now in
    subst (λ l. Allow p l (members (group_at l c.args.place)) c.bounds_by.result.low c.bounds_by.result.up) (ap (λ v. v.items) c.least_test-least.ensures.rows) c.bounds_by.ensures.allowed

pub returns-clause-right : goal.returns-clause-right
returns-clause-right c =
    let p = problem_of c.args.inst.now in
    subst (λ l. AreBounds p (members (group_at l c.args.place)) c.bounds_by.result.low c.bounds_by.result.up) (ap (λ v. v.items) c.least_test-least.ensures.rows) c.bounds_by.ensures.right

pub returns-clause-closes : goal.returns-clause-closes
returns-clause-closes c =
    let p = problem_of c.args.inst.now in
    subst (λ l. ClosesBelow p l (members (group_at l c.args.place)) → c.bounds_by.result.up ≤ c.bounds_by.result.low) (ap (λ v. v.items) c.least_test-least.ensures.rows) c.bounds_by.ensures.closes
