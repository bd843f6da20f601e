use Rattle.std.proofs.Common.{sym, ◌∙◌}
use Rattle.seq_inst.specs.Instances.{problem_of}
use Rattle.seq_check.specs.Lines.{looks, head_looks, looks_from_classes}
use Rattle.seq_check.proofs.LookLaws.{stops, passes}
use Rattle.seq_check.proofs.TreeWalk.{walked_report}
use Rattle.seq_check.proofs.report_check.first_bad_line.Goals as goal

pub returns-then-is_some : goal.returns-then-is_some
unfolding looks
returns-then-is_some c =
    let p = problem_of c.args.inst.now in
    let labels = c.args.labels.now in
    let r = c.args.report.now in
    stops (head_looks p labels r) (looks_from_classes p labels r) c.first_in_head-head.result (sym c.if-is_some.ensures) c.first_in_head-head.ensures

pub returns : goal.returns
unfolding looks
returns c =
    let p = problem_of c.args.inst.now in
    let labels = c.args.labels.now in
    let r = c.args.report.now in
    c.in_ok-rest.ensures ∙ sym (passes (head_looks p labels r) (looks_from_classes p labels r) c.first_in_head-head.result (sym c.if-is_some.ensures) c.first_in_head-head.ensures)

pub first_in_head-head-requires : goal.first_in_head-head-requires
first_in_head-head-requires c = walked_report (problem_of c.args.inst.now) c.args.report.now c.as_slice.result.now c.places_of-places.result.tree c.in_ok-walked.walked c.as_slice.ensures c.places_of-places.ensures.tree c.in_ok-walked.ensures

pub first_from_classes-requires-clause-walked : goal.first_from_classes-requires-clause-walked
first_from_classes-requires-clause-walked c = walked_report (problem_of c.args.inst.now) c.args.report.now c.as_slice.result.now c.places_of-places.result.tree c.in_ok-walked.walked c.as_slice.ensures c.places_of-places.ensures.tree c.in_ok-walked.ensures
