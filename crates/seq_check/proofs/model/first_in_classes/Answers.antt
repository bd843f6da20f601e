use Rattle.std.proofs.Common.{◌≡◌, length, get_or, ap, sym, ◌∙◌, arith}
use Rattle.std.proofs.lemmas.List.{get_or_default}
use Rattle.seq_inst.specs.Instances.{problem_of}
use Rattle.seq_cert.specs.declared.report.ClassLine.{ClassLine}
use Rattle.seq_check.proofs.ClassLines.{class_missing, class_stops, classes_go_on, class_step, picks_class, no_class_line}
use Rattle.seq_check.proofs.model.first_in_classes.Goals as goal

pub returns-then-class-len : goal.returns-then-class-len
returns-then-class-len c =
    let n = c.len.ensures in
    let m = c.len-in-loop-class.ensures in
    let count = c.in_ok-lists.ensures.count in
    let past = c.if-class-len.true in
    c.look.ensures ∙ class_missing (problem_of c.args.inst.now) c.args.states.now 13 c.loop-class.line c.loop-class.class c.args.lines.now no_class_line c.loop-class-test.true (omega arith) c.loop-class.invariant.looks_are

pub first_in_class-bad-requires-clause-picked : goal.first_in_class-bad-requires-clause-picked
first_in_class-bad-requires-clause-picked c =
    let m = c.len-in-loop-class.ensures in
    let within = c.if-class-len.false in
    picks_class c.args.states.now c.len.result c.loop-class.class c.in_ok-lists.lists.items c.as_slice-numbers.result.now c.index.result.now c.in_ok-lists.ensures (omega arith) c.as_slice-numbers.ensures c.index.ensures

pub returns-then-is_some : goal.returns-then-is_some
returns-then-is_some c =
    class_stops (problem_of c.args.inst.now) c.args.states.now 13 c.loop-class.line c.loop-class.class c.args.lines.now c.index-lines-class.result c.loop-class-test.true c.index-lines-class.is
    c.first_in_class-bad.result (sym c.if-is_some.ensures) c.first_in_class-bad.ensures c.loop-class.invariant.looks_are

pub loop-class-preserved : goal.loop-class-preserved
loop-class-preserved c =
    let x = c.index-lines-class.result in
    let y = c.index-lines-class-in-loop-class.result in
    let same : get_or c.args.lines.now c.loop-class.class y ≡ x = get_or_default c.args.lines.now c.loop-class.class y x c.loop-class-test.true ∙ sym c.index-lines-class.is in
    let len : c.len-in-loop-class-2.result ≡ length x.states = c.len-in-loop-class-2.ensures ∙ ap (λ (l : ClassLine). length l.states) same in
    let step = class_step c.args.lines.now c.loop-class.class x c.loop-class-test.true c.index-lines-class.is in
    let so_far = c.loop-class.invariant.line_is in
    record {
      looks_are = classes_go_on (problem_of c.args.inst.now) c.args.states.now 13 c.loop-class.line c.loop-class.class c.args.lines.now x c.loop-class-test.true c.index-lines-class.is
          c.first_in_class-bad.result c.len-in-loop-class-2.result (sym c.if-is_some.ensures) c.first_in_class-bad.ensures len c.loop-class.invariant.looks_are;
      line_is = omega arith;
    }
