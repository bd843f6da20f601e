use Rattle.std.proofs.Common.{◌≡◌, ◌∙◌, sym, ap, subst, arith}
use Rattle.std.proofs.lemmas.List.{get_or_read}
use Rattle.seq_theory.specs.Problem.{pass_part, fail_part}
use Rattle.seq_theory.specs.Bound.{step_sum}
use Rattle.seq_theory.specs.Rows.{known_low}
use Rattle.seq_theory.proofs.PartsRecursion.{splitting-there}
use Rattle.seq_inst.specs.declared.outcome.Row.{Row}
use Rattle.seq_inst.specs.Members.{members}
use Rattle.seq_inst.specs.Instances.{problem_of}
use Rattle.seq_core.specs.RowsOf.{rows_of as rows_from}
use Rattle.seq_graph.specs.Choosing.{IsWantedBelow}
use Rattle.seq_graph.specs.Known.{no_row, group_at}
use Rattle.seq_graph.specs.Steps.{IsStep, EntersFirst, least_test}
use Rattle.seq_graph.proofs.KnownLaws.{row-real, row-within}
use Rattle.seq_graph.proofs.ChoiceLaws.{least_test-first}
use Rattle.seq_graph.proofs.StepLaws.{first-wants, step-holds, closes, enters-one}
use Rattle.seq_graph.proofs.steps.step_by_test.Goals as goal

pub parts_of-parts-requires : goal.parts_of-parts-requires
parts_of-parts-requires c =
    let s = c.args.graph.now in
    let p = problem_of c.args.inst.now in
    let rows = s.rows.items in
    let g = members (group_at rows c.args.place) in
    let known = c.requires.known.rows_are in
    let t = c.args.test in
    let read = get_or_read rows c.args.place c.index.result.now c.requires.place c.index.ensures no_row in
    let first = least_test-first p (step_sum p (known_low p (rows_from rows)) g) g t c.args.inst.now.valid.told (row-within p rows known c.args.place c.requires.place) (row-real p rows known c.args.place c.requires.place).goals c.requires.test in
    let n = c.args.inst.now.costs.ok.0 in
    let there = splitting-there p g t first.among in
    omega arith

pub returns-in-Pass-clause-step : goal.returns-in-Pass-clause-step
returns-in-Pass-clause-step c =
    let s = c.args.graph.now in
    let p = problem_of c.args.inst.now in
    let rows = s.rows.items in
    let g = members (group_at rows c.args.place) in
    let known = c.requires.known.rows_are in
    let t = c.args.test in
    let read = get_or_read rows c.args.place c.index.result.now c.requires.place c.index.ensures no_row in
    let first = least_test-first p (step_sum p (known_low p (rows_from rows)) g) g t c.args.inst.now.valid.told (row-within p rows known c.args.place c.requires.place) (row-real p rows known c.args.place c.requires.place).goals c.requires.test in
    let pass : members c.parts_of-parts.result.pass ≡ pass_part p t g = c.parts_of-parts.ensures.pass ∙ ap (λ (r : Row). pass_part p t (members r.group)) read in
    let fail : members c.parts_of-parts.result.fail ≡ fail_part p t g = c.parts_of-parts.ensures.fail ∙ ap (λ (r : Row). fail_part p t (members r.group)) read in
    let wants = first-wants c.walks_hold.ensures c.args.inst.now rows known c.args.place t c.requires.place first in
    let wp = subst (IsWantedBelow p g) (sym pass) wants.passing in
    let wf = subst (IsWantedBelow p g) (sym fail) wants.failing in
    let kp = c.knowledge_of_part-pass_known.result in
    let kf = c.knowledge_of_part-fail_known.result in
    let hp = c.knowledge_of_part-pass_known.ensures in
    let hf = c.knowledge_of_part-fail_known.ensures in
    let close = closes p rows g t (members c.parts_of-parts.result.pass) (members c.parts_of-parts.result.fail) kp kf c.requires.test pass fail hp hf in
    subst (IsStep p rows g) (sym c.step_of.ensures) (step-holds p rows g c.parts_of-parts.result.pass kp c.parts_of-parts.result.fail kf wp wf hp hf close)

pub returns-in-Pass-clause-first : goal.returns-in-Pass-clause-first
returns-in-Pass-clause-first c =
    let s = c.args.graph.now in
    let p = problem_of c.args.inst.now in
    let rows = s.rows.items in
    let g = members (group_at rows c.args.place) in
    let known = c.requires.known.rows_are in
    let t = c.args.test in
    let read = get_or_read rows c.args.place c.index.result.now c.requires.place c.index.ensures no_row in
    let part : members c.parts_of-parts.result.pass ≡ pass_part p (least_test p rows g) g = c.parts_of-parts.ensures.pass ∙ ap (λ (r : Row). pass_part p t (members r.group)) read ∙ ap (λ n. pass_part p n g) c.requires.test in
    subst (λ a. EntersFirst p rows g a c.step_of.result) (sym c.in-Pass.is)
    (enters-one p rows known c.parts_of-parts.result.pass c.parts_of-parts.result.fail c.knowledge_of_part-pass_known.result c.knowledge_of_part-fail_known.result c.step_of.result c.step_of.ensures
    c.knowledge_of_part-pass_known.ensures (pass_part p (least_test p rows g) g) part)

pub returns-in-Fail-clause-step : goal.returns-in-Fail-clause-step
returns-in-Fail-clause-step c =
    let s = c.args.graph.now in
    let p = problem_of c.args.inst.now in
    let rows = s.rows.items in
    let g = members (group_at rows c.args.place) in
    let known = c.requires.known.rows_are in
    let t = c.args.test in
    let read = get_or_read rows c.args.place c.index.result.now c.requires.place c.index.ensures no_row in
    let first = least_test-first p (step_sum p (known_low p (rows_from rows)) g) g t c.args.inst.now.valid.told (row-within p rows known c.args.place c.requires.place) (row-real p rows known c.args.place c.requires.place).goals c.requires.test in
    let pass : members c.parts_of-parts.result.pass ≡ pass_part p t g = c.parts_of-parts.ensures.pass ∙ ap (λ (r : Row). pass_part p t (members r.group)) read in
    let fail : members c.parts_of-parts.result.fail ≡ fail_part p t g = c.parts_of-parts.ensures.fail ∙ ap (λ (r : Row). fail_part p t (members r.group)) read in
    let wants = first-wants c.walks_hold.ensures c.args.inst.now rows known c.args.place t c.requires.place first in
    let wp = subst (IsWantedBelow p g) (sym pass) wants.passing in
    let wf = subst (IsWantedBelow p g) (sym fail) wants.failing in
    let kp = c.knowledge_of_part-pass_known.result in
    let kf = c.knowledge_of_part-fail_known.result in
    let hp = c.knowledge_of_part-pass_known.ensures in
    let hf = c.knowledge_of_part-fail_known.ensures in
    let close = closes p rows g t (members c.parts_of-parts.result.pass) (members c.parts_of-parts.result.fail) kp kf c.requires.test pass fail hp hf in
    subst (IsStep p rows g) (sym c.step_of-in-Fail.ensures) (step-holds p rows g c.parts_of-parts.result.fail kf c.parts_of-parts.result.pass kp wf wp hf hp (λ cf cp. close cp cf))

pub returns-in-Fail-clause-first : goal.returns-in-Fail-clause-first
returns-in-Fail-clause-first c =
    let s = c.args.graph.now in
    let p = problem_of c.args.inst.now in
    let rows = s.rows.items in
    let g = members (group_at rows c.args.place) in
    let known = c.requires.known.rows_are in
    let t = c.args.test in
    let read = get_or_read rows c.args.place c.index.result.now c.requires.place c.index.ensures no_row in
    let part : members c.parts_of-parts.result.fail ≡ fail_part p (least_test p rows g) g = c.parts_of-parts.ensures.fail ∙ ap (λ (r : Row). fail_part p t (members r.group)) read ∙ ap (λ n. fail_part p n g) c.requires.test in
    subst (λ a. EntersFirst p rows g a c.step_of-in-Fail.result) (sym c.in-Fail.is)
    (enters-one p rows known c.parts_of-parts.result.fail c.parts_of-parts.result.pass c.knowledge_of_part-fail_known.result c.knowledge_of_part-pass_known.result c.step_of-in-Fail.result c.step_of-in-Fail.ensures
    c.knowledge_of_part-fail_known.ensures (fail_part p (least_test p rows g) g) part)
