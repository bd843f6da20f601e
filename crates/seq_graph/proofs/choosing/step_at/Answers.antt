use Rattle.std.proofs.Common.{sym, subst}
use Rattle.seq_theory.specs.Problem.{pass_part, fail_part}
use Rattle.seq_inst.specs.Members.{members}
use Rattle.seq_inst.specs.Instances.{problem_of}
use Rattle.seq_graph.specs.Choosing.{IsWantedBelow}
use Rattle.seq_graph.specs.Known.{group_at}
use Rattle.seq_graph.specs.Parts.{IsKnowledge}
use Rattle.seq_graph.specs.Steps.{IsStep}
use Rattle.seq_graph.proofs.StepLaws.{step-holds}
use Rattle.seq_graph.proofs.ChoosingLaws.{one-group, ahead-open}
use Rattle.seq_graph.proofs.choosing.step_at.Goals as goal

pub returns-then-fails_first : goal.returns-then-fails_first
returns-then-fails_first c =
    let s = c.args.graph.now in
    let p = problem_of c.args.inst.now in
    let rows = s.rows.items in
    let g = members (group_at rows c.args.place) in
    let t = c.args.candidate.split.test in
    let h = c.requires.candidate in
    let pass = one-group s.numbers (members c.group_at-pass.result) (pass_part p t g) c.args.candidate.split.pass c.group_at-pass.ensures h.parts.passing in
    let fail = one-group s.numbers (members c.group_at-fail.result) (fail_part p t g) c.args.candidate.split.fail c.group_at-fail.ensures h.parts.failing in
    let wp = subst (IsWantedBelow p g) (sym pass) h.wants.passing in
    let wf = subst (IsWantedBelow p g) (sym fail) h.wants.failing in
    let hp = subst (λ x. IsKnowledge p rows x c.args.candidate.pass) (sym pass) h.passing in
    let hf = subst (λ x. IsKnowledge p rows x c.args.candidate.fail) (sym fail) h.failing in
    subst (IsStep p rows g) (sym c.step_of.ensures) (step-holds p rows g c.group_at-fail.result c.args.candidate.fail c.group_at-pass.result c.args.candidate.pass wf wp hf hp (λ cf cp. absurd (ahead-open c.args.candidate.pass c.args.candidate.fail h.ahead cp cf)))

pub returns-else-fails_first : goal.returns-else-fails_first
returns-else-fails_first c =
    let s = c.args.graph.now in
    let p = problem_of c.args.inst.now in
    let rows = s.rows.items in
    let g = members (group_at rows c.args.place) in
    let t = c.args.candidate.split.test in
    let h = c.requires.candidate in
    let pass = one-group s.numbers (members c.group_at-pass.result) (pass_part p t g) c.args.candidate.split.pass c.group_at-pass.ensures h.parts.passing in
    let fail = one-group s.numbers (members c.group_at-fail.result) (fail_part p t g) c.args.candidate.split.fail c.group_at-fail.ensures h.parts.failing in
    let wp = subst (IsWantedBelow p g) (sym pass) h.wants.passing in
    let wf = subst (IsWantedBelow p g) (sym fail) h.wants.failing in
    let hp = subst (λ x. IsKnowledge p rows x c.args.candidate.pass) (sym pass) h.passing in
    let hf = subst (λ x. IsKnowledge p rows x c.args.candidate.fail) (sym fail) h.failing in
    subst (IsStep p rows g) (sym c.step_of-else-fails_first.ensures) (step-holds p rows g c.group_at-pass.result c.args.candidate.pass c.group_at-fail.result c.args.candidate.fail wp wf hp hf (λ cp cf. absurd (ahead-open c.args.candidate.pass c.args.candidate.fail h.ahead cp cf)))
