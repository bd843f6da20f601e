use Rattle.std.proofs.Common.{◌∙◌, sym, ap}
use Rattle.seq_inst.specs.Instances.{problem_of}
use Rattle.seq_core.specs.RowsOf.{rows_of}
use Rattle.seq_core.specs.Events.{refusal, answer}
use Rattle.seq_core.proofs.CoreLaws.{answer-allowed, allowed-answer}
use Rattle.seq_core.proofs.machine.Core.step.Goals as goal

pub returns-in-Enter-clause-allowed : goal.returns-in-Enter-clause-allowed
returns-in-Enter-clause-allowed c =
    let p = problem_of c.args.inst.now in
    let t = c.args.self.now in
    answer-allowed p t.room t.rows c.args.event c.enter.result c.requires.real (c.enter.ensures.answer ∙ ap (λ e. answer (refusal p t.room (rows_of t.rows) e)) (sym c.in-Enter.is))

pub returns-in-Enter-clause-accepted : goal.returns-in-Enter-clause-accepted
returns-in-Enter-clause-accepted c =
    let p = problem_of c.args.inst.now in
    let t = c.args.self.now in
    allowed-answer p t.room t.rows c.args.event c.enter.result (c.enter.ensures.answer ∙ ap (λ e. answer (refusal p t.room (rows_of t.rows) e)) (sym c.in-Enter.is))
