use Rattle.std.proofs.Common.{arith, refl}
use Rattle.std.proofs.lemmas.Option.{slice_get_within}
use Rattle.seq_theory.specs.Problem.{pass_part, fail_part}
use Rattle.seq_theory.proofs.PartsRecursion.{splitting-there}
use Rattle.seq_inst.specs.Members.{members}
use Rattle.seq_inst.specs.Instances.{problem_of}
use Rattle.seq_graph.specs.Known.{group_at}
use Rattle.seq_graph.proofs.ChoosingLaws.{limit-wants}
use Rattle.seq_graph.proofs.choosing.qualify.Goals as goal

pub low_sum-sum-requires-clause-there : goal.low_sum-sum-requires-clause-there
low_sum-sum-requires-clause-there c = splitting-there (problem_of c.args.inst.now) (members (group_at c.args.graph.now.rows.items c.args.place)) c.args.split.test c.requires.splits

pub knowledge_of-pass-requires-clause-there : goal.knowledge_of-pass-requires-clause-there
knowledge_of-pass-requires-clause-there c = slice_get_within c.args.graph.now.numbers.groups c.args.split.pass (pass_part (problem_of c.args.inst.now) c.args.split.test (members (group_at c.args.graph.now.rows.items c.args.place))) c.requires.parts.passing

pub knowledge_of-fail-requires-clause-there : goal.knowledge_of-fail-requires-clause-there
knowledge_of-fail-requires-clause-there c = slice_get_within c.args.graph.now.numbers.groups c.args.split.fail (fail_part (problem_of c.args.inst.now) c.args.split.test (members (group_at c.args.graph.now.rows.items c.args.place))) c.requires.parts.failing

pub bound_sum-requires-clause-there : goal.bound_sum-requires-clause-there
bound_sum-requires-clause-there c = splitting-there (problem_of c.args.inst.now) (members (group_at c.args.graph.now.rows.items c.args.place)) c.args.split.test c.requires.splits

pub returns : goal.returns
returns c =
    let s = c.args.graph.now in
    let p = problem_of c.args.inst.now in
    let g = members (group_at s.rows.items c.args.place) in
    record {
      parts = c.requires.parts;
      wants = limit-wants c.args.inst.now s.rows.items c.requires.known.rows_are c.args.place c.requires.place c.args.split.test c.args.limits.bounds c.requires.splits c.requires.low
          (let sum = c.bound_sum.ensures in omega arith);
      passing = c.knowledge_of-pass.ensures (pass_part p c.args.split.test g) c.requires.parts.passing;
      failing = c.knowledge_of-fail.ensures (fail_part p c.args.split.test g) c.requires.parts.failing;
      ahead = c.if-not-is_ahead.ensures refl;
    }
