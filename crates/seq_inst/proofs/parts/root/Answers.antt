use Rattle.std.proofs.Common.{◌≡◌, ◌∙◌, ap, arith, length}
use Rattle.seq_theory.specs.Problem.{count_up}
use Rattle.seq_theory.proofs.BelowLaws.{within-all}
use Rattle.seq_inst.specs.Members.{members}
use Rattle.seq_inst.specs.Instances.{problem_of}
use Rattle.seq_inst.proofs.RootLaws.{below-more, members-from_below}
use Rattle.seq_inst.proofs.parts.root.Goals as goal

pub loop-class-preserved : goal.loop-class-preserved
loop-class-preserved c =
    let n = c.len-classes.ensures ∙ c.args.inst.now.weights.ok.0 in
    let few = c.args.inst.now.valid.few in
    below-more c.loop-class.words c.loop-class.class (omega arith) c.loop-class.invariant

pub returns : goal.returns
returns c =
    let n = c.len-classes.ensures ∙ c.args.inst.now.weights.ok.0 in
    let few = c.args.inst.now.valid.few in
    let e : c.loop-class.class ≡ length c.args.inst.now.weights.items = omega arith in
    let all = members-from_below c.loop-class.words c.loop-class.class (omega arith) c.loop-class.invariant ∙ ap (count_up 0) e in
    record { classes = all; within = within-all (problem_of c.args.inst.now) (members (record { 0 = c.loop-class.words })) all }
