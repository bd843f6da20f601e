use Rattle.std.proofs.Common.{◌∙◌, ℕ, arith, subst}
use Rattle.std.specs.Prelude.{Option, Some}
use Rattle.std.proofs.lemmas.List.{get_or_read}
use Rattle.seq_theory.proofs.BelowLaws.{passing-zero, passing-in, length-passing, class-within}
use Rattle.seq_inst.specs.Members.{members_below, IsClass, reached, has_class}
use Rattle.seq_inst.specs.Instances.{problem_of}
use Rattle.seq_huff.proofs.Written.{Written, written-none, written-more}
use Rattle.seq_huff.proofs.weights.write_weights.Goals as goal

pub loop-next-init : goal.loop-next-init
loop-next-init c =
    let step = c.first_from-next.ensures.step (omega arith) in
    record {
      class = step.class;
      written = written-none _ _ _ (step.before ∙ passing-zero (has_class c.args.group.now));
    }

pub index-requires : goal.index-requires
index-requires c =
    let class : IsClass c.args.group.now (Some c.in-Some.class) = subst (IsClass c.args.group.now) c.in-Some.is c.loop-next.invariant.class in
    let there = class-within (problem_of c.args.inst.now) (has_class c.args.group.now) c.in-Some.class 512 c.requires.within class.0 class.1 in
    let n = c.args.inst.now.weights.ok.0 in
    omega arith

pub bounds-out-count : goal.bounds-out-count
bounds-out-count c =
    let class : IsClass c.args.group.now (Some c.in-Some.class) = subst (IsClass c.args.group.now) c.in-Some.is c.loop-next.invariant.class in
    let w = subst (λ (o : Option ℕ). Written (problem_of c.args.inst.now).weight (members_below c.args.group.now (reached o)) c.loop-next.out c.loop-next.count) c.in-Some.is c.loop-next.invariant.written in
    let m = w.many in
    let l = length-passing (has_class c.args.group.now) c.in-Some.class in
    let lt = class.0 in
    let room = c.requires.room in
    let o = c.loop-next.auto in
    omega arith

pub loop-next-preserved : goal.loop-next-preserved
loop-next-preserved c =
    let p = problem_of c.args.inst.now in
    let g = c.args.group.now in
    let class : IsClass g (Some c.in-Some.class) = subst (IsClass g) c.in-Some.is c.loop-next.invariant.class in
    let w = subst (λ (o : Option ℕ). Written p.weight (members_below g (reached o)) c.loop-next.out c.loop-next.count) c.in-Some.is c.loop-next.invariant.written in
    let m = w.many in
    let l = length-passing (has_class g) c.in-Some.class in
    let lt = class.0 in
    let room = c.requires.room in
    let o = c.loop-next.auto in
    let there = class-within p (has_class g) c.in-Some.class 512 c.requires.within class.0 class.1 in
    let value = get_or_read c.args.inst.now.weights.items c.in-Some.class c.index.result.now there c.index.ensures 0 in
    let step = c.first_from-next-in-Some.ensures.step (omega arith) in
    record {
      class = step.class;
      written = written-more p.weight (members_below g c.in-Some.class) (members_below g (reached c.first_from-next-in-Some.result)) c.loop-next.out c.loop-next.count c.in-Some.class c.index.result.now w (omega arith) (step.before ∙ passing-in (has_class g) c.in-Some.class class.1) value;
    }

pub returns-clause-count : goal.returns-clause-count
returns-clause-count c = (subst (λ (o : Option ℕ). Written (problem_of c.args.inst.now).weight (members_below c.args.group.now (reached o)) c.loop-next.out c.loop-next.count) c.in_default.is c.loop-next.invariant.written).many

pub returns-clause-weights : goal.returns-clause-weights
returns-clause-weights c = (subst (λ (o : Option ℕ). Written (problem_of c.args.inst.now).weight (members_below c.args.group.now (reached o)) c.loop-next.out c.loop-next.count) c.in_default.is c.loop-next.invariant.written).values
