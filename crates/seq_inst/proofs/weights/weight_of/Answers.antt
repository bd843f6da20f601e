use Rattle.std.proofs.Common.{◌≡◌, ◌+◌, ℕ, ap, sym, arith, subst}
use Rattle.std.specs.Prelude.{Option, Some}
use Rattle.std.proofs.lemmas.List.{get_or_read}
use Rattle.seq_theory.specs.Problem.{weight_of}
use Rattle.seq_inst.specs.Members.{members_below}
use Rattle.seq_inst.specs.Instances.{problem_of}
use Rattle.seq_inst.specs.Members.{IsClass, reached}
use Rattle.seq_inst.proofs.FirstLaws.{found-by, found-class, first-members}
use Rattle.seq_inst.proofs.PartsLaws.{weight-members_below, weight-members_below-in, weight-next, class-within}
use Rattle.seq_inst.proofs.weights.weight_of.Goals as goal

pub loop-next-init : goal.loop-next-init
loop-next-init c =
    let found = found-by c.args.group.now 0 c.first_from-next.result c.first_from-next.ensures.found c.first_from-next.ensures.none in
    record {
      class = found-class c.args.group.now 0 c.first_from-next.result found;
      sum = sym (ap (weight_of (problem_of c.args.inst.now)) (first-members c.args.group.now c.first_from-next.result found));
    }

pub index-requires : goal.index-requires
index-requires c =
    let class : IsClass c.args.group.now (Some c.in-Some.class) = subst (IsClass c.args.group.now) c.in-Some.is c.loop-next.invariant.class in
    let there = class-within (problem_of c.args.inst.now) c.args.group.now c.in-Some.class c.requires class.0 class.1 in
    let n = c.args.inst.now.weights.ok.0 in
    omega arith

pub overflow_add-total : goal.overflow_add-total
overflow_add-total c =
    let p = problem_of c.args.inst.now in
    let class : IsClass c.args.group.now (Some c.in-Some.class) = subst (IsClass c.args.group.now) c.in-Some.is c.loop-next.invariant.class in
    let there = class-within p c.args.group.now c.in-Some.class c.requires class.0 class.1 in
    let w : c.index.result.now ≡ p.weight c.in-Some.class = get_or_read c.args.inst.now.weights.items c.in-Some.class c.index.result.now there c.index.ensures 0 in
    let sum : c.loop-next.total ≡ weight_of p (members_below c.args.group.now c.in-Some.class) = subst (λ (o : Option ℕ). c.loop-next.total ≡ weight_of p (members_below c.args.group.now (reached o))) c.in-Some.is c.loop-next.invariant.sum in
    let f1 = weight-members_below-in p c.args.group.now c.in-Some.class class.1 in
    let f2 = weight-members_below p c.args.group.now (c.in-Some.class + 1) (omega arith) in
    let f3 = c.args.inst.now.valid.total in
    omega arith

pub loop-next-preserved : goal.loop-next-preserved
loop-next-preserved c =
    let p = problem_of c.args.inst.now in
    let class : IsClass c.args.group.now (Some c.in-Some.class) = subst (IsClass c.args.group.now) c.in-Some.is c.loop-next.invariant.class in
    let there = class-within p c.args.group.now c.in-Some.class c.requires class.0 class.1 in
    let w : c.index.result.now ≡ p.weight c.in-Some.class = get_or_read c.args.inst.now.weights.items c.in-Some.class c.index.result.now there c.index.ensures 0 in
    let sum : c.loop-next.total ≡ weight_of p (members_below c.args.group.now c.in-Some.class) = subst (λ (o : Option ℕ). c.loop-next.total ≡ weight_of p (members_below c.args.group.now (reached o))) c.in-Some.is c.loop-next.invariant.sum in
    let found = found-by c.args.group.now (c.in-Some.class + 1) c.first_from-next-in-Some.result c.first_from-next-in-Some.ensures.found c.first_from-next-in-Some.ensures.none in
    let next = weight-next p c.args.group.now c.in-Some.class c.first_from-next-in-Some.result class.0 class.1 found in
    record {
      class = found-class c.args.group.now (c.in-Some.class + 1) c.first_from-next-in-Some.result found;
      sum = omega arith;
    }
