use Rattle.std.proofs.Common.{◌≡◌, ◌+◌, ◌∙◌, ℕ, ap, refl, arith, subst}
use Rattle.std.specs.Prelude.{Option, Some}
use Rattle.std.proofs.lemmas.List.{get_or_read}
use Rattle.seq_theory.proofs.BelowLaws.{passing-zero, passing-in, class-within}
use Rattle.seq_inst.specs.Members.{members_below, IsClass, reached, has_class}
use Rattle.seq_inst.specs.Instances.{problem_of}
use Rattle.seq_inst.specs.Walks.{IsAhead, IsAheadOf}
use Rattle.seq_huff.specs.Potential.{potential}
use Rattle.seq_huff.proofs.MassLaws.{MassBelow, mass-none, mass-more, mass-small}
use Rattle.seq_huff.proofs.mass.mass_of.Goals as goal

pub loop-next-init : goal.loop-next-init
loop-next-init c =
    let g = c.args.group.now in
    let step = c.next_class-next.ensures.step 0 (omega arith) c.of-ahead.ensures in
    record {
      class = step.class;
      ahead = c.next_class-next.ensures.ahead 0 c.of-ahead.ensures;
      mass = mass-none c.args.inst.now _ (step.before ∙ passing-zero (has_class g));
    }

pub index-requires : goal.index-requires
index-requires c =
    let class : IsClass c.args.group.now (Some c.in-Some.class) = subst (IsClass c.args.group.now) c.in-Some.is c.loop-next.invariant.class in
    let there = class-within (problem_of c.args.inst.now) (has_class c.args.group.now) c.in-Some.class 512 c.requires.within class.0 class.1 in
    let n = c.args.inst.now.weights.ok.0 in
    omega arith

pub index-requires-in-Some : goal.index-requires-in-Some
index-requires-in-Some c =
    let class : IsClass c.args.group.now (Some c.in-Some.class) = subst (IsClass c.args.group.now) c.in-Some.is c.loop-next.invariant.class in
    let there = class-within (problem_of c.args.inst.now) (has_class c.args.group.now) c.in-Some.class 512 c.requires.within class.0 class.1 in
    let n = c.args.order.now.potentials.ok.0 in
    let m = c.requires.order.as_many_potentials in
    omega arith

pub overflow_add-weight : goal.overflow_add-weight
overflow_add-weight c =
    let p = problem_of c.args.inst.now in
    let class : IsClass c.args.group.now (Some c.in-Some.class) = subst (IsClass c.args.group.now) c.in-Some.is c.loop-next.invariant.class in
    let there = class-within p (has_class c.args.group.now) c.in-Some.class 512 c.requires.within class.0 class.1 in
    let w : c.index.result.now ≡ p.weight c.in-Some.class = get_or_read c.args.inst.now.weights.items c.in-Some.class c.index.result.now there c.index.ensures 0 in
    let mass = subst (λ (o : Option ℕ). MassBelow c.args.inst.now (members_below c.args.group.now (reached o)) c.loop-next.classes c.loop-next.weight c.loop-next.potential) c.in-Some.is c.loop-next.invariant.mass in
    let small = mass-small c.args.inst.now c.args.group.now c.in-Some.class c.loop-next.classes c.loop-next.weight c.loop-next.potential c.index.result.now (potential (p.weight c.in-Some.class)) c.requires.within class.0 class.1 mass w refl in
    let a = small.1 in
    omega arith

pub overflow_add-potential : goal.overflow_add-potential
overflow_add-potential c =
    let p = problem_of c.args.inst.now in
    let class : IsClass c.args.group.now (Some c.in-Some.class) = subst (IsClass c.args.group.now) c.in-Some.is c.loop-next.invariant.class in
    let there = class-within p (has_class c.args.group.now) c.in-Some.class 512 c.requires.within class.0 class.1 in
    let w : c.index.result.now ≡ p.weight c.in-Some.class = get_or_read c.args.inst.now.weights.items c.in-Some.class c.index.result.now there c.index.ensures 0 in
    let m = c.requires.order.as_many_potentials in
    let v : c.index-in-Some.result.now ≡ potential (p.weight c.in-Some.class) = get_or_read c.args.order.now.potentials.items c.in-Some.class c.index-in-Some.result.now (omega arith) c.index-in-Some.ensures 0 ∙ c.requires.order.potentials c.in-Some.class there in
    let mass = subst (λ (o : Option ℕ). MassBelow c.args.inst.now (members_below c.args.group.now (reached o)) c.loop-next.classes c.loop-next.weight c.loop-next.potential) c.in-Some.is c.loop-next.invariant.mass in
    let small = mass-small c.args.inst.now c.args.group.now c.in-Some.class c.loop-next.classes c.loop-next.weight c.loop-next.potential c.index.result.now c.index-in-Some.result.now c.requires.within class.0 class.1 mass w v in
    let a = small.2 in
    omega arith

pub loop-next-preserved : goal.loop-next-preserved
loop-next-preserved c =
    let p = problem_of c.args.inst.now in
    let g = c.args.group.now in
    let class : IsClass g (Some c.in-Some.class) = subst (IsClass g) c.in-Some.is c.loop-next.invariant.class in
    let there = class-within p (has_class g) c.in-Some.class 512 c.requires.within class.0 class.1 in
    let w : c.index.result.now ≡ p.weight c.in-Some.class = get_or_read c.args.inst.now.weights.items c.in-Some.class c.index.result.now there c.index.ensures 0 in
    let m = c.requires.order.as_many_potentials in
    let v : c.index-in-Some.result.now ≡ potential (p.weight c.in-Some.class) = get_or_read c.args.order.now.potentials.items c.in-Some.class c.index-in-Some.result.now (omega arith) c.index-in-Some.ensures 0 ∙ c.requires.order.potentials c.in-Some.class there in
    let mass = subst (λ (o : Option ℕ). MassBelow c.args.inst.now (members_below g (reached o)) c.loop-next.classes c.loop-next.weight c.loop-next.potential) c.in-Some.is c.loop-next.invariant.mass in
    let ahead : IsAhead g c.loop-next.ahead (c.in-Some.class + 1) = subst (IsAheadOf g c.loop-next.ahead) c.in-Some.is c.loop-next.invariant.ahead in
    let step = c.next_class-next-in-Some.ensures.step (c.in-Some.class + 1) (omega arith) ahead in
    record {
      class = step.class;
      ahead = c.next_class-next-in-Some.ensures.ahead (c.in-Some.class + 1) ahead;
      mass = mass-more c.args.inst.now (members_below g c.in-Some.class) (members_below g (reached c.next_class-next-in-Some.result)) c.in-Some.class c.loop-next.classes c.loop-next.weight c.loop-next.potential c.index.result.now c.index-in-Some.result.now mass (step.before ∙ passing-in (has_class g) c.in-Some.class class.1) w v;
    }

pub overflow_add-classes : goal.overflow_add-classes
overflow_add-classes c =
    let p = problem_of c.args.inst.now in
    let class : IsClass c.args.group.now (Some c.in-Some.class) = subst (IsClass c.args.group.now) c.in-Some.is c.loop-next.invariant.class in
    let mass = subst (λ (o : Option ℕ). MassBelow c.args.inst.now (members_below c.args.group.now (reached o)) c.loop-next.classes c.loop-next.weight c.loop-next.potential) c.in-Some.is c.loop-next.invariant.mass in
    let small = mass-small c.args.inst.now c.args.group.now c.in-Some.class c.loop-next.classes c.loop-next.weight c.loop-next.potential (p.weight c.in-Some.class) (potential (p.weight c.in-Some.class)) c.requires.within class.0 class.1 mass refl refl in
    let a = small.0 in
    omega arith

pub next_class-next-requires-in-Some : goal.next_class-next-requires-in-Some
next_class-next-requires-in-Some c = (subst (IsAheadOf c.args.group.now c.loop-next.ahead) c.in-Some.is c.loop-next.invariant.ahead).there

pub loop-next-smaller : goal.loop-next-smaller
loop-next-smaller c =
    let g = c.args.group.now in
    let class : IsClass g (Some c.in-Some.class) = subst (IsClass g) c.in-Some.is c.loop-next.invariant.class in
    let low = class.0 in
    let ahead : IsAhead g c.loop-next.ahead (c.in-Some.class + 1) = subst (IsAheadOf g c.loop-next.ahead) c.in-Some.is c.loop-next.invariant.ahead in
    let step = c.next_class-next-in-Some.ensures.step (c.in-Some.class + 1) (omega arith) ahead in
    let more = step.on in
    let here = ap reached c.in-Some.is in
    omega arith

pub returns : goal.returns
returns c =
    let mass = subst (λ (o : Option ℕ). MassBelow c.args.inst.now (members_below c.args.group.now (reached o)) c.loop-next.classes c.loop-next.weight c.loop-next.potential) c.in_default.is c.loop-next.invariant.mass in
    record { classes = mass.count_is; weight = mass.weight_is; potential = mass.potential_is }
