-- What stands of the problem of a valid instance.
use Rattle.std.proofs.Common.{◌≡◌, ℕ, ◌≤◌, List, [], ◌∷◌, length, ap, arith, subst}
use Rattle.seq_theory.specs.Problem.{Problem, IsIn, IsWithin, IsWeighed, IsSized, fails, pass_part, fail_part, weight_of}
use Rattle.seq_theory.specs.Bound.{bound}
use Rattle.seq_theory.specs.Greedy.{greedy, greedy_cost}
use Rattle.seq_theory.specs.Shapes.{leaf_count}
use Rattle.seq_theory.proofs.GreedyLaws.{bound-le-least, least-le-greedy}
use Rattle.seq_theory.proofs.GreedyParts.{greedy-small, greedy-leaves, greedy-none}
use Rattle.seq_theory.proofs.GroupLaws.{filter-IsIn}
use Rattle.seq_theory.proofs.BelowLaws.{weight-within, passing-within, length-passing}
use Rattle.seq_inst.specs.declared.instance.Instance.{Instance}
use Rattle.seq_inst.specs.declared.group.Group.{Group}
use Rattle.seq_inst.specs.Members.{has_class, members}
use Rattle.seq_inst.specs.Instances.{problem_of}
use Rattle.seq_inst.specs.Valid.{problem_from, IsValid}
use Rattle.seq_inst.specs.Stands.{InstanceStands, greatest_cost}
use Rattle.seq_inst.proofs.PartsLaws.{is_end-length}

module _ (ws cs : List ℕ) (ps : List Group) (valid : IsValid ws cs ps) where
  abbrev its : Problem
  its = problem_from ws cs ps

  weighs : IsWeighed its
  weighs = record { positive = valid.positive; goals = λ c lt. lt }

  sizes : IsSized its
  sizes = record { classes = valid.few; costs = λ t lt. (valid.costs t lt).1; weights = valid.total }

  light-group : (g : Group) → IsWithin its (members g) → weight_of its (members g) ≤ 4097000000
  light-group g within = let f = weight-within its (has_class g) 512 valid.few within in let t = valid.total in omega arith

  few-classes : (g : Group) → IsWithin its (members g) → length (members g) ≤ length ws
  few-classes g within =
      let e = ap length (passing-within its (has_class g) 512 valid.few within) in
      let f = length-passing (has_class g) (length ws) in
      omega arith

  greedy-fits : (g : Group) → IsWithin its (members g) → greedy_cost its (members g) ≤ greatest_cost
  greedy-fits g within = greedy-small its (members g) sizes valid.told within (light-group g within) (let f = few-classes g within in let n = valid.few in omega arith)

  bound-fits : (g : Group) → IsWithin its (members g) → bound its (members g) ≤ greatest_cost
  bound-fits g within =
      let a = bound-le-least its (members g) weighs valid.told within in
      let b = least-le-greedy its (members g) valid.told within in
      let c = greedy-fits g within in
      omega arith

  few-leaves : (xs : List ℕ) → IsWithin its xs → length xs ≤ length ws → leaf_count (greedy its xs) ≤ length ws
  few-leaves [] within le = let f = greedy-none its valid.told in let some = valid.some in omega arith
  few-leaves (x ∷ xs) within le = let f = greedy-leaves its (x ∷ xs) valid.told within (omega arith) in omega arith

  pub stands : InstanceStands (problem_from ws cs ps)
  stands = record {
    weighed = weighs;
    sized = sizes;
    told = valid.told;
    light = light-group;
    few = few-classes;
    ends = λ g. is_end-length ws cs ps g;
    bound_fits = bound-fits;
    greedy_fits = greedy-fits;
    greedy_leaves = λ g within. few-leaves (members g) within (few-classes g within);
  }

pub within-pass : (p : Problem) (group part : List ℕ) (t : ℕ) → IsWithin p group → part ≡ pass_part p t group → IsWithin p part
within-pass p group part t within e c i = within c (filter-IsIn (p.passes t) c group (subst (IsIn c) e i))

pub within-fail : (p : Problem) (group part : List ℕ) (t : ℕ) → IsWithin p group → part ≡ fail_part p t group → IsWithin p part
within-fail p group part t within e c i = within c (filter-IsIn (fails p t) c group (subst (IsIn c) e i))

pub light : (inst : Instance) (g : Group) → IsWithin (problem_of inst) (members g) → weight_of (problem_of inst) (members g) ≤ 4097000000
light inst g within = inst.stands.light g within
