-- The theory's laws of bounds, for the groups of an instance.
use Rattle.std.proofs.Common.{◌≡◌, ℕ, ◌≤◌, refl, arith, subst, sym, Option, Some, None}
use Rattle.std.specs.Prelude.{List}
use Rattle.seq_theory.specs.Problem.{IsWithin, IsWeighed}
use Rattle.seq_theory.specs.Tree.{Tree, Solves, IsLeast}
use Rattle.seq_theory.specs.Bound.{bound}
use Rattle.seq_theory.specs.Greedy.{one_step, greedy, greedy_cost}
use Rattle.seq_theory.specs.Huffman.{huff}
use Rattle.seq_theory.specs.HuffmanLaw.{HuffmanIsLeast}
use Rattle.seq_theory.specs.Laws.{BoundsHold}
use Rattle.seq_theory.proofs.PublicLaws.{has_least}
use Rattle.seq_theory.proofs.GreedyLaws.{greedy-solves}
use Rattle.seq_theory.proofs.LeastOfLaws.{lesser}
use Rattle.seq_theory.proofs.WantedLaws.{one_step-wanted}
use Rattle.seq_inst.specs.declared.instance.Instance.{Instance}
use Rattle.seq_inst.specs.Instances.{problem_of}
use Rattle.seq_huff.specs.Bounds.{UndercutsTrees, IsAtMostLeast, IsAtLeastLeast, WantsParts, greatest_cost}
use Rattle.seq_huff.specs.Choice.{lesser_number}

pub weighed : (inst : Instance) → IsWeighed (problem_of inst)
weighed inst = inst.stands.weighed

pub huffman-undercuts : HuffmanIsLeast → (weights : List ℕ) (n : ℕ) → n ≡ huff weights → UndercutsTrees weights n
huffman-undercuts law weights n is t same = let f = law weights t same in omega arith

-- what is at most the least cost is at most what each right strategy costs
at_most-each : (inst : Instance) (group : List ℕ) (n : ℕ) → IsWithin (problem_of inst) group → ((least : ℕ) → IsLeast (problem_of inst) group least → n ≤ least) → IsAtMostLeast (problem_of inst) group n
at_most-each inst group n within le tree s =
    let some = has_least (problem_of inst) group inst.valid.told within in
    let a = le some.0 some.1 in
    let b = some.1.least tree s in
    omega arith

pub bound-low : BoundsHold → (inst : Instance) (group : List ℕ) (n : ℕ) → IsWithin (problem_of inst) group → n ≡ bound (problem_of inst) group → IsAtMostLeast (problem_of inst) group n
bound-low law inst group n within is = at_most-each inst group n within (λ least l.
    let b = law (problem_of inst) group least inst.stands.weighed inst.valid.told within l in
    let f1 = b.bound_low in
    let f2 = b.one_step_low in
    omega arith)

pub one_step-holds : BoundsHold → (inst : Instance) (group : List ℕ) (n : ℕ) → IsWithin (problem_of inst) group → n ≡ one_step (problem_of inst) group → greedy_cost (problem_of inst) group ≤ greatest_cost → record {
  value : n ≡ one_step (problem_of inst) group;
  above : bound (problem_of inst) group ≤ n;
  low : IsAtMostLeast (problem_of inst) group n;
  wanted : WantsParts (problem_of inst) group n;
  fits : n ≤ greatest_cost;
}
one_step-holds law inst group n within is small = record {
  value = is;
  above = (let some = has_least (problem_of inst) group inst.valid.told within in let f = (law (problem_of inst) group some.0 inst.stands.weighed inst.valid.told within some.1).bound_low in omega arith);
  low = at_most-each inst group n within (λ least l. let f = (law (problem_of inst) group least inst.stands.weighed inst.valid.told within l).one_step_low in omega arith);
  fits =
      (let some = has_least (problem_of inst) group inst.valid.told within in
      let stand = law (problem_of inst) group some.0 inst.stands.weighed inst.valid.told within some.1 in
      let below = stand.one_step_low in
      let above = stand.greedy_high in
      omega arith);
  wanted = λ t passed wanted e there s le. one_step-wanted (problem_of inst) group t passed inst.stands.weighed inst.valid.told wanted e there s (omega arith);
}

pub greedy-high : (inst : Instance) (group : List ℕ) (n : ℕ) → IsWithin (problem_of inst) group → n ≡ greedy_cost (problem_of inst) group → IsAtLeastLeast (problem_of inst) group n
greedy-high inst group n within is = (greedy (problem_of inst) group, greedy-solves (problem_of inst) group inst.valid.told within, omega arith)

-- greedy's strategy, in the words of the code
pub greedy-right : (inst : Instance) (group : List ℕ) (tree : Tree) → IsWithin (problem_of inst) group → tree ≡ greedy (problem_of inst) group → Solves (problem_of inst) tree group
greedy-right inst group tree within is = subst (λ t. Solves (problem_of inst) t group) (sym is) (greedy-solves (problem_of inst) group inst.valid.told within)

-- the code's lesser number is the theory's
pub lesser-number : (o : Option ℕ) (n : ℕ) → lesser_number o n ≡ lesser o n
lesser-number None n = refl
lesser-number (Some m) n = refl
