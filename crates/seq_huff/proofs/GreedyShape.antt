-- The greedy strategy asks only tests that split what reaches them, so it is small.
use Rattle.std.proofs.Common.{◌≡◌, ◌≤◌, arith, ap, ◌∙◌}
use Rattle.std.specs.Prelude.{vec_len, Result, Ok, Err, IfOk}
use Rattle.std.specs.declared.alloc.AllocError.{AllocError}
use Rattle.seq_theory.specs.Problem.{IsWithin}
use Rattle.seq_theory.specs.Tree.{Tree, Solves, tree_cost}
use Rattle.seq_theory.specs.Greedy.{greedy, greedy_cost}
pub use Rattle.seq_theory.proofs.GreedyParts.{greedy-splitting}
use Rattle.seq_theory.proofs.ShapeLaws.{height-lt-leaves}
use Rattle.seq_inst.specs.declared.group.Group.{Group}
use Rattle.seq_inst.specs.declared.instance.Instance.{Instance}
use Rattle.seq_inst.specs.declared.strategy.Strategy.{Strategy}
use Rattle.seq_inst.specs.Instances.{problem_of}
use Rattle.seq_inst.specs.Trees.{tree_of}
use Rattle.seq_inst.specs.Members.{members}
use Rattle.seq_inst.specs.Shapes.{height, leaf_count, AsksSplitting}
use Rattle.seq_huff.proofs.LeastBounds.{greedy-right}

-- the clauses of the code's call, of a strategy and of what making one gives
pub greedy-holds : (inst : Instance) (g : Group) (tree : Tree) → IsWithin (problem_of inst) (members g) → tree ≡ greedy (problem_of inst) (members g) → record {
  value : tree ≡ greedy (problem_of inst) (members g);
  right : Solves (problem_of inst) tree (members g);
  cost : tree_cost (problem_of inst) tree (members g) ≡ greedy_cost (problem_of inst) (members g);
  splitting : AsksSplitting (problem_of inst) tree (members g);
  leaves : leaf_count tree ≤ vec_len inst.weights;
  short : height tree ≤ 512;
}
greedy-holds inst g tree within is = record {
  value = is;
  right = greedy-right inst (members g) tree within is;
  cost = ap (λ t. tree_cost (problem_of inst) t (members g)) is;
  splitting = greedy-splitting (problem_of inst) (members g) tree inst.valid.told within is;
  leaves = (let f = inst.stands.greedy_leaves g within in let e = ap leaf_count is in let n = inst.weights.ok.0 in omega arith);
  short =
      (let f = inst.stands.greedy_leaves g within in
      let e = ap leaf_count is in
      let h = height-lt-leaves tree in
      let few = inst.valid.few in
      omega arith);
}

pub greedy-made : (inst : Instance) (g : Group) (tree : Tree) (made : Result Strategy AllocError) → IsWithin (problem_of inst) (members g) → tree ≡ greedy (problem_of inst) (members g) → IfOk made (λ s. tree_of s ≡ tree) → record {
  value : IfOk made (λ s. tree_of s ≡ greedy (problem_of inst) (members g));
  right : IfOk made (λ s. Solves (problem_of inst) (tree_of s) (members g));
  cost : IfOk made (λ s. tree_cost (problem_of inst) (tree_of s) (members g) ≡ greedy_cost (problem_of inst) (members g));
  splitting : IfOk made (λ s. AsksSplitting (problem_of inst) (tree_of s) (members g));
  leaves : IfOk made (λ s. leaf_count (tree_of s) ≤ vec_len inst.weights);
  short : IfOk made (λ s. height (tree_of s) ≤ 512);
}
greedy-made inst g tree (Ok s) within is made = greedy-holds inst g (tree_of s) within (made ∙ is)
greedy-made inst g tree (Err e) within is made = record { value = tt; right = tt; cost = tt; splitting = tt; leaves = tt; short = tt }
