-- The strategy of the entered groups, in the words of the code.
use Rattle.std.proofs.Common.{◌≡◌, ◌≢◌, ℕ, ◌≤◌, List, ◌∙◌, arith, Some}
use Rattle.std.specs.Prelude.{false, IfOk, Result, Ok, Err}
use Rattle.std.specs.declared.alloc.AllocError.{AllocError}
use Rattle.seq_theory.specs.Problem.{IsWithin, is_end}
use Rattle.seq_theory.specs.Tree.{Tree}
use Rattle.seq_theory.specs.Greedy.{greedy_cost}
use Rattle.seq_theory.specs.Graph.{val, value_test}
pub use Rattle.seq_theory.proofs.StratLaws.{value-is, is-value}
pub use Rattle.seq_theory.proofs.StratParts.{not-value, the-value, Reaches, val-le-greedy, reaching, value_test-is, value_test-reaches, ValueParts, value_parts, strat-end, strat-greedy, strat-ask, strat-splitting}
use Rattle.seq_inst.specs.declared.group.Group.{Group}
use Rattle.seq_inst.specs.declared.instance.Instance.{Instance}
use Rattle.seq_inst.specs.declared.strategy.Strategy.{Strategy}
use Rattle.seq_inst.specs.Members.{members}
use Rattle.seq_inst.specs.Instances.{problem_of}
use Rattle.seq_inst.specs.Trees.{tree_of}

-- what a look-up made, named by another tree that is equal
pub made-same : (made : Result Strategy AllocError) (a b : Tree) → IfOk made (λ s. tree_of s ≡ a) → a ≡ b → IfOk made (λ s. tree_of s ≡ b)
made-same (Ok s) a b h e = h ∙ e
made-same (Err x) a b h e = tt

pub value-small : (inst : Instance) (entered : List (List ℕ)) (g : Group) (v : ℕ) → IsWithin (problem_of inst) (members g) → val (problem_of inst) entered (members g) ≡ Some v → v ≤ 2097664000000000000
value-small inst entered g v within is =
    let a = val-le-greedy (problem_of inst) entered (members g) v is in
    let b = inst.stands.greedy_fits g within in
    omega arith

-- what the code's group, where it asks a test, knows of that test
pub code_parts : (inst : Instance) (entered : List (List ℕ)) (g : Group) (v t greedy : ℕ) → IsWithin (problem_of inst) (members g) → is_end (problem_of inst) (members g) ≡ false → val (problem_of inst) entered (members g) ≡ Some v
    → greedy ≡ greedy_cost (problem_of inst) (members g) → greedy ≢ v → t ≡ value_test (problem_of inst) entered (members g) → ValueParts (problem_of inst) entered (members g) t
code_parts inst entered g v t greedy within e is cost dear at = value_parts (problem_of inst) entered (members g) v t within e is (λ h. dear (cost ∙ h)) at
