-- What a walk over the tree lines finds.
use Rattle.std.specs.Prelude.{◌≡◌, ℕ, ◌*◌, List, [], ◌∷◌, Option, Some, None}
use Rattle.std.specs.List.{All}
use Rattle.seq_theory.specs.Problem.{Problem, IsWithin, weight_of}
use Rattle.seq_inst.specs.Members.{members}
use Rattle.seq_inst.specs.declared.group.Group.{Group}
use Rattle.seq_cert.specs.declared.report.TreeLine.{TreeLine}
use Rattle.seq_cert.specs.declared.report.TreeLine.TheVariants.{Ask, Leaf}
use Rattle.seq_cert.specs.declared.fault.BadLine.{BadLine}
use Rattle.seq_check.specs.declared.tree.Walked.{Walked}
use Rattle.seq_check.specs.declared.tree.Walked.TheVariants.{Bad, Costs}

-- the first bad line, or the cost where there is none
abbrev pub IsWalked : Option BadLine → ℕ → Walked → Type 0
IsWalked first cost (Bad b) = first ≡ Some b
IsWalked first cost (Costs c) = (first ≡ None) × (c ≡ cost)

-- the groups of a stack, the last one first
abbrev pub onto : List (List ℕ) → List Group → List (List ℕ)
onto groups [] = groups
onto groups (g ∷ stack) = onto (members g ∷ groups) stack

abbrev pub waiting : List Group → List (List ℕ)
waiting stack = onto [] stack

-- what the line's test costs over the group
abbrev pub line_cost : Problem → List ℕ → TreeLine → ℕ
line_cost p group (Leaf c) = 0
line_cost p group (Ask t) = p.cost t * weight_of p group

-- the groups of a stack have only classes that are there
abbrev pub AreWithin : Problem → List Group → Type 0
AreWithin p stack = All (λ (g : Group). IsWithin p (members g)) stack
