-- A strategy as tree lines.
use Rattle.std.specs.Prelude.{ℕ, List, [], ◌∷◌, ◌++◌}
use Rattle.seq_theory.specs.Problem.{Problem, pass_part, fail_part}
use Rattle.seq_theory.specs.Tree.{Tree, leaf, ask}
use Rattle.seq_cert.specs.declared.report.TreeLine.{TreeLine}
use Rattle.seq_cert.specs.declared.report.TreeLine.TheVariants.{Ask, Leaf}

-- the goal in which a strategy ends that reaches this group: that of its lowest class
abbrev pub goal_at : Problem → List ℕ → ℕ
goal_at p [] = 0
goal_at p (c ∷ rest) = p.goal c

-- the strategy in preorder, from a group on: the test, then the lines of the part that passes, then those of the part
-- that fails; at an end the goal
abbrev pub tree_lines : Problem → Tree → List ℕ → List TreeLine
tree_lines p leaf group = Leaf (goal_at p group) ∷ []
tree_lines p (ask t pass fail) group = Ask t ∷ (tree_lines p pass (pass_part p t group) ++ tree_lines p fail (fail_part p t group))
