-- Looks at the strategy that a report draws.
use Rattle.std.specs.Prelude.{ℕ, ◌+◌, Bool, false, not, ◌&&◌, nat_eq, nat_lt, List, [], ◌∷◌}
use Rattle.seq_theory.specs.Problem.{Problem, pass_part, fail_part, splits, is_end}
use Rattle.seq_cert.specs.declared.fault.BadCode.TheVariants.{C03}
use Rattle.seq_cert.specs.declared.report.TreeLine.{TreeLine}
use Rattle.seq_cert.specs.declared.report.TreeLine.TheVariants.{Ask, Leaf}
use Rattle.seq_cert.specs.TreeLines.{goal_at}
use Rattle.seq_check.specs.Looks.{Look, look}

-- whether the line settles the group: a group of one goal by the leaf with that goal, a group of more by a test that is
-- there and splits it
abbrev pub settles : Problem → List ℕ → TreeLine → Bool
settles p group (Leaf c) = is_end p group && nat_eq c (goal_at p group)
settles p group (Ask t) = not (is_end p group) && (nat_lt t p.tests && splits p group t)

-- the groups that are left to settle after the line: a test leaves both parts, the one that passes first
abbrev pub left_after : Problem → List ℕ → TreeLine → List (List ℕ) → List (List ℕ)
left_after p group (Leaf c) groups = groups
left_after p group (Ask t) groups = pass_part p t group ∷ fail_part p t group ∷ groups

-- tree lines, from a line on, with the groups that they have to settle, the next one first. Where the lines end before
-- the groups do, the line after them is bad; where they go on, the next one
abbrev pub tree_looks : Problem → ℕ → List (List ℕ) → List TreeLine → List Look
tree_looks p n [] [] = []
tree_looks p n (group ∷ groups) [] = look n C03 false ∷ []
tree_looks p n [] (line ∷ lines) = look n C03 false ∷ []
tree_looks p n (group ∷ groups) (line ∷ lines) = look n C03 (settles p group line) ∷ tree_looks p (n + 1) (left_after p group line groups) lines
