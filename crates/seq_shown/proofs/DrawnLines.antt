-- The lines of a strategy that asks where it has to are good, and draw the strategy: by induction on the strategy, with
-- the groups and the lines that are left behind it.
use Rattle.std.proofs.Common.{◌≡◌, ℕ, ◌+◌, List, [], ◌∷◌, ◌++◌, refl, sym, ap, subst, ◌∙◌, append_assoc, append-nil}
use Rattle.std.specs.Prelude.{true, nat_eq, nat_lt}
use Rattle.std.proofs.lemmas.Bool.{and_from, eq-eqb, lt-ltb}
use Rattle.seq_theory.specs.Problem.{Problem, pass_part, fail_part, splits, is_end}
use Rattle.seq_theory.specs.Tree.{Tree, leaf, ask}
use Rattle.seq_cert.specs.declared.report.TreeLine.{TreeLine}
use Rattle.seq_cert.specs.declared.report.TreeLine.TheVariants.{Ask, Leaf}
use Rattle.seq_cert.specs.TreeLines.{goal_at, tree_lines}
use Rattle.seq_check.specs.TreesIn.{joined, trees_in, first_tree, tree_in}
use Rattle.seq_check.specs.Looks.{AreGood}
use Rattle.seq_check.specs.TreeLooks.{settles, tree_looks}
use Rattle.seq_shown.proofs.NeededTests.{AsksWhereNeeded}

module _ (p : Problem) where
  leaf-settles : (group : List ℕ) → is_end p group ≡ true → settles p group (Leaf (goal_at p group)) ≡ true
  leaf-settles group e = and_from (is_end p group) (nat_eq (goal_at p group) (goal_at p group)) e (eq-eqb (goal_at p group) (goal_at p group) refl)

  ask-settles : (t : ℕ) (pass fail : Tree) (group : List ℕ) → AsksWhereNeeded p (ask t pass fail) group → settles p group (Ask t) ≡ true
  ask-settles t pass fail group s = rw (s.0) (and_from (nat_lt t p.tests) (splits p group t) (lt-ltb t p.tests s.1) s.2)

  lines-good : (n : ℕ) (tree : Tree) (group : List ℕ) (groups : List (List ℕ)) (lines : List TreeLine) → AsksWhereNeeded p tree group → ((m : ℕ) → AreGood (tree_looks p m groups lines)) → AreGood (tree_looks p n (group ∷ groups) (tree_lines p tree group ++ lines))
  lines-good n leaf group groups lines s more = (leaf-settles group s, more (n + 1))
  lines-good n (ask t pass fail) group groups lines s more = (
    ask-settles t pass fail group s,
    subst (λ l. AreGood (tree_looks p (n + 1) (pass_part p t group ∷ fail_part p t group ∷ groups) l))
        (sym (append_assoc (tree_lines p pass (pass_part p t group)) (tree_lines p fail (fail_part p t group)) lines))
        (lines-good (n + 1) pass (pass_part p t group) (fail_part p t group ∷ groups) (tree_lines p fail (fail_part p t group) ++ lines) s.3
        (λ m. lines-good m fail (fail_part p t group) groups lines s.4 more)),
  )

  pub tree-good : (n : ℕ) (tree : Tree) (group : List ℕ) → AsksWhereNeeded p tree group → AreGood (tree_looks p n (group ∷ []) (tree_lines p tree group))
  tree-good n tree group s = subst (λ l. AreGood (tree_looks p n (group ∷ []) l)) (append-nil (tree_lines p tree group)) (lines-good n tree group [] [] s (λ m. tt))

  trees-drawn : (tree : Tree) (group : List ℕ) (lines : List TreeLine) → trees_in (tree_lines p tree group ++ lines) ≡ tree ∷ trees_in lines
  trees-drawn leaf group lines = refl
  trees-drawn (ask t pass fail) group lines =
      let a = tree_lines p pass (pass_part p t group) in
      let b = tree_lines p fail (fail_part p t group) in
      ap (λ l. joined t (trees_in l)) (append_assoc a b lines)
      ∙ ap (joined t) (trees-drawn pass (pass_part p t group) (b ++ lines) ∙ ap (λ l. pass ∷ l) (trees-drawn fail (fail_part p t group) lines))

  pub tree-drawn : (tree : Tree) (group : List ℕ) → tree_in (tree_lines p tree group) ≡ tree
  tree-drawn tree group = ap tree_in (sym (append-nil (tree_lines p tree group))) ∙ ap first_tree (trees-drawn tree group [])
