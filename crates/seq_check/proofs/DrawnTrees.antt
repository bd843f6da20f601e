-- Good tree lines draw, one after another, right strategies for the groups that they have to settle. By induction on
-- the lines: a leaf settles the next group, a test puts its two parts in the place of the group.
use Rattle.std.proofs.Common.{◌≡◌, ℕ, ◌+◌, ◌<◌, List, [], ◌∷◌, ◌++◌, refl, sym, ap, ◌∙◌, arith, append_assoc, append-nil}
use Rattle.std.specs.Prelude.{true, not, ◌&&◌, nat_eq, nat_lt}
use Rattle.std.proofs.lemmas.Bool.{and_parts, eqb-true, false≢true}
use Rattle.std.proofs.lemmas.Bool.Decides.{nat_tests}
use Rattle.seq_theory.specs.Problem.{Problem, pass_part, fail_part, splits, is_end}
use Rattle.seq_theory.specs.Tree.{Tree, leaf, ask, Solves}
use Rattle.seq_theory.proofs.CostLaws.{Settles-from_right, right-from_Settles}
use Rattle.seq_theory.proofs.GroupLaws.{goals-from_is_end}
use Rattle.seq_cert.specs.declared.report.TreeLine.{TreeLine}
use Rattle.seq_cert.specs.declared.report.TreeLine.TheVariants.{Ask, Leaf}
use Rattle.seq_cert.specs.TreeLines.{goal_at, tree_lines}
use Rattle.seq_check.specs.TreesIn.{joined, trees_in, first_tree, tree_in}
use Rattle.seq_check.specs.Looks.{AreGood}
use Rattle.seq_check.specs.TreeLooks.{tree_looks}

-- the lines begin with those of the tree, which is right for the group
pub record Draws (p : Problem) (tree : Tree) (group : List ℕ) (lines : List TreeLine) : Type 0 where
  pub solves : Solves p tree group
  pub rest : List TreeLine
  pub is : lines ≡ tree_lines p tree group ++ rest

-- the lines are those of the trees, which are right for the groups
abbrev pub AreDrawn : Problem → List Tree → List (List ℕ) → List TreeLine → Type 0
AreDrawn p [] [] lines = lines ≡ []
AreDrawn p [] (group ∷ groups) lines = ⊥
AreDrawn p (tree ∷ trees) [] lines = ⊥
AreDrawn p (tree ∷ trees) (group ∷ groups) lines = (d : Draws p tree group lines) × AreDrawn p trees groups d.rest

less : (t n : ℕ) → nat_lt t n ≡ true → t < n
less t n e = grind (arith, nat_tests)

module _ (p : Problem) where
  solves-leaf : (group : List ℕ) → is_end p group ≡ true → Solves p leaf group
  solves-leaf group e = record { there = tt; right = λ a b i j same. goals-from_is_end p group e a b i j }

  solves-ask : (t : ℕ) (pass fail : Tree) (group : List ℕ) → t < p.tests → Solves p pass (pass_part p t group) → Solves p fail (fail_part p t group) → Solves p (ask t pass fail) group
  solves-ask t pass fail group there a b = record {
    there = (there, a.there, b.there);
    right = right-from_Settles p (ask t pass fail) group (Settles-from_right p pass (pass_part p t group) a.right, Settles-from_right p fail (fail_part p t group) b.right);
  }

  drawn-joined : (t : ℕ) (trees : List Tree) (group : List ℕ) (groups : List (List ℕ)) (lines : List TreeLine) → t < p.tests → AreDrawn p trees (pass_part p t group ∷ fail_part p t group ∷ groups) lines → AreDrawn p (joined t trees) (group ∷ groups) (Ask t ∷ lines)
  drawn-joined t [] group groups lines there d = absurd d
  drawn-joined t (pass ∷ []) group groups lines there d = absurd d.1
  drawn-joined t (pass ∷ fail ∷ trees) group groups lines there d =
      let a = d.0 in
      let b = d.1.0 in (
        record {
          solves = solves-ask t pass fail group there a.solves b.solves;
          rest = b.rest;
          is = ap (λ l. Ask t ∷ l) (a.is ∙ ap (λ l. tree_lines p pass (pass_part p t group) ++ l) b.is ∙ sym (append_assoc (tree_lines p pass (pass_part p t group)) (tree_lines p fail (fail_part p t group)) b.rest));
        },
        d.1.1,
      )

  pub drawn : (n : ℕ) (groups : List (List ℕ)) (lines : List TreeLine) → AreGood (tree_looks p n groups lines) → AreDrawn p (trees_in lines) groups lines
  drawn n [] [] good = refl
  drawn n (group ∷ groups) [] good = absurd (false≢true good.0)
  drawn n [] (Leaf c ∷ lines) good = absurd (false≢true good.0)
  drawn n [] (Ask t ∷ lines) good = absurd (false≢true good.0)
  drawn n (group ∷ groups) (Leaf c ∷ lines) good =
      let s = and_parts (is_end p group) (nat_eq c (goal_at p group)) good.0 in (
        record {
          solves = solves-leaf group s.0;
          rest = lines;
          is = ap (λ k. Leaf k ∷ lines) (eqb-true c (goal_at p group) s.1);
        },
        drawn (n + 1) groups lines good.1,
      )
  drawn n (group ∷ groups) (Ask t ∷ lines) good =
      let s = and_parts (not (is_end p group)) (nat_lt t p.tests && splits p group t) good.0 in
      let u = and_parts (nat_lt t p.tests) (splits p group t) s.1 in
      drawn-joined t (trees_in lines) group groups lines (less t p.tests u.0) (drawn (n + 1) (pass_part p t group ∷ fail_part p t group ∷ groups) lines good.1)

  -- the lines are those of the tree alone, which is right for the group
  pub record IsDrawn (tree : Tree) (group : List ℕ) (lines : List TreeLine) : Type 0 where
    pub solves : Solves p tree group
    pub is : lines ≡ tree_lines p tree group

  whole : (trees : List Tree) (group : List ℕ) (lines : List TreeLine) → AreDrawn p trees (group ∷ []) lines → IsDrawn (first_tree trees) group lines
  whole [] group lines d = absurd d
  whole (tree ∷ []) group lines d =
      let a = d.0 in
      record { solves = a.solves; is = a.is ∙ ap (λ l. tree_lines p tree group ++ l) d.1 ∙ append-nil (tree_lines p tree group) }
  whole (tree ∷ next ∷ more) group lines d = absurd d.1

  pub good_draws : (n : ℕ) (group : List ℕ) (lines : List TreeLine) → AreGood (tree_looks p n (group ∷ []) lines) → IsDrawn (tree_in lines) group lines
  good_draws n group lines good = whole (trees_in lines) group lines (drawn n (group ∷ []) lines good)
