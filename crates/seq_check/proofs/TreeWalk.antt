-- A walk over tree lines, step by step. What is left after so many good lines is to settle the groups on the stack by the
-- lines from there on; and the costs so far, with what the trees that the rest draws cost over the groups on the stack,
-- are what the whole tree costs.
use Rattle.std.proofs.Common.{◌≡◌, ℕ, ◌+◌, ◌*◌, ◌<◌, ◌≤◌, List, [], ◌∷◌, ◌++◌, drop, get_or, length, refl, sym, ap, subst, ◌∙◌, arith, Some, None}
use Rattle.std.specs.Prelude.{true, false}
use Rattle.std.proofs.lemmas.List.Elements.{All-nil, All-cons, All-pop}
use Rattle.seq_theory.specs.Problem.{Problem, IsWithin, all_classes, weight_of, pass_part, fail_part}
use Rattle.seq_theory.specs.Tree.{Tree, tree_cost}
use Rattle.seq_theory.proofs.CostLaws.{tree_cost-leaf, tree_cost-ask}
use Rattle.seq_theory.proofs.BelowLaws.{within-all}
use Rattle.seq_inst.specs.Members.{members}
use Rattle.seq_inst.specs.declared.group.Group.{Group}
use Rattle.seq_cert.specs.declared.fault.BadCode.TheVariants.{C03}
use Rattle.seq_cert.specs.declared.report.TreeLine.{TreeLine}
use Rattle.seq_cert.specs.declared.report.TreeLine.TheVariants.{Ask, Leaf}
use Rattle.seq_check.specs.Looks.{first_bad, AreGood}
use Rattle.seq_check.specs.TreesIn.{joined, trees_in, first_tree, tree_in}
use Rattle.seq_check.specs.TreeLooks.{settles, left_after, tree_looks}
use Rattle.seq_check.specs.declared.tree.Walked.{Walked}
use Rattle.seq_cert.specs.declared.report.Report.{Report}
use Rattle.seq_check.specs.Lines.{tree_at, looks_at_tree}
use Rattle.seq_check.specs.Walked.{IsWalked, onto, waiting, line_cost, AreWithin}
use Rattle.seq_check.proofs.DrawnTrees.{AreDrawn, drawn}
use Rattle.seq_check.proofs.SideLooks.{drop-past, drop-step}

pub onto-push : (groups : List (List ℕ)) (stack : List Group) (g : Group) → onto groups (stack ++ g ∷ []) ≡ members g ∷ onto groups stack
onto-push groups [] g = refl
onto-push groups (x ∷ stack) g = onto-push (members x ∷ groups) stack g

-- what trees cost over groups, one beside the other
abbrev costs : Problem → List Tree → List (List ℕ) → ℕ
costs p [] groups = 0
costs p (tree ∷ trees) [] = 0
costs p (tree ∷ trees) (group ∷ groups) = tree_cost p tree group + costs p trees groups

module _ (p : Problem) where
  first_costs : (trees : List Tree) (group : List ℕ) → costs p trees (group ∷ []) ≡ tree_cost p (first_tree trees) group
  first_costs [] group = sym (tree_cost-leaf p group)
  first_costs (tree ∷ []) group = omega arith
  first_costs (tree ∷ next ∷ more) group = omega arith

  ask_costs : (t : ℕ) (trees : List Tree) (group : List ℕ) (groups : List (List ℕ)) (lines : List TreeLine) → AreDrawn p trees (pass_part p t group ∷ fail_part p t group ∷ groups) lines
      → costs p (joined t trees) (group ∷ groups) ≡ p.cost t * weight_of p group + costs p trees (pass_part p t group ∷ fail_part p t group ∷ groups)
  ask_costs t [] group groups lines d = absurd d
  ask_costs t (pass ∷ []) group groups lines d = absurd d.1
  ask_costs t (pass ∷ fail ∷ trees) group groups lines d = let e = tree_cost-ask p t pass fail group in omega arith

  line_costs : (n : ℕ) (line : TreeLine) (group : List ℕ) (groups : List (List ℕ)) (rest : List TreeLine) → AreGood (tree_looks p n (left_after p group line groups) rest)
      → costs p (trees_in (line ∷ rest)) (group ∷ groups) ≡ line_cost p group line + costs p (trees_in rest) (left_after p group line groups)
  line_costs n (Leaf c) group groups rest good = let e = tree_cost-leaf p group in omega arith
  line_costs n (Ask t) group groups rest good = ask_costs t (trees_in rest) group groups rest (drawn p n (pass_part p t group ∷ fail_part p t group ∷ groups) rest good)

  pub record Walk (n i : ℕ) (tree : List TreeLine) (stack : List Group) (cost : ℕ) : Type 0 where
    pub looks_are : first_bad (tree_looks p n (all_classes p ∷ []) tree) ≡ first_bad (tree_looks p (n + i) (waiting stack) (drop i tree))
    pub costs_are : AreGood (tree_looks p (n + i) (waiting stack) (drop i tree)) → cost + costs p (trees_in (drop i tree)) (waiting stack) ≡ tree_cost p (tree_in tree) (all_classes p)
    pub within : AreWithin p stack
    pub small : cost ≤ i * 4097000000000000

  pub walk_begins : (n : ℕ) (tree : List TreeLine) (stack : List Group) → waiting stack ≡ all_classes p ∷ [] → AreWithin p stack → Walk n 0 tree stack 0
  walk_begins n tree stack is within =
      let z : n + 0 ≡ n = omega arith in
      record {
        looks_are = ap (λ m. first_bad (tree_looks p m (all_classes p ∷ []) tree)) (sym z) ∙ ap (λ g. first_bad (tree_looks p (n + 0) g tree)) (sym is);
        costs_are = λ good. let a = first_costs (trees_in tree) (all_classes p) in let b : costs p (trees_in tree) (waiting stack) ≡ costs p (trees_in tree) (all_classes p ∷ []) = ap (costs p (trees_in tree)) is in omega arith;
        within = within;
        small = omega arith;
      }

  -- the group of all classes is to be settled
  pub walk_starts : (n : ℕ) (tree : List TreeLine) (stack : List Group) (r : Group) → stack ≡ r ∷ [] → members r ≡ all_classes p → Walk n 0 tree stack 0
  walk_starts n tree stack r is root =
      walk_begins n tree stack (ap waiting is ∙ ap (λ (g : List ℕ). g ∷ []) root)
      (subst (AreWithin p) (sym is) (All-cons (λ (g : Group). IsWithin p (members g)) r [] (within-all p (members r) root) (All-nil (λ (g : Group). IsWithin p (members g)))))

  -- the group on the top, and those below
  pub top_within : (stack before : List Group) (g : Group) → stack ≡ before ++ g ∷ [] → AreWithin p stack → AreWithin p before × IsWithin p (members g)
  top_within stack before g is all = All-pop (λ (x : Group). IsWithin p (members x)) stack before (Some g) is all

  module _ (n i : ℕ) (tree : List TreeLine) (d : TreeLine) (lt : i < length tree) where
    here : (m : ℕ) (groups : List (List ℕ)) → tree_looks p m groups (drop i tree) ≡ tree_looks p m groups (get_or tree i d ∷ drop (i + 1) tree)
    here m groups = ap (tree_looks p m groups) (drop-step i tree d lt)

    pub walk_goes_on : (stack before after : List Group) (g : Group) (cost c : ℕ) → stack ≡ before ++ g ∷ [] → settles p (members g) (get_or tree i d) ≡ true
        → waiting after ≡ left_after p (members g) (get_or tree i d) (waiting before) → AreWithin p after → c ≡ line_cost p (members g) (get_or tree i d) → c ≤ 4097000000000000 → Walk n i tree stack cost → Walk n (i + 1) tree after (cost + c)
    walk_goes_on stack before after g cost c is good left within c_is small so_far =
        let line = get_or tree i d in
        let rest = drop (i + 1) tree in
        let top : waiting stack ≡ members g ∷ waiting before = ap waiting is ∙ onto-push [] before g in
        let m : n + i + 1 ≡ n + (i + 1) = omega arith in
        let le = so_far.small in
        record {
          looks_are = so_far.looks_are ∙ ap first_bad (here (n + i) (waiting stack)) ∙ ap (λ gs. first_bad (tree_looks p (n + i) gs (line ∷ rest))) top
              ∙ rw good (ap (λ k. first_bad (tree_looks p k (left_after p (members g) line (waiting before)) rest)) m ∙ ap (λ gs. first_bad (tree_looks p (n + (i + 1)) gs rest)) (sym left));
          costs_are = λ later.
              let later' : AreGood (tree_looks p (n + i + 1) (left_after p (members g) line (waiting before)) rest) = subst (λ k. AreGood (tree_looks p k (left_after p (members g) line (waiting before)) rest)) (sym m) (subst (λ gs. AreGood (tree_looks p (n + (i + 1)) gs rest)) left later) in
              let all : AreGood (tree_looks p (n + i) (members g ∷ waiting before) (line ∷ rest)) = (good, later') in
              let all' : AreGood (tree_looks p (n + i) (waiting stack) (drop i tree)) = subst AreGood (sym (here (n + i) (waiting stack))) (subst (λ gs. AreGood (tree_looks p (n + i) gs (line ∷ rest))) (sym top) all) in
              let sum = so_far.costs_are all' in
              let a : costs p (trees_in (drop i tree)) (waiting stack) ≡ costs p (trees_in (line ∷ rest)) (members g ∷ waiting before) = ap (λ l. costs p (trees_in l) (waiting stack)) (drop-step i tree d lt) ∙ ap (costs p (trees_in (line ∷ rest))) top in
              let b = line_costs (n + i + 1) line (members g) (waiting before) rest later' in
              let e : costs p (trees_in rest) (waiting after) ≡ costs p (trees_in rest) (left_after p (members g) line (waiting before)) = ap (costs p (trees_in rest)) left in
              omega arith;
          within = within;
          small = omega arith;
        }

    -- no group is left, and a line follows
    pub walk_is_over : (stack : List Group) (cost : ℕ) → stack ≡ [] → Walk n i tree stack cost → first_bad (tree_looks p n (all_classes p ∷ []) tree) ≡ Some (record { line = n + i; code = C03 })
    walk_is_over stack cost is so_far = so_far.looks_are ∙ ap first_bad (here (n + i) (waiting stack)) ∙ ap (λ (s : List Group). first_bad (tree_looks p (n + i) (waiting s) (get_or tree i d ∷ drop (i + 1) tree))) is

    -- the line does not settle its group
    pub walk_breaks : (stack before : List Group) (g : Group) (cost : ℕ) → stack ≡ before ++ g ∷ [] → settles p (members g) (get_or tree i d) ≡ false → Walk n i tree stack cost
        → first_bad (tree_looks p n (all_classes p ∷ []) tree) ≡ Some (record { line = n + i; code = C03 })
    walk_breaks stack before g cost is bad so_far =
        let top : waiting stack ≡ members g ∷ waiting before = ap waiting is ∙ onto-push [] before g in
        so_far.looks_are ∙ ap first_bad (here (n + i) (waiting stack)) ∙ ap (λ gs. first_bad (tree_looks p (n + i) gs (get_or tree i d ∷ drop (i + 1) tree))) top ∙ rw bad refl

  some-onto : (groups : List (List ℕ)) (stack : List Group) → 0 < length groups + length stack → (first : List ℕ) × (more : List (List ℕ)) × (onto groups stack ≡ first ∷ more)
  some-onto [] [] lt = absurd (let bad : ⊥ = omega arith in bad)
  some-onto (g ∷ gs) [] lt = (g, gs, refl)
  some-onto groups (x ∷ stack) lt = some-onto (members x ∷ groups) stack (omega arith)

  -- the lines end before the groups do
  pub walk_is_short : (n i : ℕ) (tree : List TreeLine) (stack : List Group) (cost : ℕ) → i ≡ length tree → 0 < length stack → Walk n i tree stack cost
      → first_bad (tree_looks p n (all_classes p ∷ []) tree) ≡ Some (record { line = n + i; code = C03 })
  walk_is_short n i tree stack cost end some so_far =
      let w = some-onto [] stack (omega arith) in
      so_far.looks_are ∙ ap (λ l. first_bad (tree_looks p (n + i) (waiting stack) l)) (drop-past i tree (omega arith)) ∙ ap (λ gs. first_bad (tree_looks p (n + i) gs [])) w.2

  -- the lines end, and all groups are settled
  pub walk_ends : (n i : ℕ) (tree : List TreeLine) (stack : List Group) (cost : ℕ) → length tree ≤ i → stack ≡ [] → Walk n i tree stack cost
      → (first_bad (tree_looks p n (all_classes p ∷ []) tree) ≡ None) × (cost ≡ tree_cost p (tree_in tree) (all_classes p))
  walk_ends n i tree stack cost end is so_far =
      let over = drop-past i tree end in
      let empty : tree_looks p (n + i) (waiting stack) (drop i tree) ≡ [] = ap (tree_looks p (n + i) (waiting stack)) over ∙ ap (λ (s : List Group). tree_looks p (n + i) (waiting s) []) is in
      let sum = so_far.costs_are (subst AreGood (sym empty) tt) in
      let rest : costs p (trees_in (drop i tree)) (waiting stack) ≡ 0 = ap (λ l. costs p (trees_in l) (waiting stack)) over in
      (so_far.looks_are ∙ ap first_bad empty, omega arith)

-- a walk over the tree lines of a report is one over its own
pub walked_report : (p : Problem) (r : Report) (lines : List TreeLine) (n : ℕ) (w : Walked) → lines ≡ r.tree → n ≡ tree_at r → IsWalked (first_bad (tree_looks p n (all_classes p ∷ []) lines)) (tree_cost p (tree_in lines) (all_classes p)) w
    → IsWalked (first_bad (looks_at_tree p r)) (tree_cost p (tree_in r.tree) (all_classes p)) w
unfolding looks_at_tree
walked_report p r lines n w same at walked =
    subst (λ (l : List TreeLine). IsWalked (first_bad (tree_looks p (tree_at r) (all_classes p ∷ []) l)) (tree_cost p (tree_in l) (all_classes p)) w) same
    (subst (λ (k : ℕ). IsWalked (first_bad (tree_looks p k (all_classes p ∷ []) lines)) (tree_cost p (tree_in lines) (all_classes p)) w) at walked)
