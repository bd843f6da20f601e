-- The tree lines of a strategy that asks, and the lowest class of a group.
use Rattle.std.proofs.Common.{◌≡◌, ℕ, zero, suc, ◌+◌, ◌-◌, ◌<◌, List, [], ◌∷◌, ◌++◌, map, get_or, max, refl, sym, ap, subst, ◌∙◌, arith, Option, Some, None}
use Rattle.std.specs.Prelude.{true}
use Rattle.std.proofs.lemmas.List.{map-append}
use Rattle.seq_theory.specs.Problem.{Problem, pass_part, fail_part}
use Rattle.seq_theory.specs.Tree.{Tree, ask, AsksOnly}
use Rattle.seq_inst.specs.Members.{has_class, members_below, members, IsStep}
use Rattle.seq_inst.specs.Shapes.{height}
use Rattle.seq_inst.specs.declared.group.Group.{Group}
use Rattle.seq_theory.proofs.BelowLaws.{passing-zero, passing-in, passing-more}
use Rattle.seq_cert.specs.declared.report.TreeLine.TheVariants.{Ask}
use Rattle.sig_lines.specs.Pieces.{Words}
use Rattle.seq_cert.specs.Text.{tree_words}
use Rattle.seq_cert.specs.TreeLines.{tree_lines}

module _ (tests t : ℕ) (pass fail tree : Tree) (is : tree ≡ ask t pass fail) where
  -- what a strategy that asks says of its sides
  pub record Asks : Type 0 where
    pub test_there : t < tests
    pub pass_there : AsksOnly tests pass
    pub fail_there : AsksOnly tests fail
    pub pass_lower : height pass < height tree
    pub fail_lower : height fail < height tree

  pub asks_only : AsksOnly tests tree → Asks
  asks_only there =
      let parts = subst (AsksOnly tests) is there in
      let high : height tree ≡ 1 + max (height pass) (height fail) = ap height is in
      record { test_there = parts.0; pass_there = parts.1; fail_there = parts.2; pass_lower = omega arith; fail_lower = omega arith }

-- the lines of a strategy that asks
pub ask_lines : (p : Problem) (t : ℕ) (pass fail tree : Tree) (group passed failed : List ℕ) → tree ≡ ask t pass fail → passed ≡ pass_part p t group → failed ≡ fail_part p t group
    → (tree_words (Ask t) ∷ map tree_words (tree_lines p pass passed)) ++ map tree_words (tree_lines p fail failed) ≡ map tree_words (tree_lines p tree group)
ask_lines p t pass fail tree group passed failed is e f =
    let first : List Words → List Words → List Words = λ a b. (tree_words (Ask t) ∷ a) ++ b in
    ap (λ g. first (map tree_words (tree_lines p pass g)) (map tree_words (tree_lines p fail failed))) e
    ∙ ap (λ g. first (map tree_words (tree_lines p pass (pass_part p t group))) (map tree_words (tree_lines p fail g))) f
    ∙ ap (λ l. tree_words (Ask t) ∷ l) (sym (map-append tree_words (tree_lines p pass (pass_part p t group)) (tree_lines p fail (fail_part p t group))))
    ∙ sym (ap (λ x. map tree_words (tree_lines p x group)) is)

-- the list begins with the number
abbrev Begins : ℕ → List ℕ → Type 0
Begins c [] = ⊥
Begins c (x ∷ xs) = x ≡ c

begins-append : (c : ℕ) (xs ys : List ℕ) → Begins c xs → Begins c (xs ++ ys)
begins-append c [] ys b = absurd b
begins-append c (x ∷ xs) ys b = b

first_of : (c : ℕ) (xs : List ℕ) → Begins c xs → c ≡ get_or xs 0 0
first_of c [] b = absurd b
first_of c (x ∷ xs) b = sym b

module _ (g : Group) (c : ℕ) (here : has_class g c ≡ true) (before : members_below g c ≡ []) where
  stays : (n : ℕ) → Begins c (members_below g ((c + 1) + n))
  stays zero =
      let e : c + 1 ≡ (c + 1) + 0 = omega arith in
      let at : members_below g (c + 1) ≡ c ∷ [] = passing-in (has_class g) c here ∙ ap (λ l. l ++ c ∷ []) before in
      subst (λ (k : ℕ). Begins c (members_below g k)) e (subst (Begins c) (sym at) refl)
  stays (suc n) =
      let e : ((c + 1) + n) + 1 ≡ (c + 1) + suc n = omega arith in
      subst (λ (k : ℕ). Begins c (members_below g k)) e (subst (Begins c) (sym (passing-more (has_class g) ((c + 1) + n))) (begins-append c (members_below g ((c + 1) + n)) _ (stays n)))

  -- the first class of a group that none comes before is its lowest
  pub lowest_is : c < 512 → c ≡ get_or (members g) 0 0
  lowest_is small =
      let e : (c + 1) + (511 - c) ≡ 512 = omega arith in
      first_of c (members g) (subst (λ (k : ℕ). Begins c (members_below g k)) e (stays (511 - c)))

-- where a walk over the classes has its first class, and where it has none
pub lowest_some : (g : Group) (o : Option ℕ) (c : ℕ) → IsStep g 0 o → o ≡ Some c → c ≡ get_or (members g) 0 0
lowest_some g o c step is = let s = subst (IsStep g 0) is step in lowest_is g c s.class.1 (s.before ∙ passing-zero (has_class g)) s.class.0

pub lowest_none : (g : Group) (o : Option ℕ) → IsStep g 0 o → o ≡ None → 0 ≡ get_or (members g) 0 0
lowest_none g o step is = let s = subst (IsStep g 0) is step in ap (λ (l : List ℕ). get_or l 0 0) (sym (s.before ∙ passing-zero (has_class g)))
