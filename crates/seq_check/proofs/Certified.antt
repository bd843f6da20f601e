-- What a certified report shows.
use Rattle.std.proofs.Common.{◌≡◌, ℕ, ◌-◌, ◌<◌, ◌≤◌, List, [], ◌∷◌, ◌+◌, length, refl, sym, ap, ◌∙◌, arith, inl, inr, subst, Option, Some, None}
use Rattle.std.specs.Prelude.{true, false, nat_eq, nat_le, nat_lt, All}
use Rattle.std.proofs.lemmas.Bool.{cases_Bool, and_parts, eqb-true, false≢true}
use Rattle.std.proofs.lemmas.Bool.Decides.{nat_tests}
use Rattle.std.proofs.lemmas.List.Elements.{All-nil, All-cons}
use Rattle.seq_theory.specs.Laws.{CertificateHolds}
use Rattle.seq_theory.specs.Problem.{Problem, IsWithin, IsWeighed, AreTold, all_classes, is_end}
use Rattle.seq_theory.specs.Tree.{tree_cost}
use Rattle.seq_theory.specs.Claims.{Claim, IsClaim, ClaimsHold}
use Rattle.seq_theory.proofs.LeastLaws.{least, IsLeast-least}
use Rattle.seq_theory.proofs.BelowLaws.{within-all}
use Rattle.seq_huff.specs.Bounds.{IsAtMostLeast}
use Rattle.sig_lines.specs.declared.labels.Labels.{Labels}
use Rattle.seq_inst.specs.declared.outcome.Verdict.{Verdict}
use Rattle.seq_inst.specs.declared.outcome.Verdict.TheVariants.{Optimal, Bounded}
use Rattle.seq_inst.specs.Members.{members}
use Rattle.seq_cert.specs.declared.report.Report.{Report}
use Rattle.seq_cert.specs.declared.report.GroupLine.{GroupLine}
use Rattle.seq_check.specs.TreesIn.{tree_in}
use Rattle.seq_check.specs.Looks.{first_bad, AreGood}
use Rattle.seq_check.specs.ModelLooks.{model_looks, class_looks, test_looks}
use Rattle.seq_check.specs.GroupLooks.{claim_at, claims_of, is_sized, comes_after, group_look, group_looks}
use Rattle.seq_check.specs.Lines.{looks_from_classes, looks_from_tree, looks_from_groups, cost_looks, low_looks, gap_looks, count_looks, head_looks, looks_at_tree, is_gap, looks, tests_at, tree_at, groups_at}
use Rattle.seq_check.specs.Shown.{IsCertified, Shows}
use Rattle.seq_check.proofs.LookLaws.{good-first_bad, all_good-good, good-append}
use Rattle.seq_check.proofs.DrawnTrees.{good_draws}
use Rattle.seq_check.proofs.SizedGroups.{sized_within, sized_more}
use Rattle.seq_check.proofs.ClaimLooks.{claim-le-least, last_good, claims_hold}

within_all : (p : Problem) → IsWithin p (all_classes p)
within_all p = within-all p (all_classes p) refl

at_most : (a b : ℕ) → nat_le a b ≡ true → a ≤ b
at_most a b e = grind (arith, nat_tests)

below : (a b : ℕ) → nat_lt a b ≡ true → a < b
below a b e = grind (arith, nat_tests)

-- the parts of the looks that the theorem needs
record Parts (p : Problem) (r : Report) : Type 0 where
  pub cost : AreGood (cost_looks p r)
  pub low : AreGood (low_looks p r)
  pub gap : AreGood (gap_looks r)
  pub count : AreGood (count_looks p r)
  pub tree : AreGood (looks_at_tree p r)
  pub groups : AreGood (group_looks p (groups_at r) r.low (claims_of r.groups) None r.groups)

parts : (p : Problem) (labels : Labels) (r : Report) → first_bad (looks p labels r) ≡ None → Parts p r
unfolding looks head_looks looks_from_classes looks_from_tree looks_from_groups
parts p labels r e =
    let a = good-append (head_looks p labels r) _ (good-first_bad (looks p labels r) e) in
    let h1 = good-append (model_looks p labels r) _ a.0 in
    let h2 = good-append (cost_looks p r) _ h1.1 in
    let h3 = good-append (low_looks p r) _ h2.1 in
    let h4 = good-append (gap_looks r) _ h3.1 in
    let b = good-append (class_looks p labels.states 13 0 r.class_lines) _ a.1 in
    let c = good-append (test_looks (tests_at r) labels.tests r.test_lines) _ b.1 in
    let d = good-append (looks_at_tree p r) _ c.1 in
    let f = good-append (group_looks p (groups_at r) r.low (claims_of r.groups) None r.groups) _ d.1 in
    record { cost = h2.0; low = h3.0; gap = h4.0; count = h4.1; tree = d.0; groups = f.0 }

-- some group line, or none
low_groups : CertificateHolds → (p : Problem) (r : Report) (lines : List GroupLine) → IsWeighed p → AreTold p → is_end p (all_classes p) ≡ false → nat_lt 0 (length lines) ≡ true → AreGood (group_looks p (groups_at r) r.low (claims_of lines) None lines) → r.low ≤ least p (all_classes p)
low_groups law p r [] w told more some good = absurd (false≢true some)
low_groups law p r (line ∷ lines) w told more some good =
    let h = last_good p r.low (claims_of (line ∷ lines)) (groups_at r) None line lines more good in
    let hold = claims_hold p (groups_at r) r.low (line ∷ lines) good in
    let low = h.low_is in
    let within : IsWithin p (members (h.line).group) = subst (IsWithin p) (sym h.root) (within_all p) in
    let more' : is_end p (members (h.line).group) ≡ false = ap (is_end p) h.root ∙ more in
    let c : (h.line).low ≤ least p (members (h.line).group) = claim-le-least law p (claims_of (line ∷ lines)) (claim_at h.line) w told hold h.among within more' in
    let e = ap (least p) h.root in
    omega arith

-- each group line: its group is sized, so it is within the classes and has two goals or more
module _ (law : CertificateHolds) (p : Problem) (low : ℕ) (claims : List Claim) (w : IsWeighed p) (told : AreTold p) (hold : ClaimsHold p claims) where
  line_right : (n : ℕ) (before : Option GroupLine) (line : GroupLine) (lines : List GroupLine) → AreGood (group_look p n low claims before line lines) → IsClaim (claim_at line) claims → IsAtMostLeast p (members line.group) line.low
  unfolding group_look
  line_right n before line lines good among tree solves =
      let sized = (and_parts (is_sized p line.size line.group) (comes_after before line) good.0).0 in
      let within = sized_within p line.size line.group sized in
      let c : line.low ≤ least p (members line.group) = claim-le-least law p claims (claim_at line) w told hold among within (sized_more p line.size line.group sized) in
      let l = (IsLeast-least p (members line.group) told within).least tree solves in
      omega arith

  lows_right : (n : ℕ) (before : Option GroupLine) (lines : List GroupLine) → AreGood (group_looks p n low claims before lines) → ((c : Claim) → IsClaim c (claims_of lines) → IsClaim c claims) → All (λ (line : GroupLine). IsAtMostLeast p (members line.group) line.low) lines
  lows_right n before [] good among = All-nil (λ (line : GroupLine). IsAtMostLeast p (members line.group) line.low)
  lows_right n before (line ∷ lines) good among =
      let both = good-append (group_look p n low claims before line lines) (group_looks p (n + 1) low claims (Some line) lines) good in
      All-cons (λ (line : GroupLine). IsAtMostLeast p (members line.group) line.low) line lines
      (line_right n before line lines both.0 (among (claim_at line) (inl refl)))
      (lows_right (n + 1) (Some line) lines both.1 (λ c i. among c (inr i)))

low_right : CertificateHolds → (p : Problem) (r : Report) → IsWeighed p → AreTold p → Parts p r → r.low ≤ least p (all_classes p)
unfolding low_looks count_looks
low_right law p r w told ps = elim (cases_Bool (is_end p (all_classes p))) [
  | inl one ↦
      (let z : nat_eq r.low 0 ≡ true = rw one at (ps.low.1.0) in
      let e = eqb-true r.low 0 z in
      omega arith)
  | inr more ↦
      (let s : nat_lt 0 (length r.groups) ≡ true = rw more at (ps.count.1.0) in
      low_groups law p r r.groups w told more s ps.groups)
]

cost_right : (p : Problem) (r : Report) → Parts p r → r.cost ≡ tree_cost p (tree_in r.tree) (all_classes p)
unfolding cost_looks
cost_right p r ps =
    let g = all_good-good (looks_at_tree p r) ps.tree in
    let b : nat_eq r.cost (tree_cost p (tree_in r.tree) (all_classes p)) ≡ true = rw g at (ps.cost.0) in
    eqb-true r.cost (tree_cost p (tree_in r.tree) (all_classes p)) b

gap_none : (v : Verdict) (gap : ℕ) → v ≡ Optimal → is_gap v gap ≡ true → gap ≡ 0
gap_none Optimal gap e g = eqb-true gap 0 g
gap_none Bounded gap e g = absurd (let bad : ⊥ = cc in bad)

gap_right : (p : Problem) (r : Report) → Parts p r → r.verdict ≡ Optimal → r.cost ≤ r.low
unfolding gap_looks
gap_right p r ps e =
    let s = and_parts (nat_eq r.gap (r.cost - r.low)) (is_gap r.verdict r.gap) ps.gap.0 in
    let g = eqb-true r.gap (r.cost - r.low) s.0 in
    let z = gap_none r.verdict r.gap e s.1 in
    omega arith

pub certified_shows : CertificateHolds → (p : Problem) (labels : Labels) (r : Report) → IsWeighed p → AreTold p → IsCertified p labels r → Shows p r
unfolding looks_at_tree
certified_shows law p labels r w told certified =
    let ps = parts p labels r certified in
    let d = good_draws p (tree_at r) (all_classes p) r.tree ps.tree in
    let cost = cost_right p r ps in
    let l = IsLeast-least p (all_classes p) told (within_all p) in
    let low = low_right law p r w told ps in
    let high : least p (all_classes p) ≤ tree_cost p (tree_in r.tree) (all_classes p) = l.least (tree_in r.tree) d.solves in
    record {
      tree = tree_in r.tree;
      drawn = d.is;
      right = d.solves;
      costs = sym cost;
      least = least p (all_classes p);
      is_least = l;
      low = low;
      high = omega arith;
      optimal = λ e. let g = gap_right p r ps e in omega arith;
      groups = lows_right law p r.low (claims_of r.groups) w told (claims_hold p (groups_at r) r.low r.groups ps.groups) (groups_at r) None r.groups ps.groups (λ c i. i);
    }
