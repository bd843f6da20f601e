-- Good group lines are claims that hold against each other, and the last of them is that of all classes.
use Rattle.std.proofs.Common.{◌≡◌, ℕ, ◌+◌, ◌≤◌, List, [], ◌∷◌, refl, arith, inl, inr, subst, Option, Some, None}
use Rattle.std.specs.Prelude.{true, false, ◌&&◌, nat_eq, nat_le}
use Rattle.std.proofs.lemmas.Bool.{and_parts, eqb-true}
use Rattle.std.proofs.lemmas.Bool.Decides.{nat_tests}
use Rattle.seq_theory.specs.Problem.{Problem, IsWithin, IsWeighed, AreTold, all_classes, is_end}
use Rattle.seq_theory.specs.Graph.{same_group}
use Rattle.seq_theory.specs.Laws.{CertificateHolds}
use Rattle.seq_theory.specs.Claims.{Claim, IsClaim, claimed, ClaimsHold}
use Rattle.seq_theory.proofs.LeastLaws.{least, IsLeast-least}
use Rattle.seq_theory.proofs.GreedyLaws.{bound-le-least, least_of-steps-le}
use Rattle.seq_theory.proofs.RowLaws.{same_group-true}
use Rattle.seq_inst.specs.Members.{members}
use Rattle.seq_cert.specs.declared.report.GroupLine.{GroupLine}
use Rattle.seq_check.specs.Looks.{AreGood}
use Rattle.seq_check.specs.GroupLooks.{claim_at, claims_of, most_claimed, is_root, group_look, group_looks}
use Rattle.seq_check.proofs.LookLaws.{good-append}

at_most : (a b : ℕ) → nat_le a b ≡ true → a ≤ b
at_most a b e = grind (arith, nat_tests)

-- each claim of a group of two goals or more is at most its least cost
pub claim-le-least : CertificateHolds → (p : Problem) (claims : List Claim) (c : Claim) → IsWeighed p → AreTold p → ClaimsHold p claims → IsClaim c claims → IsWithin p c.group → is_end p c.group ≡ false → c.low ≤ least p c.group
claim-le-least law p claims c w told hold among within more =
    let h = hold c among in
    let b = bound-le-least p c.group w told within in
    let s = least_of-steps-le p (claimed p claims) c.group told within more (λ part lt wp. law p claims part (least p part) w told hold wp (IsLeast-least p part told wp)) in
    omega arith

module _ (p : Problem) (low : ℕ) (claims : List Claim) where
  claims_good : (n : ℕ) (before : Option GroupLine) (lines : List GroupLine) → AreGood (group_looks p n low claims before lines) → (c : Claim) → IsClaim c (claims_of lines) → c.low ≤ most_claimed p claims c.group
  unfolding group_look
  claims_good n before [] good c i = absurd i
  claims_good n before (line ∷ lines) good c (inl e) =
      let here = (good-append (group_look p n low claims before line lines) (group_looks p (n + 1) low claims (Some line) lines) good).0 in
      subst (λ (d : Claim). d.low ≤ most_claimed p claims d.group) e (at_most line.low (most_claimed p claims (members line.group)) here.1.0)
  claims_good n before (line ∷ lines) good c (inr i) =
      claims_good (n + 1) (Some line) lines (good-append (group_look p n low claims before line lines) (group_looks p (n + 1) low claims (Some line) lines) good).1 c i

  pub record HasRoot (lines : List GroupLine) : Type 0 where
    pub line : GroupLine
    pub among : IsClaim (claim_at line) (claims_of lines)
    pub root : members line.group ≡ all_classes p
    pub low_is : line.low ≡ low

  root_good : (line : GroupLine) → is_end p (all_classes p) ≡ false → is_root p low line ≡ true → HasRoot (line ∷ [])
  root_good line more good =
      let b : (same_group (members line.group) (all_classes p) && nat_eq line.low low) ≡ true = rw more at good in
      let s = and_parts (same_group (members line.group) (all_classes p)) (nat_eq line.low low) b in
      record { line = line; among = inl refl; root = same_group-true (members line.group) (all_classes p) s.0; low_is = eqb-true line.low low s.1 }

  pub last_good : (n : ℕ) (before : Option GroupLine) (line : GroupLine) (lines : List GroupLine) → is_end p (all_classes p) ≡ false → AreGood (group_looks p n low claims before (line ∷ lines)) → HasRoot (line ∷ lines)
  unfolding group_look
  last_good n before line [] more good = root_good line more (good-append (group_look p n low claims before line []) [] good).0.1.1.0
  last_good n before line (next ∷ lines) more good =
      let h = last_good (n + 1) (Some line) next lines more (good-append (group_look p n low claims before line (next ∷ lines)) (group_looks p (n + 1) low claims (Some line) (next ∷ lines)) good).1 in
      record { line = h.line; among = inr h.among; root = h.root; low_is = h.low_is }

pub claims_hold : (p : Problem) (n low : ℕ) (lines : List GroupLine) → AreGood (group_looks p n low (claims_of lines) None lines) → ClaimsHold p (claims_of lines)
claims_hold p n low lines good c i = claims_good p low (claims_of lines) n None lines good c i
