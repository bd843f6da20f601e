-- The set of groups of which less than their bound is claimed, line by line. What a group counts changes with a line only
-- where the line is the first that lists it, and then to the line's low: where that is below the bound, the group goes into
-- the set.
use Rattle.std.proofs.Common.{◌≡◌, ℕ, ◌≤◌, List, [], ◌∷◌, ◌++◌, refl, sym, ap, subst, ◌∙◌, arith, inl, inr, Option, Some, None}
use Rattle.std.specs.Prelude.{Bool, true, false, cond, is_some, unwrap_or}
use Rattle.std.proofs.lemmas.Bool.{cases_Bool, true≢false}
use Rattle.std.proofs.lemmas.Slice.Eq.{bytes_eq-Decides}
use Rattle.std.specs.Ordering.{is_eq, nat_cmp}
use Rattle.std.specs.Cmp.Lexicographic.{slice_cmp, texts_ties}
use Rattle.std.specs.BTreeSet.{BTreeSet, contains}
use Rattle.seq_theory.specs.Problem.{Problem, is_end}
use Rattle.seq_theory.specs.Bound.{bound}
use Rattle.seq_theory.specs.Graph.{same_group}
use Rattle.seq_theory.specs.Claims.{claim_of, claimed}
use Rattle.seq_theory.proofs.GreedyLaws.{bound-end}
use Rattle.seq_theory.proofs.RowLaws.{same_group-true}
use Rattle.seq_inst.specs.Members.{members, IsWords, SameWordsHold}
use Rattle.seq_inst.specs.declared.group.Group.{Group}
use Rattle.seq_cert.specs.declared.report.GroupLine.{GroupLine}
use Rattle.seq_check.specs.GroupLooks.{claims_of}
use Rattle.seq_check.specs.Listed.{AreBelow}
use Rattle.seq_check.proofs.Alike.{claim_of-later}

-- of one goal nothing is counted, and its bound is nothing
counts_enough : (p : Problem) (group : List ℕ) (o : Option ℕ) → (is_end p group ≡ false → bound p group ≤ unwrap_or o (bound p group)) → bound p group ≤ cond (is_end p group) 0 (unwrap_or o (bound p group))
counts_enough p group o h = elim (cases_Bool (is_end p group)) [
  | inl y ↦ (let z = bound-end p group y in rw y (let le : bound p group ≤ 0 = omega arith in le))
  | inr n ↦ rw n (h n)
]

counted_open : (p : Problem) (group : List ℕ) (o : Option ℕ) → is_end p group ≡ false → bound p group ≤ cond (is_end p group) 0 (unwrap_or o (bound p group)) → bound p group ≤ unwrap_or o (bound p group)
counted_open p group o n le = rw n at le

one_more : (o : Option ℕ) (same : Bool) (low b : ℕ) → b ≤ unwrap_or o b → (same ≡ true → b ≤ low) → b ≤ unwrap_or (cond (is_some o) o (cond same (Some low) None)) b
one_more (Some n) same low b before here = before
one_more None true low b before here = here refl
one_more None false low b before here = before

-- without a line nothing is claimed
pub none_below : (p : Problem) (s : BTreeSet (List ℕ)) → AreBelow p s []
none_below p s g w out = counts_enough p (members g) None (λ n. (let le : bound p (members g) ≤ bound p (members g) = omega arith in le))

module _ (p : Problem) (lines : List GroupLine) (line : GroupLine) where
  goes_on : (g : Group) → (same_group (members g) (members line.group) ≡ true → bound p (members g) ≤ line.low) → bound p (members g) ≤ claimed p (claims_of lines) (members g)
      → bound p (members g) ≤ claimed p (claims_of (lines ++ line ∷ [])) (members g)
  goes_on g here before =
      subst (λ (o : Option ℕ). bound p (members g) ≤ cond (is_end p (members g)) 0 (unwrap_or o (bound p (members g)))) (sym (claim_of-later lines line g))
      (counts_enough p (members g) (cond (is_some (claim_of (claims_of lines) (members g))) (claim_of (claims_of lines) (members g)) (cond (same_group (members g) (members line.group)) (Some line.low) None))
      (λ n. one_more (claim_of (claims_of lines) (members g)) (same_group (members g) (members line.group)) line.low (bound p (members g)) (counted_open p (members g) (claim_of (claims_of lines) (members g)) n before) here))

  -- the line claims at least the bound
  pub stays_below : (s : BTreeSet (List ℕ)) → bound p (members line.group) ≤ line.low → AreBelow p s lines → AreBelow p s (lines ++ line ∷ [])
  stays_below s enough are g w out =
      goes_on g (λ y. subst (λ (l : List ℕ). bound p l ≤ line.low) (sym (same_group-true (members g) (members line.group) y)) enough) (are g w out)

  -- the line's group goes into the set
  pub goes_below : (old new : BTreeSet (List ℕ)) → SameWordsHold → IsWords line.group → ((q : List ℕ) → contains (slice_cmp nat_cmp) new q ≡ cond (is_eq (slice_cmp nat_cmp line.group.0 q)) true (contains (slice_cmp nat_cmp) old q)) → AreBelow p old lines → AreBelow p new (lines ++ line ∷ [])
  goes_below old new law wl updates are g w out =
      goes_on g
      (λ y.
      let words : g.0 ≡ line.group.0 = (law g line.group w wl).same (same_group-true (members g) (members line.group) y) in
      let same : is_eq (slice_cmp nat_cmp line.group.0 g.0) ≡ true = sym (texts_ties line.group.0 g.0) ∙ (bytes_eq-Decides line.group.0 g.0).1 (sym words) in
      absurd (true≢false (sym (updates g.0 ∙ ap (λ b. cond b true (contains (slice_cmp nat_cmp) old g.0)) same) ∙ out)))
      (are g w (not_there (is_eq (slice_cmp nat_cmp line.group.0 g.0)) (contains (slice_cmp nat_cmp) old g.0) (sym (updates g.0) ∙ out)))
    where
      not_there : (at there : Bool) → cond at true there ≡ false → there ≡ false
      not_there true there e = absurd (true≢false e)
      not_there false there e = e
