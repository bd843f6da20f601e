-- What a test leaves on the stack, and what it costs.
use Rattle.std.proofs.Common.{◌≡◌, ℕ, ◌*◌, ◌<◌, ◌≤◌, List, [], ◌∷◌, ◌++◌, sym, ap, subst, ◌∙◌, arith}
use Rattle.std.specs.Prelude.{true, not, ◌&&◌, nat_lt}
use Rattle.std.proofs.lemmas.Bool.{and_parts, ltb-true}
use Rattle.std.proofs.Math.Nat.{mul-le-mul_left}
use Rattle.std.proofs.lemmas.List.Elements.{All-push}
use Rattle.seq_theory.specs.Problem.{Problem, IsWithin, fails, pass_part, fail_part, splits, is_end}
use Rattle.seq_inst.specs.Members.{members}
use Rattle.seq_inst.specs.declared.group.Group.{Group}
use Rattle.seq_theory.proofs.GreedyLaws.{part-within}
use Rattle.seq_cert.specs.declared.report.TreeLine.{TreeLine}
use Rattle.seq_cert.specs.declared.report.TreeLine.TheVariants.{Ask}
use Rattle.seq_check.specs.TreeLooks.{settles, left_after}
use Rattle.seq_check.specs.Walked.{waiting, AreWithin}
use Rattle.seq_check.proofs.TreeWalk.{onto-push}

module _ (p : Problem) (t : ℕ) (group : List ℕ) (old mid new : List Group) (f g : Group) (mid_is : mid ≡ old ++ f ∷ []) (new_is : new ≡ mid ++ g ∷ []) (fail : members f ≡ fail_part p t group) (pass : members g ≡ pass_part p t group) where
  pub both_left : waiting new ≡ left_after p group (Ask t) (waiting old)
  both_left =
      ap waiting new_is ∙ onto-push [] mid g ∙ ap (λ gs. members g ∷ gs) (ap waiting mid_is ∙ onto-push [] old f)
      ∙ ap (λ x. x ∷ members f ∷ waiting old) pass ∙ ap (λ x. pass_part p t group ∷ x ∷ waiting old) fail

  pub both_within : IsWithin p group → AreWithin p old → AreWithin p new
  both_within within all =
      let first : AreWithin p mid = subst (AreWithin p) (sym mid_is) (All-push (λ (x : Group). IsWithin p (members x)) old f all (subst (IsWithin p) (sym fail) (part-within p (fails p t) group within))) in
      subst (AreWithin p) (sym new_is) (All-push (λ (x : Group). IsWithin p (members x)) mid g first (subst (IsWithin p) (sym pass) (part-within p (p.passes t) group within)))

pub small_cost : (cost weight : ℕ) → cost ≤ 1000000 → weight ≤ 4097000000 → cost * weight ≤ 4097000000000000
small_cost cost weight lc lw = let m : cost * weight ≤ cost * 4097000000 = mul-le-mul_left cost lw in omega arith

-- a test that settles a group is there
pub ask_there : (p : Problem) (group : List ℕ) (line : TreeLine) (t : ℕ) → line ≡ Ask t → settles p group line ≡ true → t < p.tests
ask_there p group line t is good =
    let e : settles p group (Ask t) ≡ true = sym (ap (settles p group) is) ∙ good in
    let s = and_parts (not (is_end p group)) (nat_lt t p.tests && splits p group t) e in
    let u = and_parts (nat_lt t p.tests) (splits p group t) s.1 in
    ltb-true t p.tests u.0
