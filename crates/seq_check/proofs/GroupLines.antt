-- Group lines, one after another.
use Rattle.std.proofs.Common.{◌≡◌, ℕ, ◌+◌, ◌<◌, ◌≤◌, List, ◌++◌, drop, get_or, length, sym, ap, ◌∙◌, arith, Option, Some, None}
use Rattle.std.specs.Prelude.{true, false, is_some}
use Rattle.seq_theory.specs.Problem.{Problem}
use Rattle.seq_theory.specs.Claims.{Claim}
use Rattle.seq_cert.specs.declared.fault.BadLine.{BadLine}
use Rattle.seq_cert.specs.declared.report.GroupLine.{GroupLine}
use Rattle.seq_check.specs.Looks.{first_bad}
use Rattle.seq_check.specs.GroupLooks.{group_look, group_looks}
use Rattle.seq_check.proofs.LookLaws.{stops, passes}
use Rattle.seq_check.proofs.SideLooks.{drop-past, drop-step}

module _ (p : Problem) (low : ℕ) (claims : List Claim) (n i : ℕ) (before : Option GroupLine) (lines : List GroupLine) where
  abbrev pub SoFar : Type 0
  SoFar = first_bad (group_looks p n low claims None lines) ≡ first_bad (group_looks p (n + i) low claims before (drop i lines))

  module _ (d : GroupLine) (lt : i < length lines) where
    here : group_looks p (n + i) low claims before (drop i lines) ≡ group_look p (n + i) low claims before (get_or lines i d) (drop (i + 1) lines) ++ group_looks p (n + i + 1) low claims (Some (get_or lines i d)) (drop (i + 1) lines)
    here = ap (group_looks p (n + i) low claims before) (drop-step i lines d lt)

    pub groups_go_on : (o : Option BadLine) → is_some o ≡ false → o ≡ first_bad (group_look p (n + i) low claims before (get_or lines i d) (drop (i + 1) lines)) → SoFar
        → first_bad (group_looks p n low claims None lines) ≡ first_bad (group_looks p (n + (i + 1)) low claims (Some (get_or lines i d)) (drop (i + 1) lines))
    groups_go_on o none found so_far =
        let m : n + i + 1 ≡ n + (i + 1) = omega arith in
        so_far ∙ ap first_bad here ∙ passes (group_look p (n + i) low claims before (get_or lines i d) (drop (i + 1) lines)) _ o none found ∙ ap (λ k. first_bad (group_looks p k low claims (Some (get_or lines i d)) (drop (i + 1) lines))) m

    pub group_stops : (o : Option BadLine) → is_some o ≡ true → o ≡ first_bad (group_look p (n + i) low claims before (get_or lines i d) (drop (i + 1) lines)) → SoFar → o ≡ first_bad (group_looks p n low claims None lines)
    group_stops o some found so_far = stops (group_look p (n + i) low claims before (get_or lines i d) (drop (i + 1) lines)) _ o some found ∙ sym (ap first_bad here) ∙ sym so_far

  pub groups_end : length lines ≤ i → SoFar → first_bad (group_looks p n low claims None lines) ≡ None
  groups_end le so_far = so_far ∙ ap (λ l. first_bad (group_looks p (n + i) low claims before l)) (drop-past i lines le)
