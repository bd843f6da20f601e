-- The missed line is good: the missed group is real and was not entered, so it is not listed.
use Rattle.std.proofs.Common.{◌≡◌, ℕ, List, refl, ap, ◌∙◌, Option, Some, None}
use Rattle.std.specs.Prelude.{true, not, length}
use Rattle.std.specs.Option.{option_map}
use Rattle.std.specs.List.{list_any}
use Rattle.std.proofs.lemmas.Bool.{and_from}
use Rattle.seq_theory.specs.Problem.{Problem}
use Rattle.seq_theory.specs.Graph.{same_group, is_entered}
use Rattle.seq_inst.specs.declared.group.Group.{Group}
use Rattle.seq_inst.specs.declared.outcome.Verdict.{Verdict}
use Rattle.seq_inst.specs.declared.outcome.Verdict.TheVariants.{Optimal, Bounded}
use Rattle.seq_inst.specs.Members.{members}
use Rattle.seq_core.specs.Entered.{IsFull, IsMissed}
use Rattle.seq_cert.specs.declared.report.GroupLine.{GroupLine}
use Rattle.seq_cert.specs.OutcomeReport.{missed_line}
use Rattle.seq_check.specs.Looks.{AreGood}
use Rattle.seq_check.specs.GroupLooks.{is_sized, is_listed, missed_looks}
use Rattle.seq_shown.proofs.ListedGroups.{real-sized}

none-good : (p : Problem) (n : ℕ) (lines : List GroupLine) (missed : Option Group) → missed ≡ None → AreGood (missed_looks p n lines (option_map missed_line missed))
unfolding missed_looks
none-good p n lines None e = tt
none-good p n lines (Some g) e = absurd (let bad : ⊥ = cc in bad)

some-good : (p : Problem) (n : ℕ) (entered : List (List ℕ)) (lines : List GroupLine) (missed : Option Group) → ((g : List ℕ) → list_any (λ (line : GroupLine). same_group g (members line.group)) lines ≡ is_entered entered g) → IsMissed p entered missed → AreGood (missed_looks p n lines (option_map missed_line missed))
unfolding missed_looks
some-good p n entered lines None listed m = absurd m
some-good p n entered lines (Some g) listed m =
    let new : not (is_listed lines g) ≡ true = ap not (listed (members g) ∙ m.1) in
    (and_from (is_sized p (length (members g)) g) (not (is_listed lines g)) (real-sized p (length (members g)) g refl m.0) new, tt)

pub missed-good : (p : Problem) (n limit : ℕ) (entered : List (List ℕ)) (lines : List GroupLine) (v : Verdict) (missed : Option Group) → ((g : List ℕ) → list_any (λ (line : GroupLine). same_group g (members line.group)) lines ≡ is_entered entered g) → (v ≡ Optimal → missed ≡ None) → (v ≡ Bounded → IsFull p limit entered missed) → AreGood (missed_looks p n lines (option_map missed_line missed))
missed-good p n limit entered lines Optimal missed listed none full = none-good p n lines missed (none refl)
missed-good p n limit entered lines Bounded missed listed none full = some-good p n entered lines missed listed (full refl).missed_is
