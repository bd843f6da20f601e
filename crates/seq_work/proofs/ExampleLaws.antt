-- The groups that a test enters are real: all classes of the star of four faults, and its parts by the first test and by the second.
-- The numbers are computed.
use Rattle.std.proofs.Common.{◌≡◌, ℕ, List, [], ◌∷◌, ◌++◌, refl, sym, ap, ◌∙◌, arith, subst, lit<}
use Rattle.std.specs.Prelude.{true}
use Rattle.std.specs.List.{AllZip}
use Rattle.seq_theory.specs.Problem.{Problem, IsWeighed, AreTold, all_classes}
use Rattle.seq_theory.specs.Bound.{bound, step_sum}
use Rattle.seq_theory.specs.Huffman.{huff}
use Rattle.seq_theory.specs.Below.{passing_below}
use Rattle.seq_theory.specs.Greedy.{one_step}
use Rattle.seq_theory.specs.Graph.{IsWanted, IsReal, root, part}
use Rattle.seq_theory.proofs.WantedLaws.{one_step-wanted}
use Rattle.seq_inst.specs.declared.instance.Instance.{Instance}
use Rattle.seq_inst.specs.Instances.{problem_of}
use Rattle.seq_core.specs.Words.{classes_of}
use Rattle.seq_words.specs.Knowledge.{told_of, problem_in}
use Rattle.seq_words.specs.Seats.{Wording}
use Rattle.seq_work.specs.Examples.{star}

abbrev pub bits : ℕ → List ℕ
bits first = first ∷ 0 ∷ 0 ∷ 0 ∷ 0 ∷ 0 ∷ 0 ∷ 0 ∷ []

all_is : classes_of (bits 31) ≡ 0 ∷ 1 ∷ 2 ∷ 3 ∷ 4 ∷ []
unfolding passing_below
all_is = refl

first_is : classes_of (bits 29) ≡ 0 ∷ 2 ∷ 3 ∷ 4 ∷ []
unfolding passing_below
first_is = refl

second_is : classes_of (bits 27) ≡ 0 ∷ 1 ∷ 3 ∷ 4 ∷ []
unfolding passing_below
second_is = refl

first_sum : step_sum star (bound star) (all_classes star) 0 ≡ 13
unfolding huff bound
first_sum = refl

second_sum : step_sum star (bound star) (all_classes star) 1 ≡ 13
unfolding huff bound
second_sum = refl

star_step : one_step star (all_classes star) ≡ 13
unfolding huff bound one_step
star_step = refl

module _ (inst : Instance) (is : problem_of inst ≡ star) where
  all_real : IsReal star (classes_of (bits 31))
  all_real = subst (IsReal star) (sym all_is) record { wanted = root; goals = refl }

  first_real : IsReal star (classes_of (bits 29))
  first_real =
      let weighed = subst IsWeighed is inst.stands.weighed in
      let told = subst AreTold is inst.stands.told in
      let a = first_sum in
      let b = star_step in
      let wanted : IsWanted star (part star 0 true (all_classes star)) = one_step-wanted star (all_classes star) 0 true weighed told root refl (lit< tt) refl (omega arith) in
      subst (IsReal star) (sym first_is) record { wanted = wanted; goals = refl }

  second_real : IsReal star (classes_of (bits 27))
  second_real =
      let weighed = subst IsWeighed is inst.stands.weighed in
      let told = subst AreTold is inst.stands.told in
      let a = second_sum in
      let b = star_step in
      let wanted : IsWanted star (part star 1 true (all_classes star)) = one_step-wanted star (all_classes star) 1 true weighed told root refl (lit< tt) refl (omega arith) in
      subst (IsReal star) (sym second_is) record { wanted = wanted; goals = refl }

  named : (w : Wording) (g : List ℕ) → w.told ≡ told_of inst → IsReal star g → IsReal (problem_in w.told) g
  named w g told r = subst (λ (p : Problem). IsReal p g) (sym (ap problem_in told ∙ is)) r

  -- in words of this instance
  pub real-all : (w : Wording) → w.told ≡ told_of inst → IsReal (problem_in w.told) (classes_of (bits 31))
  real-all w told = named w _ told all_real

  pub real-first : (w : Wording) → w.told ≡ told_of inst → IsReal (problem_in w.told) (classes_of (bits 29))
  real-first w told = named w _ told first_real

  pub real-second : (w : Wording) → w.told ≡ told_of inst → IsReal (problem_in w.told) (classes_of (bits 27))
  real-second w told = named w _ told second_real

-- the last of a list stands beside one of another
pub last-of : {A B : Type 0} (R : A → B → Type 0) (front : List A) (x : A) (ys : List B) → AllZip R (front ++ x ∷ []) ys → (y : B) × R x y
last-of R [] x [] a = absurd a
last-of R [] x (y ∷ ys) a = (y, a.0)
last-of R (f ∷ fs) x [] a = absurd a
last-of R (f ∷ fs) x (y ∷ ys) a = last-of R fs x ys a.1
