-- The groups that the tests enter are wanted.
use Rattle.std.proofs.Common.{◌≡◌, ◌≤◌, ◌<◌, ℕ, List, refl, sym, ap, ◌∙◌, arith, subst, lit<}
use Rattle.std.specs.Prelude.{true, false}
use Rattle.seq_theory.specs.Problem.{Problem, all_classes, is_end, splits, pass_part}
use Rattle.seq_theory.specs.Bound.{bound, step_sum}
use Rattle.seq_theory.specs.Huffman.{huff}
use Rattle.seq_theory.specs.Greedy.{one_step}
use Rattle.seq_theory.specs.Graph.{IsWanted, IsReal, root, part}
use Rattle.seq_theory.proofs.WantedLaws.{one_step-wanted}
use Rattle.seq_inst.specs.declared.instance.Instance.{Instance}
use Rattle.seq_inst.specs.Instances.{problem_of}
use Rattle.seq_core.specs.Examples.{two_faults, star}

-- all classes, where they have two goals
pub all-real : (p : Problem) (group : List ℕ) → group ≡ all_classes p → is_end p (all_classes p) ≡ false → IsReal p group
all-real p group e goals = subst (IsReal p) (sym e) (record { wanted = root; goals = goals })

-- the passing part of all classes by test 0, where its sum is at most the one-step bound
pub part-real : (inst : Instance) (q : Problem) (all group : List ℕ) → problem_of inst ≡ q → all ≡ all_classes (problem_of inst) → group ≡ pass_part (problem_of inst) 0 all
    → is_end q (all_classes q) ≡ false → 0 < q.tests → splits q (all_classes q) 0 ≡ true → step_sum q (bound q) (all_classes q) 0 ≤ one_step q (all_classes q)
    → is_end q (pass_part q 0 (all_classes q)) ≡ false → IsReal (problem_of inst) group
part-real inst q all group is ae ge goals there split le part_goals =
    let p = problem_of inst in
    let back = sym is in
    let goals_p : is_end p (all_classes p) ≡ false = subst (λ (x : Problem). is_end x (all_classes x) ≡ false) back goals in
    let there_p : 0 < p.tests = subst (λ (x : Problem). 0 < x.tests) back there in
    let split_p : splits p (all_classes p) 0 ≡ true = subst (λ (x : Problem). splits x (all_classes x) 0 ≡ true) back split in
    let le_p : step_sum p (bound p) (all_classes p) 0 ≤ one_step p (all_classes p) = subst (λ (x : Problem). step_sum x (bound x) (all_classes x) 0 ≤ one_step x (all_classes x)) back le in
    let part_p : is_end p (pass_part p 0 (all_classes p)) ≡ false = subst (λ (x : Problem). is_end x (pass_part x 0 (all_classes x)) ≡ false) back part_goals in
    let wanted : IsWanted p (part p 0 true (all_classes p)) = one_step-wanted p (all_classes p) 0 true inst.stands.weighed inst.valid.told root goals_p there_p split_p le_p in
    subst (IsReal p) (sym (ge ∙ ap (pass_part p 0) ae)) (record { wanted = wanted; goals = part_p })

two_sum : step_sum two_faults (bound two_faults) (all_classes two_faults) 0 ≡ 27
unfolding huff bound
two_sum = refl

two_step : one_step two_faults (all_classes two_faults) ≡ 27
unfolding huff bound one_step
two_step = refl

pub two_root : (inst : Instance) (all : List ℕ) → problem_of inst ≡ two_faults → all ≡ all_classes (problem_of inst) → IsReal (problem_of inst) all
two_root inst all is e = all-real (problem_of inst) all e (subst (λ (x : Problem). is_end x (all_classes x) ≡ false) (sym is) refl)

pub two_part : (inst : Instance) (all group : List ℕ) → problem_of inst ≡ two_faults → all ≡ all_classes (problem_of inst) → group ≡ pass_part (problem_of inst) 0 all → IsReal (problem_of inst) group
two_part inst all group is ae ge = part-real inst two_faults all group is ae ge refl (lit< tt) refl (let a = two_sum in let b = two_step in omega arith) refl

star_sum : step_sum star (bound star) (all_classes star) 0 ≡ 13
unfolding huff bound
star_sum = refl

star_step : one_step star (all_classes star) ≡ 13
unfolding huff bound one_step
star_step = refl

pub star_root : (inst : Instance) (all : List ℕ) → problem_of inst ≡ star → all ≡ all_classes (problem_of inst) → IsReal (problem_of inst) all
star_root inst all is e = all-real (problem_of inst) all e (subst (λ (x : Problem). is_end x (all_classes x) ≡ false) (sym is) refl)

pub star_part : (inst : Instance) (all group : List ℕ) → problem_of inst ≡ star → all ≡ all_classes (problem_of inst) → group ≡ pass_part (problem_of inst) 0 all → IsReal (problem_of inst) group
star_part inst all group is ae ge = part-real inst star all group is ae ge refl (lit< tt) refl (let a = star_sum in let b = star_step in omega arith) refl
