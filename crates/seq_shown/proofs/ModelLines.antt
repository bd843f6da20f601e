-- The lines of the model are good: what a report says of the mode, the counts, the weights, the states and the tests is
-- made from the problem and the labels that the checker looks at.
use Rattle.std.proofs.Common.{◌≡◌, ℕ, zero, suc, ◌+◌, ◌<◌, ◌≤◌, List, [], ◌∷◌, length, map, filter, refl, ap, subst, arith}
use Rattle.std.specs.Prelude.{Bool, true, nat_eq, nat_lt, ◌&&◌}
use Rattle.std.proofs.lemmas.Bool.{and_from, eq-eqb, lt-ltb}
use Rattle.seq_theory.specs.Problem.{Problem, count_up, all_classes, weight_of}
use Rattle.std.specs.Str.{bytes_eq}
use Rattle.sig_lines.specs.declared.labels.Labels.{Labels}
use Rattle.sig_lines.specs.declared.labels.StateLabel.{StateLabel}
use Rattle.sig_lines.specs.declared.labels.TestLabel.{TestLabel}
use Rattle.seq_inst.specs.declared.outcome.Outcome.{Outcome}
use Rattle.seq_cert.specs.OutcomeReport.{is_of, state_line, class_line, report_from}
use Rattle.seq_check.specs.Looks.{AreGood}
use Rattle.seq_check.specs.ModelLooks.{model_looks, side_looks, is_state, is_test, class_look, class_looks, test_looks}
use Rattle.seq_shown.proofs.GoodLooks.{good-both}

same_text-refl : (text : List ℕ) → bytes_eq text text ≡ true
same_text-refl [] = refl
same_text-refl (c ∷ text) = and_from (nat_eq c c) (bytes_eq text text) (eq-eqb c c refl) (same_text-refl text)

same_number : (n : ℕ) → nat_eq n n ≡ true
same_number n = eq-eqb n n refl

-- lines that are made from items, one by one, are good beside them
made-good : {A B : Type 0} (same : A → B → Bool) (line : A → B) → ((x : A) → same x (line x) ≡ true) → (n : ℕ) (xs : List A) → AreGood (side_looks same n xs (map line xs))
made-good same line each n [] = tt
made-good same line each n (x ∷ xs) = (each x, made-good same line each (n + 1) xs)

copied-good : {A : Type 0} (same : A → A → Bool) → ((x : A) → same x x ≡ true) → (n : ℕ) (xs : List A) → AreGood (side_looks same n xs xs)
copied-good same each n [] = tt
copied-good same each n (x ∷ xs) = (each x, copied-good same each (n + 1) xs)

state-good : (s : StateLabel) → is_state s (state_line s) ≡ true
state-good s = and_from (nat_eq s.weight s.weight) (bytes_eq s.label s.label) (same_number s.weight) (same_text-refl s.label)

test-good : (t : TestLabel) → is_test t t ≡ true
test-good t = and_from (nat_eq t.cost t.cost) (bytes_eq t.label t.label) (same_number t.cost) (same_text-refl t.label)

length-lines : (states : List StateLabel) → length (map state_line states) ≡ length states
length-lines [] = refl
length-lines (s ∷ states) = ap suc (length-lines states)

class-good : (p : Problem) (states : List StateLabel) (n c : ℕ) → c < p.classes → AreGood (class_look p states n c (class_line p states c))
unfolding class_look
class-good p states n c there = (
  and_from (nat_lt c p.classes && nat_eq (p.weight c) (p.weight c)) (nat_eq (length (map state_line (filter (is_of c) states))) (length (filter (is_of c) states)))
      (and_from (nat_lt c p.classes) (nat_eq (p.weight c) (p.weight c)) (lt-ltb c p.classes there) (same_number (p.weight c)))
      (eq-eqb (length (map state_line (filter (is_of c) states))) (length (filter (is_of c) states)) (length-lines (filter (is_of c) states))),
  made-good is_state state_line state-good (n + 1) (filter (is_of c) states),
)

classes-from : (p : Problem) (states : List StateLabel) (n c m : ℕ) → c + m ≤ p.classes → AreGood (class_looks p states n c (map (class_line p states) (count_up c m)))
classes-from p states n c zero le = tt
classes-from p states n c (suc m) le =
    let next : suc c ≡ c + 1 = omega arith in
    let length_is = length (map state_line (filter (is_of c) states)) in
    good-both (class_look p states n c (class_line p states c)) (class_looks p states (n + (1 + length_is)) (c + 1) (map (class_line p states) (count_up (suc c) m)))
    (class-good p states n c (omega arith))
    (subst (λ k. AreGood (class_looks p states (n + (1 + length_is)) k (map (class_line p states) (count_up (suc c) m)))) next (classes-from p states (n + (1 + length_is)) (suc c) m (omega arith)))

pub classes-good : (p : Problem) (labels : Labels) (o : Outcome) → AreGood (class_looks p labels.states 13 0 (report_from p o labels).class_lines)
classes-good p labels o = classes-from p labels.states 13 0 p.classes (omega arith)

pub tests-good : (n : ℕ) (tests : List TestLabel) → AreGood (test_looks n tests tests)
unfolding test_looks
tests-good n tests = copied-good is_test test-good n tests

pub model-good : (p : Problem) (labels : Labels) (o : Outcome) → AreGood (model_looks p labels (report_from p o labels))
unfolding model_looks
model-good p labels o = (same_text-refl labels.mode, (same_number (length labels.states), (same_number p.classes, (same_number p.tests, (same_number (weight_of p (all_classes p)), tt)))))
