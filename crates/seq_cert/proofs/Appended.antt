-- Lines that a loop appends one after another: where it has written the lines of the first items, and writes those of the
-- next, it has written those of one item more.
use Rattle.std.proofs.Common.{◌≡◌, ℕ, suc, ◌+◌, ◌<◌, zero, List, [], ◌∷◌, ◌++◌, length, map, take, get_or, refl, sym, ap, ◌∙◌, arith, append-nil, append_assoc}
use Rattle.std.proofs.lemmas.List.{map-append, take_more, take_all, length-map, length-take-le}
use Rattle.std.proofs.lemmas.List.Sums.{fold-append}
use Rattle.std.specs.Prelude.{filter}
use Rattle.seq_theory.specs.Problem.{Problem, count_up}
use Rattle.seq_theory.proofs.StatesLaws.{count_up-last}
use Rattle.sig_lines.specs.Written.{Written, with_line, with_lines}
use Rattle.sig_lines.specs.declared.labels.StateLabel.{StateLabel}
use Rattle.sig_lines.specs.declared.labels.TestLabel.{TestLabel}
use Rattle.seq_cert.specs.declared.report.ClassLine.{ClassLine}
use Rattle.sig_lines.specs.Pieces.{Words, test_words}
use Rattle.seq_cert.specs.Text.{class_words, state_words, class_lines, test_lines}
use Rattle.seq_cert.specs.OutcomeReport.{is_of, state_line, class_line}
use Rattle.seq_cert.specs.ByClass.{no_state, Picks}

-- what two writers append, one after the other
pub lines_after : (w a b : Written) (xs ys : List Words) → a ≡ with_lines w xs → b ≡ with_lines a ys → b ≡ with_lines w (xs ++ ys)
lines_after w a b xs ys first second = second ∙ ap (λ v. with_lines v ys) first ∙ sym (fold-append with_line w xs ys)

-- a line for each item
pub lines_more : {X : Type 0} (w a b : Written) (f : X → Words) (xs : List X) (i : ℕ) (d : X) → i < length xs
    → a ≡ with_lines w (map f (take i xs)) → b ≡ with_line a (f (get_or xs i d)) → b ≡ with_lines w (map f (take (i + 1) xs))
lines_more w a b f xs i d lt before last =
    lines_after w a b (map f (take i xs)) (f (get_or xs i d) ∷ []) before last
    ∙ ap (with_lines w) (sym (ap (map f) (take_more xs i d lt) ∙ map-append f (take i xs) (get_or xs i d ∷ [])))

test_lines-last : (j : ℕ) (ts : List TestLabel) (t : TestLabel) → test_lines j (ts ++ t ∷ []) ≡ test_lines j ts ++ test_words (j + length ts) t ∷ []
test_lines-last j [] t = let e : j ≡ j + 0 = omega arith in ap (λ k. test_words k t ∷ []) e
test_lines-last j (s ∷ ts) t =
    let e : suc j + length ts ≡ j + length (s ∷ ts) = omega arith in
    ap (λ l. test_words j s ∷ l) (test_lines-last (suc j) ts t ∙ ap (λ k. test_lines (suc j) ts ++ test_words k t ∷ []) e)

-- a test line for each test
pub tests_more : (w a b : Written) (ts : List TestLabel) (i : ℕ) (d : TestLabel) → i < length ts
    → a ≡ with_lines w (test_lines 0 (take i ts)) → b ≡ with_line a (test_words i (get_or ts i d)) → b ≡ with_lines w (test_lines 0 (take (i + 1) ts))
tests_more w a b ts i d lt before last =
    let long : 0 + length (take i ts) ≡ i = omega (arith, length-take-le i ts (omega arith)) in
    lines_after w a b (test_lines 0 (take i ts)) (test_words i (get_or ts i d) ∷ []) before last
    ∙ ap (with_lines w) (sym (ap (test_lines 0) (take_more ts i d lt) ∙ test_lines-last 0 (take i ts) (get_or ts i d) ∙ ap (λ k. test_lines 0 (take i ts) ++ test_words k (get_or ts i d) ∷ []) long))

class_lines-append : (j : ℕ) (cs : List ClassLine) (c : ClassLine) → class_lines j (cs ++ c ∷ []) ≡ class_lines j cs ++ class_lines (j + length cs) (c ∷ [])
class_lines-append j [] c = let e : j ≡ j + 0 = omega arith in ap (λ k. class_lines k (c ∷ [])) e
class_lines-append j (d ∷ cs) c =
    let e : suc j + length cs ≡ j + length (d ∷ cs) = omega arith in
    let first = class_words j d.weight (length d.states) in
    ap (λ l. first ∷ (map state_words d.states ++ l)) (class_lines-append (suc j) cs c ∙ ap (λ k. class_lines (suc j) cs ++ class_lines k (c ∷ [])) e)
    ∙ ap (λ l. first ∷ l) (sym (append_assoc (map state_words d.states) (class_lines (suc j) cs) (class_lines (j + length (d ∷ cs)) (c ∷ []))))

map-twice : {X Y Z : Type 0} (g : Y → Z) (f : X → Y) (xs : List X) → map g (map f xs) ≡ map (λ x. g (f x)) xs
map-twice g f [] = refl
map-twice g f (x ∷ xs) = ap (λ l. g (f x) ∷ l) (map-twice g f xs)

length-count_up : (from n : ℕ) → length (count_up from n) ≡ n
length-count_up from zero = refl
length-count_up from (suc n) = ap suc (length-count_up (suc from) n)

module _ (p : Problem) (states : List StateLabel) where
  -- the lines of a class whose states were picked
  picked_lines : (k weight : ℕ) (numbers : List ℕ) → weight ≡ p.weight k → Picks states numbers (filter (is_of k) (take (length states) states))
      → class_words k weight (length numbers) ∷ map (λ i. state_words (state_line (get_or states i no_state))) numbers ≡ class_lines k (class_line p states k ∷ [])
  picked_lines k weight numbers heavy picks =
      let whole : take (length states) states ≡ states = take_all (length states) states (omega arith) in
      let picked : map (λ i. get_or states i no_state) numbers ≡ filter (is_of k) states = picks.are ∙ ap (filter (is_of k)) whole in
      let count : length numbers ≡ length (map state_line (filter (is_of k) states)) =
      sym (length-map numbers (λ i. get_or states i no_state)) ∙ ap length picked ∙ sym (length-map (filter (is_of k) states) state_line) in
      let lines : map (λ i. state_words (state_line (get_or states i no_state))) numbers ≡ map state_words (map state_line (filter (is_of k) states)) =
      sym (map-twice (λ s. state_words (state_line s)) (λ i. get_or states i no_state) numbers) ∙ ap (map (λ s. state_words (state_line s))) picked ∙ sym (map-twice state_words state_line (filter (is_of k) states)) in
      ap (λ n. class_words k n (length numbers) ∷ map (λ i. state_words (state_line (get_or states i no_state))) numbers) heavy
      ∙ ap (λ n. class_words k (p.weight k) n ∷ map (λ i. state_words (state_line (get_or states i no_state))) numbers) count
      ∙ ap (λ l. class_words k (p.weight k) (length (map state_line (filter (is_of k) states))) ∷ l) (lines ∙ sym (append-nil (map state_words (map state_line (filter (is_of k) states)))))

  classes_last : (k : ℕ) → class_lines 0 (map (class_line p states) (count_up 0 (k + 1))) ≡ class_lines 0 (map (class_line p states) (count_up 0 k)) ++ class_lines k (class_line p states k ∷ [])
  classes_last k =
      let one_more : k + 1 ≡ suc k = omega arith in
      let last : 0 + k ≡ k = omega arith in
      let place : 0 + length (map (class_line p states) (count_up 0 k)) ≡ k = omega (arith, length-map (count_up 0 k) (class_line p states), length-count_up 0 k) in
      ap (λ n. class_lines 0 (map (class_line p states) (count_up 0 n))) one_more
      ∙ ap (λ l. class_lines 0 (map (class_line p states) l)) (count_up-last 0 k ∙ ap (λ n. count_up 0 k ++ n ∷ []) last)
      ∙ ap (class_lines 0) (map-append (class_line p states) (count_up 0 k) (k ∷ []))
      ∙ class_lines-append 0 (map (class_line p states) (count_up 0 k)) (class_line p states k)
      ∙ ap (λ n. class_lines 0 (map (class_line p states) (count_up 0 k)) ++ class_lines n (class_line p states k ∷ [])) place

  -- a class line with its states for each class
  pub classes_more : (w a b : Written) (k weight : ℕ) (numbers : List ℕ) → weight ≡ p.weight k → Picks states numbers (filter (is_of k) (take (length states) states))
      → a ≡ with_lines w (class_lines 0 (map (class_line p states) (count_up 0 k)))
      → b ≡ with_lines a (class_words k weight (length numbers) ∷ map (λ i. state_words (state_line (get_or states i no_state))) numbers)
      → b ≡ with_lines w (class_lines 0 (map (class_line p states) (count_up 0 (k + 1))))
  classes_more w a b k weight numbers heavy picks before last =
      lines_after w a b (class_lines 0 (map (class_line p states) (count_up 0 k))) (class_lines k (class_line p states k ∷ [])) before (last ∙ ap (with_lines a) (picked_lines k weight numbers heavy picks))
      ∙ ap (with_lines w) (sym (classes_last k))
