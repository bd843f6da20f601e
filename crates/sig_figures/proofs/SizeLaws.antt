-- Counting into a list: one number more, and what the counts say of ambiguity groups.
use Rattle.std.proofs.Common.{◌≡◌, ℕ, zero, suc, ◌+◌, ◌-◌, ◌<◌, ◌≤◌, List, [], ◌∷◌, ◌++◌, length, get_or, set, replicate, map, refl, sym, ap, ◌∙◌, arith, inl, inr}
use Rattle.std.specs.Prelude.{Bool, true, false, cond, nat_eq, nat_lt, count_by, filter, All}
use Rattle.std.proofs.lemmas.Bool.{cases_eq, eq-eqb, ne_eqb, lt-ltb}
use Rattle.std.proofs.lemmas.List.{get_or_read, get_or-set_same, get_or-set_other, length-set, get_or-replicate, length-replicate, map-append}
use Rattle.std.proofs.lemmas.List.Elements.{All-from_get_or}
use Rattle.std.proofs.lemmas.List.Folds.{fold-map}
use Rattle.std.proofs.lemmas.List.Sums.{sum_by_push, count_by-le-length}
use Rattle.seq_theory.specs.Problem.{count_up}
use Rattle.seq_theory.specs.States.{System, class_of}
use Rattle.seq_theory.proofs.StatesLaws.{class_of-there}
use Rattle.sig_matrix.specs.declared.matrix.Matrix.{Matrix}
use Rattle.sig_matrix.specs.Detection.{before_faults, state_count, system_of}
use Rattle.sig_classes.specs.declared.classes.Classes.{Classes}
use Rattle.sig_classes.specs.Classes.{AreClassesOf}
use Rattle.seq_theory.proofs.BelowLaws.{length-count_up}
use Rattle.seq_theory.proofs.ByNumberLaws.{length-by_number, get_or-by_number, by_number-from_items}
use Rattle.sig_figures.specs.declared.summary.SizeCount.{SizeCount}
use Rattle.sig_figures.specs.Coverage.{all_faults}
use Rattle.sig_figures.specs.Counts.{times_in, counts_of, count_at, some_counts}
use Rattle.sig_figures.specs.Sizes.{states_in, group_size, faults_in_size, counted, size_counts}
use Rattle.sig_figures.proofs.UpTo.{filter-yes, filter-no}

-- nothing is counted yet
pub counts-none : (bound : ℕ) → replicate {A = ℕ} bound 0 ≡ counts_of [] bound
counts-none bound = by_number-from_items (times_in []) bound 0 (replicate bound 0) (length-replicate bound 0) (λ i lt. get_or-replicate bound i 0 0 lt)

-- one number more
pub counts-more : (xs : List ℕ) (m bound : ℕ) → m < bound → set (counts_of xs bound) m (get_or (counts_of xs bound) m 0 + 1) ≡ counts_of (xs ++ m ∷ []) bound
counts-more xs m bound lt =
    by_number-from_items (times_in (xs ++ m ∷ [])) bound 0 (set (counts_of xs bound) m (get_or (counts_of xs bound) m 0 + 1)) (length-set (counts_of xs bound) m (get_or (counts_of xs bound) m 0 + 1) ∙ long) at
  where
    long : length (counts_of xs bound) ≡ bound
    long = length-by_number (times_in xs) bound

    last : (i : ℕ) → times_in (xs ++ m ∷ []) i ≡ times_in xs i + cond (nat_eq m i) 1 0
    last i = sum_by_push (λ n. cond (nat_eq n i) 1 0) xs m

    at : (i : ℕ) → i < bound → get_or (set (counts_of xs bound) m (get_or (counts_of xs bound) m 0 + 1)) i 0 ≡ times_in (xs ++ m ∷ []) i
    at i below = elim (cases_eq i m) [
      | inl e ↦
          (let within : m < length (counts_of xs bound) = (let l = long in omega arith) in
          ap (λ k. get_or (set (counts_of xs bound) m (get_or (counts_of xs bound) m 0 + 1)) k 0) e ∙ get_or-set_same (counts_of xs bound) m (get_or (counts_of xs bound) m 0 + 1) 0 within
          ∙ ap (λ k. k + 1) (get_or-by_number (times_in xs) bound m 0 lt ∙ ap (times_in xs) (sym e)) ∙ ap (λ b. times_in xs i + cond b 1 0) (sym (eq-eqb m i (sym e))) ∙ sym (last i))
      | inr ne ↦
          (let zero_more : times_in xs i ≡ times_in xs i + 0 = omega arith in
          get_or-set_other (counts_of xs bound) m i (get_or (counts_of xs bound) m 0 + 1) 0 ne ∙ get_or-by_number (times_in xs) bound i 0 below
          ∙ zero_more ∙ ap (λ b. times_in xs i + cond b 1 0) (sym (ne_eqb m i (λ e. ne (sym e)))) ∙ sym (last i))
    ]

-- a count is at most the number of numbers
pub count-small : (xs : List ℕ) (n i : ℕ) → length xs ≤ i → times_in xs n ≤ i
count-small xs n i le = let h = count_by-le-length (λ m. nat_eq m n) xs in omega arith

-- counting what a function gives
pub times-map : (f : ℕ → ℕ) (xs : List ℕ) (n : ℕ) → times_in (map f xs) n ≡ count_by (λ x. nat_eq (f x) n) xs
times-map f xs n = fold-map (λ a x. a + cond (nat_eq x n) 1 0) f 0 xs

-- the number of states of a group
pub states-counted : (matrix : Matrix) (classes : Classes) (group : ℕ) → AreClassesOf (system_of matrix) classes → times_in classes.class_of.items group ≡ states_in matrix group
unfolding states_in
states-counted matrix classes group are = ap (λ l. times_in l group) are.groups ∙ times-map (class_of (system_of matrix)) (count_up 0 (state_count matrix)) group

pub group-small : (matrix : Matrix) (fault : ℕ) → group_size matrix fault ≤ state_count matrix
unfolding group_size states_in
group-small matrix fault =
    let h = count_by-le-length (λ state. nat_eq (class_of (system_of matrix) state) (class_of (system_of matrix) (before_faults matrix + fault))) (count_up 0 (state_count matrix)) in
    let long = length-count_up 0 (state_count matrix) in
    omega arith

pub classes-small : (sys : System) (classes : Classes) (numbers : List ℕ) (bound : ℕ) → AreClassesOf sys classes → numbers ≡ classes.class_of.items → bound ≡ length classes.weights.items → All (λ n. n < bound) numbers
classes-small sys classes numbers bound are same is = All-from_get_or (λ n. n < bound) numbers 0 (λ i lt.
    let as_long = ap length same in
    let long = are.states in
    let weights = are.as_many in
    let there = class_of-there sys i (omega arith) in
    let read : get_or numbers i 0 ≡ class_of sys i = ap (λ l. get_or l i 0) (same ∙ are.groups) ∙ get_or-by_number (class_of sys) sys.states i 0 (omega arith) in
    omega arith)

-- the ambiguity group of a fault, as it is read
pub class-at : (matrix : Matrix) (classes : Classes) (states many fault class : ℕ) → AreClassesOf (system_of matrix) classes → states ≡ state_count matrix → many ≡ length matrix.faults → fault < length matrix.faults
    → class ≡ get_or classes.class_of.items (states - many + fault) class → class ≡ class_of (system_of matrix) (before_faults matrix + fault)
class-at matrix classes states many fault class are is_states is_many lt read =
    let place : states - many + fault ≡ before_faults matrix + fault = omega arith in
    let long = are.states in
    get_or_read classes.class_of.items (states - many + fault) class (omega arith) read 0 ∙ are.at (states - many + fault) are_there ∙ ap (class_of (system_of matrix)) place
  where
    are_there : states - many + fault < state_count matrix
    are_there = omega arith

pub class-below : (matrix : Matrix) (classes : Classes) (fault class : ℕ) → AreClassesOf (system_of matrix) classes → fault < length matrix.faults → class ≡ class_of (system_of matrix) (before_faults matrix + fault) → class < length classes.weights.items
class-below matrix classes fault class are lt is =
    let weights = are.as_many in
    let there = class_of-there (system_of matrix) (before_faults matrix + fault) (omega arith) in
    omega arith

-- the size of its group
pub group-read : (matrix : Matrix) (classes : Classes) (numbers counts : List ℕ) (bound fault class count : ℕ) → AreClassesOf (system_of matrix) classes → counts ≡ counts_of numbers bound → numbers ≡ classes.class_of.items
    → class ≡ class_of (system_of matrix) (before_faults matrix + fault) → class < bound → count ≡ get_or counts class 0 → count ≡ group_size matrix fault
unfolding group_size
group-read matrix classes numbers counts bound fault class count are is same of below read =
    read ∙ ap (λ l. get_or l class 0) is ∙ get_or-by_number (times_in numbers) bound class 0 below ∙ ap (λ l. times_in l class) same
    ∙ states-counted matrix classes class are ∙ ap (states_in matrix) of

-- each is at most the number of states
pub sizes-small : (matrix : Matrix) (sizes : List ℕ) (states : ℕ) → sizes ≡ map (group_size matrix) (all_faults matrix) → states ≡ state_count matrix → All (λ n. n < states + 1) sizes
sizes-small matrix sizes states are is = All-from_get_or (λ n. n < states + 1) sizes 0 (λ i lt.
    let as_long = ap length are in
    let long = length-by_number (group_size matrix) (length matrix.faults) in
    let read : get_or sizes i 0 ≡ group_size matrix i = ap (λ l. get_or l i 0) are ∙ get_or-by_number (group_size matrix) (length matrix.faults) i 0 (omega arith) in
    let small = group-small matrix i in
    omega arith)

-- the same is picked and made where two tests and two functions agree
picked-agree : {X : Type 0} (f g : ℕ → X) (p q : ℕ → Bool) (from n : ℕ) → ((k : ℕ) → k < from + n → f k ≡ g k) → ((k : ℕ) → k < from + n → p k ≡ q k) → map f (filter p (count_up from n)) ≡ map g (filter q (count_up from n))
picked-agree f g p q from zero same_f same_p = refl
picked-agree f g p q from (suc n) same_f same_p =
    let rest = picked-agree f g p q (suc from) n (λ k lt. same_f k (omega arith)) (λ k lt. same_p k (omega arith)) in
    ap (λ b. map f (cond b (from ∷ filter p (count_up (suc from) n)) (filter p (count_up (suc from) n)))) (same_p from (omega arith))
    ∙ each (q from) rest
  where
    each : (b : Bool) → map f (filter p (count_up (suc from) n)) ≡ map g (filter q (count_up (suc from) n)) → map f (cond b (from ∷ filter p (count_up (suc from) n)) (filter p (count_up (suc from) n))) ≡ map g (cond b (from ∷ filter q (count_up (suc from) n)) (filter q (count_up (suc from) n)))
    each true rest = ap (λ x. x ∷ map f (filter p (count_up (suc from) n))) (same_f from (omega arith)) ∙ ap (λ l. g from ∷ l) rest
    each false rest = rest

-- the counts of the groups' sizes are the figures' sizes
pub sizes-counted : (matrix : Matrix) (sizes counts : List ℕ) → sizes ≡ map (group_size matrix) (all_faults matrix) → counts ≡ counts_of sizes (state_count matrix + 1) → some_counts counts ≡ size_counts matrix
unfolding faults_in_size
sizes-counted matrix sizes counts is_sizes is_counts =
    ap (λ n. map (count_at counts) (filter (λ k. nat_lt 0 (get_or counts k 0)) (count_up 0 n))) long
    ∙ picked-agree (count_at counts) (counted matrix) (λ k. nat_lt 0 (get_or counts k 0)) (λ k. nat_lt 0 (faults_in_size matrix k)) 0 (suc (state_count matrix))
    (λ k lt. ap (λ c. let made : SizeCount = record { states = k; faults = c } in made) (at k (omega arith))) (λ k lt. ap (nat_lt 0) (at k (omega arith)))
  where
    one_more : state_count matrix + 1 ≡ suc (state_count matrix)
    one_more = omega arith

    long : length counts ≡ suc (state_count matrix)
    long = ap length is_counts ∙ length-by_number (times_in sizes) (state_count matrix + 1) ∙ one_more

    at : (k : ℕ) → k < state_count matrix + 1 → get_or counts k 0 ≡ faults_in_size matrix k
    at k lt = ap (λ l. get_or l k 0) is_counts ∙ get_or-by_number (times_in sizes) (state_count matrix + 1) k 0 lt ∙ ap (λ l. times_in l k) is_sizes ∙ times-map (group_size matrix) (all_faults matrix) k

-- one more number with its count
pub some-yes : (counts : List ℕ) (n count : ℕ) → n < length counts → count ≡ get_or counts n 0 → 0 < count → (sizes after : List SizeCount) → sizes ≡ map (count_at counts) (filter (λ k. nat_lt 0 (get_or counts k 0)) (count_up 0 n))
    → after ≡ sizes ++ record { states = n; faults = count } ∷ [] → after ≡ map (count_at counts) (filter (λ k. nat_lt 0 (get_or counts k 0)) (count_up 0 (n + 1)))
some-yes counts n count lt is positive sizes after before pushed =
    pushed ∙ ap (λ l. l ++ record { states = n; faults = count } ∷ []) before
    ∙ ap (λ c. map (count_at counts) (filter (λ k. nat_lt 0 (get_or counts k 0)) (count_up 0 n)) ++ record { states = n; faults = c } ∷ []) is
    ∙ sym (ap (map (count_at counts)) (filter-yes (λ k. nat_lt 0 (get_or counts k 0)) n yes) ∙ map-append (count_at counts) (filter (λ k. nat_lt 0 (get_or counts k 0)) (count_up 0 n)) (n ∷ []))
  where
    yes : nat_lt 0 (get_or counts n 0) ≡ true
    yes = let e = is in lt-ltb 0 (get_or counts n 0) (omega arith)

pub some-no : (counts : List ℕ) (n count : ℕ) → count ≡ get_or counts n 0 → count ≤ 0 → (sizes : List SizeCount) → sizes ≡ map (count_at counts) (filter (λ k. nat_lt 0 (get_or counts k 0)) (count_up 0 n)) → sizes ≡ map (count_at counts) (filter (λ k. nat_lt 0 (get_or counts k 0)) (count_up 0 (n + 1)))
some-no counts n count is none sizes before = before ∙ sym (ap (map (count_at counts)) (filter-no (λ k. nat_lt 0 (get_or counts k 0)) n no))
  where
    no : nat_lt 0 (get_or counts n 0) ≡ false
    no = let e : get_or counts n 0 ≡ 0 = omega arith in ap (nat_lt 0) e
