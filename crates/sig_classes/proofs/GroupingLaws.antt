-- One more state in the classes.
--
-- The map holds the words of the first states so far, and the weights are the sums over the states so far. The place of
-- a state's words in the map is its group: one that is there gains the state's weight, and a new one begins with it.
use Rattle.std.proofs.Common.{◌≡◌, ℕ, zero, suc, ◌+◌, ◌-◌, ◌*◌, ◌^◌, ◌<◌, ◌≤◌, List, [], ◌∷◌, ◌++◌, length, map, set, get_or, refl, sym, ap, ◌∙◌, arith, inl, inr, subst}
use Rattle.std.specs.Prelude.{true, false, cond, nat_eq, nat_lt, filter}
use Rattle.std.specs.List.{position_or_len}
use Rattle.std.specs.Str.{bytes_eq}
use Rattle.std.proofs.lemmas.Bool.{cases_Bool, cases_lt, cases_eq, eqb-true, eqb-false, eq-eqb, ne_eqb, lt-ltb, le-ltb, ltb-false}
use Rattle.std.proofs.lemmas.List.{length-map, length-set, length_push, get_or-set_same, get_or-set_other, get_or_append_left, get_or_past, get_or_push}
use Rattle.std.proofs.lemmas.List.Elements.{filter-append}
use Rattle.indexmap.specs.IndexSet.{insert_key}
use Rattle.seq_theory.specs.PassageLaws.{GroupsHold}
use Rattle.seq_theory.specs.Problem.{count_up, weight_of}
use Rattle.seq_theory.specs.States.{System, same_row, is_first, first_alike, class_of, firsts, state_problem}
use Rattle.seq_theory.proofs.StatesLaws.{count_up-last, begun, begun-yes, begun-no, begun-below, class_of-begun, first_alike-is_first}
use Rattle.seq_theory.proofs.NumberingLaws.{first_alike-le, number-class, seen-more}
use Rattle.sig_matrix.specs.declared.matrix.Matrix.{Matrix}
use Rattle.sig_matrix.specs.Detection.{before_faults, state_count, state_weight, system_of, state_row, AreFourWords}
use Rattle.sig_matrix.specs.Valid.{IsValid}
use Rattle.sig_classes.specs.declared.classes.Classes.{Classes}
use Rattle.sig_classes.specs.Classes.{class_weight, AreClassesOf}
use Rattle.sig_classes.specs.Grouping.{with_weight}
use Rattle.seq_theory.proofs.ByNumberLaws.{length-by_number, get_or-by_number, by_number_more, by_number-from_items}
use Rattle.sig_classes.proofs.RowWordsLaws.{words-decide}

module _ (sys : System) where
  -- what the states of a class weigh together, of those below a number
  abbrev pub weight_below : ℕ → ℕ → ℕ
  weight_below m c = weight_of (state_problem sys) (filter (λ s. nat_eq (class_of sys s) c) (count_up 0 m))

  weight_of-append : (xs ys : List ℕ) → weight_of (state_problem sys) (xs ++ ys) ≡ weight_of (state_problem sys) xs + weight_of (state_problem sys) ys
  weight_of-append [] ys = omega arith
  weight_of-append (x ∷ xs) ys = let h = weight_of-append xs ys in omega arith

  weight_below-suc : (m c : ℕ) → weight_below (suc m) c ≡ weight_below m c + cond (nat_eq (class_of sys m) c) (sys.weight m) 0
  weight_below-suc m c =
      let z : 0 + m ≡ m = omega arith in
      ap (λ l. weight_of (state_problem sys) (filter (λ s. nat_eq (class_of sys s) c) l)) (count_up-last 0 m ∙ ap (λ k. count_up 0 m ++ k ∷ []) z)
      ∙ ap (weight_of (state_problem sys)) (filter-append (λ s. nat_eq (class_of sys s) c) (count_up 0 m) (m ∷ []))
      ∙ weight_of-append (filter (λ s. nat_eq (class_of sys s) c) (count_up 0 m)) (filter (λ s. nat_eq (class_of sys s) c) (m ∷ []))
      ∙ ap (λ w. weight_below m c + w) (last m)
    where
      last : (m : ℕ) → weight_of (state_problem sys) (filter (λ s. nat_eq (class_of sys s) c) (m ∷ [])) ≡ cond (nat_eq (class_of sys m) c) (sys.weight m) 0
      last m = elim (cases_Bool (nat_eq (class_of sys m) c)) [ inl y ↦ rw y (omega arith) | inr n ↦ rw n refl ]

  weight_below-in : (m c : ℕ) → class_of sys m ≡ c → weight_below (suc m) c ≡ weight_below m c + sys.weight m
  weight_below-in m c e = let h = weight_below-suc m c in let y = eq-eqb (class_of sys m) c e in rw y at h

  weight_below-out : (m c : ℕ) → (class_of sys m ≡ c → ⊥) → weight_below (suc m) c ≡ weight_below m c
  weight_below-out m c ne = let h = weight_below-suc m c in let n = ne_eqb (class_of sys m) c ne in let z : weight_below m c + 0 ≡ weight_below m c = omega arith in (rw n at h) ∙ z

  -- a group is numbered below those that began
  pub class_of-lt : (s m : ℕ) → m ≤ sys.states → s < m → class_of sys s < begun sys m
  class_of-lt s m le lt =
      let e = class_of-begun sys s in
      let first = first_alike-le sys s (omega arith) in
      let h = begun-below sys (first_alike sys s) m (omega arith) (first_alike-is_first sys s (omega arith)) in
      omega arith

  weight_below-none : (m c : ℕ) → m ≤ sys.states → begun sys m ≤ c → weight_below m c ≡ 0
  weight_below-none m c le past = go m (omega arith)
    where
      go : (k : ℕ) → k ≤ m → weight_below k c ≡ 0
      go zero l = refl
      go (suc k) l =
          let below = class_of-lt k m le (omega arith) in
          weight_below-out k c (λ e. let h : ⊥ = omega arith in h) ∙ go k (omega arith)

  weight_below-le : (most m c : ℕ) → ((s : ℕ) → s < sys.states → sys.weight s ≤ most) → m ≤ sys.states → weight_below m c ≤ most * m
  weight_below-le most zero c light le = omega arith
  weight_below-le most (suc m) c light le =
      let h = weight_below-le most m c light (omega arith) in
      let w = light m (omega arith) in
      elim (cases_eq (class_of sys m) c) [
        | inl e ↦ (let f = weight_below-in m c e in omega arith)
        | inr ne ↦ (let f = weight_below-out m c ne in omega arith)
      ]

  pub begun-le : (m : ℕ) → begun sys m ≤ m
  begun-le zero = omega arith
  begun-le (suc m) =
      let h = begun-le m in
      elim (cases_Bool (is_first sys m)) [
        | inl first ↦ (let f = begun-yes sys m first in omega arith)
        | inr later ↦ (let f = begun-no sys m later in omega arith)
      ]

  -- the weights are the sums over the states below a number
  pub record Summed (m : ℕ) (weights : List ℕ) : Type 0 where
    pub count : length weights ≡ begun sys m
    pub sums : (c : ℕ) → c < length weights → get_or weights c 0 ≡ weight_below m c

  -- the first state of its row begins a new class
  sums-new : (m : ℕ) → m < sys.states → is_first sys m ≡ true → (weights : List ℕ) → Summed m weights → class_of sys m ≡ length weights → Summed (suc m) (weights ++ sys.weight m ∷ [])
  sums-new m lt first weights before last =
      let long = length_push weights (sys.weight m) in
      let more = begun-yes sys m first in
      let count = before.count in
      record {
        count = omega arith;
        sums = λ c l. elim (cases_lt c (length weights)) [
          | inl below ↦
              get_or_append_left weights (sys.weight m ∷ []) 0 c below ∙ before.sums c below
              ∙ sym (weight_below-out m c (λ e. let h : ⊥ = omega arith in h))
          | inr ge ↦
              (let here : length weights ≡ c = omega arith in
              let none = weight_below-none m c (omega arith) (omega arith) in
              let sum = weight_below-in m c (last ∙ here) in
              let pushed = get_or_push weights (sys.weight m) 0 c here in
              omega arith)
        ];
      }

  -- another state of a row goes to the class of the first
  sums-again : (m : ℕ) → m < sys.states → is_first sys m ≡ false → (weights : List ℕ) → Summed m weights → class_of sys m < length weights → Summed (suc m) (set weights (class_of sys m) (get_or weights (class_of sys m) 0 + sys.weight m))
  sums-again m lt later weights before there =
      let sum = get_or weights (class_of sys m) 0 + sys.weight m in
      let long = length-set weights (class_of sys m) sum in
      let same = begun-no sys m later in
      let count = before.count in
      record {
        count = omega arith;
        sums = λ c l. elim (cases_eq (class_of sys m) c) [
          | inl e ↦
              subst (λ k. get_or (set weights (class_of sys m) sum) k 0 ≡ weight_below (suc m) k) e
              (get_or-set_same weights (class_of sys m) sum 0 there ∙ ap (λ w. w + sys.weight m) (before.sums (class_of sys m) there)
              ∙ sym (weight_below-in m (class_of sys m) refl))
          | inr ne ↦
              get_or-set_other weights (class_of sys m) c sum 0 (λ e. ne (sym e)) ∙ before.sums c (omega arith)
              ∙ sym (weight_below-out m c ne)
        ];
      }

  pub sums-more : (m : ℕ) → m < sys.states → (weights : List ℕ) → Summed m weights → Summed (suc m) (with_weight weights (class_of sys m) (sys.weight m))
  sums-more m lt weights before =
      let e = class_of-begun sys m in
      let count = before.count in
      elim (cases_Bool (is_first sys m)) [
        | inl first ↦
            (let here : begun sys (first_alike sys m) ≡ begun sys m = ap (begun sys) (eqb-true (first_alike sys m) m first) in
            let last : class_of sys m ≡ length weights = omega arith in
            let test = le-ltb (class_of sys m) (length weights) (omega arith) in
            rw test (sums-new m lt first weights before last))
        | inr later ↦
            (let ne = eqb-false (first_alike sys m) m later in
            let le = first_alike-le sys m lt in
            let lower : first_alike sys m < m = omega arith in
            let below = begun-below sys (first_alike sys m) m lower (first_alike-is_first sys m lt) in
            let there : class_of sys m < length weights = omega arith in
            let test = lt-ltb (class_of sys m) (length weights) there in
            rw test (sums-again m lt later weights before there))
      ]

-- the states below a number are in their classes
pub record Grouped (matrix : Matrix) (m : ℕ) (keys : List (List ℕ)) (classes weights : List ℕ) : Type 0 where
  pub words : (s : ℕ) → s < m → AreFourWords (state_row matrix s)
  pub known : keys ≡ map (state_row matrix) (filter (is_first (system_of matrix)) (count_up 0 m))
  pub groups : classes ≡ map (class_of (system_of matrix)) (count_up 0 m)
  pub summed : Summed (system_of matrix) m weights

module _ (matrix : Matrix) (valid : IsValid matrix) where
  abbrev sys : System
  sys = system_of matrix

  pub light : (s : ℕ) → s < state_count matrix → state_weight matrix s ≤ 1000000
  light s lt = elim (cases_Bool (nat_lt s (before_faults matrix))) [
    | inl healthy ↦ rw healthy valid.good
    | inr faulty ↦ (let after = ltb-false s (before_faults matrix) faulty in rw faulty (valid.weights (s - before_faults matrix) (omega arith)).1)
  ]

  module _ (m : ℕ) (lt : m < state_count matrix) (keys : List (List ℕ)) (classes weights : List ℕ) (before : Grouped matrix m keys classes weights) where
    pub grouped-few : length keys < 2 ^ 32
    grouped-few =
        let long = ap length before.known ∙ length-map (filter (is_first sys) (count_up 0 m)) (state_row matrix) in
        let le = begun-le sys m in
        let most = valid.many in
        omega arith

    pub grouped-room : (c weight : ℕ) → weight ≡ state_weight matrix m → get_or weights c 0 + weight < 2 ^ 64
    grouped-room c weight e =
        let most = valid.many in
        let own = light m lt in
        let sum = weight_below-le sys 1000000 m c light (omega arith) in
        elim (cases_lt c (length weights)) [
          | inl below ↦ (let h = before.summed.sums c below in omega arith)
          | inr past ↦ (let h = get_or_past weights c 0 past in omega arith)
        ]

    module _ (here : AreFourWords (state_row matrix m)) where
      words_upto : (s : ℕ) → s < suc m → AreFourWords (state_row matrix s)
      words_upto s l = elim (cases_lt s m) [
        | inl below ↦ before.words s below
        | inr ge ↦ (let e : m ≡ s = omega arith in subst (λ k. AreFourWords (state_row matrix k)) e here)
      ]

      decides : (a b : ℕ) → a < suc m → b < suc m → bytes_eq (state_row matrix a) (state_row matrix b) ≡ same_row sys a b
      decides a b la lb = words-decide matrix valid a b (omega arith) (omega arith) (words_upto a la) (words_upto b lb)

      place : position_or_len (bytes_eq (state_row matrix m)) keys ≡ class_of sys m
      place = ap (position_or_len (bytes_eq (state_row matrix m))) before.known ∙ number-class sys bytes_eq (state_row matrix) (suc m) lt decides m (omega arith)

      seen_more : insert_key bytes_eq keys (state_row matrix m) ≡ map (state_row matrix) (filter (is_first sys) (count_up 0 (suc m)))
      seen_more = ap (λ l. insert_key bytes_eq l (state_row matrix m)) before.known ∙ seen-more sys bytes_eq (state_row matrix) (suc m) lt decides m (omega arith)

      next : Grouped matrix (suc m) (insert_key bytes_eq keys (state_row matrix m)) (classes ++ position_or_len (bytes_eq (state_row matrix m)) keys ∷ []) (with_weight weights (position_or_len (bytes_eq (state_row matrix m)) keys) (state_weight matrix m))
      next = record {
        words = words_upto;
        known = seen_more;
        groups = ap (λ k. classes ++ k ∷ []) place ∙ ap (λ l. l ++ class_of sys m ∷ []) before.groups ∙ by_number_more (class_of sys) m;
        summed = subst (λ k. Summed sys (suc m) (with_weight weights k (state_weight matrix m))) (sym place) (sums-more sys m lt weights before.summed);
      }

    pub grouped-more : (row : List ℕ) (weight : ℕ) (keys' : List (List ℕ)) (classes' weights' : List ℕ) → row ≡ state_row matrix m → weight ≡ state_weight matrix m → AreFourWords row
        → keys' ≡ insert_key bytes_eq keys row → classes' ≡ classes ++ position_or_len (bytes_eq row) keys ∷ [] → weights' ≡ with_weight weights (position_or_len (bytes_eq row) keys) weight
        → Grouped matrix (m + 1) keys' classes' weights'
    grouped-more row weight keys' classes' weights' is_row is_weight four is_keys is_classes is_weights =
        let one : suc m ≡ m + 1 = omega arith in
        let keys-are = is_keys ∙ ap (insert_key bytes_eq keys) is_row in
        let classes-are = is_classes ∙ ap (λ r. classes ++ position_or_len (bytes_eq r) keys ∷ []) is_row in
        let weights-are = is_weights ∙ ap (λ r. with_weight weights (position_or_len (bytes_eq r) keys) weight) is_row ∙ ap (with_weight weights (position_or_len (bytes_eq (state_row matrix m)) keys)) is_weight in
        subst (λ n. Grouped matrix n keys' classes' weights') one
        (subst (λ k. Grouped matrix (suc m) k classes' weights') (sym keys-are)
        (subst (λ l. Grouped matrix (suc m) (insert_key bytes_eq keys (state_row matrix m)) l weights') (sym classes-are)
        (subst (λ w. Grouped matrix (suc m) (insert_key bytes_eq keys (state_row matrix m)) (classes ++ position_or_len (bytes_eq (state_row matrix m)) keys ∷ []) w) (sym weights-are)
        (next (subst AreFourWords is_row four)))))

  -- once all states are in their classes
  pub grouped-all : GroupsHold → (m : ℕ) → m ≡ state_count matrix → (keys : List (List ℕ)) (classes : Classes) → Grouped matrix m keys classes.class_of.items classes.weights.items → AreClassesOf sys classes
  grouped-all law m e keys classes whole = record {
    groups = groups;
    at = at;
    equal = λ a b la lb.
        let stands = law sys a b la lb in
        (λ same. stands.groups.0 (sym (at a la) ∙ same ∙ at b lb), λ rows. at a la ∙ stands.groups.1 rows ∙ sym (at b lb));
    states = ap length groups ∙ length-by_number (class_of sys) sys.states;
    as_many = whole.summed.count ∙ ap (begun sys) e;
    few = begun-le sys sys.states;
    sums =
        (let count = whole.summed.count ∙ ap (begun sys) e in
        by_number-from_items (class_weight sys) (length (firsts sys)) 0 classes.weights.items count
        (λ c lt. whole.summed.sums c (omega arith) ∙ ap (λ n. weight_below sys n c) e));
  }
    where
      groups : classes.class_of.items ≡ map (class_of sys) (count_up 0 sys.states)
      groups = whole.groups ∙ ap (λ n. map (class_of sys) (count_up 0 n)) e

      at : (s : ℕ) → s < sys.states → get_or classes.class_of.items s 0 ≡ class_of sys s
      at s lt = ap (λ l. get_or l s 0) groups ∙ get_or-by_number (class_of sys) sys.states s 0 lt
