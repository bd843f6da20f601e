-- The sums of Huffman's rule come out upwards: each is of two numbers that are at least those of the one before it. So
-- weights and sums are two queues. The floor is the larger of the last two numbers that were taken: all that is left is
-- at least the floor, and each sum at most twice the floor.
use Rattle.std.proofs.Common.{◌≡◌, ℕ, zero, suc, ◌+◌, ◌≤◌, List, [], ◌∷◌, ◌++◌, length, get_or, refl, sym, ap, ◌∙◌, arith, inl, inr, subst}
use Rattle.seq_theory.specs.Huffman.{place_in, merging}
use Rattle.seq_theory.proofs.UpwardLaws.{AtMost, IsUp, AtMost-lower, place-least, place-high, place-low, place-swap, IsUp-place, AtMost-place}
use Rattle.seq_theory.proofs.HuffmanLaws.{length-place}
use Rattle.std.proofs.lemmas.Bool.{cases_order}
use Rattle.seq_huff.specs.Queues.{TakesLeast}

-- the numbers of the first list, each in its place in the second
abbrev pub placed : List ℕ → List ℕ → List ℕ
placed [] ys = ys
placed (x ∷ xs) ys = place_in x (placed xs ys)

pub length-placed : (xs ys : List ℕ) → length (placed xs ys) ≡ length xs + length ys
length-placed [] ys = omega arith
length-placed (x ∷ xs) ys = omega (arith, length-place x (placed xs ys), length-placed xs ys)

AtMost-placed : (m : ℕ) (xs ys : List ℕ) → AtMost m xs → IsUp xs → AtMost m ys → AtMost m (placed xs ys)
AtMost-placed m [] ys h up k = k
AtMost-placed m (x ∷ xs) ys h up k = AtMost-place m x (placed xs ys) h (AtMost-placed m xs ys (AtMost-lower m x xs h up.0) up.1 k)

placed-place : (xs : List ℕ) (n : ℕ) (ys : List ℕ) → placed xs (place_in n ys) ≡ place_in n (placed xs ys)
placed-place [] n ys = refl
placed-place (x ∷ xs) n ys = ap (place_in x) (placed-place xs n ys) ∙ place-swap x n (placed xs ys)

-- all numbers of the list are at most this one
abbrev pub Under : ℕ → List ℕ → Type 0
Under m [] = Unit {0}
Under m (x ∷ xs) = (x ≤ m) × Under m xs

Under-raise : (m n : ℕ) (xs : List ℕ) → m ≤ n → Under m xs → Under n xs
Under-raise m n [] le h = tt
Under-raise m n (x ∷ xs) le h = (omega arith, Under-raise m n xs le h.1)

Under-more : (m n : ℕ) (xs : List ℕ) → Under m xs → n ≤ m → Under m (xs ++ n ∷ [])
Under-more m n [] h le = (le, tt)
Under-more m n (x ∷ xs) h le = (h.0, Under-more m n xs h.1 le)

-- a number that is at least all goes to the end
pub place-end : (n : ℕ) (xs : List ℕ) → IsUp xs → Under n xs → place_in n xs ≡ xs ++ n ∷ []
place-end n [] up h = refl
place-end n (x ∷ xs) up h =
    let rest = place-end n xs up.1 h.1 in
    elim (cases_order x n) [
      | inr (inl lt) ↦ place-high n x xs lt ∙ ap (λ l. x ∷ l) rest
      | inl e ↦
          (let low : n ≤ x = omega arith in
          let all : AtMost n xs = AtMost-lower n x xs low up.0 in
          place-low n x xs low ∙ ap (λ k. n ∷ k ∷ xs) e ∙ ap (λ k. k ∷ n ∷ xs) (sym e) ∙ ap (λ l. x ∷ l) (sym (place-least n xs all) ∙ rest))
      | inr (inr gt) ↦ absurd (let le = h.0 in let bad : ⊥ = omega arith in bad)
    ]

pulled_front : (n : ℕ) (xs ys : List ℕ) → IsUp (n ∷ xs) → AtMost n ys → placed (n ∷ xs) ys ≡ n ∷ placed xs ys
pulled_front n xs ys up h = place-least n (placed xs ys) (AtMost-placed n xs ys up.0 up.1 h)

pulled_queue : (n : ℕ) (xs ys : List ℕ) → IsUp xs → IsUp (n ∷ ys) → AtMost n xs → placed xs (n ∷ ys) ≡ n ∷ placed xs ys
pulled_queue n xs ys upx up h =
    ap (placed xs) (sym (place-least n ys up.0)) ∙ placed-place xs n ys ∙ place-least n (placed xs ys) (AtMost-placed n xs ys h upx up.0)

-- what holds of the two queues between two merges
pub record Queues (floor : ℕ) (front queue : List ℕ) : Type 0 where
  pub front_up : IsUp front
  pub queue_up : IsUp queue
  pub front_ge : AtMost floor front
  pub queue_ge : AtMost floor queue
  pub under : Under (floor + floor) queue

-- one number is taken
pub record Taken (floor n : ℕ) (front queue front1 queue1 : List ℕ) : Type 0 where
  pub le : floor ≤ n
  pub rest : Queues n front1 queue1
  pub first : placed front queue ≡ n ∷ placed front1 queue1

take_front : (floor n : ℕ) (front queue front1 queue1 : List ℕ) → Queues floor front queue → front ≡ n ∷ front1 → queue ≡ queue1 → AtMost n queue → Taken floor n front queue front1 queue1
take_front floor n front queue front1 queue1 q e1 e2 h =
    let up : IsUp (n ∷ front1) = subst IsUp e1 q.front_up in
    let ge : AtMost floor (n ∷ front1) = subst (AtMost floor) e1 q.front_ge in
    let h1 : AtMost n queue1 = subst (AtMost n) e2 h in
    let u1 : Under (floor + floor) queue1 = subst (Under (floor + floor)) e2 q.under in
    record {
      le = ge;
      rest = record { front_up = up.1; queue_up = subst IsUp e2 q.queue_up; front_ge = up.0; queue_ge = h1; under = Under-raise (floor + floor) (n + n) queue1 (omega arith) u1 };
      first = ap (λ l. placed l queue) e1 ∙ ap (placed (n ∷ front1)) e2 ∙ pulled_front n front1 queue1 up h1;
    }

take_queue : (floor n : ℕ) (front queue front1 queue1 : List ℕ) → Queues floor front queue → queue ≡ n ∷ queue1 → front ≡ front1 → AtMost n front → Taken floor n front queue front1 queue1
take_queue floor n front queue front1 queue1 q e1 e2 h =
    let up : IsUp (n ∷ queue1) = subst IsUp e1 q.queue_up in
    let ge : AtMost floor (n ∷ queue1) = subst (AtMost floor) e1 q.queue_ge in
    let h1 : AtMost n front1 = subst (AtMost n) e2 h in
    let fu : IsUp front1 = subst IsUp e2 q.front_up in
    let u : Under (floor + floor) (n ∷ queue1) = subst (Under (floor + floor)) e1 q.under in
    record {
      le = ge;
      rest = record { front_up = fu; queue_up = up.1; front_ge = h1; queue_ge = up.0; under = Under-raise (floor + floor) (n + n) queue1 (omega arith) u.1 };
      first = ap (λ l. placed l queue) e2 ∙ ap (placed front1) e1 ∙ pulled_queue n front1 queue1 fu up h1;
    }

AtMost-first : (n : ℕ) (xs : List ℕ) → n ≤ get_or xs 0 n → AtMost n xs
AtMost-first n [] h = tt
AtMost-first n (x ∷ xs) h = h

pub taken : (floor n : ℕ) (front queue front1 queue1 : List ℕ) → Queues floor front queue → TakesLeast front queue n front1 queue1 → Taken floor n front queue front1 queue1
taken floor n front queue front1 queue1 q p = elim p [
  | inl (e1, e2, h) ↦ take_front floor n front queue front1 queue1 q e1 e2 (AtMost-first n queue h)
  | inr (e1, e2, h) ↦ take_queue floor n front queue front1 queue1 q e1 e2 (AtMost-first n front h)
]

under_left : (m n : ℕ) (front queue front1 queue1 : List ℕ) → TakesLeast front queue n front1 queue1 → Under m queue → Under m queue1
under_left m n front queue front1 queue1 p u = elim p [
  | inl (e1, e2, h) ↦ subst (Under m) e2 u
  | inr (e1, e2, h) ↦ (let v : Under m (n ∷ queue1) = subst (Under m) e1 u in v.1)
]

-- two are taken and their sum goes to the end of the sums
pub record Merged (k floor x y : ℕ) (front queue front2 queue2 : List ℕ) : Type 0 where
  pub rest : Queues y front2 (queue2 ++ (x + y) ∷ [])
  pub cost : merging (suc k) (placed front queue) ≡ (x + y) + merging k (placed front2 (queue2 ++ (x + y) ∷ []))

pub merged : (k floor x y : ℕ) (front queue front1 queue1 front2 queue2 : List ℕ) → Queues floor front queue → TakesLeast front queue x front1 queue1 → TakesLeast front1 queue1 y front2 queue2 → Merged k floor x y front queue front2 queue2
merged k floor x y front queue front1 queue1 front2 queue2 q p1 p2 =
    let t1 = taken floor x front queue front1 queue1 q p1 in
    let t2 = taken x y front1 queue1 front2 queue2 t1.rest p2 in
    let le : x ≤ y = t2.le in
    let u : Under (x + x) queue2 = under_left (x + x) y front1 queue1 front2 queue2 p2 t1.rest.under in
    let end : place_in (x + y) queue2 ≡ queue2 ++ (x + y) ∷ [] = place-end (x + y) queue2 t2.rest.queue_up (Under-raise (x + x) (x + y) queue2 (omega arith) u) in
    record {
      rest = record {
        front_up = t2.rest.front_up;
        queue_up = subst IsUp end (IsUp-place (x + y) queue2 t2.rest.queue_up);
        front_ge = t2.rest.front_ge;
        queue_ge = subst (AtMost y) end (AtMost-place y (x + y) queue2 (omega arith) t2.rest.queue_ge);
        under = Under-more (y + y) (x + y) queue2 (Under-raise (x + x) (y + y) queue2 (omega arith) u) (omega arith);
      };
      cost = ap (merging (suc k)) (t1.first ∙ ap (λ l. x ∷ l) t2.first)
          ∙ ap (λ l. (x + y) + merging k l) (sym (placed-place front2 (x + y) queue2) ∙ ap (placed front2) end);
    }

AtMost-zero : (xs : List ℕ) → AtMost 0 xs
AtMost-zero [] = tt
AtMost-zero (x ∷ xs) = omega arith

pub placed-none : (xs : List ℕ) → IsUp xs → placed xs [] ≡ xs
placed-none [] up = refl
placed-none (x ∷ xs) up = ap (place_in x) (placed-none xs up.1) ∙ place-least x xs up.0

pub queues_begin : (xs : List ℕ) → IsUp xs → Queues 0 xs []
queues_begin xs up = record { front_up = up; queue_up = tt; front_ge = AtMost-zero xs; queue_ge = tt; under = tt }

-- one that is left costs nothing
pub merging-one : (k : ℕ) (xs : List ℕ) → length xs ≤ 1 → merging k xs ≡ 0
merging-one zero xs h = refl
merging-one (suc k) [] h = refl
merging-one (suc k) (x ∷ []) h = refl
merging-one (suc k) (x ∷ y ∷ xs) h = absurd (let bad : ⊥ = omega arith in bad)
