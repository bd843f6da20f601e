-- What makes a bound lower: a lower cost of Huffman's, and costs that are no dearer place by place and at least as many. One
-- more cost in its place makes a list in upward order cheaper place by place, so the costs of the more tests serve for the
-- fewer.
use Rattle.std.proofs.Common.{◌-◌, ◌≡◌, ◌≢◌, ℕ, zero, suc, ◌+◌, ◌*◌, ◌/◌, ◌%◌, ◌<◌, ◌≤◌, List, [], ◌∷◌, length, refl, ap, ◌∙◌, arith, inl, inr}
use Rattle.std.specs.Prelude.{Bool, true, false, filter, map, nat_eq, ◌||◌}
use Rattle.std.proofs.Math.Nat.{mul-le-mul_left, mul-le-mul_right, div-add-mod}
use Rattle.std.proofs.lemmas.Bool.{cases_Bool, cases_lt, cases_order, le-leb, lt-leb, eq-eqb, ne_eqb}
use Rattle.seq_theory.specs.Problem.{count_up}
use Rattle.seq_theory.specs.Huffman.{place_in, upward}
use Rattle.seq_theory.specs.Bound.{sum_first, next_after, bound_from}
use Rattle.seq_theory.proofs.UpwardLaws.{IsUp, IsUp-upward, place-swap}

-- the first list is at least as long, and no dearer place by place
abbrev pub Cheaper : List ℕ → List ℕ → Type 0
Cheaper cheap [] = Unit {0}
Cheaper [] (c ∷ costs) = ⊥
Cheaper (a ∷ cheap) (c ∷ costs) = (a ≤ c) × Cheaper cheap costs

pub sum_first-suc : (q : ℕ) (xs : List ℕ) → sum_first (suc q) xs ≡ sum_first q xs + next_after q xs
sum_first-suc zero [] = refl
sum_first-suc zero (x ∷ xs) = omega arith
sum_first-suc (suc q) [] = refl
sum_first-suc (suc q) (x ∷ xs) = let h = sum_first-suc q xs in omega arith

sum_first-more : (q k : ℕ) (xs : List ℕ) → sum_first q xs ≤ sum_first (q + k) xs
sum_first-more q zero xs = let e : q + 0 ≡ q = omega arith in let f = ap (λ n. sum_first n xs) e in omega arith
sum_first-more q (suc k) xs =
    let e : q + suc k ≡ suc (q + k) = omega arith in
    let f = ap (λ n. sum_first n xs) e in
    let s = sum_first-suc (q + k) xs in
    let h = sum_first-more q k xs in
    omega arith

-- over plain numbers
far : (w r q1 n s t : ℕ) → r ≤ w → q1 ≡ s + n → q1 ≤ t → w * s + r * n ≤ w * t
far w r q1 n s t h e le = let a = mul-le-mul_right n h in let b = mul-le-mul_left w le in let c = ap (λ x. w * x) e in omega arith

raises_to : (w low high : ℕ) (costs : List ℕ) (q q2 r r2 : ℕ) → q ≡ low / w → q2 ≡ high / w → r ≡ low % w → r2 ≡ high % w → 1 ≤ w → low ≤ high → w * sum_first q costs + r * next_after q costs ≤ w * sum_first q2 costs + r2 * next_after q2 costs
raises_to w low high costs q q2 r r2 eq eq2 er er2 h le =
    let d1 = div-add-mod low w in
    let d2 = div-add-mod high w in
    let m1 : r < w = small low w r h er in
    let m2 : r2 < w = small high w r2 h er2 in
    let a1 : w * q + r ≡ low = ap (λ x. w * x + r) eq ∙ ap (λ x. w * (low / w) + x) er ∙ d1 in
    let a2 : w * q2 + r2 ≡ high = ap (λ x. w * x + r2) eq2 ∙ ap (λ x. w * (high / w) + x) er2 ∙ d2 in
    elim (cases_order q q2) [
      | inl e ↦
          (let p = ap (λ x. w * x) e in
          let rr : r ≤ r2 = omega arith in
          let f = mul-le-mul_right (next_after q costs) rr in
          let g = ap (λ x. w * sum_first x costs + r2 * next_after x costs) e in
          omega arith)
      | inr (inl lt) ↦
          (let k : ℕ = q2 - suc q in
          let e : suc q + k ≡ q2 = omega arith in
          let s = sum_first-more (suc q) k costs in
          let t = ap (λ x. sum_first x costs) e in
          let f = far w r (sum_first (suc q) costs) (next_after q costs) (sum_first q costs) (sum_first q2 costs) (omega arith) (sum_first-suc q costs) (omega arith) in
          omega arith)
      | inr (inr gt) ↦
          (let p : w * suc q2 ≤ w * q = mul-le-mul_left w gt in
          absurd (let bad : ⊥ = omega arith in bad))
    ]
  where
    small : (n w r : ℕ) → 1 ≤ w → r ≡ n % w → r < w
    small n w r h e = omega arith

-- a bound from a lower cost of Huffman's is no higher
pub bound_from-raises : (weight low huffman : ℕ) (costs : List ℕ) → 1 ≤ weight → low ≤ huffman → bound_from weight low costs ≤ bound_from weight huffman costs
bound_from-raises weight low huffman costs h le = raises_to weight low huffman costs (low / weight) (huffman / weight) (low % weight) (huffman % weight) refl refl refl refl h le

pub cheaper-sum : (q : ℕ) (cheap costs : List ℕ) → q ≤ length costs → Cheaper cheap costs → sum_first q cheap ≤ sum_first q costs
cheaper-sum zero cheap costs h c = omega arith
cheaper-sum (suc q) cheap [] h c = absurd (let bad : ⊥ = omega arith in bad)
cheaper-sum (suc q) [] (x ∷ costs) h c = absurd c
cheaper-sum (suc q) (a ∷ cheap) (x ∷ costs) h c = let f = cheaper-sum q cheap costs (omega arith) c.1 in let g = c.0 in omega arith

pub cheaper-length : (cheap costs : List ℕ) → Cheaper cheap costs → length costs ≤ length cheap
cheaper-length cheap [] c = omega arith
cheaper-length [] (x ∷ costs) c = absurd c
cheaper-length (a ∷ cheap) (x ∷ costs) c = let f = cheaper-length cheap costs c.1 in omega arith

-- the costs moved on by one place are dearer
cheaper-tail : (c : ℕ) (cheap costs : List ℕ) → IsUp (c ∷ costs) → Cheaper cheap (c ∷ costs) → Cheaper cheap costs
cheaper-tail c cheap [] up h = tt
cheaper-tail c [] (d ∷ costs) up h = absurd h
cheaper-tail c (a ∷ cheap) (d ∷ costs) up h = ((let x = h.0 in let y = up.0 in omega arith), cheaper-tail d cheap costs up.1 h.1)

-- one more in the first list
cheaper-more : (x : ℕ) (cheap costs : List ℕ) → IsUp costs → Cheaper cheap costs → Cheaper (place_in x cheap) costs
cheaper-more x cheap [] up h = tt
cheaper-more x [] (c ∷ costs) up h = absurd h
cheaper-more x (a ∷ cheap) (c ∷ costs) up h = elim (cases_lt a x) [
  | inl lt ↦ rw (lt-leb x a lt) (h.0, cheaper-more x cheap costs up.1 h.1)
  | inr ge ↦ rw (le-leb x a ge) ((let y = h.0 in omega arith), cheaper-tail c (a ∷ cheap) costs up h)
]

-- a number that is at most the first of the second list, placed in the first list
cheaper-first : (x c : ℕ) (cheap costs : List ℕ) → x ≤ c → IsUp (c ∷ costs) → Cheaper cheap costs → Cheaper (place_in x cheap) (c ∷ costs)
cheaper-first x c [] [] le up h = (le, tt)
cheaper-first x c [] (d ∷ costs) le up h = absurd h
cheaper-first x c (a ∷ cheap) [] le up h = elim (cases_lt a x) [
  | inl lt ↦ rw (lt-leb x a lt) ((omega arith), tt)
  | inr ge ↦ rw (le-leb x a ge) (le, tt)
]
cheaper-first x c (a ∷ cheap) (d ∷ costs) le up h = elim (cases_lt a x) [
  | inl lt ↦ rw (lt-leb x a lt) ((omega arith), cheaper-first x d cheap costs (let y = up.0 in omega arith) up.1 h.1)
  | inr ge ↦ rw (le-leb x a ge) (le, h)
]

-- the same number placed in both
cheaper-both : (x : ℕ) (cheap costs : List ℕ) → IsUp costs → Cheaper cheap costs → Cheaper (place_in x cheap) (place_in x costs)
cheaper-both x [] [] up h = ((omega arith), tt)
cheaper-both x [] (c ∷ costs) up h = absurd h
cheaper-both x (a ∷ cheap) [] up h = elim (cases_lt a x) [
  | inl lt ↦ rw (lt-leb x a lt) ((omega arith), tt)
  | inr ge ↦ rw (le-leb x a ge) ((omega arith), tt)
]
cheaper-both x (a ∷ cheap) (c ∷ costs) up h = elim (cases_lt c x) [
  | inl lt ↦ (let la : a < x = (let y = h.0 in omega arith) in rw (lt-leb x a la, lt-leb x c lt) (h.0, cheaper-both x cheap costs up.1 h.1))
  | inr ge ↦ elim (cases_lt a x) [
    | inl la ↦ rw (lt-leb x a la, le-leb x c ge) ((omega arith), cheaper-first x c cheap costs ge up h.1)
    | inr ga ↦ rw (le-leb x a ga, le-leb x c ge) ((omega arith), h)
  ]
]

-- where each test that passes one condition passes the other too, the costs of the more are cheaper
pub more-cheaper : (cost : ℕ → ℕ) (more some : ℕ → Bool) (tests : List ℕ) → ((t : ℕ) → some t ≡ true → more t ≡ true) → Cheaper (upward (map cost (filter more tests))) (upward (map cost (filter some tests)))
more-cheaper cost more some [] weaker = tt
more-cheaper cost more some (t ∷ tests) weaker =
    let rest = more-cheaper cost more some tests weaker in
    let up = IsUp-upward (map cost (filter some tests)) in
    elim (cases_Bool (some t)) [
      | inl y ↦ (let z : more t ≡ true = weaker t y in rw (y, z) (cheaper-both (cost t) (upward (map cost (filter more tests))) (upward (map cost (filter some tests))) up rest))
      | inr n ↦ elim (cases_Bool (more t)) [
        | inl z ↦ rw (n, z) (cheaper-more (cost t) (upward (map cost (filter more tests))) (upward (map cost (filter some tests))) up rest)
        | inr m ↦ rw (n, m) rest
      ]
    ]

-- one more test
or-false : (b : Bool) → (b || false) ≡ b
or-false true = refl
or-false false = refl

others : (h : ℕ → Bool) (t from n : ℕ) → t < from → filter (λ u. h u || nat_eq u t) (count_up from n) ≡ filter h (count_up from n)
others h t from zero lt = refl
others h t from (suc n) lt =
    let ne : from ≢ t = (λ e. let bad : ⊥ = omega arith in bad) in
    let rest = others h t (suc from) n (omega arith) in
    elim (cases_Bool (h from)) [
      | inl y ↦ rw y (ap (λ l. from ∷ l) rest)
      | inr out' ↦ rw (out', ne_eqb from t ne) rest
    ]

pub with-test : (cost : ℕ → ℕ) (h : ℕ → Bool) (t from n : ℕ) → h t ≡ false → from ≤ t → t < from + n → upward (map cost (filter (λ u. h u || nat_eq u t) (count_up from n))) ≡ place_in (cost t) (upward (map cost (filter h (count_up from n))))
with-test cost h t from zero out le lt = absurd (let bad : ⊥ = omega arith in bad)
with-test cost h t from (suc n) out le lt = elim (cases_lt from t) [
  | inl below ↦
      (let ne : from ≢ t = (λ e. let bad : ⊥ = omega arith in bad) in
      let rest = with-test cost h t (suc from) n out below (omega arith) in
      elim (cases_Bool (h from)) [
        | inl y ↦ rw y (ap (place_in (cost from)) rest ∙ place-swap (cost from) (cost t) (upward (map cost (filter h (count_up (suc from) n)))))
        | inr out' ↦ rw (out', ne_eqb from t ne) rest
      ])
  | inr ge ↦
      (let is : from ≡ t = omega arith in
      let from-out : h from ≡ false = ap h is ∙ out in
      rw (from-out, eq-eqb from t is) (ap (λ l. place_in (cost from) (upward (map cost l))) (others h t (suc from) n (omega arith)) ∙ ap (λ u. place_in (cost u) (upward (map cost (filter h (count_up (suc from) n))))) is))
]

-- one more of the least is at most a number of the list and as many of the least of the others
pub sum_first-place : (d n : ℕ) (xs : List ℕ) → sum_first (suc d) (place_in n xs) ≤ n + sum_first d xs
sum_first-place zero n [] = omega arith
sum_first-place (suc d) n [] = omega arith
sum_first-place zero n (x ∷ xs) = elim (cases_lt x n) [
  | inr ge ↦ rw (le-leb n x ge) (omega arith)
  | inl lt ↦ rw (lt-leb n x lt) (omega arith)
]
sum_first-place (suc d) n (x ∷ xs) = elim (cases_lt x n) [
  | inr ge ↦ rw (le-leb n x ge) (omega arith)
  | inl lt ↦ rw (lt-leb n x lt) (omega (arith, sum_first-place d n xs))
]
