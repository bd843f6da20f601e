-- Numbering the states' keys in the order of first occurrence gives the ambiguity groups.
--
-- When state m comes, the map holds the keys of the first states before m, in order. So the place of its key is the
-- number of groups that begin before its first state, which is its group. The keys need to tell the rows apart only for
-- the states that came, those below a number.
use Rattle.std.proofs.Common.{◌≡◌, ◌≢◌, ℕ, zero, suc, ◌+◌, ◌<◌, ◌≤◌, List, [], ◌∷◌, ◌++◌, length, map, refl, sym, ap, ◌∙◌, arith, inl, inr}
use Rattle.std.specs.Prelude.{Bool, true, false, cond, filter, nat_eq, ◌||◌}
use Rattle.std.specs.List.{list_any, position_or_len}
use Rattle.std.proofs.lemmas.Bool.{cases_Bool, cases_lt, true≢false, eqb-true, eq-eqb, ne_eqb}
use Rattle.std.proofs.lemmas.List.{length-map}
use Rattle.std.proofs.lemmas.List.Folds.{position_or_len_push}
use Rattle.std.proofs.lemmas.List.Elements.{filter-append}
use Rattle.seq_theory.specs.Problem.{count_up}
use Rattle.seq_theory.specs.Graph.{first_where}
use Rattle.seq_theory.specs.States.{System, row, same_row, first_alike, is_first, class_of}
use Rattle.seq_theory.specs.Numbering.{numbers_after}
use Rattle.seq_theory.proofs.StatesLaws.{count_up-last, begun, begun-yes, begun-no, begun-below, row-from_same, same-from_row, first_alike-same, first_alike-row, first_alike-is_first, class_of-begun}

-- the first that passes is at most each that passes
first_where-le : (f : ℕ → Bool) (x from n : ℕ) → from ≤ x → x < from + n → f x ≡ true → first_where f (count_up from n) ≤ x
first_where-le f x from zero le lt e = absurd (let h : ⊥ = omega arith in h)
first_where-le f x from (suc n) le lt e = elim (cases_Bool (f from)) [
  | inl y ↦ rw y le
  | inr no_pass ↦ elim (cases_lt from x) [
    | inl below ↦ rw no_pass (first_where-le f x (suc from) n below (omega arith) e)
    | inr ge ↦ (let same : x ≡ from = omega arith in absurd (true≢false (sym e ∙ ap f same ∙ no_pass)))
  ]
]

list_any-push : {K : Type 0} (p : K → Bool) (xs : List K) (x : K) → list_any p (xs ++ x ∷ []) ≡ (list_any p xs || p x)
list_any-push p [] x = elim (cases_Bool (p x)) [ inl y ↦ rw y refl | inr n ↦ rw n refl ]
list_any-push p (y ∷ ys) x = elim (cases_Bool (p y)) [ inl t ↦ rw t refl | inr n ↦ rw n (list_any-push p ys x) ]

map-push : {K : Type 0} (key : ℕ → K) (xs : List ℕ) (x : ℕ) → map key (xs ++ x ∷ []) ≡ map key xs ++ key x ∷ []
map-push key [] x = refl
map-push key (y ∷ ys) x = ap (λ l. key y ∷ l) (map-push key ys x)

pub first_alike-le : (sys : System) (s : ℕ) → s < sys.states → first_alike sys s ≤ s
first_alike-le sys s lt = first_where-le (λ r. same_row sys r s) s 0 sys.states (omega arith) (omega arith) (same-from_row sys s s refl)

module _ (sys : System) {K : Type 0} (eq : K → K → Bool) (key : ℕ → K) (upto : ℕ) (there : upto ≤ sys.states) (decides : (a b : ℕ) → a < upto → b < upto → eq (key a) (key b) ≡ same_row sys a b) where
  -- the first states below a number, and their keys
  abbrev pub firsts_below : ℕ → List ℕ
  firsts_below m = filter (is_first sys) (count_up 0 m)

  abbrev pub seen : ℕ → List K
  seen m = map key (firsts_below m)

  seen-yes : (m : ℕ) → is_first sys m ≡ true → seen (suc m) ≡ seen m ++ key m ∷ []
  seen-yes m y =
      let z : 0 + m ≡ m = omega arith in
      ap (λ l. map key (filter (is_first sys) l)) (count_up-last 0 m)
      ∙ ap (map key) (filter-append (is_first sys) (count_up 0 m) ((0 + m) ∷ []))
      ∙ ap (λ k. map key (firsts_below m ++ filter (is_first sys) (k ∷ []))) z
      ∙ ap (λ l. map key (firsts_below m ++ l)) (rw y refl)
      ∙ map-push key (firsts_below m) m

  seen-no : (m : ℕ) → is_first sys m ≡ false → seen (suc m) ≡ seen m
  seen-no m n =
      let z : 0 + m ≡ m = omega arith in
      ap (λ l. map key (filter (is_first sys) l)) (count_up-last 0 m)
      ∙ ap (map key) (filter-append (is_first sys) (count_up 0 m) ((0 + m) ∷ []))
      ∙ ap (λ k. map key (firsts_below m ++ filter (is_first sys) (k ∷ []))) z
      ∙ ap (λ l. map key (firsts_below m ++ l)) (rw n refl)
      ∙ ap (map key) (append-none (firsts_below m))
    where
      append-none : (xs : List ℕ) → xs ++ [] ≡ xs
      append-none [] = refl
      append-none (x ∷ xs) = ap (λ l. x ∷ l) (append-none xs)

  length-seen : (m : ℕ) → length (seen m) ≡ begun sys m
  length-seen m = length-map (firsts_below m) key

  -- where a state's key stands among the first states below a number
  record Stands (s m : ℕ) : Type 0 where
    before : m ≤ first_alike sys s → (position_or_len (eq (key s)) (seen m) ≡ begun sys m) × (list_any (eq (key s)) (seen m) ≡ false)
    after : first_alike sys s < m → (position_or_len (eq (key s)) (seen m) ≡ begun sys (first_alike sys s)) × (list_any (eq (key s)) (seen m) ≡ true)

  -- a first state has the key of s exactly where it is the first state of s
  meets : (s m : ℕ) → s < upto → m < upto → is_first sys m ≡ true → m ≡ first_alike sys s → eq (key s) (key m) ≡ true
  meets s m ls lm y e = decides s m ls lm ∙ same-from_row sys s m (sym (first_alike-row sys s (omega arith)) ∙ ap (row sys) (sym e))

  misses : (s m : ℕ) → s < upto → m < upto → is_first sys m ≡ true → m ≢ first_alike sys s → eq (key s) (key m) ≡ false
  misses s m ls lm y ne = elim (cases_Bool (eq (key s) (key m))) [
    | inr n ↦ n
    | inl t ↦ absurd (ne (sym (eqb-true (first_alike sys m) m y) ∙ sym (first_alike-same sys s m (row-from_same sys s m (sym (decides s m ls lm) ∙ t)))))
  ]

  pushed : (s m : ℕ) → is_first sys m ≡ true → (b : Bool) → eq (key s) (key m) ≡ b
      → (position_or_len (eq (key s)) (seen (suc m)) ≡ cond (nat_eq (position_or_len (eq (key s)) (seen m)) (length (seen m))) (length (seen m) + cond b 0 1) (position_or_len (eq (key s)) (seen m)))
      × (list_any (eq (key s)) (seen (suc m)) ≡ (list_any (eq (key s)) (seen m) || b))
  pushed s m y b e = (
    ap (position_or_len (eq (key s))) (seen-yes m y) ∙ position_or_len_push (eq (key s)) (seen m) (key m)
        ∙ ap (λ c. cond (nat_eq (position_or_len (eq (key s)) (seen m)) (length (seen m))) (length (seen m) + cond c 0 1) (position_or_len (eq (key s)) (seen m))) e,
    ap (list_any (eq (key s))) (seen-yes m y) ∙ list_any-push (eq (key s)) (seen m) (key m) ∙ ap (λ c. list_any (eq (key s)) (seen m) || c) e,
  )

  at_end : (n len : ℕ) (b : Bool) → n ≡ len → cond (nat_eq n len) (len + cond b 0 1) n ≡ len + cond b 0 1
  at_end n len b e = rw (eq-eqb n len e) refl

  inside : (n len : ℕ) (b : Bool) → n ≢ len → cond (nat_eq n len) (len + cond b 0 1) n ≡ n
  inside n len b ne = rw (ne_eqb n len ne) refl

  stands : (s : ℕ) → s < upto → (m : ℕ) → m ≤ upto → Stands s m
  stands s ls zero le = record { before = λ l. (refl, refl); after = λ l. absurd (let h : ⊥ = omega arith in h) }
  stands s ls (suc m) le =
      let h = stands s ls m (omega arith) in
      let f = first_alike sys s in
      let long = length-seen m in
      elim (cases_Bool (is_first sys m)) [
        | inr n ↦
            (let e = seen-no m n in
            let b = begun-no sys m n in
            record {
              before = λ l. (let r = h.before (omega arith) in (ap (position_or_len (eq (key s))) e ∙ r.0 ∙ sym b, ap (list_any (eq (key s))) e ∙ r.1));
              after = λ l. elim (cases_lt f m) [
                | inl below ↦ (let r = h.after below in (ap (position_or_len (eq (key s))) e ∙ r.0, ap (list_any (eq (key s))) e ∙ r.1))
                | inr ge ↦ (let same : f ≡ m = omega arith in absurd (true≢false (sym (first_alike-is_first sys s (omega arith)) ∙ ap (is_first sys) same ∙ n)))
              ];
            })
        | inl y ↦
            (let b = begun-yes sys m y in
            record {
              before = λ l.
                  (let r = h.before (omega arith) in
                  let p = pushed s m y false (misses s m ls (omega arith) y (λ x. let g : ⊥ = omega arith in g)) in
                  let q = at_end (position_or_len (eq (key s)) (seen m)) (length (seen m)) false (r.0 ∙ sym long) in
                  let c : length (seen m) + 1 ≡ begun sys (suc m) = omega arith in
                  (p.0 ∙ q ∙ c, p.1 ∙ ap (λ t. t || false) r.1));
              after = λ l. elim (cases_lt f m) [
                | inl below ↦
                    (let r = h.after below in
                    let lower = begun-below sys f m below (first_alike-is_first sys s (omega arith)) in
                    let p = pushed s m y false (misses s m ls (omega arith) y (λ x. let g : ⊥ = omega arith in g)) in
                    let q = inside (position_or_len (eq (key s)) (seen m)) (length (seen m)) false (λ x. let at = r.0 in let g : ⊥ = omega arith in g) in
                    (p.0 ∙ q ∙ r.0, p.1 ∙ ap (λ t. t || false) r.1))
                | inr ge ↦
                    (let same : m ≡ f = omega arith in
                    let r = h.before (omega arith) in
                    let p = pushed s m y true (meets s m ls (omega arith) y same) in
                    let q = at_end (position_or_len (eq (key s)) (seen m)) (length (seen m)) true (r.0 ∙ sym long) in
                    let c : length (seen m) + 0 ≡ begun sys m = omega arith in
                    (p.0 ∙ q ∙ c ∙ ap (begun sys) same, p.1 ∙ ap (λ t. t || true) r.1))
              ];
            })
      ]

  -- the place of a state's key is its group
  pub number-class : (m : ℕ) → m < upto → position_or_len (eq (key m)) (seen m) ≡ class_of sys m
  number-class m lt =
      let h = stands m lt m (omega arith) in
      let le = first_alike-le sys m (omega arith) in
      elim (cases_lt (first_alike sys m) m) [
        | inl below ↦ (let r = h.after below in r.0 ∙ sym (class_of-begun sys m))
        | inr ge ↦ (let same : first_alike sys m ≡ m = omega arith in let r = h.before ge in r.0 ∙ sym (ap (begun sys) same) ∙ sym (class_of-begun sys m))
      ]

  -- and then the keys of one more state are seen
  pub seen-more : (m : ℕ) → m < upto → cond (list_any (eq (key m)) (seen m)) (seen m) (seen m ++ key m ∷ []) ≡ seen (suc m)
  seen-more m lt =
      let h = stands m lt m (omega arith) in
      let le = first_alike-le sys m (omega arith) in
      elim (cases_lt (first_alike sys m) m) [
        | inl below ↦
            (let r = h.after below in
            let no_first : is_first sys m ≡ false = ne_eqb (first_alike sys m) m (λ x. let g : ⊥ = omega arith in g) in
            rw r.1 (sym (seen-no m no_first)))
        | inr ge ↦
            (let same : first_alike sys m ≡ m = omega arith in
            let r = h.before ge in
            rw r.1 (sym (seen-yes m (eq-eqb (first_alike sys m) m same))))
      ]

  pub numbers-classes : (m n : ℕ) → m + n ≡ upto → numbers_after eq (seen m) (map key (count_up m n)) ≡ map (class_of sys) (count_up m n)
  numbers-classes m zero e = refl
  numbers-classes m (suc n) e =
      let lt : m < upto = omega arith in
      let rest = map key (count_up (suc m) n) in
      ap (λ k. k ∷ numbers_after eq (cond (list_any (eq (key m)) (seen m)) (seen m) (seen m ++ key m ∷ [])) rest) (number-class m lt)
      ∙ ap (λ l. class_of sys m ∷ numbers_after eq l rest) (seen-more m lt)
      ∙ ap (λ l. class_of sys m ∷ l) (numbers-classes (suc m) n (omega arith))
