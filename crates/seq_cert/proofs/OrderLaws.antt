-- There is one list in order: it is the one that a stable sort leaves. Two lists in order whose items tie in the same ways
-- are equal, item by item from the front, since an item that comes before all of the other list would tie with none of it.
use Rattle.std.proofs.Common.{◌≡◌, ℕ, suc, ◌<◌, ◌≤◌, List, [], ◌∷◌, length, map, get_or, refl, sym, ap, subst, ◌∙◌, arith, inl, inr, filter, true, false}
use Rattle.std.specs.Prelude.{Bool, cond, ◌&&◌, ◌||◌, not, nat_eq, nat_lt}
use Rattle.std.specs.Cmp.{IsStrictWeakOrder}
use Rattle.std.specs.List.{All, AllByRecursion}
use Rattle.std.specs.List.Sorted.{IsSortedBy, IsStableBy, ties}
use Rattle.std.proofs.lemmas.Bool.{cases_Bool, false≢true, and_parts}
use Rattle.std.proofs.lemmas.Bool.Decides.{nat_tests}
use Rattle.std.proofs.lemmas.List.{length-map}
use Rattle.std.proofs.lemmas.List.Elements.{All-from_recursion, recursion_from_All}
use Rattle.std.proofs.lemmas.List.Sorted.{sorted_far}
use Rattle.seq_inst.specs.declared.outcome.Row.{Row}
use Rattle.seq_cert.specs.declared.report.GroupLine.{GroupLine}
use Rattle.seq_cert.specs.OutcomeReport.{row_line}
use Rattle.seq_cert.specs.Order.{is_before, placed, ordered, in_order}

module _ {X : Type 0} (lt : X → X → Bool) where
  length-placed : (x : X) (ys : List X) → length (placed lt x ys) ≡ suc (length ys)
  length-placed x [] = refl
  length-placed x (y ∷ ys) = elim (cases_Bool (lt y x)) [
    | inl later ↦ rw later (ap suc (length-placed x ys))
    | inr here ↦ rw here refl
  ]

  length-ordered : (xs : List X) → length (ordered lt xs) ≡ length xs
  length-ordered [] = refl
  length-ordered (x ∷ xs) = length-placed x (ordered lt xs) ∙ ap suc (length-ordered xs)

  -- none of the list comes before the item
  abbrev NoneBefore : X → List X → Type 0
  NoneBefore x [] = Unit {0}
  NoneBefore x (y ∷ ys) = (lt y x ≡ false) × NoneBefore x ys

  -- the list is in order
  abbrev IsUp : List X → Type 0
  IsUp [] = Unit {0}
  IsUp (x ∷ xs) = NoneBefore x xs × IsUp xs

  none_from : (x : X) (xs : List X) → ((j : ℕ) → j < length xs → lt (get_or xs j x) x ≡ false) → NoneBefore x xs
  none_from x [] h = tt
  none_from x (y ∷ ys) h = (h 0 (omega arith), none_from x ys (λ j l. h (suc j) (omega arith)))

  up_from : (xs : List X) → ((i j : ℕ) (d : X) → i ≤ j → j < length xs → lt (get_or xs j d) (get_or xs i d) ≡ false) → IsUp xs
  up_from [] h = tt
  up_from (x ∷ xs) h = (none_from x xs (λ j l. h 0 (suc j) x (omega arith) (omega arith)), up_from xs (λ i j d le l. h (suc i) (suc j) d (omega arith) (omega arith)))

  module _ (o : IsStrictWeakOrder lt) where
    none_through : (m l : X) (ys : List X) → lt m l ≡ false → NoneBefore m ys → NoneBefore l ys
    none_through m l [] e n = tt
    none_through m l (y ∷ ys) e n = (o.chain y m l n.0 e, none_through m l ys e n.1)

    none_placed : (m l : X) (ys : List X) → lt l m ≡ false → NoneBefore m ys → NoneBefore m (placed lt l ys)
    none_placed m l [] e n = (e, tt)
    none_placed m l (y ∷ ys) e n = elim (cases_Bool (lt y l)) [
      | inl later ↦ rw later (n.0, none_placed m l ys e n.1)
      | inr here ↦ rw here (e, n)
    ]

    up_placed : (l : X) (ys : List X) → IsUp ys → IsUp (placed lt l ys)
    up_placed l [] u = (tt, tt)
    up_placed l (y ∷ ys) u = elim (cases_Bool (lt y l)) [
      | inl later ↦ rw later (none_placed y l ys (o.one_way y l later) u.0, up_placed l ys u.1)
      | inr here ↦ rw here ((here, none_through y l ys here u.0), u)
    ]

    up_ordered : (xs : List X) → IsUp (ordered lt xs)
    up_ordered [] = tt
    up_ordered (x ∷ xs) = up_placed x (ordered lt xs) (up_ordered xs)

    -- what a tie says
    not_true : (b : Bool) → not b ≡ true → b ≡ false
    not_true true e = sym e
    not_true false e = refl

    tie_parts : (z x : X) → ties lt z x ≡ true → (lt z x ≡ false) × (lt x z ≡ false)
    tie_parts z x e = let s = and_parts (not (lt z x)) (not (lt x z)) e in (not_true _ s.0, not_true _ s.1)

    tie_from : (z x : X) → lt z x ≡ false → lt x z ≡ false → ties lt z x ≡ true
    tie_from z x a b = rw (a, b) refl

    self_tie : (x : X) → ties lt x x ≡ true
    self_tie x = elim (cases_Bool (lt x x)) [
      | inl e ↦ (let f = o.one_way x x e in absurd (false≢true (sym f ∙ e)))
      | inr e ↦ tie_from x x e e
    ]

    no_tie : (z x : X) → lt z x ≡ true → ties lt z x ≡ false
    no_tie z x e = rw e refl

    -- an item that comes before the least of a list ties with none of it
    none_ties : (y x : X) (xs : List X) → lt y x ≡ true → NoneBefore x xs → filter (ties lt y) xs ≡ []
    none_ties y x [] e n = refl
    none_ties y x (w ∷ ws) e n = elim (cases_Bool (lt y w)) [
      | inl first ↦ rw (no_tie y w first) (none_ties y x ws e n.1)
      | inr not_first ↦ absurd (false≢true (sym (o.chain y w x not_first n.0) ∙ e))
    ]

    ties_placed : (z l : X) (ys : List X) → filter (ties lt z) (placed lt l ys) ≡ filter (ties lt z) (l ∷ ys)
    ties_placed z l [] = refl
    ties_placed z l (y ∷ ys) = elim (cases_Bool (lt y l)) [
      | inr here ↦ rw here refl
      | inl later ↦ rw (later, ties_placed z l ys) (elim (cases_Bool (ties lt z l)) [
        | inr other ↦ rw other refl
        | inl tied ↦ elim (cases_Bool (ties lt z y)) [
          | inr other ↦ rw (other, tied) refl
          | inl both ↦ absurd (false≢true (sym (o.chain y z l (tie_parts z y both).1 (tie_parts z l tied).0) ∙ later))
        ]
      ])
    ]

    ties_ordered : (z : X) (xs : List X) → filter (ties lt z) (ordered lt xs) ≡ filter (ties lt z) xs
    ties_ordered z [] = refl
    ties_ordered z (x ∷ xs) = ties_placed z x (ordered lt xs) ∙ ap (λ l. cond (ties lt z x) (x ∷ l) l) (ties_ordered z xs)

    tail_is : (z x y : X) (xs ys : List X) → x ≡ y → filter (ties lt z) (x ∷ xs) ≡ filter (ties lt z) (y ∷ ys) → filter (ties lt z) xs ≡ filter (ties lt z) ys
    tail_is z x y xs ys same e = elim (cases_Bool (ties lt z x)) [
      | inl tied ↦
          (let tied_y : ties lt z y ≡ true = subst (λ w. ties lt z w ≡ true) same tied in
          let f : x ∷ filter (ties lt z) xs ≡ y ∷ filter (ties lt z) ys = sym (ap (λ b. cond b (x ∷ filter (ties lt z) xs) (filter (ties lt z) xs)) tied) ∙ e ∙ ap (λ b. cond b (y ∷ filter (ties lt z) ys) (filter (ties lt z) ys)) tied_y in
          cc)
      | inr other ↦
          (let other_y : ties lt z y ≡ false = subst (λ w. ties lt z w ≡ false) same other in
          sym (ap (λ b. cond b (x ∷ filter (ties lt z) xs) (filter (ties lt z) xs)) other) ∙ e ∙ ap (λ b. cond b (y ∷ filter (ties lt z) ys) (filter (ties lt z) ys)) other_y)
    ]

    some_ties : (x : X) (xs : List X) → filter (ties lt x) (x ∷ xs) ≡ x ∷ filter (ties lt x) xs
    some_ties x xs = ap (λ b. cond b (x ∷ filter (ties lt x) xs) (filter (ties lt x) xs)) (self_tie x)

    one_list : (xs ys : List X) → IsUp xs → IsUp ys → ((z : X) → filter (ties lt z) xs ≡ filter (ties lt z) ys) → xs ≡ ys
    one_list [] [] u v same = refl
    one_list [] (y ∷ ys) u v same = absurd (let bad : [] ≡ y ∷ filter (ties lt y) ys = same y ∙ some_ties y ys in let no : ⊥ = cc in no)
    one_list (x ∷ xs) [] u v same = absurd (let bad : [] ≡ x ∷ filter (ties lt x) xs = sym (same x) ∙ some_ties x xs in let no : ⊥ = cc in no)
    one_list (x ∷ xs) (y ∷ ys) u v same = elim (cases_Bool (lt y x)) [
      | inl y_first ↦ absurd
          (let none : filter (ties lt y) (x ∷ xs) ≡ [] = ap (λ b. cond b (x ∷ filter (ties lt y) xs) (filter (ties lt y) xs)) (no_tie y x y_first) ∙ none_ties y x xs y_first u.0 in
          let bad : [] ≡ y ∷ filter (ties lt y) ys = sym none ∙ same y ∙ some_ties y ys in
          let no : ⊥ = cc in no)
      | inr y_not ↦ elim (cases_Bool (lt x y)) [
        | inl x_first ↦ absurd
            (let none : filter (ties lt x) (y ∷ ys) ≡ [] = ap (λ b. cond b (y ∷ filter (ties lt x) ys) (filter (ties lt x) ys)) (no_tie x y x_first) ∙ none_ties x y ys x_first v.0 in
            let bad : [] ≡ x ∷ filter (ties lt x) xs = sym none ∙ sym (same x) ∙ some_ties x xs in
            let no : ⊥ = cc in no)
        | inr x_not ↦
            (let f : x ∷ filter (ties lt x) xs ≡ y ∷ filter (ties lt x) ys = sym (some_ties x xs) ∙ same x ∙ ap (λ b. cond b (y ∷ filter (ties lt x) ys) (filter (ties lt x) ys)) (tie_from x y x_not y_not) in
            let head : x ≡ y = cc in
            let rest : xs ≡ ys = one_list xs ys u.1 v.1 (λ z. tail_is z x y xs ys head (same z)) in
            ap (λ w. w ∷ xs) head ∙ ap (λ l. y ∷ l) rest)
      ]
    ]

    -- what a stable sort leaves
    pub sorted_is_ordered : (old new : List X) → IsSortedBy lt new → IsStableBy lt old new → new ≡ ordered lt old
    sorted_is_ordered old new sorted stable = one_list new (ordered lt old) (up_from new (λ i j d le l. sorted_far lt o new sorted i j d le l)) (up_ordered old) (λ z. stable z ∙ sym (ties_ordered z old))

-- there are as many group lines as rows
pub groups_counted : (rows : List Row) → length (in_order (map row_line rows)) ≡ length rows
unfolding in_order
groups_counted rows = length-ordered is_before (map row_line rows) ∙ length-map rows row_line

one_way : (a m b n : ℕ) → nat_lt a b || (nat_eq a b && nat_lt m n) ≡ true → nat_lt b a || (nat_eq b a && nat_lt n m) ≡ false
one_way a m b n e = grind (arith, nat_tests)

chain : (a m b n c k : ℕ) → nat_lt a b || (nat_eq a b && nat_lt m n) ≡ false → nat_lt b c || (nat_eq b c && nat_lt n k) ≡ false → nat_lt a c || (nat_eq a c && nat_lt m k) ≡ false
chain a m b n c k e f = grind (arith, nat_tests)

-- the order of group lines is one
pub before_orders : IsStrictWeakOrder is_before
before_orders = record { one_way = λ x y. one_way x.size _ y.size _; chain = λ x y z. chain x.size _ y.size _ z.size _ }

-- the lines that a stable sort leaves are in order
pub sorted_lines : (old new : List GroupLine) → IsSortedBy is_before new → IsStableBy is_before old new → new ≡ in_order old
unfolding in_order
sorted_lines old new sorted stable = sorted_is_ordered is_before before_orders old new sorted stable

-- what holds of all group lines holds of them in order
all-placed : (P : GroupLine → Type 0) (x : GroupLine) (xs : List GroupLine) → P x → AllByRecursion P xs → AllByRecursion P (placed is_before x xs)
all-placed P x [] here all = (here, tt)
all-placed P x (y ∷ more) here all = elim (cases_Bool (is_before y x)) [
  | inl before ↦ rw before (all.0, all-placed P x more here all.1)
  | inr after ↦ rw after (here, all)
]

all-ordered : (P : GroupLine → Type 0) (xs : List GroupLine) → AllByRecursion P xs → AllByRecursion P (ordered is_before xs)
all-ordered P [] all = tt
all-ordered P (x ∷ more) all = all-placed P x (ordered is_before more) all.0 (all-ordered P more all.1)

pub all-in_order : (P : GroupLine → Type 0) (xs : List GroupLine) → All P xs → All P (in_order xs)
unfolding in_order
all-in_order P xs all = All-from_recursion P (ordered is_before xs) (all-ordered P xs (recursion_from_All P xs all))
