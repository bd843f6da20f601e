-- Groups as eight lanes: what an operation on all words at once says of their classes. A sum or an "or" over the lanes is taken
-- from the left, and each word that it takes in stands for the next 64 classes.
use Rattle.std.proofs.Common.{◌≡◌, ℕ, suc, ◌+◌, ◌*◌, ◌^◌, ◌<◌, ◌≤◌, List, [], ◌∷◌, length, get_or, map, refl, sym, ap, ◌∙◌, arith, inl, inr, subst, w64, Fits}
use Rattle.std.specs.Prelude.{Bool, not, ◌&&◌, ◌||◌, filter, nat_lt, bit_and, bit_or, bit_xor, count_ones, nat_eq}
use Rattle.std.specs.List.{list_any}
use Rattle.std.specs.Simd.Lanes.{zip2, fold_l, Steps}
use Rattle.std.proofs.lemmas.Simd.{get_or-zip2, length-zip2, map-map, fold-sum, sum_fits}
use Rattle.std.proofs.lemmas.Bool.{cases_lt, lt-ltb, le-ltb, eq-eqb, ne_eqb}
use Rattle.std.proofs.lemmas.Nat.{le_or_l}
use Rattle.std.specs.Int.Bits.{or_zero_l}
use Rattle.seq_inst.specs.declared.group.Group.{Group}
use Rattle.seq_inst.specs.Members.{has_class, members, members_below, IsWords}
use Rattle.seq_inst.proofs.MembersLaws.{members-common, members-without, members_below-zero, length-members_below}
use Rattle.seq_inst.proofs.WordLaws.{IsWordOf, length-members_word, any-members_word, word-shared, word-lacked}

-- what both groups have, and what the first has alone, in all words at once
abbrev pub shared_words : List ℕ → List ℕ → List ℕ
shared_words xs ys = zip2 bit_and xs ys

abbrev pub lacked_words : List ℕ → List ℕ → List ℕ
lacked_words xs ys = zip2 bit_xor xs (zip2 bit_and xs ys)

shared-at : (xs ys : List ℕ) (k : ℕ) → length xs ≡ 8 → length ys ≡ 8 → k < 8 → get_or (shared_words xs ys) k 0 ≡ bit_and (get_or xs k 0) (get_or ys k 0)
shared-at xs ys k lx ly lt = get_or-zip2 bit_and xs ys k 0 0 0 (omega arith) (omega arith)

lacked-at : (xs ys : List ℕ) (k : ℕ) → length xs ≡ 8 → length ys ≡ 8 → k < 8 → get_or (lacked_words xs ys) k 0 ≡ bit_xor (get_or xs k 0) (bit_and (get_or xs k 0) (get_or ys k 0))
lacked-at xs ys k lx ly lt =
    let both = length-zip2 bit_and xs ys (lx ∙ sym ly) in
    get_or-zip2 bit_xor xs (shared_words xs ys) k 0 0 0 (omega arith) (omega arith) ∙ ap (bit_xor (get_or xs k 0)) (shared-at xs ys k lx ly lt)

pub members-shared : (r a b : Group) → length a.0 ≡ 8 → length b.0 ≡ 8 → r.0 ≡ shared_words a.0 b.0 → members r ≡ filter (has_class b) (members a)
members-shared r a b la lb is = members-common r a b (λ k lt. ap (λ ws. get_or ws k 0) is ∙ shared-at a.0 b.0 k la lb lt)

pub members-lacked : (r a b : Group) → length a.0 ≡ 8 → length b.0 ≡ 8 → r.0 ≡ lacked_words a.0 b.0 → members r ≡ filter (λ c. not (has_class b c)) (members a)
members-lacked r a b la lb is = members-without r a b (λ k lt. ap (λ ws. get_or ws k 0) is ∙ lacked-at a.0 b.0 k la lb lt)

-- the ones of the words from word i on, counted on from s
count-from : (g : Group) (i s : ℕ) (ws : List ℕ) → s ≡ length (members_below g (64 * i)) → ((k : ℕ) → k < length ws → (get_or g.0 (i + k) 0 ≡ get_or ws k 0) × (get_or ws k 0 < 2 ^ 64))
    → fold_l (λ m n. m + n) s (map count_ones ws) ≡ length (members_below g (64 * (i + length ws)))
count-from g i s [] is same = is ∙ ap (λ n. length (members_below g (64 * n))) (let e : i ≡ i + 0 = omega arith in e)
count-from g i s (w ∷ ws) is same =
    let first = same 0 (omega arith) in
    let at : get_or g.0 i 0 ≡ w = ap (λ n. get_or g.0 n 0) (let e : i ≡ i + 0 = omega arith in e) ∙ first.0 in
    let more = length-members_word g i (subst (λ n. n < 2 ^ 64) (sym at) first.1) in
    count-from g (i + 1) (s + count_ones w) ws (let ones = ap count_ones at in omega arith)
    (λ k lt. let next = same (suc k) (omega arith) in (ap (λ n. get_or g.0 n 0) (let e : i + 1 + k ≡ i + suc k = omega arith in e) ∙ next.0, next.1))
    ∙ ap (λ n. length (members_below g (64 * n))) (let e : i + 1 + length ws ≡ i + suc (length ws) = omega arith in e)

count-lanes : (g : Group) → IsWords g → fold_l (λ m n. m + n) 0 (map count_ones g.0) ≡ length (members g)
count-lanes g words =
    let e = words.eight in
    count-from g 0 0 g.0 (sym (ap length (members_below-zero g))) (λ k lt. (ap (λ n. get_or g.0 n 0) (let z : 0 + k ≡ k = omega arith in z), words.each k (omega arith)))
    ∙ ap (λ n. length (members_below g (64 * (0 + n)))) e

-- the ones of each lane, as numbers of 64 bits
abbrev pub ones_of : List ℕ → List ℕ
ones_of ws = map (λ n. n) (map count_ones ws)

-- their sum is the count of the classes, and fits a word, as each sum on the way does
pub record IsCount (g : Group) (ones : List ℕ) : Type 0 where
  pub count : fold_l (λ m n. m + n) 0 ones ≡ length (members g)
  pub small : fold_l (λ m n. m + n) 0 ones ≤ 512
  pub steps : Steps (λ m n. Fits w64 (m + n)) (λ m n. m + n) 0 ones

pub is-count : (g : Group) (ws : List ℕ) → IsWords g → ws ≡ g.0 → IsCount g (ones_of ws)
is-count g ws words is =
    let count : fold_l (λ m n. m + n) 0 (ones_of ws) ≡ length (members g) = ap (fold_l (λ m n. m + n) 0) (map-map (λ n. n) count_ones ws ∙ ap (map count_ones) is) ∙ count-lanes g words in
    let few = length-members_below g 512 in
    let sum = fold-sum 0 (ones_of ws) in
    record {
      count = count;
      small = omega arith;
      steps = sum_fits w64 0 (ones_of ws) (omega arith);
    }

or-some : (a b : ℕ) → nat_lt 0 (bit_or a b) ≡ (nat_lt 0 a || nat_lt 0 b)
or-some a b = elim (cases_lt 0 a) [
  | inl some ↦ (let le = le_or_l a b in rw (lt-ltb 0 a some) (lt-ltb 0 (bit_or a b) (omega arith)))
  | inr none ↦ (let z : a ≡ 0 = omega arith in rw (z, or_zero_l b) refl)
]

-- whether a class of the group passes, in the words from word i on, looked for on from what was found before
any-from : (a : Group) (g : ℕ → Bool) (i s : ℕ) (ws : List ℕ) → list_any g (members_below a (64 * i)) ≡ nat_lt 0 s → ((k : ℕ) → k < length ws → IsWordOf (λ c. has_class a c && g c) (64 * (i + k)) 64 (get_or ws k 0))
    → list_any g (members_below a (64 * (i + length ws))) ≡ nat_lt 0 (fold_l bit_or s ws)
any-from a g i s [] is words = ap (λ n. list_any g (members_below a (64 * n))) (let e : i + 0 ≡ i = omega arith in e) ∙ is
any-from a g i s (w ∷ ws) is words =
    let first : IsWordOf (λ c. has_class a c && g c) (64 * i) 64 w = subst (λ n. IsWordOf (λ c. has_class a c && g c) (64 * n) 64 w) (let e : i + 0 ≡ i = omega arith in e) (words 0 (omega arith)) in
    ap (λ n. list_any g (members_below a (64 * n))) (let e : i + suc (length ws) ≡ i + 1 + length ws = omega arith in e)
    ∙ any-from a g (i + 1) (bit_or s w) ws (any-members_word a g i w first ∙ ap (λ b. b || nat_lt 0 w) is ∙ sym (or-some s w))
    (λ k lt. subst (λ n. IsWordOf (λ c. has_class a c && g c) (64 * n) 64 (get_or ws k 0)) (let e : i + suc k ≡ i + 1 + k = omega arith in e) (words (suc k) (omega arith)))

any-lanes : (a : Group) (g : ℕ → Bool) (ws : List ℕ) → length ws ≡ 8 → ((k : ℕ) → k < 8 → IsWordOf (λ c. has_class a c && g c) (64 * k) 64 (get_or ws k 0)) → list_any g (members a) ≡ nat_lt 0 (fold_l bit_or 0 ws)
any-lanes a g ws eight words =
    ap (λ n. list_any g (members_below a (64 * (0 + n)))) (sym eight)
    ∙ any-from a g 0 0 ws (ap (list_any g) (members_below-zero a)) (λ k lt. subst (λ n. IsWordOf (λ c. has_class a c && g c) (64 * n) 64 (get_or ws k 0)) (let z : k ≡ 0 + k = omega arith in z) (words k (omega arith)))

some-bit : (n : ℕ) → nat_lt 0 n ≡ not (nat_eq n 0)
some-bit n = elim (cases_lt 0 n) [
  | inl some ↦ lt-ltb 0 n some ∙ sym (ap not (ne_eqb n 0 (λ z. let bad : ⊥ = omega arith in bad)))
  | inr none ↦ le-ltb 0 n none ∙ sym (ap not (eq-eqb n 0 (omega arith)))
]

pub any-shared : (a b : Group) → IsWords a → IsWords b → list_any (has_class b) (members a) ≡ not (nat_eq (fold_l bit_or 0 (shared_words a.0 b.0)) 0)
any-shared a b wa wb = any-lanes a (has_class b) (shared_words a.0 b.0) (length-zip2 bit_and a.0 b.0 (wa.eight ∙ sym wb.eight) ∙ wa.eight)
    (λ k lt. subst (IsWordOf (λ c. has_class a c && has_class b c) (64 * k) 64) (sym (shared-at a.0 b.0 k wa.eight wb.eight lt)) (word-shared a b k (wa.each k lt) (wb.each k lt)))
    ∙ some-bit (fold_l bit_or 0 (shared_words a.0 b.0))

pub any-lacked : (a b : Group) → IsWords a → IsWords b → list_any (λ c. not (has_class b c)) (members a) ≡ not (nat_eq (fold_l bit_or 0 (lacked_words a.0 b.0)) 0)
any-lacked a b wa wb =
    let both = length-zip2 bit_and a.0 b.0 (wa.eight ∙ sym wb.eight) in
    any-lanes a (λ c. not (has_class b c)) (lacked_words a.0 b.0) (length-zip2 bit_xor a.0 (shared_words a.0 b.0) (omega arith) ∙ wa.eight)
    (λ k lt. subst (IsWordOf (λ c. has_class a c && not (has_class b c)) (64 * k) 64) (sym (lacked-at a.0 b.0 k wa.eight wb.eight lt)) (word-lacked a b k (wa.each k lt) (wb.each k lt)))
    ∙ some-bit (fold_l bit_or 0 (lacked_words a.0 b.0))
