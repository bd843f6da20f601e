-- Common signals, and the tests that are taken.
use Rattle.std.proofs.Common.{◌≡◌, ◌≢◌, ℕ, zero, suc, ◌+◌, ◌<◌, ◌^◌, List, [], ◌∷◌, ◌++◌, map, take, length, get_or, refl, sym, ap, ◌∙◌, arith, subst, inl, inr, add-one, w64}
use Rattle.std.specs.Prelude.{Bool, true, false, IsTrue, ◌↔◌, MatchBool, not, bit_and, nat_eq}
use Rattle.std.specs.List.{AllZip}
use Rattle.std.proofs.Math.Seq.{take-suc}
use Rattle.std.proofs.lemmas.Bool.{cases_lt, true≢false, false≢true, eqb-true, eq-eqb, ne_eqb}
use Rattle.std.proofs.lemmas.List.{map-append}
use Rattle.std.proofs.lemmas.Nat.Bits.{bit_at_and, bit_at_above, bit_at-zero, bit_at-lt, bit_at-trailing_zeros}
use Rattle.std.proofs.lemmas.Nat.{and_le_l}
use Rattle.std.specs.Int.{bit_at, trailing_zeros}
use Rattle.sig_types.specs.Sets.{has_bit}
use Rattle.sig_flat.specs.declared.flat.Flat.{Flat}
use Rattle.sig_flat.specs.declared.flat.Fault.{Fault}
use Rattle.sig_flat.specs.declared.flat.FlatTest.{FlatTest}
use Rattle.sig_lines.specs.declared.labels.TestLabel.{TestLabel}
use Rattle.sig_reach.specs.Paths.{HasSignalPath, HasFreePath}
use Rattle.sig_matrix.specs.declared.matrix.FaultRow.{FaultRow}
use Rattle.sig_matrix.specs.Detection.{Detects, SeesSignal, IsRowOf, IsLabelOf, test_at, no_fault}

-- a signal in a word of 64 bits is below 64
pub signal-small : (word s : ℕ) → word < 2 ^ 64 → has_bit word s ≡ true → s < 64
signal-small word s fits has = elim (cases_lt s 64) [
  | inl lt ↦ lt
  | inr ge ↦ absurd (true≢false (sym has ∙ ap (λ n. nat_eq n 1) (bit_at_above word 64 s fits ge)))
]

-- a signal is common to two words exactly where it is in both
pub common-first : (a b s : ℕ) → has_bit (bit_and a b) s ≡ true → has_bit a s ≡ true
common-first a b s h =
    let e = bit_at_and a b s in
    let one = eqb-true (bit_at (bit_and a b) s) 1 h in
    let small = bit_at-lt a s in
    eq-eqb (bit_at a s) 1 (omega arith)

pub common-second : (a b s : ℕ) → has_bit (bit_and a b) s ≡ true → has_bit b s ≡ true
common-second a b s h =
    let e = bit_at_and a b s in
    let one = eqb-true (bit_at (bit_and a b) s) 1 h in
    let small = bit_at-lt b s in
    eq-eqb (bit_at b s) 1 (omega arith)

pub common-both : (a b s : ℕ) → has_bit a s ≡ true → has_bit b s ≡ true → has_bit (bit_and a b) s ≡ true
common-both a b s h k =
    let e = bit_at_and a b s in
    let one = eqb-true (bit_at a s) 1 h in
    let two = eqb-true (bit_at b s) 1 k in
    eq-eqb (bit_at (bit_and a b) s) 1 (omega arith)

-- two words have a number in common exactly where their common word is not 0
pub any-in_common : (signals word : ℕ) (P : ℕ → Type 0) → signals < 2 ^ 64 → ((s : ℕ) → s < 64 → (has_bit word s ≡ true) ↔ P s) → IsTrue (not (nat_eq (bit_and signals word) 0)) ↔ ((s : ℕ) × (has_bit signals s ≡ true) × P s)
any-in_common signals word P fits exact = (some, λ (s, has, p). any s has p)
  where
    some : IsTrue (not (nat_eq (bit_and signals word) 0)) → (s : ℕ) × (has_bit signals s ≡ true) × P s
    some t =
        let ne : bit_and signals word ≢ 0 = λ e. false≢true (sym (ap (λ w. not (nat_eq w 0)) e) ∙ t) in
        let le = and_le_l signals word in
        let (small, one, lowest) = bit_at-trailing_zeros w64 (bit_and signals word) (omega arith) (omega arith) in
        let s = trailing_zeros w64 (bit_and signals word) in
        let has = eq-eqb (bit_at (bit_and signals word) s) 1 one in
        (s, common-first signals word s has, (exact s small).0 (common-second signals word s has))

    any : (s : ℕ) → has_bit signals s ≡ true → P s → IsTrue (not (nat_eq (bit_and signals word) 0))
    any s has p =
        let both = common-both signals word s has ((exact s (signal-small signals s fits has)).1 p) in
        ap not (ne_eqb (bit_and signals word) 0 (λ e. true≢false (sym both ∙ ap (λ w. has_bit w s) e ∙ ap (λ n. nat_eq n 1) (bit_at-zero s))))

-- a functional fault is detected exactly where a path for a common signal leads to the test
pub detected-any : (flat : Flat) (fault : Fault) (test : FlatTest) (mode : ℕ) (result : Bool) → fault.general ≡ false → mode ≡ test.mode
    → (IsTrue result ↔ ((s : ℕ) × (has_bit (bit_and fault.signals.0 test.signals.0) s ≡ true) × HasSignalPath flat mode s fault.node test.node)) → IsTrue result ↔ Detects flat fault test
detected-any flat fault test mode result functional same exact =
    subst (λ b. IsTrue result ↔ MatchBool b (HasFreePath flat test.mode fault.node test.node) (SeesSignal flat fault test)) (sym functional)
    (subst (λ m. IsTrue result ↔ ((s : ℕ) × (has_bit fault.signals.0 s ≡ true) × (has_bit test.signals.0 s ≡ true) × HasSignalPath flat m s fault.node test.node)) same (
      (λ r. let (s, has, path) = exact.0 r in (s, common-first fault.signals.0 test.signals.0 s has, common-second fault.signals.0 test.signals.0 s has, path)),
      (λ (s, first, second, path). exact.1 (s, common-both fault.signals.0 test.signals.0 s first second, path)),
    ))

-- without a common signal it is not detected
pub detected-none : (flat : Flat) (fault : Fault) (test : FlatTest) → fault.general ≡ false → bit_and fault.signals.0 test.signals.0 ≡ 0 → IsTrue (not (nat_eq (bit_and fault.signals.0 test.signals.0) 0)) ↔ Detects flat fault test
detected-none flat fault test functional none =
    subst (λ b. IsTrue (not (nat_eq (bit_and fault.signals.0 test.signals.0) 0)) ↔ MatchBool b (HasFreePath flat test.mode fault.node test.node) (SeesSignal flat fault test)) (sym functional) (
      (λ r. absurd (false≢true (sym (ap (λ w. not (nat_eq w 0)) none) ∙ r))),
      (λ (s, first, second, path). absurd (true≢false (sym (common-both fault.signals.0 test.signals.0 s first second) ∙ ap (λ w. has_bit w s) none ∙ ap (λ n. nat_eq n 1) (bit_at-zero s)))),
    )

-- two lists stand in a relation item by item, and so do their last items
pub AllZip-last : {A B : Type 0} (R : A → B → Type 0) (xs : List A) (ys : List B) (x : A) (y : B) → AllZip R xs ys → R x y → AllZip R (xs ++ x ∷ []) (ys ++ y ∷ [])
AllZip-last R [] [] x y h r = (r, tt)
AllZip-last R [] (z ∷ ys) x y h r = absurd h
AllZip-last R (z ∷ xs) [] x y h r = absurd h
AllZip-last R (z ∷ xs) (u ∷ ys) x y h r = (h.0, AllZip-last R xs ys x y h.1 r)

pub AllZip-long : {A B : Type 0} (R : A → B → Type 0) (xs : List A) (ys : List B) → AllZip R xs ys → length xs ≡ length ys
AllZip-long R [] [] h = refl
AllZip-long R [] (y ∷ ys) h = absurd h
AllZip-long R (x ∷ xs) [] h = absurd h
AllZip-long R (x ∷ xs) (y ∷ ys) h = ap suc (AllZip-long R xs ys h.1)

-- items at one place stand in the relation
pub AllZip-at : {A B : Type 0} (R : A → B → Type 0) (xs : List A) (ys : List B) (i : ℕ) (d : A) (e : B) → AllZip R xs ys → i < length xs → R (get_or xs i d) (get_or ys i e)
AllZip-at R [] ys i d e h lt = absurd (let no : ⊥ = omega arith in no)
AllZip-at R (x ∷ xs) [] i d e h lt = absurd h
AllZip-at R (x ∷ xs) (y ∷ ys) zero d e h lt = h.0
AllZip-at R (x ∷ xs) (y ∷ ys) (suc i) d e h lt = AllZip-at R xs ys i d e h.1 (omega arith)

pub take-next : {A : Type 0} (xs : List A) (i : ℕ) (d : A) → i < length xs → take (i + 1) xs ≡ take i xs ++ get_or xs i d ∷ []
take-next xs i d lt = rw add-one (take-suc xs i d lt)

-- one more label
pub labels-next : (tests : List FlatTest) (numbers : List ℕ) (i : ℕ) (labels : List TestLabel) (label : TestLabel) → i < length numbers → AllZip IsLabelOf (map (test_at tests) (take i numbers)) labels → IsLabelOf (test_at tests (get_or numbers i 0)) label
    → AllZip IsLabelOf (map (test_at tests) (take (i + 1) numbers)) (labels ++ label ∷ [])
labels-next tests numbers i labels label lt h is =
    subst (λ l. AllZip IsLabelOf l (labels ++ label ∷ [])) (sym (ap (map (test_at tests)) (take-next numbers i 0 lt) ∙ map-append (test_at tests) (take i numbers) (get_or numbers i 0 ∷ [])))
    (AllZip-last IsLabelOf (map (test_at tests) (take i numbers)) labels (test_at tests (get_or numbers i 0)) label h is)

-- one more fault with its row
pub faults-next : (faults : List Fault) (rows : List (List ℕ)) (i : ℕ) (list : List FaultRow) (row : FaultRow) → i < length faults → i < length rows → AllZip IsRowOf (take i faults) list → map (λ (f : FaultRow). f.row) list ≡ take i rows
    → IsRowOf (get_or faults i no_fault) row → row.row ≡ get_or rows i [] → AllZip IsRowOf (take (i + 1) faults) (list ++ row ∷ []) × (map (λ (f : FaultRow). f.row) (list ++ row ∷ []) ≡ take (i + 1) rows)
faults-next faults rows i list row lf lr h e is same = (
  subst (λ l. AllZip IsRowOf l (list ++ row ∷ [])) (sym (take-next faults i no_fault lf)) (AllZip-last IsRowOf (take i faults) list (get_or faults i no_fault) row h is),
  map-append (λ (f : FaultRow). f.row) list (row ∷ []) ∙ ap (λ l. l ++ row.row ∷ []) e ∙ ap (λ r. take i rows ++ r ∷ []) same ∙ sym (take-next rows i [] lr),
)
