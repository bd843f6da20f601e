-- Groups by number. No group has two numbers, so that where what one group counts changes, one place of the list of counts
-- changes; and numbers that are given later are added behind.
use Rattle.std.proofs.Common.{◌≡◌, ◌≢◌, ℕ, zero, suc, ◌+◌, ◌<◌, ◌≤◌, List, [], ◌∷◌, ◌++◌, length, get_or, set, drop, drop-cons, append_assoc, refl, sym, ap, ◌∙◌, arith, subst, Some}
use Rattle.std.specs.Prelude.{true, false, map, slice_get}
use Rattle.std.proofs.lemmas.Bool.{or_parts, true≢false}
use Rattle.std.proofs.lemmas.Option.{slice_get-get_or}
use Rattle.seq_theory.specs.Graph.{same_group, is_entered}
use Rattle.seq_theory.specs.Rows.{AreDistinct}
use Rattle.seq_theory.proofs.RowLaws.{same_group-refl, or-left, or-right}

same-some : (a b : List ℕ) → Some a ≡ Some b → a ≡ b
same-some a b e = cc

-- a number is that of one group
pub number-group : (groups : List (List ℕ)) (n : ℕ) (g h : List ℕ) → slice_get groups n ≡ Some g → slice_get groups n ≡ Some h → g ≡ h
number-group groups n g h eg eh = same-some g h (sym eg ∙ eh)

pub number-entered : (groups : List (List ℕ)) (n : ℕ) (g : List ℕ) → slice_get groups n ≡ Some g → is_entered groups g ≡ true
number-entered [] n g e = absurd (let bad : ⊥ = cc in bad)
number-entered (h ∷ rest) zero g e = let s = same-some h g e in or-left (same_group g h) (is_entered rest g) (subst (λ x. same_group g x ≡ true) (sym s) (same_group-refl g))
number-entered (h ∷ rest) (suc n) g e = or-right (same_group g h) (is_entered rest g) (number-entered rest n g e)

not-first : (h : List ℕ) (rest : List (List ℕ)) (n : ℕ) → is_entered rest h ≡ false → slice_get rest n ≡ Some h → ⊥
not-first h rest n d e = true≢false (sym (number-entered rest n h e) ∙ d)

pub number-once : (groups : List (List ℕ)) (m n : ℕ) (g : List ℕ) → AreDistinct groups → slice_get groups m ≡ Some g → slice_get groups n ≡ Some g → m ≡ n
number-once [] m n g d em en = absurd (let bad : ⊥ = cc in bad)
number-once (h ∷ rest) zero zero g d em en = refl
number-once (h ∷ rest) zero (suc n) g d em en = absurd (not-first h rest n d.0 (en ∙ ap (λ x. Some x) (sym (same-some h g em))))
number-once (h ∷ rest) (suc m) zero g d em en = absurd (not-first h rest m d.0 (em ∙ ap (λ x. Some x) (sym (same-some h g en))))
number-once (h ∷ rest) (suc m) (suc n) g d em en = ap suc (number-once rest m n g d.1 em en)

-- ---- what one group gives changes ----

module _ {A : Type 0} (old new : List ℕ → A) where
  map-others : (groups : List (List ℕ)) (g : List ℕ) → is_entered groups g ≡ false → ((h : List ℕ) → h ≢ g → new h ≡ old h) → map new groups ≡ map old groups
  map-others [] g d same = refl
  map-others (h ∷ rest) g d same =
      let s = or_parts (same_group g h) (is_entered rest g) d in
      let ne : h ≢ g = λ e. true≢false (sym (subst (λ x. same_group g x ≡ true) (sym e) (same_group-refl g)) ∙ s.0) in
      ap (λ x. x ∷ map new rest) (same h ne) ∙ ap (λ l. old h ∷ l) (map-others rest g s.1 same)

  pub map-changed : (groups : List (List ℕ)) (n : ℕ) (g : List ℕ) → AreDistinct groups → slice_get groups n ≡ Some g → ((h : List ℕ) → h ≢ g → new h ≡ old h) → map new groups ≡ set (map old groups) n (new g)
  map-changed [] n g d e same = absurd (let bad : ⊥ = cc in bad)
  map-changed (h ∷ rest) zero g d e same =
      let s = same-some h g e in
      ap (λ x. new x ∷ map new rest) s ∙ ap (λ l. new g ∷ l) (map-others rest g (subst (λ x. is_entered rest x ≡ false) s d.0) same)
  map-changed (h ∷ rest) (suc n) g d e same =
      let ne : h ≢ g = λ s. not-first h rest n d.0 (e ∙ ap (λ x. Some x) (sym s)) in
      ap (λ x. x ∷ map new rest) (same h ne) ∙ ap (λ l. old h ∷ l) (map-changed rest n g d.1 e same)

-- ---- later numbers ----

pub keeps-long : (old new : List (List ℕ)) → ((g : List ℕ) (n : ℕ) → slice_get old n ≡ Some g → slice_get new n ≡ Some g) → length old ≤ length new
keeps-long [] new keeps = omega arith
keeps-long (g ∷ old) [] keeps = absurd (let e = keeps g 0 refl in let bad : ⊥ = cc in bad)
keeps-long (g ∷ old) (h ∷ new) keeps = let l = keeps-long old new (λ x n e. keeps x (suc n) e) in omega arith

-- what old numbers give, and then what the new ones give
pub map-later : {A : Type 0} (f new : List ℕ → A) (old now : List (List ℕ)) → ((g : List ℕ) (n : ℕ) → slice_get old n ≡ Some g → slice_get now n ≡ Some g)
    → ((g : List ℕ) (n : ℕ) → length old ≤ n → slice_get now n ≡ Some g → f g ≡ new g)
    → map f old ++ map new (drop (length old) now) ≡ map f now
map-later f new [] [] keeps later = refl
map-later f new [] (h ∷ now) keeps later = ap (λ x. x ∷ map new now) (sym (later h 0 (omega arith) refl)) ∙ ap (λ l. f h ∷ l) (map-later f new [] now (λ g n e. absurd (let bad : ⊥ = cc in bad)) (λ g n le e. later g (suc n) (omega arith) e))
map-later f new (g ∷ old) [] keeps later = absurd (let e = keeps g 0 refl in let bad : ⊥ = cc in bad)
map-later f new (g ∷ old) (h ∷ now) keeps later =
    let s : h ≡ g = same-some h g (keeps g 0 refl) in
    ap (λ x. f x ∷ (map f old ++ map new (drop (length old) now))) (sym s) ∙ ap (λ l. f h ∷ l) (map-later f new old now (λ x n e. keeps x (suc n) e) (λ x n le e. later x (suc n) (omega arith) e))

-- one more of the new ones
pub counts-next : {A : Type 0} (f : List ℕ → A) (groups : List (List ℕ)) (n : ℕ) (counts : List A) (x : A) → n < length groups → ((g : List ℕ) → slice_get groups n ≡ Some g → x ≡ f g)
    → (counts ++ x ∷ []) ++ map f (drop (n + 1) groups) ≡ counts ++ map f (drop n groups)
counts-next f groups n counts x lt is =
    let next : n + 1 ≡ suc n = omega arith in
    let one : map f (drop n groups) ≡ x ∷ map f (drop (n + 1) groups) =
    ap (map f) (drop-cons groups n [] lt) ∙ ap (λ y. y ∷ map f (drop (suc n) groups)) (sym (is (get_or groups n []) (slice_get-get_or groups n [] lt))) ∙ ap (λ m. x ∷ map f (drop m groups)) (sym next) in
    append_assoc counts (x ∷ []) (map f (drop (n + 1) groups)) ∙ ap (λ l. counts ++ l) (sym one)
