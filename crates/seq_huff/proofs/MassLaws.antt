-- The mass of a group: its sums go over the classes, its potential is at most 2 ^ 26 times its weight, and Huffman's cost is
-- at least what it says.
use Rattle.std.proofs.Common.{◌≡◌, ℕ, zero, suc, ◌+◌, ◌*◌, ◌^◌, ◌<◌, ◌≤◌, List, [], ◌∷◌, ◌++◌, length, refl, sym, ap, ◌∙◌, arith, inl, inr, length-append}
use Rattle.std.specs.Prelude.{true, false, map}
use Rattle.std.proofs.lemmas.Bool.{cases_Bool, true≢false}
use Rattle.std.proofs.lemmas.List.Sums.{sum_by-cons}
use Rattle.seq_theory.specs.Problem.{Problem, IsIn, IsWithin, all_classes, weight_of, pass_part, fail_part, is_end}
use Rattle.seq_theory.specs.Huffman.{place_in, upward, merging, huff}
use Rattle.seq_theory.specs.Bound.{goal_weights}
use Rattle.seq_theory.proofs.HuffmanLaws.{length-place, length-upward, total, total-place, total-upward}
use Rattle.seq_theory.proofs.BoundLeast.{weight-positive}
use Rattle.seq_theory.proofs.LeastLaws.{IsIn-count_up}
use Rattle.seq_theory.proofs.BelowLaws.{passing-in, length-passing, class-within, weight-passing}
use Rattle.seq_inst.specs.declared.group.Group.{Group}
use Rattle.seq_inst.specs.declared.instance.Instance.{Instance}
use Rattle.seq_inst.specs.Members.{has_class, members_below, members}
use Rattle.seq_inst.specs.Instances.{problem_of}
use Rattle.seq_huff.specs.declared.mass.Mass.{Mass}
use Rattle.seq_huff.specs.Estimates.{IsMassOf}
use Rattle.seq_huff.specs.Potential.{unit, potential, potentials}
use Rattle.seq_huff.proofs.GoalLaws.{goal_weights-members}
use Rattle.seq_huff.proofs.LeastBounds.{weighed}
use Rattle.seq_huff.proofs.PotentialLaws.{ArePositive, potential-below, potential-small}

module _ (p : Problem) where
  weight-in : (c : ℕ) (xs : List ℕ) → IsIn c xs → p.weight c ≤ weight_of p xs
  weight-in c [] i = absurd i
  weight-in c (x ∷ xs) (inl e) = let f = ap p.weight e in omega arith
  weight-in c (x ∷ xs) (inr i) = let f = weight-in c xs i in omega arith

  pub potentials-cons : (c : ℕ) (xs : List ℕ) → potentials p (c ∷ xs) ≡ potential (p.weight c) + potentials p xs
  potentials-cons c xs = sum_by-cons (λ c. potential (p.weight c)) c xs

  pub potentials-push : (xs : List ℕ) (c : ℕ) → potentials p (xs ++ c ∷ []) ≡ potentials p xs + potential (p.weight c)
  potentials-push [] c = let f = potentials-cons c [] in let g : potentials p [] ≡ 0 = refl in omega arith
  potentials-push (x ∷ xs) c = let f = potentials-cons x (xs ++ c ∷ []) in let g = potentials-cons x xs in let h = potentials-push xs c in omega arith

  pub weight-push : (xs : List ℕ) (c : ℕ) → weight_of p (xs ++ c ∷ []) ≡ weight_of p xs + p.weight c
  weight-push [] c = omega arith
  weight-push (x ∷ xs) c = let h = weight-push xs c in omega arith

  pub potentials-small : (xs : List ℕ) → potentials p xs ≤ 2 ^ 26 * weight_of p xs
  potentials-small [] = let g : potentials p [] ≡ 0 = refl in omega arith
  potentials-small (x ∷ xs) = let f = potentials-cons x xs in let g = potential-small (p.weight x) in let h = potentials-small xs in omega arith

  -- the classes of both parts are as many as those of the group
  pub length-parts : (t : ℕ) (xs : List ℕ) → length xs ≡ length (pass_part p t xs) + length (fail_part p t xs)
  length-parts t [] = refl
  length-parts t (x ∷ xs) =
      let h = length-parts t xs in
      elim (cases_Bool (p.passes t x)) [
        | inl y ↦ rw y (omega arith)
        | inr n ↦ rw n (omega arith)
      ]

  -- the potentials of both parts are those of the group
  pub potentials-parts : (t : ℕ) (xs : List ℕ) → potentials p xs ≡ potentials p (pass_part p t xs) + potentials p (fail_part p t xs)
  potentials-parts t [] = refl
  potentials-parts t (x ∷ xs) =
      let h = potentials-parts t xs in
      let f = potentials-cons x xs in
      let a = potentials-cons x (pass_part p t xs) in
      let b = potentials-cons x (fail_part p t xs) in
      elim (cases_Bool (p.passes t x)) [
        | inl y ↦ rw y (omega arith)
        | inr n ↦ rw n (omega arith)
      ]

  total-weights : (xs : List ℕ) → total (λ w. w) (map p.weight xs) ≡ weight_of p xs
  total-weights [] = refl
  total-weights (x ∷ xs) = ap (λ n. p.weight x + n) (total-weights xs)

  total-potentials : (xs : List ℕ) → total potential (map p.weight xs) ≡ potentials p xs
  total-potentials [] = refl
  total-potentials (x ∷ xs) = ap (λ n. potential (p.weight x) + n) (total-potentials xs) ∙ sym (potentials-cons x xs)

  positive-weights : (xs : List ℕ) → ((c : ℕ) → IsIn c xs → 1 ≤ p.weight c) → ArePositive (map p.weight xs)
  positive-weights [] h = tt
  positive-weights (x ∷ xs) h = (h x (inl refl), positive-weights xs (λ c i. h c (inr i)))

  length-weights : (xs : List ℕ) → length (map p.weight xs) ≡ length xs
  length-weights [] = refl
  length-weights (x ∷ xs) = ap suc (length-weights xs)

  mass-below : (xs : List ℕ) → ((c : ℕ) → IsIn c xs → 1 ≤ p.weight c) → 1 ≤ length xs → potential (weight_of p xs) ≤ potentials p xs + unit * huff (map p.weight xs)
  mass-below xs h some =
      let l = length-weights xs in
      let f = potential-below (map p.weight xs) (positive-weights xs h) (omega arith) in
      let a = ap potential (total-weights xs) in
      let b = total-potentials xs in
      omega arith

-- what the mass of a group says of Huffman's cost
pub huffman-least : (inst : Instance) (g : Group) → IsWithin (problem_of inst) (members g) → 1 ≤ length (members g) → potential (weight_of (problem_of inst) (members g)) ≤ potentials (problem_of inst) (members g) + unit * huff (goal_weights (problem_of inst) (members g))
huffman-least inst g within some =
    let p = problem_of inst in
    let f = mass-below p (members g) (λ c i. inst.valid.positive c (within c i)) some in
    let e = ap huff (goal_weights-members inst g within) in
    omega arith

-- Huffman's last merge costs the whole weight
merging-whole : (k : ℕ) (xs : List ℕ) → 2 ≤ length xs → length xs ≤ suc k → total (λ w. w) xs ≤ merging k xs
merging-whole k [] many le = absurd (let bad : ⊥ = omega arith in bad)
merging-whole k (x ∷ []) many le = absurd (let bad : ⊥ = omega arith in bad)
merging-whole zero (x ∷ y ∷ xs) many le = absurd (let bad : ⊥ = omega arith in bad)
merging-whole (suc k) (x ∷ y ∷ []) many le = omega arith
merging-whole (suc k) (x ∷ y ∷ z ∷ xs) many le =
    let l = length-place (x + y) (z ∷ xs) in
    let t = total-place (λ w. w) (x + y) (z ∷ xs) in
    let h = merging-whole k (place_in (x + y) (z ∷ xs)) (omega arith) (omega arith) in
    omega arith

huffman-whole : (ws : List ℕ) → 2 ≤ length ws → total (λ w. w) ws ≤ huff ws
unfolding huff
huffman-whole ws many =
    let l = length-upward ws in
    let t = total-upward (λ w. w) ws in
    let h = merging-whole (length ws) (upward ws) (omega arith) (omega arith) in
    omega arith

some-classes : (p : Problem) (xs : List ℕ) → is_end p xs ≡ false → 2 ≤ length xs
some-classes p [] e = absurd (true≢false e)
some-classes p (c ∷ []) e = absurd (true≢false e)
some-classes p (c ∷ d ∷ xs) e = omega arith

-- so it is at least the weight of two goals or more
pub huffman-more : (inst : Instance) (g : Group) → IsWithin (problem_of inst) (members g) → is_end (problem_of inst) (members g) ≡ false → weight_of (problem_of inst) (members g) ≤ huff (goal_weights (problem_of inst) (members g))
huffman-more inst g within more =
    let p = problem_of inst in
    let many = some-classes p (members g) more in
    let l = length-weights p (members g) in
    let h = huffman-whole (map p.weight (members g)) (omega arith) in
    let t = total-weights p (members g) in
    let e = ap huff (goal_weights-members inst g within) in
    omega arith

-- what the mass of two goals or more says
pub record MassSays (inst : Instance) (g : Group) (m : Mass) : Type 0 where
  pub some : 1 ≤ m.weight
  pub light : m.weight ≤ 4097000000
  pub low : potential m.weight ≤ m.potential + unit * huff (goal_weights (problem_of inst) (members g))
  pub whole : m.weight ≤ huff (goal_weights (problem_of inst) (members g))

pub mass-says : (inst : Instance) (g : Group) (m : Mass) → IsWithin (problem_of inst) (members g) → is_end (problem_of inst) (members g) ≡ false → IsMassOf (problem_of inst) (members g) m → MassSays inst g m
mass-says inst g m within more mass =
    let p = problem_of inst in
    let many = some-classes p (members g) more in
    let a = mass.weight in
    let b = mass.potential in
    let e = ap potential a in
    let l = inst.stands.light g within in
    let w = weight-positive p (members g) (weighed inst) within (omega arith) in
    let f = huffman-least inst g within (omega arith) in
    let h = huffman-more inst g within more in
    record { some = omega arith; light = omega arith; low = omega arith; whole = omega arith }

-- each weight is small
pub weight-small : (inst : Instance) (c : ℕ) → c < (problem_of inst).classes → (problem_of inst).weight c < 2 ^ 32
weight-small inst c lt =
    let p = problem_of inst in
    let f = weight-in p c (all_classes p) (IsIn-count_up c 0 p.classes (omega arith) (omega arith)) in
    let t = inst.valid.total in
    omega arith

-- the sums over the classes of a group up to some class
pub record MassBelow (inst : Instance) (classes : List ℕ) (count weight potentials_sum : ℕ) : Type 0 where
  pub count_is : count ≡ length classes
  pub weight_is : weight ≡ weight_of (problem_of inst) classes
  pub potential_is : potentials_sum ≡ potentials (problem_of inst) classes

pub mass-none : (inst : Instance) (classes : List ℕ) → classes ≡ [] → MassBelow inst classes 0 0 0
mass-none inst classes e = record { count_is = sym (ap length e); weight_is = sym (ap (weight_of (problem_of inst)) e); potential_is = sym (ap (potentials (problem_of inst)) e) }

pub mass-more : (inst : Instance) (classes more : List ℕ) (class count weight potentials_sum w v : ℕ) → MassBelow inst classes count weight potentials_sum → more ≡ classes ++ class ∷ [] → w ≡ (problem_of inst).weight class → v ≡ potential ((problem_of inst).weight class) → MassBelow inst more (count + 1) (weight + w) (potentials_sum + v)
mass-more inst classes more class count weight potentials_sum w v m e we ve =
    let p = problem_of inst in
    let a = m.weight_is in
    let b = m.potential_is in
    let c = ap (weight_of p) e ∙ weight-push p classes class in
    let d = ap (potentials p) e ∙ potentials-push p classes class in
    let n = m.count_is in
    let l = ap length e ∙ length-append classes (class ∷ []) in
    record { count_is = omega arith; weight_is = omega arith; potential_is = omega arith }

-- they are small: the group weighs at most 4,097,000,000
pub mass-small : (inst : Instance) (g : Group) (class count weight potentials_sum w v : ℕ) → IsWithin (problem_of inst) (members g) → class < 512 → has_class g class ≡ true → MassBelow inst (members_below g class) count weight potentials_sum → w ≡ (problem_of inst).weight class → v ≡ potential ((problem_of inst).weight class) → (count + 1 ≤ 512) × (weight + w ≤ 4097000000) × (potentials_sum + v < 2 ^ 64)
mass-small inst g class count weight potentials_sum w v within lt has m we ve =
    let p = problem_of inst in
    let there = class-within p (has_class g) class 512 within lt has in
    let more = mass-more inst (members_below g class) (members_below g (class + 1)) class count weight potentials_sum w v m (passing-in (has_class g) class has) we ve in
    let a = more.weight_is in
    let b = more.potential_is in
    let c = weight-passing p (has_class g) (class + 1) (omega arith) in
    let d = inst.valid.total in
    let s = potentials-small p (members_below g (class + 1)) in
    let n = more.count_is in
    let few = length-passing (has_class g) (class + 1) in
    (omega arith, omega arith, omega arith)
