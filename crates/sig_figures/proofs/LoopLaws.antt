-- Marks of nodes: marks are added, mode by mode, and the places of the marks are listed upwards.
use Rattle.std.proofs.Common.{◌≡◌, ℕ, zero, suc, ◌+◌, ◌<◌, ◌≤◌, List, [], ◌∷◌, ◌++◌, length, set, replicate, refl, sym, ap, ◌∙◌, arith, inl, inr, subst, add-one}
use Rattle.std.specs.Prelude.{Bool, true, false, ◌||◌, ◌↔◌, cond, filter, Option}
use Rattle.std.specs.List.{Contains}
use Rattle.std.specs.List.Sorted.{IsStrictlyIncreasing}
use Rattle.std.proofs.lemmas.Bool.{cases_eq, cases_lt, or_cases, false≢true}
use Rattle.std.proofs.lemmas.List.{get_or-set_same, get_or-set_other, get_or-replicate, get_or_past}
use Rattle.std.proofs.lemmas.List.Elements.{filter_passes, All-contains, All-filter, Contains-push, Contains-append_left}
use Rattle.std.proofs.lemmas.List.Kept.{IsStrictlyIncreasing-filter}
use Rattle.seq_theory.specs.Problem.{count_up}
use Rattle.sig_flat.specs.declared.flat.Flat.{Flat}
use Rattle.sig_reach.specs.Marks.{is_marked}
use Rattle.sig_reach.specs.Paths.{HasFreePath}
use Rattle.seq_theory.proofs.BelowLaws.{length-count_up}
use Rattle.sig_figures.specs.Loops.{IsLooped, IsLoopedBelow, AreLooped}
use Rattle.sig_figures.proofs.UpTo.{up-at, below-end, filter-yes, filter-next}

-- the marks below a number are added
pub record Added (nodes old new : List Bool) (n : ℕ) : Type 0 where
  pub below : (v : ℕ) → v < n → is_marked new v ≡ (is_marked old v || is_marked nodes v)
  pub rest : (v : ℕ) → n ≤ v → is_marked new v ≡ is_marked old v

pub added-none : (nodes old : List Bool) → Added nodes old old 0
added-none nodes old = record { below = λ v lt. absurd (let no : ⊥ = omega arith in no); rest = λ v le. refl }

or-false : (b : Bool) → b ≡ (b || false)
or-false true = refl
or-false false = refl

or-true : (b : Bool) → true ≡ (b || true)
or-true true = refl
or-true false = refl

pub added-pass : (nodes old new : List Bool) (n : ℕ) → is_marked nodes n ≡ false → Added nodes old new n → Added nodes old new (n + 1)
added-pass nodes old new n not h = record {
  below = λ v lt. elim (cases_lt v n) [
    | inl below ↦ h.below v below
    | inr ge ↦ (let e : n ≡ v = omega arith in h.rest v ge ∙ or-false (is_marked old v) ∙ ap (λ b. is_marked old v || b) (sym (ap (is_marked nodes) (sym e) ∙ not)))
  ];
  rest = λ v le. h.rest v (omega arith);
}

pub added-more : (nodes old new : List Bool) (n : ℕ) → n < length new → is_marked nodes n ≡ true → Added nodes old new n → Added nodes old (set new n true) (n + 1)
added-more nodes old new n there is h = record {
  below = λ v lt. elim (cases_eq v n) [
    | inl e ↦ ap (is_marked (set new n true)) e ∙ get_or-set_same new n true false there ∙ or-true (is_marked old v) ∙ ap (λ b. is_marked old v || b) (sym (ap (is_marked nodes) e ∙ is))
    | inr ne ↦ get_or-set_other new n v true false ne ∙ h.below v (omega arith)
  ];
  rest = λ v le. get_or-set_other new n v true false (λ e. let no : ⊥ = omega arith in no) ∙ h.rest v (omega arith);
}

pub added-all : (nodes old new : List Bool) → Added nodes old new (length nodes) → (v : ℕ) → is_marked new v ≡ (is_marked old v || is_marked nodes v)
added-all nodes old new h v = elim (cases_lt v (length nodes)) [
  | inl lt ↦ h.below v lt
  | inr ge ↦ h.rest v ge ∙ or-false (is_marked old v) ∙ ap (λ b. is_marked old v || b) (sym (get_or_past nodes v false ge))
]

-- the nodes are marked that are on a loop in one of the first so many modes
pub record MarksLoops (flat : Flat) (modes : ℕ) (marks : List Bool) : Type 0 where
  pub long : length marks ≡ length flat.nodes
  pub loops : (v : ℕ) → v < length flat.nodes → (is_marked marks v ≡ true) ↔ IsLoopedBelow flat modes v

pub loops-none : (flat : Flat) (marks : List Bool) (n : ℕ) → n ≡ length flat.nodes → marks ≡ replicate n false → length marks ≡ n → MarksLoops flat 0 marks
loops-none flat marks n is made long = record {
  long = long ∙ is;
  loops = λ v lt. (
    (λ m. absurd (false≢true (sym (ap (λ l. is_marked l v) made ∙ get_or-replicate n v false false (omega arith)) ∙ m))),
    (λ (mode, below, path). absurd (let no : ⊥ = omega arith in no)),
  );
}

pub loops-more : (flat : Flat) (mode : ℕ) (marks nodes new : List Bool) → ((v : ℕ) → v < length flat.nodes → (is_marked nodes v ≡ true) ↔ HasFreePath flat mode v v) → ((v : ℕ) → is_marked new v ≡ (is_marked marks v || is_marked nodes v)) → length new ≡ length marks
    → MarksLoops flat mode marks → MarksLoops flat (mode + 1) new
loops-more flat mode marks nodes new here added same h = record {
  long = same ∙ h.long;
  loops = λ v lt. (
    (λ m. elim (or_cases (is_marked marks v) (is_marked nodes v) (sym (added v) ∙ m)) [
      | inl before ↦ (let (k, below, path) = (h.loops v lt).0 before in (k, omega arith, path))
      | inr now ↦ (mode, omega arith, (here v lt).0 now)
    ]),
    (λ (k, below, path). elim (cases_eq k mode) [
      | inl e ↦ added v ∙ ap (λ b. is_marked marks v || b) ((here v lt).1 (subst (λ m. HasFreePath flat m v v) e path)) ∙ sym (or-true (is_marked marks v))
      | inr ne ↦ added v ∙ ap (λ b. b || is_marked nodes v) ((h.loops v lt).1 (k, omega arith, path))
    ]),
  );
}

up-increases : (n : ℕ) → IsStrictlyIncreasing (count_up 0 n)
up-increases n k lt =
    let long = length-count_up 0 n in
    let first = up-at n k 0 (omega arith) in
    let second = up-at n (k + 1) 0 (omega arith) in
    omega arith

-- a number below the end that passes is in the list
passed-there : (p : ℕ → Bool) (n v : ℕ) → v < n → p v ≡ true → Contains (filter p (count_up 0 n)) v
passed-there p zero v lt y = absurd (let no : ⊥ = omega arith in no)
passed-there p (suc n) v lt y = subst (λ k. Contains (filter p (count_up 0 k)) v) (add-one n) (elim (cases_eq v n) [
  | inl e ↦ subst (λ l. Contains l v) (sym (filter-yes p n (ap p (sym e) ∙ y))) (subst (λ k. Contains (filter p (count_up 0 n) ++ k ∷ []) v) e (Contains-push (filter p (count_up 0 n)) v))
  | inr ne ↦ subst (λ l. Contains l v) (sym (filter-next p n)) (Contains-append_left (filter p (count_up 0 n)) (cond (p n) (n ∷ []) []) v (passed-there p n v (omega arith) y))
])

-- the places of the marks
pub loops-listed : (flat : Flat) (mode : Option ℕ) (marks : List Bool) (nodes : List ℕ) → length marks ≡ length flat.nodes → ((v : ℕ) → v < length flat.nodes → (is_marked marks v ≡ true) ↔ IsLooped flat mode v) → nodes ≡ filter (is_marked marks) (count_up 0 (length marks)) → AreLooped flat mode nodes
loops-listed flat mode marks nodes long loops listed = subst (AreLooped flat mode) (sym listed) (record {
  upwards = IsStrictlyIncreasing-filter (is_marked marks) (count_up 0 (length marks)) (up-increases (length marks));
  there = λ v i. let lt = below v i in omega arith;
  looped = λ v lt. (
    (λ i. (loops v lt).0 (All-contains (λ k. is_marked marks k ≡ true) (filter (is_marked marks) (count_up 0 (length marks))) v (filter_passes (is_marked marks) (count_up 0 (length marks))) i)),
    (λ l. passed-there (is_marked marks) (length marks) v (omega arith) ((loops v lt).1 l)),
  );
})
  where
    below : (v : ℕ) → Contains (filter (is_marked marks) (count_up 0 (length marks))) v → v < length marks
    below v i = All-contains (λ k. k < length marks) (filter (is_marked marks) (count_up 0 (length marks))) v (All-filter (is_marked marks) (λ k. k < length marks) (count_up 0 (length marks)) (below-end (length marks))) i
