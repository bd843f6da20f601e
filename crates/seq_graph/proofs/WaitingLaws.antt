-- The loop over the tests that wait: the place of the least number so far. And what it tells at the end.
use Rattle.std.proofs.Common.{◌≡◌, ℕ, zero, suc, ◌+◌, ◌-◌, ◌<◌, ◌≤◌, List, [], ◌∷◌, length, get_or, set, take, refl, sym, ap, ◌∙◌, arith, inl, inr, subst, Option, Some, None, slice_get, swap_remove}
use Rattle.std.proofs.lemmas.List.{take-set}
use Rattle.std.specs.Prelude.{IfSome}
use Rattle.std.proofs.lemmas.Bool.{cases_lt}
use Rattle.std.proofs.lemmas.List.Elements.{All-from_get_or, All-get_or}
use Rattle.std.proofs.lemmas.List.Sorted.{IsPermutation-swap_remove, length_permutation}
use Rattle.std.proofs.lemmas.Option.{slice_get-get_or, slice_get_within}
use Rattle.seq_graph.specs.declared.node.Waiting.{Waiting}
use Rattle.seq_graph.specs.declared.choice.Chosen.{Chosen}
use Rattle.seq_graph.specs.Choice.{no_waiting, IsLeastWaiting, IsCertain}

-- the place of the least number of those before a place
pub record IsLeastBefore (waiting : List Waiting) (at : ℕ) (place : ℕ) : Type 0 where
  pub there : place < at
  pub least : (k : ℕ) → k < at → (get_or waiting place no_waiting).least ≤ (get_or waiting k no_waiting).least

abbrev pub LeastSoFar : List Waiting → ℕ → Option ℕ → Type 0
LeastSoFar waiting at None = at ≡ 0
LeastSoFar waiting at (Some place) = IsLeastBefore waiting at place

pub least-stays : (waiting : List Waiting) (at place : ℕ) → IsLeastBefore waiting at place → (get_or waiting place no_waiting).least ≤ (get_or waiting at no_waiting).least → IsLeastBefore waiting (at + 1) place
least-stays waiting at place h le = record {
  there = (let t = h.there in omega arith);
  least = λ k lt. here k lt;
}
  where
    here : (k : ℕ) → k < at + 1 → (get_or waiting place no_waiting).least ≤ (get_or waiting k no_waiting).least
    here k lt = elim (cases_lt k at) [
      | inl l ↦ h.least k l
      | inr ge ↦ (let same : at ≡ k = omega arith in subst (λ n. (get_or waiting place no_waiting).least ≤ (get_or waiting n no_waiting).least) same le)
    ]

pub least-changes : (waiting : List Waiting) (at : ℕ) (o : Option ℕ) → LeastSoFar waiting at o → ((place : ℕ) → o ≡ Some place → (get_or waiting at no_waiting).least < (get_or waiting place no_waiting).least) → IsLeastBefore waiting (at + 1) at
least-changes waiting at None h less = record {
  there = omega arith;
  least = λ k lt. (let same : at ≡ k = omega arith in subst (λ n. (get_or waiting at no_waiting).least ≤ (get_or waiting n no_waiting).least) same (omega arith));
}
least-changes waiting at (Some place) h less = record {
  there = omega arith;
  least = here;
}
  where
    here : (k : ℕ) → k < at + 1 → (get_or waiting at no_waiting).least ≤ (get_or waiting k no_waiting).least
    here k lt = elim (cases_lt k at) [
      | inl l ↦ (let a = h.least k l in let b = less place refl in omega arith)
      | inr ge ↦ (let same : at ≡ k = omega arith in subst (λ n. (get_or waiting at no_waiting).least ≤ (get_or waiting n no_waiting).least) same (omega arith))
    ]

pub least-all : (waiting : List Waiting) (at : ℕ) (o : Option ℕ) → LeastSoFar waiting at o → at ≡ length waiting → IfSome o (IsLeastWaiting waiting)
least-all waiting at None h e = tt
least-all waiting at (Some place) h e = record {
  there = (let t = h.there in omega arith);
  least = All-from_get_or (λ w. (get_or waiting place no_waiting).least ≤ w.least) waiting no_waiting (λ i lt. h.least i (omega arith));
}

pub none-wait : (waiting : List Waiting) → length waiting ≡ 0 → waiting ≡ []
none-wait [] e = refl
none-wait (w ∷ rest) e = absurd (let bad : ⊥ = omega arith in bad)

-- where the least number is above the choice's sum, the choice is certain
pub is-certain : (waiting : List Waiting) (place : ℕ) (c : Chosen) → IsLeastWaiting waiting place → c.sum < (get_or waiting place no_waiting).least → IsCertain (Some c) waiting
is-certain waiting place c h lt = All-from_get_or (λ w. c.sum < w.least) waiting no_waiting (λ i there. let a = All-get_or (λ w. (get_or waiting place no_waiting).least ≤ w.least) waiting i no_waiting there h.least in omega arith)

-- a test that is taken out leaves fewer
pub length-taken : (waiting : List Waiting) (at : ℕ) (entry : Waiting) → slice_get waiting at ≡ Some entry → length (swap_remove waiting at entry) < length waiting
length-taken waiting at entry is =
    let lt = slice_get_within waiting at entry is in
    let e : entry ≡ get_or waiting at entry = some-same entry (get_or waiting at entry) (sym is ∙ slice_get-get_or waiting at entry lt) in
    let l = length_permutation waiting (entry ∷ swap_remove waiting at entry) (IsPermutation-swap_remove waiting at entry lt e) in
    omega arith
  where
    some-same : (a b : Waiting) → Some a ≡ Some b → a ≡ b
    some-same a b e = cc

take-within : (m n : ℕ) (xs : List Waiting) → m ≤ n → take m (take n xs) ≡ take m xs
take-within zero n xs le = refl
take-within (suc m) zero xs le = absurd (let bad : ⊥ = omega arith in bad)
take-within (suc m) (suc n) [] le = refl
take-within (suc m) (suc n) (x ∷ rest) le = ap (λ l. x ∷ l) (take-within m n rest (omega arith))

-- and those before it stand as they stood
pub before-taken : (xs : List Waiting) (at : ℕ) (entry : Waiting) → at < length xs → take at (swap_remove xs at entry) ≡ take at xs
before-taken xs at entry lt =
    take-within at (length xs - 1) (set xs at (get_or xs (length xs - 1) entry)) (omega arith) ∙ take-set xs at (get_or xs (length xs - 1) entry)
