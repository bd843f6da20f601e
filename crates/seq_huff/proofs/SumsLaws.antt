-- The sums of the first so many costs, as a walk over the tests writes them.
use Rattle.std.proofs.Common.{◌≡◌, ◌≢◌, ℕ, zero, suc, ◌+◌, ◌-◌, ◌*◌, ◌<◌, ◌≤◌, List, [], ◌∷◌, length, get_or, set, drop, refl, sym, ap, ◌∙◌, arith, inl, inr, get_or-set_same, get_or-set_other, length-set, add-one}
use Rattle.std.specs.Prelude.{true, false, map}
use Rattle.std.proofs.lemmas.Bool.{cases_lt}
use Rattle.std.proofs.lemmas.List.{drop_more, drop_all}
use Rattle.seq_theory.specs.Problem.{Problem, splits, splitting}
use Rattle.seq_theory.specs.Bound.{sum_first, splitting_costs}
use Rattle.seq_theory.proofs.HuffmanLaws.{length-upward}
use Rattle.seq_theory.proofs.PartsRecursion.{splitting-there}
use Rattle.seq_theory.proofs.BelowLaws.{passing-all, length-passing}
use Rattle.seq_inst.specs.declared.group.Group.{Group}
use Rattle.seq_inst.specs.declared.instance.Instance.{Instance}
use Rattle.seq_inst.specs.Members.{members}
use Rattle.seq_inst.specs.Instances.{problem_of}
use Rattle.seq_huff.specs.Estimates.{AreSums}
use Rattle.seq_huff.proofs.SumLaws.{sum-upward}
use Rattle.seq_huff.proofs.BoundFits.{sum-map-le, sum_first-le, first_there, product-le}
use Rattle.seq_huff.proofs.FirstCostLaws.{costs_among}

-- the first of what is left
first-suc : (k : ℕ) (xs rest : List ℕ) (x : ℕ) → drop k xs ≡ x ∷ rest → (sum_first (suc k) xs ≡ sum_first k xs + x) × (drop (suc k) xs ≡ rest)
first-suc zero [] rest x e = absurd (let l = ap length e in let bad : ⊥ = omega arith in bad)
first-suc zero (y ∷ ys) rest x e = ((let h : y ≡ x = ap (λ l. get_or l 0 0) e in omega arith), ap (drop 1) e)
first-suc (suc k) [] rest x e = absurd (let l = ap length e in let bad : ⊥ = omega arith in bad)
first-suc (suc k) (y ∷ ys) rest x e = let h = first-suc k ys rest x e in ((let a = h.0 in omega arith), h.1)

first-left : (k : ℕ) (xs rest : List ℕ) (x : ℕ) → drop k xs ≡ x ∷ rest → (sum_first (k + 1) xs ≡ sum_first k xs + x) × (drop (k + 1) xs ≡ rest)
first-left k xs rest x e = let h = first-suc k xs rest x e in (ap (λ n. sum_first n xs) (add-one k) ∙ h.0, ap (λ n. drop n xs) (add-one k) ∙ h.1)

none-left : (k : ℕ) (xs : List ℕ) → drop k xs ≡ [] → length xs ≤ k
none-left zero [] e = omega arith
none-left zero (x ∷ xs) e = let l = ap length e in omega arith
none-left (suc k) [] e = omega arith
none-left (suc k) (x ∷ xs) e = let f = none-left k xs e in omega arith

-- so many sums are written, the last of them is the total, and these costs are left
pub record Summed (costs rest sums : List ℕ) (count place total : ℕ) : Type 0 where
  pub written : AreSums costs sums (count + 1)
  pub total_is : total ≡ sum_first count costs
  pub left : drop count costs ≡ rest
  pub few : count ≤ place
  pub small : total ≤ 1000000 * count
  pub room : 258 ≤ length sums

pub summed-none : (costs old : List ℕ) → 258 ≤ length old → Summed costs costs (set old 0 0) 0 0 0
summed-none costs old room = let e : get_or (set old 0 0) 0 0 ≡ 0 = get_or-set_same old 0 0 0 (omega arith) in let long = length-set old 0 0 in record {
  written = λ k lt. (let z : k ≡ 0 = omega arith in ap (λ n. get_or (set old 0 0) n 0) z ∙ e ∙ sym (ap (λ n. sum_first n costs) z));
  total_is = refl;
  left = refl;
  few = omega arith;
  small = omega arith;
  room = omega arith;
}

pub summed-more : (costs rest next sums : List ℕ) (count place total cost : ℕ) → Summed costs rest sums count place total → rest ≡ cost ∷ next → cost ≤ 1000000 → count < 256 → Summed costs next (set sums (count + 1) (total + cost)) (count + 1) (place + 1) (total + cost)
summed-more costs rest next sums count place total cost s e le lt =
    let h = first-left count costs next cost (s.left ∙ e) in
    let a = h.0 in
    let t = s.total_is in
    let sm = s.small in
    let f = s.few in
    let room = s.room in
    let long = length-set sums (count + 1) (total + cost) in
    record {
      written = λ k l. elim (cases_lt k (count + 1)) [
        | inl old ↦ (let ne : k ≢ count + 1 = (λ q. let bad : ⊥ = omega arith in bad) in get_or-set_other sums (count + 1) k (total + cost) 0 ne ∙ s.written k old)
        | inr ge ↦ (let is : k ≡ count + 1 = omega arith in
            ap (λ n. get_or (set sums (count + 1) (total + cost)) n 0) is ∙ get_or-set_same sums (count + 1) (total + cost) 0 (omega arith)
            ∙ (let v : total + cost ≡ sum_first (count + 1) costs = omega arith in v) ∙ sym (ap (λ n. sum_first n costs) is))
      ];
      total_is = omega arith;
      left = h.1;
      few = omega arith;
      small = omega arith;
      room = omega arith;
    }

pub summed-same : (costs rest next sums : List ℕ) (count place total : ℕ) → Summed costs rest sums count place total → rest ≡ next → Summed costs next sums count (place + 1) total
summed-same costs rest next sums count place total s e = record {
  written = s.written;
  total_is = s.total_is;
  left = s.left ∙ e;
  few = (let f = s.few in omega arith);
  small = s.small;
  room = s.room;
}

pub summed-all : (costs rest sums : List ℕ) (count place total : ℕ) → Summed costs rest sums count place total → rest ≡ [] → length costs ≤ count
summed-all costs rest sums count place total s e = none-left count costs (s.left ∙ e)

-- the tests from a place on
module _ (p : Problem) (group tests : List ℕ) (place : ℕ) (lt : place < length tests) where
  pub left-in : splits p group (get_or tests place 0) ≡ true → costs_among p group (drop place tests) ≡ p.cost (get_or tests place 0) ∷ costs_among p group (drop (place + 1) tests)
  left-in e = ap (costs_among p group) (drop_more tests place 0 lt) ∙ rw e refl

  pub left-out : splits p group (get_or tests place 0) ≡ false → costs_among p group (drop place tests) ≡ costs_among p group (drop (place + 1) tests)
  left-out e = ap (costs_among p group) (drop_more tests place 0 lt) ∙ rw e refl

pub left-none : (p : Problem) (group tests : List ℕ) (place : ℕ) → length tests ≤ place → costs_among p group (drop place tests) ≡ []
left-none p group tests place le = ap (costs_among p group) (drop_all place tests le)

-- all sums, where those after the last are the last
pub sums-all : (costs old new : List ℕ) (count end : ℕ) → AreSums costs old (count + 1) → length costs ≤ count
    → ((k : ℕ) → k < count + 1 → get_or new k 0 ≡ get_or old k 0) → ((k : ℕ) → count + 1 ≤ k → k < end → get_or new k 0 ≡ get_or old count 0) → AreSums costs new end
sums-all costs old new count end sums all before after k lt = elim (cases_lt k (count + 1)) [
  | inl low ↦ before k low ∙ sums k low
  | inr ge ↦ after k ge lt ∙ sums count (omega arith) ∙ sym (first_there (length costs) count costs (omega arith)) ∙ first_there (length costs) k costs (omega arith)
]

-- there are at most 256 costs
pub costs-few : (inst : Instance) (g : Group) → length (splitting_costs (problem_of inst) (members g)) ≤ 256
costs-few inst g =
    let p = problem_of inst in
    let ts = splitting p (members g) in
    let l = length-upward (map p.cost ts) in
    let m = long p.cost ts in
    let l1 = length-passing (splits p (members g)) p.tests in
    let l2 = ap length (passing-all (splits p (members g)) p.tests) in
    let few = inst.valid.tests in
    omega arith
  where
    long : (f : ℕ → ℕ) (xs : List ℕ) → length (map f xs) ≡ length xs
    long f [] = refl
    long f (x ∷ xs) = ap suc (long f xs)

-- each sum is small
pub sums-small : (inst : Instance) (g : Group) (count : ℕ) → sum_first count (splitting_costs (problem_of inst) (members g)) ≤ 256000000
sums-small inst g count =
    let p = problem_of inst in
    let ts = splitting p (members g) in
    let s = sum-upward (map p.cost ts) in
    let m = sum-map-le p.cost 1000000 ts (λ t i. (inst.valid.costs t (splitting-there p (members g) t i)).1) in
    let l1 = length-passing (splits p (members g)) p.tests in
    let l2 = ap length (passing-all (splits p (members g)) p.tests) in
    let few = inst.valid.tests in
    let f = sum_first-le count (splitting_costs p (members g)) in
    omega arith

-- what is made of small sums fits
pub made-fits : (w r a b : ℕ) → r ≤ w → w ≤ 4097000000 → a ≤ 256000000 → b ≤ 256000000 → (w - r) * a + r * b ≤ 1048832000000000000
made-fits w r a b le small ha hb =
    let f = product-le (w - r) a (w - r) 256000000 (omega arith) ha in
    let g = product-le r b r 256000000 (omega arith) hb in
    omega arith

-- each sum of an estimate is small
pub each-small : (inst : Instance) (g : Group) (sums : List ℕ) → AreSums (splitting_costs (problem_of inst) (members g)) sums 258 → (count : ℕ) → count < 258 → get_or sums count 0 ≤ 256000000
each-small inst g sums are count lt = let e = are count lt in let f = sums-small inst g count in omega arith
