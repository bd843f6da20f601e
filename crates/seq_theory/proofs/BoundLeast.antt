-- The bound is at most what each right strategy costs.
use Rattle.std.proofs.Common.{◌≡◌, ℕ, zero, suc, ◌+◌, ◌*◌, ◌/◌, ◌%◌, ◌≤◌, List, [], ◌∷◌, length, refl, ap, arith, inl, inr}
use Rattle.std.specs.Prelude.{false, map}
use Rattle.std.proofs.lemmas.Bool.{cases_Bool, true≢false}
use Rattle.std.proofs.Math.Nat.{mul-le-mul_left}
use Rattle.seq_theory.specs.Problem.{Problem, IsWithin, IsWeighed, count_up, splits, splitting, weight_of, is_end}
use Rattle.seq_theory.specs.Tree.{Tree, asked, costs_of, tree_cost, AsksOnly, Solves}
use Rattle.seq_theory.specs.Huffman.{huff}
use Rattle.seq_theory.specs.Bound.{goal_weights, sum_first, next_after, bound_from, splitting_costs, bound}
use Rattle.seq_theory.proofs.UpwardLaws.{AtMost, IsUp, IsUp-upward}
use Rattle.seq_theory.proofs.HuffmanLaws.{length-upward}
use Rattle.seq_theory.proofs.GroupLaws.{IsIn-filter}
use Rattle.seq_theory.proofs.CostLaws.{Settles, Settles-from_right}
use Rattle.seq_theory.proofs.LeastLaws.{IsIn-count_up}
use Rattle.seq_theory.proofs.BoundLaws.{huff-split_weights}
use Rattle.seq_theory.proofs.PathLaws.{splits_met, Offers, way, met_sum, met_sum-is}

abbrev AllAtLeast : ℕ → List ℕ → Type 0
AllAtLeast k [] = Unit {0}
AllAtLeast k (x ∷ xs) = (k ≤ x) × AllAtLeast k xs

-- the first q numbers are at most k, and the others at least k
abbrev Turns : ℕ → ℕ → List ℕ → Type 0
Turns k zero xs = AllAtLeast k xs
Turns k (suc q) [] = Unit {0}
Turns k (suc q) (x ∷ xs) = (x ≤ k) × Turns k q xs

-- the supporting line of the sums of the first numbers of a list in upward order
line : (k q d : ℕ) (xs : List ℕ) → Turns k q xs → d ≤ length xs → sum_first q xs + d * k ≤ sum_first d xs + q * k
line k zero zero xs t le = omega arith
line k zero (suc d) [] t le = absurd (let h : ⊥ = omega arith in h)
line k zero (suc d) (x ∷ xs) t le = omega (arith, line k zero d xs t.1 (omega arith))
line k (suc q) zero [] t le = omega arith
line k (suc q) (suc d) [] t le = absurd (let h : ⊥ = omega arith in h)
line k (suc q) zero (x ∷ xs) t le = omega (arith, line k q zero xs t.1 (omega arith))
line k (suc q) (suc d) (x ∷ xs) t le = omega (arith, line k q d xs t.1 (omega arith))

-- where the line touches
record Touches (m q : ℕ) (xs : List ℕ) : Type 0 where
  slope : ℕ
  high : m ≤ slope
  turns : Turns slope q xs
  next : next_after q xs ≤ slope

all_at_least : (k : ℕ) (xs : List ℕ) → AtMost k xs → IsUp xs → AllAtLeast k xs
all_at_least k [] h up = tt
all_at_least k (x ∷ xs) h up = (h, all_at_least k xs (lower k x xs h up.0) up.1)
  where
    lower : (k x : ℕ) (xs : List ℕ) → k ≤ x → AtMost x xs → AtMost k xs
    lower k x [] le h = tt
    lower k x (y ∷ ys) le h = omega arith

touches : (m q : ℕ) (xs : List ℕ) → IsUp xs → AtMost m xs → Touches m q xs
touches m zero [] up h = record { slope = m; high = omega arith; turns = tt; next = omega arith }
touches m zero (x ∷ xs) up h = record { slope = x; high = h; turns = (omega arith, all_at_least x xs up.0 up.1); next = omega arith }
touches m (suc q) [] up h = record { slope = m; high = omega arith; turns = tt; next = omega arith }
touches m (suc q) (x ∷ xs) up h =
    let t = touches x q xs up.1 up.0 in
    let le = t.high in
    record { slope = t.slope; high = omega arith; turns = (t.high, t.turns); next = t.next }

AtMost-zero : (xs : List ℕ) → AtMost 0 xs
AtMost-zero [] = tt
AtMost-zero (x ∷ xs) = omega arith

module _ (p : Problem) where
  offers_all : (xs : List ℕ) → Offers p (splitting p xs) xs
  unfolding Offers
  offers_all xs t there e = IsIn-filter (splits p xs) t (count_up 0 p.tests) (IsIn-count_up t 0 p.tests (omega arith) (omega arith)) e

  -- one class's share of the sum
  share : (w base d k paid line : ℕ) → base + d * k ≤ paid + line → w * base + k * (w * d) ≤ w * paid + w * line
  share w base d k paid line h = omega (arith, mul-le-mul_left w h)

  -- the line, summed over the classes
  sum_line : (tree : Tree) (group xs costs : List ℕ) (k q : ℕ) → ((c : ℕ) → sum_first q costs + splits_met p tree group c * k ≤ costs_of p (asked p tree c) + q * k) → weight_of p xs * sum_first q costs + k * met_sum p tree group xs ≤ tree_cost p tree xs + weight_of p xs * (q * k)
  sum_line tree group [] costs k q h = omega arith
  sum_line tree group (c ∷ xs) costs k q h =
      let f1 = sum_line tree group xs costs k q h in
      let f2 = share (p.weight c) (sum_first q costs) (splits_met p tree group c) k (costs_of p (asked p tree c)) (q * k) (h c) in
      omega arith

  -- where it touches
  at_touch : (W H S base next k q r cost : ℕ) → H ≡ W * q + r → H ≤ S → next ≤ k → W * base + k * S ≤ cost + W * (q * k) → W * base + r * next ≤ cost
  at_touch W H S base next k q r cost e le1 le2 h =
      let f1 = mul-le-mul_left k le1 in
      let f2 = ap (λ n. k * n) e in
      let f3 = mul-le-mul_left r le2 in
      omega arith

  pub weight-positive : (xs : List ℕ) → IsWeighed p → IsWithin p xs → 1 ≤ length xs → 1 ≤ weight_of p xs
  weight-positive [] w within some = absurd (let h : ⊥ = omega arith in h)
  weight-positive (c ∷ xs) w within some = let f = w.positive c (within c (inl refl)) in omega arith

  pub some_class : (xs : List ℕ) → is_end p xs ≡ false → 1 ≤ length xs
  some_class [] e = absurd (true≢false e)
  some_class (x ∷ xs) e = omega arith

  bound_from-le : (tree : Tree) (xs : List ℕ) → IsWeighed p → 1 ≤ length xs → IsWithin p xs → AsksOnly p.tests tree → Settles p tree xs → bound_from (weight_of p xs) (huff (goal_weights p xs)) (splitting_costs p xs) ≤ tree_cost p tree xs
  bound_from-le tree xs w some within only s =
      let W = weight_of p xs in
      let H = huff (goal_weights p xs) in
      let costs = splitting_costs p xs in
      let q = H / W in
      let r = H % W in
      let positive = weight-positive xs w within some in
      let e : H ≡ W * q + r = omega arith in
      let t = touches 0 q costs (IsUp-upward (map p.cost (splitting p xs))) (AtMost-zero costs) in
      let each = (λ (c : ℕ).
      let m = way p tree only (splitting p xs) xs c (offers_all xs) in
      let few = m.few in
      let f1 = length-upward (map p.cost (splitting p xs)) in
      let f2 = length-map p.cost (splitting p xs) in
      let f3 = line t.slope q (splits_met p tree xs c) costs t.turns (omega arith) in
      let f4 = m.costs in
      let goal : sum_first q costs + splits_met p tree xs c * t.slope ≤ costs_of p (asked p tree c) + q * t.slope = omega arith in
      goal) in
      let total = sum_line tree xs xs costs t.slope q each in
      let f5 = huff-split_weights p w tree xs some within s in
      let f6 = met_sum-is p tree xs in
      let le : H ≤ met_sum p tree xs xs = omega arith in
      at_touch W H (met_sum p tree xs xs) (sum_first q costs) (next_after q costs) t.slope q r (tree_cost p tree xs) e le t.next total
    where
      length-map : (f : ℕ → ℕ) (xs : List ℕ) → length (map f xs) ≡ length xs
      length-map f [] = refl
      length-map f (x ∷ xs) = ap suc (length-map f xs)

  pub bound-le : (tree : Tree) (xs : List ℕ) → IsWeighed p → IsWithin p xs → Solves p tree xs → bound p xs ≤ tree_cost p tree xs
  unfolding bound
  bound-le tree xs w within s = elim (cases_Bool (is_end p xs)) [
    | inl e ↦ rw e (omega arith)
    | inr e ↦ rw e (bound_from-le tree xs w (some_class xs e) within s.there (Settles-from_right p tree xs s.right))
  ]
