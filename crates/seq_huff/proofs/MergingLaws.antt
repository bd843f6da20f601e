-- The two queues of a merge as parts of one list: the weights that are left are its end, and the sums stand in the places of
-- weights that were taken. A sum is written before the first weight that is left, since two numbers were taken for each.
use Rattle.std.proofs.Common.{◌≡◌, ℕ, suc, ◌+◌, ◌*◌, ◌^◌, ◌-◌, ◌<◌, ◌≤◌, List, [], ◌∷◌, ◌++◌, length, take, drop, set, refl, sym, ap, ◌∙◌, arith, subst, add-one, length-set}
use Rattle.std.specs.Prelude.{sum}
use Rattle.std.proofs.Math.Seq.{take-suc-set}
use Rattle.std.proofs.lemmas.List.{drop-append-le, drop-set-lt, length-take-le, length-drop}
use Rattle.seq_theory.specs.Huffman.{upward, merging}
use Rattle.seq_theory.proofs.UpwardLaws.{IsUp, IsUp-upward}
use Rattle.seq_huff.specs.Queues.{TakesLeast}
use Rattle.seq_huff.proofs.SumLaws.{merging-le}
use Rattle.seq_huff.proofs.QueueLaws.{placed, Queues, merged, queues_begin, placed-none, length-placed, merging-one}

-- what holds between two merges: l is the list as it stands, ws the weights as they were, upwards
pub record Merging (ws l : List ℕ) (weight sum made cost : ℕ) : Type 0 where
  pub long : length l ≡ length ws
  pub weight_le : weight ≤ length l
  pub sum_le : sum ≤ made
  pub both : weight + sum ≡ 2 * made
  pub floor : ℕ
  pub queues : Queues floor (drop weight l) (drop sum (take made l))
  pub total : cost + merging (length ws - made) (placed (drop weight l) (drop sum (take made l))) ≡ merging (length ws) ws

pub merging-begin : (ws : List ℕ) → ws ≡ upward ws → Merging ws ws 0 0 0 0
merging-begin ws is =
    let up : IsUp ws = subst IsUp (sym is) (IsUp-upward ws) in
    let n : length ws - 0 ≡ length ws = omega arith in
    let e : merging (length ws - 0) (placed ws []) ≡ merging (length ws) ws = ap (λ k. merging k (placed ws [])) n ∙ ap (merging (length ws)) (placed-none ws up) in
    record {
      long = refl;
      weight_le = omega arith;
      sum_le = omega arith;
      both = refl;
      floor = 0;
      queues = queues_begin ws up;
      total = omega arith;
    }

-- what a merge does
pub record MergedOnce (ws l : List ℕ) (weight sum made cost x y : ℕ) : Type 0 where
  pub after : Merging ws (set l made (x + y)) weight sum (made + 1) (cost + (x + y))
  pub fits : cost + (x + y) ≤ merging (length ws) ws

pub merged-once : (ws l : List ℕ) (weight sum weight1 sum1 weight2 sum2 made cost x y : ℕ) → made + 1 < length ws → Merging ws l weight sum made cost
    → TakesLeast (drop weight l) (drop sum (take made l)) x (drop weight1 l) (drop sum1 (take made l))
    → TakesLeast (drop weight1 l) (drop sum1 (take made l)) y (drop weight2 l) (drop sum2 (take made l))
    → weight2 ≤ length l → sum2 ≤ made → weight2 + sum2 ≡ 2 + (weight + sum)
    → MergedOnce ws l weight2 sum2 made cost x y
merged-once ws l weight sum weight1 sum1 weight2 sum2 made cost x y lt m t1 t2 le1 le2 two =
    let both = m.both in
    let long = m.long in
    let k : ℕ = length ws - (made + 1) in
    let d = merged k m.floor x y (drop weight l) (drop sum (take made l)) (drop weight1 l) (drop sum1 (take made l)) (drop weight2 l) (drop sum2 (take made l)) m.queues t1 t2 in
    let here : made < length l = omega arith in
    let len : length (take made l) ≡ made = length-take-le made l (omega arith) in
    let len2 : length (set l made (x + y)) ≡ length l = length-set l made (x + y) in
    let weights : drop weight2 (set l made (x + y)) ≡ drop weight2 l = drop-set-lt weight2 l made (x + y) (omega arith) in
    let grown : take (made + 1) (set l made (x + y)) ≡ take made l ++ (x + y) ∷ [] = ap (λ n. take n (set l made (x + y))) (add-one made) ∙ take-suc-set l made (x + y) here in
    let sums : drop sum2 (take (made + 1) (set l made (x + y))) ≡ drop sum2 (take made l) ++ (x + y) ∷ [] = ap (drop sum2) grown ∙ drop-append-le sum2 (take made l) ((x + y) ∷ []) (omega arith) in
    let steps : length ws - made ≡ suc k = omega arith in
    let cost_is : merging (length ws - made) (placed (drop weight l) (drop sum (take made l))) ≡ (x + y) + merging k (placed (drop weight2 l) (drop sum2 (take made l) ++ (x + y) ∷ [])) = ap (λ n. merging n (placed (drop weight l) (drop sum (take made l)))) steps ∙ d.cost in
    let back : merging k (placed (drop weight2 (set l made (x + y))) (drop sum2 (take (made + 1) (set l made (x + y))))) ≡ merging k (placed (drop weight2 l) (drop sum2 (take made l) ++ (x + y) ∷ [])) =
    ap (λ f. merging k (placed f (drop sum2 (take (made + 1) (set l made (x + y)))))) weights ∙ ap (λ q. merging k (placed (drop weight2 l) q)) sums in
    let total = m.total in
    record {
      after = record {
        long = omega arith;
        weight_le = omega arith;
        sum_le = omega arith;
        both = omega arith;
        floor = y;
        queues = subst (λ f. Queues y f (drop sum2 (take (made + 1) (set l made (x + y))))) (sym weights) (subst (λ q. Queues y (drop weight2 l) q) (sym sums) d.rest);
        total = omega arith;
      };
      fits = omega arith;
    }

-- at the end at most one number is left
pub merging-end : (ws l : List ℕ) (weight sum made cost : ℕ) → length ws ≤ made + 1 → made ≤ length ws → Merging ws l weight sum made cost → cost ≡ merging (length ws) ws
merging-end ws l weight sum made cost most least m =
    let long = m.long in
    let both = m.both in
    let le1 = m.weight_le in
    let le2 = m.sum_le in
    let total = m.total in
    let l1 = length-drop weight l in
    let l2 = length-drop sum (take made l) in
    let l3 : length (take made l) ≡ made = length-take-le made l (omega arith) in
    let l4 = length-placed (drop weight l) (drop sum (take made l)) in
    let left = merging-one (length ws - made) (placed (drop weight l) (drop sum (take made l))) (omega arith) in
    omega arith

pub merging-fits : (ws : List ℕ) (n : ℕ) → length ws * sum ws < 2 ^ 64 → n ≤ merging (length ws) ws → n < 2 ^ 64
merging-fits ws n h le = let f = merging-le (length ws) ws in omega arith
