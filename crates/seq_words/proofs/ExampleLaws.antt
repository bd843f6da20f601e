-- What the tests ask on the star of four faults: its two groups are real, and what a seat knows of them allows the raises and the
-- cap. The numbers are computed.
use Rattle.std.proofs.Common.{◌≡◌, ◌≢◌, ◌≤◌, ℕ, List, [], ◌∷◌, refl, sym, ap, ◌∙◌, arith, subst, lit<, get_or}
use Rattle.std.specs.Prelude.{true}
use Rattle.std.specs.List.{filter_map}
use Rattle.seq_theory.specs.Problem.{Problem, IsWeighed, AreTold, all_classes, splitting, pass_part}
use Rattle.seq_theory.specs.Bound.{bound, step_sum}
use Rattle.seq_theory.specs.Huffman.{huff}
use Rattle.seq_theory.specs.Below.{passing_below}
use Rattle.seq_theory.specs.Greedy.{one_step, by_parts, greedy_test, greedy_cost}
use Rattle.seq_theory.specs.Graph.{IsWanted, IsReal, root, part, step_value}
use Rattle.seq_theory.specs.Rows.{no_value, most_low, least_up, known_up}
use Rattle.seq_theory.specs.Rows.{Row as TheoryRow}
use Rattle.seq_theory.proofs.WantedLaws.{one_step-wanted}
use Rattle.seq_theory.proofs.ValLaws.{least_of-first}
use Rattle.seq_inst.specs.declared.instance.Instance.{Instance}
use Rattle.seq_inst.specs.Instances.{problem_of}
use Rattle.seq_words.specs.declared.view.View.{View}
use Rattle.seq_core.specs.Words.{classes_of}
use Rattle.seq_words.specs.Knowledge.{told_of, problem_in, known, known_rows, group_at, MayRaise, MayCap}
use Rattle.seq_words.specs.Rule.{opener}
use Rattle.seq_words.specs.Plays.{as_worker, published, learnt, hears_low, hears_up}
use Rattle.seq_words.specs.Seats.{MayPublish}
use Rattle.seq_words.specs.Examples.{star, all_bits, passing_bits}

all_is : classes_of all_bits ≡ 0 ∷ 1 ∷ 2 ∷ 3 ∷ 4 ∷ []
unfolding passing_below
all_is = refl

passing_is : classes_of passing_bits ≡ 0 ∷ 2 ∷ 3 ∷ 4 ∷ []
unfolding passing_below
passing_is = refl

star_sum : step_sum star (bound star) (all_classes star) 0 ≡ 13
unfolding huff bound
star_sum = refl

star_step : one_step star (all_classes star) ≡ 13
unfolding huff bound one_step
star_step = refl

star_passing : pass_part star 0 (all_classes star) ≡ 0 ∷ 2 ∷ 3 ∷ 4 ∷ []
star_passing = refl

star_real : (inst : Instance) → problem_of inst ≡ star → IsReal (problem_of inst) (classes_of all_bits)
star_real inst is = subst (λ (q : Problem). IsReal q (classes_of all_bits)) (sym is) (subst (IsReal star) (sym all_is) record { wanted = root; goals = refl })

passing_real : (inst : Instance) → problem_of inst ≡ star → IsReal (problem_of inst) (classes_of passing_bits)
passing_real inst is =
    let weighed = subst IsWeighed is inst.stands.weighed in
    let told = subst AreTold is inst.stands.told in
    let a = star_sum in
    let b = star_step in
    let wanted : IsWanted star (part star 0 true (all_classes star)) = one_step-wanted star (all_classes star) 0 true weighed told root refl (lit< tt) refl (omega arith) in
    subst (λ (q : Problem). IsReal q (classes_of passing_bits)) (sym is) (subst (IsReal star) (sym passing_is) record { wanted = wanted; goals = refl })

pub may_first : (inst : Instance) → problem_of inst ≡ star → MayPublish (opener inst 2) 0 (record { 0 = all_bits })
may_first inst is = record { next = refl; room = lit< tt; real = star_real inst is; new = λ other h. absurd (omega arith) }

-- what the scribe knows after one group and after two, and a worker that has learnt both
abbrev pub scribe_one : Instance → View
scribe_one inst = published 0 all_bits (opener inst 2)

abbrev pub scribe_two : Instance → View
scribe_two inst = published 1 passing_bits (scribe_one inst)

abbrev pub worker_two : Instance → View
worker_two inst = learnt (as_worker (opener inst 2)) (scribe_two inst)

second-apart : (xs ys : List ℕ) → xs ≡ ys → get_or xs 1 0 ≡ 1 → get_or ys 1 0 ≡ 2 → ⊥
second-apart xs ys e a b = let same = ap (λ (l : List ℕ). get_or l 1 0) e in omega arith

apart : classes_of all_bits ≢ classes_of passing_bits
apart e = second-apart _ _ (sym all_is ∙ (e ∙ passing_is)) refl refl

pub may_second : (inst : Instance) → problem_of inst ≡ star → MayPublish (scribe_one inst) 1 (record { 0 = passing_bits })
may_second inst is = record {
  next = refl;
  room = lit< tt;
  real = passing_real inst is;
  new = λ other h. let e : 0 ≡ other = omega arith in subst (λ z. classes_of (known (scribe_one inst) z).bits ≢ classes_of passing_bits) e apart;
}

abbrev two_rows : ℕ → ℕ → ℕ → ℕ → List TheoryRow
two_rows l u m w = record { group = 0 ∷ 1 ∷ 2 ∷ 3 ∷ 4 ∷ []; low = l; up = u } ∷ record { group = 0 ∷ 2 ∷ 3 ∷ 4 ∷ []; low = m; up = w } ∷ []

star_most : (l u m w : ℕ) → most_low star (two_rows l u m w) (0 ∷ 2 ∷ 3 ∷ 4 ∷ []) ≡ 9
unfolding huff bound
star_most l u m w = refl

star_greedy : greedy_cost star (0 ∷ 2 ∷ 3 ∷ 4 ∷ []) ≡ 9
unfolding huff bound by_parts greedy_test
star_greedy = refl

star_least : (rows : List TheoryRow) → least_up star rows (0 ∷ 2 ∷ 3 ∷ 4 ∷ []) ≤ 9
star_least rows =
    let first = least_of-first (greedy_cost star (0 ∷ 2 ∷ 3 ∷ 4 ∷ [])) (filter_map (step_value star (known_up star rows) (0 ∷ 2 ∷ 3 ∷ 4 ∷ [])) (splitting star (0 ∷ 2 ∷ 3 ∷ 4 ∷ []))) in
    let g = star_greedy in
    omega arith

-- what a seat allows that knows both groups, with some low and up of the second
module _ (inst : Instance) (is : problem_of inst ≡ star) (x : ℕ) where
  most_is : (m w : ℕ) (v : View) → v.told ≡ told_of inst → known_rows v.known ≡ record { group = classes_of all_bits; low = 0; up = no_value } ∷ record { group = classes_of passing_bits; low = m; up = w } ∷ [] → group_at 1 v ≡ classes_of passing_bits
      → x ≤ 9 → x ≤ most_low (problem_in v.told) (known_rows v.known) (group_at 1 v)
  most_is m w v told rows group le =
      let p : problem_in v.told ≡ star = ap problem_in told ∙ is in
      let rows2 : known_rows v.known ≡ two_rows 0 no_value m w = rows ∙ (λ k. record { group = all_is k; low = 0; up = no_value } ∷ record { group = passing_is k; low = m; up = w } ∷ []) in
      let e : most_low (problem_in v.told) (known_rows v.known) (group_at 1 v) ≡ 9 = (λ k. most_low (p k) (rows2 k) ((group ∙ passing_is) k)) ∙ star_most 0 no_value m w in
      omega arith

pub may_raise : (inst : Instance) → problem_of inst ≡ star → MayRaise (worker_two inst) 1 9
may_raise inst is = record { there = refl; whole = refl; allowed = most_is inst is 9 0 no_value (worker_two inst) refl refl refl (omega arith) }

pub may_cap : (inst : Instance) → problem_of inst ≡ star → (n : ℕ) → MayCap (hears_low 1 n (worker_two inst)) 1 9
may_cap inst is n = record {
  there = refl;
  whole = refl;
  allowed =
      let l = star_least (known_rows (hears_low 1 n (worker_two inst)).known) in
      subst (λ (q : Problem). least_up q (known_rows (hears_low 1 n (worker_two inst)).known) (classes_of passing_bits) ≤ 9) (sym is)
      (subst (λ (g : List ℕ). least_up star (known_rows (hears_low 1 n (worker_two inst)).known) g ≤ 9) (sym passing_is) l);
}

pub may_again : (inst : Instance) → problem_of inst ≡ star → (n m : ℕ) → MayRaise (hears_up 1 m (hears_low 1 n (worker_two inst))) 1 5
may_again inst is n m = record { there = refl; whole = refl; allowed = most_is inst is 5 n m (hears_up 1 m (hears_low 1 n (worker_two inst))) refl refl refl (omega arith) }
