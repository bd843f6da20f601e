-- What a walk does at a group is allowed: a part that it enters is real, by the law of walks; a part in which it goes on is
-- smaller; and where both parts are closed, what they count may be both raised to and capped to.
use Rattle.std.proofs.Common.{◌≡◌, ◌≢◌, ℕ, zero, suc, ◌<◌, ◌≤◌, max, List, [], ◌∷◌, ◌++◌, length, get_or, refl, sym, ap, ◌∙◌, arith, inl, inr, subst, Some, None, length-append}
use Rattle.std.specs.Prelude.{Bool, true, false, cond}
use Rattle.std.proofs.lemmas.Bool.{cases_Bool}
use Rattle.seq_theory.specs.Problem.{Problem, IsIn, IsWithin, is_end, splitting, pass_part, fail_part}
use Rattle.seq_theory.specs.Laws.{WalksHold}
use Rattle.seq_theory.specs.Bound.{bound, step_sum}
use Rattle.seq_theory.specs.Graph.{part, IsWanted}
use Rattle.seq_theory.specs.Rows.{Row as PlainRow, no_value, row_for, up_or, known_low, known_up}
use Rattle.seq_theory.proofs.GreedyLaws.{bound-le-least}
use Rattle.seq_theory.proofs.GroupLaws.{pass_part_smaller, fail_part_smaller}
use Rattle.seq_theory.proofs.PartsRecursion.{splitting-splits, splitting-there}
use Rattle.seq_theory.proofs.LeastLaws.{least, IsLeast-least, IsLeast-one}
use Rattle.seq_inst.specs.declared.group.Group.{Group}
use Rattle.seq_inst.specs.declared.instance.Instance.{Instance}
use Rattle.seq_inst.specs.declared.outcome.Row.{Row}
use Rattle.seq_inst.specs.Members.{members}
use Rattle.seq_inst.specs.Instances.{problem_of}
use Rattle.seq_core.specs.RowsOf.{row_of as row_from, rows_of as rows_from}
use Rattle.seq_graph.proofs.RowLaws.{row-none}
use Rattle.seq_graph.specs.declared.steps.Step.{Step}
use Rattle.seq_graph.specs.declared.steps.Knowledge.{Knowledge}
use Rattle.seq_graph.specs.declared.steps.Knowledge.TheVariants.{Unknown, Open, Closed}
use Rattle.seq_graph.specs.declared.node.Node.{Node}
use Rattle.seq_graph.specs.Numbered.{Numbered, HasNumber}
use Rattle.seq_core.specs.Settled.{value_or}
use Rattle.seq_graph.specs.declared.graph.Count.{Count}
use Rattle.seq_graph.specs.Known.{AreRows, AreKnown, count_of, row_at, group_at, Narrows, IsClosedAt}
use Rattle.seq_graph.specs.Parts.{IsUnknown, IsOpenAt, IsKnowledge}
use Rattle.seq_graph.specs.Steps.{IsNew, IsOpenBelow, IsStep, ClosesBelow, Enters, least_test, step_by}
use Rattle.seq_graph.specs.Choosing.{IsWantedBelow, WantsBoth}
use Rattle.seq_graph.specs.Walks.{HasMoved}
use Rattle.seq_graph.proofs.KnownLaws.{IsLight, light-group, known_low-small, known_low-le, bound-le-known_low, row-real, row-within, row-bounds}
use Rattle.seq_graph.proofs.PlaceLaws.{IsPlaced, place-found, place-none, row-at-place}
use Rattle.seq_graph.proofs.CountLaws.{count-read, up-given}
use Rattle.seq_graph.proofs.CountChanges.{count-row}
use Rattle.seq_graph.proofs.ChoiceLaws.{IsFirst}
use Rattle.seq_graph.proofs.EventLaws.{length-Narrows, group-Narrows}
use Rattle.seq_graph.proofs.OpenLaws.{known-between, left-entered, left-narrows, left-closes}

-- ---- what is known of a part, by what it counts ----

module _ (inst : Instance) (v : Numbered) (rows : List Row) (kept : List Node) (counts : List Count) (known : AreKnown (problem_of inst) v rows kept counts) where
  counted : (g : List ℕ) (n : ℕ) (x : Count) → HasNumber v g n → x ≡ get_or counts n x → x ≡ count_of (problem_of inst) rows g
  counted = count-read (problem_of inst) v rows kept counts known

  -- without a row it counts an up only where it has one goal
  none-up : (g : List ℕ) → row_for (rows_from rows) g ≡ None → known_up (problem_of inst) (rows_from rows) g ≡ cond (is_end (problem_of inst) g) (Some 0) None
  none-up g none = rw none refl

  none-row : (g : List ℕ) (n : ℕ) (x : Count) → HasNumber v g n → x ≡ get_or counts n x → x.place ≡ None → row_for (rows_from rows) g ≡ None
  none-row g n x has read none = place-none rows g (sym (ap (λ (c : Count). c.place) (counted g n x has read)) ∙ none)

  pub unknown-counted : (g : List ℕ) (n : ℕ) (x : Count) → HasNumber v g n → x ≡ get_or counts n x → x.place ≡ None → x.up ≡ no_value → IsUnknown (problem_of inst) rows g
  unknown-counted g n x has read none up = record {
    goals = elim (cases_Bool (is_end (problem_of inst) g)) [
      | inl y ↦ absurd (
          let e : x.up ≡ value_or (known_up (problem_of inst) (rows_from rows) g) = ap (λ (c : Count). c.up) (counted g n x has read) in
          let z : value_or (known_up (problem_of inst) (rows_from rows) g) ≡ 0 = rw y refl in
          let bad : ⊥ = omega arith in
          bad
          )
      | inr o ↦ o
    ];
    absent = none-row g n x has read none;
  }

  pub end-counted : (g : List ℕ) (n : ℕ) (x : Count) → HasNumber v g n → x ≡ get_or counts n x → x.place ≡ None → x.up ≢ no_value → known_up (problem_of inst) (rows_from rows) g ≡ Some (known_low (problem_of inst) (rows_from rows) g)
  end-counted g n x has read none up = elim (cases_Bool (is_end (problem_of inst) g)) [
    | inl y ↦ rw y refl
    | inr o ↦ absurd (up (ap (λ (c : Count). c.up) (counted g n x has read) ∙ ap value_or (none-up g (none-row g n x has read none) ∙ ap (λ b. cond b (Some 0) None) o)))
  ]

  pub placed : (g : List ℕ) (n place : ℕ) (x : Count) → HasNumber v g n → x ≡ get_or counts n x → x.place ≡ Some place → IsPlaced rows g place
  placed g n place x has read at = place-found rows g place (sym (ap (λ (c : Count). c.place) (counted g n x has read)) ∙ at)

  -- the count of a group with a row
  row-counted : (g : List ℕ) (n place : ℕ) (x : Count) → HasNumber v g n → x ≡ get_or counts n x → x.place ≡ Some place → x ≡ record { low = max (row_at rows place).low (bound (problem_of inst) g); up = (row_at rows place).up; place = Some place }
  row-counted g n place x has read at =
      let f = placed g n place x has read at in
      let goals : is_end (problem_of inst) g ≡ false = subst (λ h. is_end (problem_of inst) h ≡ false) (sym f.same) (row-real (problem_of inst) rows known.rows_are place f.in_range).goals in
      counted g n x has read ∙ count-row (problem_of inst) rows g (row_from (row_at rows place)) (Some place) goals f.row_is (sym (ap (λ (c : Count). c.place) (counted g n x has read)) ∙ at)

  -- a row whose low and up are equal has a low that is no less than the bound
  low-above : (place : ℕ) → place < length rows → (row_at rows place).low ≡ (row_at rows place).up → bound (problem_of inst) (members (group_at rows place)) ≤ (row_at rows place).low
  low-above place lt closed =
      let p = problem_of inst in
      let b = row-bounds p rows known.rows_are inst.stands.weighed inst.valid.told place lt in
      let b0 = b.0 in
      let b1 = b.1 in
      let low = bound-le-least p (members (group_at rows place)) inst.stands.weighed inst.valid.told (row-within p rows known.rows_are place lt) in
      omega arith

  pub open-counted : (g : List ℕ) (n : ℕ) (x : Count) (place : ℕ) → HasNumber v g n → x ≡ get_or counts n x → x.place ≡ Some place → x.low ≢ x.up → IsOpenAt rows g place
  open-counted g n x place has read at apart =
      let f = placed g n place x has read at in
      let e = row-counted g n place x has read at in
      let low : x.low ≡ max (row_at rows place).low (bound (problem_of inst) g) = ap (λ (c : Count). c.low) e in
      let up : x.up ≡ (row_at rows place).up = ap (λ (c : Count). c.up) e in
      let same = ap (bound (problem_of inst)) f.same in
      record {
        there = f.in_range;
        same = sym f.same;
        apart = λ closed. apart (let above = low-above place f.in_range closed in omega arith);
      }

  pub closed-counted : (g : List ℕ) (n : ℕ) (x : Count) (place : ℕ) → HasNumber v g n → x ≡ get_or counts n x → x.place ≡ Some place → x.low ≡ x.up → known_up (problem_of inst) (rows_from rows) g ≡ Some (known_low (problem_of inst) (rows_from rows) g)
  closed-counted g n x place has read at closed =
      let p = problem_of inst in
      let f = placed g n place x has read at in
      let c = counted g n x has read in
      let low : x.low ≡ known_low p (rows_from rows) g = ap (λ (y : Count). y.low) c in
      let within : IsWithin p g = known.numbers_are.within g n has in
      let light = subst (IsLight p) (sym f.same) (light-group inst (group_at rows place) (row-within p rows known.rows_are place f.in_range)) in
      let small = known_low-small inst rows known.rows_are g light in
      up-given p v rows kept counts known g n x has read (λ none. let bad : ⊥ = omega arith in bad) ∙ ap (λ m. Some m) (sym closed ∙ low)

-- a test that splits the group has smaller parts
pub wants-both : (p : Problem) (group : List ℕ) (t : ℕ) → IsIn t (splitting p group) → ((passed : Bool) → IsWanted p (part p t passed group)) → WantsBoth p group t
wants-both p group t i wanted = record {
  passing = record { wanted = wanted true; smaller = pass_part_smaller p t group (splitting-splits p group t i) };
  failing = record { wanted = wanted false; smaller = fail_part_smaller p t group (splitting-splits p group t i) };
}

module _ (law : WalksHold) (inst : Instance) (rows : List Row) (known : AreRows (problem_of inst) rows) where
  -- ---- both parts by the test of least sum are wanted ----

  wanted-part : (place t : ℕ) (passed : Bool) → place < length rows
      → IsFirst (step_sum (problem_of inst) (known_low (problem_of inst) (rows_from rows)) (members (group_at rows place))) (splitting (problem_of inst) (members (group_at rows place))) t
      → IsWanted (problem_of inst) (part (problem_of inst) t passed (members (group_at rows place)))
  wanted-part place t passed lt first =
      let p = problem_of inst in
      law p (known_low p (rows_from rows)) (members (group_at rows place)) t passed inst.valid.told (row-real p rows known place lt)
      (splitting-there p (members (group_at rows place)) t first.among) (splitting-splits p (members (group_at rows place)) t first.among)
      (bound-le-known_low p rows known)
      (λ x n within least_is.
      let a = known_low-le p rows known inst.stands.weighed inst.valid.told x within in
      let one = IsLeast-one p x (least p x) n (IsLeast-least p x inst.valid.told within) least_is in
      omega arith) first.least

  pub first-wants : (place t : ℕ) → place < length rows
      → IsFirst (step_sum (problem_of inst) (known_low (problem_of inst) (rows_from rows)) (members (group_at rows place))) (splitting (problem_of inst) (members (group_at rows place))) t
      → WantsBoth (problem_of inst) (members (group_at rows place)) t
  first-wants place t lt first = wants-both (problem_of inst) (members (group_at rows place)) t first.among (λ passed. wanted-part place t passed lt first)

-- ---- what the walk does ----

module _ (p : Problem) (rows : List Row) (group : List ℕ) where
  new-part : (g : Group) → IsWantedBelow p group (members g) → IsUnknown p rows (members g) → IsNew p rows (members g)
  new-part g below unknown = record {
    real = record { wanted = below.wanted; goals = unknown.goals };
    absent = row-none (rows_from rows) (members g) unknown.absent;
  }

  below-part : (g : Group) (next : ℕ) → IsWantedBelow p group (members g) → IsOpenAt rows (members g) next → IsOpenBelow rows group next
  below-part g next below at = record {
    there = at.there;
    smaller = (let s = below.smaller in let l = ap length at.same in omega arith);
    apart = at.apart;
  }

  -- whichever part comes first
  pub step-holds : (one : Group) (k : Knowledge) (other : Group) (m : Knowledge) → IsWantedBelow p group (members one) → IsWantedBelow p group (members other)
      → IsKnowledge p rows (members one) k → IsKnowledge p rows (members other) m → (k ≡ Closed → m ≡ Closed → ClosesBelow p rows group) → IsStep p rows group (step_by one k other m)
  step-holds one Unknown other m b1 b2 h1 h2 closes = new-part one b1 h1
  step-holds one (Open q) other Unknown b1 b2 h1 h2 closes = new-part other b2 h2
  step-holds one (Open q) other (Open r) b1 b2 h1 h2 closes = below-part one q b1 h1
  step-holds one (Open q) other Closed b1 b2 h1 h2 closes = below-part one q b1 h1
  step-holds one Closed other Unknown b1 b2 h1 h2 closes = new-part other b2 h2
  step-holds one Closed other (Open r) b1 b2 h1 h2 closes = below-part other r b2 h2
  step-holds one Closed other Closed b1 b2 h1 h2 closes = closes refl refl

  -- where both parts by the test of least sum are closed, so is the group
  pub closes : (t : ℕ) (pass fail : List ℕ) (k m : Knowledge) → t ≡ least_test p rows group → pass ≡ pass_part p t group → fail ≡ fail_part p t group → IsKnowledge p rows pass k → IsKnowledge p rows fail m
      → k ≡ Closed → m ≡ Closed → ClosesBelow p rows group
  closes t pass fail k m is ep ef hp hf ck cm = record {
    passing = subst (λ x. IsKnowledge p rows x Closed) (ep ∙ ap (λ n. pass_part p n group) is) (subst (IsKnowledge p rows pass) ck hp);
    failing = subst (λ x. IsKnowledge p rows x Closed) (ef ∙ ap (λ n. fail_part p n group) is) (subst (IsKnowledge p rows fail) cm hf);
  }

-- ---- the part that comes first ----

module _ (p : Problem) (rows : List Row) (known : AreRows p rows) where
  none-some : (r : PlainRow) → None ≡ Some r → ⊥
  none-some r e = let bad : ⊥ = cc in bad

  unknown-alone : (part : List ℕ) (k : Knowledge) → IsUnknown p rows part → IsKnowledge p rows part k → k ≡ Unknown
  unknown-alone part Unknown u h = refl
  unknown-alone part (Open place) u h = absurd (
      let found = subst (λ g. row_for (rows_from rows) g ≡ Some (row_from (row_at rows place))) h.same (row-at-place rows place known.distinct h.there) in
      let bad : ⊥ = none-some (row_from (row_at rows place)) (sym u.absent ∙ found) in
      bad
      )
  unknown-alone part Closed u h = absurd (no-up (known_low p (rows_from rows) part) (sym (ap (λ b. cond b (Some 0) (up_or (row_for (rows_from rows) part))) u.goals ∙ ap up_or u.absent) ∙ h))
    where
      no-up : (n : ℕ) → None ≡ Some n → ⊥
      no-up n e = let bad : ⊥ = cc in bad

  pub enters-one : (one other : Group) (k m : Knowledge) (step : Step) → step ≡ step_by one k other m → IsKnowledge p rows (members one) k → (part : List ℕ) → members one ≡ part → IsUnknown p rows part → Enters part step
  enters-one one other k m step is h part e u = subst (Enters part) (sym (is ∙ ap (λ x. step_by one x other m) (unknown-alone (members one) k (subst (IsUnknown p rows) (sym e) u) h))) e

-- ---- after a turn ----

group-append : (rows : List Row) (r : Row) (k : ℕ) → k < length rows → group_at (rows ++ r ∷ []) k ≡ group_at rows k
group-append [] r k lt = absurd (let bad : ⊥ = omega arith in bad)
group-append (s ∷ rest) r zero lt = refl
group-append (s ∷ rest) r (suc k) lt = group-append rest r k (omega arith)

module _ (inst : Instance) (limit : ℕ) (old : List Row) where
  pub moved-enter : (r : Row) (entered new : List Row) → length old < limit → AreRows (problem_of inst) entered → Narrows (old ++ r ∷ []) entered → AreRows (problem_of inst) new → Narrows entered new → HasMoved (problem_of inst) limit old new
  moved-enter r entered new room known1 n1 known n2 =
      let l1 = length-Narrows (old ++ r ∷ []) entered n1 in
      let l2 = length-Narrows entered new n2 in
      let l0 = length-append old (r ∷ []) in
      record {
        rows_are = known;
        few = omega arith;
        keeps = λ k lt. (omega arith, group-Narrows entered new k n2 (omega arith) ∙ group-Narrows (old ++ r ∷ []) entered k n1 (omega arith) ∙ group-append old r k lt);
        less =
            (let a = left-entered limit old r entered room n1 (known-between inst entered known1) in
            let b = left-narrows limit entered new n2 (known-between inst new known) in
            omega arith);
      }

  pub moved-down : (turned new : List Row) → HasMoved (problem_of inst) limit old turned → AreRows (problem_of inst) new → Narrows turned new → HasMoved (problem_of inst) limit old new
  moved-down turned new m known n =
      let l = length-Narrows turned new n in
      let few = m.few in
      record {
        rows_are = known;
        few = omega arith;
        keeps = λ k lt. let f = m.keeps k lt in let f0 = f.0 in (omega arith, group-Narrows turned new k n f.0 ∙ f.1);
        less = (let a = m.less in let b = left-narrows limit turned new n (known-between inst new known) in omega arith);
      }

  pub moved-close : (new : List Row) (place : ℕ) → length old ≤ limit → place < length old → (row_at old place).low ≢ (row_at old place).up → AreRows (problem_of inst) new → Narrows old new → IsClosedAt new place → HasMoved (problem_of inst) limit old new
  moved-close new place few lt apart known n closed =
      let l = length-Narrows old new n in
      record {
        rows_are = known;
        few = omega arith;
        keeps = λ k lt. (omega arith, group-Narrows old new k n lt);
        less = left-closes limit old new place n (known-between inst new known) lt apart closed;
      }
