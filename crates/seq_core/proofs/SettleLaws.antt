-- Where the rows of all smaller groups are settled, what the parts of a group count is their low and their value over the
-- entered groups; so the most to which the group may be raised is its low, and the least to which it may be capped its
-- value. A row that may settle has settled once it is raised and capped so, and when each had its turn all rows have.
use Rattle.std.proofs.Common.{◌≡◌, ◌≢◌, ◌⊎◌, ℕ, suc, ◌*◌, ◌<◌, ◌≤◌, max, min, List, [], ◌∷◌, length, refl, sym, ap, ◌∙◌, arith, inl, inr, subst, Option, Some, None}
use Rattle.std.specs.Prelude.{true, false, cond, nat_eq, map}
use Rattle.std.specs.List.{filter_map}
use Rattle.std.proofs.lemmas.Bool.{cases_Bool, cases_order, ne_eqb}
use Rattle.std.proofs.lemmas.List.{get_or-map, length-map}
use Rattle.seq_theory.specs.Problem.{Problem, IsWithin, pass_part, fail_part, splitting, weight_of, is_end, least_of}
use Rattle.seq_theory.specs.Bound.{bound, step_sum}
use Rattle.seq_theory.specs.Greedy.{greedy_cost}
use Rattle.seq_theory.specs.Graph.{is_entered, low, val, step_value, sum_with}
use Rattle.seq_theory.specs.Rows.{row_for as theory_row}
use Rattle.seq_theory.specs.Rows.{no_value, IsSound, low_or, up_or, known_low, known_up, most_low, least_up}
use Rattle.seq_theory.proofs.GroupLaws.{pass_part_smaller, fail_part_smaller}
use Rattle.seq_theory.proofs.PartsRecursion.{map-agree, filter_map-agree, step_sum-agree, splitting-splits}
use Rattle.seq_theory.proofs.LowLaws.{low-end, low-entered, low-other, bound-le-low}
use Rattle.seq_theory.proofs.ValLaws.{val-end, val-entered, val-other, least_of-first}
use Rattle.seq_inst.specs.declared.group.Group.{Group}
use Rattle.seq_inst.specs.declared.instance.Instance.{Instance}
use Rattle.seq_inst.specs.declared.outcome.Row.{Row}
use Rattle.seq_inst.specs.Members.{members}
use Rattle.seq_inst.specs.Instances.{problem_of}
use Rattle.seq_huff.specs.Bounds.{greatest_cost}
use Rattle.seq_core.specs.RowsOf.{row_of, rows_of, place_of_group}
use Rattle.seq_core.specs.Changes.{new_row}
use Rattle.seq_core.specs.Settled.{groups_in, value_or, AreGroups, settled_row, settled_rows, first_row, row_at, size_at, MaySettle, AreSettling, AreDoneBelow}
use Rattle.seq_core.proofs.TableLaws.{cases_place, place-found, place-absent, row-among, found-entered}
use Rattle.seq_core.proofs.EventLaws.{sound_are_groups}

pub same-groups : (xs ys : List Row) → length xs ≡ length ys → ((k : ℕ) → k < length ys → (row_at xs k).group ≡ (row_at ys k).group) → groups_in xs ≡ groups_in ys
same-groups [] [] e h = refl
same-groups [] (y ∷ ys) e h = absurd (let bad : ⊥ = omega arith in bad)
same-groups (x ∷ xs) [] e h = absurd (let bad : ⊥ = omega arith in bad)
same-groups (x ∷ xs) (y ∷ ys) e h =
    ap (λ (g : Group). members g ∷ groups_in xs) (h 0 (omega arith))
    ∙ ap (λ (l : List (List ℕ)). members y.group ∷ l) (same-groups xs ys (omega arith) (λ k lt. h (suc k) (omega arith)))

same-rows : (xs ys : List Row) → length xs ≡ length ys → ((k : ℕ) → k < length ys → row_at xs k ≡ row_at ys k) → xs ≡ ys
same-rows [] [] e h = refl
same-rows [] (y ∷ ys) e h = absurd (let bad : ⊥ = omega arith in bad)
same-rows (x ∷ xs) [] e h = absurd (let bad : ⊥ = omega arith in bad)
same-rows (x ∷ xs) (y ∷ ys) e h = ap (λ (r : Row). r ∷ xs) (h 0 (omega arith)) ∙ ap (λ l. y ∷ l) (same-rows xs ys (omega arith) (λ k lt. h (suc k) (omega arith)))

-- ---- what a smaller group counts ----

-- a value of a group that was entered fits a word
pub record HasValue (p : Problem) (entered : List (List ℕ)) (group : List ℕ) : Type 0 where
  pub value : ℕ
  pub is : val p entered group ≡ Some value
  pub small : value ≤ greatest_cost

pub entered-value : (inst : Instance) (entered : List (List ℕ)) (g : Group) → IsWithin (problem_of inst) (members g) → is_end (problem_of inst) (members g) ≡ false → is_entered entered (members g) ≡ true → HasValue (problem_of inst) entered (members g)
entered-value inst entered g within e i =
    let p = problem_of inst in
    let rest = filter_map (step_value p (val p entered) (members g)) (splitting p (members g)) in
    let f = least_of-first (greedy_cost p (members g)) rest in
    let l = inst.stands.greedy_fits g within in
    record {
      value = least_of (greedy_cost p (members g) ∷ rest);
      is = val-entered p entered (members g) e i;
      small = omega arith;
    }

value-known : (o : Option ℕ) (v : ℕ) → o ≡ Some v → v ≤ greatest_cost → cond (nat_eq (value_or o) no_value) None (Some (value_or o)) ≡ o
value-known None v e l = absurd (let bad : ⊥ = cc in bad)
value-known (Some w) v e l =
    let is : w ≡ v = cc in
    let ne : w ≢ no_value = omega arith in
    rw (ne_eqb w no_value ne) refl

-- what is known of the group of a row
pub record GroupAt (p : Problem) (rows : List Row) (k : ℕ) : Type 0 where
  pub within : IsWithin p (members (row_at rows k).group)
  pub goals : is_end p (members (row_at rows k).group) ≡ false
  pub entered : is_entered (groups_in rows) (members (row_at rows k).group) ≡ true

pub group-at : (p : Problem) (rows : List Row) (k : ℕ) → AreGroups p rows → k < length rows → GroupAt p rows k
group-at p rows k a lt = record {
  within = a.within (row_of (row_at rows k)) (row-among rows k lt);
  goals = a.goals (row_of (row_at rows k)) (row-among rows k lt);
  entered = found-entered rows k lt;
}

pub value-at : (inst : Instance) (rows : List Row) (k : ℕ) → AreGroups (problem_of inst) rows → k < length rows → HasValue (problem_of inst) (groups_in rows) (members (row_at rows k).group)
value-at inst rows k a lt =
    let g = group-at (problem_of inst) rows k a lt in
    entered-value inst (groups_in rows) (row_at rows k).group g.within g.goals g.entered

module _ (inst : Instance) (rows now : List Row) (isDone : ℕ → Type 0) (s : AreSettling (problem_of inst) rows now isDone) (size : ℕ) (below : AreDoneBelow rows isDone size) where
  groups-same : groups_in now ≡ groups_in rows
  groups-same = same-groups now rows s.many (λ k lt. (s.each k lt).group)

  -- a smaller group that was entered stands in a settled row
  record Smaller (part : List ℕ) (k : ℕ) : Type 0 where
    there : k < length rows
    first : theory_row (rows_of now) part ≡ Some (row_of (settled_row (problem_of inst) (groups_in rows) (row_at rows k)))
    same : part ≡ members (row_at rows k).group

  smaller : (part : List ℕ) (k : ℕ) → length part < size → place_of_group (rows_of now) part ≡ Some k → Smaller part k
  smaller part k small at =
      let f = place-found now part k at in
      let m = s.many in
      let ft = f.there in
      let lt : k < length rows = omega arith in
      let same : part ≡ members (row_at rows k).group = f.same ∙ ap members (s.each k lt).group in
      let len = ap length same in
      record {
        there = lt;
        first = f.first ∙ ap (λ (r : Row). Some (row_of r)) (s.done k lt (below k lt (omega arith)));
        same = same;
      }

  absent : (part : List ℕ) → place_of_group (rows_of now) part ≡ None → is_entered (groups_in rows) part ≡ false
  absent part at = subst (λ gs. is_entered gs part ≡ false) groups-same (place-absent now part at).no_group

  -- what a smaller group counts is its low
  pub known_low-settled : (part : List ℕ) → length part < size → known_low (problem_of inst) (rows_of now) part ≡ low (problem_of inst) (groups_in rows) part
  known_low-settled part small = elim (cases_Bool (is_end (problem_of inst) part)) [
    | inl e ↦ rw e (sym (low-end (problem_of inst) (groups_in rows) part e))
    | inr e ↦ elim (cases_place (place_of_group (rows_of now) part)) [
      | inl none ↦ rw e (ap (low_or (bound (problem_of inst) part)) (place-absent now part none).no_row ∙ sym (low-other (problem_of inst) (groups_in rows) part e (absent part none)))
      | inr found ↦
          (let f = smaller part found.0 small found.1 in
          let b = bound-le-low (problem_of inst) (groups_in rows) part in
          let l : low (problem_of inst) (groups_in rows) (members (row_at rows found.0).group) ≡ low (problem_of inst) (groups_in rows) part = ap (low (problem_of inst) (groups_in rows)) (sym f.same) in
          rw e (ap (low_or (bound (problem_of inst) part)) f.first ∙ ap (λ n. max n (bound (problem_of inst) part)) l ∙ (let m : max (low (problem_of inst) (groups_in rows) part) (bound (problem_of inst) part) ≡ low (problem_of inst) (groups_in rows) part = omega arith in m)))
    ]
  ]

  -- and its value
  pub known_up-settled : (part : List ℕ) → length part < size → known_up (problem_of inst) (rows_of now) part ≡ val (problem_of inst) (groups_in rows) part
  known_up-settled part small = elim (cases_Bool (is_end (problem_of inst) part)) [
    | inl e ↦ rw e (sym (val-end (problem_of inst) (groups_in rows) part e))
    | inr e ↦ elim (cases_place (place_of_group (rows_of now) part)) [
      | inl none ↦ rw e (ap up_or (place-absent now part none).no_row ∙ sym (val-other (problem_of inst) (groups_in rows) part e (absent part none)))
      | inr found ↦
          (let f = smaller part found.0 small found.1 in
          let g = (row_at rows found.0).group in
          let v = value-at inst rows found.0 s.groups f.there in
          rw e (ap up_or f.first ∙ value-known (val (problem_of inst) (groups_in rows) (members g)) v.value v.is v.small ∙ ap (val (problem_of inst) (groups_in rows)) (sym f.same)))
    ]
  ]

-- ---- the row whose turn it is ----

module _ (inst : Instance) (rows now : List Row) (isDone : ℕ → Type 0) (s : AreSettling (problem_of inst) rows now isDone) (k : ℕ) (there : k < length rows) (below : AreDoneBelow rows isDone (size_at rows k)) where
  pub most_low-settled : most_low (problem_of inst) (rows_of now) (members (row_at rows k).group) ≡ low (problem_of inst) (groups_in rows) (members (row_at rows k).group)
  most_low-settled =
      let p = problem_of inst in
      let g = members (row_at rows k).group in
      let h = group-at p rows k s.groups there in
      ap (λ l. max (bound p g) (least_of l)) (map-agree (step_sum p (known_low p (rows_of now)) g) (step_sum p (low p (groups_in rows)) g) (splitting p g)
      (step_sum-agree p (known_low p (rows_of now)) (low p (groups_in rows)) g (λ part lt. known_low-settled inst rows now isDone s (size_at rows k) below part lt)))
      ∙ sym (low-entered p (groups_in rows) g h.goals h.entered)

  pub least_up-settled : val (problem_of inst) (groups_in rows) (members (row_at rows k).group) ≡ Some (least_up (problem_of inst) (rows_of now) (members (row_at rows k).group))
  least_up-settled =
      let p = problem_of inst in
      let g = members (row_at rows k).group in
      let h = group-at p rows k s.groups there in
      let up = known_up-settled inst rows now isDone s (size_at rows k) below in
      val-entered p (groups_in rows) g h.goals h.entered
      ∙ sym (ap (λ l. Some (least_of (greedy_cost p g ∷ l))) (filter_map-agree (step_value p (known_up p (rows_of now)) g) (step_value p (val p (groups_in rows)) g) (splitting p g) (λ q it.
      let e = splitting-splits p g q it in
      ap (λ a. sum_with (p.cost q * weight_of p g) a (known_up p (rows_of now) (fail_part p q g))) (up (pass_part p q g) (pass_part_smaller p q g e))
      ∙ ap (λ b. sum_with (p.cost q * weight_of p g) (val p (groups_in rows) (pass_part p q g)) b) (up (fail_part p q g) (fail_part_smaller p q g e)))))

  -- raised to the most and capped to the least that the rows allow, it has its low and its value
  pub raised-settled : max (row_at now k).low (most_low (problem_of inst) (rows_of now) (members (row_at rows k).group)) ≡ low (problem_of inst) (groups_in rows) (members (row_at rows k).group)
  raised-settled = let l = (s.each k there).below in let e = most_low-settled in omega arith

  pub capped-settled : min (row_at now k).up (least_up (problem_of inst) (rows_of now) (members (row_at rows k).group)) ≡ value_or (val (problem_of inst) (groups_in rows) (members (row_at rows k).group))
  capped-settled = let l = (s.each k there).above in let e = ap value_or least_up-settled in omega arith

-- ---- one row after another ----

may-settle : (p : Problem) (entered : List (List ℕ)) (row now : Row) → now ≡ settled_row p entered row → MaySettle p entered row now
may-settle p entered row now e = subst (MaySettle p entered row) (sym e) (record { group = refl; below = omega arith; above = omega arith })

-- where one more row has settled, and the others are as they were
pub settled-more : (p : Problem) (rows now new : List Row) (isDone isDoneNow : ℕ → Type 0) (k : ℕ) → AreSettling p rows now isDone → length new ≡ length now
    → row_at new k ≡ settled_row p (groups_in rows) (row_at rows k) → ((j : ℕ) → j ≢ k → row_at new j ≡ row_at now j) → ((j : ℕ) → isDoneNow j → isDone j ⊎ (j ≡ k)) → AreSettling p rows new isDoneNow
settled-more p rows now new isDone isDoneNow k s long here others either = record {
  groups = s.groups;
  many = long ∙ s.many;
  each = λ j lt. elim (cases_order j k) [
    | inl e ↦ may-settle p (groups_in rows) (row_at rows j) (row_at new j) (settled j e)
    | inr o ↦ subst (MaySettle p (groups_in rows) (row_at rows j)) (sym (others j (apart j o))) (s.each j lt)
  ];
  done = λ j lt d. elim (cases_order j k) [
    | inl e ↦ settled j e
    | inr o ↦ others j (apart j o) ∙ s.done j lt (elim (either j d) [ inl old ↦ old | inr e ↦ absurd (apart j o e) ])
  ];
}
  where
    settled : (j : ℕ) → j ≡ k → row_at new j ≡ settled_row p (groups_in rows) (row_at rows j)
    settled j e = subst (λ i. row_at new i ≡ settled_row p (groups_in rows) (row_at rows i)) (sym e) here

    apart : (j : ℕ) → (j < k) ⊎ (k < j) → j ≢ k
    apart j o = elim o [ inl lt ↦ (λ e. let bad : ⊥ = omega arith in bad) | inr gt ↦ (λ e. let bad : ⊥ = omega arith in bad) ]

-- when all are done
pub settled-all : (p : Problem) (rows now : List Row) (isDone : ℕ → Type 0) → AreSettling p rows now isDone → ((k : ℕ) → k < length rows → isDone k) → now ≡ settled_rows p rows
settled-all p rows now isDone s all =
    let f = settled_row p (groups_in rows) in
    let l = length-map rows f in
    let many = s.many in
    same-rows now (map f rows) (omega arith) (λ k lt.
    let there : k < length rows = omega arith in
    s.done k there (all k there) ∙ sym (get_or-map f rows k first_row first_row there))

-- ---- at the start ----

-- each row of a sound list may settle
pub sound-settling : (inst : Instance) (limit : ℕ) (rows : List Row) → IsSound (problem_of inst) limit (rows_of rows) → AreSettling (problem_of inst) rows rows (λ k. ⊥)
sound-settling inst limit rows sound =
    let p = problem_of inst in
    let groups = sound_are_groups p limit rows sound in
    record {
      groups = groups;
      many = refl;
      each = λ k lt. record {
        group = refl;
        below = sound.lows (row_of (row_at rows k)) (row-among rows k lt);
        above = (let v = value-at inst rows k groups lt in
            let le = sound.ups (row_of (row_at rows k)) (row-among rows k lt) v.value v.is in
            let e = ap value_or v.is in
            omega arith);
      };
      done = λ k lt d. absurd d;
    }

-- and so may rows of which nothing is known
pub fresh-settling : (inst : Instance) (rows now : List Row) → AreGroups (problem_of inst) rows → now ≡ map (λ r. new_row r.group) rows → AreSettling (problem_of inst) rows now (λ k. ⊥)
fresh-settling inst rows now groups is =
    let p = problem_of inst in
    record {
      groups = groups;
      many = ap length is ∙ length-map rows (λ (r : Row). new_row r.group);
      each = λ k lt.
          let e : new_row (row_at rows k).group ≡ row_at now k = sym (ap (λ l. row_at l k) is ∙ get_or-map (λ (r : Row). new_row r.group) rows k first_row first_row lt) in
          let v = value-at inst rows k groups lt in
          let small = v.small in
          let f = ap value_or v.is in
          subst (MaySettle p (groups_in rows) (row_at rows k)) e (record { group = refl; below = omega arith; above = omega arith });
      done = λ k lt d. absurd d;
    }
