-- The outcome that is made from the rows of a search is right, and what a right outcome says. The set of entered groups
-- stays the same when rows are settled, so whatever was sound of the search's rows holds of the outcome's.
use Rattle.std.proofs.Common.{◌≡◌, ℕ, zero, suc, ◌<◌, ◌≤◌, List, [], ◌∷◌, length, map, refl, sym, ap, ◌∙◌, arith, inl, inr, subst, Option, Some, None}
use Rattle.std.specs.Prelude.{true, false, All, IsSome, is_some, slice_index_or, vec_len}
use Rattle.std.proofs.lemmas.Bool.{cases_Bool, cases_lt}
use Rattle.std.proofs.lemmas.List.Elements.{All-map}
use Rattle.seq_theory.specs.Problem.{Problem, IsWithin, all_classes, is_end}
use Rattle.seq_theory.specs.Tree.{Tree, AsksOnly, tree_cost, Solves}
use Rattle.seq_theory.specs.Graph.{same_group, is_entered, low, val, strat, IsReal}
use Rattle.seq_theory.specs.Rows.{Row as PlainRow, IsRow, AreDistinct, IsSound}
use Rattle.seq_theory.proofs.LeastLaws.{count_up-IsIn}
use Rattle.seq_theory.specs.Laws.{EnteredHolds}
use Rattle.seq_theory.proofs.RowLaws.{same_group-refl, or-left, or-right}
use Rattle.seq_theory.proofs.ValLaws.{val-end, val-entered, least-le-val}
use Rattle.seq_theory.proofs.LowLaws.{low-le-least}
use Rattle.seq_theory.proofs.StratLaws.{strat-holds}
use Rattle.seq_theory.proofs.LeastLaws.{least}
use Rattle.seq_inst.specs.declared.group.Group.{Group}
use Rattle.seq_inst.specs.declared.outcome.Row.{Row}
use Rattle.seq_inst.specs.declared.outcome.Verdict.TheVariants.{Optimal, Bounded}
use Rattle.seq_inst.specs.declared.outcome.Outcome.{Outcome}
use Rattle.seq_inst.specs.Members.{members}
use Rattle.seq_inst.specs.declared.instance.Instance.{Instance}
use Rattle.seq_inst.specs.Instances.{problem_of}
use Rattle.seq_inst.specs.Trees.{tree_of}
use Rattle.seq_inst.specs.Shapes.{height, leaf_count, AsksSplitting}
use Rattle.seq_theory.proofs.BelowLaws.{length-count_up}
use Rattle.seq_theory.proofs.ShapeLaws.{leaves-le, height-lt-leaves}
use Rattle.seq_finish.proofs.StratLaws.{the-value, strat-splitting}
use Rattle.seq_core.specs.RowsOf.{row_of as row_from, rows_of as rows_from}
use Rattle.seq_core.specs.Settled.{groups_in, value_or, settled_row, settled_rows}
use Rattle.seq_core.specs.Entered.{IsFull, MayStop}
use Rattle.seq_finish.specs.Outcomes.{AreEntered, IsSettled, IsRightOutcome}
use Rattle.seq_finish.specs.Laws.{OutcomesHold}

pub within-all : (p : Problem) → IsWithin p (all_classes p)
within-all p c i = let w = count_up-IsIn c 0 p.classes i in omega arith

some_equal : (a b : ℕ) → Some a ≡ Some b → a ≡ b
some_equal a b e = cc

different : Optimal ≡ Bounded → ⊥
different e = cc

-- ---- what a right outcome says ----

pub outcomes_hold : EnteredHolds → OutcomesHold
outcomes_hold law p limit least o weighed told r l =
    let e = law p (groups_in o.rows.items) (all_classes p) least weighed told (within-all p) l in
    let below : o.low ≤ least = subst (λ n. n ≤ least) r.low_is e.low_low in
    let above : least ≤ o.cost = e.val_high o.cost r.cost_is in
    record {
      right = subst (λ t. Solves p t (all_classes p)) (sym r.strategy_is) (e.right o.cost r.cost_is);
      costs = ap (λ t. tree_cost p t (all_classes p)) r.strategy_is ∙ e.costs o.cost r.cost_is;
      low = below;
      high = above;
      optimal = λ v. let same : o.low ≡ o.cost = r.optimal.0 v in omega arith;
      bounded = λ v. elim (cases_lt o.low o.cost) [
        | inl lt ↦ lt
        | inr ge ↦ absurd (let same : o.low ≡ o.cost = omega arith in different (sym (r.optimal.1 same) ∙ v))
      ];
    }

-- ---- the rows of a search ----

pub row-among : (rows : List Row) (k : ℕ) (d : Row) → k < length rows → IsRow (row_from (slice_index_or rows k d)) (rows_from rows)
row-among [] k d lt = absurd (let bad : ⊥ = omega arith in bad)
row-among (r ∷ rest) zero d lt = inl refl
row-among (r ∷ rest) (suc k) d lt = inr (row-among rest k d (omega arith))

pub row-entered : (rows : List Row) (k : ℕ) (d : Row) → k < length rows → is_entered (groups_in rows) (members (slice_index_or rows k d).group) ≡ true
row-entered [] k d lt = absurd (let bad : ⊥ = omega arith in bad)
row-entered (r ∷ rest) zero d lt = or-left _ _ (same_group-refl (members r.group))
row-entered (r ∷ rest) (suc k) d lt = or-right (same_group (members (slice_index_or rest k d).group) (members r.group)) _ (row-entered rest k d (omega arith))

pub length-rows : (rows : List Row) → length (rows_from rows) ≡ length rows
length-rows [] = refl
length-rows (r ∷ rest) = ap suc (length-rows rest)

module _ (p : Problem) where
  pub rows-real : (limit : ℕ) (rows : List Row) → IsSound p limit (rows_from rows) → All (λ r. IsReal p (members r.group)) rows
  rows-real limit rows s k d lt = s.real _ (row-among rows k d lt)

  -- sound rows are so under their number
  pub sound-long : (limit : ℕ) (rows : List Row) → IsSound p limit (rows_from rows) → IsSound p (length rows) (rows_from rows)
  sound-long limit rows s = record { few = (let l = length-rows rows in omega arith); distinct = s.distinct; real = s.real; lows = s.lows; ups = s.ups }

  -- ---- settled rows ----

  settled-same : (other : List (List ℕ)) (rows : List Row) → groups_in (map (settled_row p other) rows) ≡ groups_in rows
  settled-same other [] = refl
  settled-same other (r ∷ rest) = ap (λ l. members r.group ∷ l) (settled-same other rest)

  pub settled-entered : (rows : List Row) → groups_in (settled_rows p rows) ≡ groups_in rows
  settled-entered rows = settled-same (groups_in rows) rows

  length-settled : (other : List (List ℕ)) (rows : List Row) → length (map (settled_row p other) rows) ≡ length rows
  length-settled other [] = refl
  length-settled other (r ∷ rest) = ap suc (length-settled other rest)

  settled-twice : (other : List (List ℕ)) (rows : List Row) → map (settled_row p other) (map (settled_row p other) rows) ≡ map (settled_row p other) rows
  settled-twice other [] = refl
  settled-twice other (r ∷ rest) = ap (λ l. settled_row p other r ∷ l) (settled-twice other rest)

  -- settling settled rows changes nothing
  pub settled-again : (rows : List Row) → settled_rows p rows ≡ settled_rows p (settled_rows p rows)
  settled-again rows = sym (ap (λ g. map (settled_row p g) (settled_rows p rows)) (settled-entered rows) ∙ settled-twice (groups_in rows) rows)

  -- a settled row is that of one of the groups, with its low and its value
  record IsSettledOf (other : List (List ℕ)) (rows : List Row) (r : PlainRow) : Type 0 where
    from : PlainRow
    among : IsRow from (rows_from rows)
    group_is : from.group ≡ r.group
    low_is : r.low ≡ low p other from.group
    up_is : r.up ≡ value_or (val p other from.group)

  settled-from : (other : List (List ℕ)) (rows : List Row) (r : PlainRow) → IsRow r (rows_from (map (settled_row p other) rows)) → IsSettledOf other rows r
  settled-from other [] r i = absurd i
  settled-from other (x ∷ rest) r (inl e) = record {
    from = row_from x;
    among = inl refl;
    group_is = ap (λ (y : PlainRow). y.group) e;
    low_is = sym (ap (λ (y : PlainRow). y.low) e);
    up_is = sym (ap (λ (y : PlainRow). y.up) e);
  }
  settled-from other (x ∷ rest) r (inr i) =
      let h = settled-from other rest r i in
      record { from = h.from; among = inr h.among; group_is = h.group_is; low_is = h.low_is; up_is = h.up_is }

  -- settled rows are sound
  pub settled-sound : (limit : ℕ) (rows : List Row) → IsSound p limit (rows_from rows) → IsSound p limit (rows_from (settled_rows p rows))
  settled-sound limit rows s = record {
    few = (let f = s.few in let l = length-rows rows in let m = length-settled (groups_in rows) rows in let k = length-rows (settled_rows p rows) in omega arith);
    distinct = subst AreDistinct (sym (settled-entered rows)) s.distinct;
    real = λ r i. (let h = settled-from (groups_in rows) rows r i in subst (IsReal p) h.group_is (s.real h.from h.among));
    lows = λ r i.
        let h = settled-from (groups_in rows) rows r i in
        let e = h.low_is ∙ ap (low p (groups_in rows)) h.group_is ∙ ap (λ g. low p g r.group) (sym (settled-entered rows)) in
        omega arith;
    ups = λ r i v is.
        let h = settled-from (groups_in rows) rows r i in
        let e : r.up ≡ v = h.up_is ∙ ap (λ g. value_or (val p (groups_in rows) g)) h.group_is ∙ ap value_or (ap (λ g. val p g r.group) (sym (settled-entered rows)) ∙ is) in
        omega arith;
  }

  or-some : (o : Option ℕ) (v : ℕ) → o ≡ Some v → o ≡ Some (value_or o)
  or-some o v e = rw e refl

  pub settled-all : (limit : ℕ) (rows : List Row) → IsSound p limit (rows_from rows) → All (IsSettled p (groups_in (settled_rows p rows))) (settled_rows p rows)
  settled-all limit rows s = subst (λ g. All (IsSettled p g) (settled_rows p rows)) (sym (settled-entered rows))
      (All-map (IsSettled p (groups_in rows)) (settled_row p (groups_in rows)) rows (λ k d lt.
      let r = slice_index_or rows k d in
      record {
        low_is = refl;
        up_is = or-some (val p (groups_in rows) (members r.group)) _ (val-entered p (groups_in rows) (members r.group) (rows-real limit rows s k d lt).goals (row-entered rows k d lt));
      }))

  pub are-entered : (limit : ℕ) (rows : List Row) → IsSound p limit (rows_from rows) → (is_end p (all_classes p) ≡ false → is_entered (groups_in rows) (all_classes p) ≡ true) → AreEntered p limit (settled_rows p rows)
  are-entered limit rows s root = record {
    distinct = subst AreDistinct (sym (settled-entered rows)) s.distinct;
    real = All-map (λ r. IsReal p (members r.group)) (settled_row p (groups_in rows)) rows (rows-real limit rows s);
    few = (let f = s.few in let l = length-rows rows in let m = length-settled (groups_in rows) rows in omega arith);
    root = λ e. subst (λ g. is_entered g (all_classes p) ≡ true) (sym (settled-entered rows)) (root e);
  }

  -- the group of all classes has a value
  pub root-valued : (entered : List (List ℕ)) → (is_end p (all_classes p) ≡ false → is_entered entered (all_classes p) ≡ true) → IsSome (val p entered (all_classes p))
  root-valued entered root = elim (cases_Bool (is_end p (all_classes p))) [
    | inl e ↦ ap is_some (val-end p entered (all_classes p) e)
    | inr e ↦ ap is_some (val-entered p entered (all_classes p) e (root e))
  ]

  -- ---- the outcome ----

  pub outcome-right : (limit : ℕ) (rows : List Row) (missed : Option Group) (o : Outcome) → IsSound p limit (rows_from rows)
      → (is_end p (all_classes p) ≡ false → is_entered (groups_in rows) (all_classes p) ≡ true) → MayStop p limit (groups_in rows) missed
      → o.rows.items ≡ settled_rows p rows → tree_of o.strategy ≡ strat p (groups_in rows) (all_classes p)
      → val p (groups_in rows) (all_classes p) ≡ Some o.cost → o.low ≡ low p (groups_in rows) (all_classes p) → o.limit ≡ limit
      → (o.verdict ≡ Optimal → o.low ≡ o.cost) → (o.low ≡ o.cost → o.verdict ≡ Optimal)
      → (o.verdict ≡ Optimal → o.missed ≡ None) → (o.verdict ≡ Bounded → o.missed ≡ missed) → IsRightOutcome p limit o
  outcome-right limit rows missed o s root stop items tree cost lows limit_is to from optimal bounded =
      let same : groups_in o.rows.items ≡ groups_in rows = ap groups_in items ∙ settled-entered rows in
      record {
        entered = subst (AreEntered p limit) (sym items) (are-entered limit rows s root);
        settled = subst (λ l. All (IsSettled p (groups_in l)) l) (sym items) (settled-all limit rows s);
        strategy_is = tree ∙ ap (λ g. strat p g (all_classes p)) (sym same);
        cost_is = ap (λ g. val p g (all_classes p)) same ∙ cost;
        low_is = ap (λ g. low p g (all_classes p)) same ∙ sym lows;
        limit_is = limit_is;
        optimal = (to, from);
        none_missed = optimal;
        full = λ v. elim stop [
          | inl enough ↦ absurd (different (sym (from (lows ∙ some_equal _ o.cost (sym enough ∙ cost))) ∙ v))
          | inr full ↦ subst (λ g. IsFull p limit g o.missed) (sym same) (subst (IsFull p limit (groups_in rows)) (sym (bounded v)) full)
        ];
      }

-- the shape of the strategy over all classes
pub outcome-shape : (inst : Instance) (entered : List (List ℕ)) (tree : Tree)
    → (is_end (problem_of inst) (all_classes (problem_of inst)) ≡ false → is_entered entered (all_classes (problem_of inst)) ≡ true)
    → tree ≡ strat (problem_of inst) entered (all_classes (problem_of inst)) → record {
      there : AsksOnly (problem_of inst).tests tree;
      splitting : AsksSplitting (problem_of inst) tree (all_classes (problem_of inst));
      leaves : leaf_count tree ≤ vec_len inst.weights;
      short : height tree ≤ 512;
    }
outcome-shape inst entered tree root is =
    let p = problem_of inst in
    let v = the-value (val p entered (all_classes p)) (root-valued p entered root) in
    let splitting = subst (λ t. AsksSplitting p t (all_classes p)) (sym is) (strat-splitting p entered (all_classes p) v.0 inst.valid.told (within-all p) v.1) in
    let long = length-count_up 0 (length inst.weights.items) in
    let some = inst.valid.some in
    let few = inst.valid.few in
    let leaves = leaves-le p tree (all_classes p) splitting (omega arith) in
    let high = height-lt-leaves tree in
    let n = inst.weights.ok.0 in
    let holds = strat-holds p entered (all_classes p) v.0 inst.valid.told (within-all p) v.1 in
    record { there = subst (λ t. AsksOnly p.tests t) (sym is) holds.solves.there; splitting = splitting; leaves = omega arith; short = omega arith }

-- the low over all classes is not above their value
pub outcome-proper : (inst : Instance) (entered : List (List ℕ)) (n v : ℕ) → n ≡ low (problem_of inst) entered (all_classes (problem_of inst)) → val (problem_of inst) entered (all_classes (problem_of inst)) ≡ Some v → n ≤ v
outcome-proper inst entered n v is e =
    let p = problem_of inst in
    let a = low-le-least p entered (all_classes p) inst.stands.weighed inst.valid.told (within-all p) in
    let b = least-le-val p entered (all_classes p) v inst.valid.told (within-all p) e in
    omega arith
