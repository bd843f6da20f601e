-- A graph that is behind sound rows takes them in. On the way its rows are allowed by the rows' groups, though not yet by its own;
-- once it has all of these groups, it is sound, and gives each group the low and the value that the rows' groups give it.
use Rattle.std.proofs.Common.{◌≡◌, ℕ, zero, suc, ◌<◌, ◌≤◌, List, [], ◌∷◌, ◌++◌, length, map, set, refl, sym, ap, ◌∙◌, arith, inl, inr, subst, Option, Some, None}
use Rattle.std.specs.Prelude.{true, All, slice_index_or}
use Rattle.std.proofs.lemmas.Bool.{cases_Bool, true≢false}
use Rattle.std.proofs.lemmas.List.Elements.{All-head, All-tail, All-set, All-push}
use Rattle.seq_theory.specs.Problem.{Problem, IsWeighed, AreTold}
use Rattle.seq_theory.specs.Graph.{same_group, is_entered, low, val, IsReal}
use Rattle.seq_theory.specs.Rows.{Row as PlainRow, IsRow, IsSound}
use Rattle.seq_theory.proofs.LeastLaws.{least, IsLeast-least, IsLeast-one}
use Rattle.seq_theory.proofs.RowLaws.{same_group-true, or-left, or-right, wanted-within, sound-bounds}
use Rattle.seq_theory.proofs.LowLaws.{low-grows}
use Rattle.seq_theory.proofs.ValLaws.{some-one, val-entered, val-falls}
use Rattle.seq_inst.specs.declared.group.Group.{Group}
use Rattle.seq_inst.specs.declared.outcome.Row.{Row}
use Rattle.seq_inst.specs.Members.{members}
use Rattle.seq_core.specs.RowsOf.{row_of as row_from, rows_of as rows_from}
use Rattle.seq_core.specs.Settled.{groups_in, value_or, settled_row, settled_rows}
use Rattle.seq_graph.specs.Behind.{IsPlaceOf, AreBehind}
use Rattle.seq_graph.specs.Known.{AreBounds, AreRows, no_row, row_at, heard}
use Rattle.seq_finish.specs.Joining.{IsAllowedBy, HasGroupsOf, IsEnteredOnce}
use Rattle.seq_finish.proofs.OutcomeLaws.{row-among, row-entered, length-rows, settled-entered}
use Rattle.seq_finish.proofs.StratLaws.{val-le-greedy}

-- ---- the groups of rows ----

-- a row that changes has its group still
pub groups-heard : (rows : List Row) (k low up : ℕ) → groups_in (set rows k (heard low up (row_at rows k))) ≡ groups_in rows
groups-heard [] k low up = refl
groups-heard (r ∷ rest) zero low up = refl
groups-heard (r ∷ rest) (suc k) low up = ap (λ (l : List (List ℕ)). members r.group ∷ l) (groups-heard rest k low up)

more-groups : (rows : List Row) (x : Row) → HasGroupsOf rows (rows ++ x ∷ [])
more-groups [] x g e = absurd (true≢false (sym e))
more-groups (r ∷ rest) x g e = elim (cases_Bool (same_group g (members r.group))) [
  | inl y ↦ or-left (same_group g (members r.group)) (is_entered (groups_in (rest ++ x ∷ [])) g) y
  | inr n ↦ or-right (same_group g (members r.group)) (is_entered (groups_in (rest ++ x ∷ [])) g) (more-groups rest x g (rw n at e))
]

-- where each row's group is among others, each group of the rows is
pub among-all : (entered : List (List ℕ)) (rows : List Row) (g : List ℕ) → All (λ (r : Row). is_entered entered (members r.group) ≡ true) rows → is_entered (groups_in rows) g ≡ true → is_entered entered g ≡ true
among-all entered [] g all e = absurd (true≢false (sym e))
among-all entered (r ∷ rest) g all e = elim (cases_Bool (same_group g (members r.group))) [
  | inl y ↦ subst (λ h. is_entered entered h ≡ true) (sym (same_group-true g (members r.group) y)) (All-head (λ (s : Row). is_entered entered (members s.group) ≡ true) r rest all)
  | inr n ↦ among-all entered rest g (All-tail (λ (s : Row). is_entered entered (members s.group) ≡ true) r rest all) (rw n at e)
]

pub once-groups : (p : Problem) (group : Group) (old new : List Row) → IsEnteredOnce p group old new → HasGroupsOf old new
once-groups p group old new (inl e) g is = subst (λ l. is_entered (groups_in l) g ≡ true) (sym e) is
once-groups p group old new (inr e) g is = subst (λ l. is_entered (groups_in l) g ≡ true) (sym e) (more-groups old _ g is)

-- ---- rows that the entered groups allow ----

module _ (p : Problem) (entered : List (List ℕ)) where
  pub once-allowed : (row : Row) (old new : List Row) → IsEnteredOnce p row.group old new → IsAllowedBy p entered row → All (IsAllowedBy p entered) old → All (IsAllowedBy p entered) new
  once-allowed row old new (inl e) a all = subst (All (IsAllowedBy p entered)) (sym e) all
  once-allowed row old new (inr e) a all = subst (All (IsAllowedBy p entered)) (sym e) (All-push (IsAllowedBy p entered) old _ all (record {
    among = a.among;
    low = omega arith;
    up = λ v is. val-le-greedy p entered (members row.group) v is;
  }))

  pub heard-allowed : (row : Row) (rows : List Row) (place : ℕ) → IsPlaceOf rows (members row.group) place → IsAllowedBy p entered row → All (IsAllowedBy p entered) rows
      → All (IsAllowedBy p entered) (set rows place (heard row.low row.up (row_at rows place)))
  heard-allowed row rows place at a all = All-set (IsAllowedBy p entered) rows place (heard row.low row.up (row_at rows place)) (
      let b = all place no_row at.there in
      record {
        among = b.among;
        low = (let e = ap (low p entered) at.same in let x = a.low in let y = b.low in omega arith);
        up = λ v is. (let x = a.up v (sym (ap (val p entered) at.same) ∙ is) in let y = b.up v is in omega arith);
      }) all

module _ (p : Problem) (rows : List Row) (s : IsSound p (length rows) (rows_from rows)) where
  -- each of the rows is allowed
  pub row-allowed : (k : ℕ) (d : Row) → k < length rows → IsAllowedBy p (groups_in rows) (slice_index_or rows k d)
  row-allowed k d lt =
      let i = row-among rows k d lt in
      record { among = row-entered rows k d lt; low = s.lows _ i; up = λ v is. s.ups _ i v is }

  -- its bounds are true
  pub row-bounds : IsWeighed p → AreTold p → (k : ℕ) (d : Row) → k < length rows → AreBounds p (members (slice_index_or rows k d).group) (slice_index_or rows k d).low (slice_index_or rows k d).up
  row-bounds w told k d lt n l =
      let i = row-among rows k d lt in
      let b = sound-bounds p (length rows) (rows_from rows) (row_from (slice_index_or rows k d)) w told s i in
      let within = wanted-within p _ (s.real _ i).wanted in
      let one = IsLeast-one p _ n (least p (members (slice_index_or rows k d).group)) l (IsLeast-least p _ told within) in
      let x = b.0 in
      let y = b.1 in
      (omega arith, omega arith)

  -- so are rows that are behind
  pub behind-allowed : (others : List Row) → AreBehind rows others → All (IsAllowedBy p (groups_in rows)) others
  behind-allowed others behind k d lt =
      let h = behind k d lt in
      let a = row-allowed h.place no_row h.of.there in
      record {
        among = subst (λ g. is_entered (groups_in rows) g ≡ true) h.of.same a.among;
        low = (let e = ap (low p (groups_in rows)) h.of.same in let x = a.low in let y = h.low in omega arith);
        up = λ v is. (let x = a.up v (ap (val p (groups_in rows)) h.of.same ∙ is) in let y = h.up in omega arith);
      }

-- ---- all groups are there ----

-- what holds of each row holds of each of the theory's rows
each-row : (P : PlainRow → Type 0) (rows : List Row) → All (λ (r : Row). P (row_from r)) rows → (x : PlainRow) → IsRow x (rows_from rows) → P x
each-row P [] all x i = absurd i
each-row P (r ∷ rest) all x (inl e) = subst P e (All-head (λ (s : Row). P (row_from s)) r rest all)
each-row P (r ∷ rest) all x (inr i) = each-row P rest (All-tail (λ (s : Row). P (row_from s)) r rest all) x i

-- the bounds of a row that the entered groups allow are allowed by more groups too
record IsAllowedPlain (p : Problem) (entered : List (List ℕ)) (x : PlainRow) : Type 0 where
  low : x.low ≤ low p entered x.group
  up : (v : ℕ) → val p entered x.group ≡ Some v → v ≤ x.up

pub joined-sound : (p : Problem) (rows new : List Row) → AreRows p new → All (IsAllowedBy p (groups_in rows)) new → HasGroupsOf rows new → IsSound p (length new) (rows_from new)
joined-sound p rows new are all more =
    record {
      few = (let l = length-rows new in omega arith);
      distinct = are.distinct;
      real = each-row (λ x. IsReal p x.group) new (λ k d lt. (are.each k d lt).real);
      lows = λ x i. (allowed x i).low;
      ups = λ x i. (allowed x i).up;
    }
  where
    of-more : (r : Row) → IsReal p (members r.group) → IsAllowedBy p (groups_in rows) r → IsAllowedPlain p (groups_in new) (row_from r)
    of-more r real a =
        let g = members r.group in
        record {
          low = (let x = a.low in let y = low-grows p (groups_in rows) (groups_in new) g more in omega arith);
          up = λ v is. (
              let is-old = val-entered p (groups_in rows) g real.goals a.among in
              let x = a.up _ is-old in
              let f = val-falls p (groups_in rows) (groups_in new) g _ more is-old in
              let le = f.le in
              let one = some-one p f.value v (val p (groups_in new) g) f.is is in
              omega arith);
        }

    allowed : (x : PlainRow) → IsRow x (rows_from new) → IsAllowedPlain p (groups_in new) x
    allowed = each-row (IsAllowedPlain p (groups_in new)) new (λ k d lt. of-more (slice_index_or new k d) (are.each k d lt).real (all k d lt))

-- ---- the same groups give the same lows and values ----

module _ (p : Problem) (one other : List Row) (there : HasGroupsOf one other) (back : HasGroupsOf other one) where
  same-low : (g : List ℕ) → low p (groups_in one) g ≡ low p (groups_in other) g
  same-low g =
      let a = low-grows p (groups_in one) (groups_in other) g there in
      let b = low-grows p (groups_in other) (groups_in one) g back in
      omega arith

  same-val : (g : List ℕ) → val p (groups_in one) g ≡ val p (groups_in other) g
  same-val g = go (val p (groups_in one) g) (val p (groups_in other) g) refl refl
    where
      go : (a b : Option ℕ) → val p (groups_in one) g ≡ a → val p (groups_in other) g ≡ b → a ≡ b
      go None None e f = refl
      go None (Some v) e f = absurd (let h = val-falls p (groups_in other) (groups_in one) g v back f in let is = h.is in let bad : ⊥ = cc in bad)
      go (Some u) None e f = absurd (let h = val-falls p (groups_in one) (groups_in other) g u there e in let is = h.is in let bad : ⊥ = cc in bad)
      go (Some u) (Some v) e f =
          let h = val-falls p (groups_in one) (groups_in other) g u there e in
          let k = val-falls p (groups_in other) (groups_in one) g v back f in
          let hv = some-one p h.value v (val p (groups_in other) g) h.is f in
          let ku = some-one p k.value u (val p (groups_in one) g) k.is e in
          let hle = h.le in
          let kle = k.le in
          let same : u ≡ v = omega arith in
          ap Some same

  pub same-settled : (rows : List Row) → map (settled_row p (groups_in one)) rows ≡ map (settled_row p (groups_in other)) rows
  same-settled [] = refl
  same-settled (r ∷ rest) =
      ap (λ n. record { group = r.group; low = n; up = value_or (val p (groups_in one) (members r.group)) } ∷ map (settled_row p (groups_in one)) rest) (same-low (members r.group))
      ∙ ap (λ v. record { group = r.group; low = low p (groups_in other) (members r.group); up = value_or v } ∷ map (settled_row p (groups_in one)) rest) (same-val (members r.group))
      ∙ ap (λ l. settled_row p (groups_in other) r ∷ l) (same-settled rest)

-- the rows with what a settled graph of the same groups gives them are settled
pub joined-settled : (p : Problem) (rows given read joined now out : List Row) → given ≡ rows → read ≡ rows → HasGroupsOf given joined → HasGroupsOf joined given
    → now ≡ settled_rows p joined → out ≡ map (settled_row p (groups_in now)) read → out ≡ settled_rows p rows
joined-settled p rows given read joined now out given_is read_is all no_others now_is out_is =
    let there : HasGroupsOf rows joined = subst (λ l. HasGroupsOf l joined) given_is all in
    let back : HasGroupsOf joined rows = subst (λ l. HasGroupsOf joined l) given_is no_others in
    out_is
    ∙ ap (λ gs. map (settled_row p gs) read) (ap groups_in now_is ∙ settled-entered p joined)
    ∙ ap (map (settled_row p (groups_in joined))) read_is
    ∙ same-settled p joined rows back there rows
