-- A change of one row that keeps its group keeps the rows sound, where its new bounds are right for the entered groups.
use Rattle.std.proofs.Common.{◌≡◌, ◌⊎◌, ℕ, zero, suc, ◌≤◌, max, min, List, [], ◌∷◌, length, refl, sym, ap, ◌∙◌, arith, inl, inr, subst, Option, Some}
use Rattle.std.specs.Prelude.{slice_get}
use Rattle.seq_theory.specs.Problem.{Problem}
use Rattle.seq_theory.specs.Graph.{low, val, IsReal}
use Rattle.seq_theory.specs.Rows.{Row, groups_of, IsRow, AreDistinct, IsSound, enter, change_at}
use Rattle.seq_theory.proofs.LowLaws.{low-grows}
use Rattle.seq_theory.proofs.ValLaws.{val-falls}
use Rattle.seq_theory.proofs.RowLaws.{events-sound, wanted-within}
use Rattle.seq_core.specs.Laws.{EntersKeep, RaisesKeep, CapsKeep, LowGrows, ValFalls, SoundAreGroups}

some-row : (a b : Row) (o : Option Row) → o ≡ Some a → o ≡ Some b → a ≡ b
some-row a b o e f = cc

row-at : (rows : List Row) (place : ℕ) (r : Row) → slice_get rows place ≡ Some r → IsRow r rows
row-at [] place r e = absurd (let bad : ⊥ = cc in bad)
row-at (s ∷ rest) zero r e = inl (let is : s ≡ r = cc in is)
row-at (s ∷ rest) (suc place) r e = inr (row-at rest place r e)

-- a row of the changed list is an old one, or the changed one
record IsChanged (rows : List Row) (place : ℕ) (f : Row → Row) (r : Row) : Type 0 where
  from : Row
  at : slice_get rows place ≡ Some from
  is : f from ≡ r

rows-changed : (rows : List Row) (place : ℕ) (f : Row → Row) (r : Row) → IsRow r (change_at rows place f) → IsRow r rows ⊎ IsChanged rows place f r
rows-changed [] place f r i = absurd i
rows-changed (s ∷ rest) zero f r (inl e) = inr (record { from = s; at = refl; is = e })
rows-changed (s ∷ rest) zero f r (inr i) = inl (inr i)
rows-changed (s ∷ rest) (suc place) f r (inl e) = inl (inl e)
rows-changed (s ∷ rest) (suc place) f r (inr i) = elim (rows-changed rest place f r i) [
  | inl j ↦ inl (inr j)
  | inr c ↦ inr (record { from = c.from; at = c.at; is = c.is })
]

groups-changed : (rows : List Row) (place : ℕ) (f : Row → Row) → ((r : Row) → (f r).group ≡ r.group) → groups_of (change_at rows place f) ≡ groups_of rows
groups-changed [] place f keeps = refl
groups-changed (s ∷ rest) zero f keeps = ap (λ g. g ∷ groups_of rest) (keeps s)
groups-changed (s ∷ rest) (suc place) f keeps = ap (λ l. s.group ∷ l) (groups-changed rest place f keeps)

length-changed : (rows : List Row) (place : ℕ) (f : Row → Row) → length (change_at rows place f) ≡ length rows
length-changed [] place f = refl
length-changed (s ∷ rest) zero f = refl
length-changed (s ∷ rest) (suc place) f = ap suc (length-changed rest place f)

change-sound : (p : Problem) (limit : ℕ) (rows : List Row) (place : ℕ) (f : Row → Row) → ((r : Row) → (f r).group ≡ r.group) → IsSound p limit rows
    → ((r : Row) → slice_get rows place ≡ Some r → (f r).low ≤ low p (groups_of rows) r.group)
    → ((r : Row) → slice_get rows place ≡ Some r → (v : ℕ) → val p (groups_of rows) r.group ≡ Some v → v ≤ (f r).up)
    → IsSound p limit (change_at rows place f)
change-sound p limit rows place f keeps s lows ups =
    let same = groups-changed rows place f keeps in
    record {
      few = (let l = length-changed rows place f in let few = s.few in omega arith);
      distinct = subst AreDistinct (sym same) s.distinct;
      real = λ r i. elim (rows-changed rows place f r i) [
        | inl j ↦ s.real r j
        | inr c ↦ subst (IsReal p) (sym (keeps c.from) ∙ ap (λ x. x.group) c.is) (s.real c.from (row-at rows place c.from c.at))
      ];
      lows = λ r i. subst (λ g. r.low ≤ low p g r.group) (sym same) (elim (rows-changed rows place f r i) [
        | inl j ↦ s.lows r j
        | inr c ↦ subst (λ (x : Row). x.low ≤ low p (groups_of rows) x.group) c.is
            (subst (λ g. (f c.from).low ≤ low p (groups_of rows) g) (sym (keeps c.from)) (lows c.from c.at))
      ]);
      ups = λ r i v e.
          let e' : val p (groups_of rows) r.group ≡ Some v = subst (λ g. val p g r.group ≡ Some v) same e in
          elim (rows-changed rows place f r i) [
            | inl j ↦ s.ups r j v e'
            | inr c ↦
                (let k : r.group ≡ (c.from).group = sym (ap (λ x. x.group) c.is) ∙ keeps c.from in
                let u : v ≤ (f c.from).up = ups c.from c.at v (subst (λ g. val p (groups_of rows) g ≡ Some v) k e') in
                subst (λ (x : Row). v ≤ x.up) c.is u)
          ];
    }

pub enters_keep : EntersKeep
enters_keep p limit rows group sized told s real absent room = events-sound p limit rows (enter group ∷ []) sized told s ((real, absent, room), tt)

pub raises_keep : RaisesKeep
raises_keep p limit rows place to r s at le = change-sound p limit rows place (λ x. record { group = x.group; low = max x.low to; up = x.up }) (λ x. refl) s
    (λ x e.
    let is = some-row r x (slice_get rows place) at e in
    let a : to ≤ low p (groups_of rows) x.group = subst (λ (y : Row). to ≤ low p (groups_of rows) y.group) is le in
    let b = s.lows x (row-at rows place x e) in
    omega arith)
    (λ x e v is. s.ups x (row-at rows place x e) v is)

pub caps_keep : CapsKeep
caps_keep p limit rows place to r s at ge = change-sound p limit rows place (λ x. record { group = x.group; low = x.low; up = min x.up to }) (λ x. refl) s
    (λ x e. s.lows x (row-at rows place x e))
    (λ x e v is.
    let same = some-row r x (slice_get rows place) at e in
    let a = ge v (subst (λ (y : Row). val p (groups_of rows) y.group ≡ Some v) (sym same) is) in
    let b = s.ups x (row-at rows place x e) v is in
    omega arith)

pub low_grows : LowGrows
low_grows p old new group more = low-grows p old new group more

pub val_falls : ValFalls
val_falls p old new group v more is = let b = val-falls p old new group v more is in (b.value, b.is, b.le)

pub sound_are_groups : SoundAreGroups
sound_are_groups p limit rows s = record {
  distinct = s.distinct;
  within = λ r i. wanted-within p r.group (s.real r i).wanted;
  goals = λ r i. (s.real r i).goals;
}
