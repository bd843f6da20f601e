-- A worker has fewer rows than there are places, as long as a group that has a place has no row: its rows stand at places of their
-- own, since no two rows have the same group.
use Rattle.std.proofs.Common.{◌≡◌, inl, inr, ℕ, ◌<◌, ◌≤◌, Bool, true, false, ◌||◌, eqb, List, [], ◌∷◌, length, refl, sym, ap, ◌∙◌, subst, arith, true≢false}
use Rattle.std.proofs.lemmas.Bool.{cases_Bool, or_parts, eqb-true}
use Rattle.std.proofs.lemmas.Map.Steps.{length-le_from_distinct_below}
use Rattle.std.specs.List.{AllByRecursion, IsDistinct, list_any, AllZip}
use Rattle.seq_theory.specs.Graph.{same_group, is_entered}
use Rattle.seq_theory.specs.Rows.{AreDistinct}
use Rattle.seq_theory.proofs.RowLaws.{same_group-refl}
use Rattle.seq_inst.specs.declared.outcome.Row.{Row}
use Rattle.seq_inst.specs.Members.{members}
use Rattle.seq_core.specs.Settled.{groups_in}
use Rattle.seq_words.specs.declared.view.View.{View}
use Rattle.seq_words.specs.Knowledge.{IsThere, group_at}
use Rattle.seq_work.specs.Works.{StandsAt}
use Rattle.seq_work.proofs.Standing.{inside}
use Rattle.seq_work.proofs.Zips.{zip-length}

module _ (v : View) where
  apart-from : (rows : List Row) (places : List ℕ) (g : List ℕ) (p : ℕ) → AllZip (StandsAt v) rows places → is_entered (groups_in rows) g ≡ false → group_at p v ≡ g → AllByRecursion (λ q. eqb p q ≡ false) places
  apart-from [] [] g p a none at = tt
  apart-from [] (q ∷ qs) g p a none at = absurd a
  apart-from (r ∷ rows) [] g p a none at = tt
  apart-from (r ∷ rows) (q ∷ qs) g p a none at =
      let s = or_parts (same_group g (members r.group)) (is_entered (groups_in rows) g) none in (
        elim (cases_Bool (eqb p q)) [
          | inl y ↦ absurd (
              let here : members r.group ≡ g = sym (a.0).group ∙ ap (λ k. group_at k v) (sym (eqb-true p q y)) ∙ at in
              true≢false (sym (subst (λ h. same_group g h ≡ true) (sym here) (same_group-refl g)) ∙ s.0)
              )
          | inr n ↦ n
        ],
        apart-from rows qs g p a.1 s.1 at,
      )

  spread : (rows : List Row) (places : List ℕ) → AllZip (StandsAt v) rows places → AreDistinct (groups_in rows) → IsDistinct eqb places
  unfolding IsDistinct
  spread [] [] a d = tt
  spread [] (q ∷ qs) a d = absurd a
  spread (r ∷ rows) [] a d = tt
  spread (r ∷ rows) (q ∷ qs) a d = (apart-from rows qs (members r.group) q a.1 d.0 (a.0).group, spread rows qs a.1 d.1)

  with-new : (rows : List Row) (places : List ℕ) (g : List ℕ) (p : ℕ) → AllZip (StandsAt v) rows places → AreDistinct (groups_in rows) → is_entered (groups_in rows) g ≡ false → group_at p v ≡ g → IsDistinct eqb (p ∷ places)
  unfolding IsDistinct
  with-new rows places g p a d none at = (apart-from rows places g p a none at, spread rows places a d)

  any-there : (rows : List Row) (places : List ℕ) (q : ℕ) → AllZip (StandsAt v) rows places → list_any (eqb q) places ≡ true → IsThere q v
  any-there rows [] q a h = absurd (true≢false (sym h))
  any-there [] (p ∷ ps) q a h = absurd a
  any-there (r ∷ rows) (p ∷ ps) q a h = go (eqb q p) refl h (any-there rows ps q a.1)
    where
      go : (b : Bool) → eqb q p ≡ b → (b || list_any (eqb q) ps) ≡ true → (list_any (eqb q) ps ≡ true → IsThere q v) → IsThere q v
      go true y h later = subst (λ k. IsThere k v) (sym (eqb-true q p y)) (a.0).known.0
      go false n h later = later h

  pub few-rows : (limit : ℕ) (rows : List Row) (places : List ℕ) (g : List ℕ) (p : ℕ) → length v.known ≡ limit → AllZip (StandsAt v) rows places → AreDistinct (groups_in rows) → is_entered (groups_in rows) g ≡ false → IsThere p v → group_at p v ≡ g → length rows < limit
  few-rows limit rows places g p sized a d none there at =
      let long = zip-length (StandsAt v) rows places a in
      let most = length-le_from_distinct_below (p ∷ places) limit (with-new rows places g p a d none at) (λ q h. below q (eqb q p) refl h) in
      omega arith
    where
      below : (q : ℕ) (b : Bool) → eqb q p ≡ b → (b || list_any (eqb q) places) ≡ true → q < limit
      below q true y h = (let i = inside v p there in let e = eqb-true q p y in omega arith)
      below q false n h = (let i = inside v q (any-there rows places q a h) in omega arith)

  -- and never more rows than places
  pub most-rows : (limit : ℕ) (rows : List Row) (places : List ℕ) → length v.known ≡ limit → AllZip (StandsAt v) rows places → AreDistinct (groups_in rows) → length rows ≤ limit
  most-rows limit rows places sized a d =
      let long = zip-length (StandsAt v) rows places a in
      let most = length-le_from_distinct_below places limit (spread rows places a d) (λ q h. let i = inside v q (any-there rows places q a h) in omega arith) in
      omega arith
