-- What a search ends with. Where a worker knows the group of all classes closed, its row is, since the rows are no worse than what any
-- seat has seen; and then low and value of the group meet, for both lie on the far sides of the least cost. Where a worker knew all
-- places, these are all rows.
use Rattle.std.proofs.Common.{◌≡◌, ◌≢◌, ◌⊎◌, inl, inr, ℕ, zero, suc, ◌+◌, ◌-◌, ◌<◌, ◌≤◌, Bool, true, false, ◌||◌, List, [], ◌∷◌, ◌++◌, length, get_or, drop, replicate, refl, sym, ap, ◌∙◌, subst, arith, true≢false, All, Option, Some, None, get_or-drop}
use Rattle.std.specs.Prelude.{IfSome, IsSome}
use Rattle.std.specs.List.{AllZip}
use Rattle.std.proofs.Math.ListN.{get_or-append}
use Rattle.std.proofs.Math.Seq.{get_or-append_right}
use mathlib.Core.Logic.{dite}
use native.Mathlib.Decide.{dec_le}
use Rattle.seq_theory.specs.Problem.{Problem, all_classes, is_end}
use Rattle.seq_theory.specs.Graph.{same_group, is_entered, low, val}
use Rattle.seq_theory.specs.Rows.{IsRow, IsSound, AreDistinct}
use Rattle.seq_theory.proofs.LowLaws.{low-end, low-le-least}
use Rattle.seq_theory.proofs.ValLaws.{val-end, val-entered, least-le-val}
use Rattle.seq_theory.proofs.RowLaws.{wanted-within, same_group-true, same_group-refl, or-left, or-right}
use Rattle.seq_inst.specs.declared.group.Group.{Group}
use Rattle.seq_inst.specs.declared.instance.Instance.{Instance}
use Rattle.seq_inst.specs.declared.outcome.Row.{Row}
use Rattle.seq_inst.specs.Members.{members}
use Rattle.seq_inst.specs.Instances.{problem_of}
use Rattle.seq_core.specs.Words.{classes_of}
use Rattle.seq_core.specs.RowsOf.{row_of as row_from, rows_of as rows_from}
use Rattle.seq_core.specs.Settled.{groups_in}
use Rattle.seq_core.specs.Entered.{MayStop, IsFull}
use Rattle.seq_graph.specs.Known.{row_at, group_at}
use Rattle.seq_graph.specs.Behind.{IsBehind, AreBehind}
use Rattle.seq_words.specs.declared.view.Told.{Told}
use Rattle.seq_words.specs.declared.view.View.{View}
use Rattle.seq_words.specs.Knowledge.{told_of, problem_in}
use Rattle.seq_words.specs.Seats.{Wording, Sitting}
use Rattle.seq_words.specs.Closing.{AreOf}
use Rattle.seq_work.specs.declared.local.Local.{Local}
use Rattle.seq_work.specs.declared.work.WorkEnd.{WorkEnd}
use Rattle.seq_work.specs.declared.work.WorkEnd.TheVariants.{Solved, Full}
use Rattle.seq_work.specs.Works.{StandsAt, Ready}
use Rattle.seq_work.specs.Turns.{IsFullFor}
use Rattle.seq_work.specs.Ends.{KnowsRoot, IsClosedFor}
use Rattle.seq_work.specs.Fans.{WorkedAt, AreDone}
use Rattle.seq_work.proofs.Zips.{zip-length}
use Rattle.seq_work.specs.Searches.{BeginsWithAll, IsSolved, HasCause, end_of, HaveEnded, first_missed}

-- ---- rows ----

row-among : (rows : List Row) (k : ℕ) → k < length rows → IsRow (row_from (row_at rows k)) (rows_from rows)
row-among [] k lt = absurd (let bad : ⊥ = omega arith in bad)
row-among (r ∷ rest) zero lt = inl refl
row-among (r ∷ rest) (suc k) lt = inr (row-among rest k (omega arith))

row-entered : (rows : List Row) (k : ℕ) → k < length rows → is_entered (groups_in rows) (members (group_at rows k)) ≡ true
row-entered [] k lt = absurd (let bad : ⊥ = omega arith in bad)
row-entered (r ∷ rest) zero lt = or-left _ _ (same_group-refl (members r.group))
row-entered (r ∷ rest) (suc k) lt = or-right (same_group (members (group_at rest k)) (members r.group)) _ (row-entered rest k (omega arith))

long-rows : (rows : List Row) → length (rows_from rows) ≡ length rows
long-rows [] = refl
long-rows (r ∷ rest) = ap suc (long-rows rest)

long-groups : (rows : List Row) → length (groups_in rows) ≡ length rows
long-groups [] = refl
long-groups (r ∷ rest) = ap suc (long-groups rest)

absent : (rows : List Row) (g : List ℕ) → ((k : ℕ) → k < length rows → members (group_at rows k) ≢ g) → is_entered (groups_in rows) g ≡ false
absent [] g other = refl
absent (r ∷ rest) g other = go (same_group g (members r.group)) refl (absent rest g (λ k lt. other (suc k) (omega arith)))
  where
    go : (b : Bool) → same_group g (members r.group) ≡ b → is_entered (groups_in rest) g ≡ false → (b || is_entered (groups_in rest) g) ≡ false
    go true y later = absurd (other 0 (omega arith) (sym (same_group-true g (members r.group) y)))
    go false n later = later

-- among distinct rows, the group of the first has no other
first-only : (rows : List Row) (k : ℕ) → AreDistinct (groups_in rows) → k < length rows → members (group_at rows k) ≡ members (group_at rows 0) → k ≡ 0
first-only rows zero d lt e = refl
first-only [] (suc k) d lt e = absurd (let bad : ⊥ = omega arith in bad)
first-only (r ∷ rest) (suc k) d lt e =
    let twice : is_entered (groups_in rest) (members r.group) ≡ true = subst (λ g. is_entered (groups_in rest) g ≡ true) e (row-entered rest k (omega arith)) in
    absurd (true≢false (sym twice ∙ d.0))

reaches : (n : ℕ) (rows : List Row) → ((k : ℕ) → k < n → k < length rows) → n ≤ length rows
reaches zero rows h = omega arith
reaches (suc n) rows h = let x = h n (omega arith) in omega arith

-- ---- what a worker knows ----

one-behind : (v : View) (rows : List Row) → AreOf v rows → (r : Row) (place : ℕ) → StandsAt v r place → IsBehind rows r
one-behind v rows a r place s =
    let h = a place s.known.0 in
    record {
      place = place;
      of = record { there = h.there; same = ap classes_of (h.group s.known.1) ∙ s.group };
      low = (let x = h.low in let y = s.low in omega arith);
      up = (let x = h.up in let y = s.up in omega arith);
    }

-- its rows are behind the closed ones
pub behind : (v : View) (rows : List Row) → AreOf v rows → (own : List Row) (places : List ℕ) → AllZip (StandsAt v) own places → AreBehind rows own
behind v rows a [] places z k d lt = absurd (let bad : ⊥ = omega arith in bad)
behind v rows a (r ∷ rest) [] z k d lt = absurd z
behind v rows a (r ∷ rest) (q ∷ qs) z zero d lt = one-behind v rows a r q z.0
behind v rows a (r ∷ rest) (q ∷ qs) z (suc k) d lt = behind v rows a rest qs z.1 k d (omega arith)

-- the last worker with its seat
pub last-ready : (inst : Instance) (w : Wording) (rows : List Row) (seats : List Sitting) (front : List Local) (x : Local) → AllZip (Ready inst w) seats (front ++ x ∷ []) → All (λ (s : Sitting). AreOf s.view rows) seats
    → (s : Sitting) × Ready inst w s x × AreOf s.view rows
last-ready inst w rows [] [] x z a = absurd z
last-ready inst w rows [] (f ∷ fs) x z a = absurd z
last-ready inst w rows (s ∷ ss) [] x z a = (s, z.0, a 0 s (omega arith))
last-ready inst w rows (s ∷ ss) (f ∷ fs) x z a = last-ready inst w rows ss fs x z.1 (λ k d lt. a (suc k) d (omega arith))

-- there are as many workers as ends
pub as-many : (inst : Instance) (w : Wording) (seats : List Sitting) (locals : List Local) (ends : List (Option WorkEnd)) → AreDone inst w seats locals ends → length locals ≡ length ends
as-many inst w seats locals ends done = sym (zip-length (Ready inst w) seats locals done.ready) ∙ zip-length (WorkedAt inst w) seats ends done.ended

-- ---- the group of all classes ----

pub begins : (p : Problem) (rows : List Row) (v : View) → KnowsRoot p v → AreOf v rows → BeginsWithAll p rows
begins p rows v k a = record {
  some = λ more. let t = k.there more in let h = a 0 t.0 in let lt = h.there in omega arith;
  first = λ more. let t = k.there more in let h = a 0 t.0 in ap classes_of (h.group t.1) ∙ k.group more;
}

-- the first worker's seat knows where the group of all classes is
pub begins-done : (inst : Instance) (w : Wording) (rows : List Row) (seats : List Sitting) (locals : List Local) (ends : List (Option WorkEnd)) (n : ℕ) → AreDone inst w seats locals ends → All (λ (s : Sitting). AreOf s.view rows) seats → length ends ≡ n → 1 ≤ n
    → BeginsWithAll (problem_of inst) rows
begins-done inst w rows [] locals [] n done a long some = absurd (let bad : ⊥ = omega arith in bad)
begins-done inst w rows [] locals (e ∷ es) n done a long some = absurd done.ended
begins-done inst w rows (s ∷ ss) locals [] n done a long some = absurd done.ended
begins-done inst w rows (s ∷ ss) locals (e ∷ es) n done a long some = begins (problem_of inst) rows s.view done.ended.0.root (a 0 s (omega arith))

-- the closed rows are sound rows of the instance
pub sound-rows : (inst : Instance) (w : Wording) (limit : ℕ) (rows : List Row) → w.told ≡ told_of inst → w.limit ≡ limit → IsSound (problem_in w.told) w.limit (rows_from rows) → IsSound (problem_of inst) limit (rows_from rows)
sound-rows inst w limit rows told is sound = subst (λ n. IsSound (problem_of inst) n (rows_from rows)) is (subst (λ (t : Told). IsSound (problem_in t) w.limit (rows_from rows)) told sound)

pub root-entered : (p : Problem) (rows : List Row) → BeginsWithAll p rows → is_end p (all_classes p) ≡ false → is_entered (groups_in rows) (all_classes p) ≡ true
root-entered p rows b more = let some = b.some more in subst (λ g. is_entered (groups_in rows) g ≡ true) (b.first more) (row-entered rows 0 (omega arith))

-- ---- the ends of workers, with none after the last ----

same-default : {A : Type 0} (a : A) (n i : ℕ) → get_or (replicate n a) i a ≡ a
same-default a zero i = refl
same-default a (suc n) zero = refl
same-default a (suc n) (suc i) = same-default a n i

abbrev pub filled : ℕ → List (Option WorkEnd) → List (Option WorkEnd)
filled n ends = ends ++ drop n (replicate 16 None)

past-ends : (n : ℕ) (ends : List (Option WorkEnd)) (k : ℕ) → length ends ≡ n → n ≤ k → end_of (filled n ends) k ≡ None
past-ends n ends k long past = get_or-append_right ends (drop n (replicate 16 None)) k None (omega arith) ∙ (get_or-drop n (replicate 16 None) (k - length ends) None ∙ same-default None 16 (n + (k - length ends)))

module _ (inst : Instance) (limit : ℕ) (rows : List Row) (sound : IsSound (problem_of inst) limit (rows_from rows)) where
  -- where the up of a row is no more than its low, these are equal, and so are the group's low and its value
  closed-enough : (k : ℕ) → k < length rows → (row_at rows k).up ≤ (row_at rows k).low
      → ((row_at rows k).low ≡ (row_at rows k).up) × (val (problem_of inst) (groups_in rows) (members (group_at rows k)) ≡ Some (low (problem_of inst) (groups_in rows) (members (group_at rows k))))
  closed-enough k lt closed =
      let p = problem_of inst in
      let g = members (group_at rows k) in
      let entered = groups_in rows in
      let real = sound.real _ (row-among rows k lt) in
      let within = wanted-within p g real.wanted in
      let value = val-entered p entered g real.goals (row-entered rows k lt) in
      let below = sound.lows (row_from (row_at rows k)) (row-among rows k lt) in
      let above = sound.ups (row_from (row_at rows k)) (row-among rows k lt) _ value in
      let left = low-le-least p entered g inst.stands.weighed inst.valid.told within in
      let right = least-le-val p entered g _ inst.valid.told within value in
      (omega arith, value ∙ ap (λ n. Some n) (omega arith))

  solved-cause : (v : View) → AreOf v rows → BeginsWithAll (problem_of inst) rows → (is_end (problem_of inst) (all_classes (problem_of inst)) ≡ true) ⊎ IsClosedFor (problem_of inst) v → IsSolved (problem_of inst) rows
  solved-cause v a b (inl e) = record {
    closed = λ more. absurd (true≢false (sym e ∙ more));
    enough = val-end (problem_of inst) (groups_in rows) (all_classes (problem_of inst)) e ∙ ap (λ n. Some n) (sym (low-end (problem_of inst) (groups_in rows) (all_classes (problem_of inst)) e));
  }
  solved-cause v a b (inr c) =
      let p = problem_of inst in
      let h = a c.place c.known.0 in
      let lt = h.there in
      let low_is = h.low in
      let up_is = h.up in
      let closed = c.closed in
      let is : members (group_at rows c.place) ≡ all_classes p = ap classes_of (h.group c.known.1) ∙ c.group in
      let both = closed-enough c.place lt (omega arith) in
      record {
        closed = λ more. subst (λ k. (row_at rows k).low ≡ (row_at rows k).up) (first-only rows c.place sound.distinct lt (is ∙ sym (b.first more))) both.0;
        enough = subst (λ g. val p (groups_in rows) g ≡ Some (low p (groups_in rows) g)) is both.1;
      }

  full-cause : (w : Wording) (s : Sitting) (g : Group) → w.limit ≡ limit → AreOf s.view rows → IsFullFor inst w s g → IsFull (problem_of inst) limit (groups_in rows) (Some g)
  full-cause w s g is a f =
      let few = sound.few in
      let most : w.limit ≤ length rows = reaches w.limit rows (λ k lt. (a k (f.known k lt).0).there) in
      record {
        many = omega (arith, long-rows rows, long-groups rows);
        missed_is = (
          f.real,
          absent rows (members g) (λ k lt e.
              let there : k < w.limit = omega (arith, long-rows rows) in
              let known = f.known k there in
              f.other k there (sym (ap classes_of ((a k known.0).group known.1)) ∙ e)),
        );
      }

  -- ---- the ends ----

  one-cause : (w : Wording) (s : Sitting) (end : Option WorkEnd) → w.limit ≡ limit → BeginsWithAll (problem_of inst) rows → WorkedAt inst w s end → AreOf s.view rows
      → IsSome end × IfSome end (HasCause (problem_of inst) limit rows)
  one-cause w s None is b z a = (z.some, tt)
  one-cause w s (Some Solved) is b z a = (z.some, solved-cause s.view a b z.cause)
  one-cause w s (Some (Full g)) is b z a = (z.some, full-cause w s g is a z.cause)

  front-causes : (w : Wording) (seats : List Sitting) (ends : List (Option WorkEnd)) → w.limit ≡ limit → BeginsWithAll (problem_of inst) rows → AllZip (WorkedAt inst w) seats ends → All (λ (s : Sitting). AreOf s.view rows) seats
      → (k : ℕ) → k < length ends → IsSome (end_of ends k) × IfSome (end_of ends k) (HasCause (problem_of inst) limit rows)
  front-causes w seats [] is b z a k lt = absurd (let bad : ⊥ = omega arith in bad)
  front-causes w [] (e ∷ es) is b z a k lt = absurd z
  front-causes w (s ∷ ss) (e ∷ es) is b z a zero lt = one-cause w s e is b z.0 (a 0 s (omega arith))
  front-causes w (s ∷ ss) (e ∷ es) is b z a (suc k) lt = front-causes w ss es is b z.1 (λ j d l. a (suc j) d (omega arith)) k (omega arith)

  one-end : (w : Wording) (seats : List Sitting) (locals : List Local) (ends : List (Option WorkEnd)) (n : ℕ) → w.limit ≡ limit → BeginsWithAll (problem_of inst) rows → AreDone inst w seats locals ends → All (λ (s : Sitting). AreOf s.view rows) seats
      → length ends ≡ n → (k : ℕ) → k < n → IsSome (end_of (filled n ends) k) × IfSome (end_of (filled n ends) k) (HasCause (problem_of inst) limit rows)
  one-end w seats locals ends n is b done a long k lt =
      let at : end_of (filled n ends) k ≡ end_of ends k = get_or-append ends (drop n (replicate 16 None)) None k (omega arith) in
      subst (λ (o : Option WorkEnd). IsSome o × IfSome o (HasCause (problem_of inst) limit rows)) (sym at) (front-causes w seats ends is b done.ended a k (omega arith))

  -- each worker has ended for its cause
  pub have-ended : (w : Wording) (seats : List Sitting) (locals : List Local) (ends : List (Option WorkEnd)) (n : ℕ) → w.limit ≡ limit → BeginsWithAll (problem_of inst) rows → AreDone inst w seats locals ends → All (λ (s : Sitting). AreOf s.view rows) seats
      → length ends ≡ n → HaveEnded (problem_of inst) limit n rows (filled n ends)
  have-ended w seats locals ends n is b done a long = record {
    all = λ k lt. (one-end w seats locals ends n is b done a long k lt).0;
    causes = λ k. dite (dec_le n k)
        (λ past. subst (λ (o : Option WorkEnd). IfSome o (HasCause (problem_of inst) limit rows)) (sym (past-ends n ends k long past)) tt)
        (λ there. (one-end w seats locals ends n is b done a long k (omega arith)).1);
    no_other = λ k past. past-ends n ends k long past;
  }

  -- the first worker solved the problem, or places ran out
  stop : (ends : List (Option WorkEnd)) → IsSome (end_of ends 0) → ((k : ℕ) → IfSome (end_of ends k) (HasCause (problem_of inst) limit rows)) → MayStop (problem_of inst) limit (groups_in rows) (first_missed ends)
  stop [] i c = absurd (true≢false (sym i))
  stop (None ∷ rest) i c = absurd (true≢false (sym i))
  stop (Some Solved ∷ rest) i c = inl (c 0).enough
  stop (Some (Full g) ∷ rest) i c = inr (c 0)

  pub may-stop : (workers : ℕ) (ends : List (Option WorkEnd)) → 1 ≤ workers → HaveEnded (problem_of inst) limit workers rows ends → MayStop (problem_of inst) limit (groups_in rows) (first_missed ends)
  may-stop workers ends some h = stop ends (h.all 0 some) h.causes
