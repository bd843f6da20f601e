-- Sound rows fit, each event that the rows allow keeps them sound, and an event is refused exactly where it is not allowed.
use Rattle.std.proofs.Common.{◌≡◌, ℕ, ◌<◌, ◌≤◌, List, [], ◌∷◌, length, refl, sym, ap, ◌∙◌, arith, inl, inr, subst, Option, Some, None, Result, Ok, Err}
use Rattle.std.specs.Prelude.{Bool, true, false, cond, nat_lt, nat_le, slice_get, IsOk, OnOk}
use Rattle.std.proofs.lemmas.Bool.{lt-ltb, le-leb, ltb-true, leb-true, true≢false}
use Rattle.seq_theory.specs.Problem.{Problem, IsSized, IsWithin}
use Rattle.seq_theory.specs.Laws.{RunsHold}
use Rattle.seq_theory.specs.Graph.{is_entered, IsReal}
use Rattle.seq_theory.specs.Greedy.{greedy_cost}
use Rattle.seq_theory.specs.Rows.{Row as TheoryRow, groups_of, IsRow, IsSound, IsAllowed, enter, raise, cap, after, most_low, least_up}
use Rattle.seq_theory.proofs.RowLaws.{sound-bounds, wanted-within}
use Rattle.seq_theory.proofs.GreedyLaws.{least-le-greedy, bound-le-least}
use Rattle.seq_inst.specs.declared.instance.Instance.{Instance}
use Rattle.seq_inst.specs.declared.outcome.Row.{Row}
use Rattle.seq_inst.specs.Members.{members}
use Rattle.seq_inst.specs.Instances.{problem_of}
use Rattle.seq_core.specs.declared.event.Event.{Event}
use Rattle.seq_core.specs.declared.event.Event.TheVariants.{Enter, Raise, Cap}
use Rattle.seq_core.specs.declared.event.Illegal.{Illegal}
use Rattle.seq_core.specs.declared.event.Illegal.TheVariants.{Limit, TooHigh, TooLow}
use Rattle.seq_core.specs.RowsOf.{row_of, rows_of, place_of_group, AreFit}
use Rattle.seq_core.specs.Events.{event_of, EntersReal, rows_after, enter_refusal, raise_refusal, cap_refusal, refusal, answer}
use Rattle.seq_core.proofs.TableLaws.{rows_of-more, place-found, place-absent, found-entered}
use Rattle.seq_core.proofs.ChangeLaws.{raised-rows, capped-rows}

pub sized : (inst : Instance) → IsSized (problem_of inst)
sized inst = record { classes = inst.valid.few; costs = λ t lt. (inst.valid.costs t lt).1; weights = inst.valid.total }

-- a row of the theory's list is one of the code's
row-code : (rows : List Row) (x : TheoryRow) → IsRow x (rows_of rows) → (r : Row) × (row_of r ≡ x)
row-code [] x i = absurd i
row-code (r ∷ rest) x (inl e) = (r, e)
row-code (r ∷ rest) x (inr i) = row-code rest x i

pub sound-fit : (inst : Instance) (limit : ℕ) (rows : List Row) → IsSound (problem_of inst) limit (rows_of rows) → AreFit (problem_of inst) (rows_of rows)
sound-fit inst limit rows s x i =
    let p = problem_of inst in
    let real = s.real x i in
    let within = wanted-within p x.group real.wanted in
    let c = row-code rows x i in
    let wc : IsWithin p (members (c.0).group) = subst (λ (y : TheoryRow). IsWithin p y.group) (sym c.1) within in
    let between = sound-bounds p limit (rows_of rows) x inst.stands.weighed inst.valid.told s i in
    let a = between.0 in
    let most = between.1 in
    let under = bound-le-least p x.group inst.stands.weighed inst.valid.told within in
    let b = least-le-greedy p x.group inst.valid.told within in
    let g = ap (λ (y : TheoryRow). greedy_cost p y.group) c.1 in
    let d = inst.stands.greedy_fits (c.0).group wc in
    record { within = within; goals = real.goals; small = omega arith }

pub after-rows : (rows : List Row) (e : Event) → rows_of (rows_after rows e) ≡ after (rows_of rows) (event_of e)
after-rows rows (Enter group) = rows_of-more rows _
after-rows rows (Raise place to) = raised-rows rows place to
after-rows rows (Cap place to) = capped-rows rows place to

-- an allowed event keeps the rows sound
pub sound-after : RunsHold → (inst : Instance) (limit : ℕ) (old new : List Row) (e : Event) → IsSound (problem_of inst) limit (rows_of old) → IsAllowed (problem_of inst) limit (rows_of old) (event_of e) → new ≡ rows_after old e → IsSound (problem_of inst) limit (rows_of new)
sound-after law inst limit old new e s a is =
    let p = problem_of inst in
    subst (IsSound p limit) (sym (ap rows_of is ∙ after-rows old e)) (law p limit (rows_of old) (event_of e ∷ []) (sized inst) inst.valid.told s (a, tt))

-- ---- refused exactly where it is not allowed ----

pub enter-allowed : (p : Problem) (limit : ℕ) (rows : List Row) (group : List ℕ) → IsReal p group → enter_refusal limit (rows_of rows) (place_of_group (rows_of rows) group) ≡ None → IsAllowed p limit (rows_of rows) (enter group)
enter-allowed p limit rows group real e = go (place_of_group (rows_of rows) group) refl e
  where
    go : (o : Option ℕ) → place_of_group (rows_of rows) group ≡ o → enter_refusal limit (rows_of rows) o ≡ None → IsAllowed p limit (rows_of rows) (enter group)
    go (Some k) is e = absurd (let bad : ⊥ = cc in bad)
    go None is e = (real, (place-absent rows group is).no_group, room (nat_lt (length (rows_of rows)) limit) refl e)
      where
        room : (b : Bool) → nat_lt (length (rows_of rows)) limit ≡ b → cond b None (Some (Limit (length (rows_of rows)))) ≡ None → length (rows_of rows) < limit
        room true y e = ltb-true (length (rows_of rows)) limit y
        room false n e = absurd (let bad : ⊥ = cc in bad)

pub allowed-enter : (p : Problem) (limit : ℕ) (rows : List Row) (group : List ℕ) → IsAllowed p limit (rows_of rows) (enter group) → enter_refusal limit (rows_of rows) (place_of_group (rows_of rows) group) ≡ None
allowed-enter p limit rows group a = go (place_of_group (rows_of rows) group) refl
  where
    go : (o : Option ℕ) → place_of_group (rows_of rows) group ≡ o → enter_refusal limit (rows_of rows) o ≡ None
    go None is = rw (lt-ltb (length (rows_of rows)) limit a.2) refl
    go (Some k) is = absurd (
        let f = place-found rows group k is in
        let i = subst (λ g. is_entered (groups_of (rows_of rows)) g ≡ true) (sym f.same) (found-entered rows k f.there) in
        true≢false (sym i ∙ a.1))

pub raise-allowed : (p : Problem) (limit : ℕ) (rows : List TheoryRow) (place to : ℕ) → raise_refusal p rows to (slice_get rows place) ≡ None → IsAllowed p limit rows (raise place to)
raise-allowed p limit rows place to e = go (slice_get rows place) refl e
  where
    go : (o : Option TheoryRow) → slice_get rows place ≡ o → raise_refusal p rows to o ≡ None → IsAllowed p limit rows (raise place to)
    go None is e = absurd (let bad : ⊥ = cc in bad)
    go (Some r) is e = (r, is, le (nat_le to (most_low p rows r.group)) refl e)
      where
        le : (b : Bool) → nat_le to (most_low p rows r.group) ≡ b → cond b None (Some (TooHigh to (most_low p rows r.group))) ≡ None → to ≤ most_low p rows r.group
        le true y e = leb-true to (most_low p rows r.group) y
        le false n e = absurd (let bad : ⊥ = cc in bad)

pub allowed-raise : (p : Problem) (limit : ℕ) (rows : List TheoryRow) (place to : ℕ) → IsAllowed p limit rows (raise place to) → raise_refusal p rows to (slice_get rows place) ≡ None
allowed-raise p limit rows place to a = ap (raise_refusal p rows to) a.1 ∙ rw (le-leb to (most_low p rows (a.0).group) a.2) refl

pub cap-allowed : (p : Problem) (limit : ℕ) (rows : List TheoryRow) (place to : ℕ) → cap_refusal p rows to (slice_get rows place) ≡ None → IsAllowed p limit rows (cap place to)
cap-allowed p limit rows place to e = go (slice_get rows place) refl e
  where
    go : (o : Option TheoryRow) → slice_get rows place ≡ o → cap_refusal p rows to o ≡ None → IsAllowed p limit rows (cap place to)
    go None is e = absurd (let bad : ⊥ = cc in bad)
    go (Some r) is e = (r, is, le (nat_le (least_up p rows r.group) to) refl e)
      where
        le : (b : Bool) → nat_le (least_up p rows r.group) to ≡ b → cond b None (Some (TooLow to (least_up p rows r.group))) ≡ None → least_up p rows r.group ≤ to
        le true y e = leb-true (least_up p rows r.group) to y
        le false n e = absurd (let bad : ⊥ = cc in bad)

pub allowed-cap : (p : Problem) (limit : ℕ) (rows : List TheoryRow) (place to : ℕ) → IsAllowed p limit rows (cap place to) → cap_refusal p rows to (slice_get rows place) ≡ None
allowed-cap p limit rows place to a = ap (cap_refusal p rows to) a.1 ∙ rw (le-leb (least_up p rows (a.0).group) to a.2) refl

pub refusal-allowed : (p : Problem) (limit : ℕ) (rows : List Row) (e : Event) → EntersReal p e → refusal p limit (rows_of rows) e ≡ None → IsAllowed p limit (rows_of rows) (event_of e)
refusal-allowed p limit rows (Enter group) real r = enter-allowed p limit rows (members group) real r
refusal-allowed p limit rows (Raise place to) real r = raise-allowed p limit (rows_of rows) place to r
refusal-allowed p limit rows (Cap place to) real r = cap-allowed p limit (rows_of rows) place to r

pub allowed-refusal : (p : Problem) (limit : ℕ) (rows : List Row) (e : Event) → IsAllowed p limit (rows_of rows) (event_of e) → refusal p limit (rows_of rows) e ≡ None
allowed-refusal p limit rows (Enter group) a = allowed-enter p limit rows (members group) a
allowed-refusal p limit rows (Raise place to) a = allowed-raise p limit (rows_of rows) place to a
allowed-refusal p limit rows (Cap place to) a = allowed-cap p limit (rows_of rows) place to a

-- ---- the answer ----

answer-none : (o : Option Illegal) → OnOk (answer o) (o ≡ None)
answer-none None = refl
answer-none (Some i) = tt

on_ok-map : (P Q : Type 0) (r : Result (Unit {0}) Illegal) → (P → Q) → OnOk r P → OnOk r Q
on_ok-map P Q (Ok x) f h = f h
on_ok-map P Q (Err i) f h = tt

pub answer-allowed : (p : Problem) (limit : ℕ) (rows : List Row) (e : Event) (r : Result (Unit {0}) Illegal) → EntersReal p e → r ≡ answer (refusal p limit (rows_of rows) e) → OnOk r (IsAllowed p limit (rows_of rows) (event_of e))
answer-allowed p limit rows e r real is =
    subst (λ x. OnOk x (IsAllowed p limit (rows_of rows) (event_of e))) (sym is)
    (on_ok-map (refusal p limit (rows_of rows) e ≡ None) (IsAllowed p limit (rows_of rows) (event_of e)) (answer (refusal p limit (rows_of rows) e)) (refusal-allowed p limit rows e real) (answer-none (refusal p limit (rows_of rows) e)))

pub allowed-answer : (p : Problem) (limit : ℕ) (rows : List Row) (e : Event) (r : Result (Unit {0}) Illegal) → r ≡ answer (refusal p limit (rows_of rows) e) → IsAllowed p limit (rows_of rows) (event_of e) → IsOk r
allowed-answer p limit rows e r is a = subst (λ x. IsOk x) (sym (is ∙ ap answer (allowed-refusal p limit rows e a))) refl
