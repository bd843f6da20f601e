-- The law of settling by size, for rows that an engine changes: a turn sets the row of a place to what the rows' groups give it.
-- That all smaller groups had their turns is read off the rows as they are now, whose groups are those that they had.
use Rattle.std.proofs.Common.{◌≡◌, ℕ, ◌+◌, ◌<◌, List, length, length-set, set, slice_index, get_or-set_same, get_or-set_other, refl, sym, ap, ◌∙◌, arith}
use Rattle.seq_theory.specs.Problem.{Problem}
use Rattle.seq_theory.specs.Graph.{low, val}
use Rattle.seq_theory.specs.Rows.{IsSound}
use Rattle.seq_theory.proofs.CountedLaws.{counted-length, counted-below}
use Rattle.seq_inst.specs.declared.group.Group.{Group}
use Rattle.seq_inst.specs.declared.instance.Instance.{Instance}
use Rattle.seq_inst.specs.declared.outcome.Row.{Row}
use Rattle.seq_inst.specs.Members.{members}
use Rattle.seq_inst.specs.Instances.{problem_of}
use Rattle.seq_core.specs.RowsOf.{rows_of}
use Rattle.seq_core.specs.Settled.{groups_in, value_or, settled_row, first_row, row_at, size_at, AreSettledBelow, AreSettling, IsAmongFirst, IsBySize}
use Rattle.seq_core.specs.Laws.{TurnsSettle, TurnsStart, TurnsGoOn, TurnsEnd}
use Rattle.seq_core.proofs.SettleLaws.{same-groups, known_low-settled, known_up-settled, raised-settled, capped-settled, least_up-settled, settled-more, settled-all, sound-settling}
use Rattle.seq_core.proofs.SettleSteps.{turns-below, turns-next, turns-all}

-- where the smaller rows are settled, sound rows are on the way, and these are done
settling : (inst : Instance) (limit : ℕ) (rows : List Row) → IsSound (problem_of inst) limit (rows_of rows) → (size : ℕ) → AreSettledBelow (problem_of inst) rows size → AreSettling (problem_of inst) rows rows (λ k. size_at rows k < size)
settling inst limit rows sound size below =
    let start = sound-settling inst limit rows sound in
    record { groups = start.groups; many = start.many; each = start.each; done = below }

pub turns_settle : TurnsSettle
turns_settle inst limit rows place sound there below =
    let s = settling inst limit rows sound (size_at rows place) below in
    record {
      lows = known_low-settled inst rows rows (λ k. size_at rows k < size_at rows place) s (size_at rows place) (λ j lt less. less);
      ups = known_up-settled inst rows rows (λ k. size_at rows k < size_at rows place) s (size_at rows place) (λ j lt less. less);
      raised = raised-settled inst rows rows (λ k. size_at rows k < size_at rows place) s place there (λ j lt less. less);
      capped = capped-settled inst rows rows (λ k. size_at rows k < size_at rows place) s place there (λ j lt less. less);
      value = least_up-settled inst rows rows (λ k. size_at rows k < size_at rows place) s place there (λ j lt less. less);
    }

pub turns_start : TurnsStart
turns_start inst limit rows order sound =
    let start = sound-settling inst limit rows sound in
    record { groups = start.groups; many = start.many; each = start.each; done = λ k lt d. absurd (let l = d.1 in let bad : ⊥ = omega arith in bad) }

module _ (p : Problem) (rows now : List Row) (order : List ℕ) (n : ℕ) (s : AreSettling p rows now (IsAmongFirst order n)) where
  same-entered : groups_in now ≡ groups_in rows
  same-entered = same-groups now rows s.many (λ k lt. (s.each k lt).group)

  settled-group : (k : ℕ) → k < length rows → settled_row p (groups_in now) (row_at now k) ≡ settled_row p (groups_in rows) (row_at rows k)
  settled-group k lt =
      ap (λ e. settled_row p e (row_at now k)) same-entered
      ∙ ap (λ (g : Group). record { group = g; low = low p (groups_in rows) (members g); up = value_or (val p (groups_in rows) (members g)) }) (s.each k lt).group

  below-settled : IsBySize rows order → n < length order → AreSettledBelow p now (size_at now (slice_index order n))
  below-settled by lt j there less =
      let many = s.many in
      let long = counted-length (length rows) order by.each_once in
      let k = slice_index order n in
      let k_there = counted-below (length rows) order by.each_once n (omega arith) in
      let a = ap (λ (g : Group). length (members g)) (s.each k k_there).group in
      let b = ap (λ (g : Group). length (members g)) (s.each j (omega arith)).group in
      let done = turns-below rows order n by lt j (omega arith) (omega arith) in
      s.done j (omega arith) done ∙ sym (settled-group j (omega arith))

  settled-turn : IsBySize rows order → n < length order → AreSettling p rows (set now (slice_index order n) (settled_row p (groups_in now) (row_at now (slice_index order n)))) (IsAmongFirst order (n + 1))
  settled-turn by lt =
      let k = slice_index order n in
      let many = s.many in
      let long = counted-length (length rows) order by.each_once in
      let there = counted-below (length rows) order by.each_once n (omega arith) in
      let x = settled_row p (groups_in now) (row_at now k) in
      settled-more p rows now (set now k x) (IsAmongFirst order n) (IsAmongFirst order (n + 1)) k s (length-set now k x)
      (get_or-set_same now k x first_row (omega arith) ∙ settled-group k there)
      (λ j ne. get_or-set_other now k j x first_row ne)
      (turns-next order n)

pub turns_go_on : TurnsGoOn
turns_go_on p rows now order n by lt s = (below-settled p rows now order n s by lt, settled-turn p rows now order n s by lt)

pub turns_end : TurnsEnd
turns_end p rows now order by s = settled-all p rows now (IsAmongFirst order (length order)) s (turns-all rows order (length order) by refl)
