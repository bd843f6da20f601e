-- What each kind of step does to the core of the words. A raise or a cap is allowed there since the view's rows allow it, and the
-- core's are no worse.
use Rattle.std.proofs.Common.{◌≡◌, ℕ, suc, ◌+◌, ◌*◌, ◌<◌, ◌≤◌, false, List, [], ◌∷◌, ◌++◌, length, get_or, set, max, min, sym, ap, ◌∙◌, subst, arith}
use Rattle.seq_theory.specs.Graph.{is_entered}
use Rattle.seq_theory.specs.Rows.{no_value, groups_of, IsAllowed, enter, raise, cap, after, most_low, least_up}
use Rattle.seq_theory.specs.Rows.{Row as TheoryRow}
use Rattle.seq_inst.specs.declared.outcome.Row.{Row}
use Rattle.seq_inst.specs.Instances.{problem_of}
use Rattle.seq_words.specs.declared.view.Told.{Told}
use Rattle.seq_core.specs.RowsOf.{row_of, rows_of}
use Rattle.seq_core.specs.Settled.{row_at}
use Rattle.seq_core.specs.Words.{classes_of}
use Rattle.seq_words.specs.Layout.{bits_at, state_at, low_at, up_at, span, row_held, core_of}
use Rattle.seq_words.specs.Knowledge.{problem_in, known_rows, group_at}
use Rattle.seq_words.specs.Laws.{IsPlayed, PublishingEnters, RaisingRaises, LoweringCaps, WritingLeaves}
use Rattle.seq_words.proofs.Core.{same_list, span_at, length-core, core_at, core_set, core_same}
use Rattle.seq_words.proofs.Events.{row-got, row-set, rows-more, length-rows, not-entered}
use Rattle.seq_words.proofs.Licence.{most_low-grows, least_up-falls}
use Rattle.seq_words.proofs.Later.{row_low, row_up, row_low_other, row_up_other, row_state, row_bits_other}
use Rattle.seq_words.proofs.Views.{mine, there_below, group_is, core_row, in_core, bettered}

pub raising : RaisingRaises
raising inst limit s r id v at p x live may =
    let ws = s.words in
    let n : ℕ = max (get_or ws (low_at p) 0) x in
    let fit = mine inst limit s r id v at in
    let below = there_below inst limit s r id v at p may.there in
    let most = r.most in
    let wide = r.wide in
    let in_words : low_at p < length ws = omega arith in
    let rows = core_of ws r.count in
    let is = core_row inst limit s r id v at p below in
    let group = group_is inst limit s r id v at p may.whole in
    let q = problem_of inst in
    let licence : x ≤ most_low q (known_rows v.known) (group_at p v) = subst (λ (t : Told). x ≤ most_low (problem_in t) (known_rows v.known) (group_at p v)) (fit.terms live).0 may.allowed in
    let grows = most_low-grows q (known_rows v.known) (rows_of rows) r.sound.distinct (bettered inst limit s r id v at) (group_at p v) in
    let same_group : classes_of (row_at rows p).group.0 ≡ group_at p v = ap (λ (z : Row). classes_of z.group.0) is ∙ ap classes_of group in
    let in_rows = in_core inst limit s r id v at p below in
    let allowed : IsAllowed q limit (rows_of rows) (raise p x) = (row_of (row_at rows p), row-got rows p in_rows, subst (λ (g : List ℕ). x ≤ most_low q (rows_of rows) g) (sym same_group) (omega arith)) in
    let ws' = set ws (low_at p) n in
    let cores : core_of ws' r.count ≡ set rows p (row_held ws' p) = core_set ws ws' r.count p below (λ q b ne. row_low_other ws p n q ne) in
    let new_row = row_low ws p n in_words in
    let changed : TheoryRow → TheoryRow = λ z. record { group = z.group; low = max z.low x; up = z.up } in
    let events : rows_of (core_of ws' r.count) ≡ after (rows_of rows) (raise p x) =
    ap rows_of cores ∙ row-set rows p (row_held ws' p) changed in_rows (ap row_of new_row ∙ sym (ap (λ (z : Row). changed (row_of z)) is)) in record { allowed = allowed; after = events }

pub lowering : LoweringCaps
lowering inst limit s r id v at p x live may =
    let ws = s.words in
    let n : ℕ = min (get_or ws (up_at p) 0) x in
    let fit = mine inst limit s r id v at in
    let below = there_below inst limit s r id v at p may.there in
    let most = r.most in
    let wide = r.wide in
    let in_words : up_at p < length ws = omega arith in
    let rows = core_of ws r.count in
    let is = core_row inst limit s r id v at p below in
    let group = group_is inst limit s r id v at p may.whole in
    let q = problem_of inst in
    let licence : least_up q (known_rows v.known) (group_at p v) ≤ x = subst (λ (t : Told). least_up (problem_in t) (known_rows v.known) (group_at p v) ≤ x) (fit.terms live).0 may.allowed in
    let falls = least_up-falls q (known_rows v.known) (rows_of rows) r.sound.distinct (bettered inst limit s r id v at) (group_at p v) in
    let same_group : classes_of (row_at rows p).group.0 ≡ group_at p v = ap (λ (z : Row). classes_of z.group.0) is ∙ ap classes_of group in
    let in_rows = in_core inst limit s r id v at p below in
    let allowed : IsAllowed q limit (rows_of rows) (cap p x) = (row_of (row_at rows p), row-got rows p in_rows, subst (λ (g : List ℕ). least_up q (rows_of rows) g ≤ x) (sym same_group) (omega arith)) in
    let ws' = set ws (up_at p) n in
    let cores : core_of ws' r.count ≡ set rows p (row_held ws' p) = core_set ws ws' r.count p below (λ q b ne. row_up_other ws p n q ne) in
    let new_row = row_up ws p n in_words in
    let changed : TheoryRow → TheoryRow = λ z. record { group = z.group; low = z.low; up = min z.up x } in
    let events : rows_of (core_of ws' r.count) ≡ after (rows_of rows) (cap p x) =
    ap rows_of cores ∙ row-set rows p (row_held ws' p) changed in_rows (ap row_of new_row ∙ sym (ap (λ (z : Row). changed (row_of z)) is)) in record { allowed = allowed; after = events }

pub writing : WritingLeaves
writing inst limit s r id v at n j x is small =
    let here = ((mine inst limit s r id v at).scribe n is).1 in
    core_same s.words (set s.words (bits_at n j) x) r.count (λ q b. row_bits_other s.words n j x q small (λ e. omega arith))

pub publishing : PublishingEnters
publishing inst limit s r id v at n is all_stored =
    let ws = s.words in
    let fit = mine inst limit s r id v at in
    let d = fit.drafts n is in
    let some_stored : 0 < v.stored = omega arith in
    let room : n < limit = d.room some_stored in
    let here = (fit.scribe n is).1 in
    let ws' = set ws (state_at n) 1 in
    let fresh = r.fresh n (omega arith) room in
    let whole = d.whole some_stored in
    let group : span ws (11 * n + 2) 8 ≡ v.draft = same_list (span ws (11 * n + 2) 8) v.draft 0 (sym whole)
    (λ j h. let b : j < 8 = h in span_at ws (11 * n + 2) 8 j b ∙ (ap (λ k. get_or ws k 0) (omega arith) ∙ d.stored j (omega arith))) in
    let drafted : Row = record { group = record { 0 = v.draft }; low = 0; up = no_value } in
    let new_row : row_held ws' n ≡ drafted = row_state ws n 1 n ∙ (λ k. record { group = record { 0 = group k }; low = fresh.0 k; up = fresh.1 k }) in
    let q = problem_of inst in
    let rows = core_of ws n in
    let len = length-core ws n in
    let many = length-rows rows in
    let absent : is_entered (groups_of (rows_of rows)) (classes_of v.draft) ≡ false = not-entered rows (classes_of v.draft)
    (λ i b e. let b' : i < n = omega arith in let k = fit.knows n is i b' in
    d.new some_stored i b' (sym (ap classes_of (group_is inst limit s r id v at i k.1)) ∙ (sym (ap (λ (z : Row). classes_of z.group.0) (core_at ws n i b')) ∙ e))) in
    let few : length (rows_of rows) < limit = omega arith in
    let cores : core_of ws' (n + 1) ≡ rows ++ drafted ∷ [] =
    let one : n + 1 ≡ suc n = omega arith in ap (core_of ws') one ∙ (λ k. core_same ws ws' n (λ z b. row_state ws n 1 z) k ++ new_row k ∷ []) in
    let events : rows_of (core_of ws' (n + 1)) ≡ after (rows_of rows) (enter (classes_of v.draft)) = ap rows_of cores ∙ rows-more rows drafted in
    let played : IsPlayed q limit rows (core_of ws' (n + 1)) (enter (classes_of v.draft)) = record { allowed = (d.real some_stored, absent, few); after = events } in
    subst (λ z. IsPlayed q limit (core_of ws z) (core_of ws' (z + 1)) (enter (classes_of v.draft))) here played
