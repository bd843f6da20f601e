-- From each place the lines are gone through one by one; reading a piece of a report is going from its first place to the place
-- behind it. So the reader's first bad line is the first that isn't of the form that its place asks.
use Rattle.std.proofs.Common.{◌≡◌, ◌&&◌, ℕ, zero, suc, ◌+◌, ◌-◌, ◌*◌, Bool, true, false, cond, nat_eq, List, [], ◌∷◌, ◌++◌, length, codes, Option, Some, None, Result, Ok, Err, refl, sym, ap, ◌∙◌, subst, arith}
use Rattle.std.proofs.lemmas.Bool.Decides.{nat_tests}
use Rattle.std.specs.Option.{option_map}
use Rattle.sig_lines.specs.Pieces.{words_in, lines_in, tail_in}
use Rattle.sig_lines.specs.Reading.{Cursor, cursor, Reading, ◌>>=◌, ◌then◌, or_bad, first_line, pair, read_as, line_at}
use Rattle.sig_lines.specs.declared.labels.TestLabel.{TestLabel}
use Rattle.seq_inst.specs.declared.outcome.Verdict.{Verdict}
use Rattle.seq_inst.specs.declared.outcome.Verdict.TheVariants.{Optimal, Bounded}
use Rattle.seq_cert.specs.declared.head_reader.Head.{Head}
use Rattle.seq_cert.specs.declared.report.Report.{Report}
use Rattle.seq_cert.specs.declared.report.ClassLine.{ClassLine}
use Rattle.seq_cert.specs.declared.report.StateLine.{StateLine}
use Rattle.seq_cert.specs.declared.report.TreeLine.{TreeLine}
use Rattle.seq_cert.specs.declared.report.MissedLine.{MissedLine}
use Rattle.seq_cert.specs.LineForms.{most_64, numbered, title_in, mode_in, result_in, class_in, state_in, test_in, is_tree_line, tree_line_in, group_in, missed_in, end_in}
use Rattle.seq_cert.specs.Reading.{head_at, head_from, lines_at, states_at, class_line_of, class_at, classes_at, and_more, tree_lines_at, read_tree, read_missed, is_nothing, body_at, report_with, whole_at, only, report_at}
use Rattle.seq_cert.specs.Places.{with_asks, Told, Place, title, mode, states, classes, tests, weight, result, cost, low, gap, limit, groups, class, state, test, tree, group, end, over, after_group, after_tree, after_test, after_class, after_state, next_place, is_over, AreFormed, IsBadAt, IsFirstBadLine}
use Rattle.seq_cert.specs.BothWays.{HasOneFirst}

-- the number of the first bad line from a place on
abbrev goes_on : ℕ → (Place → Option ℕ) → Option Place → Option ℕ
goes_on number rest None = Some number
goes_on number rest (Some there) = rest there

abbrev goes : Place → ℕ → List (List ℕ) → List ℕ → Option ℕ
goes here number [] tail = cond (is_over here && nat_eq (length tail) 0) None (Some number)
goes here number (l ∷ ls) tail = goes_on number (λ there. goes there (number + 1) ls tail) (next_place here (words_in l))

-- what a reading comes to, gone on from the place behind it
abbrev after : {A : Type 0} → (A → Place) → Reading A → Option ℕ
after behind (Ok x) = goes (behind x.0) (x.1).number (x.1).lines (x.1).tail
after behind (Err n) = Some n

-- reading a piece is going from a place to the one behind it
abbrev Reads : {A : Type 0} → (Cursor → Reading A) → Place → (A → Place) → Type 0
Reads reading here behind = (number : ℕ) (lines : List (List ℕ)) (tail : List ℕ) → goes here number lines tail ≡ after behind (reading (record { number = number; lines = lines; tail = tail }))

-- from both places the lines are gone through alike
abbrev AreAlike : Place → Place → Type 0
AreAlike here there = (number : ℕ) (lines : List (List ℕ)) (tail : List ℕ) → goes here number lines tail ≡ goes there number lines tail

alike : (here there : Place) → is_over here ≡ false → is_over there ≡ false → ((words : List (List ℕ)) → next_place here words ≡ next_place there words) → AreAlike here there
alike here there a b e number [] tail = rw (a, b) refl
alike here there a b e number (l ∷ ls) tail = ap (goes_on number (λ there. goes there (number + 1) ls tail)) (e (words_in l))

line_by : {A : Type 0} (behind : A → Place) (number : ℕ) (ls : List (List ℕ)) (tail : List ℕ) (x : Option A) → goes_on number (λ there. goes there (number + 1) ls tail) (option_map behind x) ≡ after behind (or_bad number (record { number = number + 1; lines = ls; tail = tail }) x)
line_by behind number ls tail None = refl
line_by behind number ls tail (Some x) = refl

line : {A : Type 0} (form : List (List ℕ) → Option A) (here : Place) (behind : A → Place) → is_over here ≡ false → ((words : List (List ℕ)) → next_place here words ≡ option_map behind (form words)) → Reads (line_at form) here behind
line form here behind asks_more asked number [] tail = rw asks_more refl
line form here behind asks_more asked number (l ∷ ls) tail = ap (goes_on number (λ there. goes there (number + 1) ls tail)) (asked (words_in l)) ∙ line_by behind number ls tail (form (words_in l))

ended : {A B : Type 0} (a : A) (behind : A × B → Place) (y : Reading B) → after (λ b. behind (a, b)) y ≡ after behind (y >>= λ y. Ok ((a, y.0), y.1))
ended a behind (Ok y) = refl
ended a behind (Err n) = refl

joined : {A B : Type 0} (second : A → Cursor → Reading B) (between : A → Place) (behind : A × B → Place) → ((a : A) → Reads (second a) (between a) (λ b. behind (a, b))) → (x : Reading A) → after between x ≡ after behind (x >>= λ x. second x.0 x.1 >>= λ y. Ok ((x.0, y.0), y.1))
joined second between behind q (Err n) = refl
joined second between behind q (Ok x) = q x.0 (x.1).number (x.1).lines (x.1).tail ∙ ended x.0 behind (second x.0 x.1)

two : {A B : Type 0} (first : Cursor → Reading A) (second : A → Cursor → Reading B) (here : Place) (between : A → Place) (behind : A × B → Place) → Reads first here between → ((a : A) → Reads (second a) (between a) (λ b. behind (a, b))) → Reads (pair first second) here behind
two first second here between behind p q number lines tail = p number lines tail ∙ joined second between behind q (first (record { number = number; lines = lines; tail = tail }))

seen_by : {A B : Type 0} (view : A → B) (behind : B → Place) (x : Reading A) → after (λ a. behind (view a)) x ≡ after behind (x >>= λ x. Ok (view x.0, x.1))
seen_by view behind (Ok x) = refl
seen_by view behind (Err n) = refl

seen : {A B : Type 0} (view : A → B) (reading : Cursor → Reading A) (here : Place) (behind : B → Place) → Reads reading here (λ a. behind (view a)) → Reads (read_as view reading) here behind
seen view reading here behind p number lines tail = p number lines tail ∙ seen_by view behind (reading (record { number = number; lines = lines; tail = tail }))

-- so many lines, whose places end where the place behind them begins
module _ {A : Type 0} (form : ℕ → List (List ℕ) → Option A) (place : ℕ → ℕ → Place) (behind : Place) (asks_more : (left k : ℕ) → is_over (place (suc left) k) ≡ false) (asked : (left k : ℕ) (words : List (List ℕ)) → next_place (place (suc left) k) words ≡ option_map (λ x. place left (suc k)) (form k words)) (ends : (k : ℕ) → AreAlike (place 0 k) behind) where
  consed : (a : A) (y : Reading (List A)) → after (λ b. behind) y ≡ after (λ (b : List A). behind) (y >>= λ more. Ok (a ∷ more.0, more.1))
  consed a (Ok y) = refl
  consed a (Err n) = refl

  more : (count k : ℕ) → Reads (lines_at form count (suc k)) (place count (suc k)) (λ x. behind) → (x : Reading A) → after (λ a. place count (suc k)) x ≡ after (λ (b : List A). behind) (x >>= λ line. lines_at form count (suc k) line.1 >>= λ more. Ok (line.0 ∷ more.0, more.1))
  more count k rest (Err n) = refl
  more count k rest (Ok x) = rest (x.1).number (x.1).lines (x.1).tail ∙ consed x.0 (lines_at form count (suc k) x.1)

  pub many : (count k : ℕ) → Reads (lines_at form count k) (place count k) (λ x. behind)
  unfolding lines_at
  many zero k number lines tail = ends k number lines tail
  many (suc count) k number lines tail = line (form k) (place (suc count) k) (λ x. place count (suc k)) (asks_more count k) (asked count k) number lines tail ∙ more count k (many count (suc k)) (line_at (form k) (record { number = number; lines = lines; tail = tail }))

-- state lines; behind them stands the next class, with the room that is left
state_none : (told : Told) (left k room : ℕ) → AreAlike (state 0 room left k told) (class left k (room - 0) told)
state_none told left k room = let e : room - 0 ≡ room = omega arith in rw e (alike (state 0 room left k told) (class left k room told) refl refl (λ w. refl))

state_full : (told : Told) (left k count number : ℕ) (lines : List (List ℕ)) (tail : List ℕ) → goes (state (suc count) 0 left k told) number lines tail ≡ Some number
state_full told left k count number [] tail = refl
state_full told left k count number (l ∷ ls) tail = refl

state_cons : (told : Told) (left k room : ℕ) (a : StateLine) (y : Reading (List StateLine)) → after (λ l. class left k (room - length l) told) y ≡ after (λ l. class left k (suc room - length l) told) (y >>= λ more. Ok (a ∷ more.0, more.1))
state_cons told left k room a (Ok y) = let e : suc room - suc (length y.0) ≡ room - length y.0 = omega arith in rw e refl
state_cons told left k room a (Err n) = refl

states_more : (told : Told) (left k room count : ℕ) → Reads (states_at room count) (state count room left k told) (λ x. class left k (room - length x) told) → (x : Reading StateLine) → after (λ a. state count room left k told) x ≡ after (λ l. class left k (suc room - length l) told) (x >>= λ line. states_at room count line.1 >>= λ more. Ok (line.0 ∷ more.0, more.1))
states_more told left k room count rest (Err n) = refl
states_more told left k room count rest (Ok x) = rest (x.1).number (x.1).lines (x.1).tail ∙ state_cons told left k room x.0 (states_at room count x.1)

states_go : (told : Told) (left k room count : ℕ) → Reads (states_at room count) (state count room left k told) (λ x. class left k (room - length x) told)
unfolding states_at
states_go told left k zero zero number lines tail = state_none told left k 0 number lines tail
states_go told left k zero (suc count) number lines tail =
    let n : nat_eq (suc count) 0 ≡ false = grind (arith, nat_tests) in
    rw n (state_full told left k count number lines tail)
states_go told left k (suc room) zero number lines tail = state_none told left k (suc room) number lines tail
states_go told left k (suc room) (suc count) number lines tail =
    let n : nat_eq (suc count) 0 ≡ false = grind (arith, nat_tests) in
    let e : suc count - 1 ≡ count = omega arith in
    rw (n, e) (line state_in (state (suc count) (suc room) left k told) (λ x. state count room left k told) refl (λ w. refl) number lines tail
    ∙ states_more told left k room count (states_go told left k room count) (line_at state_in (record { number = number; lines = lines; tail = tail })))

-- classes with their state lines; behind them stands the first test
class_go : (told : Told) (left k room : ℕ) → Reads (class_at room k) (class (suc left) k room told) (λ c. class left (suc k) (room - length c.states) told)
unfolding class_at
class_go told left k room =
    seen class_line_of (pair (line_at (class_in k)) (λ x. states_at room x.1)) (class (suc left) k room told) (λ c. class left (suc k) (room - length c.states) told)
    (two (line_at (class_in k)) (λ x. states_at room x.1) (class (suc left) k room told) (λ x. state x.1 room left (suc k) told) (λ y. class left (suc k) (room - length y.1) told)
    (line (class_in k) (class (suc left) k room told) (λ x. state x.1 room left (suc k) told) refl (λ w. refl))
    (λ x. states_go told left (suc k) room x.1))

list_on : {A : Type 0} (there : Place) (a : A) (y : Reading (List A)) → after (λ b. there) y ≡ after (λ (b : List A). there) (y >>= λ more. Ok (a ∷ more.0, more.1))
list_on there a (Ok y) = refl
list_on there a (Err n) = refl

classes_more : (told : Told) (count k room : ℕ) → ((left : ℕ) → Reads (classes_at left count (suc k)) (class count (suc k) left told) (λ x. test told.tests 0 told)) → (x : Reading ClassLine) → after (λ c. class count (suc k) (room - length c.states) told) x ≡ after (λ (b : List ClassLine). test told.tests 0 told) (x >>= λ class. classes_at (room - length (class.0).states) count (suc k) class.1 >>= λ more. Ok (class.0 ∷ more.0, more.1))
classes_more told count k room rest (Err n) = refl
classes_more told count k room rest (Ok x) = rest (room - length (x.0).states) (x.1).number (x.1).lines (x.1).tail ∙ list_on (test told.tests 0 told) x.0 (classes_at (room - length (x.0).states) count (suc k) x.1)

classes_go : (told : Told) (count k room : ℕ) → Reads (classes_at room count k) (class count k room told) (λ x. test told.tests 0 told)
unfolding classes_at
classes_go told zero k room number lines tail = alike (class 0 k room told) (test told.tests 0 told) refl refl (λ w. refl) number lines tail
classes_go told (suc count) k room number lines tail = class_go told count k room number lines tail ∙ classes_more told count k room (classes_go told count (suc k)) (class_at room k (record { number = number; lines = lines; tail = tail }))

tests_go : (told : Told) (count : ℕ) → Reads (lines_at test_in count 0) (test count 0 told) (λ x. tree 511 told)
tests_go told count = many test_in (λ left k. test left k told) (tree 511 told) (λ left k. refl) (λ left k w. refl) (λ k. alike (test 0 k told) (tree 511 told) refl refl (λ w. refl)) count 0

-- the tree's lines; behind them stands the first group line
abbrev TreeGoes : Told → List (List ℕ) → Type 0
TreeGoes told lines = (asks number : ℕ) (tail : List ℕ) → goes (tree asks told) number lines tail ≡ after (λ x. group told.groups told.verdict) (tree_lines_at asks number tail lines)

tree_next : (told : Told) (asks number : ℕ) (ls : List (List ℕ)) (tail : List ℕ) → TreeGoes told ls → (x : Option (TreeLine × ℕ)) → goes_on number (λ there. goes there (number + 1) ls tail) (option_map (λ x. tree x.1 told) x) ≡ after (λ (x : List TreeLine). group told.groups told.verdict) (and_more number (λ left. tree_lines_at left (number + 1) tail ls) x)
tree_next told asks number ls tail rest None = refl
tree_next told asks number ls tail rest (Some x) = rest x.1 (number + 1) tail ∙ list_on (group told.groups told.verdict) x.0 (tree_lines_at x.1 (number + 1) tail ls)

tree_by : (told : Told) (asks number : ℕ) (l : List ℕ) (ls : List (List ℕ)) (tail : List ℕ) → TreeGoes told ls → (b : Bool) → is_tree_line (words_in l) ≡ b → goes (tree asks told) number (l ∷ ls) tail ≡ after (λ x. group told.groups told.verdict) (tree_lines_at asks number tail (l ∷ ls))
tree_by told asks number l ls tail rest true e = rw e (tree_next told asks number ls tail rest (with_asks asks (tree_line_in (words_in l))))
tree_by told asks number l ls tail rest false e = rw e refl

tree_go : (told : Told) (lines : List (List ℕ)) → TreeGoes told lines
tree_go told [] asks number tail = refl
tree_go told (l ∷ ls) asks number tail = tree_by told asks number l ls tail (tree_go told ls) (is_tree_line (words_in l)) refl

groups_go : (v : Verdict) (count : ℕ) → Reads (lines_at (λ k. group_in) count 0) (group count v) (λ x. group 0 v)
groups_go v count = many (λ k. group_in) (λ left k. group left v) (group 0 v) (λ left k. refl) (λ left k w. refl) (λ k number lines tail. refl) count 0

missed_on : (x : Reading MissedLine) → after (λ a. end) x ≡ after (λ (b : Option MissedLine). end) (x >>= λ line. Ok (Some line.0, line.1))
missed_on (Ok x) = refl
missed_on (Err n) = refl

missed_go : (v : Verdict) → Reads (read_missed v) (group 0 v) (λ x. end)
unfolding read_missed
missed_go Optimal number lines tail = alike (group 0 Optimal) end refl refl (λ w. refl) number lines tail
missed_go Bounded number lines tail = line missed_in (group 0 Bounded) (λ x. end) refl (λ w. refl) number lines tail ∙ missed_on (line_at missed_in (record { number = number; lines = lines; tail = tail }))

end_go : Reads (line_at end_in) end (λ x. over)
end_go = line end_in end (λ x. over) refl (λ w. refl)

abbrev told_by : Head → Told
told_by h = record { classes = h.classes; tests = h.tests; verdict = h.verdict; groups = h.groups }

body_go : (h : Head) → Reads (body_at h) (class h.classes 0 4097 (told_by h)) (λ x. over)
unfolding body_at
body_go h =
    let told : Told = told_by h in
    two (classes_at 4097 h.classes 0) (λ x. lines_at test_in h.tests 0 then (read_tree 511 then (lines_at (λ k. group_in) h.groups 0 then (read_missed h.verdict then line_at end_in)))) (class h.classes 0 4097 (told_by h)) (λ x. test h.tests 0 (told_by h)) (λ y. over) (classes_go (told_by h) h.classes 0 4097) (λ c.
    two (lines_at test_in h.tests 0) (λ x. read_tree 511 then (lines_at (λ k. group_in) h.groups 0 then (read_missed h.verdict then line_at end_in))) (test h.tests 0 (told_by h)) (λ x. tree 511 (told_by h)) (λ y. over) (tests_go (told_by h) h.tests) (λ t.
    two (read_tree 511) (λ x. lines_at (λ k. group_in) h.groups 0 then (read_missed h.verdict then line_at end_in)) (tree 511 (told_by h)) (λ x. group h.groups h.verdict) (λ y. over) (λ number lines tail. tree_go (told_by h) lines 511 number tail) (λ a.
    two (lines_at (λ k. group_in) h.groups 0) (λ x. read_missed h.verdict then line_at end_in) (group h.groups h.verdict) (λ x. group 0 h.verdict) (λ y. over) (groups_go h.verdict h.groups) (λ g.
    two (read_missed h.verdict) (λ x. line_at end_in) (group 0 h.verdict) (λ x. end) (λ y. over) (missed_go h.verdict) (λ m. end_go)))))

-- the first twelve lines, from the last one on
abbrev start : (classes tests : ℕ) → Verdict → ℕ → Place
start c t v g = class c 0 4097 (record { classes = c; tests = t; verdict = v; groups = g })

abbrev from_groups : Cursor → Reading (ℕ)
from_groups = line_at (numbered (codes "groups") 0 32768)

from_groups_goes : (c t : ℕ) (v : Verdict) → Reads from_groups (groups c t v) (λ y. start (c) (t) (v) (y))
from_groups_goes c t v = line (numbered (codes "groups") 0 32768) (groups c t v) (λ y. start (c) (t) (v) (y)) refl (λ w. refl)

abbrev from_limit : Cursor → Reading (ℕ × ℕ)
from_limit = line_at (numbered (codes "limit") 1 32768) then from_groups

from_limit_goes : (c t : ℕ) (v : Verdict) → Reads from_limit (limit c t v) (λ y. start (c) (t) (v) (y.1))
from_limit_goes c t v = two (line_at (numbered (codes "limit") 1 32768)) (λ x. from_groups) (limit c t v) (λ x. (groups c t v)) (λ y. start (c) (t) (v) (y.1)) (line (numbered (codes "limit") 1 32768) (limit c t v) (λ x. (groups c t v)) refl (λ w. refl)) (λ x. from_groups_goes c t v)

abbrev from_gap : Cursor → Reading (ℕ × (ℕ × ℕ))
from_gap = line_at (numbered (codes "gap") 0 most_64) then from_limit

from_gap_goes : (c t : ℕ) (v : Verdict) → Reads from_gap (gap c t v) (λ y. start (c) (t) (v) (y.1.1))
from_gap_goes c t v = two (line_at (numbered (codes "gap") 0 most_64)) (λ x. from_limit) (gap c t v) (λ x. (limit c t v)) (λ y. start (c) (t) (v) (y.1.1)) (line (numbered (codes "gap") 0 most_64) (gap c t v) (λ x. (limit c t v)) refl (λ w. refl)) (λ x. from_limit_goes c t v)

abbrev from_low : Cursor → Reading (ℕ × (ℕ × (ℕ × ℕ)))
from_low = line_at (numbered (codes "low") 0 most_64) then from_gap

from_low_goes : (c t : ℕ) (v : Verdict) → Reads from_low (low c t v) (λ y. start (c) (t) (v) (y.1.1.1))
from_low_goes c t v = two (line_at (numbered (codes "low") 0 most_64)) (λ x. from_gap) (low c t v) (λ x. (gap c t v)) (λ y. start (c) (t) (v) (y.1.1.1)) (line (numbered (codes "low") 0 most_64) (low c t v) (λ x. (gap c t v)) refl (λ w. refl)) (λ x. from_gap_goes c t v)

abbrev from_cost : Cursor → Reading (ℕ × (ℕ × (ℕ × (ℕ × ℕ))))
from_cost = line_at (numbered (codes "cost") 0 most_64) then from_low

from_cost_goes : (c t : ℕ) (v : Verdict) → Reads from_cost (cost c t v) (λ y. start (c) (t) (v) (y.1.1.1.1))
from_cost_goes c t v = two (line_at (numbered (codes "cost") 0 most_64)) (λ x. from_low) (cost c t v) (λ x. (low c t v)) (λ y. start (c) (t) (v) (y.1.1.1.1)) (line (numbered (codes "cost") 0 most_64) (cost c t v) (λ x. (low c t v)) refl (λ w. refl)) (λ x. from_low_goes c t v)

abbrev from_result : Cursor → Reading (Verdict × (ℕ × (ℕ × (ℕ × (ℕ × ℕ)))))
from_result = line_at result_in then from_cost

from_result_goes : (c t : ℕ) → Reads from_result (result c t) (λ y. start (c) (t) (y.0) (y.1.1.1.1.1))
from_result_goes c t = two (line_at result_in) (λ x. from_cost) (result c t) (λ v. (cost c t v)) (λ y. start (c) (t) (y.0) (y.1.1.1.1.1)) (line result_in (result c t) (λ v. (cost c t v)) refl (λ w. refl)) (λ v. from_cost_goes c t v)

abbrev from_weight : Cursor → Reading (ℕ × (Verdict × (ℕ × (ℕ × (ℕ × (ℕ × ℕ))))))
from_weight = line_at (numbered (codes "weight") 0 most_64) then from_result

from_weight_goes : (c t : ℕ) → Reads from_weight (weight c t) (λ y. start (c) (t) (y.1.0) (y.1.1.1.1.1.1))
from_weight_goes c t = two (line_at (numbered (codes "weight") 0 most_64)) (λ x. from_result) (weight c t) (λ x. (result c t)) (λ y. start (c) (t) (y.1.0) (y.1.1.1.1.1.1)) (line (numbered (codes "weight") 0 most_64) (weight c t) (λ x. (result c t)) refl (λ w. refl)) (λ x. from_result_goes c t)

abbrev from_tests : Cursor → Reading (ℕ × (ℕ × (Verdict × (ℕ × (ℕ × (ℕ × (ℕ × ℕ)))))))
from_tests = line_at (numbered (codes "tests") 0 256) then from_weight

from_tests_goes : (c : ℕ) → Reads from_tests (tests c) (λ y. start (c) (y.0) (y.1.1.0) (y.1.1.1.1.1.1.1))
from_tests_goes c = two (line_at (numbered (codes "tests") 0 256)) (λ x. from_weight) (tests c) (λ t. (weight c t)) (λ y. start (c) (y.0) (y.1.1.0) (y.1.1.1.1.1.1.1)) (line (numbered (codes "tests") 0 256) (tests c) (λ t. (weight c t)) refl (λ w. refl)) (λ t. from_weight_goes c t)

abbrev from_classes : Cursor → Reading (ℕ × (ℕ × (ℕ × (Verdict × (ℕ × (ℕ × (ℕ × (ℕ × ℕ))))))))
from_classes = line_at (numbered (codes "classes") 1 512) then from_tests

from_classes_goes : Reads from_classes classes (λ y. start (y.0) (y.1.0) (y.1.1.1.0) (y.1.1.1.1.1.1.1.1))
from_classes_goes = two (line_at (numbered (codes "classes") 1 512)) (λ x. from_tests) classes (λ c. (tests c)) (λ y. start (y.0) (y.1.0) (y.1.1.1.0) (y.1.1.1.1.1.1.1.1)) (line (numbered (codes "classes") 1 512) classes (λ c. (tests c)) refl (λ w. refl)) (λ c. from_tests_goes c)

abbrev from_states : Cursor → Reading (ℕ × (ℕ × (ℕ × (ℕ × (Verdict × (ℕ × (ℕ × (ℕ × (ℕ × ℕ)))))))))
from_states = line_at (numbered (codes "states") 1 4097) then from_classes

from_states_goes : Reads from_states states (λ y. start (y.1.0) (y.1.1.0) (y.1.1.1.1.0) (y.1.1.1.1.1.1.1.1.1))
from_states_goes = two (line_at (numbered (codes "states") 1 4097)) (λ x. from_classes) states (λ x. classes) (λ y. start (y.1.0) (y.1.1.0) (y.1.1.1.1.0) (y.1.1.1.1.1.1.1.1.1)) (line (numbered (codes "states") 1 4097) states (λ x. classes) refl (λ w. refl)) (λ x. from_classes_goes)

abbrev from_mode : Cursor → Reading (List ℕ × (ℕ × (ℕ × (ℕ × (ℕ × (Verdict × (ℕ × (ℕ × (ℕ × (ℕ × ℕ))))))))))
from_mode = line_at mode_in then from_states

from_mode_goes : Reads from_mode mode (λ y. start (y.1.1.0) (y.1.1.1.0) (y.1.1.1.1.1.0) (y.1.1.1.1.1.1.1.1.1.1))
from_mode_goes = two (line_at mode_in) (λ x. from_states) mode (λ x. states) (λ y. start (y.1.1.0) (y.1.1.1.0) (y.1.1.1.1.1.0) (y.1.1.1.1.1.1.1.1.1.1)) (line mode_in mode (λ x. states) refl (λ w. refl)) (λ x. from_states_goes)

abbrev from_title : Cursor → Reading (Unit {0} × (List ℕ × (ℕ × (ℕ × (ℕ × (ℕ × (Verdict × (ℕ × (ℕ × (ℕ × (ℕ × ℕ)))))))))))
from_title = line_at title_in then from_mode

from_title_goes : Reads from_title title (λ y. start (y.1.1.1.0) (y.1.1.1.1.0) (y.1.1.1.1.1.1.0) (y.1.1.1.1.1.1.1.1.1.1.1))
from_title_goes = two (line_at title_in) (λ x. from_mode) title (λ x. mode) (λ y. start (y.1.1.1.0) (y.1.1.1.1.0) (y.1.1.1.1.1.1.0) (y.1.1.1.1.1.1.1.1.1.1.1)) (line title_in title (λ x. mode) refl (λ w. refl)) (λ x. from_mode_goes)

head_go : Reads head_at title (λ h. class h.classes 0 4097 (told_by h))
unfolding head_at
head_go = seen head_from from_title title (λ h. class h.classes 0 4097 (told_by h)) from_title_goes

whole_go : Reads whole_at title (λ r. over)
unfolding whole_at
whole_go = seen report_with (pair head_at body_at) title (λ r. over) (two head_at body_at title (λ h. class h.classes 0 4097 (told_by h)) (λ y. over) head_go body_go)

-- the number that a reading stops at
abbrev stop_of : Result Report ℕ → Option ℕ
stop_of (Ok r) = None
stop_of (Err n) = Some n

ends_by : (r : Report) (number : ℕ) (b : Bool) → cond b None (Some number) ≡ stop_of (cond b (Ok r) (Err number))
ends_by r number true = refl
ends_by r number false = refl

only_stops : (r : Report) (number : ℕ) (lines : List (List ℕ)) (tail : List ℕ) → goes over number lines tail ≡ stop_of (only (r, record { number = number; lines = lines; tail = tail }))
only_stops r number [] tail = ends_by r number (nat_eq (length tail) 0)
only_stops r number (l ∷ ls) tail = let n : nat_eq (suc (length ls)) 0 ≡ false = grind (arith, nat_tests) in rw n refl

all_stops : (x : Reading Report) → after (λ r. over) x ≡ stop_of (x >>= only)
all_stops (Ok x) = only_stops x.0 (x.1).number (x.1).lines (x.1).tail
all_stops (Err n) = refl

stops : (bytes : List ℕ) → goes title 1 (lines_in bytes) (tail_in bytes) ≡ stop_of (report_at bytes)
unfolding report_at
stops bytes = whole_go 1 (lines_in bytes) (tail_in bytes) ∙ all_stops (whole_at (cursor 1 bytes))

-- going stops at the first line that isn't of its form
record IsStop (here : Place) (number : ℕ) (lines : List (List ℕ)) (tail : List ℕ) (n : ℕ) : Type 0 where
  before : List (List ℕ)
  behind : List (List ℕ)
  place : Place
  lines_are : lines ≡ before ++ behind
  number_is : n ≡ length before + number
  formed : AreFormed here before place
  bad : IsBadAt place behind tail

stop_last : (here : Place) (number : ℕ) (tail : List ℕ) (n : ℕ) (b : Bool) → (is_over here && nat_eq (length tail) 0) ≡ b → cond b None (Some number) ≡ Some n → IsStop here number [] tail n
stop_last here number tail n true e h = absurd (let no : ⊥ = cc in no)
stop_last here number tail n false e h = record { before = []; behind = []; place = here; lines_are = refl; number_is = let same : number ≡ n = cc in omega (arith, same); formed = refl; bad = e }

stop_next : (here : Place) (number : ℕ) (l : List ℕ) (ls : List (List ℕ)) (tail : List ℕ) (n : ℕ) → ((there : Place) → goes there (number + 1) ls tail ≡ Some n → IsStop there (number + 1) ls tail n) → (x : Option Place) → next_place here (words_in l) ≡ x → goes_on number (λ there. goes there (number + 1) ls tail) x ≡ Some n → IsStop here number (l ∷ ls) tail n
stop_next here number l ls tail n rest None e h = record { before = []; behind = l ∷ ls; place = here; lines_are = refl; number_is = let same : number ≡ n = cc in omega (arith, same); formed = refl; bad = e }
stop_next here number l ls tail n rest (Some there) e h =
    let s : IsStop there (number + 1) ls tail n = rest there h in
    let many_are : n ≡ length s.before + (number + 1) = s.number_is in
    let m : n ≡ suc (length s.before) + number = omega (arith, many_are) in
    record { before = l ∷ s.before; behind = s.behind; place = s.place; lines_are = ap (λ (k : List (List ℕ)). l ∷ k) s.lines_are; number_is = m; formed = (there, e, s.formed); bad = s.bad }

stop_at : (here : Place) (number : ℕ) (lines : List (List ℕ)) (tail : List ℕ) (n : ℕ) → goes here number lines tail ≡ Some n → IsStop here number lines tail n
stop_at here number [] tail n h = stop_last here number tail n (is_over here && nat_eq (length tail) 0) refl h
stop_at here number (l ∷ ls) tail n h = stop_next here number l ls tail n (λ there. stop_at there (number + 1) ls tail n) (next_place here (words_in l)) refl h

goes_bad : (place : Place) (number : ℕ) (behind : List (List ℕ)) (tail : List ℕ) → IsBadAt place behind tail → goes place number behind tail ≡ Some number
goes_bad place number [] tail bad = rw bad refl
goes_bad place number (l ∷ ls) tail bad = ap (goes_on number (λ there. goes there (number + 1) ls tail)) bad

goes_to : (here place : Place) (number : ℕ) (before behind : List (List ℕ)) (tail : List ℕ) → AreFormed here before place → IsBadAt place behind tail → goes here number (before ++ behind) tail ≡ Some (length before + number)
goes_to here place number [] behind tail formed bad =
    let same : number ≡ 0 + number = omega arith in
    ap (λ (h : Place). goes h number behind tail) formed ∙ goes_bad place number behind tail bad ∙ ap Some same
goes_to here place number (b ∷ before) behind tail formed bad =
    let rest : goes (formed.0) (number + 1) (before ++ behind) tail ≡ Some (length before + (number + 1)) = goes_to (formed.0) place (number + 1) before behind tail formed.2 bad in
    let same : length before + (number + 1) ≡ suc (length before) + number = omega arith in
    ap (goes_on number (λ there. goes there (number + 1) (before ++ behind) tail)) formed.1 ∙ rest ∙ ap Some same

bad_goes : (bytes : List ℕ) (n : ℕ) → IsFirstBadLine bytes n → goes title 1 (lines_in bytes) (tail_in bytes) ≡ Some n
bad_goes bytes n b = ap (λ (k : List (List ℕ)). goes title 1 k (tail_in bytes)) b.lines ∙ goes_to title b.place 1 b.before b.behind (tail_in bytes) b.formed b.bad ∙ ap Some (sym b.number_is)

-- reading stops at the first bad line
pub reading_stops : (bytes : List ℕ) (n : ℕ) → report_at bytes ≡ Err n → IsFirstBadLine bytes n
reading_stops bytes n h =
    let s : IsStop title 1 (lines_in bytes) (tail_in bytes) n = stop_at title 1 (lines_in bytes) (tail_in bytes) n (stops bytes ∙ ap stop_of h) in
    record { before = s.before; behind = s.behind; place = s.place; lines = s.lines_are; number_is = s.number_is; formed = s.formed; bad = s.bad }

-- bytes that are read to their end have none
pub reading_ends : (bytes : List ℕ) (r : Report) (n : ℕ) → report_at bytes ≡ Ok r → IsFirstBadLine bytes n → ⊥
reading_ends bytes r n h b =
    let no : None ≡ Some n = sym (stops bytes ∙ ap stop_of h) ∙ bad_goes bytes n b in
    let bad : ⊥ = cc in bad

pub stops_once : HasOneFirst
stops_once bytes m n a b =
    let same : Some m ≡ Some n = sym (bad_goes bytes m a) ∙ bad_goes bytes n b in
    let e : m ≡ n = cc in e
