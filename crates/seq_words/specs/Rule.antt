-- The rule of the words: what holds of them and of all views between any two steps of any seats.
use Rattle.std.specs.Prelude.{◌≡◌, ◌≢◌, ℕ, ◌+◌, ◌*◌, ◌<◌, ◌≤◌, true, false, List, [], length, slice_index, replicate}
use mathlib.Core.Option.{some}
use lib.ListN.{get_elem?}
use Rattle.atomic_table.specs.Table.{State}
use Rattle.seq_theory.specs.Graph.{IsReal}
use Rattle.seq_theory.specs.Rows.{no_value, IsSound}
use Rattle.seq_inst.specs.declared.instance.Instance.{Instance}
use Rattle.seq_inst.specs.Instances.{problem_of}
use Rattle.seq_core.specs.RowsOf.{rows_of}
use Rattle.seq_core.specs.Words.{classes_of}
use Rattle.seq_words.specs.declared.view.Known.{Known}
use Rattle.seq_words.specs.declared.view.View.{View}
use Rattle.seq_words.specs.declared.view.Role.TheVariants.{Scribe, Spent}
use Rattle.seq_words.specs.Layout.{bits_at, state_at, low_at, up_at, core_of}
use Rattle.seq_words.specs.Knowledge.{told_of, unknown, known, heard}

-- what is known of a place is true of the words
pub record Stands (words : List ℕ) (place : ℕ) (k : Known) : Type 0 where
  pub there : k.there ≡ true → slice_index words (state_at place) ≡ 1
  pub few : length k.bits ≤ 8
  pub first : 0 < length k.bits → k.there ≡ true
  pub bits : (part : ℕ) → part < length k.bits → slice_index words (bits_at place part) ≡ slice_index k.bits part
  pub low : k.low ≤ slice_index words (low_at place)
  pub up : slice_index words (up_at place) ≤ k.up
  pub most : k.up ≤ no_value

-- what a scribe with n places is writing: nothing, or a real group that has no place, at place n
pub record Drafts (inst : Instance) (limit : ℕ) (words : List ℕ) (n : ℕ) (v : View) : Type 0 where
  pub room : 0 < v.stored → n < limit
  pub real : 0 < v.stored → IsReal (problem_of inst) (classes_of v.draft)
  pub whole : 0 < v.stored → length v.draft ≡ 8
  pub new : 0 < v.stored → (place : ℕ) → place < n → classes_of (known v place).bits ≢ classes_of v.draft
  pub few : v.stored ≤ 8
  pub stored : (part : ℕ) → part < v.stored → slice_index words (bits_at n part) ≡ slice_index v.draft part

-- the view of the seat j fits the words, of which the seat `seat` is the scribe's and the places below `count` are published
pub record Fits (inst : Instance) (limit : ℕ) (words : List ℕ) (seat count j : ℕ) (v : View) : Type 0 where
  pub scribe : (n : ℕ) → v.role ≡ Scribe n → (j ≡ seat) × (n ≡ count)
  pub knows : (n : ℕ) → v.role ≡ Scribe n → (place : ℕ) → place < n → ((known v place).there ≡ true) × (length (known v place).bits ≡ 8)
  pub no_other : (n : ℕ) → v.role ≡ Scribe n → (place : ℕ) → n ≤ place → (known v place).there ≡ false
  pub drafts : (n : ℕ) → v.role ≡ Scribe n → Drafts inst limit words n v
  pub terms : v.role ≢ Spent → (v.told ≡ told_of inst) × (v.limit ≡ limit) × (length v.known ≡ limit)
  pub stands : (place : ℕ) → Stands words place (known v place)
  pub hears : (place : ℕ) → Stands words place (heard v place)

-- word 1 is 0; each state word is 0 or 1, and the first places are the published ones; a place that is not has a low of 0 and
-- the greatest up; the core of the words is sound; and each view fits them
pub record Kept (inst : Instance) (limit : ℕ) (s : State (Unit {0}) View) : Type 0 where
  pub seat : ℕ
  pub count : ℕ
  pub wide : length s.words ≡ 11 * limit + 2
  pub unused : slice_index s.words 1 ≡ 0
  pub most : count ≤ limit
  pub published : (place : ℕ) → place < count → slice_index s.words (state_at place) ≡ 1
  pub unpublished : (place : ℕ) → count ≤ place → slice_index s.words (state_at place) ≡ 0
  pub fresh : (place : ℕ) → count ≤ place → place < limit → (slice_index s.words (low_at place) ≡ 0) × (slice_index s.words (up_at place) ≡ no_value)
  pub small : (place : ℕ) → slice_index s.words (up_at place) ≤ no_value
  pub sound : IsSound (problem_of inst) limit (rows_of (core_of s.words count))
  pub views : (j : ℕ) (v : View) → get_elem? s.views j ≡ some v → Fits inst limit s.words seat count j v

-- the first view: the scribe's, which knows no place
abbrev pub opener : Instance → ℕ → View
opener inst limit = record { role = Scribe 0; told = told_of inst; limit = limit; known = replicate limit unknown; heard = []; free = []; draft = []; stored = 0 }
