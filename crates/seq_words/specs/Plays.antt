-- What each kind of step does to the view of the seat that steps, and what it tells.
use Rattle.std.specs.Prelude.{◌≡◌, ℕ, ◌+◌, ◌<◌, ◌≤◌, true, false, List, [], ◌∷◌, ◌++◌, min, max, length, slice_index, slice_set, slice_index_or, ◌||◌, ltb, cond, ◌⊎◌}
use Rattle.atomic_table.specs.Table.{Me, Step}
use Rattle.seq_theory.specs.Rows.{no_value}
use Rattle.seq_words.specs.declared.view.Known.{Known}
use Rattle.seq_words.specs.declared.view.View.{View}
use Rattle.seq_words.specs.declared.view.Role.TheVariants.{Worker, Scribe, Spent}
use Rattle.seq_words.specs.Layout.{bits_at, state_at, low_at, up_at}
use Rattle.seq_words.specs.Knowledge.{unknown, known, low_seen, up_seen, IsLowAt, IsUpAt, IsRealAt, AreAlone}

-- the view with other knowledge of one place
abbrev pub knows : ℕ → Known → View → View
knows place k v = record v { known = slice_set v.known place k }

abbrev pub hears : ℕ → View → View
hears place v = knows place (record (known v place) { there = true }) v

abbrev pub hears_bits : ℕ → ℕ → View → View
hears_bits place x v = knows place (record (known v place) { bits = (known v place).bits ++ x ∷ [] }) v

abbrev pub hears_low : ℕ → ℕ → View → View
hears_low place x v = knows place (record (known v place) { low = x }) v

abbrev pub hears_up : ℕ → ℕ → View → View
hears_up place x v = knows place (record (known v place) { up = x }) v

abbrev pub knows_bits : ℕ → List ℕ → View → View
knows_bits place bits v = knows place (record (known v place) { bits = bits }) v

-- the place is a further free find
abbrev pub finds_free : ℕ → View → View
finds_free place v = record v { free = place ∷ v.free }

-- a scribe stores the first word of a group, and the next one
abbrev pub begins : List ℕ → View → View
begins bits v = record v { draft = bits; stored = 1 }

abbrev pub writes : View → View
writes v = record v { stored = v.stored + 1 }

-- it has published place n with the group that it wrote
abbrev pub publishes : ℕ → View → View
publishes n v = record v { role = Scribe (n + 1); known = slice_set v.known n (record { there = true; bits = v.draft; low = 0; up = no_value }); draft = []; stored = 0 }

-- it has written and published a group
abbrev pub published : ℕ → List ℕ → View → View
published n bits v = publishes n (record v { draft = bits; stored = 8 })

abbrev Sat : Type 0
Sat = Me (Unit {0}) View

abbrev At : Type 0
At = Step (Unit {0})

abbrev pub Begins : List ℕ → At → Sat → ℕ → Sat → Type 0
Begins bits st m stored m' = m' ≡ (begins bits m.0, m.1)

abbrev pub Writes : At → Sat → ℕ → Sat → Type 0
Writes st m stored m' = m' ≡ (writes m.0, m.1)

-- of the place that is published, nothing was known
abbrev pub Publishes : At → Sat → ℕ → Sat → Type 0
Publishes st m stored m' = (place : ℕ) → st.word ≡ state_at place → (m' ≡ (publishes place m.0, m.1)) × (known m.0 place ≡ unknown)

-- a state word: the place is published, or a further free find that was not known to be published; and no two places are then known
-- with the same group
abbrev pub Finds : At → Sat → ℕ → Sat → Type 0
Finds st m found m' = (place : ℕ) → st.word ≡ state_at place
    → (((found ≡ 1) × (m' ≡ (hears place m.0, m.1))) ⊎ ((found ≡ 0) × (m' ≡ (finds_free place m.0, m.1)) × ((known m.0 place).there ≡ false))) × AreAlone m'.0

-- a word of bits that was known, or the next one
abbrev pub SeesBits : At → Sat → ℕ → Sat → Type 0
SeesBits st m found m' = (place part : ℕ) → st.word ≡ bits_at place part → part < 8
    → (length (known m.0 place).bits ≤ 8) × (part < length (known m.0 place).bits → (m' ≡ m) × (found ≡ slice_index (known m.0 place).bits part)) × (part ≡ length (known m.0 place).bits → m' ≡ (hears_bits place found m.0, m.1))

-- a low word is raised: it was not below the low seen, and is no more than what the group costs at least
abbrev pub Raises : At → Sat → ℕ → Sat → Type 0
Raises st m found m' = (place : ℕ) → st.word ≡ low_at place → (m' ≡ (hears_low place (max found st.first) m.0, m.1)) × (low_seen place m.0 ≤ found) × IsLowAt place m.0 (max found st.first)

abbrev pub Caps : At → Sat → ℕ → Sat → Type 0
Caps st m found m' = (place : ℕ) → st.word ≡ up_at place → (m' ≡ (hears_up place (min found st.first) m.0, m.1)) × (found ≤ up_seen place m.0) × IsUpAt place m.0 (min found st.first)

abbrev pub SeesLow : At → Sat → ℕ → Sat → Type 0
SeesLow st m found m' = (place : ℕ) → st.word ≡ low_at place → (m' ≡ (hears_low place found m.0, m.1)) × (low_seen place m.0 ≤ found) × IsLowAt place m.0 found

-- and an up word tells too that the group is real, and that no two places are known with the same group
abbrev pub SeesUp : At → Sat → ℕ → Sat → Type 0
SeesUp st m found m' = (place : ℕ) → st.word ≡ up_at place
    → (m' ≡ (hears_up place found m.0, m.1)) × (found ≤ up_seen place m.0) × IsUpAt place m.0 found × IsRealAt place m.0 × AreAlone m'.0

-- a copy in the role of a worker, writing nothing
abbrev pub as_worker : View → View
as_worker v = record v { role = Worker; heard = []; draft = []; stored = 0 }

abbrev pub spent : View
spent = record { role = Spent; told = record { weights = []; costs = []; passes = [] }; limit = 0; known = []; heard = []; free = []; draft = []; stored = 0 }

-- what two seats know of a place, put together: the larger low and the lesser up
abbrev pub both_bits : List ℕ → List ℕ → List ℕ
both_bits a b = cond (ltb (length a) (length b)) b a

abbrev pub both_known : Known → Known → Known
both_known a b = record { there = a.there || b.there; bits = both_bits a.bits b.bits; low = max a.low b.low; up = min a.up b.up }

abbrev pub both_lists : List Known → List Known → List Known
both_lists [] others = []
both_lists (a ∷ rest) [] = both_known a unknown ∷ both_lists rest []
both_lists (a ∷ rest) (b ∷ others) = both_known a b ∷ both_lists rest others

-- the first view, beside what the second knew
abbrev pub beside : View → View → View
beside v w = record v { heard = w.known }

-- what was known and what was heard, put together
abbrev pub settled : View → View
settled v = record v { known = both_lists v.known v.heard; heard = [] }

abbrev pub learnt : View → View → View
learnt v w = settled (beside v w)

-- the groups that two lists know are the same
pub record Agree (xs ys : List Known) : Type 0 where
  pub same : (place : ℕ) → length (slice_index_or xs place unknown).bits ≡ 8 → length (slice_index_or ys place unknown).bits ≡ 8 → (slice_index_or xs place unknown).bits ≡ (slice_index_or ys place unknown).bits
  pub few_left : (place : ℕ) → length (slice_index_or xs place unknown).bits ≤ 8
  pub few_right : (place : ℕ) → length (slice_index_or ys place unknown).bits ≤ 8

-- what was heard is put together with what was known, which agree; and no two places are then known with the same group
abbrev pub Settles : At → Sat → ℕ → Sat → Type 0
Settles st m found m' = (m' ≡ (settled m.0, m.1)) × Agree m.0.known m.0.heard × AreAlone (settled m.0)
