-- Strongly connected components, and a search for them, in the graph that leads from each node to its sources.
use Rattle.std.specs.Prelude.{◌≡◌, ◌⊎◌, ℕ, ◌+◌, ◌-◌, ◌<◌, ◌≤◌, ◌↔◌, List, [], ◌∷◌, ◌++◌, length, map, set, replicate, cond, nat_eq, slice_index, slice_index_or, take}
use Rattle.std.specs.List.{Contains}
use Rattle.sig_reach.specs.Walks.{Leads}
use Rattle.sig_reach.specs.Marks.{IsSource}
use Rattle.sig_reach.specs.declared.components.Link.{Link}
use Rattle.sig_reach.specs.declared.components.Search.{Search}

-- from source to source the one node leads to the other, by none or more steps
abbrev pub LeadsOn : List (List ℕ) → ℕ → ℕ → Type 0
LeadsOn sources a b = Leads (IsSource sources) a b

-- each leads to the other
abbrev pub AreMutual : List (List ℕ) → ℕ → ℕ → Type 0
AreMutual sources a b = LeadsOn sources a b × LeadsOn sources b a

-- a number for each node, and two nodes have the same number exactly where each leads to the other
pub record AreComponents (sources : List (List ℕ)) (numbers : List ℕ) : Type 0 where
  pub long : length numbers ≡ length sources
  pub same : (a b : ℕ) → a < length sources → b < length sources → (slice_index numbers a ≡ slice_index numbers b) ↔ AreMutual sources a b

-- one of the nodes has the number
abbrev pub HasNumbered : List ℕ → List ℕ → ℕ → Type 0
HasNumbered nodes numbers number = (node : ℕ) × Contains nodes node × (slice_index numbers node ≡ number)

-- what a search holds
pub record Stage : Type 0 where
  pub places : List ℕ
  pub numbers : List ℕ
  pub path : List ℕ
  pub starts : List ℕ
  pub waiting : List Link

abbrev pub stage_of : Search → Stage
stage_of s = record { places = s.places.items; numbers = s.numbers.items; path = s.path.items; starts = s.starts.items; waiting = s.waiting.items }

abbrev pub link_at : ℕ → ℕ → Link
link_at place node = record { place = place; node = node }

abbrev pub place_of : Link → ℕ
place_of link = link.place

-- no node was entered
abbrev pub at_start : ℕ → Stage
at_start nodes = record { places = replicate nodes 0; numbers = replicate nodes 0; path = []; starts = []; waiting = [] }

-- the same where these wait too
abbrev pub with_links : Stage → List Link → Stage
with_links s links = record { places = s.places; numbers = s.numbers; path = s.path; starts = s.starts; waiting = s.waiting ++ links }

-- the node stands at the path's end, as a component of its own, and its links wait
abbrev pub entered : Stage → ℕ → List ℕ → Stage
entered s node row = record {
  places = set s.places node (length s.path + 1);
  numbers = s.numbers;
  path = s.path ++ node ∷ [];
  starts = s.starts ++ length s.path ∷ [];
  waiting = s.waiting ++ map (link_at (length s.path)) row;
}

-- a later one is never less
abbrev pub IsUpward : List ℕ → Type 0
IsUpward xs = (a b : ℕ) → a ≤ b → b < length xs → slice_index xs a ≤ slice_index xs b

-- a component starts after the first place, and not after the second
abbrev pub Parts : List ℕ → ℕ → ℕ → Type 0
Parts starts i j = (start : ℕ) × Contains starts start × (i < start) × (start ≤ j)

-- the node stands on the path, in the component of the place or a later one
abbrev pub StandsFrom : Stage → ℕ → ℕ → Type 0
StandsFrom s i node = (k : ℕ) × (k < length s.path) × (slice_index s.path k ≡ node) × ((start : ℕ) → Contains s.starts start → start ≤ i → start ≤ k)

-- What holds between two steps. Nodes whose component is known lead to such nodes alone. The path's nodes lead on along
-- it, and back within a component; and each link of theirs was followed, or waits.
pub record IsSearch (sources : List (List ℕ)) (s : Stage) : Type 0 where
  pub long_places : length s.places ≡ length sources
  pub long_numbers : length s.numbers ≡ length sources
  pub there : (k : ℕ) → k < length s.path → slice_index s.path k < length sources
  pub placed : (k : ℕ) → k < length s.path → slice_index s.places (slice_index s.path k) ≡ k + 1
  pub unknown : (k : ℕ) → k < length s.path → slice_index s.numbers (slice_index s.path k) ≡ 0
  pub seen : (v : ℕ) → 0 < slice_index s.places v → (0 < slice_index s.numbers v) ⊎ ((slice_index s.places v - 1 < length s.path) × (slice_index s.path (slice_index s.places v - 1) ≡ v))
  pub closed : (v w : ℕ) → 0 < slice_index s.numbers v → IsSource sources v w → 0 < slice_index s.numbers w
  pub same : (v w : ℕ) → 0 < slice_index s.numbers v → 0 < slice_index s.numbers w → (slice_index s.numbers v ≡ slice_index s.numbers w) ↔ AreMutual sources v w
  pub named : (v : ℕ) → 0 < slice_index s.numbers v → 0 < slice_index s.numbers (slice_index s.numbers v - 1)
  pub onward : (i j : ℕ) → i ≤ j → j < length s.path → LeadsOn sources (slice_index s.path i) (slice_index s.path j)
  pub back : (i j : ℕ) → i ≤ j → j < length s.path → LeadsOn sources (slice_index s.path j) (slice_index s.path i) ⊎ Parts s.starts i j
  pub followed : (i w : ℕ) → i < length s.path → IsSource sources (slice_index s.path i) w → (0 < slice_index s.numbers w) ⊎ (StandsFrom s i w ⊎ Contains s.waiting (link_at i w))
  pub waits : (link : Link) → Contains s.waiting link → (link.place < length s.path) × IsSource sources (slice_index s.path link.place) link.node
  pub starts_up : IsUpward s.starts
  pub starts_in : (start : ℕ) → Contains s.starts start → start ≤ length s.path
  pub waiting_up : IsUpward (map place_of s.waiting)

-- the place where the last component starts
abbrev pub last_start : List ℕ → ℕ
last_start starts = slice_index starts (length starts - 1)

-- no link of the last component waits
abbrev pub NoneWaits : Stage → Type 0
NoneWaits s = (d : Link) → 0 < length s.waiting → (slice_index_or s.waiting (length s.waiting - 1) d).place < last_start s.starts

-- the link was the last of those that wait, and leaves the last component
abbrev pub IsTaken : Stage → Link → Stage → Type 0
IsTaken s link s' = (s ≡ with_links s' (link ∷ [])) × (last_start s'.starts ≤ link.place)

abbrev pub with_starts : Stage → List ℕ → Stage
with_starts s starts = record { places = s.places; numbers = s.numbers; path = s.path; starts = starts; waiting = s.waiting }

-- the first components are kept, up to the last that does not start after the place
abbrev pub IsJoinedFrom : Stage → ℕ → Stage → Type 0
IsJoinedFrom s place s' = (kept : ℕ) × (s' ≡ with_starts s (take kept s.starts)) × ((k : ℕ) → kept ≤ k → k < length s.starts → place < slice_index s.starts k) × (0 < kept → (kept ≤ length s.starts) × (slice_index s.starts (kept - 1) ≤ place))

-- the last component has left the path, and its nodes have its number
pub record IsClosed (s s' : Stage) : Type 0 where
  pub places : s'.places ≡ s.places
  pub path : s'.path ≡ take (last_start s.starts) s.path
  pub starts : s'.starts ≡ take (length s.starts - 1) s.starts
  pub waiting : s'.waiting ≡ s.waiting
  pub long : length s'.numbers ≡ length s.numbers
  pub given : (k : ℕ) → last_start s.starts ≤ k → k < length s.path → slice_index s'.numbers (slice_index s.path k) ≡ slice_index s.path (length s.path - 1) + 1
  pub kept : (v : ℕ) → (slice_index s'.numbers v ≡ slice_index s.numbers v) ⊎ ((k : ℕ) × (last_start s.starts ≤ k) × (k < length s.path) × (slice_index s.path k ≡ v))

-- what was entered stays so, and what is known stays known
pub record Keeps (s s' : Stage) : Type 0 where
  pub entered : (v : ℕ) → 0 < slice_index s.places v → 0 < slice_index s'.places v
  pub known : (v : ℕ) → 0 < slice_index s.numbers v → 0 < slice_index s'.numbers v

-- steps that nodes still cost which weren't entered
abbrev pub ahead : List (List ℕ) → List ℕ → ℕ
ahead [] places = 0
ahead (row ∷ rows) [] = 0
ahead (row ∷ rows) (p ∷ places) = cond (nat_eq p 0) (length row + 3) 0 + ahead rows places

-- steps that a search still takes, at most
abbrev pub work : List (List ℕ) → Stage → ℕ
work sources s = ahead sources s.places + length s.waiting + length s.path + length s.starts
