-- The values found at some keys, when the entries of a table are gone over once. What was found so far, completed by what
-- the rest of the table has, stays the same while an entry goes from the rest to what was found.
use Rattle.std.proofs.Common.{◌≡◌, ℕ, zero, suc, ◌<◌, ◌≤◌, ◌+◌, nat_lt, Bool, true, false, not, ◌&&◌, ◌||◌, cond, List, [], ◌∷◌, map, take, drop, length, replicate, slice_index_or, slice_set, Option, Some, None, MatchOption, option_map, position, Ordering, Less, Equal, Greater, nat_cmp, is_eq, refl, sym, ap, ap₂, subst, ◌∙◌, inl, inr, arith}
use Rattle.std.specs.Prelude.{is_some}
use Rattle.std.specs.List.{list_all, position_or_len}
use Rattle.std.specs.Option.{option_or}
use Rattle.std.specs.Ordering.{match_ordering}
use Rattle.std.specs.Cmp.Lexicographic.{slice_cmp}
use Rattle.std.specs.Str.{bytes_eq}
use Rattle.std.proofs.lemmas.Bool.{and_parts, cases_Bool, false≢true, ltb-true}
use Rattle.std.proofs.lemmas.Bool.Decides.{nat_tests}
use Rattle.std.proofs.lemmas.Map.Text.{is_eq-slice_cmp}
use Rattle.std.proofs.lemmas.Slice.Eq.{bytes_eq-Decides}
use Rattle.toml.specs.Data.{Data, Members, no_members, member, get_member}
use Rattle.toml.specs.View.{view}
use Rattle.toml.specs.declared.value.Value.{Value}
use Rattle.sig_types.specs.declared.refusals.Key.{Key}
use Rattle.sig_types.specs.Words.{key_word}
use Rattle.sig_text.specs.Keys.{are_apart, is_known, value_at, values_at}

pub and_false : (b : Bool) → (b && false) ≡ false
and_false true = refl
and_false false = refl

pub and_true : (b : Bool) → (b && true) ≡ b
and_true true = refl
and_true false = refl

not_true : (b : Bool) → not b ≡ true → b ≡ false
not_true false h = refl
not_true true h = absurd (false≢true h)

match_equal : {A : Type 0} (o : Ordering) (x y : A) → is_eq o ≡ true → match_ordering o x y x ≡ y
match_equal Equal x y h = refl
match_equal Less x y h = absurd (false≢true h)
match_equal Greater x y h = absurd (false≢true h)

match_unequal : {A : Type 0} (o : Ordering) (x y : A) → is_eq o ≡ false → match_ordering o x y x ≡ x
match_unequal Less x y h = refl
match_unequal Greater x y h = refl
match_unequal Equal x y h = absurd (false≢true (sym h))

-- an entry whose key is written like a text is the one that the text finds
pub found_here : (text name : List ℕ) (d : Data) (ms : Members) → bytes_eq text name ≡ true → get_member text (member name d ms) ≡ Some d
found_here text name d ms h = match_equal (slice_cmp nat_cmp text name) (get_member text ms) (Some d) (is_eq-slice_cmp text name ∙ h)

-- and any other is passed over
pub found_later : (text name : List ℕ) (d : Data) (ms : Members) → bytes_eq text name ≡ false → get_member text (member name d ms) ≡ get_member text ms
found_later text name d ms h = match_unequal (slice_cmp nat_cmp text name) (get_member text ms) (Some d) (is_eq-slice_cmp text name ∙ h)

-- what was found at each key, or else what the rest of the table has there
abbrev pub completed : List Key → List (Option Data) → Members → List (Option Data)
completed [] found ms = []
completed (key ∷ keys) [] ms = []
completed (key ∷ keys) (o ∷ found) ms = option_or o (value_at key ms) ∷ completed keys found ms

-- an entry at none of the keys changes nothing
abbrev pub has_none : List Key → List ℕ → Bool
has_none keys name = list_all (λ key. not (bytes_eq (key_word key) name)) keys

pub untouched : (keys : List Key) (found : List (Option Data)) (name : List ℕ) (d : Data) (ms : Members) → has_none keys name ≡ true
    → completed keys found ms ≡ completed keys found (member name d ms)
untouched [] found name d ms none = refl
untouched (key ∷ keys) [] name d ms none = refl
untouched (key ∷ keys) (o ∷ found) name d ms none =
    let parts = and_parts (not (bytes_eq (key_word key) name)) (has_none keys name) none in
    let here = found_later (key_word key) name d ms (not_true (bytes_eq (key_word key) name) parts.0) in
    ap₂ (λ v more. option_or o v ∷ more) (sym here) (untouched keys found name d ms parts.1)

-- what stands where a value may stand
abbrev pub seen : Option Value → Option Data
seen = option_map view

-- the value is put where nothing stands yet
abbrev pub put_at : List (Option Value) → ℕ → Value → List (Option Value)
put_at found i v = slice_set found i (option_or (slice_index_or found i None) (Some v))

put_here : (o : Option Value) (v : Value) (rest all : Option Data) → all ≡ Some (view v) → option_or (seen (option_or o (Some v))) rest ≡ option_or (seen o) all
put_here None v rest all h = sym h
put_here (Some x) v rest all h = refl

-- the place of the first key that is written like the name
abbrev pub place_in : List Key → List ℕ → ℕ
place_in keys name = position_or_len (λ key. bytes_eq (key_word key) name) keys

put_step : (b : Bool) (o : Option Value) (found : List (Option Value)) (i : ℕ) (v : Value)
    → put_at (o ∷ found) (cond (not b) (1 + i) 0) v ≡ cond b (option_or o (Some v) ∷ found) (o ∷ put_at found i v)
put_step true o found i v = refl
put_step false o found i v =
    let next : 1 + i ≡ suc i = omega arith in
    ap (λ j. put_at (o ∷ found) j v) next

pub put_keeps : (keys : List Key) (found : List (Option Value)) (name : List ℕ) (v : Value) (ms : Members) → are_apart keys ≡ true
    → completed keys (map seen (put_at found (place_in keys name) v)) ms ≡ completed keys (map seen found) (member name (view v) ms)
put_keeps [] found name v ms apart = refl
put_keeps (key ∷ keys) [] name v ms apart = refl
put_keeps (key ∷ keys) (o ∷ found) name v ms apart =
    let parts = and_parts (has_none keys (key_word key)) (are_apart keys) apart in
    let step = put_step (bytes_eq (key_word key) name) o found (place_in keys name) v in
    ap (λ more. completed (key ∷ keys) (map seen more) ms) step
    ∙ elim (cases_Bool (bytes_eq (key_word key) name)) [
      | inl same ↦
          let none : has_none keys name ≡ true = subst (λ t. has_none keys t ≡ true) ((bytes_eq-Decides (key_word key) name).0 same) parts.0 in
          ap (λ b. completed (key ∷ keys) (map seen (cond b (option_or o (Some v) ∷ found) (o ∷ put_at found (place_in keys name) v))) ms) same
          ∙ ap₂ (λ x more. x ∷ more) (put_here o v (value_at key ms) (value_at key (member name (view v) ms)) (found_here (key_word key) name (view v) ms same)) (untouched keys (map seen found) name (view v) ms none)
      | inr other ↦
          ap (λ b. completed (key ∷ keys) (map seen (cond b (option_or o (Some v) ∷ found) (o ∷ put_at found (place_in keys name) v))) ms) other
          ∙ ap₂ (λ x more. option_or (seen o) x ∷ more) (sym (found_later (key_word key) name (view v) ms other)) (put_keeps keys found name v ms parts.1)
    ]

-- nothing is found before the first entry
pub begun : (keys : List Key) (n : ℕ) (ms : Members) → length keys ≤ n → completed keys (map seen (replicate n None)) ms ≡ values_at keys ms
begun [] n ms few = refl
begun (key ∷ keys) zero ms few = absurd (omega arith)
begun (key ∷ keys) (suc n) ms few = ap (λ more. value_at key ms ∷ more) (begun keys n ms (omega arith))

or_none : (o : Option Data) → option_or o None ≡ o
or_none None = refl
or_none (Some d) = refl

-- all is found after the last
pub ended : (keys : List Key) (found : List (Option Data)) → length keys ≤ length found → completed keys found no_members ≡ take (length keys) found
ended [] found few = refl
ended (key ∷ keys) [] few = absurd (omega arith)
ended (key ∷ keys) (o ∷ found) few = ap₂ (λ x more. x ∷ more) (or_none o) (ended keys found (omega arith))

place_step : (b : Bool) (i n : ℕ) (k : Bool) → nat_lt i n ≡ k → nat_lt (cond (not b) (1 + i) 0) (suc n) ≡ (b || k)
place_step true i n k h = grind (arith, nat_tests)
place_step false i n k h = grind (arith, nat_tests)

place_below : (keys : List Key) (name : List ℕ) → nat_lt (place_in keys name) (length keys) ≡ is_known keys name
place_below [] name = refl
place_below (key ∷ keys) name = place_step (bytes_eq (key_word key) name) (place_in keys name) (length keys) (is_known keys name) (place_below keys name)

-- what the place of a text among the keys says
abbrev pub IsPlace : List Key → List ℕ → Option ℕ → Type 0
IsPlace keys name place = MatchOption place (is_known keys name ≡ false) (λ i. (is_known keys name ≡ true) × (i ≡ place_in keys name) × (i < length keys))

pub placed : (keys : List Key) (name : List ℕ) → IsPlace keys name (position (λ key. bytes_eq (key_word key) name) keys)
placed keys name =
    let below = place_below keys name in
    elim (cases_Bool (nat_lt (place_in keys name) (length keys))) [
      | inl less ↦ rw less (sym below ∙ less, refl, ltb-true (place_in keys name) (length keys) less)
      | inr more ↦ rw more (sym below ∙ more)
    ]

pub placed_at : (keys : List Key) (name : List ℕ) (i : ℕ) → position (λ key. bytes_eq (key_word key) name) keys ≡ Some i → (is_known keys name ≡ true) × (i ≡ place_in keys name) × (i < length keys)
placed_at keys name i at = subst (IsPlace keys name) at (placed keys name)

pub not_placed : (keys : List Key) (name : List ℕ) → position (λ key. bytes_eq (key_word key) name) keys ≡ None → is_known keys name ≡ false
not_placed keys name at = subst (IsPlace keys name) at (placed keys name)

-- the next value is taken: what is left is told by the places after it
turn : (values : List (Option Value)) (next count : ℕ) (d : Option Value) → 0 < length (drop next (take count (map seen values)))
    → drop next (take count (map seen values)) ≡ seen (slice_index_or values next d) ∷ drop (suc next) (take count (map seen (slice_set values next None)))
turn [] zero zero d some = absurd (omega arith)
turn [] zero (suc count) d some = absurd (omega arith)
turn [] (suc next) zero d some = absurd (omega arith)
turn [] (suc next) (suc count) d some = absurd (omega arith)
turn (o ∷ values) zero zero d some = absurd (omega arith)
turn (o ∷ values) (suc next) zero d some = absurd (omega arith)
turn (o ∷ values) zero (suc count) d some = refl
turn (o ∷ values) (suc next) (suc count) d some = turn values next count d some

pub taken : (values : List (Option Value)) (next count : ℕ) (d : Option Value) → 0 < length (drop next (take count (map seen values)))
    → drop next (take count (map seen values)) ≡ seen (slice_index_or values next d) ∷ drop (next + 1) (take count (map seen (slice_set values next None)))
taken values next count d some =
    let after : suc next ≡ next + 1 = omega arith in
    turn values next count d some ∙ ap (λ k. seen (slice_index_or values next d) ∷ drop k (take count (map seen (slice_set values next None)))) after

-- a value stands at a place of those that are left, when none is taken, just where one stands at this place
stands_at : (values : List (Option Value)) (place count : ℕ) (d : Option Value) → place < length (take count (map seen values))
    → is_some (slice_index_or values place d) ≡ is_some (slice_index_or (take count (map seen values)) place None)
stands_at [] place zero d less = absurd (omega arith)
stands_at [] place (suc count) d less = absurd (omega arith)
stands_at (o ∷ values) place zero d less = absurd (omega arith)
stands_at (None ∷ values) zero (suc count) d less = refl
stands_at (Some v ∷ values) zero (suc count) d less = refl
stands_at (o ∷ values) (suc place) (suc count) d less = stands_at values place count d (omega (arith, less))

pub has_at : (values : List (Option Value)) (place next count : ℕ) (d : Option Value) → next ≡ 0 → place < length (drop next (take count (map seen values)))
    → is_some (slice_index_or values place d) ≡ is_some (slice_index_or (drop next (take count (map seen values))) place None)
has_at values place next count d none less =
    let left : ℕ → List (Option Data) = λ k. drop k (take count (map seen values)) in
    stands_at values place count d (subst (λ k. place < length (left k)) none less)
    ∙ ap (λ k. is_some (slice_index_or (left k) place None)) (sym none)

-- a text is one of the keys just where it has a place among them
pub known_at : (keys : List Key) (name : List ℕ) (place : Option ℕ) → place ≡ position (λ key. bytes_eq (key_word key) name) keys → is_some place ≡ is_known keys name
known_at keys name None at = sym (not_placed keys name (sym at))
known_at keys name (Some i) at = sym (placed_at keys name i (sym at)).0

-- an entry at one of the keys goes from the rest to what was found
pub put_known : (keys : List Key) (old new : List (Option Value)) (place : Option ℕ) (name : List ℕ) (v : Value) (ms : Members) → are_apart keys ≡ true
    → place ≡ position (λ key. bytes_eq (key_word key) name) keys → MatchOption place (new ≡ old) (λ i. new ≡ put_at old i v) → is_some place ≡ true
    → completed keys (map seen new) ms ≡ completed keys (map seen old) (member name (view v) ms)
put_known keys old new None name v ms apart at put known = absurd (false≢true known)
put_known keys old new (Some i) name v ms apart at put known =
    let here = (placed_at keys name i (sym at)).1 in
    ap (λ found. completed keys (map seen found) ms) (put ∙ ap (λ j. put_at old j v) here) ∙ put_keeps keys old name v ms apart

pub and_assoc : (a b c : Bool) → (a && (b && c)) ≡ ((a && b) && c)
and_assoc true b c = refl
and_assoc false b c = refl
