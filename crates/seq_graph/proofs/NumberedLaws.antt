-- Groups by number. A table finds a group by its words, and two groups have the same words exactly where they have the same
-- classes; so a group that the table doesn't find has no number, and one that is added last is no other's.
use Rattle.std.proofs.Common.{◌≡◌, ◌≢◌, ℕ, zero, suc, ◌-◌, ◌<◌, ◌||◌, List, [], ◌∷◌, ◌++◌, length, map, set, slice_get, position, get_or, Option, Some, None, Bool, true, false, cond, is_some, Result, Ok, Err, OnOk, IsOk, is_ok, if◌then◌else◌, ◌⊎◌, inl, inr, refl, sym, ap, subst, ◌∙◌, arith, length-append}
use Rattle.std.specs.Str.{bytes_eq}
use Rattle.std.specs.Map.{keys_of, values_of, lookup}
use Rattle.std.specs.Option.{option_map}
use Rattle.std.proofs.Math.ListN.{length-set}
use Rattle.std.proofs.lemmas.Bool.{cases_Bool, cases_order, true≢false}
use Rattle.std.proofs.lemmas.List.{map-append}
use Rattle.std.proofs.lemmas.List.Quantifiers.{position-Some}
use Rattle.std.proofs.lemmas.Option.{slice_get-map, slice_get-get_or, slice_get_within}
use Rattle.std.proofs.lemmas.Slice.Eq.{bytes_eq-Decides}
use Rattle.seq_theory.specs.Problem.{Problem, IsWithin}
use Rattle.seq_theory.specs.Bound.{bound}
use Rattle.seq_theory.specs.Graph.{same_group, is_entered}
use Rattle.seq_theory.specs.Rows.{AreDistinct}
use Rattle.seq_theory.proofs.RowLaws.{same_group-true, same_group-refl}
use Rattle.seq_inst.specs.Members.{SameWordsHold}
use Rattle.seq_core.specs.Words.{AreItsWords, AreWords, classes_of}
use Rattle.seq_graph.specs.declared.greedy.Greedy.{Greedy}
use Rattle.seq_graph.specs.declared.memo.BoundMemo.{BoundMemo}
use Rattle.seq_graph.specs.Memos.{IsMemoOf}
use Rattle.seq_graph.specs.Numbered.{Numbered, HasNumber, IsGreedyOf, AreNumbers, KeepsNumbers}

-- ---- elements by their places ----

module _ {X : Type 0} where
  pub get-before : (xs ys : List X) (n : ℕ) (x : X) → slice_get xs n ≡ Some x → slice_get (xs ++ ys) n ≡ Some x
  get-before [] ys n x e = absurd (let bad : ⊥ = cc in bad)
  get-before (z ∷ zs) ys zero x e = e
  get-before (z ∷ zs) ys (suc n) x e = get-before zs ys n x e

  pub get-last : (xs : List X) (x : X) → slice_get (xs ++ x ∷ []) (length xs) ≡ Some x
  get-last [] x = refl
  get-last (z ∷ zs) x = get-last zs x

  -- what stands in a list with one more element
  pub get-more : (xs : List X) (y : X) (n : ℕ) (x : X) → slice_get (xs ++ y ∷ []) n ≡ Some x → (slice_get xs n ≡ Some x) ⊎ ((n ≡ length xs) × (x ≡ y))
  get-more [] y zero x e = inr (refl, let is : x ≡ y = cc in is)
  get-more [] y (suc n) x e = absurd (let bad : ⊥ = cc in bad)
  get-more (z ∷ zs) y zero x e = inl e
  get-more (z ∷ zs) y (suc n) x e = elim (get-more zs y n x e) [
    | inl old ↦ inl old
    | inr new ↦ inr (ap suc new.0, new.1)
  ]

  pub get-set : (xs : List X) (n : ℕ) (x y : X) → slice_get (set xs n y) n ≡ Some x → x ≡ y
  get-set [] n x y e = absurd (let bad : ⊥ = cc in bad)
  get-set (z ∷ zs) zero x y e = (let is : x ≡ y = cc in is)
  get-set (z ∷ zs) (suc n) x y e = get-set zs n x y e

  pub get-set-other : (xs : List X) (n m : ℕ) (y : X) → m ≢ n → slice_get (set xs n y) m ≡ slice_get xs m
  get-set-other [] n m y ne = refl
  get-set-other (z ∷ zs) zero zero y ne = absurd (ne refl)
  get-set-other (z ∷ zs) zero (suc m) y ne = refl
  get-set-other (z ∷ zs) (suc n) zero y ne = refl
  get-set-other (z ∷ zs) (suc n) (suc m) y ne = get-set-other zs n m y (λ e. ne (ap suc e))

  some-same : (x y : X) → Some x ≡ Some y → x ≡ y
  some-same x y e = cc

  -- one place has one element
  pub get-same : (xs : List X) (n : ℕ) (x y : X) → slice_get xs n ≡ Some x → slice_get xs n ≡ Some y → x ≡ y
  get-same xs n x y a b = some-same x y (sym a ∙ b)

-- ---- groups by their words ----

pub same-classes : (a b : List ℕ) → bytes_eq a b ≡ true → same_group (classes_of a) (classes_of b) ≡ true
same-classes a b e = ap (λ l. same_group (classes_of a) (classes_of l)) (sym ((bytes_eq-Decides a b).0 e)) ∙ same_group-refl (classes_of a)

or-second : (a b : Bool) → a || b ≡ false → b ≡ false
or-second true b e = absurd (true≢false e)
or-second false b e = e

-- a key that is found has its place as the number of its group
pub found-number : (keys : List (List ℕ)) (words : List ℕ) (n : ℕ) → position (bytes_eq words) keys ≡ Some n → slice_get (map classes_of keys) n ≡ Some (classes_of words)
found-number keys words n e =
    let at = position-Some (bytes_eq words) keys n words e in
    let same : words ≡ get_or keys n words = (bytes_eq-Decides words (get_or keys n words)).0 at.1 in
    slice_get-map classes_of keys n ∙ ap (option_map classes_of) (slice_get-get_or keys n words at.0) ∙ ap (λ l. Some (classes_of l)) (sym same)

-- the group of a key that isn't found has no number
pub absent-number : SameWordsHold → (entries : List (List ℕ × ℕ)) (words : List ℕ) → AreWords (keys_of entries) → AreItsWords words → is_some (lookup (bytes_eq words) entries) ≡ false → is_entered (map classes_of (keys_of entries)) (classes_of words) ≡ false
absent-number law [] words all w e = refl
absent-number law (x ∷ rest) words all w e = elim (cases_Bool (bytes_eq words x.0)) [
  | inl y ↦ absurd (true≢false (sym (ap (λ b. is_some (cond b (Some x.1) (lookup (bytes_eq words) rest))) y) ∙ e))
  | inr n ↦
      (let later : is_some (lookup (bytes_eq words) rest) ≡ false = sym (ap (λ b. is_some (cond b (Some x.1) (lookup (bytes_eq words) rest))) n) ∙ e in
      let test = (law (record { 0 = words }) (record { 0 = x.0 }) w (all 0 x.0 refl)).test in
      ap (λ b. b || is_entered (map classes_of (keys_of rest)) (classes_of words)) (sym test ∙ n)
      ∙ absent-number law rest words (λ k l at. all (suc k) l at) w later)
]

-- and the key of a group without a number isn't found
pub absent-key : (entries : List (List ℕ × ℕ)) (words : List ℕ) → is_entered (map classes_of (keys_of entries)) (classes_of words) ≡ false → lookup (bytes_eq words) entries ≡ None
absent-key [] words e = refl
absent-key (x ∷ rest) words e = elim (cases_Bool (bytes_eq words x.0)) [
  | inl y ↦ absurd (true≢false (sym (ap (λ b. b || is_entered (map classes_of (keys_of rest)) (classes_of words)) (same-classes words x.0 y)) ∙ e))
  | inr n ↦
      (let later = or-second (same_group (classes_of words) (classes_of x.0)) (is_entered (map classes_of (keys_of rest)) (classes_of words)) e in
      ap (λ b. cond b (Some x.1) (lookup (bytes_eq words) rest)) n ∙ absent-key rest words later)
]

pub words-more : (keys : List (List ℕ)) (words : List ℕ) → AreWords keys → AreItsWords words → AreWords (keys ++ words ∷ [])
words-more keys words all w n l at = elim (get-more keys words n l at) [
  | inl old ↦ all n l old
  | inr new ↦ subst AreItsWords (sym new.1) w
]

pub key-group : (entries : List (List ℕ × ℕ)) (n : ℕ) (words : List ℕ) (b : ℕ) → slice_get entries n ≡ Some (words, b) → slice_get (map classes_of (keys_of entries)) n ≡ Some (classes_of words)
key-group entries n words b at = slice_get-map classes_of (keys_of entries) n ∙ ap (option_map classes_of) (slice_get-map (λ (e : List ℕ × ℕ). e.0) entries n ∙ ap (option_map (λ (e : List ℕ × ℕ). e.0)) at)

pub keys-more : (old new : List (List ℕ × ℕ)) (words : List ℕ) (b : ℕ) → new ≡ old ++ (words, b) ∷ [] → keys_of new ≡ keys_of old ++ words ∷ []
keys-more old new words b e = ap keys_of e ∙ map-append (λ (x : List ℕ × ℕ). x.0) old ((words, b) ∷ [])

values-more : (old new : List (List ℕ × ℕ)) (words : List ℕ) (b : ℕ) → new ≡ old ++ (words, b) ∷ [] → values_of new ≡ values_of old ++ b ∷ []
values-more old new words b e = ap values_of e ∙ map-append (λ (x : List ℕ × ℕ). x.1) old ((words, b) ∷ [])

-- ---- one more group ----

not-same : (a b : List ℕ) → same_group a b ≡ false → same_group b a ≡ false
not-same a b e = elim (cases_Bool (same_group b a)) [
  | inr n ↦ n
  | inl y ↦ absurd (true≢false (sym (same_group-refl a) ∙ ap (same_group a) (sym (same_group-true b a y)) ∙ e))
]

or-first : (a b : Bool) → a || b ≡ false → a ≡ false
or-first true b e = absurd (true≢false e)
or-first false b e = refl

absent-last : (g n : List ℕ) (groups : List (List ℕ)) → is_entered groups g ≡ false → same_group g n ≡ false → is_entered (groups ++ n ∷ []) g ≡ false
absent-last g n [] e d = ap (λ b. b || false) d
absent-last g n (h ∷ rest) e d =
    ap (λ b. b || is_entered (rest ++ n ∷ []) g) (or-first (same_group g h) (is_entered rest g) e)
    ∙ absent-last g n rest (or-second (same_group g h) (is_entered rest g) e) d

distinct-more : (groups : List (List ℕ)) (n : List ℕ) → AreDistinct groups → is_entered groups n ≡ false → AreDistinct (groups ++ n ∷ [])
distinct-more [] n d e = (refl, tt)
distinct-more (g ∷ rest) n d e = (
  absent-last g n rest d.0 (not-same n g (or-first (same_group n g) (is_entered rest n) e)),
  distinct-more rest n d.1 (or-second (same_group n g) (is_entered rest n) e),
)

-- the groups with one more, of which nothing of greedy is known
abbrev pub with_group : Numbered → List ℕ → ℕ → Numbered
with_group v group b = record v { groups = v.groups ++ group ∷ []; bounds = v.bounds ++ b ∷ []; greedy = v.greedy ++ None ∷ []; room = v.room - 1 }

pub keeps-more : (v : Numbered) (group : List ℕ) (b : ℕ) → KeepsNumbers v (with_group v group b)
keeps-more v group b g n e = get-before v.groups (group ∷ []) n g e

pub number-more : (v : Numbered) (group : List ℕ) (b n : ℕ) → n ≡ length v.groups → HasNumber (with_group v group b) group n
number-more v group b n e = ap (slice_get (v.groups ++ group ∷ [])) e ∙ get-last v.groups group

-- the table's entries and what is kept of greedy, as they are seen
abbrev pub numbered_from : BoundMemo → List (List ℕ × ℕ) → List (Option Greedy) → (room held : ℕ) → Numbered
numbered_from memo entries greedy room held = record { memo = memo; groups = map classes_of (keys_of entries); bounds = values_of entries; greedy = greedy; room = room; held = held }

abbrev numbered : BoundMemo → List (List ℕ) → List ℕ → List (Option Greedy) → (room held : ℕ) → Numbered
numbered memo groups bounds greedy room held = record { memo = memo; groups = groups; bounds = bounds; greedy = greedy; room = room; held = held }

-- with one more entry
pub view-more : (memo : BoundMemo) (old new : List (List ℕ × ℕ)) (words : List ℕ) (b : ℕ) (greedy more : List (Option Greedy)) (room held : ℕ) → new ≡ old ++ (words, b) ∷ [] → more ≡ greedy ++ None ∷ [] → (v : Numbered)
    → numbered_from memo old greedy room held ≡ v → numbered_from memo new more (room - 1) held ≡ with_group v (classes_of words) b
view-more memo old new words b greedy more room held e m v is =
    let groups : map classes_of (keys_of new) ≡ map classes_of (keys_of old) ++ classes_of words ∷ [] = ap (map classes_of) (keys-more old new words b e) ∙ map-append classes_of (keys_of old) (words ∷ []) in
    let bounds : values_of new ≡ values_of old ++ b ∷ [] = values-more old new words b e in
    ap (λ l. numbered memo l (values_of new) more (room - 1) held) groups
    ∙ ap (λ l. numbered memo (map classes_of (keys_of old) ++ classes_of words ∷ []) l more (room - 1) held) bounds
    ∙ ap (λ l. numbered memo (map classes_of (keys_of old) ++ classes_of words ∷ []) (values_of old ++ b ∷ []) l (room - 1) held) m
    ∙ ap (λ (u : Numbered). with_group u (classes_of words) b) is

-- more room, and nothing else
pub numbers-room : (p : Problem) (v : Numbered) (room held : ℕ) → AreNumbers p v → AreNumbers p (record v { room = room; held = held })
numbers-room p v room held are = record {
  memo = are.memo;
  distinct = are.distinct;
  within = are.within;
  bounds = are.bounds;
  as_many = are.as_many;
  greedy = λ group g h. are.greedy group g (record { number = h.number; has = h.has; kept = h.kept });
}

pub numbers-reserved : (p : Problem) (memo : BoundMemo) (old new : List (List ℕ × ℕ)) (greedy kept : List (Option Greedy)) (room held more hold : ℕ) (v : Numbered) → new ≡ old → kept ≡ greedy → numbered_from memo old greedy room held ≡ v
    → AreNumbers p v → AreNumbers p (numbered_from memo new kept more hold)
numbers-reserved p memo old new greedy kept room held more hold v e f is are =
    subst (λ l. AreNumbers p (numbered_from memo l kept more hold)) (sym e)
    (subst (λ l. AreNumbers p (numbered_from memo old l more hold)) (sym f)
    (numbers-room p (numbered_from memo old greedy room held) more hold (subst (AreNumbers p) (sym is) are)))

-- another memo of the problem, and nothing else
pub numbers-memo : (p : Problem) (v : Numbered) (memo : BoundMemo) → IsMemoOf p memo → AreNumbers p v → AreNumbers p (record v { memo = memo })
numbers-memo p v memo is are = record {
  memo = is;
  distinct = are.distinct;
  within = are.within;
  bounds = are.bounds;
  as_many = are.as_many;
  greedy = λ group g h. are.greedy group g (record { number = h.number; has = h.has; kept = h.kept });
}

-- what an attempt that succeeds has done
pub inserted : {A E : Type 0} (r : Result A E) (old new : List (List ℕ × ℕ)) → IsOk r → OnOk r (new ≡ old) → new ≡ old
inserted (Ok a) old new ok done = done
inserted (Err e) old new ok done = absurd (let bad : ⊥ = cc in bad)

pub pushed : {A E : Type 0} (r : Result A E) (old new : List (Option Greedy)) → IsOk r → new ≡ (if is_ok r then old ++ None ∷ [] else old) → new ≡ old ++ None ∷ []
pushed (Ok a) old new ok e = e
pushed (Err x) old new ok e = absurd (let bad : ⊥ = cc in bad)

none-some : (g : Greedy) → Some g ≡ None → ⊥
none-some g e = cc

module _ (p : Problem) (v : Numbered) (are : AreNumbers p v) where
  pub numbers-more : (group : List ℕ) (b : ℕ) → is_entered v.groups group ≡ false → IsWithin p group → b ≡ bound p group → AreNumbers p (with_group v group b)
  numbers-more group b absent within is = record {
    memo = are.memo;
    distinct = distinct-more v.groups group are.distinct absent;
    within = λ g n e. elim (get-more v.groups group n g e) [
      | inl old ↦ are.within g n old
      | inr new ↦ subst (IsWithin p) (sym new.1) within
    ];
    bounds = ap (λ l. l ++ b ∷ []) are.bounds ∙ ap (λ k. map (bound p) v.groups ++ k ∷ []) is ∙ sym (map-append (bound p) v.groups (group ∷ []));
    as_many = (let l1 = length-append v.greedy (None ∷ []) in let l2 = length-append v.groups (group ∷ []) in let l3 = are.as_many in omega arith);
    greedy = λ g k h. elim (get-more v.greedy None h.number (Some k) h.kept) [
      | inr new ↦ absurd (none-some k new.1)
      | inl kept ↦ elim (get-more v.groups group h.number g h.has) [
        | inl old ↦ are.greedy g k (record { number = h.number; has = old; kept = kept })
        | inr new ↦ absurd (let lt = slice_get_within v.greedy h.number (Some k) kept in let l = are.as_many in let at = new.0 in let bad : ⊥ = omega arith in bad)
      ]
    ];
  }

  -- what greedy does over a group that has a number
  pub numbers-greedy : (group : List ℕ) (n : ℕ) (k : Greedy) → HasNumber v group n → IsGreedyOf p group k → AreNumbers p (record v { greedy = set v.greedy n (Some k) })
  numbers-greedy group n k has is = record {
    memo = are.memo;
    distinct = are.distinct;
    within = are.within;
    bounds = are.bounds;
    as_many = length-set v.greedy n (Some k) ∙ are.as_many;
    greedy = λ g other h. elim (cases_order h.number n) [
      | inl same ↦
          (let is_kept : other ≡ k = some-same other k (get-set v.greedy n (Some other) (Some k) (ap (slice_get (set v.greedy n (Some k))) (sym same) ∙ h.kept)) in
          let is_group : g ≡ group = get-same v.groups n g group (ap (slice_get v.groups) (sym same) ∙ h.has) has in
          subst (λ x. IsGreedyOf p x other) (sym is_group) (subst (IsGreedyOf p group) (sym is_kept) is))
      | inr apart ↦
          (let ne : h.number ≢ n = elim apart [ inl x ↦ omega arith | inr y ↦ omega arith ] in
          are.greedy g other (record { number = h.number; has = h.has; kept = sym (get-set-other v.greedy n h.number (Some k) ne) ∙ h.kept }))
    ];
  }

  -- the bound of a group that has a number
  pub kept-bound : (group : List ℕ) (n b : ℕ) → HasNumber v group n → slice_get v.bounds n ≡ Some b → b ≡ bound p group
  kept-bound group n b has at = some-same b (bound p group) (sym at ∙ ap (λ l. slice_get l n) are.bounds ∙ slice_get-map (bound p) v.groups n ∙ ap (option_map (bound p)) has)

-- a group's number is one of those that there are
pub number-there : (v : Numbered) (group : List ℕ) (n : ℕ) → HasNumber v group n → n < length v.groups
number-there v group n has = slice_get_within v.groups n group has

pub keeps-none : (v : Numbered) → KeepsNumbers v v
keeps-none v g n e = e

pub keeps-both : (a b c : Numbered) → KeepsNumbers a b → KeepsNumbers b c → KeepsNumbers a c
keeps-both a b c ab bc g n e = bc g n (ab g n e)
