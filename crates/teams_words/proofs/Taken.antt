-- clap takes words that have the form of a command line, and finds in them what they choose. The words are followed one by
-- one beside clap's walk: the rows that the walk has hold what was read, and the lists of the words that are left hold the
-- rest.
use Rattle.std.proofs.Common.{◌≡◌, inl, inr, ◌⊎◌, ◌∙◌, ℕ, Bool, true, false, List, [], ◌∷◌, ◌++◌, drop, Option, Some, None, is_some, refl, ap, sym, codes, arith}
use Rattle.std.specs.Prelude.{fold, if◌then◌else◌, unwrap_or, option_and_then}
use Rattle.std.specs.Str.{bytes_eq}
use Rattle.std.proofs.lemmas.Bool.{cases_Bool, false≢true, and_parts}
use Rattle.std.proofs.lemmas.Slice.Eq.{bytes_eq-Decides}
use Rattle.clap.specs.Walk.{Row, Text, Walk, walked, has_row, first_of, with_default, walk_from, nothing_held}
use Rattle.clap.specs.Words.{takes, matches_of, first_value, rows_of}
use Rattle.clap.specs.Takes.{turn_passes, walk_passes}
use Rattle.clap.specs.declared.parser.matches.Found.{Found}
use Rattle.clap.proofs.WalkLemmas.{first_value-rows}
use Rattle.teams_words.specs.declared.word.OptionName.{OptionName}
use Rattle.teams_words.specs.declared.word.OptionName.TheVariants.{Cert, Workers, Groups, Mode, Log}
use Rattle.teams_words.specs.Command.{teams}
use Rattle.teams_words.specs.Words.{Parts, no_parts, value_part, other_part, joined, with_parts, goes_on, is_plain, valued, named, parts_after, parts_in}
use Rattle.teams_words.specs.Plans.{Chosen, chosen_of, chosen_in, chosen_from, are_once, is_once}
use Rattle.teams_words.specs.Plans.{first_of as first_value_of}
use Rattle.teams_words.specs.Read.{Finds}
use Rattle.teams_words.proofs.Started.{started}
use Rattle.teams_words.proofs.Walked.{rules, top, found, id_of, word_of, start_of, Ready, Waits, AreWhole, first_new, first_other, whole_push, first_step, second_step, alone_step, value_step, attached_step}

-- ---- the form of a word

cc_none : {X : Type 0} {x : X} → None ≡ Some x → ⊥
cc_none e = cc

the_pair : (name name' : OptionName) (v v' : Text) → ◌≡◌ {A = Option (OptionName × Text)} (Some (name, v)) (Some (name', v')) → (name ≡ name') × (v ≡ v')
the_pair name name' v v' e = (ap first_in e, ap second_in e)
  where
    first_in : Option (OptionName × Text) → OptionName
    first_in None = name
    first_in (Some q) = q.0

    second_in : Option (OptionName × Text) → Text
    second_in None = v
    second_in (Some q) = q.1

valued_is : (word : Text) (name : OptionName) (value : Text) → valued word ≡ Some (name, value) → word ≡ start_of name ++ value
valued_is word name value e =
    elim (cases_Bool (goes_on (codes "--cert=") word)) [
      | inl so ↦ let (n, v) = the_pair Cert name (drop 7 word) value (rw so at e) in rw (← n, ← v) (started (codes "--cert=") word so)
      | inr no1 ↦ elim (cases_Bool (goes_on (codes "--workers=") word)) [
        | inl so ↦ let (n, v) = the_pair Workers name (drop 10 word) value (rw (no1, so) at e) in rw (← n, ← v) (started (codes "--workers=") word so)
        | inr no2 ↦ elim (cases_Bool (goes_on (codes "--groups=") word)) [
          | inl so ↦ let (n, v) = the_pair Groups name (drop 9 word) value (rw (no1, no2, so) at e) in rw (← n, ← v) (started (codes "--groups=") word so)
          | inr no3 ↦ elim (cases_Bool (goes_on (codes "--mode=") word)) [
            | inl so ↦ let (n, v) = the_pair Mode name (drop 7 word) value (rw (no1, no2, no3, so) at e) in rw (← n, ← v) (started (codes "--mode=") word so)
            | inr no4 ↦ elim (cases_Bool (goes_on (codes "--log=") word)) [
              | inl so ↦ let (n, v) = the_pair Log name (drop 6 word) value (rw (no1, no2, no3, no4, so) at e) in rw (← n, ← v) (started (codes "--log=") word so)
              | inr no5 ↦ absurd (cc_none (rw (no1, no2, no3, no4, no5) at e))
            ]
          ]
        ]
      ]
    ]

the_name : (name name' : OptionName) → ◌≡◌ {A = Option OptionName} (Some name) (Some name') → name ≡ name'
the_name name name' e = ap (λ o. unwrap_or o name) e

named_is : (word : Text) (name : OptionName) → named word ≡ Some name → word ≡ word_of name
named_is word name e =
    elim (cases_Bool (bytes_eq word (codes "--cert"))) [
      | inl so ↦ rw (← the_name Cert name (rw so at e)) ((bytes_eq-Decides word (codes "--cert")).0 so)
      | inr no1 ↦ elim (cases_Bool (bytes_eq word (codes "--workers"))) [
        | inl so ↦ rw (← the_name Workers name (rw (no1, so) at e)) ((bytes_eq-Decides word (codes "--workers")).0 so)
        | inr no2 ↦ elim (cases_Bool (bytes_eq word (codes "--groups"))) [
          | inl so ↦ rw (← the_name Groups name (rw (no1, no2, so) at e)) ((bytes_eq-Decides word (codes "--groups")).0 so)
          | inr no3 ↦ elim (cases_Bool (bytes_eq word (codes "--mode"))) [
            | inl so ↦ rw (← the_name Mode name (rw (no1, no2, no3, so) at e)) ((bytes_eq-Decides word (codes "--mode")).0 so)
            | inr no4 ↦ elim (cases_Bool (bytes_eq word (codes "--log"))) [
              | inl so ↦ rw (← the_name Log name (rw (no1, no2, no3, no4, so) at e)) ((bytes_eq-Decides word (codes "--log")).0 so)
              | inr no5 ↦ absurd (cc_none (rw (no1, no2, no3, no4, no5) at e))
            ]
          ]
        ]
      ]
    ]

-- ---- what the lists hold of each option

abbrev values : OptionName → Parts → List Text
values Cert p = p.cert
values Workers p = p.workers
values Groups p = p.groups
values Mode p = p.mode
values Log p = p.log

abbrev given : OptionName → Chosen → Option Text
given Cert c = c.cert
given Workers c = c.workers
given Groups c = c.groups
given Mode c = c.mode
given Log c = c.log

-- one option is another, or their ids and lists are apart
abbrev Apart : OptionName → OptionName → Type 0
Apart n m = (bytes_eq (id_of n) (id_of m) ≡ false) × ((v : Text) (p : Parts) → values m (joined (value_part n v) p) ≡ values m p)

same_or_apart : (n m : OptionName) → (n ≡ m) ⊎ Apart n m
same_or_apart Cert Cert = inl refl
same_or_apart Cert Workers = inr (refl, λ v p. refl)
same_or_apart Cert Groups = inr (refl, λ v p. refl)
same_or_apart Cert Mode = inr (refl, λ v p. refl)
same_or_apart Cert Log = inr (refl, λ v p. refl)
same_or_apart Workers Cert = inr (refl, λ v p. refl)
same_or_apart Workers Workers = inl refl
same_or_apart Workers Groups = inr (refl, λ v p. refl)
same_or_apart Workers Mode = inr (refl, λ v p. refl)
same_or_apart Workers Log = inr (refl, λ v p. refl)
same_or_apart Groups Cert = inr (refl, λ v p. refl)
same_or_apart Groups Workers = inr (refl, λ v p. refl)
same_or_apart Groups Groups = inl refl
same_or_apart Groups Mode = inr (refl, λ v p. refl)
same_or_apart Groups Log = inr (refl, λ v p. refl)
same_or_apart Mode Cert = inr (refl, λ v p. refl)
same_or_apart Mode Workers = inr (refl, λ v p. refl)
same_or_apart Mode Groups = inr (refl, λ v p. refl)
same_or_apart Mode Mode = inl refl
same_or_apart Mode Log = inr (refl, λ v p. refl)
same_or_apart Log Cert = inr (refl, λ v p. refl)
same_or_apart Log Workers = inr (refl, λ v p. refl)
same_or_apart Log Groups = inr (refl, λ v p. refl)
same_or_apart Log Mode = inr (refl, λ v p. refl)
same_or_apart Log Log = inl refl

values_own : (n : OptionName) (v : Text) (p : Parts) → values n (joined (value_part n v) p) ≡ v ∷ values n p
values_own Cert v p = refl
values_own Workers v p = refl
values_own Groups v p = refl
values_own Mode v p = refl
values_own Log v p = refl

others_stay : (n : OptionName) (v : Text) (p : Parts) → (joined (value_part n v) p).others ≡ p.others
others_stay Cert v p = refl
others_stay Workers v p = refl
others_stay Groups v p = refl
others_stay Mode v p = refl
others_stay Log v p = refl

values_stay : (n : OptionName) (word : Text) (p : Parts) → values n (joined (other_part word) p) ≡ values n p
values_stay Cert word p = refl
values_stay Workers word p = refl
values_stay Groups word p = refl
values_stay Mode word p = refl
values_stay Log word p = refl

values_none : (n : OptionName) → values n no_parts ≡ []
values_none Cert = refl
values_none Workers = refl
values_none Groups = refl
values_none Mode = refl
values_none Log = refl

-- the option's one value, from the one read and those to come
abbrev once : Option Text → List Text → Option (Option Text)
once None [] = Some None
once None (x ∷ []) = Some (Some x)
once (Some x) [] = Some (Some x)
once _ _ = None

once_taken : (o q : Option Text) (v : Text) (more : List Text) → once o (v ∷ more) ≡ Some q → (o ≡ None) × (once (Some v) more ≡ Some q)
once_taken None q v [] h = (refl, h)
once_taken None q v (x ∷ more) h = absurd (cc_none h)
once_taken (Some x) q v more h = absurd (cc_none h)

once_last : (o q : Option Text) → once o [] ≡ Some q → o ≡ q
once_last None q e = ap (λ x. unwrap_or x None) e
once_last (Some x) q e = ap (λ y. unwrap_or y (Some x)) e

-- ---- how many of the two words were read

data Seen : Type 0 where
  none : Seen
  one : Seen
  two : Seen

abbrev position_of : Seen → ℕ
position_of none = 1
position_of one = 2
position_of two = 3

abbrev action_seen : Seen → Text → Option Text
action_seen none a = None
action_seen one a = Some a
action_seen two a = Some a

abbrev model_seen : Seen → Text → Option Text
model_seen none m = None
model_seen one m = None
model_seen two m = Some m

abbrev left : Seen → Text → Text → List Text
left none a m = a ∷ m ∷ []
left one a m = m ∷ []
left two a m = []

-- what the rows hold, and what the words that are left have to give
record Asks (seen : Seen) (c : Chosen) (rows : List Row) (p : Parts) : Type 0 where
  are_whole : AreWhole rows
  action : first_of (codes "action") rows ≡ action_seen seen c.action
  model : first_of (codes "model") rows ≡ model_seen seen c.model
  options : (n : OptionName) → once (first_of (id_of n) rows) (values n p) ≡ Some (given n c)
  others : p.others ≡ left seen c.action c.model

abbrev Stands : Option OptionName → List Row → ℕ → Walk → Type 0
Stands None rows k w = Ready rows k w
Stands (Some name) rows k w = Waits name rows k w

record Ends (c : Chosen) (w : Walk) : Type 0 where
  rows : List Row
  ready : Ready rows 3 w
  action : first_of (codes "action") rows ≡ Some c.action
  model : first_of (codes "model") rows ≡ Some c.model
  options : (n : OptionName) → first_of (id_of n) rows ≡ given n c

-- what a run over the words gives
abbrev Reads : List Text → Walk → Chosen → Type 0
Reads words w c = (walk_passes top [] w words ≡ true) × Ends c (fold (walked rules []) w words)

one_more : (word : Text) (rest : List Text) (w : Walk) (c : Chosen) → turn_passes top [] w word ≡ true → Reads rest (walked rules [] w word) c → Reads (word ∷ rest) w c
unfolding walk_passes
one_more word rest w c passes more = (rw (passes, more.0) refl, more.1)

-- the lists of words with one taken away in front
front : (q : Parts) (o : Option Parts) (p : Parts) → with_parts q o ≡ Some p → (r : Parts) × (o ≡ Some r) × (joined q r ≡ p)
front q None p e = absurd (cc_none e)
front q (Some r) p e = (r, refl, ap (λ o. unwrap_or o no_parts) e)

-- an option's value is read
with_value : (n : OptionName) (v : Text) (seen : Seen) (c : Chosen) (rows : List Row) (r : Parts) → Asks seen c rows (joined (value_part n v) r)
    → (first_of (id_of n) rows ≡ None) × Asks seen c (rows ++ found (id_of n) v ∷ []) r
with_value n v seen c rows r asks =
    let (absent, later) = once_taken (first_of (id_of n) rows) (given n c) v (values n r) (rw (values_own n v r) at (asks.options n)) in (
      absent,
      record {
        are_whole = whole_push (id_of n) v rows asks.are_whole;
        action = first_other (codes "action") v (id_of n) rows asks.are_whole (no_action n) ∙ asks.action;
        model = first_other (codes "model") v (id_of n) rows asks.are_whole (no_model n) ∙ asks.model;
        options = λ m. each m absent later;
        others = sym (others_stay n v r) ∙ asks.others;
      },
    )
  where
    no_action : (m : OptionName) → bytes_eq (id_of m) (codes "action") ≡ false
    no_action Cert = refl
    no_action Workers = refl
    no_action Groups = refl
    no_action Mode = refl
    no_action Log = refl

    no_model : (m : OptionName) → bytes_eq (id_of m) (codes "model") ≡ false
    no_model Cert = refl
    no_model Workers = refl
    no_model Groups = refl
    no_model Mode = refl
    no_model Log = refl

    each : (m : OptionName) → first_of (id_of n) rows ≡ None → once (Some v) (values n r) ≡ Some (given n c) → once (first_of (id_of m) (rows ++ found (id_of n) v ∷ [])) (values m r) ≡ Some (given m c)
    each m absent later =
        elim (same_or_apart n m) [
          | inl same ↦ rw (← same) (rw (first_new (id_of n) v rows asks.are_whole absent) later)
          | inr apart ↦ rw (first_other (id_of m) v (id_of n) rows asks.are_whole apart.0) (rw (apart.1 v r) at (asks.options m))
        ]

free : (n : OptionName) (rows : List Row) → AreWhole rows → first_of (id_of n) rows ≡ None → has_row (id_of n) rows ≡ false
free n rows are_whole absent = are_whole (id_of n) ∙ ap is_some absent

-- the first of the two words is read, and the second
with_action : (v : Text) (c : Chosen) (rows : List Row) (r : Parts) → Asks none c rows (joined (other_part v) r) → (v ≡ c.action) × Asks one c (rows ++ found (codes "action") v ∷ []) r
with_action v c rows r asks =
    let is : v ≡ c.action = ap head asks.others in (
      is,
      record {
        are_whole = whole_push (codes "action") v rows asks.are_whole;
        action = first_new (codes "action") v rows asks.are_whole asks.action ∙ ap Some is;
        model = first_other (codes "model") v (codes "action") rows asks.are_whole refl ∙ asks.model;
        options = each;
        others = ap (drop 1) asks.others;
      },
    )
  where
    head : List Text → Text
    head [] = []
    head (x ∷ xs) = x

    apart : (m : OptionName) → bytes_eq (codes "action") (id_of m) ≡ false
    apart Cert = refl
    apart Workers = refl
    apart Groups = refl
    apart Mode = refl
    apart Log = refl

    each : (m : OptionName) → once (first_of (id_of m) (rows ++ found (codes "action") v ∷ [])) (values m r) ≡ Some (given m c)
    each m = rw (first_other (id_of m) v (codes "action") rows asks.are_whole (apart m)) (rw (values_stay m v r) at (asks.options m))

with_model : (v : Text) (c : Chosen) (rows : List Row) (r : Parts) → Asks one c rows (joined (other_part v) r) → (v ≡ c.model) × Asks two c (rows ++ found (codes "model") v ∷ []) r
with_model v c rows r asks =
    let is : v ≡ c.model = ap head asks.others in (
      is,
      record {
        are_whole = whole_push (codes "model") v rows asks.are_whole;
        action = first_other (codes "action") v (codes "model") rows asks.are_whole refl ∙ asks.action;
        model = first_new (codes "model") v rows asks.are_whole asks.model ∙ ap Some is;
        options = each;
        others = ap (drop 1) asks.others;
      },
    )
  where
    head : List Text → Text
    head [] = []
    head (x ∷ xs) = x

    apart : (m : OptionName) → bytes_eq (codes "model") (id_of m) ≡ false
    apart Cert = refl
    apart Workers = refl
    apart Groups = refl
    apart Mode = refl
    apart Log = refl

    each : (m : OptionName) → once (first_of (id_of m) (rows ++ found (codes "model") v ∷ [])) (values m r) ≡ Some (given m c)
    each m = rw (first_other (id_of m) v (codes "model") rows asks.are_whole (apart m)) (rw (values_stay m v r) at (asks.options m))

ended : (seen : Seen) (c : Chosen) (rows : List Row) (w : Walk) → Asks seen c rows no_parts → Ready rows (position_of seen) w → Reads [] w c
unfolding walk_passes
ended none c rows w asks ready = absurd (nothing asks.others)
  where
    nothing : [] ≡ c.action ∷ c.model ∷ [] → ⊥
    nothing e = cc
ended one c rows w asks ready = absurd (nothing asks.others)
  where
    nothing : [] ≡ c.model ∷ [] → ⊥
    nothing e = cc
ended two c rows w asks ready = (
  refl,
  record {
    rows = rows;
    ready = ready;
    action = asks.action;
    model = asks.model;
    options = λ n. once_last (first_of (id_of n) rows) (given n c) (rw (values_none n) at (asks.options n));
  },
)

-- the words behind this one are read, whatever it came to
abbrev More : Text → List Text → Chosen → Walk → Type 0
More word rest c w = (waits : Option OptionName) (seen : Seen) (rows : List Row) (p : Parts) → parts_after waits rest ≡ Some p → Asks seen c rows p → Stands waits rows (position_of seen) (walked rules [] w word) → Reads rest (walked rules [] w word) c

-- the words are read, whatever was read before them
reads : (words : List Text) (waits : Option OptionName) (seen : Seen) (c : Chosen) (rows : List Row) (w : Walk) (p : Parts)
    → parts_after waits words ≡ Some p → Asks seen c rows p → Stands waits rows (position_of seen) w → Reads words w c
reads [] (Some name) seen c rows w p is asks stands = absurd (cc_none is)
reads [] None seen c rows w p is asks stands = ended seen c rows w (rw (← ap (λ o. unwrap_or o no_parts) is) at asks) stands
reads (word ∷ rest) (Some name) seen c rows w p is asks stands =
    elim (cases_Bool (is_plain word)) [
      | inl plain ↦
          let (r, later, joins) = front (value_part name word) (parts_after None rest) p (rw plain at is) in
          let (absent, asks') = with_value name word seen c rows r (rw (← joins) at asks) in
          let step = value_step name word rows (position_of seen) w stands plain (free name rows asks.are_whole absent) in
          one_more word rest w c step.0 (reads rest None seen c (rows ++ found (id_of name) word ∷ []) (walked rules [] w word) r later asks' step.1)
      | inr other ↦ absurd (cc_none (rw other at is))
    ]
reads (word ∷ rest) None seen c rows w p is asks stands = by_value (valued word) refl
    (λ waits' s' rows' r' later asks' stands'. reads rest waits' s' c rows' (walked rules [] w word) r' later asks' stands')
  where
    other_word : (s : Seen) (r : Parts) → is_plain word ≡ true → Asks s c rows (joined (other_part word) r) → Ready rows (position_of s) w
        → ((s' : Seen) (rows' : List Row) → Asks s' c rows' r → Ready rows' (position_of s') (walked rules [] w word) → Reads rest (walked rules [] w word) c)
        → Reads (word ∷ rest) w c
    other_word none r plain asks' ready more =
        let (is', next) = with_action word c rows r asks' in
        let step = first_step word rows w ready plain (asks'.are_whole (codes "action") ∙ ap is_some asks'.action) in
        one_more word rest w c step.0 (more one (rows ++ found (codes "action") word ∷ []) next step.1)
    other_word one r plain asks' ready more =
        let (is', next) = with_model word c rows r asks' in
        let step = second_step word rows w ready plain (asks'.are_whole (codes "model") ∙ ap is_some asks'.model) in
        one_more word rest w c step.0 (more two (rows ++ found (codes "model") word ∷ []) next step.1)
    other_word two r plain asks' ready more = absurd (too_many asks'.others)
      where
        too_many : word ∷ r.others ≡ [] → ⊥
        too_many e = cc

    by_plain : valued word ≡ None → named word ≡ None → More word rest c w → Reads (word ∷ rest) w c
    by_plain no_value no_name more =
        elim (cases_Bool (is_plain word)) [
          | inl plain ↦
              let (r, later, joins) = front (other_part word) (parts_after None rest) p (rw (no_value, no_name, plain) at is) in
              other_word seen r plain (rw (← joins) at asks) stands (λ s' rows' asks' ready'. more None s' rows' r later asks' ready')
          | inr other ↦ absurd (cc_none (rw (no_value, no_name, other) at is))
        ]

    by_name : (n : Option OptionName) → valued word ≡ None → named word ≡ n → More word rest c w → Reads (word ∷ rest) w c
    by_name None no_value e more = by_plain no_value e more
    by_name (Some name) no_value e more =
        let step = alone_step name word rows (position_of seen) w stands (named_is word name e) in
        one_more word rest w c step.0 (more (Some name) seen rows p (rw (no_value, e) at is) asks step.1)

    by_value : (o : Option (OptionName × Text)) → valued word ≡ o → More word rest c w → Reads (word ∷ rest) w c
    by_value None e more = by_name (named word) e refl more
    by_value (Some (name, value)) e more =
        let (r, later, joins) = front (value_part name value) (parts_after None rest) p (rw e at is) in
        let (absent, asks') = with_value name value seen c rows r (rw (← joins) at asks) in
        let step = attached_step name value word rows (position_of seen) w stands (valued_is word name value e) (free name rows asks.are_whole absent) in
        one_more word rest w c step.0 (more None seen (rows ++ found (id_of name) value ∷ []) r later asks' step.1)

-- ---- the lists of a choice

first_once : (values : List Text) → is_once values ≡ true → once None values ≡ Some (first_value_of values)
first_once [] h = refl
first_once (x ∷ []) h = refl
first_once (x ∷ y ∷ more) h = absurd (let bad : ⊥ = grind arith in bad)

record AreFor (p : Parts) (c : Chosen) : Type 0 where
  options : (n : OptionName) → once None (values n p) ≡ Some (given n c)
  others : p.others ≡ c.action ∷ c.model ∷ []

of_others : (others : List Text) (p : Parts) (c : Chosen) → p.others ≡ others → are_once p ≡ true → chosen_from others p ≡ Some c → AreFor p c
of_others [] p c os are e = absurd (cc_none e)
of_others (a ∷ []) p c os are e = absurd (cc_none e)
of_others (a ∷ m ∷ b ∷ more) p c os are e = absurd (cc_none e)
of_others (a ∷ m ∷ []) p c os are e =
    let (cert, rest) = and_parts (is_once p.cert) _ are in
    let (workers, rest') = and_parts (is_once p.workers) _ rest in
    let (groups, last) = and_parts (is_once p.groups) _ rest' in
    let (mode, log) = and_parts (is_once p.mode) (is_once p.log) last in
    let is = ap (λ (o : Option Chosen). unwrap_or o c) e in
    rw (← is) (record { options = each cert workers groups mode log; others = os })
  where
    each : is_once p.cert ≡ true → is_once p.workers ≡ true → is_once p.groups ≡ true → is_once p.mode ≡ true → is_once p.log ≡ true → (n : OptionName) → once None (values n p) ≡ Some (given n (record { action = a; model = m; cert = first_value_of p.cert; workers = first_value_of p.workers; groups = first_value_of p.groups; mode = first_value_of p.mode; log = first_value_of p.log }))
    each cert workers groups mode log Cert = first_once p.cert cert
    each cert workers groups mode log Workers = first_once p.workers workers
    each cert workers groups mode log Groups = first_once p.groups groups
    each cert workers groups mode log Mode = first_once p.mode mode
    each cert workers groups mode log Log = first_once p.log log

of_parts : (p : Parts) (c : Chosen) → chosen_of p ≡ Some c → AreFor p c
of_parts p c e =
    elim (cases_Bool (are_once p)) [
      | inl are ↦ of_others p.others p c refl are (rw are at e)
      | inr twice ↦ absurd (cc_none (rw twice at e))
    ]

of_choice : (o : Option Parts) (c : Chosen) → option_and_then chosen_of o ≡ Some c → (p : Parts) × (o ≡ Some p) × AreFor p c
of_choice None c e = absurd (cc_none e)
of_choice (Some p) c e = (p, refl, of_parts p c e)

same_either : (b : Bool) (rows : List Row) → (if b then rows else rows) ≡ rows
same_either true rows = refl
same_either false rows = refl

-- no argument has a default
no_defaults : (rows : List Row) → fold with_default rows rules ≡ rows
no_defaults rows = rw (same_either (has_row (codes "action") rows) rows, same_either (has_row (codes "model") rows) rows, same_either (has_row (codes "cert") rows) rows, same_either (has_row (codes "workers") rows) rows, same_either (has_row (codes "groups") rows) rows, same_either (has_row (codes "mode") rows) rows, same_either (has_row (codes "log") rows) rows) refl

at_start : Ready [] 1 (walk_from nothing_held)
at_start = record { before = []; pending = None; stands = refl; settles = refl; passes = refl }

choice_read : (words : List Text) (c : Chosen) → chosen_in words ≡ Some c → Reads words (walk_from nothing_held) c
choice_read words c e =
    let (p, parts, are) = of_choice (parts_in words) c e in
    reads words None none c [] (walk_from nothing_held) p parts (record { are_whole = λ id. refl; action = refl; model = refl; options = are.options; others = are.others }) at_start

choice_is_taken : (words : List Text) (c : Chosen) → chosen_in words ≡ Some c → takes teams words ≡ true
choice_is_taken words c e =
    let (walks, ends) = choice_read words c e in
    rw (walks, ends.ready.stands, ends.ready.passes) refl

-- what clap gives where the words choose
pub found_is : (words : List Text) (f : Found) → rows_of f ≡ matches_of teams words → Finds (chosen_in words) f
found_is words f rows = go (chosen_in words) refl
  where
    go : (o : Option Chosen) → chosen_in words ≡ o → Finds o f
    go None e = tt
    go (Some c) e =
        let (walks, ends) = choice_read words c e in
        let rows_are : matches_of teams words ≡ ends.rows = rw (ends.ready.stands, ends.ready.settles) (no_defaults ends.rows) in
        let at : (id : Text) → first_value f id ≡ first_of id ends.rows = λ id. first_value-rows f id ∙ ap (first_of id) (rows ∙ rows_are) in
        (at (codes "action") ∙ ends.action, at (codes "model") ∙ ends.model, at (codes "cert") ∙ ends.options Cert, at (codes "workers") ∙ ends.options Workers, at (codes "groups") ∙ ends.options Groups, at (codes "mode") ∙ ends.options Mode, at (codes "log") ∙ ends.options Log)

pub taken_where : (words : List Text) → is_some (chosen_in words) ≡ true → takes teams words ≡ true
taken_where words there = go (chosen_in words) refl there
  where
    go : (o : Option Chosen) → chosen_in words ≡ o → is_some o ≡ true → takes teams words ≡ true
    go None e nothing = absurd (false≢true nothing)
    go (Some c) e some = choice_is_taken words c e
