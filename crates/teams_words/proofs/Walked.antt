-- What clap's walk does at each kind of word of a command line.
use Rattle.std.proofs.Common.{◌≡◌, ◌∙◌, ℕ, Bool, true, false, List, [], ◌∷◌, ◌++◌, append-nil, ◌||◌, Option, Some, None, refl, ap, codes, is_some, arith}
use Rattle.std.specs.Prelude.{nat_eq, unwrap_or, if◌then◌else◌}
use Rattle.std.specs.Str.{bytes_eq}
use Rattle.std.proofs.lemmas.Slice.Eq.{bytes_eq-Decides}
use Rattle.clap.specs.Lexer.{long_of, short_of}
use Rattle.clap.specs.Walk.{Rule, Row, Text, Walk, Held, Waiting, idle, option, walked, settled_rows, used, reading_by, positional_held, takes_several, arg_by_index, arg_by_long, has_row, at_row, without, more_values, action_of, first_of, arg_by_id}
use Rattle.clap.specs.Simple.{built, Shape, new_rule}
use Rattle.clap.specs.Takes.{settle_passes, use_passes, turn_passes}
use Rattle.clap.specs.Words.{is_simple}
use Rattle.clap.specs.declared.builder.action.ArgAction.TheVariants.{Set}
use Rattle.clap.specs.declared.parser.matches.ValueSource.TheVariants.{CommandLine}
use Rattle.teams_words.specs.declared.word.OptionName.{OptionName}
use Rattle.teams_words.specs.declared.word.OptionName.TheVariants.{Cert, Workers, Groups, Mode, Log}
use Rattle.teams_words.specs.Command.{teams}
use Rattle.teams_words.specs.Words.{is_plain}

-- the rules of the built command
abbrev pub rules : List Rule
rules = (built teams).top.rules

pub simple : is_simple teams ≡ true
simple = refl

-- the id of an option, and its word
abbrev pub id_of : OptionName → Text
id_of Cert = codes "cert"
id_of Workers = codes "workers"
id_of Groups = codes "groups"
id_of Mode = codes "mode"
id_of Log = codes "log"

abbrev pub word_of : OptionName → Text
word_of Cert = codes "--cert"
word_of Workers = codes "--workers"
word_of Groups = codes "--groups"
word_of Mode = codes "--mode"
word_of Log = codes "--log"

abbrev pub start_of : OptionName → Text
start_of Cert = codes "--cert="
start_of Workers = codes "--workers="
start_of Groups = codes "--groups="
start_of Mode = codes "--mode="
start_of Log = codes "--log="

abbrev rule_for : OptionName → Rule
rule_for name = unwrap_or (arg_by_long rules (id_of name)) (new_rule [])

-- where the walk stands between two words
abbrev pub at : List Row → Option (Text × List Text) → Waiting → ℕ → Walk
at rows pending waiting position = record {
  held = record { rows = rows; pending = pending; skip = 0 };
  waiting = waiting;
  position = position;
  is_trailing = false;
  stopped = None;
}

-- a plain word is no option
plain_long : (word : List ℕ) → is_plain word ≡ true → long_of word ≡ None
plain_long [] h = cc
plain_long (x ∷ xs) h = rw not_hyphen refl
  where
    not_hyphen : nat_eq x 45 ≡ false
    not_hyphen = grind arith

plain_short : (word : List ℕ) → is_plain word ≡ true → short_of word ≡ None
plain_short [] h = cc
plain_short (x ∷ xs) h = rw not_hyphen refl
  where
    not_hyphen : nat_eq x 45 ≡ false
    not_hyphen = grind arith

plain_dashes : (word : List ℕ) → is_plain word ≡ true → bytes_eq word (45 ∷ 45 ∷ []) ≡ false
plain_dashes [] h = refl
plain_dashes (x ∷ xs) h = rw not_hyphen refl
  where
    not_hyphen : nat_eq x 45 ≡ false
    not_hyphen = grind arith

-- a positional that takes one value: what is pending is settled, and the word is pending
to_position : (a : Rule) (word : List ℕ) (rows : List Row) (pending : Option (Text × List Text)) → takes_several a ≡ false
    → positional_held rules a word (record { rows = rows; pending = pending; skip = 0 }) ≡ record { rows = settled_rows rules pending rows; pending = Some (a.id, word ∷ []); skip = 0 }
to_position a word rows None one = refl
to_position a word rows (Some p) one = go (bytes_eq p.0 a.id) refl
  where
    go : (b : Bool) → bytes_eq p.0 a.id ≡ b → positional_held rules a word (record { rows = rows; pending = Some p; skip = 0 }) ≡ record { rows = settled_rows rules (Some p) rows; pending = Some (a.id, word ∷ []); skip = 0 }
    go true e = rw (e, one) refl
    go false e = rw e refl

first_walked : (word : List ℕ) (rows : List Row) (pending : Option (Text × List Text)) → is_plain word ≡ true → walked rules [] (at rows pending idle 1) word ≡ at (settled_rows rules pending rows) (Some (codes "action", word ∷ [])) idle 2
unfolding walked
first_walked word rows pending plain = rw (plain_dashes word plain, plain_long word plain, plain_short word plain)
    (ap (λ (h : Held). record { held = h; waiting = idle; position = 2; is_trailing = false; stopped = None }) (to_position (unwrap_or (arg_by_index rules 1) (new_rule [])) word rows pending refl))

second_walked : (word : List ℕ) (rows : List Row) (pending : Option (Text × List Text)) → is_plain word ≡ true → walked rules [] (at rows pending idle 2) word ≡ at (settled_rows rules pending rows) (Some (codes "model", word ∷ [])) idle 3
unfolding walked
second_walked word rows pending plain = rw (plain_dashes word plain, plain_long word plain, plain_short word plain)
    (ap (λ (h : Held). record { held = h; waiting = idle; position = 3; is_trailing = false; stopped = None }) (to_position (unwrap_or (arg_by_index rules 2) (new_rule [])) word rows pending refl))

value_walked : (name : OptionName) (word : List ℕ) (rows : List Row) (k : ℕ) → is_plain word ≡ true → walked rules [] (at rows (Some (id_of name, [])) (option (id_of name)) k) word ≡ at rows (Some (id_of name, word ∷ [])) idle k
unfolding walked
value_walked Cert word rows k plain = rw (plain_dashes word plain, plain_long word plain, plain_short word plain) refl
value_walked Workers word rows k plain = rw (plain_dashes word plain, plain_long word plain, plain_short word plain) refl
value_walked Groups word rows k plain = rw (plain_dashes word plain, plain_long word plain, plain_short word plain) refl
value_walked Mode word rows k plain = rw (plain_dashes word plain, plain_long word plain, plain_short word plain) refl
value_walked Log word rows k plain = rw (plain_dashes word plain, plain_long word plain, plain_short word plain) refl

-- `--NAME` alone
alone_walked : (name : OptionName) (rows : List Row) (pending : Option (Text × List Text)) (k : ℕ) → walked rules [] (at rows pending idle k) (word_of name) ≡ at (settled_rows rules pending rows) (Some (id_of name, [])) (option (id_of name)) k
unfolding walked
alone_walked Cert rows pending k = refl
alone_walked Workers rows pending k = refl
alone_walked Groups rows pending k = refl
alone_walked Mode rows pending k = refl
alone_walked Log rows pending k = refl

-- `--NAME=VALUE`
attached_walked : (name : OptionName) (value : List ℕ) (rows : List Row) (pending : Option (Text × List Text)) (k : ℕ) → walked rules [] (at rows pending idle k) (start_of name ++ value) ≡ at (used (rule_for name) (value ∷ []) (settled_rows rules pending rows)) None idle k
unfolding walked
attached_walked Cert value rows pending k = refl
attached_walked Workers value rows pending k = refl
attached_walked Groups value rows pending k = refl
attached_walked Mode value rows pending k = refl
attached_walked Log value rows pending k = refl

-- ---- what is found

abbrev pub found : Text → Text → Row
found id v = record { id = id; values = v ∷ []; count = None; source = Some CommandLine; reading = reading_by (new_rule []) }

-- a row that isn't there is added at the end
at_absent : (id : Text) (change : Row → List Row) (missing rows : List Row) → has_row id rows ≡ false → at_row id change missing rows ≡ rows ++ missing
at_absent id change missing [] h = refl
at_absent id change missing (r ∷ rows) h =
    let (here, later) = neither (bytes_eq r.id id) (has_row id rows) h in
    rw here (ap (λ rs. r ∷ rs) (at_absent id change missing rows later))
  where
    neither : (a b : Bool) → (a || b) ≡ false → (a ≡ false) × (b ≡ false)
    neither true b e = cc
    neither false b e = (refl, e)

used_absent : (id : Text) (r : Rule) (v : Text) (rows : List Row) → r.id ≡ id → action_of r ≡ Set → reading_by r ≡ reading_by (new_rule []) → has_row id rows ≡ false → used r (v ∷ []) rows ≡ rows ++ found id v ∷ []
used_absent id r v rows e set how absent =
    let gone : without id rows ≡ rows = at_absent id (λ _. []) [] rows absent ∙ append-nil rows in
    rw (set, e, how, gone) (at_absent id (more_values CommandLine (v ∷ [])) (found id v ∷ []) rows absent)

-- ---- one word after another

abbrev pub top : Shape
top = (built teams).top

-- the walk waits for nothing, and has these rows once what is pending is settled
pub record Ready (rows : List Row) (k : ℕ) (w : Walk) : Type 0 where
  pub before : List Row
  pub pending : Option (Text × List Text)
  pub stands : w ≡ at before pending idle k
  pub settles : settled_rows rules pending before ≡ rows
  pub passes : settle_passes rules false (record { rows = before; pending = pending; skip = 0 }) ≡ true

-- the walk waits for the option's value
abbrev pub Waits : OptionName → List Row → ℕ → Walk → Type 0
Waits name rows k w = w ≡ at rows (Some (id_of name, [])) (option (id_of name)) k

new_pending : (id : Text) (r : Rule) (v : Text) (rows : List Row) (k : ℕ) → arg_by_id rules id ≡ Some r → r.id ≡ id → action_of r ≡ Set → reading_by r ≡ reading_by (new_rule [])
    → (has_row id rows ≡ false → use_passes false r (v ∷ []) rows ≡ true) → has_row id rows ≡ false
    → Ready (rows ++ found id v ∷ []) k (at rows (Some (id, v ∷ [])) idle k)
new_pending id r v rows k by_id e set how passes absent = record {
  before = rows;
  pending = Some (id, v ∷ []);
  stands = refl;
  settles = rw by_id (used_absent id r v rows e set how absent);
  passes = rw by_id (passes absent);
}

or_true : (b : Bool) → (b || true) ≡ true
or_true true = refl
or_true false = refl

rule_by : Text → Rule
rule_by id = unwrap_or (arg_by_id rules id) (new_rule [])

ready_action : (v : Text) (rows : List Row) (k : ℕ) → has_row (codes "action") rows ≡ false → Ready (rows ++ found (codes "action") v ∷ []) k (at rows (Some (codes "action", v ∷ [])) idle k)
unfolding rule_by
ready_action v rows k absent = new_pending (codes "action") (rule_by (codes "action")) v rows k refl refl refl refl (λ h. rw h refl) absent

ready_model : (v : Text) (rows : List Row) (k : ℕ) → has_row (codes "model") rows ≡ false → Ready (rows ++ found (codes "model") v ∷ []) k (at rows (Some (codes "model", v ∷ [])) idle k)
unfolding rule_by
ready_model v rows k absent = new_pending (codes "model") (rule_by (codes "model")) v rows k refl refl refl refl (λ h. rw h refl) absent

ready_option : (name : OptionName) (v : Text) (rows : List Row) (k : ℕ) → has_row (id_of name) rows ≡ false → Ready (rows ++ found (id_of name) v ∷ []) k (at rows (Some (id_of name, v ∷ [])) idle k)
unfolding rule_by
ready_option Cert v rows k absent = new_pending (codes "cert") (rule_by (codes "cert")) v rows k refl refl refl refl (λ h. rw h refl) absent
ready_option Workers v rows k absent = new_pending (codes "workers") (rule_by (codes "workers")) v rows k refl refl refl refl (λ h. rw h refl) absent
ready_option Groups v rows k absent = new_pending (codes "groups") (rule_by (codes "groups")) v rows k refl refl refl refl (λ h. rw h refl) absent
ready_option Mode v rows k absent = new_pending (codes "mode") (rule_by (codes "mode")) v rows k refl refl refl refl (λ h. rw h refl) absent
ready_option Log v rows k absent = new_pending (codes "log") (rule_by (codes "log")) v rows k refl refl refl refl (λ h. rw h refl) absent

pub first_step : (word : Text) (rows : List Row) (w : Walk) → Ready rows 1 w → is_plain word ≡ true → has_row (codes "action") rows ≡ false
    → (turn_passes top [] w word ≡ true) × Ready (rows ++ found (codes "action") word ∷ []) 2 (walked rules [] w word)
first_step word rows w r plain absent = (
  rw (r.stands, plain_dashes word plain, plain_long word plain, plain_short word plain, r.passes) (or_true _),
  rw (r.stands, first_walked word r.before r.pending plain, r.settles) (ready_action word rows 2 absent),
)

pub second_step : (word : Text) (rows : List Row) (w : Walk) → Ready rows 2 w → is_plain word ≡ true → has_row (codes "model") rows ≡ false
    → (turn_passes top [] w word ≡ true) × Ready (rows ++ found (codes "model") word ∷ []) 3 (walked rules [] w word)
second_step word rows w r plain absent = (
  rw (r.stands, plain_dashes word plain, plain_long word plain, plain_short word plain, r.passes) (or_true _),
  rw (r.stands, second_walked word r.before r.pending plain, r.settles) (ready_model word rows 3 absent),
)

alone_passes : (name : OptionName) (rows : List Row) (pending : Option (Text × List Text)) (k : ℕ) → settle_passes rules false (record { rows = rows; pending = pending; skip = 0 }) ≡ true → turn_passes top [] (at rows pending idle k) (word_of name) ≡ true
alone_passes Cert rows pending k passes = rw passes refl
alone_passes Workers rows pending k passes = rw passes refl
alone_passes Groups rows pending k passes = rw passes refl
alone_passes Mode rows pending k passes = rw passes refl
alone_passes Log rows pending k passes = rw passes refl

pub alone_step : (name : OptionName) (word : Text) (rows : List Row) (k : ℕ) (w : Walk) → Ready rows k w → word ≡ word_of name
    → (turn_passes top [] w word ≡ true) × Waits name rows k (walked rules [] w word)
alone_step name word rows k w r is = (
  rw (r.stands, is) (alone_passes name r.before r.pending k r.passes),
  rw (r.stands, is, alone_walked name r.before r.pending k, r.settles) refl,
)

pub value_step : (name : OptionName) (word : Text) (rows : List Row) (k : ℕ) (w : Walk) → Waits name rows k w → is_plain word ≡ true → has_row (id_of name) rows ≡ false
    → (turn_passes top [] w word ≡ true) × Ready (rows ++ found (id_of name) word ∷ []) k (walked rules [] w word)
value_step name word rows k w r plain absent = (
  rw (r, plain_dashes word plain, plain_long word plain, plain_short word plain) refl,
  rw (r, value_walked name word rows k plain) (ready_option name word rows k absent),
)

attached_passes : (name : OptionName) (value : Text) (rows : List Row) (pending : Option (Text × List Text)) (k : ℕ) → settle_passes rules false (record { rows = rows; pending = pending; skip = 0 }) ≡ true → has_row (id_of name) (settled_rows rules pending rows) ≡ false
    → turn_passes top [] (at rows pending idle k) (start_of name ++ value) ≡ true
attached_passes Cert value rows pending k passes absent = rw (passes, absent) refl
attached_passes Workers value rows pending k passes absent = rw (passes, absent) refl
attached_passes Groups value rows pending k passes absent = rw (passes, absent) refl
attached_passes Mode value rows pending k passes absent = rw (passes, absent) refl
attached_passes Log value rows pending k passes absent = rw (passes, absent) refl

used_option : (name : OptionName) (v : Text) (rows : List Row) → has_row (id_of name) rows ≡ false → used (rule_for name) (v ∷ []) rows ≡ rows ++ found (id_of name) v ∷ []
used_option Cert v rows absent = used_absent (codes "cert") (rule_for Cert) v rows refl refl refl absent
used_option Workers v rows absent = used_absent (codes "workers") (rule_for Workers) v rows refl refl refl absent
used_option Groups v rows absent = used_absent (codes "groups") (rule_for Groups) v rows refl refl refl absent
used_option Mode v rows absent = used_absent (codes "mode") (rule_for Mode) v rows refl refl refl absent
used_option Log v rows absent = used_absent (codes "log") (rule_for Log) v rows refl refl refl absent

pub attached_step : (name : OptionName) (value word : Text) (rows : List Row) (k : ℕ) (w : Walk) → Ready rows k w → word ≡ start_of name ++ value → has_row (id_of name) rows ≡ false
    → (turn_passes top [] w word ≡ true) × Ready (rows ++ found (id_of name) value ∷ []) k (walked rules [] w word)
attached_step name value word rows k w r is absent = (
  rw (r.stands, is) (attached_passes name value r.before r.pending k r.passes (rw (← r.settles) at absent)),
  rw (r.stands, is, attached_walked name value r.before r.pending k, r.settles, used_option name value rows absent) (record {
    before = rows ++ found (id_of name) value ∷ [];
    pending = None;
    stands = refl;
    settles = refl;
    passes = refl;
  }),
)

-- ---- what the rows hold

or_false : (b : Bool) → (b || false) ≡ b
or_false true = refl
or_false false = refl

has_push : (id : Text) (r : Row) (rows : List Row) → has_row id (rows ++ r ∷ []) ≡ (has_row id rows || bytes_eq r.id id)
has_push id r [] = or_false (bytes_eq r.id id)
has_push id r (x ∷ rows) = go (bytes_eq x.id id) (has_push id r rows)
  where
    go : (b : Bool) → has_row id (rows ++ r ∷ []) ≡ (has_row id rows || bytes_eq r.id id) → (b || has_row id (rows ++ r ∷ [])) ≡ ((b || has_row id rows) || bytes_eq r.id id)
    go true e = refl
    go false e = e

first_push : (id : Text) (v id' : Text) (rows : List Row) → first_of id (rows ++ found id' v ∷ []) ≡ (if has_row id rows then first_of id rows else if bytes_eq id' id then Some v else None)
first_push id v id' [] = go (bytes_eq id' id) refl
  where
    go : (b : Bool) → bytes_eq id' id ≡ b → first_of id (found id' v ∷ []) ≡ (if bytes_eq id' id then Some v else None)
    go true e = rw e refl
    go false e = rw e refl
first_push id v id' (x ∷ rows) = go (bytes_eq x.id id) refl (first_push id v id' rows)
  where
    go : (b : Bool) → bytes_eq x.id id ≡ b → first_of id (rows ++ found id' v ∷ []) ≡ (if has_row id rows then first_of id rows else if bytes_eq id' id then Some v else None)
        → first_of id (x ∷ rows ++ found id' v ∷ []) ≡ (if has_row id (x ∷ rows) then first_of id (x ∷ rows) else if bytes_eq id' id then Some v else None)
    go true e h = rw e refl
    go false e h = rw e h

-- each row has a value
abbrev pub AreWhole : List Row → Type 0
AreWhole rows = (id : Text) → has_row id rows ≡ is_some (first_of id rows)

-- the first value by a new row, and by another
pub first_new : (id v : Text) (rows : List Row) → AreWhole rows → first_of id rows ≡ None → first_of id (rows ++ found id v ∷ []) ≡ Some v
first_new id v rows whole absent = first_push id v id rows ∙ rw (whole id ∙ ap is_some absent, (bytes_eq-Decides id id).1 refl) refl

pub first_other : (id v id' : Text) (rows : List Row) → AreWhole rows → bytes_eq id' id ≡ false → first_of id (rows ++ found id' v ∷ []) ≡ first_of id rows
first_other id v id' rows whole other = first_push id v id' rows ∙ go (first_of id rows) refl
  where
    go : (o : Option Text) → first_of id rows ≡ o → (if has_row id rows then first_of id rows else if bytes_eq id' id then Some v else None) ≡ first_of id rows
    go None e = rw (whole id ∙ ap is_some e, other, e) refl
    go (Some x) e = rw (whole id ∙ ap is_some e) refl

pub whole_push : (id' v : Text) (rows : List Row) → AreWhole rows → AreWhole (rows ++ found id' v ∷ [])
whole_push id' v rows whole id = has_push id (found id' v) rows ∙ go (first_of id rows) (bytes_eq id' id) refl refl
  where
    go : (o : Option Text) (b : Bool) → first_of id rows ≡ o → bytes_eq id' id ≡ b → (has_row id rows || bytes_eq id' id) ≡ is_some (first_of id (rows ++ found id' v ∷ []))
    go None true e same = rw (first_push id v id' rows, whole id ∙ ap is_some e, same) refl
    go None false e same = rw (first_push id v id' rows, whole id ∙ ap is_some e, same) refl
    go (Some x) b e same = rw (first_push id v id' rows, whole id ∙ ap is_some e, e) refl
