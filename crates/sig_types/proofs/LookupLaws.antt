-- What sets and maps of names find, against the lists that they were made of.
use Rattle.std.proofs.Common.{◌≡◌, ℕ, zero, suc, ◌<◌, Bool, true, false, cond, ◌||◌, List, [], ◌∷◌, length, map, nat_lt, get_or, if◌then◌else◌, Some, None, refl, sym, ap, ◌∙◌, inl, inr, true≢false, arith}
use Rattle.std.specs.List.{list_any, position, position_or_len}
use Rattle.std.specs.Option.{is_some}
use Rattle.std.proofs.lemmas.List.Quantifiers.{position-Some}
use Rattle.std.specs.Str.{bytes_eq}
use Rattle.std.proofs.lemmas.Bool.{cases_Bool}
use Rattle.std.proofs.lemmas.List.Folds.{list_any-append}
use Rattle.std.proofs.lemmas.Slice.Eq.{bytes_eq-Decides}
use Rattle.std.proofs.lemmas.Bool.Decides.{same_from_decides, Decides-like}
use Rattle.indexmap.specs.IndexSet.{insert_key, insert_all}
use Rattle.sig_types.specs.declared.model.Block.{Block}
use Rattle.sig_types.specs.declared.model.Used.{Used}
use Rattle.sig_types.specs.Breaches.{block_of_use, has, has_port}
use Rattle.sig_types.specs.Lookups.{used_block}

-- it does not matter which of two names stands first
pub bytes_eq-swap : (a b : List ℕ) → bytes_eq a b ≡ bytes_eq b a
bytes_eq-swap a b = same_from_decides (bytes_eq a b) (bytes_eq b a) (bytes_eq-Decides a b) (Decides-like (bytes_eq b a) sym sym (bytes_eq-Decides b a))

found-equal : (a b : List ℕ) (names : List (List ℕ)) → bytes_eq a b ≡ true → has names a ≡ has names b
found-equal a b names e = ap (has names) ((bytes_eq-Decides a b).0 e)

or-true : (a b : Bool) → (b ≡ true → a ≡ true) → a ≡ (a || b)
or-true true b h = refl
or-true false true h = h refl
or-true false false h = refl

or-false : (a : Bool) → (a || false) ≡ a
or-false true = refl
or-false false = refl

or-assoc : (a b c : Bool) → ((a || b) || c) ≡ (a || (b || c))
or-assoc true b c = refl
or-assoc false b c = refl

has-insert_key : (seen : List (List ℕ)) (name q : List ℕ) → has (insert_key bytes_eq seen name) q ≡ (has seen q || bytes_eq q name)
has-insert_key seen name q = elim (cases_Bool (has seen name)) [
  | inl there ↦ rw there (or-true (has seen q) (bytes_eq q name) (λ e. found-equal q name seen e ∙ there))
  | inr new ↦ rw new (list_any-append (bytes_eq q) seen (name ∷ []) ∙ ap (λ b. has seen q || b) (or-false (bytes_eq q name)))
]

-- a set has the names that it had, and those that were put in
pub has-insert_all : (seen names : List (List ℕ)) (q : List ℕ) → has (insert_all bytes_eq seen names) q ≡ (has seen q || has names q)
has-insert_all seen [] q = sym (or-false (has seen q))
has-insert_all seen (name ∷ names) q =
    has-insert_all (insert_key bytes_eq seen name) names q
    ∙ ap (λ b. b || has names q) (has-insert_key seen name q)
    ∙ or-assoc (has seen q) (bytes_eq q name) (has names q)

-- the names of a block's ports, as a set
abbrev pub port_set : Block → List (List ℕ)
port_set block = insert_all bytes_eq [] block.ports

abbrev pub name_of : Block → List ℕ
name_of block = block.name

-- the first block of the name has the port, or no block has the name
pub port-found : (blocks : List Block) (name port : List ℕ) (i : ℕ) → bytes_eq name (get_or (map name_of blocks) i []) ≡ true → i < length (map name_of blocks)
    → ((k : ℕ) → k < i → bytes_eq name (get_or (map name_of blocks) k []) ≡ false) → has_port blocks name port ≡ has (get_or (map port_set blocks) i []) port
port-found [] name port i e h before = absurd (omega arith)
port-found (block ∷ blocks) name port zero e h before = rw (bytes_eq-swap block.name name, e) (sym (has-insert_all [] block.ports port))
port-found (block ∷ blocks) name port (suc i) e h before =
    rw (bytes_eq-swap block.name name, before 0 (omega arith)) (port-found blocks name port i e (omega arith) (λ k less. before (suc k) (omega arith)))

pub port-missing : (blocks : List Block) (name port : List ℕ) → has (map name_of blocks) name ≡ false → has_port blocks name port ≡ false
port-missing [] name port h = refl
port-missing (block ∷ blocks) name port h = elim (cases_Bool (bytes_eq name block.name)) [
  | inl y ↦ absurd (true≢false (sym (ap (λ b. b || has (map name_of blocks) name) y) ∙ h))
  | inr n ↦ rw (bytes_eq-swap block.name name, n) (port-missing blocks name port (sym (ap (λ b. b || has (map name_of blocks) name) n) ∙ h))
]

-- the set that a look-up of the block by number picks answers for its ports
pub port-by-number : (blocks : List Block) (names : List (List ℕ)) (sets : List (List (List ℕ))) (name port : List ℕ) (i : ℕ) (set : List (List ℕ)) → names ≡ map name_of blocks → sets ≡ map port_set blocks
    → position (bytes_eq name) names ≡ Some i → set ≡ get_or sets i [] → has_port blocks name port ≡ has set port
port-by-number blocks names sets name port i set named made at picked =
    let found = position-Some (bytes_eq name) (map name_of blocks) i [] (ap (position (bytes_eq name)) (sym named) ∙ at) in
    port-found blocks name port i found.1 found.0 found.2 ∙ ap (λ l. has (get_or l i []) port) (sym made) ∙ ap (λ l. has l port) (sym picked)

-- the place of the first name, as a number
pub position-index : {X : Type 0} (p : X → Bool) (xs : List X) (i : ℕ) → position p xs ≡ Some i → position_or_len p xs ≡ i
position-index p xs i at = elim (cases_Bool (nat_lt (position_or_len p xs) (length xs))) [
  | inl y ↦ let e : Some (position_or_len p xs) ≡ Some i = sym (ap (λ b. cond b (Some (position_or_len p xs)) None) y) ∙ at in cc
  | inr n ↦ let e : None ≡ Some i = sym (ap (λ b. cond b (Some (position_or_len p xs)) None) n) ∙ at in cc
]

-- whether a use has the name
abbrev pub any_use : List Used → List ℕ → Bool
any_use uses name = list_any (λ (u : Used). bytes_eq u.name name) uses

-- a use of the name, and the block that it uses
pub use-some : (uses : List Used) (name : List ℕ) → any_use uses name ≡ is_some (used_block uses name)
use-some [] name = refl
use-some (u ∷ uses) name = elim (cases_Bool (bytes_eq name u.name)) [
  | inl y ↦ rw (bytes_eq-swap u.name name, y) refl
  | inr n ↦ rw (bytes_eq-swap u.name name, n) (use-some uses name)
]

pub use-found : (uses : List Used) (name block : List ℕ) → used_block uses name ≡ Some block → (any_use uses name ≡ true) × (block_of_use uses name ≡ block)
use-found uses name block h = (use-some uses name ∙ ap is_some h, named uses h)
  where
    named : (uses : List Used) → used_block uses name ≡ Some block → block_of_use uses name ≡ block
    named [] h = cc
    named (u ∷ uses) h = elim (cases_Bool (bytes_eq name u.name)) [
      | inl y ↦ rw (bytes_eq-swap u.name name, y) (let e : Some u.block ≡ Some block = sym (ap (λ b. if b then Some u.block else used_block uses name) y) ∙ h in cc)
      | inr n ↦ rw (bytes_eq-swap u.name name, n) (named uses (sym (ap (λ b. if b then Some u.block else used_block uses name) n) ∙ h))
    ]

pub use-missing : (uses : List Used) (name : List ℕ) → used_block uses name ≡ None → any_use uses name ≡ false
use-missing uses name h = use-some uses name ∙ ap is_some h
