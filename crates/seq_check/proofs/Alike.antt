-- Groups that are told by their words: what a map by words has at a group is what the first claim of the group's classes
-- says.
use Rattle.std.proofs.Common.{◌≡◌, ℕ, List, [], ◌∷◌, ◌++◌, refl, sym, ap, ◌∙◌, inl, inr, Option, Some, None}
use Rattle.std.specs.Prelude.{true, false, cond, is_some}
use Rattle.std.proofs.lemmas.Bool.{cases_Bool, true≢false}
use Rattle.std.proofs.lemmas.List.{map-append}
use Rattle.std.proofs.lemmas.Slice.Eq.{bytes_eq-Decides}
use Rattle.std.specs.Map.{lookup}
use Rattle.std.specs.Ordering.{is_eq, nat_cmp}
use Rattle.std.specs.Cmp.Lexicographic.{slice_cmp, texts_ties}
use Rattle.std.specs.BTreeMap.{BTreeMap, get}
use Rattle.seq_theory.specs.Graph.{same_group}
use Rattle.seq_theory.specs.Claims.{Claim, claim_of}
use Rattle.seq_theory.proofs.RowLaws.{same_group-true, same_group-refl}
use Rattle.seq_inst.specs.Members.{members, IsWords, SameWordsHold}
use Rattle.seq_inst.specs.declared.group.Group.{Group}
use Rattle.seq_cert.specs.declared.report.GroupLine.{GroupLine}
use Rattle.seq_check.specs.GroupLooks.{claim_at, claims_of, is_listed}
use Rattle.seq_check.specs.Listed.{AreLows}

pub claim_of-append : (xs : List Claim) (c : Claim) (group : List ℕ) → claim_of (xs ++ c ∷ []) group ≡ cond (is_some (claim_of xs group)) (claim_of xs group) (cond (same_group group c.group) (Some c.low) None)
claim_of-append [] c group = refl
claim_of-append (x ∷ xs) c group = elim (cases_Bool (same_group group x.group)) [
  | inl y ↦ rw y refl
  | inr n ↦ rw n (claim_of-append xs c group)
]

pub listed_is : (lines : List GroupLine) (g : Group) → is_some (claim_of (claims_of lines) (members g)) ≡ is_listed lines g
listed_is [] g = refl
listed_is (x ∷ xs) g = elim (cases_Bool (same_group (members g) (members x.group))) [
  | inl y ↦ rw y refl
  | inr n ↦ rw n (listed_is xs g)
]

or_none : (x : Option ℕ) → cond (is_some x) x None ≡ x
or_none None = refl
or_none (Some n) = refl

-- a map of the lows of no lines
pub no_lows : (m : BTreeMap (List ℕ) ℕ) → m.entries ≡ [] → AreLows m []
no_lows m empty g w = ap (lookup (λ k. is_eq (slice_cmp nat_cmp g.0 k))) empty

claims-push : (lines : List GroupLine) (line : GroupLine) → claims_of (lines ++ line ∷ []) ≡ claims_of lines ++ claim_at line ∷ []
claims-push lines line = map-append claim_at lines (line ∷ [])

-- what is claimed with one more line
pub claim_of-later : (lines : List GroupLine) (line : GroupLine) (g : Group) → claim_of (claims_of (lines ++ line ∷ [])) (members g) ≡ cond (is_some (claim_of (claims_of lines) (members g))) (claim_of (claims_of lines) (members g)) (cond (same_group (members g) (members line.group)) (Some line.low) None)
claim_of-later lines line g = ap (λ cs. claim_of cs (members g)) (claims-push lines line) ∙ claim_of-append (claims_of lines) (claim_at line) (members g)

module _ (old : BTreeMap (List ℕ) ℕ) (lines : List GroupLine) (line : GroupLine) (law : SameWordsHold) (w : IsWords line.group) (are : AreLows old lines) where
  later : (g : Group) → claim_of (claims_of (lines ++ line ∷ [])) (members g) ≡ cond (is_some (claim_of (claims_of lines) (members g))) (claim_of (claims_of lines) (members g)) (cond (same_group (members g) (members line.group)) (Some line.low) None)
  later g = claim_of-later lines line g

  -- the line's group is new
  pub noted : (new : BTreeMap (List ℕ) ℕ) → false ≡ is_some (get (slice_cmp nat_cmp) old line.group.0) → ((q : List ℕ) → get (slice_cmp nat_cmp) new q ≡ cond (is_eq (slice_cmp nat_cmp line.group.0 q)) (Some line.low) (get (slice_cmp nat_cmp) old q)) → AreLows new (lines ++ line ∷ [])
  noted new absent updates g wg = elim (cases_Bool (same_group (members g) (members line.group))) [
    | inl y ↦
        (let words : g.0 ≡ line.group.0 = (law g line.group wg w).same (same_group-true (members g) (members line.group) y) in
        let same : is_eq (slice_cmp nat_cmp line.group.0 g.0) ≡ true = sym (texts_ties line.group.0 g.0) ∙ (bytes_eq-Decides line.group.0 g.0).1 (sym words) in
        let none : is_some (claim_of (claims_of lines) (members g)) ≡ false = ap is_some (sym (are g wg)) ∙ ap (λ q. is_some (get (slice_cmp nat_cmp) old q)) words ∙ sym absent in
        let a : get (slice_cmp nat_cmp) new g.0 ≡ Some line.low = updates g.0 ∙ rw same refl in
        let b : claim_of (claims_of (lines ++ line ∷ [])) (members g) ≡ Some line.low = later g ∙ rw (none, y) refl in
        a ∙ sym b)
    | inr n ↦
        (let other : is_eq (slice_cmp nat_cmp line.group.0 g.0) ≡ false = sym (texts_ties line.group.0 g.0) ∙ (law line.group g w wg).test ∙ swapped line.group g n in
        let a : get (slice_cmp nat_cmp) new g.0 ≡ claim_of (claims_of lines) (members g) = updates g.0 ∙ rw other (are g wg) in
        let b : claim_of (claims_of (lines ++ line ∷ [])) (members g) ≡ claim_of (claims_of lines) (members g) = later g ∙ rw n (or_none (claim_of (claims_of lines) (members g))) in
        a ∙ sym b)
  ]
    where
      swapped : (x g : Group) → same_group (members g) (members x) ≡ false → same_group (members x) (members g) ≡ false
      swapped x g n = elim (cases_Bool (same_group (members x) (members g))) [
        | inl y ↦ (let e = same_group-true (members x) (members g) y in absurd (true≢false (sym (same_group-refl (members x)) ∙ ap (λ l. same_group l (members x)) e ∙ n)))
        | inr m ↦ m
      ]

  -- the line's group was listed before
  pub kept : true ≡ is_some (get (slice_cmp nat_cmp) old line.group.0) → AreLows old (lines ++ line ∷ [])
  kept there g wg = elim (cases_Bool (same_group (members g) (members line.group))) [
    | inl y ↦
        (let words : g.0 ≡ line.group.0 = (law g line.group wg w).same (same_group-true (members g) (members line.group) y) in
        let some : is_some (claim_of (claims_of lines) (members g)) ≡ true = ap is_some (sym (are g wg)) ∙ ap (λ q. is_some (get (slice_cmp nat_cmp) old q)) words ∙ sym there in
        are g wg ∙ sym (later g ∙ rw some refl))
    | inr n ↦ are g wg ∙ sym (later g ∙ rw n (or_none (claim_of (claims_of lines) (members g))))
  ]
