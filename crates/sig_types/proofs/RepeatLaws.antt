-- How the names of a list are taken one by one (`AreTaken`), and the names of several lists one after another.
use Rattle.std.proofs.Common.{◌≡◌, ℕ, suc, ◌+◌, ◌<◌, ◌≤◌, List, [], ◌∷◌, ◌++◌, length, map, get_or, take, drop, refl, sym, ap, ap₂, subst, ◌∙◌, add-one, drop-cons, append_assoc, append-nil}
use Rattle.std.proofs.lemmas.List.{drop_all, take_all, map-append}
use Rattle.std.proofs.Math.Seq.{take-suc}
use Rattle.sig_types.specs.declared.refusals.Place.{Place}
use Rattle.sig_types.specs.declared.refusals.Code.TheVariants.{M07}
use Rattle.sig_types.specs.declared.refusals.ModelFault.{ModelFault}
use Rattle.sig_types.specs.Breaches.{Named, named, names_of, each_from, breach_if, has, repeats, repeats_after}
use Rattle.sig_types.specs.Refused.{TellsFirst}
use Rattle.sig_types.proofs.VerdictLaws.{none-in_both, tells-left, tells-right}

-- the scope that a list of items is
abbrev pub scope : {T : Type 0} → (T → List ℕ) → (ℕ → Place) → ℕ → List T → List Named
scope name_of place k items = each_from k (λ j item. named (name_of item) (place j)) items

-- the first i of the items are taken, after the old names, and none of them repeats
pub record AreTaken {T : Type 0} (name_of : T → List ℕ) (place : ℕ → Place) (old now : List (List ℕ)) (items : List T) (i : ℕ) : Type 0 where
  pub keys : now ≡ old ++ map name_of (take i items)
  pub left : repeats_after old (scope name_of place 0 items) ≡ repeats_after now (scope name_of place i (drop i items))

module _ {T : Type 0} (name_of : T → List ℕ) (place : ℕ → Place) (old : List (List ℕ)) (items : List T) where
  pub taken-start : AreTaken name_of place old old items 0
  taken-start = record { keys = sym (append-nil old); left = refl }

  module _ (now : List (List ℕ)) (i : ℕ) (before : AreTaken name_of place old now items i) where
    splits : (d : T) → i < length items → repeats_after old (scope name_of place 0 items)
        ≡ breach_if (has now (name_of (get_or items i d))) M07 (place i) ++ repeats_after (now ++ name_of (get_or items i d) ∷ []) (scope name_of place (suc i) (drop (suc i) items))
    splits d h = before.left ∙ ap (λ l. repeats_after now (scope name_of place i l)) (drop-cons items i d h)

    pub taken-fault : (x : T) (fault : ModelFault) → i < length items → x ≡ get_or items i x
        → TellsFirst (breach_if (has now (name_of x)) M07 (place i)) fault → TellsFirst (repeats_after old (scope name_of place 0 items)) fault
    taken-fault x fault h e bad =
        let here : TellsFirst (breach_if (has now (name_of (get_or items i x))) M07 (place i)) fault = subst (λ y. TellsFirst (breach_if (has now (name_of y)) M07 (place i)) fault) e bad in
        subst (λ l. TellsFirst l fault) (sym (splits x h)) (tells-left (breach_if (has now (name_of (get_or items i x))) M07 (place i)) (repeats_after (now ++ name_of (get_or items i x) ∷ []) (scope name_of place (suc i) (drop (suc i) items))) fault here)

    pub taken-step : (x : T) (next : List (List ℕ)) → i < length items → x ≡ get_or items i x → next ≡ now ++ name_of x ∷ []
        → breach_if (has now (name_of x)) M07 (place i) ≡ [] → AreTaken name_of place old next items (i + 1)
    taken-step x next h e grown good =
        let none : breach_if (has now (name_of (get_or items i x))) M07 (place i) ≡ [] = subst (λ y. breach_if (has now (name_of y)) M07 (place i) ≡ []) e good in
        let more : next ≡ now ++ name_of (get_or items i x) ∷ [] = subst (λ y. next ≡ now ++ name_of y ∷ []) e grown in
        let longer : map name_of (take (suc i) items) ≡ map name_of (take i items) ++ name_of (get_or items i x) ∷ [] =
        ap (map name_of) (take-suc items i x h) ∙ map-append name_of (take i items) (get_or items i x ∷ []) in
        rw add-one (record {
          keys = more ∙ ap (λ l. l ++ name_of (get_or items i x) ∷ []) before.keys ∙ append_assoc old (map name_of (take i items)) (name_of (get_or items i x) ∷ []) ∙ ap (λ l. old ++ l) (sym longer);
          left = splits x h ∙ ap₂ (λ l m. l ++ repeats_after m (scope name_of place (suc i) (drop (suc i) items))) none (sym more);
        })

    pub taken-names : length items ≤ i → now ≡ old ++ map name_of items
    taken-names h = before.keys ∙ ap (λ l. old ++ map name_of l) (take_all i items h)

    pub taken-end : length items ≤ i → repeats_after old (scope name_of place 0 items) ≡ []
    taken-end h = before.left ∙ ap (λ l. repeats_after now (scope name_of place i l)) (drop_all i items h)

-- two scopes one after another
pub repeats-append : (old : List (List ℕ)) (a b : List Named) → repeats_after old (a ++ b) ≡ repeats_after old a ++ repeats_after (old ++ names_of a) b
repeats-append old [] b = ap (λ l. repeats_after l b) (sym (append-nil old))
repeats-append old (x ∷ a) b =
    ap (λ l. breach_if (has old x.name) M07 x.place ++ l) (repeats-append (old ++ x.name ∷ []) a b)
    ∙ sym (append_assoc (breach_if (has old x.name) M07 x.place) (repeats_after (old ++ x.name ∷ []) a) (repeats_after ((old ++ x.name ∷ []) ++ names_of a) b))
    ∙ ap (λ l. (breach_if (has old x.name) M07 x.place ++ repeats_after (old ++ x.name ∷ []) a) ++ repeats_after l b) (append_assoc old (x.name ∷ []) (names_of a))

-- the names of a scope are those of its items
pub names-scope : {T : Type 0} (name_of : T → List ℕ) (place : ℕ → Place) (k : ℕ) (items : List T) → names_of (scope name_of place k items) ≡ map name_of items
names-scope name_of place k [] = refl
names-scope name_of place k (x ∷ items) = ap (λ l. name_of x ∷ l) (names-scope name_of place (suc k) items)

-- the items of a scope are taken, and none of their names repeats
pub record IsTaken (done : List Named) (now : List (List ℕ)) : Type 0 where
  pub keys : now ≡ names_of done
  pub none : repeats done ≡ []

-- the fault tells the first name that repeats in the scope
pub record TellsRepeat (done : List Named) (fault : ModelFault) : Type 0 where
  pub told : TellsFirst (repeats done) fault

pub taken-none : (now : List (List ℕ)) → now ≡ [] → IsTaken [] now
taken-none now e = record { keys = e; none = refl }

module _ {T : Type 0} (name_of : T → List ℕ) (place : ℕ → Place) (items : List T) (done : List Named) (now : List (List ℕ)) (taken : IsTaken done now) where
  grows : repeats (done ++ scope name_of place 0 items) ≡ repeats done ++ repeats_after now (scope name_of place 0 items)
  grows = repeats-append [] done (scope name_of place 0 items) ∙ ap (λ l. repeats done ++ repeats_after l (scope name_of place 0 items)) (sym taken.keys)

  pub taken-more : (next : List (List ℕ)) → next ≡ now ++ map name_of items → repeats_after now (scope name_of place 0 items) ≡ [] → IsTaken (done ++ scope name_of place 0 items) next
  taken-more next e none = record {
    keys = e ∙ ap₂ (λ l m. l ++ m) taken.keys (sym (names-scope name_of place 0 items)) ∙ sym (map-append (λ (x : Named). x.name) done (scope name_of place 0 items));
    none = grows ∙ none-in_both (repeats done) (repeats_after now (scope name_of place 0 items)) taken.none none;
  }

  pub taken-tells : (fault : ModelFault) → TellsFirst (repeats_after now (scope name_of place 0 items)) fault → TellsRepeat (done ++ scope name_of place 0 items) fault
  taken-tells fault h = record { told = subst (λ l. TellsFirst l fault) (sym grows) (tells-right (repeats done) (repeats_after now (scope name_of place 0 items)) fault taken.none h) }

-- a repeat among the first scopes is the first of all
pub tells-earlier : (done part : List Named) (fault : ModelFault) → TellsRepeat done fault → TellsRepeat (done ++ part) fault
tells-earlier done part fault h = record {
  told = subst (λ l. TellsFirst l fault) (sym (repeats-append [] done part)) (tells-left (repeats done) (repeats_after (names_of done) part) fault h.told);
}
