-- How a verdict on many breaches is put together: what comes first is refused first, and what has no breach is passed
-- over. A loop over a list keeps that the breaches of the whole are those of what is left (`AreChecked`).
use Rattle.std.proofs.Common.{◌≡◌, ℕ, suc, ◌+◌, ◌<◌, ◌≤◌, List, [], ◌∷◌, ◌++◌, length, get_or, drop, Result, Ok, Err, Some, sym, ap, ap₂, subst, ◌∙◌, add-one, drop-cons}
use Rattle.std.proofs.lemmas.List.{drop_all}
use Rattle.std.specs.Prelude.{slice_get}
use Rattle.std.specs.Result.{IsErrAnd}
use Rattle.sig_types.specs.declared.refusals.Refusal.{Refusal}
use Rattle.sig_types.specs.declared.refusals.ModelFault.{ModelFault}
use Rattle.sig_types.specs.declared.refusals.ModelFault.TheVariants.{Refused, OutOfMemory}
use Rattle.sig_types.specs.Breaches.{each, each_from}
use Rattle.sig_types.specs.Refused.{TellsFirst, IsVerdict}

first-left : (a b : List Refusal) (r : Refusal) → slice_get a 0 ≡ Some r → slice_get (a ++ b) 0 ≡ Some r
first-left [] b r h = cc
first-left (x ∷ a) b r h = h

-- a fault of the first part is one of the whole
pub tells-left : (a b : List Refusal) (fault : ModelFault) → TellsFirst a fault → TellsFirst (a ++ b) fault
tells-left a b (Refused r) h = first-left a b r h
tells-left a b OutOfMemory h = tt

-- where the first part has no breach, a fault of the second is one of the whole
pub tells-right : (a b : List Refusal) (fault : ModelFault) → a ≡ [] → TellsFirst b fault → TellsFirst (a ++ b) fault
tells-right a b fault none h = subst (λ l. TellsFirst (l ++ b) fault) (sym none) h

-- where the first part has no breach, the second decides
pub verdict-right : {X : Type 0} (a b : List Refusal) (r : Result X ModelFault) → a ≡ [] → IsVerdict {X = X} b r → IsVerdict {X = X} (a ++ b) r
verdict-right {X} a b r none h = subst (λ l. IsVerdict {X = X} (l ++ b) r) (sym none) h

-- two parts without a breach
pub none-in_both : (a b : List Refusal) → a ≡ [] → b ≡ [] → a ++ b ≡ []
none-in_both a b ea eb = ap₂ (λ l m. l ++ m) ea eb

-- a fault that is handed on is the same
pub handed-on : {X : Type 0} (breaches : List Refusal) (r : Result X ModelFault) (fault : ModelFault) → IsErrAnd r (λ e. e ≡ fault) → TellsFirst breaches fault → IsVerdict {X = X} breaches r
handed-on breaches (Ok u) fault e bad = absurd e
handed-on breaches (Err f) fault e bad = record { says = subst (TellsFirst breaches) (sym e) bad }

-- the first i of the list have no breach
pub record AreChecked {X : Type 0} (f : ℕ → X → List Refusal) (xs : List X) (i : ℕ) : Type 0 where
  pub left : each f xs ≡ each_from i f (drop i xs)

module _ {X : Type 0} (f : ℕ → X → List Refusal) (xs : List X) (i : ℕ) (before : AreChecked f xs i) where
  splits : (d : X) → i < length xs → each f xs ≡ f i (get_or xs i d) ++ each_from (suc i) f (drop (suc i) xs)
  splits d h = before.left ∙ ap (each_from i f) (drop-cons xs i d h)

  pub checked-fault : (x : X) (fault : ModelFault) → i < length xs → x ≡ get_or xs i x → TellsFirst (f i x) fault → TellsFirst (each f xs) fault
  checked-fault x fault h e bad =
      let here : TellsFirst (f i (get_or xs i x)) fault = subst (λ y. TellsFirst (f i y) fault) e bad in
      subst (λ l. TellsFirst l fault) (sym (splits x h)) (tells-left (f i (get_or xs i x)) (each_from (suc i) f (drop (suc i) xs)) fault here)

  pub checked-step : (x : X) → i < length xs → x ≡ get_or xs i x → f i x ≡ [] → AreChecked f xs (i + 1)
  checked-step x h e good =
      let none : f i (get_or xs i x) ≡ [] = subst (λ y. f i y ≡ []) e good in
      rw add-one (record { left = splits x h ∙ ap (λ l. l ++ each_from (suc i) f (drop (suc i) xs)) none })

  pub checked-end : length xs ≤ i → each f xs ≡ []
  checked-end h = before.left ∙ ap (each_from i f) (drop_all i xs h)
