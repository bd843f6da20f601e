-- Texts that can be shown: what is put together of names and of bytes that can be shown can be shown, and is a label where
-- there is a name in it.
use Rattle.std.proofs.Common.{◌≡◌, ℕ, ◌≤◌, List, [], ◌∷◌, ◌++◌, length, refl, ◌∙◌, arith, length-append}
use Rattle.std.specs.Prelude.{Bool, true, false, cond, not, nat_eq}
use Rattle.std.specs.List.{list_all}
use Rattle.std.proofs.lemmas.Bool.{and_parts, and_from, not-true, not_from_false, eqb-false, ne_eqb}
use Rattle.std.proofs.lemmas.List.Folds.{list_all-append}
use Rattle.sig_types.specs.LabelText.{is_label, is_label_byte}
use Rattle.sig_flat.specs.Placed.{IsShown, inner_prefix}

pub shown-join : (a b : List ℕ) → IsShown a → IsShown b → IsShown (a ++ b)
shown-join a b ha hb = list_all-append is_label_byte a b ∙ and_from (list_all is_label_byte a) (list_all is_label_byte b) ha hb

pub label-shown : (text : List ℕ) → is_label text ≡ true → IsShown text
label-shown text h = (and_parts (not (nat_eq (length text) 0)) (list_all is_label_byte text) h).1

label-long : (text : List ℕ) → is_label text ≡ true → 1 ≤ length text
label-long text h = some (length text) (eqb-false (length text) 0 (not-true (nat_eq (length text) 0) (and_parts (not (nat_eq (length text) 0)) (list_all is_label_byte text) h).0))
  where
    some : (n : ℕ) → (n ≡ 0 → ⊥) → 1 ≤ n
    some n ne = omega arith

long-label : (text : List ℕ) → 1 ≤ length text → IsShown text → is_label text ≡ true
long-label text some h =
    and_from (not (nat_eq (length text) 0)) (list_all is_label_byte text)
    (not_from_false (nat_eq (length text) 0) (ne_eqb (length text) 0 (λ z. let bad : ⊥ = omega arith in bad))) h

-- a label after something that can be shown, and before it
pub label-after : (front text : List ℕ) → IsShown front → is_label text ≡ true → is_label (front ++ text) ≡ true
label-after front text h l =
    let long = length-append front text in
    let some = label-long text l in
    long-label (front ++ text) (omega arith) (shown-join front text h (label-shown text l))

pub label-before : (text back : List ℕ) → is_label text ≡ true → IsShown back → is_label (text ++ back) ≡ true
label-before text back l h =
    let long = length-append text back in
    let some = label-long text l in
    long-label (text ++ back) (omega arith) (shown-join text back (label-shown text l) h)

-- the letter of a fault
pub letter-shown : (general : Bool) → IsShown (46 ∷ cond general 103 102 ∷ [])
letter-shown true = refl
letter-shown false = refl

-- the prefix of a use's instance
pub prefix-shown : (outer name : List ℕ) → is_label name ≡ true → IsShown outer → IsShown (inner_prefix outer name)
prefix-shown outer name l h = shown-join (outer ++ name) (47 ∷ []) (shown-join outer name h (label-shown name l)) refl
