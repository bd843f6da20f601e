-- Which keys are known in a part. Without a functional fault these are all but `signals`.
use Rattle.std.proofs.Common.{◌≡◌, false, not, ◌&&◌, List, Option, Some, None, refl, sym, ap, ap₂, subst, ◌∙◌, inl, inr}
use Rattle.std.specs.Prelude.{is_some, is_none}
use Rattle.std.specs.Str.{bytes_eq}
use Rattle.std.proofs.lemmas.Bool.{cases_Bool}
use Rattle.std.proofs.lemmas.Slice.Eq.{bytes_eq-Decides}
use Rattle.toml.specs.Data.{Data, Members, no_members, member}
use Rattle.sig_types.specs.declared.refusals.Key.{Key}
use Rattle.sig_types.specs.declared.refusals.Key.TheVariants.{Functional, Signals}
use Rattle.sig_types.specs.Words.{key_word}
use Rattle.sig_text.specs.Keys.{are_known, faulty_part_keys, is_known, part_keys, value_at}
use Rattle.sig_text.proofs.Found.{and_assoc, and_false, and_true, found_here, found_later}

abbrev plain_keys : List Key
plain_keys = part_keys None

plain_known : (ms : Members) → are_known plain_keys ms ≡ (are_known faulty_part_keys ms && not (is_some (value_at Signals ms)))
plain_known no_members = refl
plain_known (member name d ms) =
    elim (cases_Bool (bytes_eq (key_word Signals) name)) [
      | inl same ↦
          let stray : is_known plain_keys name ≡ false = subst (λ t. is_known plain_keys t ≡ false) ((bytes_eq-Decides (key_word Signals) name).0 same) refl in
          ap (λ b. b && are_known plain_keys ms) stray
          ∙ sym (ap (λ o. are_known faulty_part_keys (member name d ms) && not (is_some o)) (found_here (key_word Signals) name d ms same) ∙ and_false (are_known faulty_part_keys (member name d ms)))
      | inr other ↦
          let alike : is_known faulty_part_keys name ≡ is_known plain_keys name = rw other refl in
          ap (λ b. is_known plain_keys name && b) (plain_known ms)
          ∙ and_assoc (is_known plain_keys name) (are_known faulty_part_keys ms) (not (is_some (value_at Signals ms)))
          ∙ ap₂ (λ b o. (b && are_known faulty_part_keys ms) && not (is_some o)) (sym alike) (sym (found_later (key_word Signals) name d ms other))
    ]

known_with : (ms : Members) (functional : Option Data) → are_known (part_keys functional) ms ≡ (are_known faulty_part_keys ms && not (is_none functional && is_some (value_at Signals ms)))
known_with ms None = plain_known ms
known_with ms (Some weight) = sym (and_true (are_known faulty_part_keys ms))

pub part_known : (ms : Members) → are_known (part_keys (value_at Functional ms)) ms ≡ (are_known faulty_part_keys ms && not (is_none (value_at Functional ms) && is_some (value_at Signals ms)))
part_known ms = known_with ms (value_at Functional ms)
