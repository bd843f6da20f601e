-- When a word is a number's, and when it is no text. The number that a word writes is told by its digits, so a word is
-- that of a number exactly where the numbers are one.
use Rattle.std.proofs.Common.{◌≡◌, ℕ, ◌^◌, ◌<◌, List, decimal, sym, ap, ◌∙◌, inl, inr}
use Rattle.std.specs.Prelude.{◌≢◌, false, nat_eq}
use Rattle.std.specs.Str.{IsUtf8}
use Rattle.std.proofs.lemmas.Bool.{cases_Bool, ne_eqb, true≢false, eq-eqb}
use Rattle.std.proofs.lemmas.Fmt.{decimal_injective}
use Rattle.std.proofs.lemmas.Str.{IsUtf8-from_ascii}
use Rattle.sig_types.specs.NameText.{is_name}
use Rattle.std.specs.Str.{bytes_eq}
use Rattle.seq_cert.proofs.AllBytes.{text_is, text_self, ascii_name}

-- the number that the word writes is n, or another
pub writes_number : (word : List ℕ) (m n : ℕ) → m < 2 ^ 64 → n < 2 ^ 64 → word ≡ decimal m → nat_eq m n ≡ bytes_eq word (decimal n)
writes_number word m n small_m small_n is = elim (cases_Bool (bytes_eq word (decimal n))) [
  | inl y ↦ (let e = decimal_injective m n small_m small_n (sym is ∙ text_is word (decimal n) y) in eq-eqb m n e ∙ sym y)
  | inr other ↦ ne_eqb m n (λ e. true≢false (sym (text_self (decimal n)) ∙ ap (λ w. bytes_eq w (decimal n)) (ap decimal (sym e) ∙ sym is) ∙ other)) ∙ sym other
]

-- the word writes no number
pub writes_none : (word : List ℕ) (n : ℕ) → word ≢ decimal n → false ≡ bytes_eq word (decimal n)
writes_none word n never = elim (cases_Bool (bytes_eq word (decimal n))) [
  | inl y ↦ absurd (never (text_is word (decimal n) y))
  | inr other ↦ sym other
]

-- bytes that are no text are no name
pub no_text : (word : List ℕ) → ¬ (IsUtf8 word) → false ≡ is_name word
no_text word broken = elim (cases_Bool (is_name word)) [
  | inl y ↦ absurd (broken (IsUtf8-from_ascii word (ascii_name word y)))
  | inr other ↦ sym other
]
