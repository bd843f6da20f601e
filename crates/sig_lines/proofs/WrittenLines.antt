-- The bytes of lines that are written word by word, from the start of a line on. Once a line has begun, each further word
-- brings a space and itself; so the words of a line come to the words with one space between.
use Rattle.std.proofs.Common.{◌≡◌, true, false, List, [], ◌∷◌, ◌++◌, ℕ, refl, sym, ap, ◌∙◌, append_assoc, append-nil}
use Rattle.std.specs.List.{fold}
use Rattle.sig_lines.specs.Pieces.{Words, spaced, bytes_of}
use Rattle.sig_lines.specs.Written.{Written, nothing_written, with_word, with_end, with_line, with_lines}

-- a text whose last line has begun, and one at the start of a line
abbrev inside : List ℕ → Written
inside t = record { text = t; begun = true }

abbrev before : List ℕ → Written
before t = record { text = t; begun = false }

-- words, each after a space
abbrev each_after : Words → List ℕ
each_after [] = []
each_after (w ∷ ws) = 32 ∷ (w ++ each_after ws)

spaced-first : (w : List ℕ) (ws : Words) → spaced (w ∷ ws) ≡ w ++ each_after ws
spaced-first w [] = sym (append-nil w)
spaced-first w (v ∷ ws) = ap (λ l. w ++ 32 ∷ l) (spaced-first v ws)

words_inside : (t : List ℕ) (ws : Words) → fold with_word (inside t) ws ≡ inside (t ++ each_after ws)
unfolding with_word
words_inside t [] = ap inside (sym (append-nil t))
words_inside t (w ∷ ws) = words_inside (t ++ 32 ∷ w) ws ∙ ap inside (append_assoc t (32 ∷ w) (each_after ws))

line_is : (t : List ℕ) (ws : Words) → with_line (before t) ws ≡ before (t ++ (spaced ws ++ 10 ∷ []))
unfolding with_word with_end
line_is t [] = refl
line_is t (w ∷ ws) =
    ap with_end (words_inside (t ++ w) ws)
    ∙ ap before (append_assoc (t ++ w) (each_after ws) (10 ∷ []) ∙ append_assoc t w (each_after ws ++ 10 ∷ []) ∙ ap (λ l. t ++ l) (sym (append_assoc w (each_after ws) (10 ∷ [])) ∙ ap (λ l. l ++ 10 ∷ []) (sym (spaced-first w ws))))

lines_are : (t : List ℕ) (ls : List Words) → with_lines (before t) ls ≡ before (t ++ bytes_of ls)
lines_are t [] = ap before (sym (append-nil t))
lines_are t (l ∷ ls) =
    ap (λ w. with_lines w ls) (line_is t l) ∙ lines_are (t ++ (spaced l ++ 10 ∷ [])) ls
    ∙ ap before (append_assoc t (spaced l ++ 10 ∷ []) (bytes_of ls) ∙ ap (λ r. t ++ r) (append_assoc (spaced l) (10 ∷ []) (bytes_of ls)))

-- the bytes of a text of lines
pub text_of_lines : (w : Written) (ls : List Words) → w ≡ with_lines nothing_written ls → w.text ≡ bytes_of ls
text_of_lines w ls e = ap (λ (v : Written). v.text) (e ∙ lines_are [] ls)
