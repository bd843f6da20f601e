-- What is printed for a label and for the code of a bad line.
use Rattle.std.specs.Prelude.{ℕ, codes, List}
use Rattle.sig_reason.specs.declared.found.Label.{Label}
use Rattle.sig_reason.specs.declared.found.Label.TheVariants.{Good, Bad, Suspect, Unknown}
use Rattle.sig_reason.specs.declared.log_line.LogCode.{LogCode}
use Rattle.sig_reason.specs.declared.log_line.LogCode.TheVariants.{L01, L02, L03}

-- the word of a label
abbrev pub label_word : Label → List ℕ
label_word Good = codes "good"
label_word Bad = codes "bad"
label_word Suspect = codes "suspect"
label_word Unknown = codes "unknown"

-- the word of a code
abbrev pub code_word : LogCode → List ℕ
code_word L01 = codes "L01"
code_word L02 = codes "L02"
code_word L03 = codes "L03"
