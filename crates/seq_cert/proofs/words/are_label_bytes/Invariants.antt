use Rattle.std.proofs.Common.{◌≡◌, drop}
use Rattle.std.specs.List.{list_all}
use Rattle.seq_cert.specs.LineForms.{is_in}
use Rattle.seq_cert.proofs.words.are_label_bytes.Given as goal

abbrev pub invariant-loop-at : goal.invariant-loop-at
invariant-loop-at l = list_all (is_in 33 126) (drop l.at l.label) ≡ list_all (is_in 33 126) l.label
