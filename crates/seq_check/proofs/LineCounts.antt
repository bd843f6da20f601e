-- How many lines a report has.
use Rattle.std.proofs.Common.{◌≡◌, ℕ, suc, ◌≤◌, List, [], ◌∷◌, ◌++◌, length, map, length-append, refl, ap, arith}
use Rattle.std.proofs.lemmas.List.{length-map}
use Rattle.std.specs.Prelude.{codes}
use Rattle.sig_lines.specs.declared.labels.TestLabel.{TestLabel}
use Rattle.seq_cert.specs.declared.report.Report.{Report}
use Rattle.seq_cert.specs.declared.report.ClassLine.{ClassLine}
use Rattle.sig_lines.specs.Pieces.{Words}
use Rattle.seq_cert.specs.Text.{head_lines, class_lines, test_lines, state_words, tree_words, group_words, missed_lines, report_lines}
use Rattle.seq_check.specs.Lines.{class_length, missed_at}

length-class_lines : (k : ℕ) (cs : List ClassLine) → length (class_lines k cs) ≡ class_length cs
length-class_lines k [] = refl
length-class_lines k (c ∷ cs) =
    let r = length-class_lines (suc k) cs in
    let a = length-append (map state_words c.states) (class_lines (suc k) cs) in
    let m = length-map c.states state_words in
    omega arith

length-test_lines : (k : ℕ) (ts : List TestLabel) → length (test_lines k ts) ≡ length ts
length-test_lines k [] = refl
length-test_lines k (t ∷ ts) = ap suc (length-test_lines (suc k) ts)

-- the line after the groups is a line of the report
pub missed-within : (r : Report) → missed_at r ≤ length (report_lines r)
missed-within r =
    let e : List Words = (codes "end" ∷ []) ∷ [] in
    let f = missed_lines r.missed ++ e in
    let g = map group_words r.groups ++ f in
    let t = map tree_words r.tree ++ g in
    let s = test_lines 0 r.test_lines ++ t in
    let c = class_lines 0 r.class_lines ++ s in
    let a1 = length-append (head_lines r) c in
    let a2 = length-append (class_lines 0 r.class_lines) s in
    let a3 = length-append (test_lines 0 r.test_lines) t in
    let a4 = length-append (map tree_words r.tree) g in
    let a5 = length-append (map group_words r.groups) f in
    let a6 = length-append (missed_lines r.missed) e in
    let b2 = length-class_lines 0 r.class_lines in
    let b3 = length-test_lines 0 r.test_lines in
    let b4 = length-map r.tree tree_words in
    let b5 = length-map r.groups group_words in
    omega arith
