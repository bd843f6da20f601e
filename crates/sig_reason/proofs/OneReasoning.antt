-- One answer. Lines that are the same say the same findings, one after another, so two readings go together up to the end of the shorter, and
-- a line that says a finding isn't bad. Two labels of a fault exclude each other, since some set is consistent.
use Rattle.std.proofs.Common.{◌≡◌, ℕ, zero, suc, ◌+◌, ◌<◌, ◌≤◌, List, [], ◌∷◌, ◌++◌, length, get_or, take, refl, sym, ap, ◌∙◌, subst, arith, ◌⊎◌, inl, inr, length-append, append-nil}
use Rattle.std.specs.Prelude.{◌≢◌, Bool, true, false, Result, Ok, Err}
use Rattle.std.proofs.lemmas.Bool.{both_ways, cases_order}
use Rattle.std.proofs.lemmas.List.{get_or_append_left, take_all, ext_get_or}
use Rattle.std.proofs.Math.Seq.{get_or-append_seam, take-suc}
use Rattle.sig_lines.specs.Pieces.{lines_in, tail_in}
use Rattle.sig_matrix.specs.declared.matrix.Matrix.{Matrix}
use Rattle.sig_reason.specs.declared.found.Finding.{Finding}
use Rattle.sig_reason.specs.declared.found.Label.{Label}
use Rattle.sig_reason.specs.declared.found.Label.TheVariants.{Good, Bad, Suspect, Unknown}
use Rattle.sig_reason.specs.declared.log_line.LogCode.{LogCode}
use Rattle.sig_reason.specs.declared.log_line.LogCode.TheVariants.{L01}
use Rattle.sig_reason.specs.declared.log.BadLogLine.{BadLogLine}
use Rattle.sig_reason.specs.FaultSets.{Case, IsCalled, IsPossible}
use Rattle.sig_reason.specs.Labelling.{AreCalled, IsConflict}
use Rattle.sig_reason.specs.Log.{finding_in, no_finding, AreSaid, BreaksAfter, IsLog, IsFirstBadLine}
use Rattle.sig_reason.specs.Laws.{HasOneReasoning}

found-one : (x y : Finding) → ◌≡◌ {A = Result Finding LogCode} (Ok x) (Ok y) → x ≡ y
found-one x y e = cc

not-both : (x : Finding) (code : LogCode) → ◌≡◌ {A = Result Finding LogCode} (Ok x) (Err code) → ⊥
not-both x code e = cc

code-one : (code other : LogCode) → ◌≡◌ {A = Result Finding LogCode} (Err code) (Err other) → code ≡ other
code-one code other e = cc

-- the same lines say the same findings
same-said : (matrix : Matrix) (a b : List (List ℕ)) (x y : List Finding) → AreSaid matrix a x → AreSaid matrix b y → (k : ℕ) → k ≤ length a → k ≤ length b → ((j : ℕ) → j < k → get_or a j [] ≡ get_or b j []) → take k x ≡ take k y
same-said matrix a b x y sa sb zero la lb same = refl
same-said matrix a b x y sa sb (suc k) la lb same =
    let before = same-said matrix a b x y sa sb k (omega arith) (omega arith) (λ j lt. same j (omega arith)) in
    let long = sa.long in
    let long_too = sb.long in
    let here : get_or x k no_finding ≡ get_or y k no_finding = found-one (get_or x k no_finding) (get_or y k no_finding)
    (sym (sa.each k (omega arith)) ∙ ap (λ f. finding_in matrix f (get_or a k [])) before ∙ ap (finding_in matrix (take k y)) (same k (omega arith)) ∙ sb.each k (omega arith)) in
    take-suc x k no_finding (omega arith) ∙ ap (λ l. l ++ get_or x k no_finding ∷ []) before ∙ ap (λ f. take k y ++ f ∷ []) here ∙ sym (take-suc y k no_finding (omega arith))

-- the lines in front of the others
front : (lines before rest : List (List ℕ)) → lines ≡ before ++ rest → (j : ℕ) → j < length before → get_or lines j [] ≡ get_or before j []
front lines before rest e j lt = ap (λ l. get_or l j []) e ∙ get_or_append_left before rest [] j lt

-- the first line behind them
behind : (lines before rest : List (List ℕ)) (line : List ℕ) (more : List (List ℕ)) → lines ≡ before ++ rest → rest ≡ line ∷ more → get_or lines (length before) [] ≡ line
behind lines before rest line more e f = ap (λ l. get_or l (length before) []) (e ∙ ap (λ r. before ++ r) f) ∙ get_or-append_seam before line more []

long-front : (lines before rest : List (List ℕ)) → lines ≡ before ++ rest → length lines ≡ length before + length rest
long-front lines before rest e = ap length e ∙ length-append before rest

one-log : (matrix : Matrix) (bytes : List ℕ) (found other : List Finding) → IsLog matrix bytes found → IsLog matrix bytes other → found ≡ other
one-log matrix bytes found other a b =
    let n = length (lines_in bytes) in
    let long = (a.said).long in
    let long_too = (b.said).long in
    let same = same-said matrix (lines_in bytes) (lines_in bytes) found other a.said b.said n (omega arith) (omega arith) (λ j lt. refl) in
    sym (take_all n found (omega arith)) ∙ same ∙ take_all n other (omega arith)

-- the lines before a bad line say what they say in any reading that goes on
found-front : (matrix : Matrix) (bytes : List ℕ) (bad : BadLogLine) (b : IsFirstBadLine matrix bytes bad) (lines : List (List ℕ)) (found : List Finding) → AreSaid matrix lines found → length b.before ≤ length lines → ((j : ℕ) → j < length b.before → get_or lines j [] ≡ get_or (lines_in bytes) j [])
    → take (length b.before) found ≡ b.found
found-front matrix bytes bad b lines found said short same =
    let long = (b.said).long in
    same-said matrix lines b.before found b.found said b.said (length b.before) short (omega arith) (λ j lt. same j lt ∙ front (lines_in bytes) b.before b.rest b.lines j lt)
    ∙ take_all (length b.before) b.found (omega arith)

-- a bad line isn't among lines that say findings
not-said : (matrix : Matrix) (bytes : List ℕ) (bad : BadLogLine) (b : IsFirstBadLine matrix bytes bad) (lines : List (List ℕ)) (found : List Finding) → AreSaid matrix lines found → length b.before < length lines → ((j : ℕ) → j < length lines → get_or lines j [] ≡ get_or (lines_in bytes) j []) → length lines ≤ length (lines_in bytes) → ⊥
not-said matrix bytes bad b lines found said lt same within = go b.breaks
  where
    go : BreaksAfter matrix b.found b.rest (tail_in bytes) bad.code → ⊥
    go (inl (line, more, rest, err)) =
        let fronts = found-front matrix bytes bad b lines found said (omega arith) (λ j jlt. same j (omega arith)) in
        let here = same (length b.before) lt ∙ behind (lines_in bytes) b.before b.rest line more b.lines rest in
        not-both (get_or found (length b.before) no_finding) bad.code (sym (said.each (length b.before) lt) ∙ ap (λ f. finding_in matrix f (get_or lines (length b.before) [])) fronts ∙ ap (finding_in matrix b.found) here ∙ err)
    go (inr (none, apart, is)) =
        let long = long-front (lines_in bytes) b.before b.rest b.lines in
        let nothing : length b.rest ≡ 0 = ap length none in
        let bad_end : ⊥ = omega arith in
        bad_end

log-or-bad : (matrix : Matrix) (bytes : List ℕ) (found : List Finding) (bad : BadLogLine) → IsLog matrix bytes found → IsFirstBadLine matrix bytes bad → ⊥
log-or-bad matrix bytes found bad a b = go b.breaks
  where
    go : BreaksAfter matrix b.found b.rest (tail_in bytes) bad.code → ⊥
    go (inr (none, apart, is)) = apart a.whole
    go (inl (line, more, rest, err)) =
        let long = long-front (lines_in bytes) b.before b.rest b.lines in
        let some : length b.rest ≡ suc (length more) = ap length rest in
        not-said matrix bytes bad b (lines_in bytes) found a.said (omega arith) (λ j lt. refl) (omega arith)

-- neither bad line comes before the other
not-before : (matrix : Matrix) (bytes : List ℕ) (bad other : BadLogLine) (a : IsFirstBadLine matrix bytes bad) (b : IsFirstBadLine matrix bytes other) → length a.before < length b.before → ⊥
not-before matrix bytes bad other a b lt =
    let long = long-front (lines_in bytes) b.before b.rest b.lines in
    not-said matrix bytes bad a b.before b.found b.said lt (λ j jlt. sym (front (lines_in bytes) b.before b.rest b.lines j jlt)) (omega arith)

-- at one place one code is broken
same-code : (matrix : Matrix) (found : List Finding) (rest : List (List ℕ)) (tail : List ℕ) (code other : LogCode) → BreaksAfter matrix found rest tail code → BreaksAfter matrix found rest tail other → code ≡ other
same-code matrix found rest tail code other (inl (line, more, is, err)) (inl (line', more', is', err')) =
    let same : line ≡ line' = let e : line ∷ more ≡ line' ∷ more' = sym is ∙ is' in cc in
    code-one code other (sym err ∙ ap (finding_in matrix found) same ∙ err')
same-code matrix found rest tail code other (inl (line, more, is, err)) (inr (none, apart, is')) = let e : line ∷ more ≡ [] = sym is ∙ none in cc
same-code matrix found rest tail code other (inr (none, apart, is)) (inl (line, more, is', err)) = let e : line ∷ more ≡ [] = sym is' ∙ none in cc
same-code matrix found rest tail code other (inr (none, apart, is)) (inr (none', apart', is')) = is ∙ sym is'

-- lists of one length in front of one list have the same behind them
same-rest : {X : Type 0} (a b r s : List X) → a ++ r ≡ b ++ s → length a ≡ length b → r ≡ s
same-rest [] [] r s e long = e
same-rest [] (y ∷ b) r s e long = absurd (let bad : ⊥ = omega arith in bad)
same-rest (x ∷ a) [] r s e long = absurd (let bad : ⊥ = omega arith in bad)
same-rest (x ∷ a) (y ∷ b) r s e long = same-rest a b r s (let t : a ++ r ≡ b ++ s = cc in t) (omega arith)

bad-is : (a b : BadLogLine) → a.line ≡ b.line → a.code ≡ b.code → a ≡ b
bad-is a b e f = ap (λ n. record { line = n; code = a.code }) e ∙ ap (λ c. record { line = b.line; code = c }) f

one-bad : (matrix : Matrix) (bytes : List ℕ) (bad other : BadLogLine) → IsFirstBadLine matrix bytes bad → IsFirstBadLine matrix bytes other → bad ≡ other
one-bad matrix bytes bad other a b = elim (cases_order (length a.before) (length b.before)) [
  | inl same ↦ together same
  | inr apart ↦ elim apart [
    | inl less ↦ absurd (not-before matrix bytes bad other a b less)
    | inr more ↦ absurd (not-before matrix bytes other bad b a more)
  ]
]
  where
    together : length a.before ≡ length b.before → bad ≡ other
    together same =
        let long = (b.said).long in
        let rest : a.rest ≡ b.rest = same-rest a.before b.before a.rest b.rest (sym a.lines ∙ b.lines) same in
        let found : b.found ≡ a.found =
        sym (take_all (length a.before) b.found (omega arith))
        ∙ found-front matrix bytes bad a b.before b.found b.said (omega arith) (λ j lt. sym (front (lines_in bytes) b.before b.rest b.lines j (omega arith))) in
        let over : BreaksAfter matrix a.found a.rest (tail_in bytes) other.code = subst (λ f. BreaksAfter matrix f a.rest (tail_in bytes) other.code) found (subst (λ r. BreaksAfter matrix b.found r (tail_in bytes) other.code) (sym rest) b.breaks) in
        bad-is bad other (a.number ∙ ap (λ n. n + 1) same ∙ sym b.number) (same-code matrix a.found a.rest (tail_in bytes) bad.code other.code a.breaks over)

-- two labels of a fault are one
called-one : (c : Case) (f : ℕ) → IsPossible c → (label other : Label) → IsCalled c f label → IsCalled c f other → label ≡ other
called-one c f (set, is) Good Good a b = refl
called-one c f (set, is) Good Bad a b = absurd (both_ways (set f) (a set is) (b set is))
called-one c f (set, is) Good Suspect a ((m, minimal, there), isnt) = absurd (both_ways (m f) (a m minimal.consistent) there)
called-one c f (set, is) Good Unknown a b = absurd (b.0 a)
called-one c f (set, is) Bad Good a b = absurd (both_ways (set f) (b set is) (a set is))
called-one c f (set, is) Bad Bad a b = refl
called-one c f (set, is) Bad Suspect a b = absurd (b.1 a)
called-one c f (set, is) Bad Unknown a b = absurd (b.1 a)
called-one c f (set, is) Suspect Good ((m, minimal, there), isnt) b = absurd (both_ways (m f) (b m minimal.consistent) there)
called-one c f (set, is) Suspect Bad a b = absurd (a.1 b)
called-one c f (set, is) Suspect Suspect a b = refl
called-one c f (set, is) Suspect Unknown a b = absurd (b.2 a.0)
called-one c f (set, is) Unknown Good a b = absurd (a.0 b)
called-one c f (set, is) Unknown Bad a b = absurd (a.1 b)
called-one c f (set, is) Unknown Suspect a b = absurd (a.2 b.0)
called-one c f (set, is) Unknown Unknown a b = refl

one-label : (c : Case) (labels other : List Label) → IsPossible c → AreCalled c labels → AreCalled c other → labels ≡ other
one-label c labels other possible a b = ext_get_or Unknown labels other (a.long ∙ sym b.long) (λ f lt. let long = a.long in called-one c f possible (get_or labels f Unknown) (get_or other f Unknown) (a.each f (omega arith)) (b.each f (omega arith)))

one-conflict : (c : Case) (test other : ℕ) → IsConflict c test → IsConflict c other → test ≡ other
one-conflict c test other a b =
    let under = (a.first).lowest other (b.first).here in
    let over = (b.first).lowest test (a.first).here in
    omega arith

pub one-reasoning : HasOneReasoning
one-reasoning = record {
  one_log = one-log;
  one_bad = one-bad;
  log_or_bad = log-or-bad;
  one_label = one-label;
  one_conflict = one-conflict;
  possible_or_conflict = λ c test possible conflict. conflict.impossible possible.0 possible.1;
}
