-- A log is read line by line: the lines so far say what was found so far, and the next line says one finding more.
use Rattle.std.proofs.Common.{◌≡◌, ℕ, zero, suc, ◌+◌, ◌<◌, ◌≤◌, List, [], ◌∷◌, ◌++◌, length, get_or, take, refl, sym, ap, ◌∙◌, subst, arith, inl, inr, append_assoc, append-nil, zero-add}
use Rattle.std.specs.Prelude.{Bool, true, false, cond, find, Option, Some, None, Ok, All}
use Rattle.std.proofs.lemmas.Bool.{cases_lt}
use Rattle.std.proofs.lemmas.List.{get_or_append_left, take-append-le}
use Rattle.std.proofs.lemmas.List.Elements.{All-push}
use Rattle.std.proofs.Math.Seq.{get_or-append_seam, take-length}
use Rattle.seq_theory.specs.Problem.{count_up}
use Rattle.sig_lines.specs.Pieces.{lines_in, tail_in}
use Rattle.sig_matrix.specs.declared.matrix.Matrix.{Matrix}
use Rattle.sig_reason.specs.declared.found.Finding.{Finding}
use Rattle.sig_reason.specs.declared.log.BadLogLine.{BadLogLine}
use Rattle.sig_reason.specs.Log.{finding_in, no_finding, AreSaid, IsLog, IsFirstBadLine, BreaksAfter}
use Rattle.sig_reason.specs.LogSteps.{IsAtEnd, IsNext, IsBadHere}
use Rattle.sig_reason.proofs.Gathering.{length-next}

-- the first of some numbers that passes a test
find-first : (p : ℕ → Bool) (from n k : ℕ) → k < n → ((j : ℕ) → j < k → p (from + j) ≡ false) → p (from + k) ≡ true → find p (count_up from n) ≡ Some (from + k)
find-first p from zero k lt before here = absurd (let bad : ⊥ = omega arith in bad)
find-first p from (suc n) zero lt before here =
    let e : from + 0 ≡ from = omega arith in
    ap (λ b. cond b (Some from) (find p (count_up (suc from) n))) (ap p (sym e) ∙ here) ∙ ap (λ (x : ℕ). Some x) (sym e)
find-first p from (suc n) (suc k) lt before here =
    let e : from + 0 ≡ from = omega arith in
    let step : suc from + k ≡ from + suc k = omega arith in
    ap (λ b. cond b (Some from) (find p (count_up (suc from) n))) (ap p (sym e) ∙ before 0 (omega arith))
    ∙ find-first p (suc from) n k (omega arith) (λ j jlt. ap p (let s : suc from + j ≡ from + suc j = omega arith in s) ∙ before (suc j) (omega arith)) (ap p step ∙ here)
    ∙ ap (λ (x : ℕ). Some x) step

find-nothing : (p : ℕ → Bool) (from n : ℕ) → ((j : ℕ) → j < n → p (from + j) ≡ false) → find p (count_up from n) ≡ None
find-nothing p from zero before = refl
find-nothing p from (suc n) before =
    let e : from + 0 ≡ from = omega arith in
    ap (λ b. cond b (Some from) (find p (count_up (suc from) n))) (ap p (sym e) ∙ before 0 (omega arith))
    ∙ find-nothing p (suc from) n (λ j jlt. ap p (let s : suc from + j ≡ from + suc j = omega arith in s) ∙ before (suc j) (omega arith))

-- of the numbers from 0 on
pub first-found : (p : ℕ → Bool) (n k : ℕ) → k < n → ((j : ℕ) → j < k → p j ≡ false) → p k ≡ true → Some k ≡ find p (count_up 0 n)
first-found p n k lt before here = sym (find-first p 0 n k lt (λ j jlt. ap p (zero-add j) ∙ before j jlt) (ap p (zero-add k) ∙ here) ∙ ap (λ (x : ℕ). Some x) (zero-add k))

pub none-found : (p : ℕ → Bool) (n : ℕ) → ((j : ℕ) → j < n → p j ≡ false) → None ≡ find p (count_up 0 n)
none-found p n before = sym (find-nothing p 0 n (λ j jlt. ap p (zero-add j) ∙ before j jlt))

-- how far a log is read: the lines that are done say what was found, and the rest is left
pub record IsReadTo (matrix : Matrix) (bytes : List ℕ) (found : List Finding) (number : ℕ) (rest : List ℕ) : Type 0 where
  pub done : List (List ℕ)
  pub said : AreSaid matrix done found
  pub lines : lines_in bytes ≡ done ++ lines_in rest
  pub tail : tail_in rest ≡ tail_in bytes
  pub number_is : number ≡ length done + 1
  pub there : All (λ (x : Finding). x.test < length matrix.tests) found

pub read-none : (matrix : Matrix) (bytes : List ℕ) → IsReadTo matrix bytes [] 1 bytes
read-none matrix bytes = record {
  done = [];
  said = record { long = refl; each = λ k lt. absurd (let bad : ⊥ = omega arith in bad) };
  lines = refl;
  tail = refl;
  number_is = refl;
  there = λ k d lt. absurd (let bad : ⊥ = omega arith in bad);
}

said-next : (matrix : Matrix) (done : List (List ℕ)) (found : List Finding) (line : List ℕ) (x : Finding) → AreSaid matrix done found → finding_in matrix found line ≡ Ok x → AreSaid matrix (done ++ line ∷ []) (found ++ x ∷ [])
said-next matrix done found line x h here = record { long = length-next found x ∙ ap (λ n. n + 1) h.long ∙ sym (length-next done line); each = each }
  where
    each : (k : ℕ) → k < length (done ++ line ∷ []) → finding_in matrix (take k (found ++ x ∷ [])) (get_or (done ++ line ∷ []) k []) ≡ Ok (get_or (found ++ x ∷ []) k no_finding)
    each k lt = let grown = length-next done line in let long = h.long in elim (cases_lt k (length done)) [
      | inl under ↦
          (let within : k < length found = omega arith in
          let most : k ≤ length found = omega arith in
          ap (λ f. finding_in matrix f (get_or (done ++ line ∷ []) k [])) (take-append-le k found (x ∷ []) most)
          ∙ ap (finding_in matrix (take k found)) (get_or_append_left done (line ∷ []) [] k under)
          ∙ h.each k under
          ∙ ap (λ (f : Finding). Ok f) (sym (get_or_append_left found (x ∷ []) no_finding k within)))
      | inr past ↦
          (let same : length done ≡ k = omega arith in
          let end : length found ≡ k = omega arith in
          let most : k ≤ length found = omega arith in
          let whole : take k found ≡ found = ap (λ n. take n found) (sym end) ∙ take-length found in
          ap (λ f. finding_in matrix f (get_or (done ++ line ∷ []) k [])) (take-append-le k found (x ∷ []) most ∙ whole)
          ∙ ap (finding_in matrix found) (ap (λ n. get_or (done ++ line ∷ []) n []) (sym same) ∙ get_or-append_seam done line [] [])
          ∙ here
          ∙ ap (λ (f : Finding). Ok f) (sym (ap (λ n. get_or (found ++ x ∷ []) n no_finding) (sym end) ∙ get_or-append_seam found x [] no_finding)))
    ]

pub read-next : (matrix : Matrix) (bytes : List ℕ) (found : List Finding) (number : ℕ) (rest : List ℕ) (x : Finding) (more : List ℕ) (after : ℕ) → IsReadTo matrix bytes found number rest → IsNext matrix found (lines_in rest) x (lines_in more) → x.test < length matrix.tests
    → tail_in rest ≡ tail_in more → after ≡ number + 1 → IsReadTo matrix bytes (found ++ x ∷ []) after more
read-next matrix bytes found number rest x more after h next small tail e = record {
  done = h.done ++ next.line ∷ [];
  said = said-next matrix h.done found next.line x h.said next.said;
  lines = h.lines ∙ ap (λ l. h.done ++ l) next.first ∙ sym (append_assoc h.done (next.line ∷ []) (lines_in more));
  tail = sym tail ∙ h.tail;
  number_is = e ∙ ap (λ n. n + 1) (h.number_is ∙ sym (length-next h.done next.line));
  there = All-push (λ (x : Finding). x.test < length matrix.tests) found x h.there small;
}

pub read-all : (matrix : Matrix) (bytes : List ℕ) (found : List Finding) (number : ℕ) (rest : List ℕ) → IsReadTo matrix bytes found number rest → IsAtEnd (lines_in rest) (tail_in rest) → IsLog matrix bytes found
read-all matrix bytes found number rest h end = record {
  said = subst (λ l. AreSaid matrix l found) (sym (h.lines ∙ ap (λ l. h.done ++ l) end.lines_end ∙ append-nil h.done)) h.said;
  whole = sym h.tail ∙ end.tail_ends;
}

pub read-bad : (matrix : Matrix) (bytes : List ℕ) (found : List Finding) (number : ℕ) (rest : List ℕ) (bad : BadLogLine) → IsReadTo matrix bytes found number rest → IsBadHere matrix found number (lines_in rest) (tail_in rest) bad → IsFirstBadLine matrix bytes bad
read-bad matrix bytes found number rest bad h here = record {
  before = h.done;
  rest = lines_in rest;
  found = found;
  lines = h.lines;
  said = h.said;
  number = here.line ∙ h.number_is;
  breaks = subst (λ t. BreaksAfter matrix found (lines_in rest) t bad.code) h.tail here.breaks;
}
