-- A chain unfolds within all limits, and has few ambiguity groups. What holds of each length is computed.
use Rattle.std.proofs.Common.{◌≡◌, ◌∙◌, ℕ, ◌≤◌, true, List, length, Option, Some, None, refl, ap, sym, subst, arith}
use Rattle.std.specs.Prelude.{nat_le, ◌&&◌, is_none}
use Rattle.std.specs.List.{AllZip}
use Rattle.std.specs.Fmt.{digits}
use Rattle.std.proofs.lemmas.Bool.{agree_below_at, and_parts, leb-true}
use Rattle.std.proofs.lemmas.Slice.Zip.{AllZip-long}
use Rattle.seq_theory.specs.States.{firsts, problem_of_classes}
use Rattle.sig_types.specs.declared.refusals.Refusal.{Refusal}
use Rattle.sig_flat.specs.declared.flat.Flat.{Flat}
use Rattle.sig_flat.specs.Counts.{flat_refusal}
use Rattle.sig_flat.specs.Instances.{faults}
use Rattle.sig_flat.specs.Flats.{IsFlatOf}
use Rattle.sig_matrix.specs.declared.matrix.Matrix.{Matrix}
use Rattle.sig_matrix.specs.Detection.{IsMatrixOf, system_of, state_count}
use Rattle.sig_lines.specs.Pieces.{bytes_of}
use Rattle.seq_theory.specs.Problem.{Problem}
use Rattle.seq_inst.specs.declared.outcome.Outcome.{Outcome}
use Rattle.seq_inst.specs.declared.outcome.Verdict.{Verdict}
use Rattle.seq_inst.specs.declared.outcome.Verdict.TheVariants.{Optimal, Bounded as BoundedVerdict}
use Rattle.teams_words.specs.declared.plan.Plan.{Plan}
use Rattle.teams_words.specs.Plans.{value_of}
use Rattle.teams_run.specs.declared.status.Status.{Status}
use Rattle.teams_run.specs.declared.status.Status.TheVariants.{Done, Bounded}
use Rattle.teams_run.specs.Solved.{IsSolved}
use Rattle.teams_run.specs.Samples.{IsSummary, chain_model, summary_lines}
use Rattle.teams_run.specs.Runs.{IsDueOfChain}
use Rattle.teams_run.proofs.LabelLaws.{firsts-few}
use Rattle.teams_run.proofs.PrintableLaws.{few-before}

none_there : (o : Option Refusal) → is_none o ≡ true → o ≡ None
none_there None e = refl
none_there (Some r) e = cc

fits : (n : ℕ) → n ≤ 100 → (is_none (flat_refusal (chain_model n)) && nat_le (length (faults (chain_model n))) 100) ≡ true
unfolding digits
fits n few = agree_below_at (λ k. is_none (flat_refusal (chain_model k)) && nat_le (length (faults (chain_model k))) 100) (λ k. true) 101 n refl (omega arith)

pub chain_fits : (n : ℕ) → n ≤ 100 → flat_refusal (chain_model n) ≡ None
chain_fits n few = none_there _ ((and_parts (is_none (flat_refusal (chain_model n))) _ (fits n few)).0)

few_faults : (n : ℕ) → n ≤ 100 → length (faults (chain_model n)) ≤ 100
few_faults n few = leb-true _ 100 ((and_parts (is_none (flat_refusal (chain_model n))) _ (fits n few)).1)

-- there are at most as many groups as states, and these are the good state and the faults
pub few_groups : (n : ℕ) (flat : Flat) (matrix : Matrix) → n ≤ 100 → IsFlatOf (chain_model n) flat → IsMatrixOf flat None matrix → length (firsts (system_of matrix)) ≤ 512
few_groups n flat matrix few flat_is matrix_is =
    let groups = firsts-few matrix in
    let rows : length matrix.faults ≡ length flat.faults = AllZip-long _ flat.faults matrix.faults matrix_is.faults in
    let faults_are : length flat.faults ≡ length (faults (chain_model n)) = AllZip-long _ (faults (chain_model n)) flat.faults flat_is.faults in
    let one = few-before matrix in
    let at_most : length (faults (chain_model n)) ≤ 100 = few_faults n few in
    omega (arith, groups, rows, faults_are, one, at_most)

-- the summary of what a search came to is what is due for the chain
pub sums_up : (plan : Plan) (parts : ℕ) (status : Status) (flat : Flat) (matrix : Matrix) (problem : Problem) (outcome : Outcome) (text : List ℕ) → parts ≡ value_of plan.model → problem ≡ problem_of_classes (system_of matrix)
    → IsFlatOf (chain_model parts) flat → IsMatrixOf flat None matrix → IsSolved (system_of matrix) problem plan.groups outcome → text ≡ bytes_of (summary_lines parts matrix problem outcome)
    → (outcome.verdict ≡ Optimal → status ≡ Done) → (outcome.verdict ≡ BoundedVerdict → status ≡ Bounded) → IsDueOfChain plan status text
sums_up plan parts status flat matrix problem outcome text is one flat_is matrix_is solved text_is optimal bounded = go outcome.verdict refl
  where
    summed : (verdict : Verdict) → outcome.verdict ≡ verdict → IsSummary (value_of plan.model) plan.groups verdict text
    summed verdict e = subst (λ n. IsSummary n plan.groups verdict text) is
        (record {
          flat = flat;
          matrix = matrix;
          flat_is = flat_is;
          matrix_is = matrix_is;
          outcome = outcome;
          solved = subst (λ p. IsSolved (system_of matrix) p plan.groups outcome) one solved;
          verdict_is = e;
          text_is = text_is ∙ ap (λ p. bytes_of (summary_lines parts matrix p outcome)) one;
        })

    go : (verdict : Verdict) → outcome.verdict ≡ verdict → IsDueOfChain plan status text
    go Optimal e = subst (λ s. IsDueOfChain plan s text) (sym (optimal e)) (summed Optimal e)
    go BoundedVerdict e = subst (λ s. IsDueOfChain plan s text) (sym (bounded e)) (summed BoundedVerdict e)
