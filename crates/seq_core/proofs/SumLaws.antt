-- Sums over a group's tests: the sum of one test fits a word, and the least of greedy's cost and the sums of ups is the
-- same where sums stop at the greatest word, since greedy's cost is no greater than that.
use Rattle.std.proofs.Common.{◌≡◌, ℕ, ◌*◌, ◌<◌, ◌≤◌, min, List, [], ◌∷◌, ◌++◌, length, get_or, refl, sym, ap, ◌∙◌, arith, Option, Some, None}
use Rattle.std.specs.Prelude.{slice_get}
use Rattle.std.specs.List.{filter_map, cons_option}
use Rattle.seq_theory.specs.Problem.{Problem, IsWithin, weight_of, least_of}
use Rattle.seq_theory.specs.Rows.{no_value, most_low, least_up}
use Rattle.seq_theory.specs.Rows.{Row as TheoryRow}
use Rattle.seq_inst.specs.declared.group.Group.{Group}
use Rattle.seq_inst.specs.declared.instance.Instance.{Instance}
use Rattle.seq_inst.specs.declared.outcome.Row.{Row}
use Rattle.seq_inst.specs.Members.{members}
use Rattle.seq_inst.specs.Instances.{problem_of}
use Rattle.seq_theory.proofs.BelowLaws.{product-le}
use Rattle.seq_theory.proofs.LeastOfLaws.{lesser as theory_lesser}
use Rattle.seq_theory.proofs.ValLaws.{least_of-first}
use Rattle.seq_core.specs.RowsOf.{row_of, rows_of}
use Rattle.seq_core.specs.Allowed.{IsMostLow, IsLeastUp}
use Rattle.seq_core.specs.Sums.{lesser, capped_value}
use Rattle.seq_core.proofs.TableLaws.{no_row, get-row}

-- the cost of a test times the weight of a group
pub first-fits : (inst : Instance) (g : Group) (cost weight test : ℕ) → IsWithin (problem_of inst) (members g) → test < (problem_of inst).tests → cost ≡ (problem_of inst).cost test → weight ≡ weight_of (problem_of inst) (members g) → cost * weight ≤ 4097000000000000
first-fits inst g cost weight test within there ce we =
    let l = inst.stands.light g within in
    let c = (inst.valid.costs test there).1 in
    let m = product-le cost weight 1000000 4097000000 (omega arith) (omega arith) in
    omega arith

-- ---- what a place allows ----

pub some-row : (a b : TheoryRow) (o : Option TheoryRow) → o ≡ Some a → o ≡ Some b → a ≡ b
some-row a b o e f = cc

module _ (p : Problem) (rows : List Row) (place : ℕ) (there : place < length rows) where
  row-is : (r : TheoryRow) → slice_get (rows_of rows) place ≡ Some r → row_of (get_or rows place no_row) ≡ r
  row-is r at = some-row _ _ _ (get-row rows place there) at

  pub allowed-low : (n : ℕ) → n ≡ most_low p (rows_of rows) (members (get_or rows place no_row).group) → IsMostLow p rows place n
  allowed-low n e r at = e ∙ ap (λ (x : TheoryRow). most_low p (rows_of rows) x.group) (row-is r at)

  pub allowed-up : (n : ℕ) → n ≡ least_up p (rows_of rows) (members (get_or rows place no_row).group) → IsLeastUp p rows place n
  allowed-up n e r at = e ∙ ap (λ (x : TheoryRow). least_up p (rows_of rows) x.group) (row-is r at)

-- the lesser of two, as the theory writes it
pub lesser-number : (o : Option ℕ) (n : ℕ) → lesser o n ≡ theory_lesser o n
lesser-number None n = refl
lesser-number (Some m) n = refl

-- ---- sums of ups ----

least_of-end : (a v : ℕ) (ys : List ℕ) → least_of (a ∷ (ys ++ v ∷ [])) ≡ min (least_of (a ∷ ys)) v
least_of-end a v [] = refl
least_of-end a v (y ∷ ys) = let e = least_of-end y v ys in omega arith

filter_map-some : (f : ℕ → Option ℕ) (xs : List ℕ) (t v : ℕ) → f t ≡ Some v → filter_map f (xs ++ t ∷ []) ≡ filter_map f xs ++ v ∷ []
filter_map-some f [] t v e = ap (λ o. cons_option o []) e
filter_map-some f (x ∷ xs) t v e = ap (cons_option (f x)) (filter_map-some f xs t v e) ∙ go (f x)
  where
    go : (o : Option ℕ) → cons_option o (filter_map f xs ++ v ∷ []) ≡ cons_option o (filter_map f xs) ++ v ∷ []
    go None = refl
    go (Some y) = refl

filter_map-none : (f : ℕ → Option ℕ) (xs : List ℕ) (t : ℕ) → f t ≡ None → filter_map f (xs ++ t ∷ []) ≡ filter_map f xs
filter_map-none f [] t e = ap (λ o. cons_option o []) e
filter_map-none f (x ∷ xs) t e = ap (cons_option (f x)) (filter_map-none f xs t e)

-- one test more, whose sum stops at the greatest word
pub least_value-more : (f : ℕ → Option ℕ) (xs more : List ℕ) (t a least : ℕ) → a ≤ no_value → least ≡ least_of (a ∷ filter_map f xs) → more ≡ xs ++ t ∷ [] → lesser (capped_value (f t)) least ≡ least_of (a ∷ filter_map f more)
least_value-more f xs more t a least small i e = go (f t) refl
  where
    go : (o : Option ℕ) → f t ≡ o → lesser (capped_value o) least ≡ least_of (a ∷ filter_map f more)
    go None s = i ∙ sym (ap (λ l. least_of (a ∷ filter_map f l)) e ∙ ap (λ l. least_of (a ∷ l)) (filter_map-none f xs t s))
    go (Some n) s =
        let next : least_of (a ∷ filter_map f more) ≡ min (least_of (a ∷ filter_map f xs)) n = ap (λ l. least_of (a ∷ filter_map f l)) e ∙ ap (λ l. least_of (a ∷ l)) (filter_map-some f xs t n s) ∙ least_of-end a n (filter_map f xs) in
        let first = least_of-first a (filter_map f xs) in
        omega arith
