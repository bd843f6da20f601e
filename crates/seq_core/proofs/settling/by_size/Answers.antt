use Rattle.std.proofs.Common.{◌≡◌, ◌∙◌, ◌++◌, ◌∷◌, [], sym, ap, arith, rules, subst, slice_index, length, List, ℕ}
use Rattle.std.specs.Prelude.{IsPermutation}
use Rattle.std.proofs.lemmas.List.Sorted.{IsNonDecreasingBy-from_sort_by_key}
use Rattle.seq_theory.specs.Problem.{count_up}
use Rattle.seq_theory.proofs.CountedLaws.{count_up-push}
use Rattle.seq_core.proofs.settling.by_size.Goals as goal

pub loop-place-preserved : goal.loop-place-preserved
loop-place-preserved c = c.in_ok-push.ensures.items ∙ ap (λ (l : List ℕ). l ++ c.loop-place.place ∷ []) c.loop-place.invariant ∙ sym (count_up-push c.loop-place.place)

pub returns : goal.returns
returns c =
    let all : c.loop-place.place ≡ length c.args.sizes.now = omega arith in
    record {
      each_once = subst (λ l. IsPermutation l c.sort_unstable_by_key.new.self.items) (c.loop-place.invariant ∙ ap (count_up 0) all) c.sort_unstable_by_key.ensures.permutation;
      rising = IsNonDecreasingBy-from_sort_by_key (λ n. slice_index c.args.sizes.now n) _ c.sort_unstable_by_key.ensures.sorted (λ a r q k. search rules);
    }
