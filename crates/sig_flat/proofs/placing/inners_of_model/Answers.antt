use Rattle.std.proofs.Common.{◌≡◌, ◌<◌, ℕ, List, [], length, ap, sym, ◌∙◌, subst, arith}
use Rattle.std.specs.Prelude.{slice_index_or}
use Rattle.std.specs.List.{Contains}
use Rattle.std.proofs.lemmas.List.{length-map}
use Rattle.sig_types.specs.declared.model.Block.{Block}
use Rattle.sig_types.specs.declared.model.Model.{Model}
use Rattle.sig_types.specs.Breaches.{block_names}
use Rattle.sig_flat.specs.declared.counts.Counts.{Counts}
use Rattle.sig_flat.specs.Counting.{sizes_in}
use Rattle.sig_flat.specs.declared.pattern.Pattern.{Pattern}
use Rattle.sig_flat.specs.Instances.{no_block}
use Rattle.sig_flat.specs.Resolved.{block_at}
use Rattle.sig_flat.specs.Places.{own_names}
use Rattle.sig_flat.specs.Patterns.{pattern_of}
use Rattle.sig_flat.specs.Layouts.{numbers_of_block, inners_from}
use Rattle.sig_flat.specs.Placed.{no_pattern}
use Rattle.sig_flat.proofs.PatternLaws.{nodes-counted}
use Rattle.sig_flat.proofs.KnownLaws.{at-map}
use Rattle.sig_flat.proofs.LinkLaws.{uses-long, numbers-known}
use Rattle.sig_flat.proofs.placing.inners_of_model.Goals as goal

pub inners_of_blocks-requires-clause-patterns : goal.inners_of_blocks-requires-clause-patterns
inners_of_blocks-requires-clause-patterns c = ap length (c.as_slice-patterns.ensures.value ∙ c.requires.survey.patterns) ∙ length-map c.args.valid.now.blocks (pattern_of c.args.valid.now.signals c.args.valid.now.modes) ∙ sym (ap length (c.as_slice-blocks.ensures ∙ ap (λ (m : Model). m.blocks) c.model-model.ensures.same))

pub inners_of_blocks-requires-clause-numbers : goal.inners_of_blocks-requires-clause-numbers
inners_of_blocks-requires-clause-numbers c = ap length (c.as_slice-numbers.ensures.value ∙ c.requires.survey.numbers) ∙ length-map c.args.valid.now.blocks (numbers_of_block (block_names c.args.valid.now)) ∙ sym (ap length (c.as_slice-blocks.ensures ∙ ap (λ (m : Model). m.blocks) c.model-model.ensures.same))

pub inners_of_blocks-requires-clause-uses : goal.inners_of_blocks-requires-clause-uses
inners_of_blocks-requires-clause-uses c = λ k lt.
    let lt' : k < length c.args.valid.now.blocks = let e = ap length (c.as_slice-blocks.ensures ∙ ap (λ (m : Model). m.blocks) c.model-model.ensures.same) in omega arith in
    ap (λ (l : List (List ℕ)). length (slice_index_or l k [])) (c.as_slice-numbers.ensures.value ∙ c.requires.survey.numbers)
    ∙ sym (uses-long c.args.valid.now c.requires.known k lt') ∙ sym (ap (λ (l : List Block). length (block_at l k).uses) (c.as_slice-blocks.ensures ∙ ap (λ (m : Model). m.blocks) c.model-model.ensures.same))

pub inners_of_blocks-requires-clause-known : goal.inners_of_blocks-requires-clause-known
inners_of_blocks-requires-clause-known c = λ k n i.
    let lt = numbers-known c.args.valid.now c.requires.known k n (subst (λ (l : List (List ℕ)). Contains (slice_index_or l k []) n) (c.as_slice-numbers.ensures.value ∙ c.requires.survey.numbers) i) in
    let e = ap length c.as_slice-counts.ensures.value in
    let long = c.requires.survey.counts_long in
    omega arith

pub returns : goal.returns
returns c = record {
  long = c.in_ok-inners.ensures.long ∙ ap length (c.as_slice-blocks.ensures ∙ ap (λ (m : Model). m.blocks) c.model-model.ensures.same);
  nested = λ k lt.
      let lt' : k < length c.as_slice-blocks.result.now = let e = ap length (c.as_slice-blocks.ensures ∙ ap (λ (m : Model). m.blocks) c.model-model.ensures.same) in omega arith in
      let pattern : slice_index_or c.as_slice-patterns.result.now k no_pattern ≡ pattern_of c.args.valid.now.signals c.args.valid.now.modes (block_at c.args.valid.now.blocks k) =
      ap (λ (l : List Pattern). slice_index_or l k no_pattern) (c.as_slice-patterns.ensures.value ∙ c.requires.survey.patterns) ∙ at-map (pattern_of c.args.valid.now.signals c.args.valid.now.modes) c.args.valid.now.blocks k no_block no_pattern lt in
      c.in_ok-inners.ensures.inners k lt'
      ∙ ap (λ (l : List Counts). inners_from (sizes_in l) (length (slice_index_or c.as_slice-patterns.result.now k no_pattern).nodes) (block_at c.as_slice-blocks.result.now k).uses (slice_index_or c.as_slice-numbers.result.now k [])) c.as_slice-counts.ensures.value
      ∙ ap (λ (n : ℕ). inners_from (sizes_in c.args.survey.now.counts.items) n (block_at c.as_slice-blocks.result.now k).uses (slice_index_or c.as_slice-numbers.result.now k [])) (ap (λ (p : Pattern). length p.nodes) pattern ∙ nodes-counted c.args.valid.now.signals c.args.valid.now.modes (block_at c.args.valid.now.blocks k))
      ∙ ap (λ (l : List Block). inners_from (sizes_in c.args.survey.now.counts.items) (length (own_names (block_at c.args.valid.now.blocks k))) (block_at l k).uses (slice_index_or c.as_slice-numbers.result.now k [])) (c.as_slice-blocks.ensures ∙ ap (λ (m : Model). m.blocks) c.model-model.ensures.same)
      ∙ ap (λ (l : List (List ℕ)). inners_from (sizes_in c.args.survey.now.counts.items) (length (own_names (block_at c.args.valid.now.blocks k))) (block_at c.args.valid.now.blocks k).uses (slice_index_or l k [])) (c.as_slice-numbers.ensures.value ∙ c.requires.survey.numbers);
}
