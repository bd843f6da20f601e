use Rattle.std.proofs.Common.{◌≡◌, map, ap, ◌∙◌}
use Rattle.sig_types.specs.declared.model.Model.{Model}
use Rattle.sig_types.specs.Breaches.{block_names}
use Rattle.sig_flat.specs.Patterns.{pattern_of}
use Rattle.sig_flat.specs.Layouts.{numbers_of_block}
use Rattle.sig_flat.proofs.survey.survey_of.Goals as goal

pub counts_of_blocks-requires-clause-patterns : goal.counts_of_blocks-requires-clause-patterns
counts_of_blocks-requires-clause-patterns c =
    c.as_slice-made.ensures.value ∙ c.in_ok-patterns.ensures ∙ ap (map (pattern_of c.args.valid.now.signals c.args.valid.now.modes)) (c.as_slice-blocks.ensures ∙ ap (λ (m : Model). m.blocks) c.model-model.ensures.same)

pub counts_of_blocks-requires-clause-numbers : goal.counts_of_blocks-requires-clause-numbers
counts_of_blocks-requires-clause-numbers c =
    c.as_slice-found.ensures.value ∙ c.in_ok-numbers.ensures ∙ ap (map (numbers_of_block (block_names c.args.valid.now))) (c.as_slice-blocks.ensures ∙ ap (λ (m : Model). m.blocks) c.model-model.ensures.same)

pub returns : goal.returns
returns c =
    let blocks : c.as_slice-blocks.result.now ≡ c.args.valid.now.blocks = (c.as_slice-blocks.ensures ∙ ap (λ (m : Model). m.blocks) c.model-model.ensures.same) in
    record {
      patterns = c.in_ok-patterns.ensures ∙ ap (map (pattern_of c.args.valid.now.signals c.args.valid.now.modes)) blocks;
      numbers = c.in_ok-numbers.ensures ∙ ap (map (numbers_of_block (block_names c.args.valid.now))) blocks;
      counts_long = c.in_ok-counts.ensures.long;
      counts = c.in_ok-counts.ensures.counts;
      top = c.top_in-top.ensures;
    }
