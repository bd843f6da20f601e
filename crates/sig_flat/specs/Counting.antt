-- The counts of a block: what stands in it, and what its uses have. Numbers stand still at the end of a word.
use Rattle.std.specs.Prelude.{◌≡◌, ℕ, ◌+◌, max, List, map, length, slice_index_or}
use Rattle.sig_types.specs.declared.model.Block.{Block}
use Rattle.sig_flat.specs.declared.pattern.Pattern.{Pattern}
use Rattle.sig_flat.specs.declared.counts.Counts.{Counts}
use Rattle.sig_flat.specs.Counts.{Limited, limited_by}
use Rattle.sig_flat.specs.Sizes.{in_word, sum_over, greatest_over}

abbrev pub limits_of : Counts → List Limited
limits_of counts = limited_by counts.depth counts.uses counts.nodes counts.links counts.faults counts.tests

abbrev pub no_counts : Counts
no_counts = record { depth = 0; uses = 0; nodes = 0; links = 0; faults = 0; tests = 0 }

abbrev pub own_counts : Block → Pattern → Counts
own_counts block pattern = record { depth = 0; uses = 0; nodes = length pattern.nodes; links = length block.links; faults = length pattern.faults; tests = length pattern.tests }

-- with one use more
pub record IsWithUse (before used after : Counts) : Type 0 where
  pub depth : after.depth ≡ max before.depth (in_word (used.depth + 1))
  pub uses : after.uses ≡ in_word (before.uses + in_word (used.uses + 1))
  pub nodes : after.nodes ≡ in_word (before.nodes + used.nodes)
  pub links : after.links ≡ in_word (before.links + used.links)
  pub faults : after.faults ≡ in_word (before.faults + used.faults)
  pub tests : after.tests ≡ in_word (before.tests + used.tests)

abbrev pub counts_at : List Counts → ℕ → Counts
counts_at counts k = slice_index_or counts k no_counts

-- for each block how many nodes an instance of it has
abbrev pub sizes_in : List Counts → List ℕ
sizes_in counts = map (λ (c : Counts). c.nodes) counts

-- with all the uses, given by the numbers of their blocks
pub record AreSums (own : Counts) (numbers : List ℕ) (counts : List Counts) (total : Counts) : Type 0 where
  pub depth : total.depth ≡ in_word (max own.depth (greatest_over (λ used. 1 + (counts_at counts used).depth) numbers))
  pub uses : total.uses ≡ in_word (own.uses + sum_over (λ used. in_word ((counts_at counts used).uses + 1)) numbers)
  pub nodes : total.nodes ≡ in_word (own.nodes + sum_over (λ used. (counts_at counts used).nodes) numbers)
  pub links : total.links ≡ in_word (own.links + sum_over (λ used. (counts_at counts used).links) numbers)
  pub faults : total.faults ≡ in_word (own.faults + sum_over (λ used. (counts_at counts used).faults) numbers)
  pub tests : total.tests ≡ in_word (own.tests + sum_over (λ used. (counts_at counts used).tests) numbers)
