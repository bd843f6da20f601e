-- What is found out about a model before it is unfolded.
use Rattle.std.specs.Prelude.{◌≡◌, ℕ, ◌-◌, ◌<◌, List, [], map, length, slice_index_or}
use Rattle.std.specs.List.{AllZip, Contains, flat_map}
use Rattle.sig_types.specs.declared.model.Model.{Model}
use Rattle.sig_types.specs.declared.model.Block.{Block}
use Rattle.sig_types.specs.Breaches.{block_names}
use Rattle.sig_flat.specs.declared.counts.Counts.{Counts}
use Rattle.sig_flat.specs.declared.pattern.Pattern.{Pattern}
use Rattle.sig_flat.specs.declared.links.LinkPattern.{LinkPattern}
use Rattle.sig_flat.specs.declared.walk.Placed.{Placed}
use Rattle.sig_flat.specs.Placed.{node_copies, link_copies, fault_copies, test_copies, no_pattern, LinksFit, FaultsFit, TestsFit}
use Rattle.sig_flat.specs.Flats.{IsNodeOf, IsLinkOf, IsFaultOf, IsTestOf}
use Rattle.sig_flat.specs.declared.survey.Survey.{Survey}
use Rattle.sig_flat.specs.Instances.{depth, uses, nodes, links, faults, tests}
use Rattle.sig_flat.specs.Sizes.{in_word, size, height}
use Rattle.sig_flat.specs.Counting.{no_counts}
use Rattle.sig_flat.specs.Places.{own_names}
use Rattle.sig_flat.specs.Words.{place_among}
use Rattle.sig_flat.specs.Patterns.{pattern_of, fault_patterns, test_patterns}
use Rattle.sig_flat.specs.declared.inner.Inner.{Inner}
use Rattle.sig_flat.specs.Resolved.{block_at}
use Rattle.sig_flat.specs.Known.{use_names}
use Rattle.sig_flat.specs.Layouts.{numbers_of_block, inners_from, link_pattern}

abbrev pub numbers_of : Model → List (List ℕ)
numbers_of model = map (numbers_of_block (block_names model)) model.blocks

abbrev pub patterns_of_model : Model → List Pattern
patterns_of_model model = map (pattern_of model.signals model.modes) model.blocks

abbrev pub top_of : Model → ℕ
top_of model = place_among (block_names model) model.top

-- for each block how many nodes it has of its own
abbrev pub own_of : Model → List ℕ
own_of model = map (λ (b : Block). length (own_names b)) model.blocks

-- for each block how many of something it has of its own
abbrev pub links_of_blocks : Model → List ℕ
links_of_blocks model = map (λ (b : Block). length b.links) model.blocks

abbrev pub faults_of_blocks : Model → List ℕ
faults_of_blocks model = map (λ (b : Block). length (fault_patterns model.signals b)) model.blocks

abbrev pub tests_of_blocks : Model → List ℕ
tests_of_blocks model = map (λ (b : Block). length (test_patterns model.signals model.modes b)) model.blocks

abbrev pub ones_of_blocks : Model → List ℕ
ones_of_blocks model = map (λ (b : Block). 1) model.blocks

-- how much an instance of this block has, each as far as a word goes; it is itself one of the instances
pub record AreCounts (model : Model) (k : ℕ) (counts : Counts) : Type 0 where
  pub depth : counts.depth ≡ in_word (height (numbers_of model) k)
  pub uses : counts.uses ≡ in_word (size (ones_of_blocks model) (numbers_of model) k - 1)
  pub nodes : counts.nodes ≡ in_word (size (own_of model) (numbers_of model) k)
  pub links : counts.links ≡ in_word (size (links_of_blocks model) (numbers_of model) k)
  pub faults : counts.faults ≡ in_word (size (faults_of_blocks model) (numbers_of model) k)
  pub tests : counts.tests ≡ in_word (size (tests_of_blocks model) (numbers_of model) k)

pub record IsSurvey (model : Model) (survey : Survey) : Type 0 where
  pub patterns : survey.patterns.items ≡ patterns_of_model model
  pub numbers : survey.numbers.items ≡ numbers_of model
  pub counts_long : length survey.counts.items ≡ length model.blocks
  pub counts : (k : ℕ) → k < length model.blocks → AreCounts model k (slice_index_or survey.counts.items k no_counts)
  pub top : survey.top ≡ top_of model

-- the counts of the definition, each as far as a word goes
pub record CountsAre (model : Model) (counts : Counts) : Type 0 where
  pub depth : counts.depth ≡ in_word (depth model)
  pub uses : counts.uses ≡ in_word (uses model)
  pub nodes : counts.nodes ≡ in_word (length (nodes model))
  pub links : counts.links ≡ in_word (length (links model))
  pub faults : counts.faults ≡ in_word (length (faults model))
  pub tests : counts.tests ≡ in_word (length (tests model))

-- what the copies are made from, and that their numbers fit
pub record IsPlacing (model : Model) (placed : List Placed) (joined : List (List LinkPattern)) : Type 0 where
  pub long : length joined ≡ length model.blocks
  pub there : (p : Placed) → Contains placed p → p.block < length model.blocks
  pub links_fit : (p : Placed) → Contains placed p → LinksFit p (slice_index_or joined p.block [])
  pub faults_fit : (p : Placed) → Contains placed p → FaultsFit p (slice_index_or (patterns_of_model model) p.block no_pattern).faults
  pub tests_fit : (p : Placed) → Contains placed p → TestsFit p (slice_index_or (patterns_of_model model) p.block no_pattern).tests
  pub nodes : AllZip (IsNodeOf model) (nodes model) (flat_map (node_copies (patterns_of_model model)) placed)
  pub links : AllZip (IsLinkOf model) (links model) (flat_map (link_copies joined) placed)
  pub faults : AllZip (IsFaultOf model) (faults model) (flat_map (fault_copies (patterns_of_model model)) placed)
  pub tests : AllZip (IsTestOf model) (tests model) (flat_map (test_copies (patterns_of_model model)) placed)

-- for each block the instances inside an instance of it
pub record AreInners (model : Model) (sizes : List ℕ) (inners : List (List Inner)) : Type 0 where
  pub long : length inners ≡ length model.blocks
  pub nested : (k : ℕ) → k < length model.blocks → slice_index_or inners k [] ≡ inners_from sizes (length (own_names (block_at model.blocks k))) (block_at model.blocks k).uses (slice_index_or (numbers_of model) k [])

-- the links of a block, which has these instances inside
abbrev pub links_with : Model → ℕ → List Inner → List LinkPattern
links_with model k inners = map (link_pattern model.modes (own_names (block_at model.blocks k)) (use_names (block_at model.blocks k)) inners (map own_names model.blocks)) (block_at model.blocks k).links

-- for each block its links
pub record AreLinks (model : Model) (inners : List (List Inner)) (joined : List (List LinkPattern)) : Type 0 where
  pub long : length joined ≡ length model.blocks
  pub each : (k : ℕ) → k < length model.blocks → slice_index_or joined k [] ≡ links_with model k (slice_index_or inners k [])
