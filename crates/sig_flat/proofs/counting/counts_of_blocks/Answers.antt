use Rattle.std.proofs.Common.{◌≡◌, ◌<◌, ℕ, List, [], ◌∷◌, ◌++◌, length, get_or, ap, ◌∙◌, subst, arith, length-append}
use Rattle.std.specs.List.{Contains}
use Rattle.std.proofs.lemmas.List.{get_or_default, length-map}
use Rattle.sig_types.specs.declared.model.Block.{Block}
use Rattle.sig_types.specs.declared.model.Model.{Model}
use Rattle.sig_types.specs.Breaches.{block_names}
use Rattle.sig_flat.specs.declared.counts.Counts.{Counts}
use Rattle.sig_flat.specs.declared.pattern.Pattern.{Pattern}
use Rattle.sig_flat.specs.Instances.{no_block}
use Rattle.sig_flat.specs.Resolved.{block_at}
use Rattle.sig_flat.specs.Patterns.{pattern_of}
use Rattle.sig_flat.specs.Layouts.{numbers_of_block}
use Rattle.sig_flat.specs.Placed.{no_pattern}
use Rattle.sig_flat.specs.Counting.{no_counts, own_counts, AreSums}
use Rattle.sig_flat.specs.Surveys.{numbers_of, AreCounts}
use Rattle.sig_flat.proofs.KnownLaws.{at-map, earlier}
use Rattle.sig_flat.proofs.CountingLaws.{each-more, counts-next}
use Rattle.sig_flat.proofs.counting.counts_of_blocks.Goals as goal

pub with_uses-total-requires : goal.with_uses-total-requires
with_uses-total-requires c = λ used i.
    let k = c.loop-k.k in
    let blocks = ap length (c.as_slice-blocks.ensures ∙ ap (λ (m : Model). m.blocks) c.model-model.ensures.same) in
    let long = ap length c.requires.numbers ∙ length-map c.args.valid.now.blocks (numbers_of_block (block_names c.args.valid.now)) in
    let lt : k < length c.args.numbers.now = omega arith in
    let row : c.as_slice.result.now ≡ get_or (numbers_of c.args.valid.now) k [] = c.as_slice.ensures ∙ c.index-numbers-k.is ∙ get_or_default c.args.numbers.now k c.index-numbers-k.result [] lt ∙ ap (λ (l : List (List ℕ)). get_or l k []) c.requires.numbers in
    let below = earlier c.args.valid.now c.requires.known k used (subst (λ l. Contains l used) row i) in
    let so_far = c.loop-k.invariant.0 in
    let value = ap length c.as_slice-in-loop-k.ensures.value in
    omega arith

pub loop-k-preserved : goal.loop-k-preserved
loop-k-preserved c =
    let model = c.args.valid.now in
    let k = c.loop-k.k in
    let blocks = ap length (c.as_slice-blocks.ensures ∙ ap (λ (m : Model). m.blocks) c.model-model.ensures.same) in
    let here : k < length c.args.valid.now.blocks = omega arith in
    let long = ap length c.requires.numbers ∙ length-map c.args.valid.now.blocks (numbers_of_block (block_names c.args.valid.now)) in
    let many = ap length c.requires.patterns ∙ length-map c.args.valid.now.blocks (pattern_of c.args.valid.now.signals c.args.valid.now.modes) in
    let lt : k < length c.args.numbers.now = omega arith in
    let there : k < length c.args.patterns.now = omega arith in
    let in_blocks : k < length c.as_slice-blocks.result.now = omega arith in
    let row : c.as_slice.result.now ≡ get_or (numbers_of c.args.valid.now) k [] = c.as_slice.ensures ∙ c.index-numbers-k.is ∙ get_or_default c.args.numbers.now k c.index-numbers-k.result [] lt ∙ ap (λ (l : List (List ℕ)). get_or l k []) c.requires.numbers in
    let block : c.index-blocks-k.result ≡ block_at c.args.valid.now.blocks k = c.index-blocks-k.is ∙ get_or_default c.as_slice-blocks.result.now k c.index-blocks-k.result no_block in_blocks ∙ ap (λ (l : List Block). block_at l k) (c.as_slice-blocks.ensures ∙ ap (λ (m : Model). m.blocks) c.model-model.ensures.same) in
    let pattern : c.index-patterns-k.result ≡ pattern_of c.args.valid.now.signals c.args.valid.now.modes (block_at c.args.valid.now.blocks k) =
    c.index-patterns-k.is ∙ get_or_default c.args.patterns.now k c.index-patterns-k.result no_pattern there ∙ ap (λ (l : List Pattern). get_or l k no_pattern) c.requires.patterns
    ∙ at-map (pattern_of c.args.valid.now.signals c.args.valid.now.modes) c.args.valid.now.blocks k no_block no_pattern here in
    let own : c.own-own.result ≡ own_counts (block_at c.args.valid.now.blocks k) (pattern_of c.args.valid.now.signals c.args.valid.now.modes (block_at c.args.valid.now.blocks k)) =
    c.own-own.ensures ∙ ap (λ (b : Block). own_counts b c.index-patterns-k.result) block ∙ ap (own_counts (block_at c.args.valid.now.blocks k)) pattern in
    let sums : AreSums (own_counts (block_at c.args.valid.now.blocks k) (pattern_of c.args.valid.now.signals c.args.valid.now.modes (block_at c.args.valid.now.blocks k))) (get_or (numbers_of c.args.valid.now) k []) c.loop-k.counts.items c.with_uses-total.result =
    subst (λ (o : Counts). AreSums o (get_or (numbers_of c.args.valid.now) k []) c.loop-k.counts.items c.with_uses-total.result) own
    (subst (λ (l : List ℕ). AreSums c.own-own.result l c.loop-k.counts.items c.with_uses-total.result) row
    (subst (λ (l : List Counts). AreSums c.own-own.result c.as_slice.result.now l c.with_uses-total.result) c.as_slice-in-loop-k.ensures.value c.with_uses-total.ensures)) in
    let push : c.push.new.self.items ≡ c.loop-k.counts.items ++ c.with_uses-total.result ∷ [] = c.in_ok-push.ensures.items in
    let so_far = c.loop-k.invariant.0 in
    let len = ap length push ∙ length-append c.loop-k.counts.items (c.with_uses-total.result ∷ []) in (
      omega arith,
      each-more (AreCounts c.args.valid.now) c.loop-k.counts.items c.push.new.self.items c.with_uses-total.result no_counts k push so_far
          (counts-next c.args.valid.now c.requires.known c.loop-k.counts.items k here c.loop-k.invariant.1 c.with_uses-total.result sums) c.loop-k.invariant.1,
    )
