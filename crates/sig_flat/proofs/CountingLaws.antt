-- The counts of a block from those of the blocks that it uses, one use after another.
use Rattle.std.proofs.Common.{◌≡◌, ℕ, ◌+◌, ◌-◌, ◌<◌, ◌^◌, max, List, [], ◌∷◌, ◌++◌, length, take, get_or, sym, ap, ◌∙◌, arith, add-one, inl, inr, subst}
use Rattle.std.specs.List.{Contains}
use Rattle.std.proofs.Math.Seq.{take-suc}
use Rattle.std.proofs.lemmas.Bool.{cases_lt}
use Rattle.std.proofs.lemmas.List.{get_or_append_left, get_or-append_right}
use Rattle.sig_types.specs.declared.model.Model.{Model}
use Rattle.sig_types.specs.declared.model.Block.{Block}
use Rattle.sig_flat.specs.declared.counts.Counts.{Counts}
use Rattle.sig_flat.specs.Sizes.{in_word, sum_over, greatest_over, size}
use Rattle.sig_flat.specs.Counting.{no_counts, counts_at, own_counts, sizes_in, IsWithUse, AreSums}
use Rattle.sig_flat.specs.Instances.{no_block}
use Rattle.sig_flat.specs.Resolved.{block_at}
use Rattle.sig_flat.specs.Places.{own_names}
use Rattle.sig_flat.specs.Patterns.{pattern_of, fault_patterns, test_patterns}
use Rattle.sig_flat.specs.Known.{IsKnown}
use Rattle.sig_flat.specs.Surveys.{numbers_of, own_of, links_of_blocks, faults_of_blocks, tests_of_blocks, ones_of_blocks, AreCounts}
use Rattle.sig_flat.proofs.SizeLaws.{sum_over-more, sum_over-in_word, size-uses, size-next}
use Rattle.sig_flat.proofs.HeightLaws.{greatest_over-more, height-next}
use Rattle.sig_flat.proofs.PatternLaws.{nodes-counted}
use Rattle.sig_flat.proofs.KnownLaws.{at-map, earlier}

-- numbers of a word are the sums over no use
pub sums-start : (own : Counts) (counts : List Counts) → own.depth < 2 ^ 64 → own.uses < 2 ^ 64 → own.nodes < 2 ^ 64 → own.links < 2 ^ 64 → own.faults < 2 ^ 64 → own.tests < 2 ^ 64 → AreSums own [] counts own
sums-start own counts d u n l f t = record { depth = omega arith; uses = omega arith; nodes = omega arith; links = omega arith; faults = omega arith; tests = omega arith }

-- one use more
pub sums-more : (own total after : Counts) (numbers : List ℕ) (counts : List Counts) (i : ℕ) → i < length numbers → AreSums own (take i numbers) counts total → IsWithUse total (counts_at counts (get_or numbers i 0)) after → AreSums own (take (i + 1) numbers) counts after
sums-more own total after numbers counts i lt s h = record {
  depth = deeper;
  uses = more own.uses total.uses after.uses (λ used. in_word ((counts_at counts used).uses + 1)) s.uses h.uses;
  nodes = more own.nodes total.nodes after.nodes (λ used. (counts_at counts used).nodes) s.nodes h.nodes;
  links = more own.links total.links after.links (λ used. (counts_at counts used).links) s.links h.links;
  faults = more own.faults total.faults after.faults (λ used. (counts_at counts used).faults) s.faults h.faults;
  tests = more own.tests total.tests after.tests (λ used. (counts_at counts used).tests) s.tests h.tests;
}
  where
    next : take (i + 1) numbers ≡ take i numbers ++ get_or numbers i 0 ∷ []
    next = rw add-one (take-suc numbers i 0 lt)

    more : (a b c : ℕ) (f : ℕ → ℕ) → b ≡ in_word (a + sum_over f (take i numbers)) → c ≡ in_word (b + f (get_or numbers i 0)) → c ≡ in_word (a + sum_over f (take (i + 1) numbers))
    more a b c f e g = let m = ap (sum_over f) next ∙ sum_over-more f (take i numbers) (get_or numbers i 0) in omega arith

    deeper : after.depth ≡ in_word (max own.depth (greatest_over (λ used. 1 + (counts_at counts used).depth) (take (i + 1) numbers)))
    deeper =
        let f : ℕ → ℕ = λ used. 1 + (counts_at counts used).depth in
        let m = ap (greatest_over f) next ∙ greatest_over-more f (take i numbers) (get_or numbers i 0) in
        let old = s.depth in
        let here = h.depth in
        omega arith

-- one item more at the end of a list
pub each-more : {X : Type 0} (P : ℕ → X → Type 0) (xs ys : List X) (x d : X) (n : ℕ) → ys ≡ xs ++ x ∷ [] → length xs ≡ n → P n x → ((k : ℕ) → k < n → P k (get_or xs k d)) → (k : ℕ) → k < n + 1 → P k (get_or ys k d)
each-more P xs ys x d n e long here old k lt = elim (cases_lt k n) [
  | inl below ↦ subst (P k) (sym (ap (λ l. get_or l k d) e ∙ get_or_append_left xs (x ∷ []) d k (omega arith))) (old k below)
  | inr ge ↦
      (let at : n ≡ k = omega arith in
      let none : k - n ≡ 0 = omega arith in
      subst (λ j. P j (get_or ys k d)) at (subst (P n) (sym (ap (λ l. get_or l k d) e ∙ get_or-append_right xs (x ∷ []) n k d long (omega arith) ∙ ap (λ j. get_or (x ∷ []) j d) none)) here))
]

module _ (model : Model) (known : IsKnown model) where
  abbrev numbers : List (List ℕ)
  numbers = numbers_of model

  -- a block is an instance itself
  size-some : (k : ℕ) → k < length model.blocks → size (ones_of_blocks model) numbers k ≡ 1 + sum_over (size (ones_of_blocks model) numbers) (get_or numbers k [])
  size-some k lt = size-uses (ones_of_blocks model) numbers (earlier model known) k ∙ ap (λ n. n + sum_over (size (ones_of_blocks model) numbers) (get_or numbers k [])) (at-map (λ (b : Block). 1) model.blocks k no_block 0 lt)

  pub counts-next : (counts : List Counts) (k : ℕ) → k < length model.blocks → ((b : ℕ) → b < k → AreCounts model b (get_or counts b no_counts)) → (total : Counts)
      → AreSums (own_counts (block_at model.blocks k) (pattern_of model.signals model.modes (block_at model.blocks k))) (get_or (numbers_of model) k []) counts total → AreCounts model k total
  counts-next counts k lt h total s = record {
    depth = s.depth ∙ (let z : in_word (max 0 (greatest_over (λ used. 1 + (counts_at counts used).depth) (get_or (numbers_of model) k []))) ≡ in_word (greatest_over (λ used. 1 + (counts_at counts used).depth) (get_or (numbers_of model) k [])) = omega arith in z)
        ∙ height-next numbers (λ b. (counts_at counts b).depth) k (earlier model known) (λ b below. (h b below).depth);
    uses = (let e = s.uses in
        let same = sum_over-in_word (λ used. in_word ((counts_at counts used).uses + 1)) (size (ones_of_blocks model) numbers) (get_or (numbers_of model) k []) 0 one-more in
        let some = size-some k lt in
        omega arith);
    nodes = s.nodes ∙ ap (λ n. in_word (n + sum_over (λ used. (counts_at counts used).nodes) (get_or (numbers_of model) k []))) (nodes-counted model.signals model.modes (block_at model.blocks k) ∙ sym (at-map (λ (b : Block). length (own_names b)) model.blocks k no_block 0 lt))
        ∙ size-next (own_of model) numbers (λ b. (counts_at counts b).nodes) k (earlier model known) (λ b below. (h b below).nodes);
    links = s.links ∙ ap (λ n. in_word (n + sum_over (λ used. (counts_at counts used).links) (get_or (numbers_of model) k []))) (sym (at-map (λ (b : Block). length b.links) model.blocks k no_block 0 lt))
        ∙ size-next (links_of_blocks model) numbers (λ b. (counts_at counts b).links) k (earlier model known) (λ b below. (h b below).links);
    faults = s.faults ∙ ap (λ n. in_word (n + sum_over (λ used. (counts_at counts used).faults) (get_or (numbers_of model) k []))) (sym (at-map (λ (b : Block). length (fault_patterns model.signals b)) model.blocks k no_block 0 lt))
        ∙ size-next (faults_of_blocks model) numbers (λ b. (counts_at counts b).faults) k (earlier model known) (λ b below. (h b below).faults);
    tests = s.tests ∙ ap (λ n. in_word (n + sum_over (λ used. (counts_at counts used).tests) (get_or (numbers_of model) k []))) (sym (at-map (λ (b : Block). length (test_patterns model.signals model.modes b)) model.blocks k no_block 0 lt))
        ∙ size-next (tests_of_blocks model) numbers (λ b. (counts_at counts b).tests) k (earlier model known) (λ b below. (h b below).tests);
  }
    where
      one-more : (used : ℕ) → Contains (get_or (numbers_of model) k []) used → in_word ((counts_at counts used).uses + 1) ≡ in_word (size (ones_of_blocks model) numbers used)
      one-more used i =
          let below = earlier model known k used i in
          let e = (h used below).uses in
          let some = size-some used (omega arith) in
          omega arith

  -- the sizes by the counts
  pub sized : (counts : List Counts) → length counts ≡ length model.blocks → ((k : ℕ) → k < length model.blocks → AreCounts model k (get_or counts k no_counts)) → (k : ℕ) → k < length model.blocks → get_or (sizes_in counts) k 0 ≡ in_word (size (own_of model) (numbers_of model) k)
  sized counts long h k lt = at-map (λ (c : Counts). c.nodes) counts k no_counts 0 (omega arith) ∙ (h k lt).nodes
