use Rattle.std.proofs.Common.{◌≡◌, ◌+◌, ◌<◌, ◌^◌, List, ℕ, [], ◌∷◌, ◌++◌, length, take, get_or, ap, sym, ◌∙◌, arith, subst, append_assoc}
use Rattle.std.specs.List.{flat_map}
use Rattle.std.proofs.lemmas.List.{get_or_default, take_all}
use Rattle.sig_flat.specs.declared.inner.Inner.{Inner}
use Rattle.sig_flat.specs.declared.walk.Placed.{Placed}
use Rattle.sig_flat.specs.Placed.{placed_at, inner_prefix, StartsFit, IsShown}
use Rattle.sig_flat.proofs.WalkLaws.{flat_map-next, placed-uses, inside, inside-fits, first-fits, among-row}
use Rattle.sig_flat.proofs.walk.+place_instances.Goals as goal

pub overflow_add-begin : goal.overflow_add-begin
overflow_add-begin t c =
    let lt : c.loop-inner.inner-index < length c.as_slice-inner-items.result.now = omega arith in
    let i = among-row c.args.inners.now c.args.block c.index-inners-block.result c.as_slice-inner-items.result.now c.loop-inner.inner-index c.inner-item.result c.as_slice-inner-items.ensures c.index-inners-block.is c.requires.1.1.0 c.inner-item.is lt in
    let small : c.args.start + c.inner-item.result.offset < 2 ^ 32 = first-fits c.args.inners.now c.requires.1.1.1.0 (inner_prefix c.args.prefix.now c.inner-item.result.name) c.inner-item.result.block (c.args.start + c.inner-item.result.offset) (inside-fits c.args.inners.now c.requires.1.1.1.0 c.args.prefix.now c.args.block c.args.start c.inner-item.result c.requires.1.1.1.1.0 i) in
    omega arith

pub overflow_cast-begin-in-loop-inner : goal.overflow_cast-begin-in-loop-inner
overflow_cast-begin-in-loop-inner t c =
    let lt : c.loop-inner.inner-index < length c.as_slice-inner-items.result.now = omega arith in
    let i = among-row c.args.inners.now c.args.block c.index-inners-block.result c.as_slice-inner-items.result.now c.loop-inner.inner-index c.inner-item.result c.as_slice-inner-items.ensures c.index-inners-block.is c.requires.1.1.0 c.inner-item.is lt in
    let small : c.args.start + c.inner-item.result.offset < 2 ^ 32 = first-fits c.args.inners.now c.requires.1.1.1.0 (inner_prefix c.args.prefix.now c.inner-item.result.name) c.inner-item.result.block (c.args.start + c.inner-item.result.offset) (inside-fits c.args.inners.now c.requires.1.1.1.0 c.args.prefix.now c.args.block c.args.start c.inner-item.result c.requires.1.1.1.1.0 i) in
    omega arith

pub place_instances-requires : goal.place_instances-requires
place_instances-requires t c =
    let lt : c.loop-inner.inner-index < length c.as_slice-inner-items.result.now = omega arith in
    let i = among-row c.args.inners.now c.args.block c.index-inners-block.result c.as_slice-inner-items.result.now c.loop-inner.inner-index c.inner-item.result c.as_slice-inner-items.ensures c.index-inners-block.is c.requires.1.1.0 c.inner-item.is lt in
    let below = c.requires.1.1.1.0 c.args.block c.inner-item.result i in
    let there = c.requires.1.1.0 in
    let d = c.requires.1.0 in
    let fits : StartsFit (inside c.args.inners.now c.requires.1.1.1.0 c.args.prefix.now c.args.start c.inner-item.result) = inside-fits c.args.inners.now c.requires.1.1.1.0 c.args.prefix.now c.args.block c.args.start c.inner-item.result c.requires.1.1.1.1.0 i in (
      omega arith,
      (
        omega arith,
        (
          c.requires.1.1.1.0,
          (
            subst (λ (l : List ℕ). StartsFit (placed_at c.args.inners.now l c.inner-item.result.block (c.args.start + c.inner-item.result.offset))) (sym (c.as_str.ensures ∙ c.in_ok-name.ensures.prefix)) fits,
            subst IsShown (sym c.as_str.ensures) (c.in_ok-name.ensures.shown c.requires.1.1.1.1.1),
          ),
        ),
      ),
    )

pub loop-inner-preserved : goal.loop-inner-preserved
loop-inner-preserved t c =
    let lt : c.loop-inner.inner-index < length c.as_slice-inner-items.result.now = omega arith in
    let row : c.as_slice-inner-items.result.now ≡ get_or c.args.inners.now c.args.block [] = c.as_slice-inner-items.ensures ∙ c.index-inners-block.is ∙ get_or_default c.args.inners.now c.args.block c.index-inners-block.result [] c.requires.1.1.0 in
    let placed : Inner → List Placed = λ (inner : Inner). placed_at c.args.inners.now (inner_prefix c.args.prefix.now inner.name) inner.block (c.args.start + inner.offset) in
    let front : List Placed = c.args.placed.now ++ record { prefix = c.args.prefix.now; block = c.args.block; start = c.args.start } ∷ [] in
    let is = c.inner-item.is ∙ ap (λ (l : List Inner). get_or l c.loop-inner.inner-index c.inner-item.result) row in
    let below : c.loop-inner.inner-index < length (get_or c.args.inners.now c.args.block []) = subst (λ (l : List Inner). c.loop-inner.inner-index < length l) row lt in (
      c.in_ok-place_instances.ensures.placed
          ∙ ap (λ (l : List ℕ). c.loop-inner.placed ++ placed_at c.args.inners.now l c.inner-item.result.block (c.args.start + c.inner-item.result.offset)) (c.as_str.ensures ∙ c.in_ok-name.ensures.prefix)
          ∙ ap (λ l. l ++ placed c.inner-item.result) c.loop-inner.invariant.0
          ∙ append_assoc front (flat_map placed (take c.loop-inner.inner-index (get_or c.args.inners.now c.args.block []))) (placed c.inner-item.result)
          ∙ ap (λ l. front ++ l) (flat_map-next placed (get_or c.args.inners.now c.args.block []) c.loop-inner.inner-index c.inner-item.result is below),
      λ old. c.in_ok-place_instances.ensures.shown (c.loop-inner.invariant.1 old),
    )

pub returns-clause-shown : goal.returns-clause-shown
returns-clause-shown t c = c.loop-inner.invariant.1

pub returns-clause-placed : goal.returns-clause-placed
returns-clause-placed t c =
    let me : Placed = record { prefix = c.args.prefix.now; block = c.args.block; start = c.args.start } in
    let row : c.as_slice-inner-items.result.now ≡ get_or c.args.inners.now c.args.block [] = c.as_slice-inner-items.ensures ∙ c.index-inners-block.is ∙ get_or_default c.args.inners.now c.args.block c.index-inners-block.result [] c.requires.1.1.0 in
    let long = ap length row in
    let all : take c.loop-inner.inner-index (get_or c.args.inners.now c.args.block []) ≡ get_or c.args.inners.now c.args.block [] = take_all c.loop-inner.inner-index (get_or c.args.inners.now c.args.block []) (omega arith) in
    c.loop-inner.invariant.0
    ∙ ap (λ l. (c.args.placed.now ++ me ∷ []) ++ flat_map (inside c.args.inners.now c.requires.1.1.1.0 c.args.prefix.now c.args.start) l) all
    ∙ append_assoc c.args.placed.now (me ∷ []) (flat_map (inside c.args.inners.now c.requires.1.1.1.0 c.args.prefix.now c.args.start) (get_or c.args.inners.now c.args.block []))
    ∙ sym (ap (λ l. c.args.placed.now ++ l) (placed-uses c.args.inners.now c.requires.1.1.1.0 c.args.prefix.now c.args.block c.args.start))
