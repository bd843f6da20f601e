use Rattle.std.proofs.Common.{◌≡◌, inl, inr, ◌-◌, ◌<◌, length, get_or, arith, sym, ap, ◌∙◌, subst, [], ◌∷◌}
use Rattle.std.proofs.lemmas.Grind.{get_or_default_zero}
use Rattle.sig_reach.specs.Components.{stage_of, entered, IsSearch, work, IsJoinedFrom}
use Rattle.sig_reach.proofs.MarkLaws.{row-read}
use Rattle.sig_reach.proofs.SearchLaws.{search-entered, search-skipped, link-leads, work-entered}
use Rattle.sig_reach.proofs.CloseLaws.{joined-from}
use Rattle.std.proofs.lemmas.List.Elements.{Contains-push_cases}
use Rattle.sig_reach.proofs.components.Search.follow.Goals as goal

pub returns-in_ok-enter-clause-search : goal.returns-in_ok-enter-clause-search
returns-in_ok-enter-clause-search c =
    let s = stage_of c.args.self.now in
    let node = c.args.link.node in
    let h = c.requires.search in
    let to = c.requires.to in
    let long_places = h.long_places in
    let long_numbers = h.long_numbers in
    let row = row-read c.args.sources.now node c.index-sources-node.result c.as_slice.result.now c.index-sources-node.is to c.as_slice.ensures in
    let places = c.index-place.ensures in
    let numbers = c.index.ensures in
    let fresh : get_or s.places node 0 ≡ 0 = omega (arith, get_or_default_zero s.places node c.index-place.result.now (omega arith)) in
    let unnumbered : get_or s.numbers node 0 ≡ 0 = omega (arith, get_or_default_zero s.numbers node c.index.result.now (omega arith)) in
    subst (IsSearch c.args.sources.now) (sym (c.in_ok-enter.ensures ∙ ap (entered s node) row))
    (search-entered c.args.sources.now s (c.args.link ∷ []) node h (λ link i. elim (Contains-push_cases [] c.args.link link i) [ inl (k, lt, e) ↦ absurd (let f : ⊥ = omega arith in f) | inr e ↦ ap (λ l. l.node) (sym e) ]) to fresh unnumbered (link-leads c.args.sources.now s c.args.link h c.requires.leaves))

pub returns-in_ok-enter-clause-less : goal.returns-in_ok-enter-clause-less
returns-in_ok-enter-clause-less c =
    let s = stage_of c.args.self.now in
    let node = c.args.link.node in
    let to = c.requires.to in
    let long_places = c.requires.search.long_places in
    let row = row-read c.args.sources.now node c.index-sources-node.result c.as_slice.result.now c.index-sources-node.is to c.as_slice.ensures in
    let places = c.index-place.ensures in
    let there : node < length s.places = omega arith in
    let fresh : get_or s.places node 0 ≡ 0 = omega (arith, get_or_default_zero s.places node c.index-place.result.now there) in
    let w = work-entered c.args.sources.now s node there to fresh in
    let e = ap (work c.args.sources.now) (c.in_ok-enter.ensures ∙ ap (entered s node) row) in
    omega arith

pub returns-else-place-eq0-clause-search : goal.returns-else-place-eq0-clause-search
returns-else-place-eq0-clause-search c =
    let s = stage_of c.args.self.now in
    let node = c.args.link.node in
    let h = c.requires.search in
    let to = c.requires.to in
    let long_places = h.long_places in
    let long_numbers = h.long_numbers in
    let places = c.index-place.ensures in
    let numbers = c.index.ensures in
    let zero = get_or_default_zero s.places node c.index-place.result.now (omega arith) in
    let pos : 0 < get_or s.places node 0 = omega arith in
    let unnumbered : get_or s.numbers node 0 ≡ 0 = omega (arith, get_or_default_zero s.numbers node c.index.result.now (omega arith)) in
    let place : c.index-place.result.now - 1 ≡ get_or s.places node 0 - 1 = omega arith in
    joined-from c.args.sources.now s (stage_of c.join.new.self) c.args.link h c.requires.leaves unnumbered pos
    (subst (λ t. IsJoinedFrom s t (stage_of c.join.new.self)) place c.join.ensures)

pub returns-else-index-eq0-clause-search : goal.returns-else-index-eq0-clause-search
returns-else-index-eq0-clause-search c =
    let s = stage_of c.args.self.now in
    let node = c.args.link.node in
    let h = c.requires.search in
    let to = c.requires.to in
    let long_numbers = h.long_numbers in
    let numbers = c.index.ensures in
    let zero = get_or_default_zero s.numbers node c.index.result.now (omega arith) in
    let known : 0 < get_or s.numbers node 0 = omega arith in
    search-skipped c.args.sources.now s c.args.link h known
