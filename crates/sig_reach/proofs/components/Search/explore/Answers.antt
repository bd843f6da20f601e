use Rattle.std.proofs.Common.{◌<◌, length, get_or, arith, sym, ap, ◌∙◌, subst, []}
use Rattle.sig_reach.specs.Marks.{sources_at}
use Rattle.sig_reach.specs.Components.{Stage, stage_of, entered, IsSearch, Keeps}
use Rattle.sig_reach.proofs.MarkLaws.{row-read}
use Rattle.sig_reach.proofs.SearchLaws.{search-entered, search-with_none, fresh-all, keeps-on, keeps-entered, entered-at}
use Rattle.sig_reach.proofs.components.Search.explore.Goals as goal

pub path-init : goal.path-init
path-init c =
    let s = stage_of c.args.self.now in
    let node = c.args.node in
    let h = c.requires.search in
    let lt = c.requires.node in
    let long = h.long_places in
    let there : node < length s.places = omega arith in
    let row = row-read c.args.sources.now node c.index-sources-node.result c.as_slice.result.now c.index-sources-node.is lt c.as_slice.ensures in
    let e = c.in_ok-enter.ensures ∙ ap (entered s node) row in
    let none = ap length c.requires.none in
    record {
      search = subst (IsSearch c.args.sources.now) (sym e)
          (search-entered c.args.sources.now s [] node (search-with_none c.args.sources.now s h) (λ link (k, l, is). absurd (let f : ⊥ = omega arith in f)) lt
          (fresh-all c.args.sources.now s node h c.requires.none c.requires.unknown) c.requires.unknown (λ k l. absurd (let f : ⊥ = omega arith in f)));
      keeps = subst (λ (t : Stage). Keeps s t) (sym e) (keeps-entered s node (sources_at c.args.sources.now node) there);
      entered = subst (λ (t : Stage). 0 < get_or t.places node 0) (sym e) (entered-at s node (sources_at c.args.sources.now node) there);
    }

pub path-preserved : goal.path-preserved
path-preserved c = record {
  search = c.in_ok-step.ensures.search;
  keeps = keeps-on (stage_of c.args.self.now) (stage_of c.path.self) (stage_of c.step.new.self) c.path.invariant.keeps c.in_ok-step.ensures.keeps;
  entered = c.in_ok-step.ensures.keeps.entered c.args.node c.path.invariant.entered;
}
