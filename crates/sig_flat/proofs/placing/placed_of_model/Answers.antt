use Rattle.std.proofs.Common.{[], ◌++◌, refl, ap, sym, ◌∙◌, subst, arith}
use Rattle.sig_flat.specs.Counting.{sizes_in}
use Rattle.sig_flat.proofs.CountingLaws.{sized}
use Rattle.sig_flat.specs.Placed.{placed_at, StartsFit, PrefixesShown}
use Rattle.sig_flat.proofs.CountLaws.{top-there}
use Rattle.sig_flat.proofs.LinkLaws.{nest-earlier}
use Rattle.sig_flat.proofs.ModelLaws.{starts-fit}
use Rattle.sig_flat.proofs.placing.placed_of_model.Goals as goal

pub place_instances-requires-clause-block : goal.place_instances-requires-clause-block
place_instances-requires-clause-block c =
    let there = top-there c.args.valid.now c.requires.known in
    let top = c.requires.survey.top in
    let long = c.requires.inners.long in
    omega arith

pub place_instances-requires-clause-earlier : goal.place_instances-requires-clause-earlier
place_instances-requires-clause-earlier c = nest-earlier c.args.valid.now c.requires.known (sizes_in c.args.survey.now.counts.items) (sized c.args.valid.now c.requires.known c.args.survey.now.counts.items c.requires.survey.counts_long c.requires.survey.counts) c.args.inners.now c.requires.inners.long c.requires.inners.nested

pub place_instances-requires-clause-fits : goal.place_instances-requires-clause-fits
place_instances-requires-clause-fits c =
    subst (λ k. StartsFit (placed_at c.args.inners.now [] k 0)) (sym c.requires.survey.top)
    (starts-fit c.args.valid.now c.requires.known c.requires.within (sizes_in c.args.survey.now.counts.items) (sized c.args.valid.now c.requires.known c.args.survey.now.counts.items c.requires.survey.counts_long c.requires.survey.counts) c.args.inners.now c.requires.inners.long c.requires.inners.nested)

pub place_instances-requires-clause-shown : goal.place_instances-requires-clause-shown
place_instances-requires-clause-shown c = refl

pub returns-clause-placed : goal.returns-clause-placed
returns-clause-placed c =
    c.in_ok-place_instances.ensures.placed ∙ ap (λ l. l ++ placed_at c.args.inners.now [] c.args.survey.now.top 0) c.new-placed.ensures ∙ ap (λ k. placed_at c.args.inners.now [] k 0) c.requires.survey.top

pub returns-clause-shown : goal.returns-clause-shown
returns-clause-shown c = c.in_ok-place_instances.ensures.shown (subst PrefixesShown (sym c.new-placed.ensures) (λ p (k, lt, e). absurd (let no : ⊥ = omega arith in no)))
