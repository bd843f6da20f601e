use Rattle.std.proofs.Common.{sym, subst}
use Rattle.sig_flat.specs.Counting.{sizes_in}
use Rattle.sig_flat.proofs.CountingLaws.{sized}
use Rattle.sig_flat.specs.Surveys.{AreInners, IsPlacing}
use Rattle.sig_flat.proofs.LinkLaws.{inner-known, inside-long}
use Rattle.sig_flat.proofs.ModelLaws.{is-placing}
use Rattle.sig_flat.proofs.placing.placing_of.Goals as goal

pub links_of_blocks-requires-clause-long : goal.links_of_blocks-requires-clause-long
links_of_blocks-requires-clause-long c =
    let i : AreInners c.args.valid.now (sizes_in c.args.survey.now.counts.items) c.as_slice-inside.result.now = subst (AreInners c.args.valid.now (sizes_in c.args.survey.now.counts.items)) (sym c.as_slice-inside.ensures.value) c.in_ok-inners.ensures in
    i.long

pub links_of_blocks-requires-clause-uses : goal.links_of_blocks-requires-clause-uses
links_of_blocks-requires-clause-uses c =
    let i : AreInners c.args.valid.now (sizes_in c.args.survey.now.counts.items) c.as_slice-inside.result.now = subst (AreInners c.args.valid.now (sizes_in c.args.survey.now.counts.items)) (sym c.as_slice-inside.ensures.value) c.in_ok-inners.ensures in
    inside-long c.args.valid.now c.requires.known (sizes_in c.args.survey.now.counts.items) (sized c.args.valid.now c.requires.known c.args.survey.now.counts.items c.requires.survey.counts_long c.requires.survey.counts) c.as_slice-inside.result.now i.long i.nested

pub links_of_blocks-requires-clause-blocks : goal.links_of_blocks-requires-clause-blocks
links_of_blocks-requires-clause-blocks c =
    let i : AreInners c.args.valid.now (sizes_in c.args.survey.now.counts.items) c.as_slice-inside.result.now = subst (AreInners c.args.valid.now (sizes_in c.args.survey.now.counts.items)) (sym c.as_slice-inside.ensures.value) c.in_ok-inners.ensures in
    inner-known c.args.valid.now c.requires.known (sizes_in c.args.survey.now.counts.items) (sized c.args.valid.now c.requires.known c.args.survey.now.counts.items c.requires.survey.counts_long c.requires.survey.counts) c.as_slice-inside.result.now i.long i.nested

pub placed_of_model-requires-clause-inners : goal.placed_of_model-requires-clause-inners
placed_of_model-requires-clause-inners c = subst (AreInners c.args.valid.now (sizes_in c.args.survey.now.counts.items)) (sym c.as_slice-inside.ensures.value) c.in_ok-inners.ensures

pub returns-clause-placing : goal.returns-clause-placing
returns-clause-placing c =
    let i : AreInners c.args.valid.now (sizes_in c.args.survey.now.counts.items) c.as_slice-inside.result.now = subst (AreInners c.args.valid.now (sizes_in c.args.survey.now.counts.items)) (sym c.as_slice-inside.ensures.value) c.in_ok-inners.ensures in
    subst (λ p. IsPlacing c.args.valid.now p c.in_ok-links.links.items) (sym c.in_ok-placed.ensures.placed)
    (is-placing c.args.valid.now c.requires.known c.requires.within (sizes_in c.args.survey.now.counts.items) (sized c.args.valid.now c.requires.known c.args.survey.now.counts.items c.requires.survey.counts_long c.requires.survey.counts) c.as_slice-inside.result.now i.long i.nested c.in_ok-links.links.items c.in_ok-links.ensures.long c.in_ok-links.ensures.each)
