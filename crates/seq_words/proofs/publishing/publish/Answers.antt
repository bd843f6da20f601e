use Rattle.std.proofs.Common.{sym, ap, ◌∙◌, subst}
use Rattle.seq_words.specs.Knowledge.{known, HasGroup, Covers}
use Rattle.seq_words.specs.Seats.{IsOf, Sitting}
use Rattle.seq_words.proofs.Views.{M}
use Rattle.seq_words.proofs.Published.{published-of, published-knows, published-covers, published-others, published-seen, place-inside}
use Rattle.seq_words.proofs.publishing.publish.Goals as goal

pub invariant_of-scribe : goal.invariant_of-scribe
invariant_of-scribe c =
    let m = c.write_group.ensures.learns.1 in
    (ap (λ (x : M). x.1) m ∙ c.scribe.invariant.0, ap (λ (x : M). x.0.role) m, ap (λ (x : M). x.0.stored) m)

pub returns-clause-of : goal.returns-clause-of
returns-clause-of c =
    let e = c.write_group.ensures.learns in
    let learns = published-seen c.args.scribe.now _ _ _ _ c.args.place c.args.group.now.0 c.scribe.view_is e.0 e.1 in
    subst (IsOf c.args.words.now) (sym learns) (published-of c.args.words.now c.args.scribe.now c.args.place c.args.group.now.0 c.requires.scribe)

pub returns-clause-knows : goal.returns-clause-knows
returns-clause-knows c =
    let e = c.write_group.ensures.learns in
    let learns = published-seen c.args.scribe.now _ _ _ _ c.args.place c.args.group.now.0 c.scribe.view_is e.0 e.1 in
    let inside = place-inside c.args.words.now c.args.scribe.now c.args.place c.requires.scribe c.requires.may.room in
    subst (λ (x : Sitting). HasGroup c.args.place c.args.group.now.0 x.view) (sym learns) (published-knows c.args.scribe.now.view c.args.place c.args.group.now.0 inside c.group_stands.ensures.eight)

pub returns-clause-covers : goal.returns-clause-covers
returns-clause-covers c =
    let e = c.write_group.ensures.learns in
    let learns = published-seen c.args.scribe.now _ _ _ _ c.args.place c.args.group.now.0 c.scribe.view_is e.0 e.1 in
    let inside = place-inside c.args.words.now c.args.scribe.now c.args.place c.requires.scribe c.requires.may.room in
    let fresh = ap (λ (x : Sitting). known x.view c.args.place) (sym c.scribe.view_is) ∙ c.write_group.ensures.fresh in
    subst (λ (x : Sitting). Covers x.view c.args.scribe.now.view) (sym learns) (published-covers c.args.scribe.now.view c.args.place c.args.group.now.0 inside fresh)

pub returns-clause-others : goal.returns-clause-others
returns-clause-others c other apart =
    let e = c.write_group.ensures.learns in
    let learns = published-seen c.args.scribe.now _ _ _ _ c.args.place c.args.group.now.0 c.scribe.view_is e.0 e.1 in
    ap (λ (x : Sitting). known x.view other) learns ∙ published-others c.args.scribe.now.view c.args.place c.args.group.now.0 other apart
