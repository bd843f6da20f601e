use Rattle.std.proofs.Common.{sym, subst}
use Rattle.sig_reach.specs.Components.{Stage, stage_of, IsSearch, IsClosed, Keeps}
use Rattle.sig_reach.proofs.SearchLaws.{link-to}
use Rattle.sig_reach.proofs.CloseLaws.{search-closed, closed-keeps}
use Rattle.sig_reach.proofs.components.Search.step.Goals as goal

pub follow-requires-clause-to : goal.follow-requires-clause-to
follow-requires-clause-to c =
    link-to c.args.sources.now (stage_of c.next.new.self) c.in-Some.link (subst (IsSearch c.args.sources.now) c.in-Some.ensures.some.0 c.requires.search) c.requires.there

pub returns-in_ok-follow-in-Some-clause-keeps : goal.returns-in_ok-follow-in-Some-clause-keeps
returns-in_ok-follow-in-Some-clause-keeps c =
    let k = c.in_ok-follow-in-Some.ensures.keeps in
    subst (λ (s : Stage). Keeps s (stage_of c.follow.new.self)) (sym c.in-Some.ensures.some.0) (record { entered = k.entered; known = k.known })

pub returns-in-None-clause-search : goal.returns-in-None-clause-search
returns-in-None-clause-search c =
    let none = c.in-None.ensures.none in
    search-closed c.args.sources.now (stage_of c.args.self.now) (stage_of c.close.new.self) c.requires.search none.0
    (subst (λ (s : Stage). IsClosed s (stage_of c.close.new.self)) none.1 c.close.ensures)

pub returns-in-None-clause-keeps : goal.returns-in-None-clause-keeps
returns-in-None-clause-keeps c =
    let none = c.in-None.ensures.none in
    closed-keeps c.args.sources.now (stage_of c.args.self.now) (stage_of c.close.new.self) c.requires.search none.0
    (subst (λ (s : Stage). IsClosed s (stage_of c.close.new.self)) none.1 c.close.ensures)
