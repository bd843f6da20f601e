use Rattle.std.proofs.Common.{◌≡◌, ◌<◌, ◌∙◌, List, sym, ap, subst, arith}
use Rattle.std.specs.List.{AllZip}
use Rattle.seq_words.specs.Seats.{Wording, Sitting, IsOf}
use Rattle.seq_work.specs.Fans.{MayBegin}
use Rattle.seq_work.proofs.ExampleLaws.{real-all, real-first, real-second, last-of}
use Rattle.seq_work.proofs.tests.enters.Goals as goal

pub enter_at-root-requires-clause-seat : goal.enter_at-root-requires-clause-seat
enter_at-root-requires-clause-seat g c = λ lifetimes met.
    let inst = c.args.prepared.inst in
    let words = c.args.prepared.words in
    let locals = c.args.prepared.locals.items in
    let ready = subst (λ (xs : List Sitting). AllZip (MayBegin inst words) xs locals) c.in-Some.ensures.items c.requires.prepared.ready in
    let last = last-of (MayBegin inst words) _ c.in-Some.seat locals ready in
    subst (λ (w : Wording). IsOf w c.in-Some.seat) c.requires.named last.1.ready.of

pub enter_at-root-requires-clause-real : goal.enter_at-root-requires-clause-real
enter_at-root-requires-clause-real g c = λ lifetimes met. real-all c.args.prepared.inst c.requires.star g.N.Naming.words (sym (ap (λ (w : Wording). w.told) c.requires.named) ∙ c.requires.prepared.told)

pub enter_at-first-requires-clause-real : goal.enter_at-first-requires-clause-real
enter_at-first-requires-clause-real g c = λ lifetimes met. real-first c.args.prepared.inst c.requires.star g.N.Naming.words (sym (ap (λ (w : Wording). w.told) c.requires.named) ∙ c.requires.prepared.told)

pub enter_at-again-requires-clause-real : goal.enter_at-again-requires-clause-real
enter_at-again-requires-clause-real g c = λ lifetimes met. real-first c.args.prepared.inst c.requires.star g.N.Naming.words (sym (ap (λ (w : Wording). w.told) c.requires.named) ∙ c.requires.prepared.told)

pub enter_at-late-requires-clause-real : goal.enter_at-late-requires-clause-real
enter_at-late-requires-clause-real g c = λ lifetimes met. real-second c.args.prepared.inst c.requires.star g.N.Naming.words (sym (ap (λ (w : Wording). w.told) c.requires.named) ∙ c.requires.prepared.told)

pub see-requires-clause-seat : goal.see-requires-clause-seat
see-requires-clause-seat g c = subst (λ (w : Wording). IsOf w c.enter_at-late.new.seat) (sym c.requires.named) c.enter_at-late.ensures.of

pub see-requires-clause-room : goal.see-requires-clause-room
see-requires-clause-room g c = let two = c.requires.limit in let limit = c.requires.prepared.limit_is in omega arith
