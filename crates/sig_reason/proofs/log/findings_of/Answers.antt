use Rattle.std.proofs.Common.{◌≡◌, ◌∷◌, [], ◌++◌, sym, subst}
use Rattle.sig_lines.specs.Pieces.{lines_in}
use Rattle.sig_reason.specs.LogSteps.{IsNext}
use Rattle.sig_reason.proofs.LogLaws.{IsReadTo, read-none, read-next}
use Rattle.sig_reason.proofs.log.findings_of.Goals as goal

pub loop-finding-init : goal.loop-finding-init
loop-finding-init c = rw (c.new-found.ensures.items, c.requires.first) (read-none c.args.matrix.now c.args.start.rest.now)

pub loop-finding-preserved : goal.loop-finding-preserved
loop-finding-preserved c =
    let before = c.loop-finding.found.items in
    let finding = c.in-Ok-Some.finding in
    let pushed : c.push.new.self.items ≡ before ++ finding ∷ [] = c.in_ok-push-in-Ok-Some.ensures.items in
    let is = c.in-Ok-Some.field-0-is in
    let next = subst (λ l. IsNext c.args.matrix.now l (lines_in c.loop-finding.at.rest.now) finding (lines_in c.in-Ok-Some.after.rest.now)) c.as_slice.ensures.value (rw is at c.in-Ok-Some.ensures.next) in
    subst (λ items. IsReadTo c.args.matrix.now c.args.start.rest.now items c.in-Ok-Some.after.number c.in-Ok-Some.after.rest.now) (sym pushed)
    (read-next c.args.matrix.now c.args.start.rest.now before c.loop-finding.at.number c.loop-finding.at.rest.now finding c.in-Ok-Some.after.rest.now c.in-Ok-Some.after.number c.loop-finding.invariant next (rw is at c.in-Ok-Some.ensures.there) (rw is at c.in-Ok-Some.ensures.tail) (rw is at c.in-Ok-Some.ensures.number))
