use Rattle.std.proofs.Common.{ap, map-id, ◌∙◌}
use Rattle.sig_types.specs.declared.refusals.ModelFault.TheVariants.{OutOfMemory}
use Rattle.sig_types.specs.Breaches.{or_normal}
use Rattle.sig_types.proofs.VerdictLaws.{handed-on, none-in_both, tells-left, tells-right}
use Rattle.sig_types.proofs.check.index.Index.of.Goals as goal

pub returns-in_err-signals-clause-verdict : goal.returns-in_err-signals-clause-verdict
returns-in_err-signals-clause-verdict c =
    let told = rw (c.as_slice.ensures, c.at.ensures, c.document-document.ensures) at c.in_err-signals.ensures.verdict in
    handed-on _ _ _ c.from_residual.ensures.1 (tells-left _ _ _ (tells-left _ _ _ told.says))

pub returns-in_err-modes-clause-verdict : goal.returns-in_err-modes-clause-verdict
returns-in_err-modes-clause-verdict c =
    let signals = rw (c.as_slice.ensures, c.at.ensures, c.document-document.ensures) at c.in_ok-signals.ensures.verdict in
    let told = rw (c.as_slice-2.ensures, c.at-2.ensures, c.document-document.ensures) at c.in_err-modes.ensures.verdict in
    handed-on _ _ _ c.from_residual-in_err-modes.ensures.1 (tells-left _ _ _ (tells-right _ _ _ signals.says told.says))

pub returns-in_err-blocks-clause-verdict : goal.returns-in_err-blocks-clause-verdict
returns-in_err-blocks-clause-verdict c =
    let signals = rw (c.as_slice.ensures, c.at.ensures, c.document-document.ensures) at c.in_ok-signals.ensures.verdict in
    let modes = rw (c.as_slice-2.ensures, c.at-2.ensures, c.document-document.ensures) at c.in_ok-modes.ensures.verdict in
    let told = rw c.as_slice-3.ensures at c.in_err-blocks.ensures.verdict in
    handed-on _ _ _ c.from_residual-in_err-blocks.ensures.1 (tells-right _ _ _ (none-in_both _ _ signals.says modes.says) told.says)

pub returns-in_err-ports-clause-verdict : goal.returns-in_err-ports-clause-verdict
returns-in_err-ports-clause-verdict c = handed-on _ _ OutOfMemory c.from_residual-in_err-ports.ensures.1 tt

pub invariant_of-result : goal.invariant_of-result
invariant_of-result c =
    let signals = c.in_ok-signals.ensures.names ∙ map-id c.as_slice.result.now ∙ c.as_slice.ensures in
    let modes = c.in_ok-add_normal.ensures ∙ ap or_normal (c.in_ok-modes.ensures.names ∙ map-id c.as_slice-2.result.now ∙ c.as_slice-2.ensures) in
    let blocks = rw c.as_slice-3.ensures at c.in_ok-blocks.ensures.names in
    let ports = rw c.as_slice-4.ensures at c.in_ok-ports.ensures in
    (signals, modes, blocks, ports)
