use Rattle.std.proofs.Common.{◌∙◌, subst, length, slice_index}
use Rattle.std.specs.Prelude.{IfOk}
use Rattle.std.proofs.lemmas.List.{length-map}
use Rattle.seq_inst.specs.declared.outcome.Row.{Row}
use Rattle.seq_inst.specs.Members.{members}
use Rattle.seq_huff.specs.Orders.{IsUpwardBy}
use Rattle.seq_core.specs.Settled.{sizes_of}
use Rattle.seq_core.proofs.settling.smallest_first.Goals as goal

pub returns : goal.returns
returns c =
    let rows = c.args.rows.now in
    subst (λ n. IfOk c.by_size.result (λ v. IsUpwardBy n (λ k. slice_index (sizes_of rows) k) v.items)) (length-map rows (λ (r : Row). length (members r.group)))
    (subst (λ l. IfOk c.by_size.result (λ v. IsUpwardBy (length l) (λ k. slice_index l k) v.items)) (c.as_slice.ensures.value ∙ c.in_ok-sizes.ensures) c.by_size.ensures)
