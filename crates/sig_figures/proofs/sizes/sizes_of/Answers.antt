use Rattle.std.proofs.Common.{◌+◌, length, ap, ◌∙◌, arith}
use Rattle.seq_theory.proofs.ByNumberLaws.{length-by_number}
use Rattle.sig_figures.specs.Counts.{times_in, counts_of}
use Rattle.sig_figures.specs.Sizes.{group_size}
use Rattle.sig_figures.proofs.SizeLaws.{sizes-small, sizes-counted}
use Rattle.sig_figures.proofs.sizes.sizes_of.Goals as goal

pub counts_of-requires-clause-below : goal.counts_of-requires-clause-below
counts_of-requires-clause-below c = sizes-small c.args.matrix.now c.as_slice.result.now c.states.result (c.as_slice.ensures.value ∙ c.in_ok-sizes.ensures) c.states.ensures

pub counts_of-requires-clause-few : goal.counts_of-requires-clause-few
counts_of-requires-clause-few c =
    let long = ap length (c.as_slice.ensures.value ∙ c.in_ok-sizes.ensures) ∙ length-by_number (group_size c.args.matrix.now) (length c.args.matrix.now.faults) in
    let many = c.requires.valid.faults in
    omega arith

pub some_counts-requires : goal.some_counts-requires
some_counts-requires c =
    let long = ap length (c.as_slice-2.ensures.value ∙ c.in_ok-counts.ensures) ∙ length-by_number (times_in c.as_slice.result.now) (c.states.result + 1) in
    let small = c.requires.valid.many in
    omega arith

pub returns : goal.returns
returns c =
    c.in_ok-sizes-2.ensures
    ∙ sizes-counted c.args.matrix.now c.as_slice.result.now c.as_slice-2.result.now (c.as_slice.ensures.value ∙ c.in_ok-sizes.ensures)
    (c.as_slice-2.ensures.value ∙ c.in_ok-counts.ensures ∙ ap (λ n. counts_of c.as_slice.result.now (n + 1)) c.states.ensures)
