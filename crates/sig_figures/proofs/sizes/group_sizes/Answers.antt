use Rattle.std.proofs.Common.{◌≡◌, suc, ◌+◌, ◌<◌, ◌∷◌, ◌++◌, [], length, map, ap, ◌∙◌, arith}
use Rattle.std.proofs.lemmas.List.{get_or_read}
use Rattle.seq_theory.specs.Problem.{count_up}
use Rattle.sig_matrix.specs.Detection.{system_of}
use Rattle.seq_theory.proofs.ByNumberLaws.{length-by_number, by_number_more}
use Rattle.sig_figures.specs.Counts.{times_in}
use Rattle.sig_figures.specs.Sizes.{group_size}
use Rattle.sig_figures.proofs.SizeLaws.{classes-small, class-at, class-below, group-read}
use Rattle.sig_figures.proofs.sizes.group_sizes.Goals as goal

pub counts_of-requires-clause-below : goal.counts_of-requires-clause-below
counts_of-requires-clause-below c = classes-small (system_of c.args.matrix.now) c.args.classes.now c.as_slice.result.now c.len.result c.requires.classes c.as_slice.ensures.value (let e = c.len.ensures in omega arith)

pub counts_of-requires-clause-few : goal.counts_of-requires-clause-few
counts_of-requires-clause-few c =
    let as_long = ap length c.as_slice.ensures.value in
    let long = c.requires.classes.states in
    let small = c.requires.valid.many in
    omega arith

pub index-class-requires : goal.index-class-requires
index-class-requires c = let long = c.requires.classes.states in omega arith

pub index-requires : goal.index-requires
index-requires c =
    let m = c.args.matrix.now in
    let classes = c.args.classes.now in
    let there : c.loop-fault.fault < length m.faults = omega arith in
    let class = class-at m classes c.states.result c.len-2.result c.loop-fault.fault c.index-class.result.now c.requires.classes c.states.ensures c.len-2.ensures there c.index-class.ensures in
    let below = class-below m classes c.loop-fault.fault c.index-class.result.now c.requires.classes there class in
    let long = ap length c.in_ok-states.ensures ∙ length-by_number (times_in c.as_slice.result.now) c.len.result in
    omega arith

pub loop-fault-preserved : goal.loop-fault-preserved
loop-fault-preserved c =
    let m = c.args.matrix.now in
    let classes = c.args.classes.now in
    let i = c.loop-fault.fault in
    let there : i < length m.faults = omega arith in
    let class = class-at m classes c.states.result c.len-2.result i c.index-class.result.now c.requires.classes c.states.ensures c.len-2.ensures there c.index-class.ensures in
    let below = class-below m classes i c.index-class.result.now c.requires.classes there class in
    let within : c.index-class.result.now < c.len.result = omega arith in
    let long = ap length c.in_ok-states.ensures ∙ length-by_number (times_in c.as_slice.result.now) c.len.result in
    let size : c.index.result.now ≡ group_size m i = group-read m classes c.as_slice.result.now c.in_ok-states.states.items c.len.result i c.index-class.result.now c.index.result.now c.requires.classes c.in_ok-states.ensures c.as_slice.ensures.value class within (get_or_read c.in_ok-states.states.items c.index-class.result.now c.index.result.now (omega arith) c.index.ensures 0) in
    let next : suc i ≡ i + 1 = omega arith in
    c.in_ok-push.ensures.items ∙ ap (λ l. l ++ c.index.result.now ∷ []) c.loop-fault.invariant ∙ ap (λ k. map (group_size m) (count_up 0 i) ++ k ∷ []) size
    ∙ by_number_more (group_size m) i ∙ ap (λ k. map (group_size m) (count_up 0 k)) next
