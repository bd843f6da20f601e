use Rattle.std.proofs.Common.{◌∙◌, ap, arith, length}
use Rattle.seq_inst.specs.Instances.{problem_of}
use Rattle.seq_core.specs.Changes.{raised, capped, change_row}
use Rattle.seq_core.specs.Tables.{Table}
use Rattle.seq_core.proofs.ChangeLaws.{length-change}
use Rattle.seq_core.proofs.SettleSteps.{tightened-is}
use Rattle.seq_core.proofs.settling.settle_row.Goals as goal

pub cap_to-requires : goal.cap_to-requires
cap_to-requires c =
    let t = c.args.core.now in
    let e = ap (λ (x : Table). length x.rows) c.raise_to.ensures in
    let l = length-change t.rows c.args.place (raised c.most_low-low.result) in
    let th = c.requires.there in
    omega arith

pub returns : goal.returns
returns c =
    let t = c.args.core.now in
    let low = c.most_low-low.result in
    let up = c.least_up-up.result in
    c.cap_to.ensures ∙ ap (λ (x : Table). record { room = x.room; rows = change_row x.rows c.args.place (capped up) }) c.raise_to.ensures
    ∙ ap (λ l. record { room = t.room; rows = l }) (tightened-is (problem_of c.args.inst.now) t.rows c.args.place low up c.requires.there c.most_low-low.ensures c.least_up-up.ensures)
