use Rattle.std.proofs.Common.{◌≡◌, ◌∙◌, sym, ap, arith, refl}
use Rattle.seq_theory.specs.Rows.{known_low}
use Rattle.seq_inst.specs.Members.{members}
use Rattle.seq_inst.specs.Instances.{problem_of}
use Rattle.seq_core.specs.RowsOf.{rows_of as rows_from}
use Rattle.seq_graph.specs.declared.graph.Count.{Count}
use Rattle.seq_graph.specs.Numbered.{Numbered}
use Rattle.seq_graph.proofs.CountLaws.{count-read}
use Rattle.seq_graph.proofs.CountChanges.{numbers-known}
use Rattle.seq_graph.proofs.KnownLaws.{known_low-small, light-group}
use Rattle.seq_graph.proofs.PlainLaws.{low-without}
use Rattle.seq_graph.proofs.RoomLaws.{keeps-room}
use Rattle.seq_graph.proofs.plain.low_of.Goals as goal

pub returns-in-Some-clause-value : goal.returns-in-Some-clause-value
returns-in-Some-clause-value c =
    let s = c.args.graph.now in
    ap (λ (x : Count). x.low) (count-read (problem_of c.args.inst.now) s.numbers s.rows.items s.nodes.items s.counts.items c.requires.known (members c.args.group.now) c.in-Some.number c.index.result.now c.in-Some.ensures.found c.index.ensures)

pub returns-in-Some-clause-fits : goal.returns-in-Some-clause-fits
returns-in-Some-clause-fits c =
    let s = c.args.graph.now in
    let inst = c.args.inst.now in
    let g = c.args.group.now in
    let value : c.index.result.now.low ≡ known_low (problem_of inst) (rows_from s.rows.items) (members g) = ap (λ (x : Count). x.low) (count-read (problem_of inst) s.numbers s.rows.items s.nodes.items s.counts.items c.requires.known (members g) c.in-Some.number c.index.result.now c.in-Some.ensures.found c.index.ensures) in
    let small = known_low-small inst s.rows.items c.requires.known.rows_are (members g) (light-group inst g c.requires.within) in
    omega arith

pub returns-in-None-clause-known : goal.returns-in-None-clause-known
returns-in-None-clause-known c =
    let s = c.args.graph.now in
    numbers-known (problem_of c.args.inst.now) s.numbers c.bound_within.new.self s.rows.items s.nodes.items s.counts.items c.requires.known c.bound_within.ensures.numbers c.bound_within.ensures.keeps (ap (λ (v : Numbered). v.groups) c.bound_within.ensures.same)

pub returns-in-None-clause-keeps : goal.returns-in-None-clause-keeps
returns-in-None-clause-keeps c =
    let held = ap (λ (v : Numbered). v.held) c.bound_within.ensures.same in
    let all = c.bound_within.ensures.room.all in
    keeps-room _ _ refl (omega arith) refl (omega arith) (omega arith) (λ le. omega arith)

pub returns-in-None-clause-value : goal.returns-in-None-clause-value
returns-in-None-clause-value c =
    let s = c.args.graph.now in
    c.bound_within.ensures.value ∙ sym (low-without (problem_of c.args.inst.now) s.numbers s.rows.items s.nodes.items s.counts.items c.requires.known (members c.args.group.now) c.in-None.ensures.none)
