use Rattle.std.proofs.Common.{◌∙◌, ◌-◌, ◌<◌, ◌∷◌, ◌++◌, [], length, take, set, get_or, sym, ap, subst, arith}
use Rattle.std.proofs.Math.ListN.{length-set}
use Rattle.std.specs.Prelude.{All}
use Rattle.std.proofs.lemmas.Option.{slice_get_within}
use Rattle.std.proofs.lemmas.List.{get_or_read}
use Rattle.seq_theory.specs.Problem.{IsIn, IsWithin, splitting}
use Rattle.seq_inst.specs.declared.outcome.Row.{Row}
use Rattle.seq_inst.specs.Instances.{problem_of}
use Rattle.seq_inst.specs.Members.{members}
use Rattle.seq_graph.specs.declared.node.Waiting.{Waiting}
use Rattle.seq_graph.specs.KeptOf.{KeepsTests}
use Rattle.seq_graph.specs.Known.{no_row, splits_at, waiting_at}
use Rattle.seq_graph.proofs.KnownLaws.{row-within}
use Rattle.seq_graph.proofs.NumberLaws.{keeps-long}
use Rattle.seq_graph.proofs.CountLaws.{kept-read, counts-long}
use Rattle.seq_graph.proofs.CountChanges.{evaluated-known}
use Rattle.seq_graph.proofs.SplitLaws.{splits-read, splits-set, waiting-read, waiting-set, last-read}
use Rattle.seq_graph.proofs.WaitingLaws.{length-taken, before-taken}
use Rattle.seq_graph.proofs.waiting.evaluate.Goals as goal

pub evaluate-done-requires-clause-within : goal.evaluate-done-requires-clause-within
evaluate-done-requires-clause-within c =
    let s = c.make_room.new.graph in
    let mr = c.make_room.ensures in
    let long_rows = ap (λ v. length v.items) mr.rows in
    let long_nodes = ap (λ v. length v.items) mr.nodes in
    let given = c.requires.place in
    let place : c.args.place < length s.rows.items = omega arith in
    let p = problem_of c.args.inst.now in
    let read = get_or_read s.rows.items c.args.place c.index.result.now place c.index.ensures no_row in
    subst (λ (r : Row). IsWithin p (members r.group)) (sym read) (row-within p s.rows.items mr.known.rows_are c.args.place place)

pub evaluate-done-requires-clause-there : goal.evaluate-done-requires-clause-there
evaluate-done-requires-clause-there c =
    let s = c.make_room.new.graph in
    let mr = c.make_room.ensures in
    let long_rows = ap (λ v. length v.items) mr.rows in
    let long_nodes = ap (λ v. length v.items) mr.nodes in
    let given = c.requires.place in
    let place : c.args.place < length s.rows.items = omega arith in
    let long = c.make_room.ensures.known.kept_are.as_many in
    let there = c.requires.there in
    let moved = ap (λ v. length (waiting_at v.items c.args.place)) mr.nodes in
    let read = ap length (waiting-read s.nodes.items c.args.place c.index_mut.result.now (omega arith) c.index_mut.ensures.value) in
    let many = c.index_mut.result.now.waiting.ok.0 in
    omega arith

pub evaluate-done-requires-clause-splits : goal.evaluate-done-requires-clause-splits
evaluate-done-requires-clause-splits c =
    let s = c.make_room.new.graph in
    let mr = c.make_room.ensures in
    let long_rows = ap (λ v. length v.items) mr.rows in
    let long_nodes = ap (λ v. length v.items) mr.nodes in
    let given = c.requires.place in
    let place : c.args.place < length s.rows.items = omega arith in
    let p = problem_of c.args.inst.now in
    let read = get_or_read s.rows.items c.args.place c.index.result.now place c.index.ensures no_row in
    let of = kept-read p s.numbers s.rows.items s.nodes.items s.counts.items mr.known c.args.place c.index_mut.result.now place c.index_mut.ensures.value in
    subst (λ (r : Row). All (λ (w : Waiting). IsIn w.test (splitting p (members r.group))) c.index_mut.result.now.waiting.items) (sym read) of.tests.waiting_are

pub count_new-requires-clause-fewer : goal.count_new-requires-clause-fewer
count_new-requires-clause-fewer c =
    let s = c.make_room.new.graph in
    let mr = c.make_room.ensures in
    let long_rows = ap (λ v. length v.items) mr.rows in
    let long_nodes = ap (λ v. length v.items) mr.nodes in
    let given = c.requires.place in
    let place : c.args.place < length s.rows.items = omega arith in
    let long = counts-long (problem_of c.args.inst.now) s.numbers s.rows.items s.nodes.items s.counts.items mr.known in
    let more = keeps-long s.numbers.groups c.evaluate-done.new.numbers.groups c.evaluate-done.ensures.keeps in
    omega arith

pub returns-then-done-clause-known : goal.returns-then-done-clause-known
returns-then-done-clause-known c =
    let s = c.make_room.new.graph in
    let mr = c.make_room.ensures in
    let long_rows = ap (λ v. length v.items) mr.rows in
    let long_nodes = ap (λ v. length v.items) mr.nodes in
    let given = c.requires.place in
    let place : c.args.place < length s.rows.items = omega arith in
    let p = problem_of c.args.inst.now in
    let k = c.index_mut.result.now in
    let e = c.evaluate-done.ensures in
    let read = get_or_read s.rows.items c.args.place c.index.result.now place c.index.ensures no_row in
    evaluated-known c.args.inst.now s.numbers c.evaluate-done.new.numbers s.rows.items s.nodes.items s.counts.items mr.known e.numbers e.keeps c.args.place k c.evaluate-done.new.self c.count_new.new.counts.items
    place c.index_mut.ensures.value e.number e.weight e.bound e.capped e.most (subst (λ (r : Row). KeepsTests p s.numbers c.evaluate-done.new.numbers (members r.group) k c.evaluate-done.new.self) read e.tests) c.count_new.ensures.counts

pub returns-then-done-clause-fewer : goal.returns-then-done-clause-fewer
returns-then-done-clause-fewer c =
    let s = c.make_room.new.graph in
    let mr = c.make_room.ensures in
    let long_rows = ap (λ v. length v.items) mr.rows in
    let long_nodes = ap (λ v. length v.items) mr.nodes in
    let given = c.requires.place in
    let place : c.args.place < length s.rows.items = omega arith in
    let long = c.make_room.ensures.known.kept_are.as_many in
    let before = ap length (waiting-read s.nodes.items c.args.place c.index_mut.result.now (omega arith) c.index_mut.ensures.value) in
    let after = ap length (waiting-set s.nodes.items c.args.place c.evaluate-done.new.self (omega arith)) in
    let e = c.evaluate-done.ensures.evaluated c.if-done.true in
    let taken = ap length e.waiting in
    let moved = ap (λ v. length (waiting_at v.items c.args.place)) mr.nodes in
    let fewer = length-taken c.index_mut.result.now.waiting.items c.args.at e.entry e.waited in
    omega arith

pub returns-then-done-clause-before : goal.returns-then-done-clause-before
returns-then-done-clause-before c =
    let s = c.make_room.new.graph in
    let mr = c.make_room.ensures in
    let long_rows = ap (λ v. length v.items) mr.rows in
    let long_nodes = ap (λ v. length v.items) mr.nodes in
    let given = c.requires.place in
    let place : c.args.place < length s.rows.items = omega arith in
    let long = c.make_room.ensures.known.kept_are.as_many in
    let before = waiting-read s.nodes.items c.args.place c.index_mut.result.now (omega arith) c.index_mut.ensures.value in
    let after = waiting-set s.nodes.items c.args.place c.evaluate-done.new.self (omega arith) in
    let e = c.evaluate-done.ensures.evaluated c.if-done.true in
    let taken = before-taken c.index_mut.result.now.waiting.items c.args.at e.entry (slice_get_within c.index_mut.result.now.waiting.items c.args.at e.entry e.waited) in
    ap (take c.args.at) (after ∙ e.waiting) ∙ taken ∙ sym (ap (take c.args.at) before) ∙ ap (λ v. take c.args.at (waiting_at v.items c.args.place)) mr.nodes

pub returns-then-done-clause-last : goal.returns-then-done-clause-last
returns-then-done-clause-last c =
    let s = c.make_room.new.graph in
    let mr = c.make_room.ensures in
    let long_rows = ap (λ v. length v.items) mr.rows in
    let given = c.requires.place in
    let place : c.args.place < length s.rows.items = omega arith in
    let long = c.make_room.ensures.known.kept_are.as_many in
    let nodes = s.nodes.items in
    let new = set nodes c.args.place c.evaluate-done.new.self in
    let same = length-set nodes c.args.place c.evaluate-done.new.self in
    let e = c.evaluate-done.ensures.evaluated c.if-done.true in
    let before = splits-read nodes c.args.place c.index_mut.result.now (omega arith) c.index_mut.ensures.value in
    let after = splits-set nodes c.args.place c.evaluate-done.new.self (omega arith) ∙ e.splits in
    let read = c.as_slice-splits.ensures.value ∙ sym (splits-read new c.args.place c.index-then-done.result.now (omega arith) c.index-then-done.ensures) ∙ after in
    after ∙ ap (λ s. c.index_mut.result.now.splits.items ++ s ∷ []) (sym (last-read c.as_slice-splits.result.now c.index_mut.result.now.splits.items e.split _ read))
    ∙ ap (λ l. l ++ get_or c.as_slice-splits.result.now (length c.as_slice-splits.result.now - 1) (record { test = 0; pass = 0; fail = 0 }) ∷ []) (sym before)
    ∙ ap (λ v. splits_at v.items c.args.place ++ get_or c.as_slice-splits.result.now (length c.as_slice-splits.result.now - 1) (record { test = 0; pass = 0; fail = 0 }) ∷ []) mr.nodes

pub returns-clause-known : goal.returns-clause-known
returns-clause-known c =
    let s = c.make_room.new.graph in
    let mr = c.make_room.ensures in
    let long_rows = ap (λ v. length v.items) mr.rows in
    let long_nodes = ap (λ v. length v.items) mr.nodes in
    let given = c.requires.place in
    let place : c.args.place < length s.rows.items = omega arith in
    let p = problem_of c.args.inst.now in
    let k = c.index_mut.result.now in
    let e = c.evaluate-done.ensures in
    let read = get_or_read s.rows.items c.args.place c.index.result.now place c.index.ensures no_row in
    evaluated-known c.args.inst.now s.numbers c.evaluate-done.new.numbers s.rows.items s.nodes.items s.counts.items mr.known e.numbers e.keeps c.args.place k c.evaluate-done.new.self c.count_new.new.counts.items
    place c.index_mut.ensures.value e.number e.weight e.bound e.capped e.most (subst (λ (r : Row). KeepsTests p s.numbers c.evaluate-done.new.numbers (members r.group) k c.evaluate-done.new.self) read e.tests) c.count_new.ensures.counts

pub returns-then-done-clause-keeps : goal.returns-then-done-clause-keeps
returns-then-done-clause-keeps c =
    let s = c.make_room.new.graph in
    λ more room.
    let r = c.make_room.ensures.keeps more room in
    let e = c.evaluate-done.ensures.room in
    let long = length-set s.nodes.items c.args.place c.evaluate-done.new.self in
    let nodes = r.nodes in
    let numbers = r.numbers in
    let held = e.held in
    let all = e.all in
    let counts = r.counts in
    let grown = c.count_new.ensures.capacity in
    record {
      rows = r.rows;
      nodes = omega arith;
      numbers = omega arith;
      counts = omega arith;
    }

pub returns-clause-keeps : goal.returns-clause-keeps
returns-clause-keeps c =
    let s = c.make_room.new.graph in
    λ more room.
    let r = c.make_room.ensures.keeps more room in
    let e = c.evaluate-done.ensures.room in
    let long = length-set s.nodes.items c.args.place c.evaluate-done.new.self in
    let nodes = r.nodes in
    let numbers = r.numbers in
    let held = e.held in
    let all = e.all in
    let counts = r.counts in
    let grown = c.count_new.ensures.capacity in
    record {
      rows = r.rows;
      nodes = omega arith;
      numbers = omega arith;
      counts = omega arith;
    }
