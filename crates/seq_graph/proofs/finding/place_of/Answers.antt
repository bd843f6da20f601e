use Rattle.std.proofs.Common.{◌≡◌, ℕ, List, sym, ap, ◌∙◌, Option, Some, None}
use Rattle.std.specs.Prelude.{false, IfSome, IfNone}
use Rattle.seq_theory.specs.Graph.{is_entered}
use Rattle.seq_inst.specs.declared.outcome.Row.{Row}
use Rattle.seq_inst.specs.Members.{members}
use Rattle.seq_inst.specs.Instances.{problem_of}
use Rattle.seq_core.specs.RowsOf.{rows_of as rows_from, place_of_group}
use Rattle.seq_core.specs.Settled.{groups_in}
use Rattle.seq_graph.specs.declared.graph.Count.{Count}
use Rattle.seq_graph.specs.Behind.{IsPlaceOf}
use Rattle.seq_graph.proofs.PlaceLaws.{place-found, place-none}
use Rattle.seq_graph.proofs.RowLaws.{row-none}
use Rattle.seq_graph.proofs.CountLaws.{count-read}
use Rattle.seq_graph.proofs.LookLaws.{no-number}
use Rattle.seq_graph.proofs.finding.place_of.Goals as goal

found : (rows : List Row) (g : List ℕ) (o : Option ℕ) → o ≡ place_of_group (rows_from rows) g → IfSome o (IsPlaceOf rows g)
found rows g None e = tt
found rows g (Some k) e = let f = place-found rows g k (sym e) in record { there = f.in_range; same = sym f.same }

none : (rows : List Row) (g : List ℕ) (o : Option ℕ) → o ≡ place_of_group (rows_from rows) g → IfNone o (is_entered (groups_in rows) g ≡ false)
none rows g None e = row-none (rows_from rows) g (place-none rows g (sym e))
none rows g (Some k) e = tt

pub returns-in-Some-clause-found : goal.returns-in-Some-clause-found
returns-in-Some-clause-found c =
    let s = c.args.graph.now in
    let g = members c.args.group.now in
    let is = count-read (problem_of c.args.inst.now) s.numbers s.rows.items s.nodes.items s.counts.items c.requires g c.in-Some.number c.index.result.now c.in-Some.ensures.found c.index.ensures in
    found s.rows.items g c.index.result.now.place (ap (λ (x : Count). x.place) is)

pub returns-in-Some-clause-none : goal.returns-in-Some-clause-none
returns-in-Some-clause-none c =
    let s = c.args.graph.now in
    let g = members c.args.group.now in
    let is = count-read (problem_of c.args.inst.now) s.numbers s.rows.items s.nodes.items s.counts.items c.requires g c.in-Some.number c.index.result.now c.in-Some.ensures.found c.index.ensures in
    none s.rows.items g c.index.result.now.place (ap (λ (x : Count). x.place) is)

pub returns-in-None-clause-none : goal.returns-in-None-clause-none
returns-in-None-clause-none c =
    let s = c.args.graph.now in
    let g = members c.args.group.now in
    row-none (rows_from s.rows.items) g (no-number (problem_of c.args.inst.now) s.numbers s.rows.items s.nodes.items s.counts.items c.requires g c.in-None.ensures.none)
