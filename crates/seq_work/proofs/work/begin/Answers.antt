use Rattle.std.proofs.Common.{◌≡◌, ◌∙◌, ◌++◌, ◌∷◌, [], List, refl, sym, ap, subst, arith}
use Rattle.std.specs.Prelude.{false}
use Rattle.seq_theory.specs.Problem.{is_end}
use Rattle.seq_theory.specs.Graph.{is_entered, IsWanted, root}
use Rattle.seq_theory.specs.Rows.{groups_of, no_value}
use Rattle.seq_inst.specs.declared.outcome.Row.{Row}
use Rattle.seq_inst.specs.Members.{members}
use Rattle.seq_inst.specs.Instances.{problem_of}
use Rattle.seq_core.specs.RowsOf.{rows_of as rows_from}
use Rattle.seq_graph.specs.Known.{Narrows}
use Rattle.seq_work.proofs.TurnLaws.{longer}
use Rattle.seq_work.proofs.RunLaws.{first-group}
use Rattle.seq_work.proofs.work.begin.Goals as goal

pub take_in-requires-clause-there : goal.take_in-requires-clause-there
take_in-requires-clause-there c = c.requires.root.there c.requires.more

pub take_in-requires-clause-group : goal.take_in-requires-clause-group
take_in-requires-clause-group c = c.requires.root.group c.requires.more ∙ sym c.requires.all

pub take_in-requires-clause-real : goal.take_in-requires-clause-real
take_in-requires-clause-real c =
    let p = problem_of c.args.inst.now in
    record {
      wanted = subst (IsWanted p) (sym c.requires.all) root;
      goals = subst (λ g. is_end p g ≡ false) (sym c.requires.all) c.requires.more;
    }

pub take_in-requires-clause-new : goal.take_in-requires-clause-new
take_in-requires-clause-new c = subst (λ (l : List Row). is_entered (groups_of (rows_from l)) (members c.args.all.now) ≡ false) (sym c.requires.empty) refl

pub returns-clause-some : goal.returns-clause-some
returns-clause-some c =
    let more = longer c.args.local.now.graph.rows.items c.take_in.new.local.graph.rows.items _ c.take_in.ensures.narrows in
    omega arith

pub returns-clause-first : goal.returns-clause-first
returns-clause-first c =
    let row : Row = record { group = c.args.all.now; low = 0; up = no_value } in
    let new = c.take_in.new.local.graph.rows.items in
    let narrows = subst (λ (l : List Row). Narrows l new) (ap (λ (l : List Row). l ++ row ∷ []) c.requires.empty) c.take_in.ensures.narrows in
    ap members (first-group row [] new narrows) ∙ c.requires.all
