use Rattle.std.proofs.Common.{◌≡◌, ◌<◌, ◌∙◌, sym, arith, subst, None, length}
use Rattle.seq_theory.specs.Rows.{IsSound}
use Rattle.seq_inst.specs.Members.{members}
use Rattle.seq_inst.specs.Instances.{problem_of}
use Rattle.seq_core.specs.declared.event.Event.TheVariants.{Enter}
use Rattle.seq_core.specs.RowsOf.{rows_of, place_of_group}
use Rattle.seq_core.proofs.TableLaws.{place-absent, length-rows_of}
use Rattle.seq_core.proofs.CoreLaws.{sound-after}
use Rattle.seq_core.proofs.machine.Core.enter.Goals as goal

pub returns-clause-of : goal.returns-clause-of
returns-clause-of c =
    let inst = c.args.inst.now in
    let t = c.args.self.now in
    let g = members c.args.group.now in
    let at : place_of_group (rows_of t.rows) g ≡ None = sym c.place_of.ensures ∙ c.in_default.is in
    let long = length-rows_of t.rows in
    let room : length (rows_of t.rows) < t.room = omega arith in
    record {
      sound = subst (λ n. IsSound (problem_of inst) n (rows_of c.add.new.self.rows)) (sym c.add.ensures.room)
          (sound-after c.runs_hold.ensures.runs inst t.room t.rows c.add.new.self.rows (Enter c.args.group.now) c.requires.of.sound (c.requires.real, (place-absent t.rows g at).no_group, room) c.add.ensures.rows);
    }
