use Rattle.std.proofs.Common.{◌≡◌, sym, subst}
use Rattle.seq_inst.specs.Members.{members}
use Rattle.seq_inst.specs.Instances.{problem_of}
use Rattle.seq_core.specs.Settled.{AreGroups}
use Rattle.seq_core.proofs.EventLaws.{sound_are_groups}
use Rattle.seq_core.proofs.ExampleLaws.{two_root, two_part}
use Rattle.seq_core.proofs.tests.one_row_of_two_faults.Goals as goal

pub step-entered-requires-clause-real : goal.step-entered-requires-clause-real
step-entered-requires-clause-real g c = two_root c.in_ok-inst.inst (members c.root-all.result) c.in_ok-inst.ensures c.root-all.ensures.classes

pub step-second-requires-clause-real : goal.step-second-requires-clause-real
step-second-requires-clause-real g c = two_part c.in_ok-inst.inst (members c.root-all.result) (members c.part-passing.result) c.in_ok-inst.ensures c.root-all.ensures.classes c.part-passing.ensures.classes

pub lows-requires : goal.lows-requires
lows-requires g c =
    let e : c.rows.result.now ≡ c.step-nowhere.new.self.rows = c.rows.ensures.rows in
    subst (AreGroups (problem_of c.in_ok-inst.inst)) (sym e) (sound_are_groups (problem_of c.in_ok-inst.inst) c.step-nowhere.new.self.room c.step-nowhere.new.self.rows c.step-nowhere.ensures.of.sound)

pub vals-requires : goal.vals-requires
vals-requires g c =
    let e : c.rows-2.result.now ≡ c.step-nowhere.new.self.rows = c.rows-2.ensures.rows in
    subst (AreGroups (problem_of c.in_ok-inst.inst)) (sym e) (sound_are_groups (problem_of c.in_ok-inst.inst) c.step-nowhere.new.self.room c.step-nowhere.new.self.rows c.step-nowhere.ensures.of.sound)
