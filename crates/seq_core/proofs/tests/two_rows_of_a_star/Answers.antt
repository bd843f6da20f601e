use Rattle.std.proofs.Common.{◌≡◌, sym, subst}
use Rattle.seq_inst.specs.Members.{members}
use Rattle.seq_inst.specs.Instances.{problem_of}
use Rattle.seq_core.specs.Settled.{AreGroups}
use Rattle.seq_core.proofs.EventLaws.{sound_are_groups}
use Rattle.seq_core.proofs.ExampleLaws.{star_root, star_part}
use Rattle.seq_core.proofs.tests.two_rows_of_a_star.Goals as goal

pub step-first-requires-clause-real : goal.step-first-requires-clause-real
step-first-requires-clause-real g c = star_root c.in_ok-inst.inst (members c.root-all.result) c.in_ok-inst.ensures c.root-all.ensures.classes

pub step-second-requires-clause-real : goal.step-second-requires-clause-real
step-second-requires-clause-real g c = star_part c.in_ok-inst.inst (members c.root-all.result) (members c.part-passing.result) c.in_ok-inst.ensures c.root-all.ensures.classes c.part-passing.ensures.classes

pub lows-requires : goal.lows-requires
lows-requires g c =
    let e : c.rows-rows.result.now ≡ c.step-lowest.new.self.rows = c.rows-rows.ensures.rows in
    subst (AreGroups (problem_of c.in_ok-inst.inst)) (sym e) (sound_are_groups (problem_of c.in_ok-inst.inst) c.step-lowest.new.self.room c.step-lowest.new.self.rows c.step-lowest.ensures.of.sound)

pub vals-requires : goal.vals-requires
vals-requires g c =
    let e : c.rows-rows.result.now ≡ c.step-lowest.new.self.rows = c.rows-rows.ensures.rows in
    subst (AreGroups (problem_of c.in_ok-inst.inst)) (sym e) (sound_are_groups (problem_of c.in_ok-inst.inst) c.step-lowest.new.self.room c.step-lowest.new.self.rows c.step-lowest.ensures.of.sound)
