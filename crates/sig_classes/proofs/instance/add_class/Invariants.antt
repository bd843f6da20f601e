use Rattle.sig_classes.proofs.PassingLaws.{AddedBelow}
use Rattle.sig_classes.proofs.instance.add_class.Given as goal

-- the tests so far have the class where its row doesn't fail them
abbrev pub invariant-loop-test : goal.invariant-loop-test
invariant-loop-test l = AddedBelow l.row l.class l.test l.initial.passes l.passes
