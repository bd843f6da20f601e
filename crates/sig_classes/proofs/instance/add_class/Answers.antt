use Rattle.std.proofs.Common.{◌+◌, ◌∙◌, sym, subst}
use Rattle.std.proofs.lemmas.List.{set-get_or}
use Rattle.seq_inst.specs.Valid.{no_class}
use Rattle.sig_classes.proofs.PassingLaws.{AddedBelow, added_fails, added_passes}
use Rattle.sig_classes.proofs.instance.add_class.Goals as goal
use Rattle.sig_classes.proofs.instance.add_class.Goals.{then-not-has_test, else-not-has_test}

pub loop-test-preserved : goal.loop-test-preserved
loop-test-preserved c =
    let row = c.args.row in
    let class = c.args.class in
    let n = c.loop-test.test in
    elim c.if-not-has_test.branch [
      | then-not-has_test w ↦
          subst (AddedBelow row class (n + 1) c.args.passes.now) (sym w.passes-is)
          (added_passes row class n c.args.passes.now c.loop-test.passes w.add_to.new.group c.loop-test.invariant c.loop-test-test.true w.add_to.ensures (sym c.has_test.ensures ∙ w.if-not-has_test.true))
      | else-not-has_test w ↦
          subst (AddedBelow row class (n + 1) c.args.passes.now) (sym (w.passes-is ∙ set-get_or c.loop-test.passes n no_class))
          (added_fails row class n c.args.passes.now c.loop-test.passes c.loop-test.invariant (sym c.has_test.ensures ∙ w.if-not-has_test.false))
    ]
