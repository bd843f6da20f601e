use Rattle.std.proofs.Common.{ℕ, ◌∷◌, ◌++◌, [], ap, sym, ◌∙◌}
use Rattle.std.specs.Option.{option_map}
use Rattle.sig_figures.specs.Columns.{paired, earlier_equal}
use Rattle.sig_figures.proofs.UpTo.{filter_map-yes, filter_map-no}
use Rattle.sig_figures.proofs.columns.equal_tests.Goals as goal
use Rattle.sig_figures.proofs.columns.equal_tests.Goals.{in-Some+in_ok-push, in_default}

pub loop-test-preserved : goal.loop-test-preserved
loop-test-preserved c =
    let h = λ (test : ℕ). option_map (paired test) (earlier_equal c.args.matrix.now test) in
    let i = c.loop-test.test in
    elim c.match-first_equal.branch [
      | in-Some+in_ok-push w ↦
          w.tests-is ∙ w.in_ok-push.ensures.ok ∙ ap (λ l. l ++ paired i w.in-Some.first ∷ []) c.loop-test.invariant
          ∙ sym (filter_map-yes h i (paired i w.in-Some.first) (ap (option_map (paired i)) (sym w.in-Some.ensures)))
      | in_default w ↦ w.tests-is ∙ c.loop-test.invariant ∙ sym (filter_map-no h i (ap (option_map (paired i)) (sym w.in_default.ensures)))
    ]
