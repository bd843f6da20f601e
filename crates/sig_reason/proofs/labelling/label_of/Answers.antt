use Rattle.std.proofs.Common.{◌≡◌, ◌<◌, ◌≤◌, ℕ, List, length, get_or, subst, arith}
use Rattle.std.specs.Prelude.{Contains}
use Rattle.sig_reason.specs.declared.found.Finding.{Finding}
use Rattle.sig_reason.specs.declared.causes.Standing.{Standing}
use Rattle.sig_reason.specs.Rules.{IsTally, AreWithins, AreRuled}
use Rattle.sig_reason.proofs.LabelLaws.{Gathered, conflict-at, labels-are, some-set}
use Rattle.sig_reason.proofs.labelling.label_of.Goals as goal

-- a test that was found is one of the first 256
small : (findings : List Finding) (tests : ℕ) → tests ≤ 256 → ((k : ℕ) (d : Finding) → k < length findings → (get_or findings k d).test < tests) → (x : Finding) → Contains findings x → x.test < 256
small findings tests few all x has = let under = subst (λ (f : Finding). f.test < tests) has.2 (all has.0 x has.1) in omega arith

pub returns-in-Some-clause-conflict : goal.returns-in-Some-clause-conflict
returns-in-Some-clause-conflict c =
    conflict-at c.args.matrix.now c.args.findings.now c.tests_that-passed.result c.tests_that-failed.result c.in_ok-standings.standings.items c.tally_of-tally.result
    (record {
      small = small c.args.findings.now (length c.args.matrix.now.tests) c.requires.tests c.requires.there;
      passes = c.tests_that-passed.ensures;
      fails = c.tests_that-failed.ensures;
      standings_are = c.in_ok-standings.ensures;
      tally_is = subst (λ l. IsTally l (length l) c.tally_of-tally.result) c.as_slice.ensures.value c.tally_of-tally.ensures;
    })
    c.without.result c.in-Some.test c.without.ensures c.in-Some.ensures.first

pub returns-clause-labels : goal.returns-clause-labels
returns-clause-labels c =
    labels-are c.args.matrix.now c.args.findings.now c.tests_that-passed.result c.tests_that-failed.result c.in_ok-standings.standings.items c.tally_of-tally.result
    (record {
      small = small c.args.findings.now (length c.args.matrix.now.tests) c.requires.tests c.requires.there;
      passes = c.tests_that-passed.ensures;
      fails = c.tests_that-failed.ensures;
      standings_are = c.in_ok-standings.ensures;
      tally_is = subst (λ l. IsTally l (length l) c.tally_of-tally.result) c.as_slice.ensures.value c.tally_of-tally.ensures;
    })
    c.without.result c.without.ensures c.in_default.ensures.none
    c.in_ok-withins.withins.items
    (subst (λ l. AreWithins l c.tests_that-failed.result 256 c.in_ok-withins.withins.items) c.as_slice-2.ensures.value c.in_ok-withins.ensures)
    c.in_ok-labels.labels.items
    (subst (λ l. AreRuled l c.tally_of-tally.result.several c.in_ok-withins.withins.items c.in_ok-labels.labels.items) c.as_slice-3.ensures.value
    (subst (λ w. AreRuled c.as_slice-3.result.now c.tally_of-tally.result.several w c.in_ok-labels.labels.items) c.as_slice-4.ensures.value c.in_ok-labels.ensures))

pub returns-clause-possible : goal.returns-clause-possible
returns-clause-possible c =
    some-set c.args.matrix.now c.args.findings.now c.tests_that-passed.result c.tests_that-failed.result c.in_ok-standings.standings.items c.tally_of-tally.result
    (record {
      small = small c.args.findings.now (length c.args.matrix.now.tests) c.requires.tests c.requires.there;
      passes = c.tests_that-passed.ensures;
      fails = c.tests_that-failed.ensures;
      standings_are = c.in_ok-standings.ensures;
      tally_is = subst (λ l. IsTally l (length l) c.tally_of-tally.result) c.as_slice.ensures.value c.tally_of-tally.ensures;
    })
    c.without.result c.without.ensures c.in_default.ensures.none
