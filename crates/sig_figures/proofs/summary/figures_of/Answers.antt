use Rattle.std.proofs.Common.{arith}
use Rattle.sig_figures.proofs.NamedLaws.{figures-named}
use Rattle.sig_figures.proofs.summary.figures_of.Goals as goal

pub overflow_cast-result-3 : goal.overflow_cast-result-3
overflow_cast-result-3 c =
    let matrix = c.args.matrix.now in
    let many = c.requires.classes.as_many in
    let le = c.requires.classes.few in
    let small = c.requires.valid.many in
    omega arith

pub returns-clause-figures : goal.returns-clause-figures
returns-clause-figures c = record {
  faults = c.len.ensures;
  tests = c.len-2.ensures;
  fault_weight = c.fault_weight.ensures;
  detected_weight = c.detected_weight.ensures;
  classes = (let many = c.requires.classes.as_many in omega arith);
  sizes = c.in_ok-sizes.ensures;
  undetected = c.in_ok-undetected.ensures;
  blind = c.in_ok-blind.ensures;
  equal = c.in_ok-equal.ensures;
  looped = c.in_ok-looped.ensures;
}

pub returns-clause-named : goal.returns-clause-named
returns-clause-named c = figures-named c.args.flat.now c.args.mode c.args.matrix.now _ (returns-clause-figures c)
