use Rattle.std.proofs.Common.{◌+◌, ◌*◌, arith, rules, Some, None}
use Rattle.std.specs.Int.{trailing_zeros, w64}
use Rattle.seq_inst.proofs.FirstLaws.{found-step}
use Rattle.seq_inst.proofs.AheadLaws.{passed-more, passed-all, next-found}
use Rattle.seq_inst.proofs.ahead.Ahead.next_class.Goals as goal

pub returns-then-self-ge7-clause-none : goal.returns-then-self-ge7-clause-none
returns-then-self-ge7-clause-none c from ahead = passed-all c.args.group.now c.loop-self.self from (c.loop-self.invariant.passed from ahead) c.loop-self-test.true c.if-self-ge7.true

pub loop-self-preserved : goal.loop-self-preserved
loop-self-preserved c = record {
  there = omega arith;
  small = search rules;
  passed = λ from ahead. passed-more c.args.group.now c.loop-self.self from (c.loop-self.invariant.passed from ahead) c.loop-self-test.true (let m = c.if-self-ge7.false in omega arith);
}

pub returns-clause-found : goal.returns-clause-found
returns-clause-found c from ahead =
    let some = c.loop-self-test.false in
    next-found c.args.group.now c.loop-self.self from (c.loop-self.invariant.passed from ahead) (omega arith) c.loop-self.invariant.small

pub returns-then-self-ge7-clause-step : goal.returns-then-self-ge7-clause-step
returns-then-self-ge7-clause-step c from le ahead = found-step c.args.group.now from None le (returns-then-self-ge7-clause-none c from ahead)

pub returns-clause-step : goal.returns-clause-step
returns-clause-step c from le ahead = found-step c.args.group.now from (Some (64 * c.loop-self.self.place + trailing_zeros w64 c.loop-self.self.word)) le (returns-clause-found c from ahead).first

pub returns-clause-ahead : goal.returns-clause-ahead
returns-clause-ahead c from ahead = (returns-clause-found c from ahead).after
