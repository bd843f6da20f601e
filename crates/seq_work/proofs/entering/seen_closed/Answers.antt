use Rattle.std.proofs.Common.{◌∙◌, ℕ, List, subst, arith}
use Rattle.seq_inst.specs.Members.{members}
use Rattle.seq_words.specs.Knowledge.{IsLow, IsUp}
use Rattle.seq_work.proofs.BackingLaws.{low-true, up-true}
use Rattle.seq_work.proofs.entering.seen_closed.Goals as goal

pub returns-in-There-clause-seen : goal.returns-in-There-clause-seen
returns-in-There-clause-seen c =
    let inst = c.args.inst.now in
    let before = c.args.seat.now.view in
    let place = c.args.place in
    let group = members c.args.group.now in
    let looked = c.in-There.ensures.looked in
    let told = c.requires.seat.told ∙ c.requires.told in
    let same = looked.same c.requires.there.1 in
    let low = subst (λ (bits : List ℕ). IsLow before.told bits c.in-There.low) same looked.low_right in
    let up = subst (λ (bits : List ℕ). IsUp before.told bits c.in-There.up) same looked.up_right in
    let seen = c.in-There.ensures.seen in
    let low_is = seen.low_is in
    let up_is = seen.up_is in
    let few = c.if-up-le-GREATEST_COST.true in
    record {
      right = λ n is. (low-true inst before place c.in-There.low group told c.requires.group low n is, up-true inst before place c.in-There.up group told c.requires.group up n is);
      small = omega arith;
      low = omega arith;
      up = omega arith;
    }
