use Rattle.std.proofs.Common.{◌≡◌, ◌∙◌, ◌+◌, ◌-◌, ℕ, sym, ap, arith, subst}
use Rattle.std.proofs.lemmas.List.{get_or_read}
use Rattle.seq_theory.specs.Problem.{splits}
use Rattle.seq_theory.specs.Bound.{sum_first, next_after}
use Rattle.seq_inst.specs.Members.{members}
use Rattle.seq_inst.specs.Instances.{problem_of}
use Rattle.seq_huff.proofs.FirstCostLaws.{Counted, costs-upward, counted-in, counted-out, counted-now, counted-all, counted-small, test-at}
use Rattle.seq_huff.proofs.ordered.first_costs.Goals as goal
use Rattle.seq_huff.proofs.ordered.first_costs.Goals.{then-splits+else-left-eq0, else-splits}

pub splits-requires : goal.splits-requires
splits-requires c =
    let n = c.len-place-end.ensures ∙ c.args.order.now.tests.ok.0 in
    let at = (test-at (problem_of c.args.inst.now) c.args.order.now.tests.items c.loop-place.place c.index-test.result.now c.requires.order.tests (omega arith) c.index-test.ensures).there in
    let costs = c.args.inst.now.costs.ok.0 in
    omega arith

pub index-requires : goal.index-requires
index-requires c =
    let n = c.len-place-end.ensures ∙ c.args.order.now.tests.ok.0 in
    let at = (test-at (problem_of c.args.inst.now) c.args.order.now.tests.items c.loop-place.place c.index-test.result.now c.requires.order.tests (omega arith) c.index-test.ensures).there in
    let costs = c.args.inst.now.costs.ok.0 in
    omega arith

pub returns-then-left-eq0-clause-sum : goal.returns-then-left-eq0-clause-sum
returns-then-left-eq0-clause-sum c =
    let p = problem_of c.args.inst.now in
    let xs = members c.args.group.now in
    let tests = c.args.order.now.tests.items in
    let n = c.len-place-end.ensures ∙ c.args.order.now.tests.ok.0 in
    let t = test-at p tests c.loop-place.place c.index-test.result.now c.requires.order.tests (omega arith) c.index-test.ensures in
    let cost : c.from-cost.result ≡ p.cost c.index-test.result.now = c.from-cost.ensures ∙ get_or_read c.args.inst.now.costs.items c.index-test.result.now c.index.result.now t.there c.index.ensures 0 in
    let now = counted-now p xs tests c.args.count c.loop-place.place c.loop-place.sum c.loop-place.left c.loop-place.invariant c.from-cost.result t.here
    (ap (splits p xs) (sym t.is) ∙ sym c.splits.ensures ∙ c.if-splits.true) (cost ∙ ap p.cost t.is) c.if-left-eq0.true in
    now.0 ∙ ap (sum_first c.args.count) (costs-upward p xs tests c.requires.order.tests)

pub returns-then-left-eq0-clause-next : goal.returns-then-left-eq0-clause-next
returns-then-left-eq0-clause-next c =
    let p = problem_of c.args.inst.now in
    let xs = members c.args.group.now in
    let tests = c.args.order.now.tests.items in
    let n = c.len-place-end.ensures ∙ c.args.order.now.tests.ok.0 in
    let t = test-at p tests c.loop-place.place c.index-test.result.now c.requires.order.tests (omega arith) c.index-test.ensures in
    let cost : c.from-cost.result ≡ p.cost c.index-test.result.now = c.from-cost.ensures ∙ get_or_read c.args.inst.now.costs.items c.index-test.result.now c.index.result.now t.there c.index.ensures 0 in
    let now = counted-now p xs tests c.args.count c.loop-place.place c.loop-place.sum c.loop-place.left c.loop-place.invariant c.from-cost.result t.here
    (ap (splits p xs) (sym t.is) ∙ sym c.splits.ensures ∙ c.if-splits.true) (cost ∙ ap p.cost t.is) c.if-left-eq0.true in
    now.1 ∙ ap (next_after c.args.count) (costs-upward p xs tests c.requires.order.tests)

pub overflow_add-sum : goal.overflow_add-sum
overflow_add-sum c =
    let p = problem_of c.args.inst.now in
    let xs = members c.args.group.now in
    let tests = c.args.order.now.tests.items in
    let n = c.len-place-end.ensures ∙ c.args.order.now.tests.ok.0 in
    let t = test-at p tests c.loop-place.place c.index-test.result.now c.requires.order.tests (omega arith) c.index-test.ensures in
    let cost : c.from-cost.result ≡ p.cost c.index-test.result.now = c.from-cost.ensures ∙ get_or_read c.args.inst.now.costs.items c.index-test.result.now c.index.result.now t.there c.index.ensures 0 in
    let some = c.if-left-eq0.false in
    let next = counted-in p xs tests c.args.count c.loop-place.place c.loop-place.sum c.loop-place.left c.loop-place.invariant c.from-cost.result t.here
    (ap (splits p xs) (sym t.is) ∙ sym c.splits.ensures ∙ c.if-splits.true) (cost ∙ ap p.cost t.is) (omega arith) in
    let small = counted-small c.args.inst.now c.args.group.now tests c.args.count (c.loop-place.place + 1) (c.loop-place.sum + c.from-cost.result) (c.loop-place.left - 1) c.requires.within c.requires.more c.requires.order.tests next in
    omega arith

pub loop-place-preserved : goal.loop-place-preserved
loop-place-preserved c =
    let p = problem_of c.args.inst.now in
    let xs = members c.args.group.now in
    let tests = c.args.order.now.tests.items in
    let n = c.len-place-end.ensures ∙ c.args.order.now.tests.ok.0 in
    let t = test-at p tests c.loop-place.place c.index-test.result.now c.requires.order.tests (omega arith) c.index-test.ensures in
    let after : ℕ → ℕ → Type 0 = λ summed left. Counted p xs tests c.args.count (c.loop-place.place + 1) summed left in
    elim c.if-splits.branch [
      | then-splits+else-left-eq0 w ↦
          (let cost : w.from-cost.result ≡ p.cost c.index-test.result.now = w.from-cost.ensures ∙ get_or_read c.args.inst.now.costs.items c.index-test.result.now w.index.result.now t.there w.index.ensures 0 in
          let some = w.if-left-eq0.false in
          let next = counted-in p xs tests c.args.count c.loop-place.place c.loop-place.sum c.loop-place.left c.loop-place.invariant w.from-cost.result t.here
          (ap (splits p xs) (sym t.is) ∙ sym c.splits.ensures ∙ w.if-splits.true) (cost ∙ ap p.cost t.is) (omega arith) in
          subst (λ n. after n c.if-splits.left) (sym w.sum-is) (subst (λ n. after (c.loop-place.sum + w.from-cost.result) n) (sym w.left-is) next))
      | else-splits w ↦
          (let next = counted-out p xs tests c.args.count c.loop-place.place c.loop-place.sum c.loop-place.left c.loop-place.invariant t.here
          (ap (splits p xs) (sym t.is) ∙ sym c.splits.ensures ∙ w.if-splits.false) in
          subst (λ n. after n c.if-splits.left) (sym w.sum-is) (subst (λ n. after c.loop-place.sum n) (sym w.left-is) next))
    ]

pub returns-clause-sum : goal.returns-clause-sum
returns-clause-sum c =
    let p = problem_of c.args.inst.now in
    let xs = members c.args.group.now in
    let tests = c.args.order.now.tests.items in
    let n = c.len-place-end.ensures ∙ c.args.order.now.tests.ok.0 in
    let all = counted-all p xs tests c.args.count c.loop-place.place c.loop-place.sum c.loop-place.left c.loop-place.invariant (omega arith) in
    all.0 ∙ ap (sum_first c.args.count) (costs-upward p xs tests c.requires.order.tests)

pub returns-clause-next : goal.returns-clause-next
returns-clause-next c =
    let p = problem_of c.args.inst.now in
    let xs = members c.args.group.now in
    let tests = c.args.order.now.tests.items in
    let n = c.len-place-end.ensures ∙ c.args.order.now.tests.ok.0 in
    let all = counted-all p xs tests c.args.count c.loop-place.place c.loop-place.sum c.loop-place.left c.loop-place.invariant (omega arith) in
    all.1 ∙ ap (next_after c.args.count) (costs-upward p xs tests c.requires.order.tests)
