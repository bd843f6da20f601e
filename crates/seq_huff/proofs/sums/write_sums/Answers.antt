use Rattle.std.proofs.Common.{◌≡◌, ◌∙◌, ◌+◌, ℕ, List, ◌∷◌, length, drop, set, sym, ap, arith, subst}
use Rattle.std.proofs.lemmas.List.{get_or_read}
use Rattle.seq_theory.specs.Problem.{splits}
use Rattle.seq_inst.specs.Members.{members}
use Rattle.seq_inst.specs.Instances.{problem_of}
use Rattle.seq_huff.specs.Estimates.{AreSums}
use Rattle.seq_huff.proofs.CountedLaws.{counted-length}
use Rattle.seq_huff.proofs.FirstCostLaws.{costs_among, costs-upward, test-at}
use Rattle.seq_huff.proofs.SumsLaws.{Summed, summed-none, summed-more, summed-same, summed-all, left-in, left-out, left-none}
use Rattle.seq_huff.proofs.sums.write_sums.Goals as goal
use Rattle.seq_huff.proofs.sums.write_sums.Goals.{then-splits, else-splits}

pub splits-requires : goal.splits-requires
splits-requires c =
    let n = c.len-place-end.ensures ∙ c.args.order.now.tests.ok.0 in
    let at = (test-at (problem_of c.args.inst.now) c.args.order.now.tests.items c.loop-place.place c.index-test.result.now c.requires.order.tests (omega arith) c.index-test.ensures).there in
    let costs = c.args.inst.now.costs.ok.0 in
    omega arith

pub index-requires : goal.index-requires
index-requires c =
    let n = c.len-place-end.ensures ∙ c.args.order.now.tests.ok.0 in
    let at = (test-at (problem_of c.args.inst.now) c.args.order.now.tests.items c.loop-place.place c.index-test.result.now c.requires.order.tests (omega arith) c.index-test.ensures).there in
    let costs = c.args.inst.now.costs.ok.0 in
    omega arith

pub overflow_add-total : goal.overflow_add-total
overflow_add-total c =
    let p = problem_of c.args.inst.now in
    let n = c.len-place-end.ensures ∙ c.args.order.now.tests.ok.0 in
    let l = counted-length p.tests c.args.order.now.tests.items c.requires.order.tests.each_once in
    let few = c.args.inst.now.valid.tests in
    let s = c.loop-place.invariant.small in
    let m = c.loop-place.invariant.few in
    omega arith

pub offset_bounds-out-count : goal.offset_bounds-out-count
offset_bounds-out-count c =
    let p = problem_of c.args.inst.now in
    let n = c.len-place-end.ensures ∙ c.args.order.now.tests.ok.0 in
    let l = counted-length p.tests c.args.order.now.tests.items c.requires.order.tests.each_once in
    let few = c.args.inst.now.valid.tests in
    let m = c.loop-place.invariant.few in
    omega arith

pub bounds-out-count : goal.bounds-out-count
bounds-out-count c =
    let p = problem_of c.args.inst.now in
    let n = c.len-place-end.ensures ∙ c.args.order.now.tests.ok.0 in
    let l = counted-length p.tests c.args.order.now.tests.items c.requires.order.tests.each_once in
    let few = c.args.inst.now.valid.tests in
    let m = c.loop-place.invariant.few in
    let room = c.loop-place.invariant.room in
    omega arith

pub loop-place-init : goal.loop-place-init
loop-place-init c = summed-none _ _ c.requires.room

pub loop-place-preserved : goal.loop-place-preserved
loop-place-preserved c =
    let p = problem_of c.args.inst.now in
    let xs = members c.args.group.now in
    let tests = c.args.order.now.tests.items in
    let n = c.len-place-end.ensures ∙ c.args.order.now.tests.ok.0 in
    let t = test-at p tests c.loop-place.place c.index-test.result.now c.requires.order.tests (omega arith) c.index-test.ensures in
    let l = counted-length p.tests tests c.requires.order.tests.each_once in
    let few = c.args.inst.now.valid.tests in
    let m = c.loop-place.invariant.few in
    let all : List ℕ = costs_among p xs tests in
    let next : List ℕ = costs_among p xs (drop (c.loop-place.place + 1) tests) in
    elim c.if-splits.branch [
      | then-splits w ↦
          (let read : w.from-total.result ≡ p.cost c.index-test.result.now = w.from-total.ensures ∙ get_or_read c.args.inst.now.costs.items c.index-test.result.now w.index.result.now t.there w.index.ensures 0 in
          let cost = read ∙ ap p.cost t.is in
          let inside = ap (splits p xs) (sym t.is) ∙ sym c.splits.ensures ∙ w.if-splits.true in
          let small = (c.args.inst.now.valid.costs c.index-test.result.now t.there).1 in
          let more = summed-more all (costs_among p xs (drop c.loop-place.place tests)) next c.loop-place.out c.loop-place.count c.loop-place.place c.loop-place.total w.from-total.result c.loop-place.invariant
          (left-in p xs tests c.loop-place.place t.here inside ∙ ap (λ x. x ∷ next) (sym cost)) (omega arith) (omega arith) in
          subst (λ o. Summed all next o c.if-splits.count (c.loop-place.place + 1) c.if-splits.total) (sym w.out-is)
          (subst (λ k. Summed all next (set c.loop-place.out (c.loop-place.count + 1) (c.loop-place.total + w.from-total.result)) k (c.loop-place.place + 1) c.if-splits.total) (sym w.count-is)
          (subst (λ s. Summed all next (set c.loop-place.out (c.loop-place.count + 1) (c.loop-place.total + w.from-total.result)) (c.loop-place.count + 1) (c.loop-place.place + 1) s) (sym w.total-is) more)))
      | else-splits w ↦
          (let outside = ap (splits p xs) (sym t.is) ∙ sym c.splits.ensures ∙ w.if-splits.false in
          let same = summed-same all (costs_among p xs (drop c.loop-place.place tests)) next c.loop-place.out c.loop-place.count c.loop-place.place c.loop-place.total c.loop-place.invariant (left-out p xs tests c.loop-place.place t.here outside) in
          subst (λ o. Summed all next o c.if-splits.count (c.loop-place.place + 1) c.if-splits.total) (sym w.out-is)
          (subst (λ k. Summed all next c.loop-place.out k (c.loop-place.place + 1) c.if-splits.total) (sym w.count-is)
          (subst (λ s. Summed all next c.loop-place.out c.loop-place.count (c.loop-place.place + 1) s) (sym w.total-is) same)))
    ]

pub returns-clause-sums : goal.returns-clause-sums
returns-clause-sums c =
    let p = problem_of c.args.inst.now in
    let xs = members c.args.group.now in
    subst (λ l. AreSums l c.loop-place.out (c.loop-place.count + 1)) (costs-upward p xs c.args.order.now.tests.items c.requires.order.tests) c.loop-place.invariant.written

pub returns-clause-all : goal.returns-clause-all
returns-clause-all c =
    let p = problem_of c.args.inst.now in
    let xs = members c.args.group.now in
    let tests = c.args.order.now.tests.items in
    let n = c.len-place-end.ensures ∙ c.args.order.now.tests.ok.0 in
    let all = summed-all (costs_among p xs tests) _ _ _ _ _ c.loop-place.invariant (left-none p xs tests c.loop-place.place (omega arith)) in
    let e = ap length (costs-upward p xs tests c.requires.order.tests) in
    omega arith

pub returns-clause-few : goal.returns-clause-few
returns-clause-few c =
    let p = problem_of c.args.inst.now in
    let n = c.len-place-end.ensures ∙ c.args.order.now.tests.ok.0 in
    let l = counted-length p.tests c.args.order.now.tests.items c.requires.order.tests.each_once in
    let few = c.args.inst.now.valid.tests in
    let m = c.loop-place.invariant.few in
    let o = c.loop-place.auto in
    omega arith
