use Rattle.std.proofs.Common.{◌+◌, ◌*◌, ◌/◌, ◌%◌, ◌<◌, ◌^◌, ◌∙◌, arith, get_or, rules, subst, inl, inr, Some, None}
use Rattle.std.proofs.lemmas.Bool.{cases_lt}
use Rattle.std.specs.Int.{trailing_zeros, w64}
use native.Mathlib.Nat.{div-one}
use Rattle.seq_inst.specs.Members.{IsFirstFrom}
use Rattle.std.proofs.lemmas.Nat.{shr_le}
use Rattle.seq_inst.proofs.FirstLaws.{first-in_word, none-in_word, first-after, found-step}
use Rattle.seq_inst.proofs.group.Group.first_from.Goals as goal

pub returns-then-word-ne0-clause-found : goal.returns-then-word-ne0-clause-found
returns-then-word-ne0-clause-found c =
    let below : get_or c.args.self.now.0 (c.args.class / 64) 0 < 2 ^ 64 = search rules in
    let small = shr_le (get_or c.args.self.now.0 (c.args.class / 64) 0) (c.args.class % 64) in
    first-in_word c.args.self.now (c.args.class / 64) (c.args.class % 64) c.args.class (omega arith) (omega arith) (omega arith) below (omega arith) (omega arith)

pub returns-then-word-ne0-clause-step : goal.returns-then-word-ne0-clause-step
returns-then-word-ne0-clause-step c le = found-step c.args.self.now c.args.class (Some (c.args.class + trailing_zeros w64 (get_or c.args.self.now.0 (c.args.class / 64) 0 / 2 ^ (c.args.class % 64)))) le (returns-then-word-ne0-clause-found c)

pub loop-i-init : goal.loop-i-init
loop-i-init c k ge lt = none-in_word c.args.self.now (c.args.class / 64) (c.args.class % 64) c.args.class (omega arith) (omega arith) c.if-word-ne0.false k ge lt

pub loop-i-preserved : goal.loop-i-preserved
loop-i-preserved c k ge lt =
    let i = c.loop-i.i in
    let none = c.loop-i.invariant in
    elim (cases_lt k (64 * i)) [
      | inl before ↦ none k ge before
      | inr there ↦ none-in_word c.args.self.now i 0 (64 * i) (omega arith) (omega arith) (div-one (get_or c.args.self.now.0 i 0) ∙ c.if-word-ne0-2.false) k there lt
    ]

pub returns-then-word-ne0-2-clause-found : goal.returns-then-word-ne0-2-clause-found
returns-then-word-ne0-2-clause-found c =
    let i = c.loop-i.i in
    let word = get_or c.args.self.now.0 i 0 in
    let below : word < 2 ^ 64 = search rules in
    let whole = div-one word in
    first-after c.args.self.now c.args.class (64 * i) (64 * i + trailing_zeros w64 word) (omega arith) c.loop-i.invariant
    (subst (λ n. IsFirstFrom c.args.self.now (64 * i) (64 * i + trailing_zeros w64 n)) whole (first-in_word c.args.self.now i 0 (64 * i) (omega arith) (omega arith) (omega arith) below (omega arith) (omega arith)))

pub returns-then-word-ne0-2-clause-step : goal.returns-then-word-ne0-2-clause-step
returns-then-word-ne0-2-clause-step c le = found-step c.args.self.now c.args.class (Some (64 * c.loop-i.i + trailing_zeros w64 (get_or c.args.self.now.0 c.loop-i.i 0))) le (returns-then-word-ne0-2-clause-found c)

pub returns-clause-step : goal.returns-clause-step
returns-clause-step c le = found-step c.args.self.now c.args.class None le (λ k ge lt. c.loop-i.invariant k ge (let n = c.loop-i-test.false in omega arith))
