use Rattle.std.proofs.Common.{◌≡◌, sym, ap, ◌∙◌, subst}
use Rattle.seq_inst.specs.declared.instance.Instance.{Instance}
use Rattle.seq_words.specs.declared.view.View.{View}
use Rattle.seq_words.specs.Knowledge.{MayRaise, MayCap}
use Rattle.seq_words.specs.Rule.{opener}
use Rattle.seq_words.specs.Plays.{as_worker, published, learnt, hears_low, hears_up}
use Rattle.seq_words.specs.Seats.{Sitting, MayPublish, sees}
use Rattle.seq_words.specs.Examples.{all_bits, passing_bits}
use Rattle.seq_words.proofs.ExampleLaws.{scribe_one, scribe_two, worker_two, may_first, may_second, may_raise, may_cap, may_again}
use Rattle.seq_words.proofs.tests.two_seats_at_a_star.Goals as goal

-- the scribe's view after one group and after two, and the worker's
after_one : (inst : Instance) (before after : Sitting) → before.view ≡ opener inst 2 → after ≡ sees before (published 0 all_bits before.view) → after.view ≡ scribe_one inst
after_one inst before after e learns = ap (λ (s : Sitting). s.view) learns ∙ ap (published 0 all_bits) e

after_two : (inst : Instance) (before after : Sitting) → before.view ≡ scribe_one inst → after ≡ sees before (published 1 passing_bits before.view) → after.view ≡ scribe_two inst
after_two inst before after e learns = ap (λ (s : Sitting). s.view) learns ∙ ap (published 1 passing_bits) e

after_learn : (inst : Instance) (scribe seat after : Sitting) → scribe.view ≡ scribe_two inst → seat.view ≡ as_worker (opener inst 2) → after ≡ sees seat (learnt seat.view scribe.view) → after.view ≡ worker_two inst
after_learn inst scribe seat after e f learns = ap (λ (s : Sitting). s.view) learns ∙ (λ k. learnt (f k) (e k))

pub publish-requires-clause-may : goal.publish-requires-clause-may
publish-requires-clause-may g c =
    let inst = c.in_ok-inst.inst in
    subst (λ (v : View). MayPublish v 0 (record { 0 = all_bits })) (sym c.in_ok-words.ensures.views.0) (may_first inst c.in_ok-inst.ensures)

pub publish-requires-2-clause-may : goal.publish-requires-2-clause-may
publish-requires-2-clause-may g c =
    let inst = c.in_ok-inst.inst in
    let one = after_one inst c.in_ok-words.scribe c.publish.new.scribe c.in_ok-words.ensures.views.0 c.publish.ensures.learns in
    subst (λ (v : View). MayPublish v 1 (record { 0 = passing_bits })) (sym one) (may_second inst c.in_ok-inst.ensures)

pub raise-raised-requires-clause-may : goal.raise-raised-requires-clause-may
raise-raised-requires-clause-may g c =
    let inst = c.in_ok-inst.inst in
    let one = after_one inst c.in_ok-words.scribe c.publish.new.scribe c.in_ok-words.ensures.views.0 c.publish.ensures.learns in
    let two = after_two inst c.publish.new.scribe c.publish-2.new.scribe one c.publish-2.ensures.learns in
    let learnt_both = after_learn inst c.publish-2.new.scribe c.in_ok-words.first c.learn-first.result two c.in_ok-words.ensures.views.1 c.learn-first.ensures.learns in
    subst (λ (v : View). MayRaise v 1 9) (sym learnt_both) (may_raise inst c.in_ok-inst.ensures)

pub lower_cap-capped-requires-clause-may : goal.lower_cap-capped-requires-clause-may
lower_cap-capped-requires-clause-may g c =
    let inst = c.in_ok-inst.inst in
    let one = after_one inst c.in_ok-words.scribe c.publish.new.scribe c.in_ok-words.ensures.views.0 c.publish.ensures.learns in
    let two = after_two inst c.publish.new.scribe c.publish-2.new.scribe one c.publish-2.ensures.learns in
    let learnt_both = after_learn inst c.publish-2.new.scribe c.in_ok-words.first c.learn-first.result two c.in_ok-words.ensures.views.1 c.learn-first.ensures.learns in
    let raised = ap (λ (s : Sitting). s.view) c.raise-raised.ensures.learns ∙ ap (hears_low 1 c.raise-raised.result) learnt_both in
    subst (λ (v : View). MayCap v 1 9) (sym raised) (may_cap inst c.in_ok-inst.ensures c.raise-raised.result)

pub raise-again-requires-clause-may : goal.raise-again-requires-clause-may
raise-again-requires-clause-may g c =
    let inst = c.in_ok-inst.inst in
    let one = after_one inst c.in_ok-words.scribe c.publish.new.scribe c.in_ok-words.ensures.views.0 c.publish.ensures.learns in
    let two = after_two inst c.publish.new.scribe c.publish-2.new.scribe one c.publish-2.ensures.learns in
    let learnt_both = after_learn inst c.publish-2.new.scribe c.in_ok-words.first c.learn-first.result two c.in_ok-words.ensures.views.1 c.learn-first.ensures.learns in
    let raised = ap (λ (s : Sitting). s.view) c.raise-raised.ensures.learns ∙ ap (hears_low 1 c.raise-raised.result) learnt_both in
    let capped = ap (λ (s : Sitting). s.view) c.lower_cap-capped.ensures.learns ∙ ap (hears_up 1 c.lower_cap-capped.result) raised in
    subst (λ (v : View). MayRaise v 1 5) (sym capped) (may_again inst c.in_ok-inst.ensures c.raise-raised.result c.lower_cap-capped.result)
