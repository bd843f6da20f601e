use Rattle.std.proofs.Common.{◌≢◌, ℕ, List, length, arith, sym, ap, ◌∙◌, subst, get_or}
use Rattle.seq_theory.specs.Graph.{IsReal}
use Rattle.seq_core.specs.Words.{classes_of}
use Rattle.seq_words.specs.Knowledge.{known, problem_in}
use Rattle.seq_words.proofs.PublishSteps.{begins_at}
use Rattle.seq_words.proofs.publishing.begin.Goals as goal

pub store-requires : goal.store-requires
store-requires g c =
    let v = c.args.seat.now.me.0 in
    let eq = c.requires.group in
    let may = c.requires.may.0 in
    let e = c.bits_word.ensures in
    let t = c.requires.table in
    let whole = sym (ap (λ (z : List ℕ). length z) eq) ∙ c.group_stands.ensures.eight in (
      t.0,
      omega (arith, t.1),
      rw e (begins_at _ _ _ _ _ _ _ g.D.Drafting.group may.next c.requires.may.1 may.room
          (subst (λ (z : List ℕ). IsReal (problem_in v.told) (classes_of z)) eq may.real) whole
          (λ p b. subst (λ (z : List ℕ). classes_of (known v p).bits ≢ classes_of z) eq (may.new p b)) (ap (λ (z : List ℕ). get_or z 0 0) eq)),
    )
