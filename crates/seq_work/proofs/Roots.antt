-- A view that knows more knows the place of the group of all classes still.
use Rattle.std.proofs.Common.{ℕ, List, length, ap, ◌∙◌}
use Rattle.seq_theory.specs.Problem.{Problem}
use Rattle.seq_core.specs.Words.{classes_of}
use Rattle.seq_words.specs.declared.view.View.{View}
use Rattle.seq_words.specs.Knowledge.{Covers}
use Rattle.seq_work.specs.Ends.{KnowsRoot}

pub root-kept : (p : Problem) (v w : View) → Covers w v → KnowsRoot p v → KnowsRoot p w
root-kept p v w covers k = record {
  there = λ more. let t = k.there more in let c = covers 0 in (c.there t.0, ap (λ (l : List ℕ). length l) (c.bits t.1) ∙ t.1);
  group = λ more. let t = k.there more in let c = covers 0 in ap classes_of (c.bits t.1) ∙ k.group more;
}
