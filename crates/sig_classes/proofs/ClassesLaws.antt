-- What is read from the classes of a system.
use Rattle.std.proofs.Common.{◌≡◌, ℕ, ◌<◌, length, get_or, ap, ◌∙◌, arith}
use Rattle.std.proofs.lemmas.List.{get_or_read}
use Rattle.seq_theory.specs.States.{System, class_of, firsts}
use Rattle.sig_classes.specs.declared.classes.Classes.{Classes}
use Rattle.sig_classes.specs.Classes.{AreClassesOf, class_weight}
use Rattle.seq_theory.proofs.ByNumberLaws.{length-by_number, get_or-by_number}

module _ (sys : System) (classes : Classes) (are : AreClassesOf sys classes) where
  -- the class of a state, as it is read
  pub class-read : (s class : ℕ) → s < sys.states → class ≡ get_or classes.class_of.items s class → class ≡ class_of sys s
  class-read s class lt read =
      let long = are.states in
      get_or_read classes.class_of.items s class (omega arith) read 0 ∙ are.at s lt

  pub weight-at : (c : ℕ) → c < length (firsts sys) → get_or classes.weights.items c 0 ≡ class_weight sys c
  weight-at c lt = ap (λ l. get_or l c 0) are.sums ∙ get_or-by_number (class_weight sys) (length (firsts sys)) c 0 lt
