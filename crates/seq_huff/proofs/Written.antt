-- Numbers that a loop writes one after another: the first so many of a list are what a function gives of the classes or
-- tests that were met so far.
use Rattle.std.proofs.Common.{◌≡◌, ℕ, ◌+◌, ◌<◌, List, [], ◌∷◌, ◌++◌, length, sym, ap, ◌∙◌, arith, subst, take, set, length-append, add-one}
use Rattle.std.proofs.Math.Seq.{take-suc-set}
use Rattle.std.proofs.lemmas.List.{map-append}
use Rattle.std.specs.Prelude.{map}
pub use Rattle.seq_theory.specs.Below.{passing_below}
pub use Rattle.seq_theory.proofs.BelowLaws.{passing-zero, passing-in, passing-out, passing-all}

-- the first so many of the list are what f gives of the classes
pub record Written (f : ℕ → ℕ) (classes out : List ℕ) (count : ℕ) : Type 0 where
  pub many : count ≡ length classes
  pub values : take count out ≡ map f classes

pub written-none : (f : ℕ → ℕ) (classes out : List ℕ) → classes ≡ [] → Written f classes out 0
written-none f classes out e = record { many = sym (ap length e); values = sym (ap (map f) e) }

pub written-more : (f : ℕ → ℕ) (classes more out : List ℕ) (count class value : ℕ) → Written f classes out count → count < length out → more ≡ classes ++ class ∷ [] → value ≡ f class → Written f more (set out count value) (count + 1)
written-more f classes more out count class value w lt e v = record {
  many = (let l = length-append classes (class ∷ []) in let l2 = ap length e in let m = w.many in omega arith);
  values =
      rw add-one (take-suc-set out count value lt)
      ∙ ap (λ l. l ++ value ∷ []) w.values
      ∙ ap (λ x. map f classes ++ x ∷ []) v
      ∙ sym (ap (map f) e ∙ map-append f classes (class ∷ []));
}

pub written-same : (f : ℕ → ℕ) (classes more out : List ℕ) (count : ℕ) → Written f classes out count → more ≡ classes → Written f more out count
written-same f classes more out count w e = subst (λ l. Written f l out count) (sym e) w
