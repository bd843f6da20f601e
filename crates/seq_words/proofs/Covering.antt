-- A view that knows more of one place covers the view that it was.
use Rattle.std.proofs.Common.{◌≡◌, ◌≢◌, ℕ, ◌<◌, ◌≤◌, true, length, sym, ap, ◌∙◌, subst, arith, length-set, get_or-set_same}
use Rattle.std.proofs.lemmas.List.{get_or-set_other}
use Rattle.std.proofs.lemmas.Grind.{get_or-set_at}
use mathlib.Core.Logic.{dite}
use native.Mathlib.Decide.{ℕ_discrete}
use Rattle.seq_words.specs.declared.view.Known.{Known}
use Rattle.seq_words.specs.declared.view.View.{View}
use Rattle.seq_words.specs.Knowledge.{unknown, known, Covers}
use Rattle.seq_words.specs.Plays.{knows}
use Rattle.seq_words.specs.Seats.{Wording, Sitting, IsOf, sees}

pub known_here : (v : View) (p : ℕ) (k : Known) → p < length v.known → known (knows p k v) p ≡ k
known_here v p k h = get_or-set_same v.known p k unknown h

pub known_other : (v : View) (p q : ℕ) (k : Known) → q ≢ p → known (knows p k v) q ≡ known v q
known_other v p q k ne = get_or-set_other v.known p q k unknown ne

pub of_knows : (w : Wording) (x : Sitting) (p : ℕ) (k : Known) → IsOf w x → IsOf w (sees x (knows p k x.view))
of_knows w x p k f = record { table = f.table; told = f.told; limit = f.limit; sized = length-set x.view.known p k ∙ f.sized }

-- what is known of a place is more than before
pub record IsMore (old new : Known) : Type 0 where
  pub there : old.there ≡ true → new.there ≡ true
  pub bits : length old.bits ≡ 8 → new.bits ≡ old.bits
  pub low : old.low ≤ new.low
  pub up : new.up ≤ old.up

pub more_same : (a b : Known) → a ≡ b → IsMore b a
more_same a b e = record {
  there = λ t. ap (λ (k : Known). k.there) e ∙ t;
  bits = λ _. ap (λ (k : Known). k.bits) e;
  low = let l = ap (λ (k : Known). k.low) e in omega arith;
  up = let l = ap (λ (k : Known). k.up) e in omega arith;
}

pub covers_more : (v w : View) → ((p : ℕ) → IsMore (known w p) (known v p)) → Covers v w
covers_more v w f p = let m = f p in record { there = m.there; bits = m.bits; low = m.low; up = m.up }

pub covers_knows : (v : View) (p : ℕ) (k : Known) → p < length v.known → IsMore (known v p) k → Covers (knows p k v) v
covers_knows v p k h m = covers_more (knows p k v) v (λ q. dite (ℕ_discrete q p)
    (λ e. subst (λ (x : Known). IsMore (known v q) x) (sym (get_or-set_at v.known p q k unknown e h)) (subst (λ z. IsMore (known v z) k) (sym e) m))
    (λ ne. more_same (known (knows p k v) q) (known v q) (known_other v p q k ne)))
