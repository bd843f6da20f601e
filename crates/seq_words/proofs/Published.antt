-- The scribe's view after publishing: it knows the new place with its group, and of the other places what it knew.
use Rattle.std.proofs.Common.{◌≡◌, ◌≢◌, ℕ, ◌<◌, true, List, length, refl, sym, ap, ◌∙◌, subst, arith, length-set}
use mathlib.Core.Logic.{dite}
use native.Mathlib.Decide.{ℕ_discrete}
use Rattle.atomic_table.specs.Seated.{TableId}
use Rattle.seq_theory.specs.Rows.{no_value}
use Rattle.seq_words.specs.declared.view.Known.{Known}
use Rattle.seq_words.specs.declared.view.View.{View}
use Rattle.seq_words.specs.Knowledge.{unknown, known, HasGroup, Covers}
use Rattle.seq_words.specs.Plays.{published}
use Rattle.seq_words.specs.Seats.{Wording, Sitting, IsOf, sees}
use Rattle.seq_words.proofs.Views.{M}
use Rattle.seq_words.proofs.Covering.{IsMore, known_here, known_other, more_same, covers_more}

abbrev row_new : List ℕ → Known
row_new bits = record { there = true; bits = bits; low = 0; up = no_value }

pub published-of : (w : Wording) (x : Sitting) (place : ℕ) (bits : List ℕ) → IsOf w x → IsOf w (sees x (published place bits x.view))
published-of w x place bits f = record { table = f.table; told = f.told; limit = f.limit; sized = length-set x.view.known place (row_new bits) ∙ f.sized }

pub published-knows : (v : View) (place : ℕ) (bits : List ℕ) → place < length v.known → length bits ≡ 8 → HasGroup place bits (published place bits v)
published-knows v place bits h whole =
    let is = known_here v place (row_new bits) h in
    (ap (λ (k : Known). k.there) is, ap (λ (k : Known). k.bits) is, whole)

pub published-others : (v : View) (place : ℕ) (bits : List ℕ) (other : ℕ) → other ≢ place → known (published place bits v) other ≡ known v other
published-others v place bits other apart = known_other v place other (row_new bits) apart

more-new : (bits : List ℕ) → IsMore unknown (row_new bits)
more-new bits = record { there = λ _. refl; bits = λ h. absurd (omega arith); low = omega arith; up = omega arith }

pub published-covers : (v : View) (place : ℕ) (bits : List ℕ) → place < length v.known → known v place ≡ unknown → Covers (published place bits v) v
published-covers v place bits h fresh = covers_more (published place bits v) v (λ q. dite (ℕ_discrete q place)
    (λ e. subst (λ (z : ℕ). IsMore (known v z) (known (published place bits v) z)) (sym e)
    (subst (λ (k : Known). IsMore k (known (published place bits v) place)) (sym fresh) (subst (IsMore unknown) (sym (known_here v place (row_new bits) h)) (more-new bits))))
    (λ ne. more_same (known (published place bits v) q) (known v q) (published-others v place bits q ne)))

-- what the seat tells of its view, as the scribe shows it
pub published-seen : (old : Sitting) (id id' : TableId) (me me' : M) (place : ℕ) (bits : List ℕ) → record { table = id; view = me.0 } ≡ old → id' ≡ id → me' ≡ (published place bits me.0, me.1) → record { table = id'; view = me'.0 } ≡ sees old (published place bits old.view)
published-seen old id id' me me' place bits is same learns =
    (λ k. record { table = same k; view = (learns k).0 }) ∙ ap (λ (x : Sitting). sees x (published place bits x.view)) is

pub place-inside : (w : Wording) (x : Sitting) (place : ℕ) → IsOf w x → place < x.view.limit → place < length x.view.known
place-inside w x place f h = let a = f.sized in let b = f.limit in omega arith
