-- The rule holds at the start.
use Rattle.std.proofs.Common.{◌≡◌, ℕ, zero, suc, ◌+◌, ◌*◌, ◌<◌, ◌≤◌, replicate, true≢false, List, [], ◌∷◌, length, get_or, refl, sym, ap, ◌∙◌, subst, arith}
use Rattle.std.proofs.lemmas.List.{get_or_past, length-replicate}
use Rattle.std.proofs.lemmas.Bool.Decides.{nat_tests}
use mathlib.Core.Logic.{dite}
use mathlib.Core.Option.{some, some-injective, some-ne-none}
use native.Mathlib.Decide.{dec_le}
use lib.ListN.{get_elem?}
use Rattle.atomic_table.specs.Table.{opening}
use Rattle.seq_inst.specs.declared.instance.Instance.{Instance}
use Rattle.seq_words.specs.declared.view.View.{View}
use Rattle.seq_words.specs.declared.view.Role.{Role}
use Rattle.seq_words.specs.declared.view.Role.TheVariants.{Worker, Scribe, Spent}
use Rattle.seq_theory.specs.Rows.{no_value}
use Rattle.seq_theory.proofs.RowLaws.{none-sound}
use Rattle.seq_inst.specs.Instances.{problem_of}
use Rattle.seq_words.specs.Layout.{state_at, low_at, up_at, blank_word}
use Rattle.seq_words.specs.Knowledge.{unknown}
use Rattle.seq_words.specs.Rule.{Stands, Fits, Kept, opener}

abbrev count_of : Role → ℕ
count_of (Scribe n) = n
count_of Worker = 0
count_of Spent = 0

blank_low : (p : ℕ) → blank_word (low_at p) ≡ 0
blank_low p = grind (arith, nat_tests)

blank_state : (p : ℕ) → blank_word (state_at p) ≡ 0
blank_state p = grind (arith, nat_tests)

blank_up : (p : ℕ) → blank_word (up_at p) ≡ no_value
blank_up p = grind (arith, nat_tests)

all_unknown : (n p : ℕ) → get_or (replicate n unknown) p unknown ≡ unknown
all_unknown zero p = refl
all_unknown (suc n) zero = refl
all_unknown (suc n) (suc p) = all_unknown n p

module _ (inst : Instance) (limit : ℕ) (ws : List ℕ) (wide : length ws ≡ 11 * limit + 2) (blank : (k : ℕ) → k < length ws → get_or ws k 0 ≡ blank_word k) where
  states : (p : ℕ) → get_or ws (state_at p) 0 ≡ 0
  states p = dite (dec_le (length ws) (state_at p)) (λ h. get_or_past ws (state_at p) 0 h) (λ n. blank (state_at p) (omega arith) ∙ blank_state p)

  lows : (p : ℕ) → get_or ws (low_at p) 0 ≡ 0
  lows p = dite (dec_le (length ws) (low_at p)) (λ h. get_or_past ws (low_at p) 0 h) (λ n. blank (low_at p) (omega arith) ∙ blank_low p)

  ups : (p : ℕ) → p < limit → get_or ws (up_at p) 0 ≡ no_value
  ups p h = blank (up_at p) (omega arith) ∙ blank_up p

  up_small : (p : ℕ) → get_or ws (up_at p) 0 ≤ no_value
  up_small p = dite (dec_le limit p) (λ h. let e = get_or_past ws (up_at p) 0 (omega arith) in omega arith) (λ n. let e = ups p (omega arith) in omega arith)

  first_fits : Fits inst limit ws 0 0 0 (opener inst limit)
  first_fits = record {
    scribe = λ n e. let nn : 0 ≡ n = ap count_of e in (refl, sym nn);
    knows = λ n e p h. let nn : 0 ≡ n = ap count_of e in absurd (omega arith);
    no_other = λ n e p h. ap (λ k. k.there) (all_unknown limit p);
    drafts = λ n e. record { room = λ h. absurd (omega arith); real = λ h. absurd (omega arith); whole = λ h. absurd (omega arith); new = λ h. absurd (omega arith); few = omega arith; stored = λ j h. absurd (omega arith) };
    terms = λ _. (refl, refl, length-replicate limit unknown);
    stands = λ p. subst (Stands ws p) (sym (all_unknown limit p)) record { there = λ t. absurd (true≢false (sym t)); few = omega arith; first = λ h. absurd (omega arith); bits = λ j h. absurd (omega arith); low = omega arith; up = up_small p; most = omega arith };
    hears = λ p. record { there = λ t. absurd (true≢false (sym t)); few = omega arith; first = λ h. absurd (omega arith); bits = λ j h. absurd (omega arith); low = omega arith; up = up_small p; most = omega arith };
  }

  only : (j : ℕ) (v : View) → get_elem? (opener inst limit ∷ []) j ≡ some v → Fits inst limit ws 0 0 j v
  only zero v e = subst (Fits inst limit ws 0 0 0) (some-injective _ _ e) first_fits
  only (suc j) v e = absurd (some-ne-none v (sym e))

  pub opens : Kept inst limit (opening ws [] (opener inst limit))
  opens = record {
    seat = 0;
    count = 0;
    wide = wide;
    unused = blank 1 (omega arith);
    most = omega arith;
    published = λ p h. absurd (omega arith);
    unpublished = λ p _. states p;
    fresh = λ p _ h. (lows p, ups p h);
    small = up_small;
    sound = none-sound (problem_of inst) limit;
    views = only;
  }
