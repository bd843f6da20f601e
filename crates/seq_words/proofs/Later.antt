-- Words that went on: no step takes back a state, a published group or a bound, so what was known of a place stays true.
use Rattle.std.proofs.Common.{◌≡◌, ◌≢◌, ℕ, ◌+◌, ◌*◌, ◌<◌, ◌≤◌, List, length, get_or, set, refl, sym, ◌∙◌, subst, arith, get_or-set_same}
use Rattle.std.proofs.lemmas.List.{get_or-set_other}
use Rattle.std.proofs.lemmas.Grind.{get_or-set_at}
use mathlib.Core.Logic.{dite}
use native.Mathlib.Decide.{ℕ_discrete}
use Rattle.seq_inst.specs.declared.instance.Instance.{Instance}
use Rattle.seq_words.specs.declared.view.Known.{Known}
use Rattle.seq_words.specs.declared.view.View.{View}
use Rattle.seq_words.specs.declared.view.Role.TheVariants.{Scribe}
use Rattle.seq_words.specs.Layout.{bits_at, state_at, low_at, up_at, row_held}
use Rattle.seq_words.specs.Knowledge.{known, heard}
use Rattle.seq_words.specs.Rule.{Stands, Drafts, Fits}
use Rattle.seq_words.proofs.Core.{span_same}

-- the words went on
pub record Later (ws ws' : List ℕ) : Type 0 where
  pub state : (p : ℕ) → get_or ws (state_at p) 0 ≡ 1 → get_or ws' (state_at p) 0 ≡ 1
  pub bits : (p j : ℕ) → get_or ws (state_at p) 0 ≡ 1 → j < 8 → get_or ws' (bits_at p j) 0 ≡ get_or ws (bits_at p j) 0
  pub low : (p : ℕ) → get_or ws (low_at p) 0 ≤ get_or ws' (low_at p) 0
  pub up : (p : ℕ) → get_or ws' (up_at p) 0 ≤ get_or ws (up_at p) 0

pub stands_later : (ws ws' : List ℕ) (p : ℕ) (k : Known) → Later ws ws' → Stands ws p k → Stands ws' p k
stands_later ws ws' p k l s = record {
  there = λ t. l.state p (s.there t);
  few = s.few;
  first = s.first;
  bits = λ j h. let f = s.few in l.bits p j (s.there (s.first (omega arith))) (omega arith) ∙ s.bits j h;
  low = let a = s.low in let b = l.low p in omega arith;
  up = let a = s.up in let b = l.up p in omega arith;
  most = s.most;
}

pub drafts_later : (inst : Instance) (limit : ℕ) (ws ws' : List ℕ) (n : ℕ) (v : View) → ((p j : ℕ) → j < 8 → get_or ws' (bits_at p j) 0 ≡ get_or ws (bits_at p j) 0) → Drafts inst limit ws n v → Drafts inst limit ws' n v
drafts_later inst limit ws ws' n v same d = record {
  room = d.room;
  real = d.real;
  whole = d.whole;
  new = d.new;
  few = d.few;
  stored = λ j h. let f = d.few in same n j (omega arith) ∙ d.stored j h;
}

pub fits_later : (inst : Instance) (limit : ℕ) (ws ws' : List ℕ) (seat count j : ℕ) (v : View) → Later ws ws' → ((p j : ℕ) → j < 8 → get_or ws' (bits_at p j) 0 ≡ get_or ws (bits_at p j) 0) → Fits inst limit ws seat count j v → Fits inst limit ws' seat count j v
fits_later inst limit ws ws' seat count j v l same f = record {
  scribe = f.scribe;
  knows = f.knows;
  no_other = f.no_other;
  drafts = λ n e. drafts_later inst limit ws ws' n v same (f.drafts n e);
  terms = f.terms;
  stands = λ p. stands_later ws ws' p (known v p) l (f.stands p);
  hears = λ p. stands_later ws ws' p (heard v p) l (f.hears p);
}

-- a view that is no scribe's
pub fits_other : (inst : Instance) (limit : ℕ) (ws ws' : List ℕ) (seat count count' j : ℕ) (v : View) → Later ws ws' → ((n : ℕ) → v.role ≢ Scribe n) → Fits inst limit ws seat count j v → Fits inst limit ws' seat count' j v
fits_other inst limit ws ws' seat count count' j v l not f = record {
  scribe = λ n e. absurd (not n e);
  knows = λ n e. absurd (not n e);
  no_other = λ n e. absurd (not n e);
  drafts = λ n e. absurd (not n e);
  terms = f.terms;
  stands = λ p. stands_later ws ws' p (known v p) l (f.stands p);
  hears = λ p. stands_later ws ws' p (heard v p) l (f.hears p);
}

pub read_set : (P : ℕ → Type 0) (ws : List ℕ) (i n j : ℕ) → i < length ws → (j ≡ i → P n) → (j ≢ i → P (get_or ws j 0)) → P (get_or (set ws i n) j 0)
read_set P ws i n j h hit miss = dite (ℕ_discrete j i) (λ e. subst P (sym (get_or-set_at ws i j n 0 e h)) (hit e)) (λ ne. subst P (sym (get_or-set_other ws i j n 0 ne)) (miss ne))

pub later_same : (ws : List ℕ) → Later ws ws
later_same ws = record { state = λ p e. e; bits = λ p j e h. refl; low = λ p. omega arith; up = λ p. omega arith }

module _ (ws : List ℕ) (q n : ℕ) where
  pub other_low : (j : ℕ) → j ≢ low_at q → get_or (set ws (low_at q) n) j 0 ≡ get_or ws j 0
  other_low j ne = get_or-set_other ws (low_at q) j n 0 ne

  pub other_up : (j : ℕ) → j ≢ up_at q → get_or (set ws (up_at q) n) j 0 ≡ get_or ws j 0
  other_up j ne = get_or-set_other ws (up_at q) j n 0 ne

  pub other_state : (j : ℕ) → j ≢ state_at q → get_or (set ws (state_at q) n) j 0 ≡ get_or ws j 0
  other_state j ne = get_or-set_other ws (state_at q) j n 0 ne

  pub later_low : low_at q < length ws → get_or ws (low_at q) 0 ≤ n → Later ws (set ws (low_at q) n)
  later_low h le = record {
    state = λ p e. other_low (state_at p) (λ k. omega arith) ∙ e;
    bits = λ p j e b. other_low (bits_at p j) (λ k. omega arith);
    low = λ p. read_set (λ x. get_or ws (low_at p) 0 ≤ x) ws (low_at q) n (low_at p) h (λ e. subst (λ k. get_or ws k 0 ≤ n) (sym e) le) (λ ne. omega arith);
    up = λ p. let same = other_low (up_at p) (λ k. omega arith) in omega arith;
  }

  pub later_up : up_at q < length ws → n ≤ get_or ws (up_at q) 0 → Later ws (set ws (up_at q) n)
  later_up h le = record {
    state = λ p e. other_up (state_at p) (λ k. omega arith) ∙ e;
    bits = λ p j e b. other_up (bits_at p j) (λ k. omega arith);
    low = λ p. let same = other_up (low_at p) (λ k. omega arith) in omega arith;
    up = λ p. read_set (λ x. x ≤ get_or ws (up_at p) 0) ws (up_at q) n (up_at p) h (λ e. subst (λ k. n ≤ get_or ws k 0) (sym e) le) (λ ne. omega arith);
  }

  pub row_low : low_at q < length ws → row_held (set ws (low_at q) n) q ≡ record (row_held ws q) { low = n }
  row_low h = λ k. record { group = record { 0 = span_same ws (set ws (low_at q) n) (11 * q + 2) 8 (λ j b. other_low (11 * q + 2 + j) (λ e. omega arith)) k }; low = get_or-set_same ws (low_at q) n 0 h k; up = other_low (up_at q) (λ e. omega arith) k }

  pub row_up : up_at q < length ws → row_held (set ws (up_at q) n) q ≡ record (row_held ws q) { up = n }
  row_up h = λ k. record { group = record { 0 = span_same ws (set ws (up_at q) n) (11 * q + 2) 8 (λ j b. other_up (11 * q + 2 + j) (λ e. omega arith)) k }; low = other_up (low_at q) (λ e. omega arith) k; up = get_or-set_same ws (up_at q) n 0 h k }

  pub row_low_other : (p : ℕ) → p ≢ q → row_held (set ws (low_at q) n) p ≡ row_held ws p
  row_low_other p ne = λ k. record { group = record { 0 = span_same ws (set ws (low_at q) n) (11 * p + 2) 8 (λ j b. other_low (11 * p + 2 + j) (λ e. omega arith)) k }; low = other_low (low_at p) (λ e. ne (omega arith)) k; up = other_low (up_at p) (λ e. omega arith) k }

  pub row_up_other : (p : ℕ) → p ≢ q → row_held (set ws (up_at q) n) p ≡ row_held ws p
  row_up_other p ne = λ k. record { group = record { 0 = span_same ws (set ws (up_at q) n) (11 * p + 2) 8 (λ j b. other_up (11 * p + 2 + j) (λ e. omega arith)) k }; low = other_up (low_at p) (λ e. omega arith) k; up = other_up (up_at p) (λ e. ne (omega arith)) k }

  pub row_state : (p : ℕ) → row_held (set ws (state_at q) n) p ≡ row_held ws p
  row_state p = λ k. record { group = record { 0 = span_same ws (set ws (state_at q) n) (11 * p + 2) 8 (λ j b. other_state (11 * p + 2 + j) (λ e. omega arith)) k }; low = other_state (low_at p) (λ e. omega arith) k; up = other_state (up_at p) (λ e. omega arith) k }

pub later_state : (ws : List ℕ) (q : ℕ) → state_at q < length ws → Later ws (set ws (state_at q) 1)
later_state ws q h = record {
  state = λ p e. read_set (λ x. x ≡ 1) ws (state_at q) 1 (state_at p) h (λ _. refl) (λ _. e);
  bits = λ p j e b. other_state ws q 1 (bits_at p j) (λ k. omega arith);
  low = λ p. let same = other_state ws q 1 (low_at p) (λ k. omega arith) in omega arith;
  up = λ p. let same = other_state ws q 1 (up_at p) (λ k. omega arith) in omega arith;
}

-- a bits word of a place that is not published
pub later_bits : (ws : List ℕ) (q j n : ℕ) → j < 8 → get_or ws (state_at q) 0 ≡ 0 → Later ws (set ws (bits_at q j) n)
later_bits ws q j n small free = record {
  state = λ p e. get_or-set_other ws (bits_at q j) (state_at p) n 0 (λ k. omega arith) ∙ e;
  bits = λ p i e b. dite (ℕ_discrete p q)
      (λ same. let one = subst (λ x. get_or ws (state_at x) 0 ≡ 1) same e in absurd (omega arith))
      (λ ne. get_or-set_other ws (bits_at q j) (bits_at p i) n 0 (λ k. ne (omega arith)));
  low = λ p. let same = get_or-set_other ws (bits_at q j) (low_at p) n 0 (λ k. omega arith) in omega arith;
  up = λ p. let same = get_or-set_other ws (bits_at q j) (up_at p) n 0 (λ k. omega arith) in omega arith;
}

pub row_bits_other : (ws : List ℕ) (q j n p : ℕ) → j < 8 → p ≢ q → row_held (set ws (bits_at q j) n) p ≡ row_held ws p
row_bits_other ws q j n p b ne =
    let other : (i : ℕ) → i ≢ bits_at q j → get_or (set ws (bits_at q j) n) i 0 ≡ get_or ws i 0 = λ i ne'. get_or-set_other ws (bits_at q j) i n 0 ne' in
    λ k. record { group = record { 0 = span_same ws (set ws (bits_at q j) n) (11 * p + 2) 8 (λ i b'. other (11 * p + 2 + i) (λ e. ne (omega arith))) k }; low = other (low_at p) (λ e. omega arith) k; up = other (up_at p) (λ e. omega arith) k }
