-- Halving a weight takes one octave off its line: the line of an octave at a + b is the sum of the lines of the octave
-- before it at a and at b, and a + b units. In the first octave a line is lower by at most two units, and a + b is at
-- least 2. So each merge of Huffman's rule adds at most its sum to the potential.
use Rattle.std.proofs.Math.Pow.{pow_mono}
use Rattle.std.proofs.Math.Nat.{mul-le-mul_right}
use Rattle.std.proofs.Common.{◌≡◌, ℕ, zero, suc, ◌+◌, ◌-◌, ◌*◌, ◌^◌, ◌<◌, ◌≤◌, List, [], ◌∷◌, length, get_or, refl, ap, ◌∙◌, arith, inl, inr}
use Rattle.std.proofs.lemmas.Bool.{cases_lt, le-leb, lt-leb}
use Rattle.seq_theory.specs.Huffman.{place_in, upward, merging, huff}
use Rattle.seq_theory.proofs.HuffmanLaws.{length-place, length-upward, total, total-place, total-upward}
use Rattle.seq_huff.specs.declared.potential.Line.{Line}
use Rattle.seq_huff.specs.Potential.{unit, line_at, most_at, most_in, AreFlat, lines, potential}

-- no weight is 0
abbrev pub ArePositive : List ℕ → Type 0
ArePositive [] = Unit {0}
ArePositive (x ∷ xs) = (1 ≤ x) × ArePositive xs

-- the two steps over plain numbers
up_step : (p q a b u : ℕ) → (p + u) * (a + b) - (q + q) ≤ ((p * a - q) + (p * b - q)) + u * (a + b)
up_step p q a b u = omega arith

first_step : (m n a b u : ℕ) → n ≤ u * (a + b) → m * (a + b) - n ≤ ((m * a - n) + (m * b - n)) + u * (a + b)
first_step m n a b u h = omega arith

two_powers : (n k : ℕ) → n * 2 ^ suc k ≡ n * 2 ^ k + n * 2 ^ k
two_powers n k = let e : 2 ^ suc k ≡ 2 ^ k + 2 ^ k = omega arith in ap (λ x. n * x) e ∙ omega arith

line-up : (l : Line) (k a b : ℕ) → line_at l (suc k) (a + b) ≤ (line_at l k a + line_at l k b) + unit * (a + b)
line-up l k a b =
    let s : l.slope + suc k * unit ≡ (l.slope + k * unit) + unit = omega arith in
    let t = two_powers l.less k in
    let e : line_at l (suc k) (a + b) ≡ ((l.slope + k * unit) + unit) * (a + b) - (l.less * 2 ^ k + l.less * 2 ^ k) = ap (λ x. x * (a + b) - l.less * 2 ^ suc k) s ∙ ap (λ x. ((l.slope + k * unit) + unit) * (a + b) - x) t in
    let f = up_step (l.slope + k * unit) (l.less * 2 ^ k) a b unit in
    omega arith

line-first : (l : Line) (a b : ℕ) → l.less ≤ 2 * unit → 1 ≤ a → 1 ≤ b → line_at l 0 (a + b) ≤ (line_at l 0 a + line_at l 0 b) + unit * (a + b)
line-first l a b le h1 h2 =
    let f = first_step (l.slope + 0 * unit) (l.less * 2 ^ 0) a b unit (omega arith) in
    f

most-up : (ls : List Line) (k a b : ℕ) → most_at ls (suc k) (a + b) ≤ (most_at ls k a + most_at ls k b) + unit * (a + b)
most-up [] k a b = omega arith
most-up (l ∷ ls) k a b = let f = line-up l k a b in let g = most-up ls k a b in omega arith

most-first : (ls : List Line) (a b : ℕ) → AreFlat ls → 1 ≤ a → 1 ≤ b → most_at ls 0 (a + b) ≤ (most_at ls 0 a + most_at ls 0 b) + unit * (a + b)
most-first [] a b flat h1 h2 = omega arith
most-first (l ∷ ls) a b flat h1 h2 = let f = line-first l a b flat.0 h1 h2 in let g = most-first ls a b flat.2 h1 h2 in omega arith

most-merges : (ls : List Line) (n a b : ℕ) → AreFlat ls → 1 ≤ a → 1 ≤ b → most_in ls n (a + b) ≤ (most_in ls n a + most_in ls n b) + unit * (a + b)
most-merges ls zero a b flat h1 h2 = omega arith
most-merges ls (suc zero) a b flat h1 h2 = let f = most-first ls a b flat h1 h2 in omega arith
most-merges ls (suc (suc k)) a b flat h1 h2 =
    let f = most-up ls k a b in
    let g = most-merges ls (suc k) a b flat h1 h2 in
    omega arith

positive-place : (n : ℕ) (xs : List ℕ) → 1 ≤ n → ArePositive xs → ArePositive (place_in n xs)
positive-place n [] h p = (h, tt)
positive-place n (x ∷ xs) h p = elim (cases_lt x n) [
  | inl lt ↦ rw (lt-leb n x lt) (p.0, positive-place n xs h p.1)
  | inr ge ↦ rw (le-leb n x ge) (h, p)
]

positive-upward : (xs : List ℕ) → ArePositive xs → ArePositive (upward xs)
positive-upward [] p = tt
positive-upward (x ∷ xs) p = positive-place x (upward xs) p.0 (positive-upward xs p.1)

-- of a potential: what a merge adds is at most the sum
module _ (f : ℕ → ℕ) (merges : (a b : ℕ) → 1 ≤ a → 1 ≤ b → f (a + b) ≤ (f a + f b) + unit * (a + b)) where
  merging-above : (k : ℕ) (xs : List ℕ) → ArePositive xs → 1 ≤ length xs → length xs ≤ suc k → f (total (λ w. w) xs) ≤ total f xs + unit * merging k xs
  merging-above k [] p h le = absurd (let bad : ⊥ = omega arith in bad)
  merging-above k (x ∷ []) p h le = let e : x + 0 ≡ x = omega arith in let g = ap f e in omega arith
  merging-above zero (x ∷ y ∷ xs) p h le = absurd (let bad : ⊥ = omega arith in bad)
  merging-above (suc k) (x ∷ y ∷ xs) p h le =
      let len = length-place (x + y) xs in
      let rest = merging-above k (place_in (x + y) xs) (positive-place (x + y) xs (let q = p.0 in omega arith) p.1.1) (omega arith) (omega arith) in
      let t1 = total-place (λ w. w) (x + y) xs in
      let t2 = total-place f (x + y) xs in
      let e : total (λ w. w) (place_in (x + y) xs) ≡ x + (y + total (λ w. w) xs) = omega arith in
      let s = ap f e in
      let two = merges x y p.0 p.1.0 in
      omega arith

  huffman-above : (ws : List ℕ) → ArePositive ws → 1 ≤ length ws → f (total (λ w. w) ws) ≤ total f ws + unit * huff ws
  unfolding huff
  huffman-above ws p h =
      let l = length-upward ws in
      let m = merging-above (length ws) (upward ws) (positive-upward ws p) (omega arith) (omega arith) in
      let e = ap f (total-upward (λ w. w) ws) in
      let t = total-upward f ws in
      omega arith

lines-flat : AreFlat lines
unfolding lines
lines-flat = (omega arith, omega arith, (omega arith, omega arith, (omega arith, omega arith, (omega arith, omega arith, (omega arith, omega arith, (omega arith, omega arith, (omega arith, omega arith, (omega arith, omega arith, (omega arith, omega arith, (omega arith, omega arith, (omega arith, omega arith, (omega arith, omega arith, (omega arith, omega arith, (omega arith, omega arith, (omega arith, omega arith, (omega arith, omega arith, tt))))))))))))))))

potential-merges : (a b : ℕ) → 1 ≤ a → 1 ≤ b → potential (a + b) ≤ (potential a + potential b) + unit * (a + b)
unfolding potential
potential-merges a b h1 h2 = most-merges lines 33 a b lines-flat h1 h2

-- the potential of the sum of some weights is at most their potentials and their Huffman cost
pub potential-below : (ws : List ℕ) → ArePositive ws → 1 ≤ length ws → potential (total (λ w. w) ws) ≤ total potential ws + unit * huff ws
potential-below ws p h = huffman-above potential potential-merges ws p h

-- ---- one line ----

flat-at : (ls : List Line) (i : ℕ) (d : Line) → i < length ls → AreFlat ls → ((get_or ls i d).slope < 2 ^ 24) × ((get_or ls i d).less ≤ 2 * unit)
flat-at [] i d lt flat = absurd (let bad : ⊥ = omega arith in bad)
flat-at (l ∷ ls) zero d lt flat = (flat.1, flat.0)
flat-at (l ∷ ls) (suc i) d lt flat = flat-at ls i d (omega arith) flat.2

line-at : (ls : List Line) (i octave w : ℕ) (d : Line) → i < length ls → line_at (get_or ls i d) octave w ≤ most_at ls octave w
line-at [] i octave w d lt = absurd (let bad : ⊥ = omega arith in bad)
line-at (l ∷ ls) zero octave w d lt = omega arith
line-at (l ∷ ls) (suc i) octave w d lt = let f = line-at ls i octave w d (omega arith) in omega arith

in-octave : (ls : List Line) (octave n w : ℕ) → octave < n → most_at ls octave w ≤ most_in ls n w
in-octave ls octave zero w lt = absurd (let bad : ⊥ = omega arith in bad)
in-octave ls octave (suc n) w lt = elim (cases_lt octave n) [
  | inl below ↦ (let f = in-octave ls octave n w below in omega arith)
  | inr ge ↦ (let is : octave ≡ n = omega arith in let e = ap (λ k. most_at ls k w) is in omega arith)
]

many-lines : length lines ≡ 16
unfolding lines
many-lines = refl

pub slope-small : (i : ℕ) (d : Line) → i < 16 → (get_or lines i d).slope < 2 ^ 24
slope-small i d few = let n = many-lines in (flat-at lines i d (omega arith) lines-flat).0

pub less-small : (i : ℕ) (d : Line) → i < 16 → (get_or lines i d).less < 2 ^ 22
less-small i d few = let n = many-lines in let f = (flat-at lines i d (omega arith) lines-flat).1 in omega arith

-- what one line says is at most the potential
pub one-line : (i octave w said : ℕ) (d : Line) → i < 16 → octave < 33 → said ≡ line_at (get_or lines i d) octave w → said ≤ potential w
unfolding potential
one-line i octave w said d few lt e =
    let n = many-lines in
    let f = line-at lines i octave w d (omega arith) in
    let g = in-octave lines octave 33 w lt in
    omega arith

pub top-small : (top w : ℕ) → 2 ^ top ≤ w → w < 2 ^ 32 → top < 32
top-small top w le lt = elim (cases_lt top 32) [
  | inl below ↦ below
  | inr ge ↦ (let f : 2 ^ 32 ≤ 2 ^ top = pow_mono ge in absurd (let bad : ⊥ = omega arith in bad))
]

-- ---- potentials are small ----

line-small : (l : Line) (octave w : ℕ) → octave < 33 → l.slope < 2 ^ 24 → line_at l octave w ≤ 2 ^ 26 * w
line-small l octave w lt small =
    let s : l.slope + octave * unit ≤ 2 ^ 26 = omega arith in
    let f = mul-le-mul_right w s in
    omega arith

most-small : (ls : List Line) (octave w : ℕ) → octave < 33 → AreFlat ls → most_at ls octave w ≤ 2 ^ 26 * w
most-small [] octave w lt flat = omega arith
most-small (l ∷ ls) octave w lt flat = let f = line-small l octave w lt flat.1 in let g = most-small ls octave w lt flat.2 in omega arith

most_in-small : (ls : List Line) (n w : ℕ) → n ≤ 33 → AreFlat ls → most_in ls n w ≤ 2 ^ 26 * w
most_in-small ls zero w le flat = omega arith
most_in-small ls (suc n) w le flat = let f = most-small ls n w (omega arith) flat in let g = most_in-small ls n w (omega arith) flat in omega arith

pub potential-small : (w : ℕ) → potential w ≤ 2 ^ 26 * w
unfolding potential
potential-small w = most_in-small lines 33 w (omega arith) lines-flat
