-- Chains, lists that go upward and lists of links, as a search for components has them.
use Rattle.std.proofs.Common.{◌≡◌, ℕ, ◌-◌, ◌<◌, ◌≤◌, List, [], ◌∷◌, ◌++◌, length, map, get_or, take, refl, sym, ap, ◌∙◌, arith, inl, inr, subst, length-append}
use Rattle.std.specs.List.{Contains}
use Rattle.std.proofs.lemmas.Bool.{cases_lt}
use Rattle.std.proofs.lemmas.List.Elements.{Contains-get_or}
use Rattle.std.proofs.lemmas.Grind.{get_or_default_zero}
use Rattle.std.proofs.lemmas.List.{get_or_append_left, get_or-append_right, get_or-map, get_or-take, length-map, length-take, map-append}
use Rattle.sig_reach.specs.Walks.{Leads, here, step}
use Rattle.sig_reach.specs.Components.{IsUpward, link_at, place_of}
use Rattle.sig_reach.specs.declared.components.Link.{Link}

module _ {V : Type 0} (Next : V → V → Type 0) where
  pub Leads-on : (a b c : V) → Leads Next a b → Leads Next b c → Leads Next a c
  Leads-on a b c here m = m
  Leads-on a b c (step {b = d} n rest) m = step n (Leads-on d b c rest m)

  pub Leads-one : (a b : V) → Next a b → Leads Next a b
  Leads-one a b n = step n here

-- where what a step leads to has what it leads from has, a chain keeps it
module _ {V : Type 0} (Next : V → V → Type 0) (P : V → Type 0) where
  pub Leads-keeps : ((a b : V) → P a → Next a b → P b) → (a b : V) → Leads Next a b → P a → P b
  Leads-keeps keeps a b here p = p
  Leads-keeps keeps a b (step {b = c} n rest) p = Leads-keeps keeps c b rest (keeps a c p n)

pub upward-append : (xs ys : List ℕ) → IsUpward xs → IsUpward ys → ((a b : ℕ) → a < length xs → b < length ys → get_or xs a 0 ≤ get_or ys b 0) → IsUpward (xs ++ ys)
upward-append xs ys hx hy cross a b le lt = elim (cases_lt b (length xs)) [
  | inl bl ↦
      (let al : a < length xs = omega arith in
      let ea = get_or_append_left xs ys 0 a al in
      let eb = get_or_append_left xs ys 0 b bl in
      let h = hx a b le bl in
      omega arith)
  | inr bg ↦
      (let long = length-append xs ys in
      let eb = get_or-append_right xs ys (length xs) b 0 refl bg in
      let bl : b - length xs < length ys = omega arith in
      elim (cases_lt a (length xs)) [
        | inl al ↦
            (let ea = get_or_append_left xs ys 0 a al in
            let h = cross a (b - length xs) al bl in
            omega arith)
        | inr ag ↦
            (let ea = get_or-append_right xs ys (length xs) a 0 refl ag in
            let h = hy (a - length xs) (b - length xs) (omega arith) bl in
            omega arith)
      ])
]

pub upward-left : (xs ys : List ℕ) → IsUpward (xs ++ ys) → IsUpward xs
upward-left xs ys h a b le lt =
    let long = length-append xs ys in
    let r = h a b le (omega arith) in
    let al : a < length xs = omega arith in
    let ea = get_or_append_left xs ys 0 a al in
    let eb = get_or_append_left xs ys 0 b lt in
    omega arith

pub upward-take : (n : ℕ) (xs : List ℕ) → IsUpward xs → IsUpward (take n xs)
upward-take n xs h a b le lt =
    let long = length-take n xs in
    let bl : b < n = omega arith in
    let al : a < n = omega arith in
    let r = h a b le (omega arith) in
    let ea = get_or-take n xs a 0 al in
    let eb = get_or-take n xs b 0 bl in
    omega arith

pub upward-one : (x : ℕ) → IsUpward (x ∷ [])
upward-one x a b le lt =
    let ea : a ≡ 0 = omega arith in
    let eb : b ≡ 0 = omega arith in
    let e : get_or (x ∷ []) a 0 ≡ get_or (x ∷ []) b 0 = ap (λ k. get_or (x ∷ []) k 0) (ea ∙ sym eb) in
    omega arith

-- links that leave one place
pub place-at : (place : ℕ) (row : List ℕ) (k : ℕ) → k < length row → get_or (map place_of (map (link_at place) row)) k 0 ≡ place
place-at place row k lt =
    let long = length-map row (link_at place) in
    get_or-map place_of (map (link_at place) row) k (link_at place 0) 0 (omega arith) ∙ ap place_of (get_or-map (link_at place) row k 0 (link_at place 0) lt)

pub place-long : (place : ℕ) (row : List ℕ) → length (map place_of (map (link_at place) row)) ≡ length row
place-long place row = length-map (map (link_at place) row) place_of ∙ length-map row (link_at place)

pub upward-row : (place : ℕ) (row : List ℕ) → IsUpward (map place_of (map (link_at place) row))
upward-row place row a b le lt =
    let long = place-long place row in
    let ea = place-at place row a (omega arith) in
    let eb = place-at place row b (omega arith) in
    omega arith

-- links that leave places below, and then those of one place
pub upward-links : (links : List Link) (place : ℕ) (row : List ℕ) → IsUpward (map place_of links) → ((k : ℕ) → k < length (map place_of links) → get_or (map place_of links) k 0 ≤ place) → IsUpward (map place_of (links ++ map (link_at place) row))
upward-links links place row h below =
    subst IsUpward (sym (map-append place_of links (map (link_at place) row)))
    (upward-append (map place_of links) (map place_of (map (link_at place) row)) h (upward-row place row)
    (λ a b al bl.
    let long = place-long place row in
    let e = place-at place row b (omega arith) in
    let r = below a al in
    omega arith))

pub upward-links_left : (links more : List Link) → IsUpward (map place_of (links ++ more)) → IsUpward (map place_of links)
upward-links_left links more h = upward-left (map place_of links) (map place_of more) (subst IsUpward (map-append place_of links more) h)

pub place-read : (links : List Link) (k : ℕ) (d : Link) → k < length links → get_or (map place_of links) k 0 ≡ place_of (get_or links k d)
place-read links k d lt = get_or-map place_of links k d 0 lt

-- what holds of each link holds at each place
pub below-all : (links : List Link) (n : ℕ) → ((link : Link) → Contains links link → link.place ≤ n) → (k : ℕ) → k < length (map place_of links) → get_or (map place_of links) k 0 ≤ n
below-all links n h k lt =
    let long = length-map links place_of in
    let inside : k < length links = omega arith in
    let e = place-read links k (link_at 0 0) inside in
    let r = h (get_or links k (link_at 0 0)) (Contains-get_or links k (link_at 0 0) inside) in
    omega arith

-- the last of an upward list is the greatest
pub below-last : (xs : List ℕ) (x : ℕ) → IsUpward xs → Contains xs x → x ≤ get_or xs (length xs - 1) 0
below-last xs x h (k, lt, e) =
    let r = h k (length xs - 1) (omega arith) (omega arith) in
    let same : get_or xs k 0 ≡ x = sym (get_or_default_zero xs k x lt) ∙ e in
    omega arith
