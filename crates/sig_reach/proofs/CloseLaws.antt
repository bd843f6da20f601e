-- Components of a search are joined, and the last one leaves the path.
use Rattle.std.proofs.Common.{◌≡◌, ◌≢◌, ℕ, ◌+◌, ◌-◌, ◌<◌, ◌≤◌, List, [], ◌∷◌, length, map, get_or, set, take, min, refl, sym, ap, ◌∙◌, arith, ◌⊎◌, inl, inr, subst, length-set, get_or-set_other, get_or-set_same}
use Rattle.std.specs.Prelude.{◌↔◌}
use Rattle.std.specs.List.{Contains}
use Rattle.std.proofs.lemmas.Bool.{cases_lt, cases_eq}
use Rattle.std.proofs.lemmas.List.{get_or-take, get_or_past, length-map, length-take}
use Rattle.std.proofs.lemmas.List.Elements.{Contains-get_or, Contains-append_left, Contains-push_cases}
use Rattle.std.proofs.lemmas.Grind.{get_or_default_zero}
use Rattle.sig_reach.specs.Marks.{IsSource}
use Rattle.sig_reach.specs.Components.{LeadsOn, AreMutual, Stage, link_at, place_of, with_links, with_starts, IsUpward, Parts, StandsFrom, IsSearch, last_start, NoneWaits, IsJoinedFrom, IsClosed, Keeps}
use Rattle.sig_reach.specs.declared.components.Link.{Link}
use Rattle.sig_reach.proofs.StageLaws.{Leads-on, Leads-keeps, upward-take, upward-links_left, below-last, place-read}
use Rattle.sig_reach.proofs.SearchLaws.{link-leads}

-- what a front has, the list has; what the list has is in the front, or stands at a place behind it
pub front-in : (xs : List ℕ) (n x : ℕ) → Contains (take n xs) x → Contains xs x
front-in xs n x (k, lt, e) = let long = length-take n xs in (k, omega arith, sym (get_or-take n xs k x (omega arith)) ∙ e)

pub front-or : (xs : List ℕ) (n x : ℕ) → Contains xs x → Contains (take n xs) x ⊎ ((k : ℕ) × (n ≤ k) × (k < length xs) × (get_or xs k 0 ≡ x))
front-or xs n x (k, lt, e) = elim (cases_lt k n) [
  | inl below ↦ (let long = length-take n xs in inl (k, omega arith, get_or-take n xs k x below ∙ e))
  | inr ge ↦ inr (k, ge, lt, sym (get_or_default_zero xs k x lt) ∙ e)
]

module _ (sources : List (List ℕ)) where
  -- the last link led to a node on the path, at the place `t`: the components from there on are one
  module _ (s : Stage) (link : Link) (t : ℕ) (starts : List ℕ) (h : IsSearch sources (with_links s (link ∷ []))) (leaves : last_start s.starts ≤ link.place) (on : t < length s.path) (is : get_or s.path t 0 ≡ link.node) (fewer : (start : ℕ) → Contains starts start → Contains s.starts start × (start ≤ t)) (or : (start : ℕ) → Contains s.starts start → Contains starts start ⊎ (t < start)) (up : IsUpward starts) where
    -- from each node of the path the link leads to the place, and from there on the path goes on
    joins-back : (i j : ℕ) → i ≤ j → j < length s.path → LeadsOn sources (get_or s.path j 0) (get_or s.path i 0) ⊎ Parts starts i j
    joins-back i j le lt = elim (h.back i j le lt) [
      | inl b ↦ inl b
      | inr (start, c, above, below) ↦ elim (or start c) [
        | inl stays ↦ inr (start, stays, above, below)
        | inr past ↦ round start c above below past
      ]
    ]
      where
        to_place : LeadsOn sources (get_or s.path j 0) (get_or s.path t 0)
        to_place = subst (λ v. LeadsOn sources (get_or s.path j 0) v) (sym is) (link-leads sources s link h leaves j lt)

        round : (start : ℕ) → Contains s.starts start → i < start → start ≤ j → t < start → LeadsOn sources (get_or s.path j 0) (get_or s.path i 0) ⊎ Parts starts i j
        round start c above below past = elim (cases_lt t i) [
          | inl less ↦ inl (Leads-on (IsSource sources) (get_or s.path j 0) (get_or s.path t 0) (get_or s.path i 0) to_place (h.onward t i (omega arith) (omega arith)))
          | inr ge ↦ elim (h.back i t ge on) [
            | inl b ↦ inl (Leads-on (IsSource sources) (get_or s.path j 0) (get_or s.path t 0) (get_or s.path i 0) to_place b)
            | inr (other, d, high, low) ↦ elim (or other d) [
              | inl stays ↦ inr (other, stays, high, omega arith)
              | inr far ↦ absurd (let f : ⊥ = omega arith in f)
            ]
          ]
        ]

    joins-followed : (i w : ℕ) → i < length s.path → IsSource sources (get_or s.path i 0) w → (0 < get_or s.numbers w 0) ⊎ (StandsFrom (with_starts s starts) i w ⊎ Contains s.waiting (link_at i w))
    joins-followed i w lt source = elim (h.followed i w lt source) [
      | inl known ↦ inl known
      | inr (inl (k, l, e, from)) ↦ inr (inl (k, l, e, λ start c. from start (fewer start c).0))
      | inr (inr waiting) ↦ elim (Contains-push_cases s.waiting link (link_at i w) waiting) [
        | inl old ↦ inr (inr old)
        | inr same ↦ inr (inl (t, on, is ∙ ap (λ (l : Link). l.node) same, λ start c le. (fewer start c).1))
      ]
    ]

    pub search-joined : IsSearch sources (with_starts s starts)
    search-joined = record {
      long_places = h.long_places;
      long_numbers = h.long_numbers;
      there = h.there;
      placed = h.placed;
      unknown = h.unknown;
      seen = h.seen;
      closed = h.closed;
      same = h.same;
      named = h.named;
      onward = h.onward;
      back = joins-back;
      followed = joins-followed;
      waits = λ l c. h.waits l (Contains-append_left s.waiting (link ∷ []) l c);
      starts_up = up;
      starts_in = λ start c. h.starts_in start (fewer start c).0;
      waiting_up = upward-links_left s.waiting (link ∷ []) h.waiting_up;
    }

  -- the last component has no link that waits: it leaves the path
  module _ (s s' : Stage) (h : IsSearch sources s) (none : NoneWaits s) (c : IsClosed s s') where
    abbrev p : ℕ
    p = last_start s.starts

    abbrev last : ℕ
    last = get_or s.path (length s.path - 1) 0

    short : length s'.path ≡ min p (length s.path)
    short = ap length c.path ∙ length-take p s.path

    at : (k : ℕ) → k < p → get_or s'.path k 0 ≡ get_or s.path k 0
    at k lt = ap (λ xs. get_or xs k 0) c.path ∙ get_or-take p s.path k 0 lt

    -- starts are the last one at most
    starts-below : (start : ℕ) → Contains s.starts start → start ≤ p
    starts-below start i = below-last s.starts start h.starts_up i

    fewer : (start : ℕ) → Contains s'.starts start → Contains s.starts start
    fewer start i = front-in s.starts (length s.starts - 1) start (subst (λ xs. Contains xs start) c.starts i)

    or-last : (start : ℕ) → Contains s.starts start → Contains s'.starts start ⊎ (start ≡ p)
    or-last start i = elim (front-or s.starts (length s.starts - 1) start i) [
      | inl f ↦ inl (subst (λ xs. Contains xs start) (sym c.starts) f)
      | inr (k, ge, lt, e) ↦ (let same : k ≡ length s.starts - 1 = omega arith in inr (sym e ∙ ap (λ m. get_or s.starts m 0) same))
    ]

    -- the last start is one of them, or 0
    last-is : Contains s.starts p ⊎ (p ≡ 0)
    last-is = elim (cases_lt 0 (length s.starts)) [
      | inl some ↦ inl (Contains-get_or s.starts (length s.starts - 1) 0 (omega arith))
      | inr empty ↦ inr (get_or_past s.starts (length s.starts - 1) 0 (omega arith))
    ]

    -- what waits leaves an earlier component
    waits-below : (link : Link) → Contains s.waiting link → link.place < p
    waits-below link (k, lt, e) =
        let long = length-map s.waiting place_of in
        let up = h.waiting_up k (length s.waiting - 1) (omega arith) (omega arith) in
        let r = none link (omega arith) in
        let a = place-read s.waiting k link lt in
        let b = place-read s.waiting (length s.waiting - 1) link (omega arith) in
        let f = ap place_of e in
        omega arith

    keeps-known : (v : ℕ) → 0 < get_or s.numbers v 0 → 0 < get_or s'.numbers v 0
    keeps-known v pos = elim (c.kept v) [
      | inl e ↦ omega arith
      | inr (k, ge, lt, e) ↦ (let g : get_or s'.numbers v 0 ≡ last + 1 = ap (λ u. get_or s'.numbers u 0) (sym e) ∙ c.given k ge lt in omega arith)
    ]

    now-known : (k : ℕ) → p ≤ k → k < length s.path → 0 < get_or s'.numbers (get_or s.path k 0) 0
    now-known k ge lt = let g = c.given k ge lt in omega arith

    -- a known node was known before, or stands in the last component
    abbrev IsOld : ℕ → Type 0
    IsOld v = (0 < get_or s.numbers v 0) × (get_or s'.numbers v 0 ≡ get_or s.numbers v 0)

    abbrev IsNew : ℕ → Type 0
    IsNew v = (k : ℕ) × (p ≤ k) × (k < length s.path) × (get_or s.path k 0 ≡ v)

    which : (v : ℕ) → 0 < get_or s'.numbers v 0 → IsOld v ⊎ IsNew v
    which v pos = elim (c.kept v) [ inl e ↦ inl (omega arith, e) | inr new ↦ inr new ]

    number-new : (v : ℕ) → IsNew v → get_or s'.numbers v 0 ≡ last + 1
    number-new v (k, ge, lt, e) = ap (λ u. get_or s'.numbers u 0) (sym e) ∙ c.given k ge lt

    unknown-new : (v : ℕ) → IsNew v → get_or s.numbers v 0 ≡ 0
    unknown-new v (k, ge, lt, e) = ap (λ u. get_or s.numbers u 0) (sym e) ∙ h.unknown k lt

    -- within the last component each leads to each
    leads-within : (v w : ℕ) → IsNew v → IsNew w → LeadsOn sources v w
    leads-within v w (i, gi, li, ei) (j, gj, lj, ej) = subst (λ u. LeadsOn sources u w) ei (subst (λ u. LeadsOn sources (get_or s.path i 0) u) ej (elim (cases_lt j i) [
      | inr ge ↦ h.onward i j ge lj
      | inl less ↦ elim (h.back j i (omega arith) li) [
        | inl b ↦ b
        | inr (start, has, above, below) ↦ (let r = starts-below start has in absurd (let f : ⊥ = omega arith in f))
      ]
    ]))

    -- from a known node only known ones are reached
    known-on : (v w : ℕ) → LeadsOn sources v w → 0 < get_or s.numbers v 0 → 0 < get_or s.numbers w 0
    known-on v w l pos = Leads-keeps (IsSource sources) (λ u. 0 < get_or s.numbers u 0) (λ a b q e. h.closed a b q e) v w l pos

    apart-number : (v w : ℕ) → IsOld v → IsNew w → get_or s'.numbers v 0 ≡ get_or s'.numbers w 0 → ⊥
    apart-number v w old new e =
        let o0 = old.0 in
        let o1 = old.1 in
        let n = number-new w new in
        let name : get_or s.numbers v 0 - 1 ≡ last = omega arith in
        let known = subst (λ u. 0 < get_or s.numbers u 0) name (h.named v o0) in
        let lt = new.2 in
        let un = h.unknown (length s.path - 1) (omega arith) in
        omega arith

    apart-leads : (v w : ℕ) → IsOld v → IsNew w → LeadsOn sources v w → ⊥
    apart-leads v w old new l =
        let known = known-on v w l old.0 in
        let un = unknown-new w new in
        omega arith

    closes-same : (v w : ℕ) → 0 < get_or s'.numbers v 0 → 0 < get_or s'.numbers w 0 → (get_or s'.numbers v 0 ≡ get_or s'.numbers w 0) ↔ AreMutual sources v w
    closes-same v w pv pw = elim (which v pv) [
      | inl ov ↦ elim (which w pw) [
        | inl ow ↦
            (let r = h.same v w ov.0 ow.0 in (
              (λ e. r.0 (sym ov.1 ∙ e ∙ ow.1)),
              (λ m. ov.1 ∙ r.1 m ∙ sym ow.1),
            ))
        | inr nw ↦ ((λ e. absurd (apart-number v w ov nw e)), (λ m. absurd (apart-leads v w ov nw m.0)))
      ]
      | inr nv ↦ elim (which w pw) [
        | inl ow ↦ ((λ e. absurd (apart-number w v ow nv (sym e))), (λ m. absurd (apart-leads w v ow nv m.1)))
        | inr nw ↦ ((λ e. (leads-within v w nv nw, leads-within w v nw nv)), (λ m. number-new v nv ∙ sym (number-new w nw)))
      ]
    ]

    closes-closed : (v w : ℕ) → 0 < get_or s'.numbers v 0 → IsSource sources v w → 0 < get_or s'.numbers w 0
    closes-closed v w pos is = elim (which v pos) [
      | inl old ↦ keeps-known w (h.closed v w old.0 is)
      | inr (k, ge, lt, e) ↦ elim (h.followed k w lt (subst (λ u. IsSource sources u w) (sym e) is)) [
        | inl known ↦ keeps-known w known
        | inr (inl (j, lj, ej, from)) ↦
            (let high : p ≤ j = elim last-is [ inl i ↦ from p i ge | inr z ↦ omega arith ] in
            subst (λ u. 0 < get_or s'.numbers u 0) ej (now-known j high lj))
        | inr (inr waiting) ↦ (let r = waits-below (link_at k w) waiting in absurd (let f : ⊥ = omega arith in f))
      ]
    ]

    closes-named : (v : ℕ) → 0 < get_or s'.numbers v 0 → 0 < get_or s'.numbers (get_or s'.numbers v 0 - 1) 0
    closes-named v pos = elim (which v pos) [
      | inl old ↦ subst (λ u. 0 < get_or s'.numbers (u - 1) 0) (sym old.1) (keeps-known (get_or s.numbers v 0 - 1) (h.named v old.0))
      | inr new ↦
          (let ge = new.1 in
          let lt = new.2 in
          let n = number-new v new in
          let name : last ≡ get_or s'.numbers v 0 - 1 = omega arith in
          subst (λ u. 0 < get_or s'.numbers u 0) name (now-known (length s.path - 1) (omega arith) (omega arith)))
    ]

    closes-seen : (v : ℕ) → 0 < get_or s'.places v 0 → (0 < get_or s'.numbers v 0) ⊎ ((get_or s'.places v 0 - 1 < length s'.path) × (get_or s'.path (get_or s'.places v 0 - 1) 0 ≡ v))
    closes-seen v pos =
        let e : get_or s'.places v 0 ≡ get_or s.places v 0 = ap (λ xs. get_or xs v 0) c.places in
        elim (h.seen v (omega arith)) [
          | inl known ↦ inl (keeps-known v known)
          | inr (lt, is) ↦ elim (cases_lt (get_or s.places v 0 - 1) p) [
            | inl below ↦
                (let long = short in
                inr (omega arith, ap (λ m. get_or s'.path (m - 1) 0) e ∙ at (get_or s.places v 0 - 1) below ∙ is))
            | inr ge ↦ inl (subst (λ u. 0 < get_or s'.numbers u 0) is (now-known (get_or s.places v 0 - 1) ge lt))
          ]
        ]

    closes-unknown : (k : ℕ) → k < length s'.path → get_or s'.numbers (get_or s'.path k 0) 0 ≡ 0
    closes-unknown k lt =
        let long = short in
        let below : k < p = omega arith in
        let inside : k < length s.path = omega arith in
        let e = at k below in
        let un = h.unknown k inside in
        ap (λ u. get_or s'.numbers u 0) e ∙ elim (c.kept (get_or s.path k 0)) [
          | inl same ↦ same ∙ un
          | inr (j, ge, lj, ej) ↦
              (let a = h.placed k inside in
              let b = h.placed j lj in
              let f : get_or s.places (get_or s.path j 0) 0 ≡ get_or s.places (get_or s.path k 0) 0 = ap (λ u. get_or s.places u 0) ej in
              absurd (let g : ⊥ = omega arith in g))
        ]

    closes-back : (i j : ℕ) → i ≤ j → j < length s'.path → LeadsOn sources (get_or s'.path j 0) (get_or s'.path i 0) ⊎ Parts s'.starts i j
    closes-back i j le lt =
        let long = short in
        let bj : j < p = omega arith in
        let bi : i < p = omega arith in
        elim (h.back i j le (omega arith)) [
          | inl b ↦ inl (subst (λ u. LeadsOn sources u (get_or s'.path i 0)) (sym (at j bj)) (subst (λ u. LeadsOn sources (get_or s.path j 0) u) (sym (at i bi)) b))
          | inr (start, has, above, below) ↦ elim (or-last start has) [
            | inl stays ↦ inr (start, stays, above, below)
            | inr e ↦ absurd (let g : ⊥ = omega arith in g)
          ]
        ]

    closes-followed : (i w : ℕ) → i < length s'.path → IsSource sources (get_or s'.path i 0) w → (0 < get_or s'.numbers w 0) ⊎ (StandsFrom s' i w ⊎ Contains s'.waiting (link_at i w))
    closes-followed i w lt is =
        let long = short in
        let below : i < p = omega arith in
        elim (h.followed i w (omega arith) (subst (λ u. IsSource sources u w) (at i below) is)) [
          | inl known ↦ inl (keeps-known w known)
          | inr (inl (k, lk, ek, from)) ↦ elim (cases_lt k p) [
            | inl bk ↦ inr (inl (k, omega arith, at k bk ∙ ek, λ start has. from start (fewer start has)))
            | inr ge ↦ inl (subst (λ u. 0 < get_or s'.numbers u 0) ek (now-known k ge lk))
          ]
          | inr (inr waiting) ↦ inr (inr (subst (λ xs. Contains xs (link_at i w)) (sym c.waiting) waiting))
        ]

    closes-waits : (link : Link) → Contains s'.waiting link → (link.place < length s'.path) × IsSource sources (get_or s'.path link.place 0) link.node
    closes-waits link i =
        let old = subst (λ xs. Contains xs link) c.waiting i in
        let below = waits-below link old in
        let r = h.waits link old in
        let r0 = r.0 in
        let long = short in (
          omega arith,
          subst (λ u. IsSource sources u link.node) (sym (at link.place below)) r.1,
        )

    pub search-closed : IsSearch sources s'
    search-closed = record {
      long_places = ap length c.places ∙ h.long_places;
      long_numbers = c.long ∙ h.long_numbers;
      there = λ k lt. let long = short in let below : k < p = omega arith in let e = at k below in let r = h.there k (omega arith) in omega arith;
      placed = λ k lt. let long = short in let below : k < p = omega arith in ap (λ u. get_or s'.places u 0) (at k below) ∙ ap (λ xs. get_or xs (get_or s.path k 0) 0) c.places ∙ h.placed k (omega arith);
      unknown = closes-unknown;
      seen = closes-seen;
      closed = closes-closed;
      same = closes-same;
      named = closes-named;
      onward = λ i j le lt. let long = short in let bj : j < p = omega arith in let bi : i < p = omega arith in
          subst (λ u. LeadsOn sources u (get_or s'.path j 0)) (sym (at i bi)) (subst (λ u. LeadsOn sources (get_or s.path i 0) u) (sym (at j bj)) (h.onward i j le (omega arith)));
      back = closes-back;
      followed = closes-followed;
      waits = closes-waits;
      starts_up = subst IsUpward (sym c.starts) (upward-take (length s.starts - 1) s.starts h.starts_up);
      starts_in = λ start i. let long = short in let a = starts-below start (fewer start i) in let b = h.starts_in start (fewer start i) in omega arith;
      waiting_up = subst (λ (links : List Link). IsUpward (map place_of links)) (sym c.waiting) h.waiting_up;
    }

    pub closed-keeps : Keeps s s'
    closed-keeps = record {
      entered = λ v pos. let e : get_or s'.places v 0 ≡ get_or s.places v 0 = ap (λ xs. get_or xs v 0) c.places in omega arith;
      known = keeps-known;
    }

-- the nodes of the path from the start up to a place were given the number
pub record Numbers (s : Stage) (start number place : ℕ) (s' : Stage) : Type 0 where
  pub places : s'.places ≡ s.places
  pub path : s'.path ≡ s.path
  pub starts : s'.starts ≡ s.starts
  pub waiting : s'.waiting ≡ s.waiting
  pub long : length s'.numbers ≡ length s.numbers
  pub given : (k : ℕ) → start ≤ k → k < place → get_or s'.numbers (get_or s.path k 0) 0 ≡ number
  pub kept : (v : ℕ) → (get_or s'.numbers v 0 ≡ get_or s.numbers v 0) ⊎ ((k : ℕ) × (start ≤ k) × (k < place) × (k < length s.path) × (get_or s.path k 0 ≡ v))

pub numbers-none : (s : Stage) (start number place : ℕ) → place ≤ start → Numbers s start number place s
numbers-none s start number place le = record {
  places = refl;
  path = refl;
  starts = refl;
  waiting = refl;
  long = refl;
  given = λ k ge lt. absurd (let f : ⊥ = omega arith in f);
  kept = λ v. inl refl;
}

pub numbers-more : (s : Stage) (start number place : ℕ) (s' s'' : Stage) → start ≤ place → place < length s.path → get_or s.path place 0 < length s.numbers → s''.places ≡ s'.places → s''.path ≡ s'.path → s''.starts ≡ s'.starts → s''.waiting ≡ s'.waiting → s''.numbers ≡ set s'.numbers (get_or s.path place 0) number → Numbers s start number place s' → Numbers s start number (place + 1) s''
numbers-more s start number place s' s'' ge inside there ep ea es ew en h = record {
  places = ep ∙ h.places;
  path = ea ∙ h.path;
  starts = es ∙ h.starts;
  waiting = ew ∙ h.waiting;
  long = ap length en ∙ length-set s'.numbers node number ∙ h.long;
  given = gives;
  kept = keeps;
}
  where
    node : ℕ
    node = get_or s.path place 0

    at-node : get_or s''.numbers node 0 ≡ number
    at-node = let long = h.long in let lt : node < length s'.numbers = omega arith in ap (λ xs. get_or xs node 0) en ∙ get_or-set_same s'.numbers node number 0 lt

    at-other : (v : ℕ) → v ≢ node → get_or s''.numbers v 0 ≡ get_or s'.numbers v 0
    at-other v ne = ap (λ xs. get_or xs v 0) en ∙ get_or-set_other s'.numbers node v number 0 ne

    gives : (k : ℕ) → start ≤ k → k < place + 1 → get_or s''.numbers (get_or s.path k 0) 0 ≡ number
    gives k le lt = elim (cases_eq (get_or s.path k 0) node) [
      | inl e ↦ ap (λ v. get_or s''.numbers v 0) e ∙ at-node
      | inr ne ↦
          (let other : k ≢ place = λ e. ne (ap (λ m. get_or s.path m 0) e) in
          let below : k < place = omega arith in
          at-other (get_or s.path k 0) ne ∙ h.given k le below)
    ]

    keeps : (v : ℕ) → (get_or s''.numbers v 0 ≡ get_or s.numbers v 0) ⊎ ((k : ℕ) × (start ≤ k) × (k < place + 1) × (k < length s.path) × (get_or s.path k 0 ≡ v))
    keeps v = elim (cases_eq v node) [
      | inl e ↦ inr (place, ge, omega arith, inside, sym e)
      | inr ne ↦ elim (h.kept v) [
        | inl same ↦ inl (at-other v ne ∙ same)
        | inr (k, le, lt, l, e) ↦ inr (k, le, omega arith, l, e)
      ]
    ]

module _ (sources : List (List ℕ)) where
  -- the last link leads to a node on the path: the components from there on are joined
  pub joined-from : (s s' : Stage) (link : Link) → IsSearch sources (with_links s (link ∷ [])) → last_start s.starts ≤ link.place → get_or s.numbers link.node 0 ≡ 0 → 0 < get_or s.places link.node 0 → IsJoinedFrom s (get_or s.places link.node 0 - 1) s' → IsSearch sources s'
  joined-from s s' link h leaves unnumbered pos (kept, e, above, upto) =
      subst (IsSearch sources) (sym e) (search-joined sources s link t (take kept s.starts) h leaves on.0 on.1 fewer or (upward-take kept s.starts h.starts_up))
    where
      t : ℕ
      t = get_or s.places link.node 0 - 1

      on : (t < length s.path) × (get_or s.path t 0 ≡ link.node)
      on = elim (h.seen link.node pos) [ inl known ↦ absurd (let f : ⊥ = omega arith in f) | inr there ↦ there ]

      fewer : (start : ℕ) → Contains (take kept s.starts) start → Contains s.starts start × (start ≤ t)
      fewer start (k, lt, is) =
          let long = length-take kept s.starts in
          let u = upto (omega arith) in
          let u0 = u.0 in
          let u1 = u.1 in
          let up = h.starts_up k (kept - 1) (omega arith) (omega arith) in
          let a = get_or-take kept s.starts k start (omega arith) in
          let b = get_or_default_zero s.starts k start (omega arith) in
          (front-in s.starts kept start (k, lt, is), omega arith)

      or : (start : ℕ) → Contains s.starts start → Contains (take kept s.starts) start ⊎ (t < start)
      or start c = elim (front-or s.starts kept start c) [
        | inl f ↦ inl f
        | inr (k, ge, lt, is) ↦ (let r = above k ge lt in inr (omega arith))
      ]

pub closed-from : (s s' s'' : Stage) (start number place : ℕ) → Numbers s start number place s' → start ≡ last_start s.starts → number ≡ get_or s.path (length s.path - 1) 0 + 1 → length s.path ≤ place → s''.places ≡ s'.places → s''.numbers ≡ s'.numbers → s''.path ≡ take start s'.path → s''.starts ≡ take (length s'.starts - 1) s'.starts → s''.waiting ≡ s'.waiting → IsClosed s s''
closed-from s s' s'' start number place h es en le ep eu ea et ew = record {
  places = ep ∙ h.places;
  path = ea ∙ ap (take start) h.path ∙ ap (λ n. take n s.path) es;
  starts = et ∙ ap (λ xs. take (length xs - 1) xs) h.starts;
  waiting = ew ∙ h.waiting;
  long = ap length eu ∙ h.long;
  given = λ k ge lt. ap (λ xs. get_or xs (get_or s.path k 0) 0) eu ∙ h.given k (omega arith) (omega arith) ∙ en;
  kept = λ v. elim (h.kept v) [
    | inl e ↦ inl (ap (λ xs. get_or xs v 0) eu ∙ e)
    | inr (k, ge, lt, l, e) ↦ inr (k, omega arith, l, e)
  ];
}
