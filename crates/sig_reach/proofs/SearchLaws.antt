-- The steps of a search for components keep what holds between two of them.
use Rattle.std.proofs.Common.{◌≡◌, ◌≢◌, ℕ, zero, suc, ◌+◌, ◌-◌, ◌<◌, ◌≤◌, List, [], ◌∷◌, ◌++◌, length, map, get_or, set, replicate, refl, sym, ap, ◌∙◌, arith, ◌⊎◌, inl, inr, subst, length-append, length-set, get_or-set_other, get_or-set_same}
use Rattle.std.specs.Prelude.{true, false, nat_eq}
use Rattle.std.specs.List.{Contains}
use Rattle.std.proofs.lemmas.Bool.{cases_lt, cases_eq, eq-eqb, ne_eqb}
use Rattle.std.proofs.lemmas.List.{get_or_append_left, get_or_push, get_or-map, length-map, append-nil, length-replicate}
use Rattle.std.proofs.lemmas.List.Elements.{Contains-get_or, Contains-append_left, Contains-append_right, Contains-append_cases, Contains-push, Contains-push_cases}
use Rattle.sig_reach.specs.Walks.{here}
use Rattle.sig_reach.specs.Marks.{sources_at, IsSource, AreThere}
use Rattle.sig_reach.specs.Components.{LeadsOn, Stage, link_at, place_of, with_links, at_start, entered, Parts, StandsFrom, IsSearch, last_start, Keeps, ahead, work}
use Rattle.sig_reach.specs.declared.components.Link.{Link}
use Rattle.sig_reach.proofs.StageLaws.{Leads-on, Leads-one, upward-append, upward-one, upward-links, upward-links_left, below-all, below-last}

nothing : {X : Type 0} → (x : X) → Contains [] x → ⊥
nothing x (k, lt, e) = omega arith

-- of the node at a place of a path that has grown by one
path-old : (path : List ℕ) (node k : ℕ) → k < length path → get_or (path ++ node ∷ []) k 0 ≡ get_or path k 0
path-old path node k lt = get_or_append_left path (node ∷ []) 0 k lt

path-new : (path : List ℕ) (node k : ℕ) → k ≡ length path → get_or (path ++ node ∷ []) k 0 ≡ node
path-new path node k e = get_or_push path node 0 k (sym e)

path-long : (path : List ℕ) (node : ℕ) → length (path ++ node ∷ []) ≡ length path + 1
path-long path node = length-append path (node ∷ [])

in-row : (place : ℕ) (row : List ℕ) (w : ℕ) → Contains row w → Contains (map (link_at place) row) (link_at place w)
in-row place row w (k, lt, e) = (
  k,
  let long = length-map row (link_at place) in omega arith,
  get_or-map (link_at place) row k w (link_at place w) lt ∙ ap (link_at place) e,
)

from-row : (place : ℕ) (row : List ℕ) (link : Link) → Contains (map (link_at place) row) link → (link.place ≡ place) × Contains row link.node
from-row place row link (k, lt, e) =
    let long = length-map row (link_at place) in
    let inside : k < length row = omega arith in
    let same : link_at place (get_or row k 0) ≡ link = sym (get_or-map (link_at place) row k 0 link inside) ∙ e in (
      sym (ap place_of same),
      subst (λ n. Contains row n) (ap (λ (l : Link). l.node) same) (Contains-get_or row k 0 inside),
    )

same-at : (x n v : ℕ) → get_or (replicate n x) v x ≡ x
same-at x zero v = refl
same-at x (suc n) zero = refl
same-at x (suc n) (suc v) = same-at x n v

module _ (sources : List (List ℕ)) where
  pub search-start : IsSearch sources (at_start (length sources))
  search-start = record {
    long_places = length-replicate (length sources) 0;
    long_numbers = length-replicate (length sources) 0;
    there = λ k lt. absurd (omega arith);
    placed = λ k lt. absurd (omega arith);
    unknown = λ k lt. absurd (omega arith);
    seen = λ v pos. absurd (zero-at v pos);
    closed = λ v w pos i. absurd (zero-at v pos);
    same = λ v w pos pos'. absurd (zero-at v pos);
    named = λ v pos. absurd (zero-at v pos);
    onward = λ i j le lt. absurd (omega arith);
    back = λ i j le lt. absurd (omega arith);
    followed = λ i w lt s. absurd (omega arith);
    waits = λ link i. absurd (nothing link i);
    starts_up = λ a b le lt. absurd (omega arith);
    starts_in = λ start i. absurd (nothing start i);
    waiting_up = λ a b le lt. absurd (omega arith);
  }
    where
      zero-at : (v : ℕ) → 0 < get_or (replicate (length sources) 0) v 0 → ⊥
      zero-at v pos = let f : 0 < 0 = subst (λ x. 0 < x) (same-at 0 (length sources) v) pos in omega arith

  -- a node is entered to which each of the path leads; what else waited leads there too
  module _ (s : Stage) (more : List Link) (node : ℕ) (h : IsSearch sources (with_links s more)) (to : (link : Link) → Contains more link → link.node ≡ node) (lt : node < length sources) (fresh : get_or s.places node 0 ≡ 0) (unnumbered : get_or s.numbers node 0 ≡ 0) (leads : (k : ℕ) → k < length s.path → LeadsOn sources (get_or s.path k 0) node) where
    abbrev n : ℕ
    n = length s.path

    abbrev path : List ℕ
    path = s.path ++ node ∷ []

    abbrev places : List ℕ
    places = set s.places node (n + 1)

    many : length places ≡ length sources
    many = length-set s.places node (n + 1) ∙ h.long_places

    -- a place of the longer path is an old one, or the new one
    which : (k : ℕ) → k < length path → ((k < n) × (get_or path k 0 ≡ get_or s.path k 0)) ⊎ ((k ≡ n) × (get_or path k 0 ≡ node))
    which k l = let long = path-long s.path node in elim (cases_lt k n) [
      | inl below ↦ inl (below, path-old s.path node k below)
      | inr ge ↦ (let e : k ≡ n = omega arith in inr (e, path-new s.path node k e))
    ]

    at-node : get_or places node 0 ≡ n + 1
    at-node = let long = h.long_places in let l : node < length s.places = omega arith in get_or-set_same s.places node (n + 1) 0 l

    at-other : (v : ℕ) → v ≢ node → get_or places v 0 ≡ get_or s.places v 0
    at-other v ne = get_or-set_other s.places node v (n + 1) 0 ne

    enters-there : (k : ℕ) → k < length path → get_or path k 0 < length sources
    enters-there k l = elim (which k l) [
      | inl (below, e) ↦ (let r = h.there k below in omega arith)
      | inr (same, e) ↦ omega arith
    ]

    enters-placed : (k : ℕ) → k < length path → get_or places (get_or path k 0) 0 ≡ k + 1
    enters-placed k l = elim (which k l) [
      | inl (below, e) ↦
          (let r = h.placed k below in
          let ne : get_or s.path k 0 ≢ node = λ is. (let z : get_or s.places (get_or s.path k 0) 0 ≡ 0 = ap (λ v. get_or s.places v 0) is ∙ fresh in let f : ⊥ = omega arith in f) in
          ap (λ v. get_or places v 0) e ∙ at-other (get_or s.path k 0) ne ∙ r)
      | inr (same, e) ↦ ap (λ v. get_or places v 0) e ∙ at-node ∙ ap (λ m. m + 1) (sym same)
    ]

    enters-unknown : (k : ℕ) → k < length path → get_or s.numbers (get_or path k 0) 0 ≡ 0
    enters-unknown k l = elim (which k l) [
      | inl (below, e) ↦ ap (λ v. get_or s.numbers v 0) e ∙ h.unknown k below
      | inr (same, e) ↦ ap (λ v. get_or s.numbers v 0) e ∙ unnumbered
    ]

    enters-seen : (v : ℕ) → 0 < get_or places v 0 → (0 < get_or s.numbers v 0) ⊎ ((get_or places v 0 - 1 < length path) × (get_or path (get_or places v 0 - 1) 0 ≡ v))
    enters-seen v pos = elim (cases_eq v node) [
      | inl is ↦
          (let e : get_or places v 0 ≡ n + 1 = ap (λ u. get_or places u 0) is ∙ at-node in
          let long = path-long s.path node in
          let k : get_or places v 0 - 1 ≡ n = omega arith in
          inr (omega arith, path-new s.path node (get_or places v 0 - 1) k ∙ sym is))
      | inr ne ↦
          (let e = at-other v ne in
          let old : 0 < get_or s.places v 0 = omega arith in
          elim (h.seen v old) [
            | inl known ↦ inl known
            | inr on ↦
                (let long = path-long s.path node in
                let on0 = on.0 in
                let k : get_or places v 0 - 1 ≡ get_or s.places v 0 - 1 = omega arith in
                inr (omega arith, ap (λ m. get_or path m 0) k ∙ path-old s.path node (get_or s.places v 0 - 1) on0 ∙ on.1))
          ])
    ]

    enters-onward : (i j : ℕ) → i ≤ j → j < length path → LeadsOn sources (get_or path i 0) (get_or path j 0)
    enters-onward i j le l = elim (which j l) [
      | inl (below, e) ↦
          (let old : i < n = omega arith in
          subst (λ v. LeadsOn sources v (get_or path j 0)) (sym (path-old s.path node i old)) (subst (λ v. LeadsOn sources (get_or s.path i 0) v) (sym e) (h.onward i j le below)))
      | inr (same, e) ↦ elim (which i (omega arith)) [
        | inl (below, f) ↦ subst (λ v. LeadsOn sources v (get_or path j 0)) (sym f) (subst (λ v. LeadsOn sources (get_or s.path i 0) v) (sym e) (leads i below))
        | inr (also, f) ↦ subst (λ v. LeadsOn sources (get_or path i 0) v) (f ∙ sym e) here
      ]
    ]

    abbrev starts : List ℕ
    starts = s.starts ++ n ∷ []

    enters-back : (i j : ℕ) → i ≤ j → j < length path → LeadsOn sources (get_or path j 0) (get_or path i 0) ⊎ Parts starts i j
    enters-back i j le l = elim (which j l) [
      | inl (below, e) ↦
          (let old : i < n = omega arith in
          elim (h.back i j le below) [
            | inl leads_back ↦ inl (subst (λ v. LeadsOn sources (get_or path j 0) v) (sym (path-old s.path node i old)) (subst (λ v. LeadsOn sources v (get_or s.path i 0)) (sym e) leads_back))
            | inr p ↦ inr (p.0, Contains-append_left s.starts (n ∷ []) p.0 p.1, p.2, p.3)
          ])
      | inr (same, e) ↦ elim (which i (omega arith)) [
        | inl (below, f) ↦ inr (n, Contains-push s.starts n, below, omega arith)
        | inr (also, f) ↦ inl (subst (λ v. LeadsOn sources (get_or path j 0) v) (e ∙ sym f) here)
      ]
    ]

    abbrev after : Stage
    after = entered s node (sources_at sources node)

    enters-stands : (i w : ℕ) → i < n → StandsFrom (with_links s more) i w → StandsFrom after i w
    enters-stands i w below (k, l, e, from) = (
      k,
      let long = path-long s.path node in omega arith,
      path-old s.path node k l ∙ e,
      λ start c. elim (Contains-push_cases s.starts n start c) [ inl o ↦ from start o | inr same ↦ λ le. absurd (let f : ⊥ = omega arith in f) ],
    )

    enters-followed : (i w : ℕ) → i < length path → IsSource sources (get_or path i 0) w → (0 < get_or s.numbers w 0) ⊎ (StandsFrom after i w ⊎ Contains after.waiting (link_at i w))
    enters-followed i w l is = elim (which i l) [
      | inl (below, e) ↦ elim (h.followed i w below (subst (λ v. IsSource sources v w) e is)) [
        | inl known ↦ inl known
        | inr (inl stands) ↦ inr (inl (enters-stands i w below stands))
        | inr (inr waiting) ↦ elim (Contains-append_cases s.waiting more (link_at i w) waiting) [
          | inl old ↦ inr (inr (Contains-append_left s.waiting (map (link_at n) (sources_at sources node)) (link_at i w) old))
          | inr new ↦
              (let e : w ≡ node = to (link_at i w) new in
              let long = path-long s.path node in
              inr (inl (n, omega arith, path-new s.path node n refl ∙ sym e, λ start c le. omega arith)))
        ]
      ]
      | inr (same, e) ↦
          inr (inr (Contains-append_right s.waiting (map (link_at n) (sources_at sources node)) (link_at i w)
          (subst (λ m. Contains (map (link_at n) (sources_at sources node)) (link_at m w)) (sym same)
          (in-row n (sources_at sources node) w (subst (λ v. IsSource sources v w) e is)))))
    ]

    enters-waits : (link : Link) → Contains after.waiting link → (link.place < length path) × IsSource sources (get_or path link.place 0) link.node
    enters-waits link c = let long = path-long s.path node in elim (Contains-append_cases s.waiting (map (link_at n) (sources_at sources node)) link c) [
      | inl old ↦
          (let r = h.waits link (Contains-append_left s.waiting more link old) in
          let r0 = r.0 in (
            omega arith,
            subst (λ v. IsSource sources v link.node) (sym (path-old s.path node link.place r0)) r.1,
          ))
      | inr new ↦
          (let r = from-row n (sources_at sources node) link new in
          let r0 = r.0 in (
            omega arith,
            subst (λ v. IsSource sources v link.node) (sym (path-new s.path node link.place r0)) r.1,
          ))
    ]

    pub search-entered : IsSearch sources after
    search-entered = record {
      long_places = many;
      long_numbers = h.long_numbers;
      there = enters-there;
      placed = enters-placed;
      unknown = enters-unknown;
      seen = enters-seen;
      closed = h.closed;
      same = h.same;
      named = h.named;
      onward = enters-onward;
      back = enters-back;
      followed = enters-followed;
      waits = enters-waits;
      starts_up = upward-append s.starts (n ∷ []) h.starts_up (upward-one n)
          (λ a b al bl. let r = h.starts_in (get_or s.starts a 0) (Contains-get_or s.starts a 0 al) in let z : b ≡ 0 = omega arith in let e : get_or (n ∷ []) b 0 ≡ n = ap (λ k. get_or (n ∷ []) k 0) z in omega arith);
      starts_in = λ start c. let long = path-long s.path node in elim (Contains-push_cases s.starts n start c) [ inl o ↦ (let r = h.starts_in start o in omega arith) | inr e ↦ omega arith ];
      waiting_up = upward-links s.waiting n (sources_at sources node) (upward-links_left s.waiting more h.waiting_up)
          (below-all s.waiting n (λ link c. let r = (h.waits link (Contains-append_left s.waiting more link c)).0 in omega arith));
    }

  -- the last link led to a node whose component is known
  pub search-skipped : (s : Stage) (link : Link) → IsSearch sources (with_links s (link ∷ [])) → 0 < get_or s.numbers link.node 0 → IsSearch sources s
  search-skipped s link h known = record {
    long_places = h.long_places;
    long_numbers = h.long_numbers;
    there = h.there;
    placed = h.placed;
    unknown = h.unknown;
    seen = h.seen;
    closed = h.closed;
    same = h.same;
    named = h.named;
    onward = h.onward;
    back = h.back;
    followed = λ i w lt is. elim (h.followed i w lt is) [
      | inl k ↦ inl k
      | inr (inl stands) ↦ inr (inl stands)
      | inr (inr waiting) ↦ elim (Contains-push_cases s.waiting link (link_at i w) waiting) [
        | inl old ↦ inr (inr old)
        | inr e ↦ inl (subst (λ v. 0 < get_or s.numbers v 0) (ap (λ (l : Link). l.node) e) known)
      ]
    ];
    waits = λ l c. h.waits l (Contains-append_left s.waiting (link ∷ []) l c);
    starts_up = h.starts_up;
    starts_in = h.starts_in;
    waiting_up = upward-links_left s.waiting (link ∷ []) h.waiting_up;
  }

  -- the last link leaves the last component: it leads to a node, to which each of the path leads
  module _ (s : Stage) (link : Link) (h : IsSearch sources (with_links s (link ∷ []))) where
    pub link-there : (link.place < length s.path) × IsSource sources (get_or s.path link.place 0) link.node
    link-there = h.waits link (Contains-push s.waiting link)

    pub link-to : AreThere sources → link.node < length sources
    link-to there = there (get_or s.path link.place 0) link.node link-there.1

    pub link-leads : last_start s.starts ≤ link.place → (k : ℕ) → k < length s.path → LeadsOn sources (get_or s.path k 0) link.node
    link-leads leaves k lt =
        let l = link-there.0 in
        Leads-on (IsSource sources) (get_or s.path k 0) (get_or s.path link.place 0) link.node (elim (cases_lt link.place k) [
          | inr ge ↦ h.onward k link.place ge l
          | inl less ↦ elim (h.back link.place k (omega arith) lt) [
            | inl b ↦ b
            | inr (start, c, above, below) ↦ (let r = below-last s.starts start h.starts_up c in absurd (let f : ⊥ = omega arith in f))
          ]
        ]) (Leads-one (IsSource sources) (get_or s.path link.place 0) link.node link-there.1)

  -- where nothing more waits
  pub search-with_none : (s : Stage) → IsSearch sources s → IsSearch sources (with_links s [])
  search-with_none s h = subst (λ links. IsSearch sources (record { places = s.places; numbers = s.numbers; path = s.path; starts = s.starts; waiting = links })) (sym (append-nil s.waiting)) h

  -- where the path is empty, a node that was entered is known
  pub known-all : (s : Stage) (v : ℕ) → IsSearch sources s → s.path ≡ [] → 0 < get_or s.places v 0 → 0 < get_or s.numbers v 0
  known-all s v h none pos = elim (h.seen v pos) [
    | inl known ↦ known
    | inr on ↦ (let lt = on.0 in let e = ap length none in absurd (let f : ⊥ = omega arith in f))
  ]

  pub fresh-all : (s : Stage) (v : ℕ) → IsSearch sources s → s.path ≡ [] → get_or s.numbers v 0 ≡ 0 → get_or s.places v 0 ≡ 0
  fresh-all s v h none e = elim (cases_lt 0 (get_or s.places v 0)) [
    | inl pos ↦ (let known = known-all s v h none pos in absurd (let f : ⊥ = omega arith in f))
    | inr zero_there ↦ omega arith
  ]

pub keeps-on : (s s' s'' : Stage) → Keeps s s' → Keeps s' s'' → Keeps s s''
keeps-on s s' s'' a b = record { entered = λ v pos. b.entered v (a.entered v pos); known = λ v pos. b.known v (a.known v pos) }

pub entered-at : (s : Stage) (node : ℕ) (row : List ℕ) → node < length s.places → 0 < get_or (entered s node row).places node 0
entered-at s node row lt = let e = get_or-set_same s.places node (length s.path + 1) 0 lt in omega arith

pub keeps-entered : (s : Stage) (node : ℕ) (row : List ℕ) → node < length s.places → Keeps s (entered s node row)
keeps-entered s node row lt = record {
  entered = λ v pos. elim (cases_eq v node) [
    | inl e ↦ subst (λ u. 0 < get_or (entered s node row).places u 0) (sym e) (entered-at s node row lt)
    | inr ne ↦ (let e = get_or-set_other s.places node v (length s.path + 1) 0 ne in omega arith)
  ];
  known = λ v pos. pos;
}

-- the steps that a node costs which is entered
ahead-set : (sources : List (List ℕ)) (places : List ℕ) (node x : ℕ) → node < length places → node < length sources → get_or places node 0 ≡ 0 → ahead sources (set places node (x + 1)) + (length (sources_at sources node) + 3) ≡ ahead sources places
ahead-set [] places node x lt ls e = absurd (let f : ⊥ = omega arith in f)
ahead-set (row ∷ rows) [] node x lt ls e = absurd (let f : ⊥ = omega arith in f)
ahead-set (row ∷ rows) (p ∷ places) zero x lt ls e = let z : p ≡ 0 = e in
    let t : nat_eq (x + 1) 0 ≡ false = ne_eqb (x + 1) 0 (λ o. let f : ⊥ = omega arith in f) in
    let u : nat_eq p 0 ≡ true = eq-eqb p 0 z in
    rw (t, u) (omega arith)
ahead-set (row ∷ rows) (p ∷ places) (suc node) x lt ls e = let r = ahead-set rows places node x (omega arith) (omega arith) e in omega arith

pub work-entered : (sources : List (List ℕ)) (s : Stage) (node : ℕ) → node < length s.places → node < length sources → get_or s.places node 0 ≡ 0 → work sources (entered s node (sources_at sources node)) ≤ work sources s
work-entered sources s node lt ls e =
    let a = ahead-set sources s.places node (length s.path) lt ls e in
    let w = length-append s.waiting (map (link_at (length s.path)) (sources_at sources node)) in
    let l = length-map (sources_at sources node) (link_at (length s.path)) in
    let p = path-long s.path node in
    let q = path-long s.starts (length s.path) in
    omega arith
