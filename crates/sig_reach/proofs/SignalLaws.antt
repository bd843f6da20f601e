-- A pass by words marks, for each signal, exactly what the signal leads from.
--
-- For each signal it is the proof of a pass of that signal: what has it is reached; the sources of the target have it;
-- and a node that has it, lets it through and has a source without it still pends with it, so it waits. When nothing
-- waits, the nodes that have it are closed, and whatever is reached has it. All signals together end, since a word that
-- changes comes nearer to the word of all signals.
use Rattle.std.proofs.Common.{◌≡◌, ◌≢◌, ℕ, zero, suc, ◌-◌, ◌^◌, ◌<◌, List, [], ◌∷◌, ◌++◌, take, drop, length, get_or, set, replicate, bit_and, bit_or, refl, sym, ap, ◌∙◌, arith, ◌⊎◌, inl, inr, subst, length-append, get_or-set_same, get_or-set_other, w64}
use Rattle.std.specs.Prelude.{true, false, not, ◌↔◌}
use Rattle.std.specs.Int.{bit_not}
use Rattle.std.specs.List.{Contains}
use Rattle.std.proofs.lemmas.Bool.{cases_Bool, cases_lt, true≢false, not-true}
use Rattle.std.proofs.lemmas.List.{get_or-map}
use Rattle.std.proofs.Math.Seq.{take-append_seam}
use Rattle.std.proofs.lemmas.List.Elements.{Contains-push, Contains-push_cases, Contains-append_left}
use Rattle.std.proofs.lemmas.List.Sums.{sum_by-set}
use Rattle.sig_types.specs.Sets.{has_bit}
use Rattle.sig_reach.specs.Walks.{seed, along}
use Rattle.sig_reach.specs.Marks.{sources_at, IsSource, GoesBack, is_marked, LeadsTo}
use Rattle.sig_reach.specs.Words.{open_to, Has, room, SpreadSignals}
use Rattle.sig_reach.proofs.BitLaws.{has-zero, has-all, left-has, left-of, put-has, put-keeps, put-only, put-grows}
use Rattle.sig_reach.proofs.MarkLaws.{closed_has}

same-or : (a b : ℕ) → (a ≡ b) ⊎ (b ≢ a)
same-or a b = elim (cases_lt b a) [
  | inl lt ↦ inr (λ e. let f : ⊥ = omega arith in f)
  | inr ge ↦ elim (cases_lt a b) [ inl lt ↦ inr (λ e. let f : ⊥ = omega arith in f) | inr le ↦ inl (omega arith) ]
]

-- words without signals
zero-at : (n v : ℕ) → get_or (replicate {A = ℕ} n 0) v 0 ≡ 0
zero-at zero v = refl
zero-at (suc n) zero = refl
zero-at (suc n) (suc v) = zero-at n v

has-none : (n v s : ℕ) → Has (replicate n 0) v s → ⊥
has-none n v s h = true≢false (sym h ∙ ap (λ w. has_bit w s) (zero-at n v) ∙ has-zero s)

-- more is put into the word of a node
module _ (words : List ℕ) (node more : ℕ) (there : node < length words) where
  abbrev pub put : List ℕ
  put = set words node (bit_or (get_or words node 0) more)

  itself : get_or put node 0 ≡ bit_or (get_or words node 0) more
  itself = get_or-set_same words node (bit_or (get_or words node 0) more) 0 there

  others : (v : ℕ) → v ≢ node → get_or put v 0 ≡ get_or words v 0
  others v ne = get_or-set_other words node v (bit_or (get_or words node 0) more) 0 ne

  has-put : (s : ℕ) → has_bit more s ≡ true → Has put node s
  has-put s h = ap (λ w. has_bit w s) itself ∙ put-has (get_or words node 0) more s h

  keeps-put : (v s : ℕ) → Has words v s → Has put v s
  keeps-put v s h = elim (same-or node v) [
    | inl e ↦ subst (λ u. Has put u s) e (ap (λ w. has_bit w s) itself ∙ put-keeps (get_or words node 0) more s (subst (λ u. Has words u s) (sym e) h))
    | inr ne ↦ ap (λ w. has_bit w s) (others v ne) ∙ h
  ]

  only-put : (v s : ℕ) → Has put v s → Has words v s ⊎ ((node ≡ v) × (has_bit more s ≡ true))
  only-put v s h = elim (same-or node v) [
    | inl e ↦ elim (put-only (get_or words node 0) more s (sym (ap (λ w. has_bit w s) itself) ∙ subst (λ u. Has put u s) (sym e) h)) [
      | inl o ↦ inl (subst (λ u. Has words u s) e o)
      | inr m ↦ inr (e, m)
    ]
    | inr ne ↦ inl (sym (ap (λ w. has_bit w s) (others v ne)) ∙ h)
  ]

-- the word of a node is emptied
only-cleared : (pending : List ℕ) (node v s : ℕ) → node < length pending → Has (set pending node 0) v s → (v ≢ node) × Has pending v s
only-cleared pending node v s there h = elim (same-or node v) [
  | inl e ↦ absurd (true≢false (sym h ∙ sym (ap (λ u. has_bit (get_or (set pending node 0) u 0) s) e) ∙ ap (λ w. has_bit w s) (get_or-set_same pending node 0 0 there) ∙ has-zero s))
  | inr ne ↦ (ne, sym (ap (λ w. has_bit w s) (get_or-set_other pending node v 0 0 ne)) ∙ h)
]

others-cleared : (pending : List ℕ) (node v s : ℕ) → v ≢ node → Has pending v s → Has (set pending node 0) v s
others-cleared pending node v s ne h = ap (λ w. has_bit w s) (get_or-set_other pending node v 0 0 ne) ∙ h

-- of spreading over a list of nodes
pub signals-none : (nodes : List ℕ) (words pending waiting : List ℕ) → SpreadSignals nodes 0 words pending waiting words pending waiting
signals-none nodes words pending waiting = record {
  kept = λ v s h. h;
  given = λ v s small i h. absurd (true≢false (sym h ∙ has-zero s));
  only = λ v s small h. inl h;
  pends = λ v s h. h;
  new_pends = λ v s h. inl h;
  pends_only = λ v s h. inl h;
  waits = λ v i. i;
  new_waits = λ v s h. inl h;
  waits_only = λ v i. inl i;
  fewer = omega arith;
}

module _ (signals : ℕ) (words pending waiting : List ℕ) where
  pub signals-start : SpreadSignals [] signals words pending waiting words pending waiting
  signals-start = record {
    kept = λ v s h. h;
    given = λ v s small (k, lt, e) h. absurd (let f : ⊥ = omega arith in f);
    only = λ v s small h. inl h;
    pends = λ v s h. h;
    new_pends = λ v s h. inl h;
    pends_only = λ v s h. inl h;
    waits = λ v i. i;
    new_waits = λ v s h. inl h;
    waits_only = λ v i. inl i;
    fewer = omega arith;
  }

  module _ (nodes words' pending' waiting' : List ℕ) (node : ℕ) where
    pub signals-same : get_or words' node 0 < 2 ^ 64 → bit_and signals (bit_not w64 (get_or words' node 0)) ≡ 0 → SpreadSignals nodes signals words pending waiting words' pending' waiting' → SpreadSignals (nodes ++ node ∷ []) signals words pending waiting words' pending' waiting'
    signals-same fits nothing h = record {
      kept = h.kept;
      given = λ v s small i has. elim (Contains-push_cases nodes node v i) [
        | inl j ↦ h.given v s small j has
        | inr e ↦ subst (λ u. Has words' u s) e (already s small has)
      ];
      only = λ v s small m. elim (h.only v s small m) [ inl o ↦ inl o | inr (i, has) ↦ inr (Contains-append_left nodes (node ∷ []) v i, has) ];
      pends = h.pends;
      new_pends = h.new_pends;
      pends_only = h.pends_only;
      waits = h.waits;
      new_waits = h.new_waits;
      waits_only = λ v i. elim (h.waits_only v i) [ inl o ↦ inl o | inr n ↦ inr (Contains-append_left nodes (node ∷ []) v n) ];
      fewer = h.fewer;
    }
      where
        already : (s : ℕ) → s < 64 → has_bit signals s ≡ true → Has words' node s
        already s small has = elim (cases_Bool (has_bit (get_or words' node 0) s)) [
          | inl y ↦ y
          | inr n ↦ absurd (true≢false (sym (left-has signals (get_or words' node 0) s fits small has n) ∙ ap (λ w. has_bit w s) nothing ∙ has-zero s))
        ]

    -- what the node's word lacks
    abbrev pub fresh : ℕ
    fresh = bit_and signals (bit_not w64 (get_or words' node 0))

    pub signals-more : node < length words' → node < length pending' → get_or words' node 0 < 2 ^ 64 → signals < 2 ^ 64 → (fresh ≡ 0 → ⊥) → bit_or (get_or words' node 0) fresh < 2 ^ 64 → SpreadSignals nodes signals words pending waiting words' pending' waiting'
        → SpreadSignals (nodes ++ node ∷ []) signals words pending waiting (set words' node (bit_or (get_or words' node 0) fresh)) (set pending' node (bit_or (get_or pending' node 0) fresh)) (waiting' ++ node ∷ [])
    signals-more there there' fits all new whole h = record {
      kept = λ v s m. keeps v s (h.kept v s m);
      given = λ v s small i has. elim (Contains-push_cases nodes node v i) [
        | inl j ↦ keeps v s (h.given v s small j has)
        | inr e ↦ subst (λ u. Has (put words' node fresh there) u s) e (elim (cases_Bool (has_bit (get_or words' node 0) s)) [
          | inl y ↦ keeps node s y
          | inr n ↦ has-put words' node fresh there s (left-has signals (get_or words' node 0) s fits small has n)
        ])
      ];
      only = λ v s small m. elim (only-put words' node fresh there v s m) [
        | inl o ↦ elim (h.only v s small o) [ inl p ↦ inl p | inr (i, has) ↦ inr (Contains-append_left nodes (node ∷ []) v i, has) ]
        | inr (e, f) ↦ inr (subst (λ u. Contains (nodes ++ node ∷ []) u) e (Contains-push nodes node), (left-of signals (get_or words' node 0) s fits small f).0)
      ];
      pends = λ v s p. keeps' v s (h.pends v s p);
      new_pends = λ v s m. elim (only-put words' node fresh there v s m) [
        | inl o ↦ elim (h.new_pends v s o) [ inl p ↦ inl p | inr q ↦ inr (keeps' v s q) ]
        | inr (e, f) ↦ inr (subst (λ u. Has (put pending' node fresh there') u s) e (has-put pending' node fresh there' s f))
      ];
      pends_only = λ v s p. elim (only-put pending' node fresh there' v s p) [
        | inl o ↦ elim (h.pends_only v s o) [ inl q ↦ inl q | inr m ↦ inr (keeps v s m) ]
        | inr (e, f) ↦ inr (subst (λ u. Has (put words' node fresh there) u s) e (has-put words' node fresh there s f))
      ];
      waits = λ v i. Contains-append_left waiting' (node ∷ []) v (h.waits v i);
      new_waits = λ v s p. elim (only-put pending' node fresh there' v s p) [
        | inl o ↦ elim (h.new_waits v s o) [ inl q ↦ inl q | inr i ↦ inr (Contains-append_left waiting' (node ∷ []) v i) ]
        | inr (e, f) ↦ inr (subst (λ u. Contains (waiting' ++ node ∷ []) u) e (Contains-push waiting' node))
      ];
      waits_only = λ v i. elim (Contains-push_cases waiting' node v i) [
        | inl j ↦ elim (h.waits_only v j) [ inl o ↦ inl o | inr n ↦ inr (Contains-append_left nodes (node ∷ []) v n) ]
        | inr e ↦ inr (subst (λ u. Contains (nodes ++ node ∷ []) u) e (Contains-push nodes node))
      ];
      fewer = (let f = h.fewer in let l = length-append waiting' (node ∷ []) in
          let sums = sum_by-set room words' node (bit_or (get_or words' node 0) fresh) 0 there in
          let grows = put-grows (get_or words' node 0) signals fits all new in
          omega arith);
    }
      where
        keeps : (v s : ℕ) → Has words' v s → Has (put words' node fresh there) v s
        keeps = keeps-put words' node fresh there

        keeps' : (v s : ℕ) → Has pending' v s → Has (put pending' node fresh there') v s
        keeps' = keeps-put pending' node fresh there'

-- of a pass: what holds between two steps
pub record PassingSignals (sources : List (List ℕ)) (stops : List ℕ) (target : ℕ) (words pending waiting : List ℕ) : Type 0 where
  pub long : length words ≡ length sources
  pub wide : length pending ≡ length sources
  pub there : (v : ℕ) → Contains waiting v → v < length sources
  pub sound : (v s : ℕ) → s < 64 → Has words v s → LeadsTo sources (open_to s stops) target v
  pub seeds : (v s : ℕ) → s < 64 → IsSource sources target v → Has words v s
  pub known : (v s : ℕ) → s < 64 → Has pending v s → Has words v s
  pub queued : (v s : ℕ) → s < 64 → Has pending v s → Contains waiting v
  pub settled : (u v s : ℕ) → s < 64 → Has words u s → GoesBack sources (open_to s stops) u v → Has pending u s ⊎ Has words v s

pub passing-start : (sources : List (List ℕ)) (stops : List ℕ) (target n : ℕ) (words pending waiting : List ℕ) → length words ≡ length sources → length pending ≡ length sources → ((from : ℕ) → IsSource sources target from → from < length sources)
    → SpreadSignals (sources_at sources target) (2 ^ 64 - 1) (replicate n 0) (replicate n 0) [] words pending waiting → PassingSignals sources stops target words pending waiting
passing-start sources stops target n words pending waiting long wide below h = record {
  long = long;
  wide = wide;
  there = λ v i. elim (h.waits_only v i) [ inl (k, lt, e) ↦ absurd (let f : ⊥ = omega arith in f) | inr j ↦ below v j ];
  sound = λ v s small m. elim (h.only v s small m) [ inl o ↦ absurd (has-none n v s o) | inr (i, has) ↦ seed i ];
  seeds = λ v s small i. h.given v s small i (has-all s small);
  known = λ v s small p. elim (h.pends_only v s p) [ inl o ↦ absurd (has-none n v s o) | inr m ↦ m ];
  queued = λ v s small p. elim (h.new_waits v s p) [ inl o ↦ absurd (has-none n v s o) | inr i ↦ i ];
  settled = λ u v s small m g. elim (h.new_pends u s m) [ inl o ↦ absurd (has-none n u s o) | inr p ↦ inl p ];
}

-- the elements of a list with one before them
cases-front : (rest : List ℕ) (node v : ℕ) → Contains (node ∷ rest) v → (node ≡ v) ⊎ Contains rest v
cases-front rest node v (zero, lt, e) = inl e
cases-front rest node v (suc k, lt, e) = inr (k, omega arith, e)

module _ (sources : List (List ℕ)) (stops : List ℕ) (target : ℕ) where
  pub passing-there : (words pending rest : List ℕ) (node : ℕ) → PassingSignals sources stops target words pending (node ∷ rest) → node < length sources
  passing-there words pending rest node h = h.there node (0, omega arith, refl)

  pub passing-step : (words pending rest : List ℕ) (node stop : ℕ) (words' pending' waiting' : List ℕ) → stop < 2 ^ 64 → stop ≡ get_or stops node 0 → node < length stops → node < length pending → length words' ≡ length words → length pending' ≡ length pending
      → ((from : ℕ) → IsSource sources node from → from < length sources) → PassingSignals sources stops target words pending (node ∷ rest)
      → SpreadSignals (sources_at sources node) (bit_and (get_or pending node 0) (bit_not w64 stop)) words (set pending node 0) rest words' pending' waiting' → PassingSignals sources stops target words' pending' waiting'
  passing-step words pending rest node stop words' pending' waiting' fits read within there long wide below h p = record {
    long = long ∙ h.long;
    wide = wide ∙ h.wide;
    there = λ v i. elim (p.waits_only v i) [ inl o ↦ h.there v (later v o) | inr n ↦ below v n ];
    sound = λ v s small m. elim (p.only v s small m) [
      | inl o ↦ h.sound v s small o
      | inr (i, has) ↦ (let l = left-of (get_or pending node 0) stop s fits small has in along (h.sound node s small (h.known node s small l.0)) (open-here s ∙ ap not l.1, i))
    ];
    seeds = λ v s small i. p.kept v s (h.seeds v s small i);
    known = λ v s small q. elim (p.pends_only v s q) [ inl o ↦ p.kept v s (h.known v s small (only-cleared pending node v s there o).1) | inr m ↦ m ];
    queued = λ v s small q. elim (p.new_waits v s q) [
      | inl o ↦ (let c = only-cleared pending node v s there o in elim (cases-front rest node v (h.queued v s small c.1)) [ inl e ↦ absurd (c.0 (sym e)) | inr i ↦ p.waits v i ])
      | inr i ↦ i
    ];
    settled = λ u v s small m g. elim (p.new_pends u s m) [
      | inr q ↦ inl q
      | inl o ↦ elim (h.settled u v s small o g) [
        | inr n ↦ inr (p.kept v s n)
        | inl q ↦ elim (same-or node u) [
          | inl e ↦ inr (p.given v s small (subst (λ w. IsSource sources w v) (sym e) g.1) (goes s small (subst (λ w. Has pending w s) (sym e) q) (subst (λ w. is_marked (open_to s stops) w ≡ true) (sym e) g.0)))
          | inr ne ↦ inl (p.pends u s (others-cleared pending node u s ne q))
        ]
      ]
    ];
  }
    where
      later : (v : ℕ) → Contains rest v → Contains (node ∷ rest) v
      later v (k, lt, e) = (suc k, omega arith, e)

      open-here : (s : ℕ) → is_marked (open_to s stops) node ≡ not (has_bit stop s)
      open-here s = get_or-map (λ w. not (has_bit w s)) stops node 0 false within ∙ ap (λ w. not (has_bit w s)) (sym read)

      goes : (s : ℕ) → s < 64 → Has pending node s → is_marked (open_to s stops) node ≡ true → has_bit (bit_and (get_or pending node 0) (bit_not w64 stop)) s ≡ true
      goes s small q gate = left-has (get_or pending node 0) stop s fits small q (not-true (has_bit stop s) (sym (open-here s) ∙ gate))

  -- when nothing waits, the words are exact
  pub passing-exact : (words pending waiting : List ℕ) → length waiting ≡ 0 → PassingSignals sources stops target words pending waiting → (s : ℕ) → s < 64 → (v : ℕ) → Has words v s ↔ LeadsTo sources (open_to s stops) target v
  passing-exact words pending waiting none h s small v = (
    h.sound v s small,
    closed_has (IsSource sources target) (GoesBack sources (open_to s stops)) (λ u. Has words u s) (λ u i. h.seeds u s small i)
        (λ u w m g. elim (h.settled u w s small m g) [ inl q ↦ absurd (let (k, lt, e) = h.queued u s small q in let f : ⊥ = omega arith in f) | inr n ↦ n ]) v,
  )

-- what a pass finds after its words were lent as a slice
pub whole_words : (new items : List ℕ) (n : ℕ) → length new ≡ n → take n (new ++ drop (length new) items) ≡ new
whole_words new items n e = subst (λ k. take k (new ++ drop (length new) items) ≡ new) e (take-append_seam new (drop (length new) items))

-- the same at equal lists
pub signals-along : (signals : ℕ) (words pending waiting xs nodes w2 w p2 p q2 q : List ℕ) → xs ≡ nodes → w2 ≡ w → p2 ≡ p → q2 ≡ q → SpreadSignals nodes signals words pending waiting w p q → SpreadSignals xs signals words pending waiting w2 p2 q2
signals-along signals words pending waiting xs nodes w2 w p2 p q2 q ex ew ep eq h =
    subst (λ l. SpreadSignals l signals words pending waiting w2 p2 q2) (sym ex) (subst (λ l. SpreadSignals nodes signals words pending waiting l p2 q2) (sym ew)
    (subst (λ l. SpreadSignals nodes signals words pending waiting w l q2) (sym ep) (subst (λ l. SpreadSignals nodes signals words pending waiting w p l) (sym eq) h)))

-- and from equal lists
pub signals-at : (signals : ℕ) (xs nodes words2 words pending2 pending waiting2 waiting w p q : List ℕ) → nodes ≡ xs → words ≡ words2 → pending ≡ pending2 → waiting ≡ waiting2 → SpreadSignals nodes signals words pending waiting w p q → SpreadSignals xs signals words2 pending2 waiting2 w p q
signals-at signals xs nodes words2 words pending2 pending waiting2 waiting w p q ex ew ep eq h =
    subst (λ l. SpreadSignals l signals words2 pending2 waiting2 w p q) ex (subst (λ l. SpreadSignals nodes signals l pending2 waiting2 w p q) ew
    (subst (λ l. SpreadSignals nodes signals words l waiting2 w p q) ep (subst (λ l. SpreadSignals nodes signals words pending l w p q) eq h)))
