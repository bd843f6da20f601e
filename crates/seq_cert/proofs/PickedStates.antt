-- Picking states by class: one more state goes to the list of its class, and to no other.
use Rattle.std.proofs.Common.{◌≡◌, ◌≢◌, ℕ, ◌+◌, ◌<◌, List, [], ◌∷◌, ◌++◌, length, map, take, set, get_or, filter, sym, ap, subst, ◌∙◌, arith, inl, inr, append-nil}
use Rattle.std.specs.Prelude.{true, false, cond, nat_eq}
use Rattle.std.specs.List.{All}
use Rattle.std.proofs.lemmas.Bool.{cases_eq, eq-eqb}
use Rattle.std.proofs.lemmas.Bool.Decides.{nat_tests}
use Rattle.std.proofs.lemmas.List.{map-append, length-set, get_or-set_same, get_or-set_other}
use Rattle.std.proofs.lemmas.List.Elements.{filter_more, All-push}
use Rattle.sig_lines.specs.declared.labels.StateLabel.{StateLabel}
use Rattle.seq_cert.specs.OutcomeReport.{is_of}
use Rattle.seq_cert.specs.ByClass.{no_state, Picks, ArePicked}

module _ (states : List StateLabel) (at : ℕ) (there : at < length states) where
  state : StateLabel
  state = get_or states at no_state

  -- the state is of the class
  picks_it : (k : ℕ) (numbers more : List ℕ) → nat_eq (get_or states at no_state).class k ≡ true → more ≡ numbers ++ at ∷ []
      → Picks states numbers (filter (is_of k) (take at states)) → Picks states more (filter (is_of k) (take (at + 1) states))
  picks_it k numbers more same is before = record {
    there = subst (All (λ i. i < length states)) (sym is) (All-push (λ i. i < length states) numbers at before.there there);
    are =
        ap (map (λ i. get_or states i no_state)) is
        ∙ map-append (λ i. get_or states i no_state) numbers (at ∷ [])
        ∙ ap (λ l. l ++ get_or states at no_state ∷ []) before.are
        ∙ sym (filter_more (is_of k) states at no_state there ∙ ap (λ b. filter (is_of k) (take at states) ++ cond b (get_or states at no_state ∷ []) []) same);
  }

  -- the state is of another class
  picks_other : (k : ℕ) (numbers more : List ℕ) → nat_eq (get_or states at no_state).class k ≡ false → more ≡ numbers
      → Picks states numbers (filter (is_of k) (take at states)) → Picks states more (filter (is_of k) (take (at + 1) states))
  picks_other k numbers more other is before = record {
    there = subst (All (λ i. i < length states)) (sym is) before.there;
    are =
        ap (map (λ i. get_or states i no_state)) is
        ∙ before.are
        ∙ sym (filter_more (is_of k) states at no_state there ∙ ap (λ b. filter (is_of k) (take at states) ++ cond b (get_or states at no_state ∷ []) []) other ∙ append-nil (filter (is_of k) (take at states)));
  }

  module _ (classes : ℕ) (lists : List (List ℕ)) (before : ArePicked states classes at lists) (c : ℕ) (is_class : (get_or states at no_state).class ≡ c) (in_range : c < classes) where
    within : c < length lists
    within = let n = before.count in omega arith

    -- one more state is picked
    pub picked_more : (more : List ℕ) → more ≡ get_or lists c [] ++ at ∷ [] → ArePicked states classes (at + 1) (set lists c more)
    picked_more more is = record {
      count = length-set lists c more ∙ before.count;
      picks = λ k lt. elim (cases_eq k c) [
        | inl same ↦ picks_it k (get_or lists k []) (get_or (set lists c more) k []) (eq-eqb _ _ (is_class ∙ sym same))
            (ap (λ j. get_or (set lists c more) j []) same ∙ get_or-set_same lists c more [] within ∙ is ∙ ap (λ j. get_or lists j [] ++ at ∷ []) (sym same))
            (before.picks k lt)
        | inr other ↦ picks_other k (get_or lists k []) (get_or (set lists c more) k []) (not_of k other) (get_or-set_other lists c k more [] other) (before.picks k lt)
      ];
    }
      where
        not_of : (k : ℕ) → k ≢ c → nat_eq (get_or states at no_state).class k ≡ false
        not_of k other = let e = is_class in grind (arith, nat_tests)
