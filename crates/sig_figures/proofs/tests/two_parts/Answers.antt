-- The two parts are valid: its lists are short, and each number in them is that of a node.
use Rattle.std.proofs.Common.{◌≡◌, ℕ, zero, suc, ◌+◌, ◌<◌, ◌≤◌, List, [], ◌∷◌, ◌++◌, length, refl, sym, ap, ◌∙◌, arith, subst, inl, inr}
use Rattle.std.specs.Prelude.{Bool, true, ◌&&◌, nat_eq, nat_lt, nat_le}
use Rattle.std.specs.List.{Contains, list_all}
use Rattle.std.proofs.lemmas.Bool.{and_parts, ltb-true, leb-true, eqb-true, false≢true}
use Rattle.std.proofs.lemmas.Nat.Bits.{bit_at-pow_other}
use Rattle.std.proofs.lemmas.List.Elements.{Contains-push_cases}
use Rattle.sig_types.specs.NameText.{is_name}
use Rattle.sig_types.specs.LabelText.{is_label}
use Rattle.sig_types.specs.Sets.{has_bit}
use Rattle.sig_flat.specs.declared.flat.Node.{Node}
use Rattle.std.proofs.lemmas.List.{length_push}
use Rattle.sig_flat.specs.declared.flat.Fault.{Fault}
use Rattle.sig_flat.specs.declared.flat.FlatLink.{FlatLink}
use Rattle.sig_flat.specs.declared.flat.FlatTest.{FlatTest}
use Rattle.sig_figures.proofs.tests.two_parts.Goals as goal

of-one : {A : Type 0} (P : A → Type 0) (a x : A) → P a → Contains (a ∷ []) x → P x
of-one P a x p (zero, lt, e) = subst P e p
of-one P a x p (suc k, lt, e) = absurd (let no : ⊥ = omega arith in no)

of-two : {A : Type 0} (P : A → Type 0) (a b x : A) → P a → P b → Contains (a ∷ b ∷ []) x → P x
of-two P a b x p q (zero, lt, e) = subst P e p
of-two P a b x p q (suc k, lt, e) = of-one P b x q (k, omega arith, e)

of-all : {A : Type 0} (p : A → Bool) (xs : List A) (x : A) → list_all p xs ≡ true → Contains xs x → p x ≡ true
of-all p [] x h (k, lt, e) = absurd (let no : ⊥ = omega arith in no)
of-all p (y ∷ xs) x h (zero, lt, e) = ap p (sym e) ∙ (and_parts (p y) (list_all p xs) h).0
of-all p (y ∷ xs) x h (suc k, lt, e) = of-all p xs x (and_parts (p y) (list_all p xs) h).1 (k, omega arith, e)

longer : {A : Type 0} (xs ys : List A) (x : A) → ys ≡ xs ++ x ∷ [] → length ys ≡ length xs + 1
longer xs ys x e = ap length e ∙ length_push xs x

all-of-two : {A : Type 0} (P : A → Type 0) (l0 l1 l2 : List A) (a b : A) → l0 ≡ [] → l1 ≡ l0 ++ a ∷ [] → l2 ≡ l1 ++ b ∷ [] → P a → P b → (x : A) → Contains l2 x → P x
all-of-two P l0 l1 l2 a b e0 e1 e2 p q x i = of-two P a b x p q (subst (λ l. Contains l x) (e2 ∙ ap (λ l. l ++ b ∷ []) (e1 ∙ ap (λ l. l ++ a ∷ []) e0)) i)

all-of-four : {A : Type 0} (P : A → Type 0) (l0 l1 l2 l3 l4 : List A) (a b d e : A) → l0 ≡ [] → l1 ≡ l0 ++ a ∷ [] → l2 ≡ l1 ++ b ∷ [] → l3 ≡ l2 ++ d ∷ [] → l4 ≡ l3 ++ e ∷ [] → P a → P b → P d → P e → (x : A) → Contains l4 x → P x
all-of-four P l0 l1 l2 l3 l4 a b d e e0 e1 e2 e3 e4 p q r s =
    more l3 l4 e e4 (more l2 l3 d e3 (all-of-two P l0 l1 l2 a b e0 e1 e2 p q) r) s
  where
    more : (xs ys : List _) (y : _) → ys ≡ xs ++ y ∷ [] → ((x : _) → Contains xs x → P x) → P y → (x : _) → Contains ys x → P x
    more xs ys y same h here x i = elim (Contains-push_cases xs y x (subst (λ l. Contains l x) same i)) [ inl before ↦ h x before | inr last ↦ subst P last here ]

-- a text that is this label
labelled : (text label : List ℕ) → text ≡ label → is_label label ≡ true → is_label text ≡ true
labelled text label same is = ap is_label same ∙ is

-- the first mode alone
first-mode : (k : ℕ) → has_bit 1 k ≡ true → k < 1
first-mode zero h = omega arith
first-mode (suc k) h = absurd (false≢true (sym (ap (λ b. nat_eq b 1) (bit_at-pow_other 0 (suc k) (λ e. let no : ⊥ = omega arith in no))) ∙ h))

pub invariant_of-result : goal.invariant_of-result
invariant_of-result c =
    let m0 = ap length c.new-modes.ensures in
    let m1 = longer _ _ _ c.in_ok-push.ensures.ok in
    let n0 = ap length c.new-nodes.ensures in
    let n1 = longer _ _ _ c.in_ok-push-2.ensures.ok in
    let n2 = longer _ _ _ c.in_ok-push-3.ensures.ok in
    let n3 = longer _ _ _ c.in_ok-push-4.ensures.ok in
    let n4 = longer _ _ _ c.in_ok-push-5.ensures.ok in
    let modes : length c.push.new.self ≡ 1 = omega arith in
    let nodes : length c.push-5.new.self ≡ 4 = omega arith in
    let f0 = ap length c.new-faults.ensures in
    let f1 = longer _ _ _ c.in_ok-push-6.ensures.ok in
    let f2 = longer _ _ _ c.in_ok-push-7.ensures.ok in
    let few_links = c.requires.few_links in
    let few_tests = c.requires.few_tests in
    record {
      valid = record {
        modes = (omega arith, omega arith);
        nodes = omega arith;
        links = omega arith;
        faults = omega arith;
        tests = omega arith;
        good = omega arith;
        link_ends = λ link i.
            let both = and_parts (nat_lt link.from 4) (nat_lt link.to 4 && nat_eq link.modes.0 1) (of-all (λ (l : FlatLink). nat_lt l.from 4 && (nat_lt l.to 4 && nat_eq l.modes.0 1)) c.args.links link c.requires.ends i) in
            let from = ltb-true link.from 4 both.0 in
            let to = ltb-true link.to 4 (and_parts (nat_lt link.to 4) (nat_eq link.modes.0 1) both.1).0 in
            (omega arith, omega arith);
        link_modes = λ link i mode on.
            let both = and_parts (nat_lt link.from 4) (nat_lt link.to 4 && nat_eq link.modes.0 1) (of-all (λ (l : FlatLink). nat_lt l.from 4 && (nat_lt l.to 4 && nat_eq l.modes.0 1)) c.args.links link c.requires.ends i) in
            let first = first-mode mode (subst (λ w. has_bit w mode ≡ true) (eqb-true link.modes.0 1 (and_parts (nat_lt link.to 4) (nat_eq link.modes.0 1) both.1).1) on) in
            omega arith;
        fault_parts = (let heavy = c.requires.heavy in let an = c.in_ok-fault.ensures.node in let aw = c.in_ok-fault.ensures.weight in let bn = c.in_ok-fault-2.ensures.node in let bw = c.in_ok-fault-2.ensures.weight in
            all-of-two (λ (f : Fault). (f.node < length c.push-5.new.self) × (1 ≤ f.weight) × (f.weight ≤ 1000000)) _ _ _ _ _ c.new-faults.ensures c.in_ok-push-6.ensures.ok c.in_ok-push-7.ensures.ok (omega arith, omega arith, omega arith) (omega arith, omega arith, omega arith));
        test_points = λ test i.
            let all = and_parts (nat_lt test.node 4 && nat_lt test.mode 1) (nat_le 1 test.cost && nat_le test.cost 1000000) (of-all (λ (t : FlatTest). (nat_lt t.node 4 && nat_lt t.mode 1) && (nat_le 1 t.cost && nat_le t.cost 1000000)) c.args.tests test c.requires.points i) in
            let there = and_parts (nat_lt test.node 4) (nat_lt test.mode 1) all.0 in
            let costs = and_parts (nat_le 1 test.cost) (nat_le test.cost 1000000) all.1 in
            let node = ltb-true test.node 4 there.0 in
            let mode = ltb-true test.mode 1 there.1 in
            let least = leb-true 1 test.cost costs.0 in
            let most = leb-true test.cost 1000000 costs.1 in
            (omega arith, omega arith, omega arith, omega arith);
        state = omega arith;
        mode_names = λ n i. of-one (λ n. is_name n ≡ true) c.args.normal n (subst (λ n. is_name n ≡ true) c.as_bytes-normal.ensures.value c.as_bytes-normal.ensures.name) (subst (λ l. Contains l n) (c.in_ok-push.ensures.ok ∙ ap (λ l. l ++ c.args.normal ∷ []) c.new-modes.ensures) i);
        node_labels = all-of-four (λ (n : Node). is_label n.path ≡ true) _ _ _ _ _ _ _ _ _ c.new-nodes.ensures c.in_ok-push-2.ensures.ok c.in_ok-push-3.ensures.ok c.in_ok-push-4.ensures.ok c.in_ok-push-5.ensures.ok
            (labelled _ _ c.in_ok-node.ensures refl) (labelled _ _ c.in_ok-node-2.ensures refl) (labelled _ _ c.in_ok-node-3.ensures refl) (labelled _ _ c.in_ok-node-4.ensures refl);
        fault_labels = all-of-two (λ (f : Fault). is_label f.label ≡ true) _ _ _ _ _ c.new-faults.ensures c.in_ok-push-6.ensures.ok c.in_ok-push-7.ensures.ok (labelled _ _ c.in_ok-fault.ensures.label refl) (labelled _ _ c.in_ok-fault-2.ensures.label refl);
        test_labels = λ test i. of-all (λ (t : FlatTest). is_label t.label) c.args.tests test c.requires.labels i;
      };
    }
