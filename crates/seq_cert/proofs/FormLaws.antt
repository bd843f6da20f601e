-- The forms of single lines, both ways.
use Rattle.std.proofs.Common.{◌≡◌, ℕ, ◌^◌, ◌<◌, ◌≤◌, List, [], ◌∷◌, length, get_or, decimal, refl, sym, ap, subst, ◌∙◌, arith, lit<, inl, inr, Option, Some, None}
use Rattle.std.specs.Prelude.{Bool, true, false, cond, not, ◌&&◌, nat_eq, nat_le, codes}
use Rattle.std.specs.List.{list_all}
use Rattle.std.specs.Option.{option_map}
use Rattle.std.proofs.lemmas.Bool.{cases_Bool, and_parts}
use Rattle.std.proofs.lemmas.Bool.Decides.{nat_tests}
use Rattle.sig_types.specs.NameText.{is_name_byte, is_name}
use Rattle.sig_lines.specs.Hex.{number_of_words, hex}
use Rattle.sig_lines.specs.Pieces.{Lacks, one, two, three, four, number_words, test_words}
use Rattle.std.specs.Str.{bytes_eq}
use Rattle.sig_lines.specs.Numbers.{number_in, hex_in, words_of}
use Rattle.sig_lines.specs.Laws.{LinesHold, IsPlain, ArePlain, IsSome}
use Rattle.seq_inst.specs.Verdicts.{verdict_word}
use Rattle.seq_inst.specs.declared.outcome.Verdict.{Verdict}
use Rattle.seq_inst.specs.declared.outcome.Verdict.TheVariants.{Optimal, Bounded}
use Rattle.seq_cert.specs.declared.report.StateLine.{StateLine}
use Rattle.seq_cert.specs.declared.report.GroupLine.{GroupLine}
use Rattle.seq_cert.specs.declared.report.MissedLine.{MissedLine}
use Rattle.seq_cert.specs.declared.report.TreeLine.{TreeLine}
use Rattle.seq_cert.specs.declared.report.TreeLine.TheVariants.{Ask, Leaf}
use Rattle.sig_lines.specs.declared.labels.TestLabel.{TestLabel}
use Rattle.seq_cert.specs.LineForms.{most_32, most_64, both, is_in, is_label, is_mode, keyed, numbered, title_in, title_from, mode_word_in, mode_in, verdict_in, result_in, state_from, state_in, group_of, group_from, group_in, class_from, class_in, test_from, test_in, tree_from, tree_line_in, is_tree_line, missed_of, missed_from, missed_in, end_from, end_in}
use Rattle.seq_cert.specs.Text.{title_words, mode_words, result_words, state_words, hex_word, group_words, class_words, tree_words, missed_words}
use Rattle.seq_cert.specs.ReportForm.{InRange, IsState, IsGroup, IsGroupLine, IsClassLine, IsTest, IsMissedLine}
use Rattle.seq_cert.proofs.AllBytes.{text_is, text_self}
use Rattle.seq_cert.proofs.Spells.{IsForm}

abbrev pub IsTreeLine : TreeLine → Type 0
IsTreeLine (Ask t) = t ≤ most_32
IsTreeLine (Leaf c) = c ≤ most_32

-- the lines are found again as they are written
module _ (hold : LinesHold) where
  abbrev some_of : {A : Type 0} → A → Option A
  some_of x = Some x

  pub some_is : {A : Type 0} (x y : A) → some_of x ≡ some_of y → x ≡ y
  some_is x y e = cc

  -- a choice that gave something
  pub chosen : {A : Type 0} (b : Bool) (o : Option A) (a : A) → cond b o None ≡ Some a → (b ≡ true) × (o ≡ Some a)
  chosen true o a e = (refl, e)
  chosen false o a e = absurd (let bad : ⊥ = cc in bad)

  pub mapped : {A B : Type 0} (f : A → B) (o : Option A) (b : B) → option_map f o ≡ Some b → (a : A) × (o ≡ Some a) × (f a ≡ b)
  mapped f None b e = absurd (let bad : ⊥ = cc in bad)
  mapped f (Some a) b e = (a, refl, some_is (f a) b e)

  pub both_are : {A B : Type 0} (o : Option A) (q : Option B) (x : A × B) → both o q ≡ Some x → (o ≡ Some x.0) × (q ≡ Some x.1)
  both_are None q x e = absurd (let bad : ⊥ = cc in bad)
  both_are (Some a) None x e = absurd (let bad : ⊥ = cc in bad)
  both_are {A} {B} (Some a) (Some b) x e =
      let made : A × B = (a, b) in
      let s : made ≡ x = some_is made x e in
      (ap (λ (y : A × B). Some y.0) s, ap (λ (y : A × B). Some y.1) s)

  pub keyed_is : {A : Type 0} (key : List ℕ) (f : List ℕ → Option A) (o : Option (List ℕ × List ℕ)) (a : A) → keyed key f o ≡ Some a → (word : List ℕ) × (o ≡ Some (key, word)) × (f word ≡ Some a)
  keyed_is key f None a e = absurd (let bad : ⊥ = cc in bad)
  keyed_is key f (Some x) a e =
      let c = chosen (bytes_eq x.0 key) (f x.1) a e in
      (x.1, ap (λ k. Some (k, x.1)) (text_is x.0 key c.0), c.1)

  -- a line of a key and one more word
  module _ {A : Type 0} (key : List ℕ) (f : List ℕ → Option A) (word : A → List ℕ) (fits : A → Type 0) where
    pub keyed_form : IsPlain key → ((w : List ℕ) (a : A) → f w ≡ Some a → (w ≡ word a) × fits a) → ((a : A) → fits a → f (word a) ≡ Some a) → ((a : A) → fits a → IsPlain (word a)) → IsForm (λ words. keyed key f (two words)) (λ a. key ∷ word a ∷ []) fits
    keyed_form plain_key takes again plain = record {
      takes = λ words a e.
          let k = keyed_is key f (two words) a e in
          let t = takes k.0 a k.2 in
          (hold.two_are words (key, k.0) k.1 ∙ ap (λ w. key ∷ w ∷ []) t.0, t.1);
      again = λ a fit. rw (text_self key) (again a fit);
      some = λ a. tt;
      plain = λ a fit. (plain_key, (plain a fit, tt));
    }

  pub number_form : (key : List ℕ) (least most : ℕ) → most < 2 ^ 64 → IsPlain key → IsForm (numbered key least most) (number_words key) (InRange least most)
  number_form key least most small plain_key =
      keyed_form key (number_in least most) decimal (InRange least most) plain_key
      (λ w n e. let h = hold.number least most w n e in (h.is, (h.low, h.high)))
      (λ n fit. let high = fit.1 in hold.number_again least most n (omega arith) fit.0 fit.1)
      (λ n fit. let high = fit.1 in hold.number_plain n (omega arith))

  -- ---- labels and modes

  module _ (f : ℕ → Bool) (b : ℕ) (other : (c : ℕ) → f c ≡ true → nat_eq c b ≡ false) where
    lacks_all : (xs : List ℕ) → list_all f xs ≡ true → Lacks b xs
    lacks_all [] e = tt
    lacks_all (x ∷ xs) e = let h = and_parts (f x) (list_all f xs) e in (other x h.0, lacks_all xs h.1)

  above : (low high b c : ℕ) → b < low → is_in low high c ≡ true → nat_eq c b ≡ false
  above low high b c lt e = let h = and_parts (nat_le low c) (nat_le c high) e in let h' = h.0 in grind (arith, nat_tests)

  pub plain_label : (label : List ℕ) → is_label label ≡ true → IsPlain label
  plain_label label e =
      let h = (and_parts (not (nat_eq (length label) 0)) (list_all (is_in 33 126) label) e).1 in
      (lacks_all (is_in 33 126) 32 (λ c y. above 33 126 32 c (omega arith) y) label h, lacks_all (is_in 33 126) 10 (λ c y. above 33 126 10 c (omega arith) y) label h)

  name_byte : (b c : ℕ) → b < 45 → is_name_byte c ≡ true → nat_eq c b ≡ false
  name_byte b c lt e = grind (arith, nat_tests)

  plain_name : (name : List ℕ) → is_name name ≡ true → IsPlain name
  plain_name name e =
      let h : list_all is_name_byte name ≡ true = (and_parts _ _ (and_parts _ _ e).1).1 in
      (lacks_all is_name_byte 32 (λ c y. name_byte 32 c (lit< tt) y) name h, lacks_all is_name_byte 10 (λ c y. name_byte 10 c (lit< tt) y) name h)

  pub plain_mode : (mode : List ℕ) → is_mode mode ≡ true → IsPlain mode
  plain_mode mode e = elim (cases_Bool (bytes_eq mode (codes "-"))) [
    | inl y ↦ (let same = text_is mode (codes "-") y in subst IsPlain (sym same) ((refl, tt), (refl, tt)))
    | inr n ↦ plain_name mode (rw n at e)
  ]

  pub mode_form : IsForm mode_in mode_words (λ mode. is_mode mode ≡ true)
  mode_form = keyed_form (codes "mode") mode_word_in (λ m. m) (λ m. is_mode m ≡ true) (plain_label (codes "mode") refl)
      (λ w m e. let c = chosen (is_mode w) (Some w) m e in let s : w ≡ m = some_is w m c.1 in (s, subst (λ k. is_mode k ≡ true) s c.0))
      (λ m fit. rw fit refl)
      plain_mode

  pub title_form : IsForm title_in (λ t. title_words) (λ t. Unit {0})
  title_form = record {
    takes = λ words a e. (taken (three words) refl e, tt);
    again = λ a fit. refl;
    some = λ a. tt;
    plain = λ a fit. (plain_label (codes "teams") refl, (plain_label (codes "report") refl, (plain_label (codes "1") refl, tt)));
  }
    where
      taken : {words : List (List ℕ)} {a : Unit {0}} (o : Option (List ℕ × List ℕ × List ℕ)) → three words ≡ o → title_from o ≡ Some a → words ≡ title_words
      taken None is e = absurd (let bad : ⊥ = cc in bad)
      taken {words} {a} (Some x) is e =
          let c = chosen (bytes_eq x.0 (codes "teams") && (bytes_eq x.1 (codes "report") && bytes_eq x.2 (codes "1"))) (Some tt) a e in
          let p = and_parts (bytes_eq x.0 (codes "teams")) (bytes_eq x.1 (codes "report") && bytes_eq x.2 (codes "1")) c.0 in
          let q = and_parts (bytes_eq x.1 (codes "report")) (bytes_eq x.2 (codes "1")) p.1 in
          let s0 = text_is x.0 (codes "teams") p.0 in
          let s1 = text_is x.1 (codes "report") q.0 in
          let s2 = text_is x.2 (codes "1") q.1 in
          hold.three_are words x is ∙ ap (λ w. w ∷ x.1 ∷ x.2 ∷ []) s0 ∙ ap (λ w. codes "teams" ∷ w ∷ x.2 ∷ []) s1 ∙ ap (λ w. codes "teams" ∷ codes "report" ∷ w ∷ []) s2

  verdict_takes : (w : List ℕ) (v : Verdict) → verdict_in w ≡ Some v → w ≡ verdict_word v
  verdict_takes w v e = elim (cases_Bool (bytes_eq w (codes "optimal"))) [
    | inl y ↦
        (let e' = rw y at e in
        let s : Optimal ≡ v = some_is Optimal v e' in
        text_is w (codes "optimal") y ∙ ap verdict_word s)
    | inr n ↦
        (let e' : cond (bytes_eq w (codes "bounded")) (Some Bounded) None ≡ Some v = rw n at e in
        let c = chosen (bytes_eq w (codes "bounded")) (Some Bounded) v e' in
        let s : Bounded ≡ v = some_is Bounded v c.1 in
        text_is w (codes "bounded") c.0 ∙ ap verdict_word s)
  ]

  verdict_again : (v : Verdict) → verdict_in (verdict_word v) ≡ Some v
  verdict_again Optimal = refl
  verdict_again Bounded = refl

  verdict_plain : (v : Verdict) → IsPlain (verdict_word v)
  verdict_plain Optimal = plain_label (codes "optimal") refl
  verdict_plain Bounded = plain_label (codes "bounded") refl

  pub result_form : IsForm result_in result_words (λ v. Unit {0})
  result_form = keyed_form (codes "result") verdict_in verdict_word (λ v. Unit {0}) (plain_label (codes "result") refl)
      (λ w v e. (verdict_takes w v e, tt)) (λ v fit. verdict_again v) (λ v fit. verdict_plain v)

  pub state_form : IsForm state_in state_words IsState
  state_form = record {
    takes = λ words s e. taken words s (three words) refl e;
    again = λ s fit. let low = fit.weight in let n = hold.number_again 0 most_64 s.weight (omega arith) (omega arith) low in rw (fit.label, n) refl;
    some = λ s. tt;
    plain = λ s fit. let low = fit.weight in (plain_label (codes "state") refl, (hold.number_plain s.weight (omega arith), (plain_label s.label fit.label, tt)));
  }
    where
      taken : (words : List (List ℕ)) (s : StateLine) (o : Option (List ℕ × List ℕ × List ℕ)) → three words ≡ o → state_from o ≡ Some s → (words ≡ state_words s) × IsState s
      taken words s None is e = absurd (let bad : ⊥ = cc in bad)
      taken words s (Some x) is e =
          let c = chosen (bytes_eq x.0 (codes "state") && is_label x.2) (option_map (λ w. record { weight = w; label = x.2 }) (number_in 0 most_64 x.1)) s e in
          let p = and_parts (bytes_eq x.0 (codes "state")) (is_label x.2) c.0 in
          let m = mapped (λ w. record { weight = w; label = x.2 }) (number_in 0 most_64 x.1) s c.1 in
          let n = hold.number 0 most_64 x.1 m.0 m.1 in
          let made : StateLine = record { weight = m.0; label = x.2 } in
          subst (λ (y : StateLine). (words ≡ state_words y) × IsState y) m.2
          (hold.three_are words x is ∙ ap (λ w. w ∷ x.1 ∷ x.2 ∷ []) (text_is x.0 (codes "state") p.0) ∙ ap (λ w. codes "state" ∷ w ∷ x.2 ∷ []) n.is, record { weight = n.high; label = p.1 })

  pub hex_takes : (word ws : List ℕ) → hex_in word ≡ Some ws → (word ≡ hex_word (record { 0 = ws })) × IsGroup (record { 0 = ws })
  hex_takes word ws e =
      let h = hold.hex_words word ws e in
      let back : number_of_words ws ≡ h.n = ap number_of_words (sym h.words) ∙ hold.eight_are h.n h.small in
      (h.is ∙ ap hex (sym back), record { small = rw back h.small; words = ap (words_of 8) back ∙ h.words })

  -- eight words are those of their number
  pub group_is : (ws : List ℕ) → length ws ≡ 8 → ((i : ℕ) → i < length ws → get_or ws i 0 < 2 ^ 64) → IsGroup (record { 0 = ws })
  group_is ws eight below = (hex_takes (hex (number_of_words ws)) ws (hold.eight_again (hex (number_of_words ws)) ws eight below refl)).1

  pub group_form : IsForm group_in group_words IsGroupLine
  group_form = record {
    takes = λ words l e. taken words l (four words) refl e;
    again = λ l fit.
        let s = fit.size in
        let low = fit.low in
        let g = fit.group in
        let a = hold.number_again 0 most_32 l.size (omega arith) (omega arith) s in
        let b : hex_in (hex_word l.group) ≡ Some (l.group).0 = hold.hex_again (number_of_words (l.group).0) g.small ∙ ap Some g.words in
        let d = hold.number_again 0 most_64 l.low (omega arith) (omega arith) low in
        rw (a, b, d) refl;
    some = λ l. tt;
    plain = λ l fit.
        let s = fit.size in
        let low = fit.low in
        (plain_label (codes "group") refl, (hold.number_plain l.size (omega arith), (hold.hex_plain (number_of_words (l.group).0), (hold.number_plain l.low (omega arith), tt))));
  }
    where
      taken : (words : List (List ℕ)) (l : GroupLine) (o : Option (List ℕ × List ℕ × List ℕ × List ℕ)) → four words ≡ o → group_from o ≡ Some l → (words ≡ group_words l) × IsGroupLine l
      taken words l None is e = absurd (let bad : ⊥ = cc in bad)
      taken words l (Some x) is e =
          let c = chosen (bytes_eq x.0 (codes "group")) (option_map group_of (both (number_in 0 most_32 x.1) (both (hex_in x.2) (number_in 0 most_64 x.3)))) l e in
          let m = mapped group_of (both (number_in 0 most_32 x.1) (both (hex_in x.2) (number_in 0 most_64 x.3))) l c.1 in
          let p = both_are (number_in 0 most_32 x.1) (both (hex_in x.2) (number_in 0 most_64 x.3)) m.0 m.1 in
          let q = both_are (hex_in x.2) (number_in 0 most_64 x.3) m.0.1 p.1 in
          let size = hold.number 0 most_32 x.1 m.0.0 p.0 in
          let h = hex_takes x.2 m.0.1.0 q.0 in
          let low = hold.number 0 most_64 x.3 m.0.1.1 q.1 in
          subst (λ (y : GroupLine). (words ≡ group_words y) × IsGroupLine y) m.2 (
            hold.four_are words x is ∙ ap (λ w. w ∷ x.1 ∷ x.2 ∷ x.3 ∷ []) (text_is x.0 (codes "group") c.0) ∙ ap (λ w. codes "group" ∷ w ∷ x.2 ∷ x.3 ∷ []) size.is
                ∙ ap (λ w. codes "group" ∷ decimal m.0.0 ∷ w ∷ x.3 ∷ []) h.0 ∙ ap (λ w. codes "group" ∷ decimal m.0.0 ∷ hex_word (record { 0 = m.0.1.0 }) ∷ w ∷ []) low.is,
            record { size = size.high; group = h.1; low = low.high },
          )

  -- ---- classes and tests, numbered

  pub class_form : (k : ℕ) → k < 2 ^ 64 → IsForm (class_in k) (λ x. class_words k x.0 x.1) IsClassLine
  class_form k small = record {
    takes = λ words y e. taken words y (four words) refl e;
    again = λ y fit.
        let w = fit.0 in
        let n = fit.1 in
        let wh = w.1 in
        let nh = n.1 in
        let a = hold.number_again 0 most_64 y.0 (omega arith) w.0 w.1 in
        let b = hold.number_again 1 most_64 y.1 (omega arith) n.0 n.1 in
        rw (text_self (decimal k), a, b) refl;
    some = λ y. tt;
    plain = λ y fit.
        let w = fit.0 in
        let n = fit.1 in
        let wh = w.1 in
        let nh = n.1 in
        (plain_label (codes "class") refl, (hold.number_plain k small, (hold.number_plain y.0 (omega arith), (hold.number_plain y.1 (omega arith), tt))));
  }
    where
      taken : (words : List (List ℕ)) (y : ℕ × ℕ) (o : Option (List ℕ × List ℕ × List ℕ × List ℕ)) → four words ≡ o → class_from k o ≡ Some y → (words ≡ class_words k y.0 y.1) × IsClassLine y
      taken words y None is e = absurd (let bad : ⊥ = cc in bad)
      taken words y (Some x) is e =
          let c = chosen (bytes_eq x.0 (codes "class") && bytes_eq x.1 (decimal k)) (both (number_in 0 most_64 x.2) (number_in 1 most_64 x.3)) y e in
          let p = and_parts (bytes_eq x.0 (codes "class")) (bytes_eq x.1 (decimal k)) c.0 in
          let q = both_are (number_in 0 most_64 x.2) (number_in 1 most_64 x.3) y c.1 in
          let w = hold.number 0 most_64 x.2 y.0 q.0 in
          let n = hold.number 1 most_64 x.3 y.1 q.1 in (
            hold.four_are words x is ∙ ap (λ w. w ∷ x.1 ∷ x.2 ∷ x.3 ∷ []) (text_is x.0 (codes "class") p.0) ∙ ap (λ w. codes "class" ∷ w ∷ x.2 ∷ x.3 ∷ []) (text_is x.1 (decimal k) p.1)
                ∙ ap (λ w. codes "class" ∷ decimal k ∷ w ∷ x.3 ∷ []) w.is ∙ ap (λ w. codes "class" ∷ decimal k ∷ decimal y.0 ∷ w ∷ []) n.is,
            ((w.low, w.high), (n.low, n.high)),
          )

  pub test_form : (k : ℕ) → k < 2 ^ 64 → IsForm (test_in k) (test_words k) IsTest
  test_form k small = record {
    takes = λ words t e. taken words t (four words) refl e;
    again = λ t fit. let c = fit.cost in let n = hold.number_again 0 most_32 t.cost (omega arith) (omega arith) c in rw (text_self (decimal k), fit.label, n) refl;
    some = λ t. tt;
    plain = λ t fit. let c = fit.cost in (plain_label (codes "test") refl, (hold.number_plain k small, (hold.number_plain t.cost (omega arith), (plain_label t.label fit.label, tt))));
  }
    where
      taken : (words : List (List ℕ)) (t : TestLabel) (o : Option (List ℕ × List ℕ × List ℕ × List ℕ)) → four words ≡ o → test_from k o ≡ Some t → (words ≡ test_words k t) × IsTest t
      taken words t None is e = absurd (let bad : ⊥ = cc in bad)
      taken words t (Some x) is e =
          let c = chosen (bytes_eq x.0 (codes "test") && (bytes_eq x.1 (decimal k) && is_label x.3)) (option_map (λ c. record { cost = c; label = x.3 }) (number_in 0 most_32 x.2)) t e in
          let p = and_parts (bytes_eq x.0 (codes "test")) (bytes_eq x.1 (decimal k) && is_label x.3) c.0 in
          let q = and_parts (bytes_eq x.1 (decimal k)) (is_label x.3) p.1 in
          let m = mapped (λ c. record { cost = c; label = x.3 }) (number_in 0 most_32 x.2) t c.1 in
          let n = hold.number 0 most_32 x.2 m.0 m.1 in
          subst (λ (y : TestLabel). (words ≡ test_words k y) × IsTest y) m.2 (
            hold.four_are words x is ∙ ap (λ w. w ∷ x.1 ∷ x.2 ∷ x.3 ∷ []) (text_is x.0 (codes "test") p.0) ∙ ap (λ w. codes "test" ∷ w ∷ x.2 ∷ x.3 ∷ []) (text_is x.1 (decimal k) q.0)
                ∙ ap (λ w. codes "test" ∷ decimal k ∷ w ∷ x.3 ∷ []) n.is,
            record { cost = n.high; label = q.1 },
          )

  -- ---- tree lines

  tree_again : (l : TreeLine) → IsTreeLine l → tree_line_in (tree_words l) ≡ Some l
  tree_again (Ask t) fit = let n = hold.number_again 0 most_32 t (omega arith) (omega arith) fit in rw n refl
  tree_again (Leaf c) fit = let n = hold.number_again 0 most_32 c (omega arith) (omega arith) fit in rw n refl

  tree_some : (l : TreeLine) → IsSome (tree_words l)
  tree_some (Ask t) = tt
  tree_some (Leaf c) = tt

  tree_plain : (l : TreeLine) → IsTreeLine l → ArePlain (tree_words l)
  tree_plain (Ask t) fit = (plain_label (codes "ask") refl, (hold.number_plain t (omega arith), tt))
  tree_plain (Leaf c) fit = (plain_label (codes "leaf") refl, (hold.number_plain c (omega arith), tt))

  pub tree_form : IsForm tree_line_in tree_words IsTreeLine
  tree_form = record { takes = λ words l e. taken words l (two words) refl e; again = tree_again; some = tree_some; plain = tree_plain }
    where
      taken : (words : List (List ℕ)) (l : TreeLine) (o : Option (List ℕ × List ℕ)) → two words ≡ o → tree_from o ≡ Some l → (words ≡ tree_words l) × IsTreeLine l
      taken words l None is e = absurd (let bad : ⊥ = cc in bad)
      taken words l (Some x) is e = elim (cases_Bool (bytes_eq x.0 (codes "ask"))) [
        | inl y ↦
            (let e' : option_map (λ t. Ask t) (number_in 0 most_32 x.1) ≡ Some l = rw y at e in
            let m = mapped (λ t. Ask t) (number_in 0 most_32 x.1) l e' in
            let n = hold.number 0 most_32 x.1 m.0 m.1 in
            subst (λ (z : TreeLine). (words ≡ tree_words z) × IsTreeLine z) m.2
            (hold.two_are words x is ∙ ap (λ w. w ∷ x.1 ∷ []) (text_is x.0 (codes "ask") y) ∙ ap (λ w. codes "ask" ∷ w ∷ []) n.is, n.high))
        | inr no_ask ↦
            (let e' : cond (bytes_eq x.0 (codes "leaf")) (option_map (λ c. Leaf c) (number_in 0 most_32 x.1)) None ≡ Some l = rw no_ask at e in
            let c = chosen (bytes_eq x.0 (codes "leaf")) (option_map (λ c. Leaf c) (number_in 0 most_32 x.1)) l e' in
            let m = mapped (λ c. Leaf c) (number_in 0 most_32 x.1) l c.1 in
            let n = hold.number 0 most_32 x.1 m.0 m.1 in
            subst (λ (z : TreeLine). (words ≡ tree_words z) × IsTreeLine z) m.2
            (hold.two_are words x is ∙ ap (λ w. w ∷ x.1 ∷ []) (text_is x.0 (codes "leaf") c.0) ∙ ap (λ w. codes "leaf" ∷ w ∷ []) n.is, n.high))
      ]

  pub is_tree_words : (l : TreeLine) → is_tree_line (tree_words l) ≡ true
  is_tree_words (Ask t) = refl
  is_tree_words (Leaf c) = refl

  -- ---- the last lines

  pub missed_form : IsForm missed_in missed_words IsMissedLine
  missed_form = record {
    takes = λ words m e. taken words m (three words) refl e;
    again = λ m fit.
        let s = fit.size in
        let g = fit.group in
        let a = hold.number_again 0 most_32 m.size (omega arith) (omega arith) s in
        let b : hex_in (hex_word m.group) ≡ Some (m.group).0 = hold.hex_again (number_of_words (m.group).0) g.small ∙ ap Some g.words in
        rw (a, b) refl;
    some = λ m. tt;
    plain = λ m fit. let s = fit.size in (plain_label (codes "missed") refl, (hold.number_plain m.size (omega arith), (hold.hex_plain (number_of_words (m.group).0), tt)));
  }
    where
      taken : (words : List (List ℕ)) (m : MissedLine) (o : Option (List ℕ × List ℕ × List ℕ)) → three words ≡ o → missed_from o ≡ Some m → (words ≡ missed_words m) × IsMissedLine m
      taken words m None is e = absurd (let bad : ⊥ = cc in bad)
      taken words m (Some x) is e =
          let c = chosen (bytes_eq x.0 (codes "missed")) (option_map missed_of (both (number_in 0 most_32 x.1) (hex_in x.2))) m e in
          let p = mapped missed_of (both (number_in 0 most_32 x.1) (hex_in x.2)) m c.1 in
          let q = both_are (number_in 0 most_32 x.1) (hex_in x.2) p.0 p.1 in
          let size = hold.number 0 most_32 x.1 p.0.0 q.0 in
          let h = hex_takes x.2 p.0.1 q.1 in
          subst (λ (y : MissedLine). (words ≡ missed_words y) × IsMissedLine y) p.2 (
            hold.three_are words x is ∙ ap (λ w. w ∷ x.1 ∷ x.2 ∷ []) (text_is x.0 (codes "missed") c.0) ∙ ap (λ w. codes "missed" ∷ w ∷ x.2 ∷ []) size.is
                ∙ ap (λ w. codes "missed" ∷ decimal p.0.0 ∷ w ∷ []) h.0,
            record { size = size.high; group = h.1 },
          )

  pub end_form : IsForm end_in (λ t. codes "end" ∷ []) (λ t. Unit {0})
  end_form = record {
    takes = λ words t e. (taken words t (one words) refl e, tt);
    again = λ t fit. refl;
    some = λ t. tt;
    plain = λ t fit. (plain_label (codes "end") refl, tt);
  }
    where
      taken : (words : List (List ℕ)) (t : Unit {0}) (o : Option (List ℕ)) → one words ≡ o → end_from o ≡ Some t → words ≡ codes "end" ∷ []
      taken words t None is e = absurd (let bad : ⊥ = cc in bad)
      taken words t (Some w) is e =
          let c = chosen (bytes_eq w (codes "end")) (Some tt) t e in
          hold.one_is words w is ∙ ap (λ k. k ∷ []) (text_is w (codes "end") c.0)
