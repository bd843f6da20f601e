-- Lists of seats in two halves: what holds of both holds of each, and of both again.
use Rattle.std.proofs.Common.{◌≡◌, ℕ, zero, suc, ◌<◌, List, [], ◌∷◌, ◌++◌, length, get_or, set, Some, Option, arith, refl, ap, subst, length-append}
use Rattle.std.proofs.lemmas.List.Elements.{All-append}
use Rattle.std.specs.List.{AllZip}
use Rattle.seq_inst.specs.declared.instance.Instance.{Instance}
use Rattle.seq_inst.specs.Instances.{problem_of}
use Rattle.seq_words.specs.Seats.{IsOf, Wording, Sitting}
use Rattle.seq_work.specs.declared.local.Local.{Local}
use Rattle.seq_work.specs.declared.work.WorkEnd.{WorkEnd}
use Rattle.seq_work.specs.Works.{Ready}
use Rattle.seq_work.specs.Ends.{KnowsRoot, Worked}
use Rattle.seq_work.specs.Fans.{MayBegin, WorkedAt, AreReady, AreDone}

zip-front : {A B : Type 0} (R : A → B → Type 0) (xs xs' : List A) (ys ys' : List B) → length xs ≡ length ys → AllZip R (xs ++ xs') (ys ++ ys') → AllZip R xs ys
zip-front R [] xs' [] ys' e a = tt
zip-front R [] xs' (y ∷ ys) ys' e a = absurd (omega arith)
zip-front R (x ∷ xs) xs' [] ys' e a = absurd (omega arith)
zip-front R (x ∷ xs) xs' (y ∷ ys) ys' e a = (a.0, zip-front R xs xs' ys ys' (omega arith) a.1)

zip-back : {A B : Type 0} (R : A → B → Type 0) (xs xs' : List A) (ys ys' : List B) → length xs ≡ length ys → AllZip R (xs ++ xs') (ys ++ ys') → AllZip R xs' ys'
zip-back R [] xs' [] ys' e a = a
zip-back R [] xs' (y ∷ ys) ys' e a = absurd (omega arith)
zip-back R (x ∷ xs) xs' [] ys' e a = absurd (omega arith)
zip-back R (x ∷ xs) xs' (y ∷ ys) ys' e a = zip-back R xs xs' ys ys' (omega arith) a.1

zip-both : {A B : Type 0} (R : A → B → Type 0) (xs xs' : List A) (ys ys' : List B) → AllZip R xs ys → AllZip R xs' ys' → AllZip R (xs ++ xs') (ys ++ ys')
zip-both R [] xs' [] ys' a b = b
zip-both R [] xs' (y ∷ ys) ys' a b = absurd a
zip-both R (x ∷ xs) xs' [] ys' a b = absurd a
zip-both R (x ∷ xs) xs' (y ∷ ys) ys' a b = (a.0, zip-both R xs xs' ys ys' a.1 b)

pub ready-front : (inst : Instance) (w : Wording) (seats a b : List Sitting) (locals la lb : List Local) (ends ea eb : List (Option WorkEnd)) → seats ≡ a ++ b → locals ≡ la ++ lb → ends ≡ ea ++ eb
    → length a ≡ length la → length a ≡ length ea → AreReady inst w seats locals ends → AreReady inst w a la ea
ready-front inst w seats a b locals la lb ends ea eb es el ee nl ne r = record {
  as_locals = nl;
  as_ends = ne;
  ready = zip-front (MayBegin inst w) a b la lb nl (subst (AllZip (MayBegin inst w) (a ++ b)) el (subst (λ (s : List Sitting). AllZip (MayBegin inst w) s locals) es r.ready));
}

pub ready-back : (inst : Instance) (w : Wording) (seats a b : List Sitting) (locals la lb : List Local) (ends ea eb : List (Option WorkEnd)) → seats ≡ a ++ b → locals ≡ la ++ lb → ends ≡ ea ++ eb
    → length a ≡ length la → length a ≡ length ea → AreReady inst w seats locals ends → AreReady inst w b lb eb
ready-back inst w seats a b locals la lb ends ea eb es el ee nl ne r = record {
  as_locals = let x = r.as_locals in let s = ap (λ (l : List Sitting). length l) es in let t = ap (λ (l : List Local). length l) el in omega (arith, length-append a b, length-append la lb);
  as_ends = let x = r.as_ends in let s = ap (λ (l : List Sitting). length l) es in let t = ap (λ (l : List (Option WorkEnd)). length l) ee in omega (arith, length-append a b, length-append ea eb);
  ready = zip-back (MayBegin inst w) a b la lb nl (subst (AllZip (MayBegin inst w) (a ++ b)) el (subst (λ (s : List Sitting). AllZip (MayBegin inst w) s locals) es r.ready));
}

pub done-both : (inst : Instance) (w : Wording) (a b : List Sitting) (la lb : List Local) (ea eb : List (Option WorkEnd)) → AreDone inst w a la ea → AreDone inst w b lb eb → AreDone inst w (a ++ b) (la ++ lb) (ea ++ eb)
done-both inst w a b la lb ea eb f g = record {
  of = All-append (IsOf w) a b f.of g.of;
  ready = zip-both (Ready inst w) a b la lb f.ready g.ready;
  ended = zip-both (WorkedAt inst w) a b ea eb f.ended g.ended;
}

pub done-none : (inst : Instance) (w : Wording) (seats : List Sitting) (locals : List Local) (ends : List (Option WorkEnd)) → length seats ≡ 0 → length seats ≡ length locals → length seats ≡ length ends → AreDone inst w seats locals ends
done-none inst w [] [] [] e f g = record { of = λ k d h. absurd (omega arith); ready = tt; ended = tt }
done-none inst w [] (l ∷ ls) ends e f g = absurd (omega arith)
done-none inst w [] [] (y ∷ ys) e f g = absurd (omega arith)
done-none inst w (x ∷ xs) locals ends e f g = absurd (omega arith)

one-of : (inst : Instance) (w : Wording) (y : Sitting) → IsOf w y → (k : ℕ) (d : Sitting) → k < 1 → IsOf w (get_or (y ∷ []) k d)
one-of inst w y f zero d h = f
one-of inst w y f (suc k) d h = absurd (omega arith)

pub done-one : (inst : Instance) (w : Wording) (seats : List Sitting) (locals : List Local) (ends : List (Option WorkEnd)) (y : Sitting) (l : Local) (end : WorkEnd) → length seats ≡ 1 → length seats ≡ length locals → length seats ≡ length ends
    → IsOf w y → KnowsRoot (problem_of inst) y.view → Ready inst w y l → Worked inst w y end → AreDone inst w (set seats 0 y) (set locals 0 l) (set ends 0 (Some end))
done-one inst w [] locals ends y l end e f g o k r z = absurd (omega arith)
done-one inst w (x ∷ x' ∷ xs) locals ends y l end e f g o k r z = absurd (omega arith)
done-one inst w (x ∷ []) [] ends y l end e f g o k r z = absurd (omega arith)
done-one inst w (x ∷ []) (m ∷ m' ∷ ms) ends y l end e f g o k r z = absurd (omega arith)
done-one inst w (x ∷ []) (m ∷ []) [] y l end e f g o k r z = absurd (omega arith)
done-one inst w (x ∷ []) (m ∷ []) (d ∷ d' ∷ ds) y l end e f g o k r z = absurd (omega arith)
done-one inst w (x ∷ []) (m ∷ []) (d ∷ []) y l end e f g o k r z = record { of = one-of inst w y o; ready = (r, tt); ended = (record { root = k; cause = z; some = refl }, tt) }
