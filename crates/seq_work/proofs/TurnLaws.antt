-- Rows before and after a turn.
use Rattle.std.proofs.Common.{◌≡◌, suc, ◌<◌, ◌≤◌, List, [], ◌∷◌, ◌++◌, length, length-append, refl, ap, ◌∙◌, arith, Option, Some, None}
use Rattle.seq_inst.specs.declared.group.Group.{Group}
use Rattle.seq_inst.specs.declared.instance.Instance.{Instance}
use Rattle.seq_inst.specs.declared.outcome.Row.{Row}
use Rattle.seq_inst.specs.Instances.{problem_of}
use Rattle.seq_graph.specs.Known.{Narrows}
use Rattle.seq_graph.specs.Walks.{HasMoved}
use Rattle.seq_words.specs.Seats.{Wording, Sitting}
use Rattle.seq_work.specs.declared.local.Local.{Local}
use Rattle.seq_work.specs.Turns.{HasWorked}

pub length-Narrows : (a b : List Row) → Narrows a b → length b ≡ length a
length-Narrows [] [] h = refl
length-Narrows [] (s ∷ ss) h = absurd h
length-Narrows (r ∷ rs) [] h = absurd h
length-Narrows (r ∷ rs) (s ∷ ss) h = ap suc (length-Narrows rs ss h.3)

pub longer : (old entered : List Row) (r : Row) → Narrows (old ++ r ∷ []) entered → length old < length entered
longer old entered r n = let b = length-append old (r ∷ []) in let c = length-Narrows (old ++ r ∷ []) entered n in omega arith

-- a turn that missed no group has moved
pub worked-none : (inst : Instance) (words : Wording) (seat : Sitting) (old new : Local) (o : Option Group) → ((g : Group) → o ≡ Some g → ⊥) → HasWorked inst words seat old new o → HasMoved (problem_of inst) words.limit old.graph.rows.items new.graph.rows.items
worked-none inst words seat old new None none w = w
worked-none inst words seat old new (Some g) none w = absurd (none g refl)

-- ---- rows that narrow ----

narrows-self : (a : List Row) → Narrows a a
narrows-self [] = tt
narrows-self (r ∷ rs) = (refl, omega arith, omega arith, narrows-self rs)

-- the last row narrows, and the others stay
pub narrows-last : (old : List Row) (r s : Row) → s.group ≡ r.group → r.low ≤ s.low → s.up ≤ r.up → Narrows (old ++ r ∷ []) (old ++ s ∷ [])
narrows-last [] r s group low up = (group, low, up, tt)
narrows-last (x ∷ xs) r s group low up = (refl, omega arith, omega arith, narrows-last xs r s group low up)

pub narrows-on : (a b c : List Row) → Narrows a b → Narrows b c → Narrows a c
narrows-on [] [] c m n = n
narrows-on [] (s ∷ ss) c m n = absurd m
narrows-on (r ∷ rs) [] c m n = absurd m
narrows-on (r ∷ rs) (s ∷ ss) [] m n = absurd n
narrows-on (r ∷ rs) (s ∷ ss) (t ∷ ts) m n =
    let a = m.1 in
    let b = n.1 in
    let x = m.2 in
    let y = n.2 in
    (n.0 ∙ m.0, omega arith, omega arith, narrows-on rs ss ts m.3 n.3)
