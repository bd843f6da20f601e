-- Room is kept where no list is longer, none has less room, and no number that is held was used.
use Rattle.std.proofs.Common.{◌≡◌, ◌≤◌, List, [], ◌∷◌, ◌++◌, length, arith, sym, vec_capacity, Result, Ok, Err, IsOk, is_ok, if◌then◌else◌, true, false}
use Rattle.std.specs.Prelude.{is_err}
use Rattle.std.proofs.lemmas.Bool.{true≢false}
use Rattle.seq_graph.specs.declared.graph.Graph.{Graph}
use Rattle.seq_graph.specs.Numbered.{capacity}
use Rattle.seq_graph.specs.Rooms.{KeepsRoom}

pub keeps-room : (old new : Graph) → length new.rows.items ≡ length old.rows.items → vec_capacity old.rows ≤ vec_capacity new.rows → length new.nodes.items ≡ length old.nodes.items → vec_capacity old.nodes ≤ vec_capacity new.nodes
    → old.numbers.held ≤ new.numbers.held → (capacity old.numbers ≤ vec_capacity old.counts → capacity new.numbers ≤ vec_capacity new.counts) → KeepsRoom old new
keeps-room old new rows row_room nodes node_room held counts more room =
    let a = room.rows in
    let b = room.nodes in
    let d = room.numbers in
    record {
      rows = omega arith;
      nodes = omega arith;
      numbers = omega arith;
      counts = counts room.counts;
    }

pub keeps-room-both : (a b c : Graph) → KeepsRoom a b → KeepsRoom b c → KeepsRoom a c
keeps-room-both a b c ab bc more room = bc more (ab more room)

-- ---- a list takes one more ----

pub push-ok : {A B E : Type 0} (r : Result A E) (old new : List B) (x : B) → IsOk r → new ≡ (if is_ok r then old ++ x ∷ [] else old) → new ≡ old ++ x ∷ []
push-ok (Ok a) old new x ok e = e
push-ok (Err y) old new x ok e = absurd (let bad : ⊥ = cc in bad)

pub push-done : {A B E : Type 0} (r : Result A E) (old new : List B) (x : B) → is_err r ≡ false → new ≡ (if is_ok r then old ++ x ∷ [] else old) → new ≡ old ++ x ∷ []
push-done (Ok a) old new x ok e = e
push-done (Err y) old new x ok e = absurd (true≢false ok)

pub push-kept : {A B E : Type 0} (r : Result A E) (old new : List B) (x : B) → is_err r ≡ true → new ≡ (if is_ok r then old ++ x ∷ [] else old) → new ≡ old
push-kept (Ok a) old new x err e = absurd (true≢false (sym err))
push-kept (Err y) old new x err e = e
