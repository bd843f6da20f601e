-- What a worker's turn rests on. Its rows stand in the view of its seat, so what they allow the view allows; what the words answer is
-- true of the group; and after each step of the seat, and each that the graph hears, the worker is ready still.
use Rattle.std.proofs.Common.{◌≡◌, ℕ, ◌-◌, ◌<◌, ◌≤◌, List, [], ◌∷◌, ◌++◌, length, length-append, length-set, set, vec_capacity, sym, ap, ◌∙◌, subst, arith, All}
use Rattle.std.specs.List.{AllZip, filter_map}
use Rattle.std.specs.Prelude.{slice_index}
use Rattle.seq_theory.specs.Problem.{splitting}
use Rattle.seq_theory.specs.Tree.{IsLeast}
use Rattle.seq_theory.specs.Greedy.{greedy_cost}
use Rattle.seq_theory.specs.Graph.{step_value}
use Rattle.seq_theory.specs.Rows.{no_value, known_up, most_low, least_up}
use Rattle.seq_theory.proofs.ValLaws.{least_of-first}
use Rattle.seq_inst.specs.declared.group.Group.{Group}
use Rattle.seq_inst.specs.declared.instance.Instance.{Instance}
use Rattle.seq_inst.specs.declared.outcome.Row.{Row}
use Rattle.seq_inst.specs.Members.{members}
use Rattle.seq_inst.specs.Instances.{problem_of}
use Rattle.seq_core.specs.RowsOf.{rows_of as rows_from}
use Rattle.seq_graph.specs.Rooms.{HasRoom, KeepsRoom, UsesRoomOfOne}
use Rattle.seq_graph.specs.Known.{IsKnown as IsGraph, no_row, row_at, group_at as row_group, heard}
use Rattle.seq_words.specs.declared.view.Told.{Told}
use Rattle.seq_words.specs.declared.view.View.{View}
use Rattle.seq_words.specs.Knowledge.{told_of, problem_in, known, known_rows, IsKnown, AreAlone, Covers, MayRaise, MayCap, IsLow, IsUp, group_at, low_seen, up_seen}
use Rattle.seq_words.specs.Seats.{Wording, Sitting, IsOf}
use Rattle.seq_words.specs.Laws.{AllowsMore, KnowingMoreAllows}
use Rattle.seq_work.specs.declared.local.Local.{Local}
use Rattle.seq_work.specs.Works.{StandsAt, Ready}
use Rattle.seq_work.proofs.Zips.{zip-at, zip-set, zip-last, zip-weaker}
use Rattle.seq_work.proofs.Standing.{moved, bettered}

-- what the words answer is true of the group
pub low-true : (inst : Instance) (v : View) (place x : ℕ) (g : List ℕ) → v.told ≡ told_of inst → group_at place v ≡ g → IsLow v.told (known v place).bits x → (n : ℕ) → IsLeast (problem_of inst) g n → x ≤ n
low-true inst v place x g told group low n is = low n (subst (λ (t : Told). IsLeast (problem_in t) (group_at place v) n) (sym told) (subst (λ h. IsLeast (problem_of inst) h n) (sym group) is))

pub up-true : (inst : Instance) (v : View) (place x : ℕ) (g : List ℕ) → v.told ≡ told_of inst → group_at place v ≡ g → IsUp v.told (known v place).bits x → (n : ℕ) → IsLeast (problem_of inst) g n → n ≤ x
up-true inst v place x g told group up n is = up n (subst (λ (t : Told). IsLeast (problem_in t) (group_at place v) n) (sym told) (subst (λ h. IsLeast (problem_of inst) h n) (sym group) is))

module _ (inst : Instance) (words : Wording) (seat : Sitting) (l : Local) (r : Ready inst words seat l) where
  pub told-is : seat.view.told ≡ told_of inst
  told-is = r.of.told ∙ r.told

  small-ups : All (λ (x : Row). x.up ≤ no_value) l.graph.rows.items
  small-ups k d lt = let s = (r.graph.rows_are.each k d lt).small in omega arith

  pub stands : (node : ℕ) → node < length l.graph.rows.items → StandsAt seat.view (row_at l.graph.rows.items node) (slice_index l.places.items node)
  stands node lt = zip-at (StandsAt seat.view) l.graph.rows.items l.places.items node no_row 0 r.standing lt

  more : KnowingMoreAllows → (group : List ℕ) → AllowsMore (problem_of inst) (rows_from l.graph.rows.items) (known_rows seat.view.known) group
  more law group = law (problem_of inst) (rows_from l.graph.rows.items) (known_rows seat.view.known) r.alone (bettered seat.view l.graph.rows.items l.places.items r.standing small-ups) group

  pub may-raise : KnowingMoreAllows → (node place to : ℕ) → node < length l.graph.rows.items → place ≡ slice_index l.places.items node → to ≤ most_low (problem_of inst) (rows_from l.graph.rows.items) (members (row_group l.graph.rows.items node)) → MayRaise seat.view place to
  may-raise law node place to lt is below =
      let g = members (row_group l.graph.rows.items node) in
      let s = subst (StandsAt seat.view (row_at l.graph.rows.items node)) (sym is) (stands node lt) in
      let m = (more law g).low in
      record {
        there = s.known.0;
        whole = s.known.1;
        allowed = subst (λ (t : Told). to ≤ most_low (problem_in t) (known_rows seat.view.known) (group_at place seat.view)) (sym told-is)
            (subst (λ h. to ≤ most_low (problem_of inst) (known_rows seat.view.known) h) (sym s.group) (omega arith));
      }

  pub may-cap : KnowingMoreAllows → (node place to : ℕ) → node < length l.graph.rows.items → place ≡ slice_index l.places.items node → least_up (problem_of inst) (rows_from l.graph.rows.items) (members (row_group l.graph.rows.items node)) ≤ to → MayCap seat.view place to
  may-cap law node place to lt is above =
      let g = members (row_group l.graph.rows.items node) in
      let s = subst (StandsAt seat.view (row_at l.graph.rows.items node)) (sym is) (stands node lt) in
      let m = (more law g).up in
      record {
        there = s.known.0;
        whole = s.known.1;
        allowed = subst (λ (t : Told). least_up (problem_in t) (known_rows seat.view.known) (group_at place seat.view) ≤ to) (sym told-is)
            (subst (λ h. least_up (problem_of inst) (known_rows seat.view.known) h ≤ to) (sym s.group) (omega arith));
      }

  -- greedy's cost is a cap in any view
  pub may-cap-greedy : (place to : ℕ) (g : List ℕ) → IsKnown place seat.view → group_at place seat.view ≡ g → to ≡ greedy_cost (problem_of inst) g → MayCap seat.view place to
  may-cap-greedy place to g there group is =
      let p = problem_of inst in
      let first = least_of-first (greedy_cost p g) (filter_map (step_value p (known_up p (known_rows seat.view.known)) g) (splitting p g)) in
      record {
        there = there.0;
        whole = there.1;
        allowed = subst (λ (t : Told). least_up (problem_in t) (known_rows seat.view.known) (group_at place seat.view) ≤ to) (sym told-is)
            (subst (λ h. least_up p (known_rows seat.view.known) h ≤ to) (sym group) (omega arith));
      }

  -- the seat has stepped
  pub seat-stepped : (next : Sitting) → IsOf words next → Covers next.view seat.view → AreAlone next.view → Ready inst words next l
  seat-stepped next of covers alone = record {
    of = of;
    told = r.told;
    limit = r.limit;
    alone = alone;
    graph = r.graph;
    standing = zip-weaker (StandsAt seat.view) (StandsAt next.view) (λ x q s. moved seat.view next.view covers x q s) l.graph.rows.items l.places.items r.standing;
    room = r.room;
    places_room = r.places_room;
  }

  -- as many rows leave as much room
  same-room : (m : Local) → KeepsRoom l.graph m.graph → length m.graph.rows.items ≡ length l.graph.rows.items → HasRoom (words.limit - length m.graph.rows.items) m.graph
  same-room m keeps long = subst (λ n. HasRoom (words.limit - n) m.graph) (sym long) (keeps (words.limit - length l.graph.rows.items) r.room)

  -- the graph has worked something out
  pub graph-same : (m : Local) → IsGraph (problem_of inst) m.graph → KeepsRoom l.graph m.graph → m.graph.rows.items ≡ l.graph.rows.items → m.places.items ≡ l.places.items → vec_capacity m.places ≡ vec_capacity l.places → Ready inst words seat m
  graph-same m known keeps rows places capacity = record {
    of = r.of;
    told = r.told;
    limit = r.limit;
    alone = r.alone;
    graph = known;
    standing = subst (λ xs. AllZip (StandsAt seat.view) xs m.places.items) (sym rows) (subst (AllZip (StandsAt seat.view) l.graph.rows.items) (sym places) r.standing);
    room = same-room m keeps (ap (λ (xs : List Row). length xs) rows);
    places_room = let p = r.places_room in omega arith;
  }

  -- a group has heard bounds that its place has, too
  pub graph-heard : (m : Local) (node low up : ℕ) → IsGraph (problem_of inst) m.graph → KeepsRoom l.graph m.graph → node < length l.graph.rows.items → m.graph.rows.items ≡ set l.graph.rows.items node (heard low up (row_at l.graph.rows.items node))
      → m.places.items ≡ l.places.items → vec_capacity m.places ≡ vec_capacity l.places → low ≤ low_seen (slice_index l.places.items node) seat.view → up_seen (slice_index l.places.items node) seat.view ≤ up → Ready inst words seat m
  graph-heard m node low up known keeps lt rows places capacity below above =
      let s = stands node lt in
      let a = s.low in
      let b = s.up in
      record {
        of = r.of;
        told = r.told;
        limit = r.limit;
        alone = r.alone;
        graph = known;
        standing = subst (λ xs. AllZip (StandsAt seat.view) xs m.places.items) (sym rows) (subst (AllZip (StandsAt seat.view) (set l.graph.rows.items node (heard low up (row_at l.graph.rows.items node)))) (sym places)
            (zip-set (StandsAt seat.view) l.graph.rows.items l.places.items node (heard low up (row_at l.graph.rows.items node)) 0 r.standing lt
            (record { known = s.known; group = s.group; low = omega arith; up = omega arith })));
        room = same-room m keeps (ap (λ (xs : List Row). length xs) rows ∙ length-set l.graph.rows.items node (heard low up (row_at l.graph.rows.items node)));
        places_room = let p = r.places_room in omega arith;
      }

  -- a group was given a row at its place
  pub graph-listed : (m : Local) (g : Group) (place low up : ℕ) → IsGraph (problem_of inst) m.graph → UsesRoomOfOne l.graph m.graph → length l.graph.rows.items < words.limit → m.graph.rows.items ≡ l.graph.rows.items ++ record { group = g; low = low; up = up } ∷ [] → m.places.items ≡ l.places.items ++ place ∷ [] → vec_capacity m.places ≡ vec_capacity l.places
      → IsKnown place seat.view → group_at place seat.view ≡ members g → low ≤ low_seen place seat.view → up_seen place seat.view ≤ up → Ready inst words seat m
  graph-listed m g place low up known uses few rows places capacity there group below above = record {
    of = r.of;
    told = r.told;
    limit = r.limit;
    alone = r.alone;
    graph = known;
    standing = subst (λ xs. AllZip (StandsAt seat.view) xs m.places.items) (sym rows) (subst (AllZip (StandsAt seat.view) (l.graph.rows.items ++ record { group = g; low = low; up = up } ∷ [])) (sym places)
        (zip-last (StandsAt seat.view) l.graph.rows.items l.places.items (record { group = g; low = low; up = up }) place r.standing
        (record { known = there; group = group; low = below; up = above })));
    room =
        let long = ap (λ (xs : List Row). length xs) rows in
        let one = length-append l.graph.rows.items (record { group = g; low = low; up = up } ∷ []) in
        uses (words.limit - length m.graph.rows.items) (subst (λ n. HasRoom n l.graph) (omega arith) r.room);
    places_room = let p = r.places_room in omega arith;
  }
