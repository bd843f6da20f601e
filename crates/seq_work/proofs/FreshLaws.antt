-- What a search takes, made step by step: workers that have done nothing; a scribe and an index with the group of all classes alone;
-- and seats that have learnt where it is.
use Rattle.std.proofs.Common.{◌≡◌, ℕ, suc, ◌+◌, ◌-◌, ◌<◌, ◌≤◌, Bool, true, false, cond, List, [], ◌∷◌, ◌++◌, length, refl, sym, ap, ◌∙◌, subst, arith, true≢false, All, Some, None}
use Rattle.std.specs.List.{AllZip}
use Rattle.seq_theory.specs.Problem.{all_classes, is_end}
use Rattle.seq_theory.specs.Graph.{same_group, IsWanted, root, IsReal}
use Rattle.seq_theory.proofs.RowLaws.{same_group-true, same_group-refl}
use Rattle.seq_inst.specs.declared.group.Group.{Group}
use Rattle.seq_inst.specs.declared.instance.Instance.{Instance}
use Rattle.seq_inst.specs.Members.{members}
use Rattle.seq_inst.specs.Instances.{problem_of}
use Rattle.seq_core.specs.Words.{classes_of}
use Rattle.seq_core.specs.Mapping.{Mapping, Placed, place_of}
use Rattle.seq_words.specs.declared.view.Told.{Told}
use Rattle.seq_words.specs.declared.view.View.{View}
use Rattle.seq_words.specs.Knowledge.{told_of, problem_in, IsKnown, HasGroup, group_at}
use Rattle.seq_words.specs.Seats.{Wording, Sitting, IsOf, HasPlaces, MayPublish}
use Rattle.seq_table.specs.Agreed.{Agreed}
use Rattle.seq_work.specs.declared.local.Local.{Local}
use Rattle.seq_work.specs.Works.{StandsAt}
use Rattle.seq_work.specs.Ends.{KnowsRoot}
use Rattle.seq_work.specs.Fans.{MayBegin}
use Rattle.seq_work.specs.Prepares.{IsFresh, AreFreshFrom, IsTaught}
use Rattle.seq_work.proofs.Rooms.{less-room}

-- ---- workers ----

pub fresh-more : (inst : Instance) (limit first : ℕ) (xs : List Local) (x : Local) → AreFreshFrom inst limit first xs → IsFresh inst limit (first + length xs) x → AreFreshFrom inst limit first (xs ++ x ∷ [])
fresh-more inst limit first [] x a f = (subst (λ n. IsFresh inst limit n x) (omega arith) f, tt)
fresh-more inst limit first (y ∷ ys) x a f = (a.0, fresh-more inst limit (suc first) ys x a.1 (subst (λ n. IsFresh inst limit n x) (omega arith) f))

may-begin : (inst : Instance) (w : Wording) (s : Sitting) (limit n : ℕ) (l : Local) → w.told ≡ told_of inst → w.limit ≡ limit → limit ≤ 32768 → IsTaught w inst s → IsFresh inst limit n l → MayBegin inst w s l
may-begin inst w s limit n l told is small t f = record {
  ready = record {
    of = t.of;
    told = told;
    limit = omega arith;
    alone = t.alone;
    graph = f.graph;
    standing = subst (λ rows. AllZip (StandsAt s.view) rows l.places.items) (sym f.rows) (subst (AllZip (StandsAt s.view) []) (sym f.places) tt);
    room = less-room (w.limit - length l.graph.rows.items) limit l.graph (omega arith) f.room;
    places_room = let p = f.places_room in omega arith;
  };
  empty = f.rows;
  root = t.root;
}

pub may-begin-all : (inst : Instance) (w : Wording) (seats : List Sitting) (limit first : ℕ) (locals : List Local) → w.told ≡ told_of inst → w.limit ≡ limit → limit ≤ 32768 → length seats ≡ length locals → All (λ (s : Sitting). IsTaught w inst s) seats
    → AreFreshFrom inst limit first locals → AllZip (MayBegin inst w) seats locals
may-begin-all inst w [] limit first [] told is small e a f = tt
may-begin-all inst w [] limit first (l ∷ ls) told is small e a f = absurd (omega arith)
may-begin-all inst w (s ∷ ss) limit first [] told is small e a f = absurd (omega arith)
may-begin-all inst w (s ∷ ss) limit first (l ∷ ls) told is small e a f = (
  may-begin inst w s limit first l told is small (a 0 s (omega arith)) f.0,
  may-begin-all inst w ss limit (suc first) ls told is small (omega arith) (λ k d lt. a (suc k) d (omega arith)) f.1,
)

-- ---- the group of all classes ----

pub may-publish-all : (inst : Instance) (w : Wording) (scribe : Sitting) (all : Group) → IsOf w scribe → w.told ≡ told_of inst → 1 ≤ w.limit → HasPlaces 0 scribe.view → members all ≡ all_classes (problem_of inst)
    → is_end (problem_of inst) (members all) ≡ false → MayPublish scribe.view 0 all
may-publish-all inst w scribe all of told some none is more = record {
  next = none;
  room = let l = of.limit in omega arith;
  real = subst (λ (t : Told). IsReal (problem_in t) (members all)) (sym (of.told ∙ told)) (record { wanted = subst (IsWanted (problem_of inst)) (sym is) root; goals = more });
  new = λ other lt. absurd (omega arith);
}

none-some : {A : Type 0} (a : A) → None ≡ Some a → ⊥
none-some a e = let bad : ⊥ = cc in bad

some-one : (a b : ℕ) → Some a ≡ Some b → a ≡ b
some-one a b e = cc

-- nothing is published, and the index is empty
pub agreed-none : (w : Wording) (scribe : Sitting) (index : Mapping) → IsOf w scribe → HasPlaces 0 scribe.view → index ≡ record { room = w.limit; placed = [] } → Agreed w scribe index
agreed-none w scribe index of none is = subst (λ (i : Mapping). Agreed w scribe i) (sym is) (record {
  of = of;
  room = omega arith;
  within = omega arith;
  count = none;
  knows = λ place lt. absurd (omega arith);
  has = λ place lt. absurd (omega arith);
  only = λ group place e. absurd (none-some place e);
})

-- one group is published at place 0, and the index has it
pub agreed-one : (w : Wording) (scribe : Sitting) (index : Mapping) (all : Group) → IsOf w scribe → 1 ≤ w.limit → HasPlaces 1 scribe.view → HasGroup 0 all.0 scribe.view
    → index ≡ record { room = w.limit; placed = record { group = members all; place = 0 } ∷ [] } → Agreed w scribe index
agreed-one w scribe index all of some count has is =
    let x : Placed = record { group = members all; place = 0 } in
    let here : group_at 0 scribe.view ≡ members all = ap classes_of has.1 in
    let there : IsKnown 0 scribe.view = (has.0, ap (λ (l : List ℕ). length l) has.1 ∙ has.2) in
    subst (λ (i : Mapping). Agreed w scribe i) (sym is) (record {
      of = of;
      room = omega arith;
      within = some;
      count = count;
      knows = λ place lt. subst (λ k. IsKnown k scribe.view) (omega arith) there;
      has = λ place lt. subst (λ k. place_of (x ∷ []) (group_at k scribe.view) ≡ Some k) (omega arith) (subst (λ (g : List ℕ). place_of (x ∷ []) g ≡ Some 0) (sym here) (found (same_group-refl (members all))));
      only = λ group place e. only-one group place (same_group group (members all)) refl e here;
    })
  where
    found : same_group (members all) (members all) ≡ true → place_of (record { group = members all; place = 0 } ∷ []) (members all) ≡ Some 0
    found y = ap (λ b. cond b (Some 0) None) y

    only-one : (group : List ℕ) (place : ℕ) (b : Bool) → same_group group (members all) ≡ b → cond b (Some 0) None ≡ Some place → group_at 0 scribe.view ≡ members all → (place < 1) × (group_at place scribe.view ≡ group)
    only-one group place true y e here =
        let p = some-one 0 place e in
        (omega arith, subst (λ k. group_at k scribe.view ≡ group) p (here ∙ sym (same_group-true group (members all) y)))
    only-one group place false n e here = absurd (none-some place e)

pub root-one : (inst : Instance) (v : View) (all : Group) → members all ≡ all_classes (problem_of inst) → HasGroup 0 all.0 v → KnowsRoot (problem_of inst) v
root-one inst v all is has = record {
  there = λ more. (has.0, ap (λ (l : List ℕ). length l) has.1 ∙ has.2);
  group = λ more. ap classes_of has.1 ∙ is;
}

pub root-none : (inst : Instance) (v : View) → is_end (problem_of inst) (all_classes (problem_of inst)) ≡ true → KnowsRoot (problem_of inst) v
root-none inst v e = record {
  there = λ more. absurd (true≢false (sym e ∙ more));
  group = λ more. absurd (true≢false (sym e ∙ more));
}
