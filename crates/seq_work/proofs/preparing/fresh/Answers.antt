use Rattle.std.proofs.Common.{◌∙◌, ◌∷◌, [], length, length-append, arith, subst, sym, ap}
use Rattle.seq_work.specs.declared.local.Local.{Local}
use Rattle.seq_work.specs.Prepares.{AreFreshFrom}
use Rattle.seq_work.proofs.FreshLaws.{fresh-more}
use Rattle.seq_work.proofs.preparing.fresh.Goals as goal

pub loop-number-preserved : goal.loop-number-preserved
loop-number-preserved c =
    let inst = c.args.inst.now in
    let old = c.loop-number.locals.items in
    let count = c.loop-number.invariant.count in
    let x : Local = record { number = c.loop-number.number; graph = c.in_ok-graph.graph; places = c.in_ok-places.places } in
    let more = c.in_ok-push.ensures.items in
    record {
      fresh = subst (AreFreshFrom inst c.args.limit 0) (sym more) (fresh-more inst c.args.limit 0 old x c.loop-number.invariant.fresh
          (record { number_is = omega arith; graph = c.in_ok-graph.ensures.known; rows = c.in_ok-graph.ensures.rows; places = c.in_ok-places.ensures.items; room = c.in_ok-graph.ensures.room; places_room = let room = c.in_ok-places.ensures.capacity in omega arith }));
      count = ap (λ l. length l) more ∙ omega (arith, length-append old (x ∷ []));
    }
