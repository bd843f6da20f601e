use Rattle.std.proofs.Common.{◌≡◌, ◌∙◌, sym, ap, subst, arith, length, take}
use Rattle.std.specs.Prelude.{true, All}
use Rattle.std.proofs.Math.Seq.{take-length}
use Rattle.std.proofs.lemmas.List.{take_more}
use Rattle.std.proofs.lemmas.List.Elements.{All-push}
use Rattle.seq_theory.specs.Graph.{is_entered}
use Rattle.seq_inst.specs.Instances.{problem_of}
use Rattle.seq_inst.specs.Members.{members}
use Rattle.seq_inst.specs.declared.outcome.Row.{Row}
use Rattle.seq_core.specs.Settled.{groups_in}
use Rattle.seq_finish.proofs.OutcomeLaws.{row-among}
use Rattle.seq_finish.proofs.JoinLaws.{row-allowed, row-bounds, behind-allowed, among-all, joined-sound}
use Rattle.seq_finish.proofs.joining.join.Goals as goal

pub loop-row-init : goal.loop-row-init
loop-row-init c = record {
  known = c.requires.known;
  allowed = behind-allowed (problem_of c.args.inst.now) c.args.rows.now c.requires.sound c.args.graph.now.rows.items c.requires.behind;
  there = λ k d lt. absurd (let bad : ⊥ = omega arith in bad);
}

pub hear_row-requires-clause-real : goal.hear_row-requires-clause-real
hear_row-requires-clause-real c = c.requires.sound.real _ (row-among c.args.rows.now c.loop-row.row-index _ c.loop-row-test.true)

pub hear_row-requires-clause-right : goal.hear_row-requires-clause-right
hear_row-requires-clause-right c = row-bounds (problem_of c.args.inst.now) c.args.rows.now c.requires.sound c.args.inst.now.stands.weighed c.args.inst.now.valid.told c.loop-row.row-index _ c.loop-row-test.true

pub loop-row-preserved : goal.loop-row-preserved
loop-row-preserved c =
    let p = problem_of c.args.inst.now in
    let rows = c.args.rows.now in
    let k = c.loop-row.row-index in
    let lt = c.loop-row-test.true in
    let now = c.hear_row.new.graph.rows.items in
    let h = c.in_ok-hear_row.ensures in
    record {
      known = h.known;
      allowed = h.allowed (groups_in rows) (row-allowed p rows c.requires.sound k _ lt) c.loop-row.invariant.allowed;
      there = subst (All (λ (r : Row). is_entered (groups_in now) (members r.group) ≡ true)) (sym (take_more rows k _ lt))
          (All-push (λ (r : Row). is_entered (groups_in now) (members r.group) ≡ true) (take k rows) _ (λ j d l. h.keeps _ (c.loop-row.invariant.there j d l)) h.there);
    }

pub returns-clause-all : goal.returns-clause-all
returns-clause-all c = λ g e.
    let rows = c.args.rows.now in
    let now = c.loop-row.graph.rows.items in
    let end : c.loop-row.row-index ≡ length rows = omega arith in
    among-all (groups_in now) rows g (subst (All (λ (r : Row). is_entered (groups_in now) (members r.group) ≡ true)) (ap (λ n. take n rows) end ∙ take-length rows) c.loop-row.invariant.there) e

pub returns-clause-no_others : goal.returns-clause-no_others
returns-clause-no_others c = λ g e. among-all (groups_in c.args.rows.now) c.loop-row.graph.rows.items g (λ k d lt. (c.loop-row.invariant.allowed k d lt).among) e

pub returns-clause-sound : goal.returns-clause-sound
returns-clause-sound c = joined-sound (problem_of c.args.inst.now) c.args.rows.now c.loop-row.graph.rows.items c.loop-row.invariant.known.rows_are c.loop-row.invariant.allowed (returns-clause-all c)
