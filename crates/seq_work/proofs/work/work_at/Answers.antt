use Rattle.std.proofs.Common.{◌∙◌, sym, ap, inl}
use Rattle.seq_theory.specs.Problem.{is_end}
use Rattle.seq_inst.specs.Instances.{problem_of}
use Rattle.seq_work.proofs.Roots.{root-kept}
use Rattle.seq_work.proofs.RunLaws.{covers-itself, covers-on}
use Rattle.seq_work.proofs.work.work_at.Goals as goal

pub returns-then-is_leaf-clause-worked : goal.returns-then-is_leaf-clause-worked
returns-then-is_leaf-clause-worked g c = inl (sym (ap (is_end (problem_of c.args.shared.now.inst)) c.root-all.ensures.classes) ∙ sym c.is_leaf.ensures ∙ c.if-is_leaf.true)

pub returns-then-is_leaf-clause-covers : goal.returns-then-is_leaf-clause-covers
returns-then-is_leaf-clause-covers g c = covers-itself c.args.seat.now.view

pub begin-requires-clause-more : goal.begin-requires-clause-more
begin-requires-clause-more g c = sym (ap (is_end (problem_of c.args.shared.now.inst)) c.root-all.ensures.classes) ∙ sym c.is_leaf.ensures ∙ c.if-is_leaf.false

pub returns-clause-root : goal.returns-clause-root
returns-clause-root g c = root-kept (problem_of c.args.shared.now.inst) c.begin.new.seat.view c.turns.new.seat.view c.turns.ensures.covers (root-kept (problem_of c.args.shared.now.inst) c.args.seat.now.view c.begin.new.seat.view c.begin.ensures.covers c.requires.root)

pub returns-clause-covers : goal.returns-clause-covers
returns-clause-covers g c = covers-on c.args.seat.now.view c.begin.new.seat.view c.turns.new.seat.view c.turns.ensures.covers c.begin.ensures.covers
