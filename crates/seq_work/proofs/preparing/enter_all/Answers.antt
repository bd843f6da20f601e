use Rattle.std.proofs.Common.{◌∙◌, ◌++◌, ◌∷◌, [], sym, ap}
use Rattle.seq_theory.specs.Problem.{is_end}
use Rattle.seq_inst.specs.Members.{members}
use Rattle.seq_inst.specs.Instances.{problem_of}
use Rattle.seq_core.specs.Mapping.{Mapping}
use Rattle.seq_work.proofs.FreshLaws.{may-publish-all, agreed-none, agreed-one, root-one, root-none}
use Rattle.seq_work.proofs.preparing.enter_all.Goals as goal

pub returns-then-is_leaf-clause-agreed : goal.returns-then-is_leaf-clause-agreed
returns-then-is_leaf-clause-agreed c = agreed-none c.args.words.now c.args.scribe.now c.args.index.now c.requires.scribe c.requires.none c.requires.index

pub returns-then-is_leaf-clause-root : goal.returns-then-is_leaf-clause-root
returns-then-is_leaf-clause-root c = root-none c.args.inst.now c.args.scribe.now.view (sym (ap (is_end (problem_of c.args.inst.now)) c.root-all.ensures.classes) ∙ sym c.is_leaf.ensures ∙ c.if-is_leaf.true)

pub publish-requires-clause-may : goal.publish-requires-clause-may
publish-requires-clause-may c = may-publish-all c.args.inst.now c.args.words.now c.args.scribe.now c.root-all.result c.requires.scribe c.requires.told c.requires.some c.requires.none c.root-all.ensures.classes (sym c.is_leaf.ensures ∙ c.if-is_leaf.false)

pub returns-clause-agreed : goal.returns-clause-agreed
returns-clause-agreed c = agreed-one c.args.words.now c.publish.new.scribe c.add.new.self c.root-all.result c.publish.ensures.of c.requires.some c.publish.ensures.count c.publish.ensures.knows (c.add.ensures ∙ ap (λ (i : Mapping). record { room = i.room; placed = i.placed ++ record { group = members c.root-all.result; place = 0 } ∷ [] }) c.requires.index)

pub returns-clause-root : goal.returns-clause-root
returns-clause-root c = root-one c.args.inst.now c.publish.new.scribe.view c.root-all.result c.root-all.ensures.classes c.publish.ensures.knows
