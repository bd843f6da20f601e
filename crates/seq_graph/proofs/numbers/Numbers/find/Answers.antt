use Rattle.std.proofs.Common.{◌≡◌, ◌∙◌, sym, ap, subst, false, is_some}
use Rattle.indexmap.specs.IndexMap.{keys}
use Rattle.seq_theory.specs.Graph.{is_entered}
use Rattle.seq_inst.specs.Members.{members}
use Rattle.seq_graph.specs.Numbered.{Numbered, HasNumber}
use Rattle.seq_graph.proofs.NumberedLaws.{found-number, absent-number}
use Rattle.seq_graph.proofs.numbers.Numbers.find.Goals as goal

pub returns-in-Some-clause-found : goal.returns-in-Some-clause-found
returns-in-Some-clause-found c =
    let g = c.args.group.now in
    subst (λ (v : Numbered). HasNumber v (members g) c.in-Some.index) c.self.view_is (found-number (keys c.self.inside.bounds) g.0 c.in-Some.index (sym c.get_index_of.ensures.index ∙ c.in-Some.is))

pub returns-in-None-clause-none : goal.returns-in-None-clause-none
returns-in-None-clause-none c =
    let g = c.args.group.now in
    subst (λ (v : Numbered). is_entered v.groups (members g) ≡ false) c.self.view_is
    (absent-number c.same_words_hold.ensures c.self.inside.bounds.entries g.0 c.self.invariant.words c.group_stands.ensures (sym c.get_index_of.ensures.found ∙ ap is_some c.in-None.is))
