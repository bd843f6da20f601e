use Rattle.std.proofs.Common.{◌≡◌, ◌<◌, ◌++◌, [], ◌∷◌, ℕ, List, ap, ◌∙◌, get_or, length, arith}
use Rattle.std.proofs.lemmas.List.{get_or_default, get_or_read}
use Rattle.std.proofs.lemmas.List.Elements.{All-get_or}
use Rattle.sig_lines.specs.declared.labels.StateLabel.{StateLabel}
use Rattle.seq_cert.specs.ByClass.{no_state}
use Rattle.seq_cert.proofs.PickedStates.{picked_more}
use Rattle.seq_cert.proofs.by_class.states_by_class.Goals as goal

pub loop-at-preserved : goal.loop-at-preserved
loop-at-preserved c =
    let at = c.loop-at.at in
    let there : at < length c.args.states.now = c.loop-at-test.true in
    let class = (get_or c.args.states.now at c.index-states-at.result).class in
    let same : (get_or c.args.states.now at no_state).class ≡ class = ap (λ (s : StateLabel). s.class) (get_or_default c.args.states.now at no_state c.index-states-at.result there) in
    let low : class < c.args.classes = All-get_or (λ (s : StateLabel). s.class < c.args.classes) c.args.states.now at c.index-states-at.result there c.requires in
    let count = c.loop-at.invariant.count in
    let within : class < length c.loop-at.lists.items = omega arith in
    let before : c.index_mut.result.now ≡ get_or c.loop-at.lists.items class [] = get_or_read c.loop-at.lists.items class c.index_mut.result.now within c.index_mut.ensures.value [] in
    picked_more c.args.states.now at there c.args.classes c.loop-at.lists.items c.loop-at.invariant class same low c.push.new.self
    (c.in_ok-push.ensures.ok ∙ ap (λ (l : List ℕ). l ++ at ∷ []) before)
