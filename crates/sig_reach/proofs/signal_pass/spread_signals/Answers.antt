use Rattle.std.proofs.Common.{◌≡◌, ◌<◌, ◌+◌, ◌^◌, length, [], ◌∷◌, ◌++◌, take, get_or, bit_and, bit_or, arith, add-one, ap, ◌∙◌, w64}
use Rattle.std.specs.Int.{bit_not}
use Rattle.std.proofs.Math.Seq.{take-suc}
use Rattle.std.proofs.lemmas.Nat.{and_le_l, or_lt}
use Rattle.std.proofs.lemmas.List.Elements.{Contains-get_or}
use Rattle.sig_reach.proofs.SignalLaws.{signals-same, signals-more, signals-along}
use Rattle.sig_reach.proofs.signal_pass.spread_signals.Goals as goal
use Rattle.sig_reach.proofs.signal_pass.spread_signals.Goals.{then-fresh-ne0+in_ok-push_back, else-fresh-ne0}

pub bounds-words-node : goal.bounds-words-node
bounds-words-node c =
    let lt : c.loop-node.node-index < length c.args.nodes.now = omega arith in
    let h = c.requires.words (get_or c.args.nodes.now c.loop-node.node-index 0) (Contains-get_or c.args.nodes.now c.loop-node.node-index 0 lt) in
    omega arith

pub bounds-words-node-then-fresh-ne0 : goal.bounds-words-node-then-fresh-ne0
bounds-words-node-then-fresh-ne0 c =
    let lt : c.loop-node.node-index < length c.args.nodes.now = omega arith in
    let h = c.requires.words (get_or c.args.nodes.now c.loop-node.node-index 0) (Contains-get_or c.args.nodes.now c.loop-node.node-index 0 lt) in
    omega arith

pub bounds-pending-node : goal.bounds-pending-node
bounds-pending-node c =
    let lt : c.loop-node.node-index < length c.args.nodes.now = omega arith in
    let h = c.requires.words (get_or c.args.nodes.now c.loop-node.node-index 0) (Contains-get_or c.args.nodes.now c.loop-node.node-index 0 lt) in
    let wide = c.requires.pending in
    omega arith

pub bounds-pending-node-then-fresh-ne0 : goal.bounds-pending-node-then-fresh-ne0
bounds-pending-node-then-fresh-ne0 c =
    let lt : c.loop-node.node-index < length c.args.nodes.now = omega arith in
    let h = c.requires.words (get_or c.args.nodes.now c.loop-node.node-index 0) (Contains-get_or c.args.nodes.now c.loop-node.node-index 0 lt) in
    let wide = c.requires.pending in
    omega arith

pub loop-node-preserved : goal.loop-node-preserved
loop-node-preserved c =
    let i = c.loop-node.node-index in
    let nodes = c.args.nodes.now in
    let node = get_or nodes i 0 in
    let lt : i < length nodes = omega arith in
    let e : take (i + 1) nodes ≡ take i nodes ++ node ∷ [] = rw add-one (take-suc nodes i 0 lt) in
    let h = c.requires.words node (Contains-get_or nodes i 0 lt) in
    let there : node < length c.loop-node.words = omega arith in
    let wide = c.requires.pending in
    let there' : node < length c.loop-node.pending = omega arith in
    let word = get_or c.loop-node.words node 0 in
    let fits : word < 2 ^ 64 = omega arith in
    elim c.if-fresh-ne0.branch [
      | then-fresh-ne0+in_ok-push_back w ↦
          (let fresh = bit_and c.args.signals (bit_not w64 word) in
          let q : c.if-fresh-ne0.waiting.items ≡ c.loop-node.waiting.items ++ node ∷ [] = ap (λ v. v.items) w.waiting-is ∙ w.in_ok-push_back.ensures.items in
          let whole : bit_or word fresh < 2 ^ 64 = or_lt 64 word fresh fits (let le = and_le_l c.args.signals (bit_not w64 word) in omega arith) in
          signals-along c.args.signals c.args.words.now c.args.pending.now c.args.waiting.now.items (take (i + 1) nodes) (take i nodes ++ node ∷ []) c.if-fresh-ne0.words _ c.if-fresh-ne0.pending _ c.if-fresh-ne0.waiting.items _ e w.words-is w.pending-is q
          (signals-more c.args.signals c.args.words.now c.args.pending.now c.args.waiting.now.items (take i nodes) c.loop-node.words c.loop-node.pending c.loop-node.waiting.items node there there' fits (omega arith) w.if-fresh-ne0.true whole c.loop-node.invariant))
      | else-fresh-ne0 w ↦
          (signals-along c.args.signals c.args.words.now c.args.pending.now c.args.waiting.now.items (take (i + 1) nodes) (take i nodes ++ node ∷ []) c.if-fresh-ne0.words _ c.if-fresh-ne0.pending _ c.if-fresh-ne0.waiting.items _ e w.words-is w.pending-is (ap (λ v. v.items) w.waiting-is)
          (signals-same c.args.signals c.args.words.now c.args.pending.now c.args.waiting.now.items (take i nodes) c.loop-node.words c.loop-node.pending c.loop-node.waiting.items node fits w.if-fresh-ne0.false c.loop-node.invariant))
    ]
