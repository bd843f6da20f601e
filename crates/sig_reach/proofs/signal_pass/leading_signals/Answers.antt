use Rattle.std.proofs.Common.{◌≡◌, ◌^◌, ◌-◌, ◌<◌, length, [], get_or, set, bit_and, w64, arith, rules, refl, ap, sym, ◌∙◌, subst, replicate}
use Rattle.std.specs.List.{Contains}
use Rattle.std.specs.Int.{bit_not}
use Rattle.std.proofs.lemmas.List.{get_or_default, length-set}
use Rattle.sig_reach.specs.Words.{SpreadSignals}
use Rattle.sig_reach.specs.Marks.{sources_at}
use Rattle.sig_reach.proofs.MarkLaws.{row-read}
use Rattle.sig_reach.proofs.SignalLaws.{PassingSignals, passing-start, passing-there, passing-step, passing-exact, signals-none, signals-along, signals-at, whole_words}
use Rattle.sig_reach.proofs.signal_pass.leading_signals.Goals as goal

pub spread_signals-requires-clause-words : goal.spread_signals-requires-clause-words
spread_signals-requires-clause-words c = λ v i.
    let e = row-read c.args.sources.now c.args.target c.index-sources-target.result c.as_slice.result.now c.index-sources-target.is c.requires.target c.as_slice.ensures in
    let h = c.requires.there c.args.target v (subst (λ l. Contains l v) e i) in
    let long = c.in_ok-words.ensures.len in
    omega arith

pub waiting-init : goal.waiting-init
waiting-init c =
    let e = row-read c.args.sources.now c.args.target c.index-sources-target.result c.as_slice.result.now c.index-sources-target.is c.requires.target c.as_slice.ensures in
    let long : length c.spread_signals.new.words ≡ c.in_ok-words.words.len = omega arith in
    let wide : length c.spread_signals.new.pending ≡ c.in_ok-pending.pending.len = omega arith in
    let made = c.in_ok-words.ensures.len in
    let made' = c.in_ok-pending.ensures.len in
    let many : length c.spread_signals.new.words ≡ length c.args.sources.now = omega arith in
    let many' : length c.spread_signals.new.pending ≡ length c.args.sources.now = omega arith in
    let w = whole_words c.spread_signals.new.words c.in_ok-words.words.items c.in_ok-words.words.len long in
    let q = whole_words c.spread_signals.new.pending c.in_ok-pending.pending.items c.in_ok-pending.pending.len wide in
    let start : c.as_mut_slice.result.now ≡ replicate (length c.args.sources.now) 0 = c.as_mut_slice.ensures.value ∙ c.in_ok-words.ensures.items_if_clones_equal (λ y e. e) in
    let start' : c.as_mut_slice-2.result.now ≡ replicate (length c.args.sources.now) 0 = c.as_mut_slice-2.ensures.value ∙ c.in_ok-pending.ensures.items_if_clones_equal (λ y e. e) in
    let none : c.new-waiting.result.items ≡ [] = c.new-waiting.ensures.items in
    passing-start c.args.sources.now c.args.stops.now c.args.target (length c.args.sources.now) _ _ c.spread_signals.new.waiting.items (ap length w ∙ many) (ap length q ∙ many') (c.requires.there c.args.target)
    (signals-along (2 ^ 64 - 1) (replicate (length c.args.sources.now) 0) (replicate (length c.args.sources.now) 0) [] (sources_at c.args.sources.now c.args.target) (sources_at c.args.sources.now c.args.target) _ c.spread_signals.new.words _ c.spread_signals.new.pending c.spread_signals.new.waiting.items c.spread_signals.new.waiting.items refl w q refl
    (signals-at (2 ^ 64 - 1) (sources_at c.args.sources.now c.args.target) c.as_slice.result.now (replicate (length c.args.sources.now) 0) c.as_mut_slice.result.now (replicate (length c.args.sources.now) 0) c.as_mut_slice-2.result.now [] c.new-waiting.result.items c.spread_signals.new.words c.spread_signals.new.pending c.spread_signals.new.waiting.items
    e start start' none c.in_ok-spread_signals.ensures))

pub index-requires : goal.index-requires
index-requires c =
    let p = subst (λ l. PassingSignals c.args.sources.now c.args.stops.now c.args.target c.waiting.words.items c.waiting.pending.items l) c.in-Some.ensures.items c.waiting.invariant in
    let h = passing-there c.args.sources.now c.args.stops.now c.args.target c.waiting.words.items c.waiting.pending.items c.pop_front.new.self.items c.in-Some.node p in
    let long = p.long in
    let wide = p.wide in
    omega arith

pub bounds-stops-node : goal.bounds-stops-node
bounds-stops-node c =
    let p = subst (λ l. PassingSignals c.args.sources.now c.args.stops.now c.args.target c.waiting.words.items c.waiting.pending.items l) c.in-Some.ensures.items c.waiting.invariant in
    let h = passing-there c.args.sources.now c.args.stops.now c.args.target c.waiting.words.items c.waiting.pending.items c.pop_front.new.self.items c.in-Some.node p in
    let long = p.long in
    let wide = p.wide in
    omega arith

pub index_mut-requires : goal.index_mut-requires
index_mut-requires c =
    let p = subst (λ l. PassingSignals c.args.sources.now c.args.stops.now c.args.target c.waiting.words.items c.waiting.pending.items l) c.in-Some.ensures.items c.waiting.invariant in
    let h = passing-there c.args.sources.now c.args.stops.now c.args.target c.waiting.words.items c.waiting.pending.items c.pop_front.new.self.items c.in-Some.node p in
    let long = p.long in
    let wide = p.wide in
    omega arith

pub bounds-sources-node : goal.bounds-sources-node
bounds-sources-node c =
    let p = subst (λ l. PassingSignals c.args.sources.now c.args.stops.now c.args.target c.waiting.words.items c.waiting.pending.items l) c.in-Some.ensures.items c.waiting.invariant in
    let h = passing-there c.args.sources.now c.args.stops.now c.args.target c.waiting.words.items c.waiting.pending.items c.pop_front.new.self.items c.in-Some.node p in
    let long = p.long in
    let wide = p.wide in
    omega arith

pub spread_signals-requires-then-through-ne0-clause-words : goal.spread_signals-requires-then-through-ne0-clause-words
spread_signals-requires-then-through-ne0-clause-words c = λ v i.
    let p = subst (λ l. PassingSignals c.args.sources.now c.args.stops.now c.args.target c.waiting.words.items c.waiting.pending.items l) c.in-Some.ensures.items c.waiting.invariant in
    let h = passing-there c.args.sources.now c.args.stops.now c.args.target c.waiting.words.items c.waiting.pending.items c.pop_front.new.self.items c.in-Some.node p in
    let long = p.long in
    let e = row-read c.args.sources.now c.in-Some.node c.index-sources-node.result c.as_slice-then-through-ne0.result.now c.index-sources-node.is h c.as_slice-then-through-ne0.ensures in
    let f = c.requires.there c.in-Some.node v (subst (λ l. Contains l v) e i) in
    let value = ap length c.as_mut_slice-then-through-ne0.ensures.value in
    omega arith

pub waiting-preserved-in-Continue-branch-4 : goal.waiting-preserved-in-Continue-branch-4
waiting-preserved-in-Continue-branch-4 c =
    let node = c.in-Some.node in
    let p = subst (λ l. PassingSignals c.args.sources.now c.args.stops.now c.args.target c.waiting.words.items c.waiting.pending.items l) c.in-Some.ensures.items c.waiting.invariant in
    let h = passing-there c.args.sources.now c.args.stops.now c.args.target c.waiting.words.items c.waiting.pending.items c.pop_front.new.self.items c.in-Some.node p in
    let plong = p.long in
    let pwide = p.wide in
    let e = row-read c.args.sources.now node c.index-sources-node.result c.as_slice-then-through-ne0.result.now c.index-sources-node.is h c.as_slice-then-through-ne0.ensures in
    let value : c.as_mut_slice-then-through-ne0.result.now ≡ c.waiting.words.items = c.as_mut_slice-then-through-ne0.ensures.value in
    let value' : c.as_mut_slice-then-through-ne0-2.result.now ≡ set c.waiting.pending.items node 0 = c.as_mut_slice-then-through-ne0-2.ensures.value in
    let many = ap length value in
    let many' = ap length value' ∙ length-set c.waiting.pending.items node 0 in
    let long : length c.spread_signals-then-through-ne0.new.words ≡ c.waiting.words.len = omega arith in
    let wide : length c.spread_signals-then-through-ne0.new.pending ≡ c.waiting.pending.len = omega arith in
    let kept : length c.spread_signals-then-through-ne0.new.words ≡ length c.waiting.words.items = omega arith in
    let kept' : length c.spread_signals-then-through-ne0.new.pending ≡ length c.waiting.pending.items = omega arith in
    let w = whole_words c.spread_signals-then-through-ne0.new.words c.waiting.words.items c.waiting.words.len long in
    let q = whole_words c.spread_signals-then-through-ne0.new.pending (set c.waiting.pending.items node 0) c.waiting.pending.len wide in
    let known : node < length c.args.stops.now = omega arith in
    let there : node < length c.waiting.pending.items = omega arith in
    let stop = get_or c.args.stops.now node 0 in
    let fits : stop < 2 ^ 64 = omega arith in
    let read : c.index.result.now ≡ get_or c.waiting.pending.items node 0 = c.index.ensures ∙ get_or_default c.waiting.pending.items node c.index.result.now 0 there in
    passing-step c.args.sources.now c.args.stops.now c.args.target c.waiting.words.items c.waiting.pending.items c.pop_front.new.self.items node stop _ _ c.spread_signals-then-through-ne0.new.waiting.items fits refl known there (ap length w ∙ kept) (ap length q ∙ kept') (c.requires.there node) p
    (signals-along (bit_and (get_or c.waiting.pending.items node 0) (bit_not w64 stop)) c.waiting.words.items (set c.waiting.pending.items node 0) c.pop_front.new.self.items (sources_at c.args.sources.now node) (sources_at c.args.sources.now node) _ c.spread_signals-then-through-ne0.new.words _ c.spread_signals-then-through-ne0.new.pending c.spread_signals-then-through-ne0.new.waiting.items c.spread_signals-then-through-ne0.new.waiting.items refl w q refl
    (subst (λ n. SpreadSignals (sources_at c.args.sources.now node) (bit_and n (bit_not w64 stop)) c.waiting.words.items (set c.waiting.pending.items node 0) c.pop_front.new.self.items c.spread_signals-then-through-ne0.new.words c.spread_signals-then-through-ne0.new.pending c.spread_signals-then-through-ne0.new.waiting.items) read
    (signals-at (bit_and c.index.result.now (bit_not w64 stop)) (sources_at c.args.sources.now node) c.as_slice-then-through-ne0.result.now c.waiting.words.items c.as_mut_slice-then-through-ne0.result.now (set c.waiting.pending.items node 0) c.as_mut_slice-then-through-ne0-2.result.now c.pop_front.new.self.items c.pop_front.new.self.items c.spread_signals-then-through-ne0.new.words c.spread_signals-then-through-ne0.new.pending c.spread_signals-then-through-ne0.new.waiting.items
    e value value' refl c.in_ok-spread_signals-2.ensures)))

pub waiting-preserved : goal.waiting-preserved
waiting-preserved c =
    let node = c.in-Some.node in
    let p = subst (λ l. PassingSignals c.args.sources.now c.args.stops.now c.args.target c.waiting.words.items c.waiting.pending.items l) c.in-Some.ensures.items c.waiting.invariant in
    let h = passing-there c.args.sources.now c.args.stops.now c.args.target c.waiting.words.items c.waiting.pending.items c.pop_front.new.self.items c.in-Some.node p in
    let plong = p.long in
    let pwide = p.wide in
    let known : node < length c.args.stops.now = omega arith in
    let there : node < length c.waiting.pending.items = omega arith in
    let stop = get_or c.args.stops.now node 0 in
    let fits : stop < 2 ^ 64 = omega arith in
    let read : c.index.result.now ≡ get_or c.waiting.pending.items node 0 = c.index.ensures ∙ get_or_default c.waiting.pending.items node c.index.result.now 0 there in
    let nothing : bit_and (get_or c.waiting.pending.items node 0) (bit_not w64 stop) ≡ 0 = sym (ap (λ n. bit_and n (bit_not w64 stop)) read) ∙ c.if-through-ne0.false in
    passing-step c.args.sources.now c.args.stops.now c.args.target c.waiting.words.items c.waiting.pending.items c.pop_front.new.self.items node stop c.waiting.words.items (set c.waiting.pending.items node 0) c.pop_front.new.self.items fits refl known there refl (length-set c.waiting.pending.items node 0) (c.requires.there node) p
    (subst (λ n. SpreadSignals (sources_at c.args.sources.now node) n c.waiting.words.items (set c.waiting.pending.items node 0) c.pop_front.new.self.items c.waiting.words.items (set c.waiting.pending.items node 0) c.pop_front.new.self.items) (sym nothing)
    (signals-none (sources_at c.args.sources.now node) c.waiting.words.items (set c.waiting.pending.items node 0) c.pop_front.new.self.items))

pub returns-clause-marked : goal.returns-clause-marked
returns-clause-marked c =
    let none : length c.waiting.waiting.items ≡ 0 = first_of (omega arith, search rules) in
    passing-exact c.args.sources.now c.args.stops.now c.args.target c.waiting.words.items c.waiting.pending.items c.waiting.waiting.items none c.waiting.invariant
