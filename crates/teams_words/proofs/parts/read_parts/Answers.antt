use Rattle.std.proofs.Common.{◌≡◌, ◌∙◌, ◌+◌, ◌<◌, ◌∷◌, length, map, drop, string_bytes, sym, ap, arith}
use Rattle.std.proofs.lemmas.List.{drop_more}
use Rattle.teams_words.specs.Read.{whole}
use Rattle.teams_words.proofs.Joined.{with_none, refused_by}
use Rattle.teams_words.proofs.parts.read_parts.Goals as goal

pub loop-word-init : goal.loop-word-init
loop-word-init c = rw (c.new.ensures.items, c.new-2.ensures.items, c.new-3.ensures.items, c.new-4.ensures.items, c.new-5.ensures.items, c.new-6.ensures.items) (sym (with_none _))

pub returns-then-not-branch : goal.returns-then-not-branch
returns-then-not-branch c =
    let within : c.loop-word.word-index < length c.args.words.now = omega arith in
    let next : drop c.loop-word.word-index c.args.words.now ≡ c.word-item.result ∷ drop (c.loop-word.word-index + 1) c.args.words.now =
    rw c.word-item.is (drop_more c.args.words.now c.loop-word.word-index c.word-item.result within) in
    let refused = refused_by c.in_ok-read.field-0 c.as_str.result.now c.loop-word.reader c.read.new.self c.if-not-branch.true c.in_ok-read.ensures (map string_bytes (drop (c.loop-word.word-index + 1) c.args.words.now)) in
    c.loop-word.invariant ∙ ap (λ ws. whole c.loop-word.reader (map string_bytes ws)) next ∙ rw (← c.as_str.ensures.value) refused
