use Rattle.std.proofs.Common.{◌≡◌, ◌&&◌, ◌≤◌, [], length, map, position, string_bytes, refl, sym, ap, ◌∙◌, arith, rules}
use Rattle.std.proofs.lemmas.List.{length-map}
use Rattle.std.proofs.lemmas.Bool.{and_parts}
use Rattle.std.specs.Prelude.{is_some}
use Rattle.std.specs.Str.{bytes_eq}
use Rattle.toml.specs.Data.{member}
use Rattle.toml.specs.View.{view, members_view}
use Rattle.sig_types.specs.Words.{key_word}
use Rattle.sig_text.specs.Keys.{are_known, values_at}
use Rattle.sig_text.proofs.Found.{and_assoc, and_true, begun, completed, ended, known_at, placed_at, put_known, seen}
use Rattle.sig_text.proofs.keys.found_in.Goals as goal

pub loop-name-init : goal.loop-name-init
loop-name-init c =
    let known = c.args.known.now in
    let same : c.into_iter-name-iterator.result ≡ c.args.table.entries = search rules in (
      ap (λ es. are_known known (members_view es)) (sym same),
      refl,
      λ _. begun known 7 (members_view c.into_iter-name-iterator.result) c.requires.few ∙ ap (λ es. values_at known (members_view es)) same,
    )

pub put-requires : goal.put-requires
put-requires c i is =
    let known = c.args.known.now in
    let named = ap (λ t. position (λ key. bytes_eq (key_word key) t) known) c.as_str.ensures.value in
    let at = placed_at known (string_bytes c.in-Some.name) i (sym (c.place_of-place.ensures ∙ named) ∙ is) in
    omega (arith, at.2, c.loop-name.invariant.1, c.requires.few)

pub loop-name-preserved : goal.loop-name-preserved
loop-name-preserved c =
    let known = c.args.known.now in
    let name = string_bytes c.in-Some.name in
    let rest = members_view c.next.new.self in
    let step : members_view c.loop-name.name-iterator ≡ member name (view c.in-Some.value) rest = ap members_view c.in-Some.ensures.steps in
    let at = c.place_of-place.ensures ∙ ap (λ t. position (λ key. bytes_eq (key_word key) t) known) c.as_str.ensures.value in (
      c.loop-name.invariant.0 ∙ ap (λ ms. c.loop-name.no_other && are_known known ms) step ∙ ap (λ b. c.loop-name.no_other && (b && are_known known rest)) (sym (known_at known name c.place_of-place.result at)) ∙ and_assoc c.loop-name.no_other (is_some c.place_of-place.result) (are_known known rest)
          ∙ ap (λ b. (c.loop-name.no_other && b) && are_known known rest) (sym c.is_some-no_other.ensures),
      search rules,
      λ all.
          let both = and_parts c.loop-name.no_other c.is_some-no_other.result all in
          put_known known c.loop-name.values _ c.place_of-place.result name c.in-Some.value rest c.requires.apart at c.put.ensures (sym c.is_some-no_other.ensures ∙ both.1)
          ∙ ap (λ ms. completed known (map seen c.loop-name.values) ms) (sym step)
          ∙ c.loop-name.invariant.2 both.0,
    )

pub returns-clause-no_other : goal.returns-clause-no_other
returns-clause-no_other c =
    let done : c.loop-name.name-iterator ≡ [] = search rules in
    sym (c.loop-name.invariant.0 ∙ ap (λ es. c.loop-name.no_other && are_known c.args.known.now (members_view es)) done ∙ and_true c.loop-name.no_other)

pub returns-clause-values : goal.returns-clause-values
returns-clause-values c all =
    let known = c.args.known.now in
    let found = map seen c.loop-name.values in
    let done : c.loop-name.name-iterator ≡ [] = search rules in
    let none = c.loop-name.invariant.0 ∙ ap (λ es. c.loop-name.no_other && are_known known (members_view es)) done ∙ and_true c.loop-name.no_other in
    let few : length known ≤ length found = omega (arith, length-map c.loop-name.values seen, c.loop-name.invariant.1, c.requires.few) in
    sym (ended known found few) ∙ ap (λ es. completed known found (members_view es)) (sym done) ∙ c.loop-name.invariant.2 (sym none ∙ all)
