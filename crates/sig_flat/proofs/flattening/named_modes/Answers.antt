use Rattle.std.proofs.Common.{◌≡◌, ◌<◌, ◌+◌, ◌++◌, [], ◌∷◌, true, ℕ, List, length, take, ap, sym, ◌∙◌, arith, subst, add-one}
use Rattle.std.proofs.Math.Seq.{take-suc}
use Rattle.std.proofs.lemmas.List.{take_all, get_or_default}
use Rattle.sig_types.specs.NameText.{is_name}
use Rattle.sig_flat.specs.Known.{AreNames}
use Rattle.sig_flat.proofs.WalkLaws.{fits-more}
use Rattle.sig_flat.proofs.flattening.named_modes.Goals as goal

pub loop-mode-preserved : goal.loop-mode-preserved
loop-mode-preserved c =
    let lt : c.loop-mode.mode-index < length c.args.modes.now = omega arith in
    let pushed : c.push.new.self ≡ c.loop-mode.kept ++ c.named.result ∷ [] = c.in_ok-push.ensures.ok in
    let next : take (c.loop-mode.mode-index + 1) c.args.modes.now ≡ take c.loop-mode.mode-index c.args.modes.now ++ c.named.result ∷ [] =
    rw add-one (take-suc c.args.modes.now c.loop-mode.mode-index c.named.result lt ∙ ap (λ (m : List ℕ). take c.loop-mode.mode-index c.args.modes.now ++ m ∷ []) (sym (c.named.ensures.same ∙ c.mode-item.is ∙ get_or_default c.args.modes.now c.loop-mode.mode-index c.mode-item.result c.named.result lt))) in (
      pushed ∙ ap (λ l. l ++ c.named.result ∷ []) c.loop-mode.invariant.0 ∙ sym next,
      subst AreNames (sym pushed) (fits-more (λ n. is_name n ≡ true) c.loop-mode.kept c.named.result c.loop-mode.invariant.1 c.named.ensures.name),
    )

pub returns : goal.returns
returns c =
    let all : take c.loop-mode.mode-index c.args.modes.now ≡ c.args.modes.now = take_all c.loop-mode.mode-index c.args.modes.now (omega arith) in
    record { same = c.loop-mode.invariant.0 ∙ all; names = c.loop-mode.invariant.1 }
