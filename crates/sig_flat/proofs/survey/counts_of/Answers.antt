use Rattle.std.proofs.Common.{◌≡◌, ◌-◌, List, get_or, subst, sym, ap, ◌∙◌}
use Rattle.sig_flat.specs.declared.counts.Counts.{Counts}
use Rattle.sig_flat.specs.Instances.{uses}
use Rattle.sig_flat.specs.Sizes.{in_word, size}
use Rattle.sig_flat.specs.Counting.{no_counts}
use Rattle.sig_flat.specs.Surveys.{top_of, numbers_of, ones_of_blocks, AreCounts, CountsAre}
use Rattle.sig_flat.proofs.CountLaws.{top-there, instances-counted, links-counted, all-faults, all-tests, all-nodes, depth-is}
use Rattle.sig_flat.proofs.survey.counts_of.Goals as goal

pub returns : goal.returns
returns c =
    let same : get_or c.as_slice-counts.result.now c.args.survey.now.top no_counts ≡ get_or c.args.survey.now.counts.items (top_of c.args.valid.now) no_counts =
    ap (λ (l : List Counts). get_or l c.args.survey.now.top no_counts) c.as_slice-counts.ensures.value ∙ ap (λ k. get_or c.args.survey.now.counts.items k no_counts) c.requires.survey.top in
    let at : AreCounts c.args.valid.now (top_of c.args.valid.now) (get_or c.args.survey.now.counts.items (top_of c.args.valid.now) no_counts) =
    c.requires.survey.counts (top_of c.args.valid.now) (top-there c.args.valid.now c.requires.known) in
    let fewer : size (ones_of_blocks c.args.valid.now) (numbers_of c.args.valid.now) (top_of c.args.valid.now) - 1 ≡ uses c.args.valid.now = ap (λ n. n - 1) (sym (instances-counted c.args.valid.now c.requires.known)) in
    subst (CountsAre c.args.valid.now) (sym same) (record {
      depth = at.depth ∙ ap in_word (sym (depth-is c.args.valid.now c.requires.known));
      uses = at.uses ∙ ap in_word fewer;
      nodes = at.nodes ∙ ap in_word (sym (all-nodes c.args.valid.now c.requires.known));
      links = at.links ∙ ap in_word (sym (links-counted c.args.valid.now c.requires.known));
      faults = at.faults ∙ ap in_word (sym (all-faults c.args.valid.now c.requires.known));
      tests = at.tests ∙ ap in_word (sym (all-tests c.args.valid.now c.requires.known));
    })
