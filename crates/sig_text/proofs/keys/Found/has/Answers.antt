use Rattle.std.proofs.Common.{◌∙◌}
use Rattle.sig_text.proofs.Found.{has_at}
use Rattle.sig_text.proofs.keys.Found.has.Goals as goal

pub returns : goal.returns
returns c =
    let found = c.args.self.now in
    c.is_some.ensures ∙ has_at found.values c.args.place found.next found.count c.index-self-place.result c.requires.whole c.requires.left
