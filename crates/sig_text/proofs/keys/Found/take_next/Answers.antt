use Rattle.sig_text.proofs.Found.{taken}
use Rattle.sig_text.proofs.keys.Found.take_next.Goals as goal

pub returns : goal.returns
returns c =
    let found = c.args.self.now in
    rw (c.take.ensures.value, c.take.ensures.after) (taken found.values found.next found.count c.index-self-place.result c.requires)
