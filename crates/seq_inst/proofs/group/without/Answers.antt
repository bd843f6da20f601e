use Rattle.std.proofs.Common.{ap₂}
use Rattle.seq_inst.proofs.LaneLaws.{lacked_words, members-lacked}
use Rattle.seq_inst.proofs.group.without.Goals as goal

pub returns : goal.returns
returns c =
    members-lacked (record { 0 = lacked_words c.lanes_of-all.result c.lanes_of.result }) c.args.a.now c.args.b.now c.lanes_of-all.ensures.words.eight c.lanes_of.ensures.words.eight
    (ap₂ lacked_words c.lanes_of-all.ensures.lanes c.lanes_of.ensures.lanes)
