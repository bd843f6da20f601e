use Rattle.std.proofs.Common.{ap₂}
use Rattle.seq_inst.proofs.LaneLaws.{shared_words, members-shared}
use Rattle.seq_inst.proofs.group.common.Goals as goal

pub returns : goal.returns
returns c =
    members-shared (record { 0 = shared_words c.lanes_of.result c.lanes_of-2.result }) c.args.a.now c.args.b.now c.lanes_of.ensures.words.eight c.lanes_of-2.ensures.words.eight
    (ap₂ shared_words c.lanes_of.ensures.lanes c.lanes_of-2.ensures.lanes)
