use Rattle.std.proofs.Common.{length, ap, ◌∙◌}
use Rattle.sig_flat.proofs.PatternLaws.{length-node_patterns}
use Rattle.sig_flat.proofs.pattern.pattern_of_block.Goals as goal

pub faults_of-requires-clause-nodes : goal.faults_of-requires-clause-nodes
faults_of-requires-clause-nodes c = c.len.ensures ∙ ap length c.in_ok-nodes.ensures ∙ length-node_patterns c.args.valid.now.signals c.args.block.now

pub tests_of-requires-clause-nodes : goal.tests_of-requires-clause-nodes
tests_of-requires-clause-nodes c = c.len-2.ensures ∙ ap length c.in_ok-nodes.ensures ∙ length-node_patterns c.args.valid.now.signals c.args.block.now
