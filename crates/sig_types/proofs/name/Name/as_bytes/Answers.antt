use Rattle.std.proofs.Common.{take}
use Rattle.sig_types.proofs.NameLabels.{name_is_label}
use Rattle.sig_types.proofs.name.Name.as_bytes.Goals as goal

pub returns-clause-label : goal.returns-clause-label
returns-clause-label c = name_is_label (take c.self.inside.len c.self.inside.bytes) c.self.invariant.3
