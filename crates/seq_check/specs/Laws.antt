-- What is proved of a report without a bad line.
use Rattle.seq_theory.specs.Problem.{Problem, IsWeighed, AreTold}
use Rattle.sig_lines.specs.declared.labels.Labels.{Labels}
use Rattle.seq_cert.specs.declared.report.Report.{Report}
use Rattle.seq_check.specs.Shown.{IsCertified, Shows}

-- a report none of whose lines is bad shows what it says of the problem
abbrev pub CertifiedHolds : Type 0
CertifiedHolds = (p : Problem) (labels : Labels) (r : Report) → IsWeighed p → AreTold p → IsCertified p labels r → Shows p r
