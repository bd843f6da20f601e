use Rattle.std.proofs.Common.{refl, arith}
use Rattle.sig_matrix.specs.Detection.{system_of}
use Rattle.sig_classes.proofs.instance.instance_of.Goals as goal

pub returns-then-len-gt-MOST_CLASSES-clause-many : goal.returns-then-len-gt-MOST_CLASSES-clause-many
returns-then-len-gt-MOST_CLASSES-clause-many c = let many = c.requires.classes.as_many in (omega arith, refl)

pub instance_of_few-requires-clause-few : goal.instance_of_few-requires-clause-few
instance_of_few-requires-clause-few c = let many = c.requires.classes.as_many in omega arith

pub returns-in-Err-clause-many : goal.returns-in-Err-clause-many
returns-in-Err-clause-many c = let many = c.requires.classes.as_many in omega arith
