use Rattle.sig_classes.proofs.PassingLaws.{adds_to}
use Rattle.sig_classes.proofs.instance.add_to.Goals as goal

pub returns : goal.returns
returns c = adds_to c.args.group.now c.args.class c.requires.words c.requires.class
