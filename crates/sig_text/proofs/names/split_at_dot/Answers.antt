use Rattle.std.proofs.Common.{lit<}
use Rattle.std.proofs.lemmas.Str.Pattern.{split_once_first}
use Rattle.sig_text.proofs.Ends.{parts_of}
use Rattle.sig_text.proofs.names.split_at_dot.Goals as goal

pub returns : goal.returns
returns c = parts_of c.args.text.now c.split_once.result (split_once_first 46 c.args.text.now c.split_once.result c.split_once.ensures.cases (lit< tt))
