use Rattle.seq_cert.proofs.WordForms.{no_text}
use Rattle.seq_cert.proofs.words.is_name.Goals as goal

pub returns-in-Err : goal.returns-in-Err
returns-in-Err c = no_text c.args.word.now c.in-Err.ensures.cases.0
