use Rattle.seq_words.proofs.CoreEvents.{publishing, raising, lowering, writing}
use Rattle.seq_words.proofs.laws.steps_are_events.Goals as goal

pub returns-clause-publishing : goal.returns-clause-publishing
returns-clause-publishing c = publishing

pub returns-clause-raising : goal.returns-clause-raising
returns-clause-raising c = raising

pub returns-clause-lowering : goal.returns-clause-lowering
returns-clause-lowering c = lowering

pub returns-clause-writing : goal.returns-clause-writing
returns-clause-writing c = writing
