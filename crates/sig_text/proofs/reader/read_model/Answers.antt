use Rattle.std.proofs.Common.{◌≡◌, None, refl}
use Rattle.std.proofs.lemmas.Bool.{false≢true}
use Rattle.toml.specs.View.{table_view}
use Rattle.sig_text.specs.Document.{document_of}
use Rattle.sig_text.proofs.Documents.{document_of-some, document_of-none}
use Rattle.sig_text.proofs.Answered.{stands_for, tells_first}
use Rattle.sig_text.proofs.reader.read_model.Goals as goal

pub returns-in-Ok-clause-model : goal.returns-in-Ok-clause-model
returns-in-Ok-clause-model c =
    let found = document_of-some c.args.bytes.now _ c.in-Ok.ensures.ok.0 c.in-Ok.ensures.ok.1 in
    stands_for c.args.bytes.now (table_view c.in-Ok.table) c.document_in.result found c.document_in.ensures

pub returns-in-Ok-clause-refused : goal.returns-in-Ok-clause-refused
returns-in-Ok-clause-refused c =
    let found = document_of-some c.args.bytes.now _ c.in-Ok.ensures.ok.0 c.in-Ok.ensures.ok.1 in
    tells_first c.args.bytes.now (table_view c.in-Ok.table) c.document_in.result found c.document_in.ensures

pub returns-else-is_memory-clause-refused : goal.returns-else-is_memory-clause-refused
returns-else-is_memory-clause-refused c =
    let none : document_of c.args.bytes.now ≡ None =
    document_of-none c.args.bytes.now (c.in-Err.ensures.refused (λ memory. false≢true (c.if-is_memory.ensures.1 memory))) in
    rw (none, c.refuse.ensures) refl
