-- The name of no words, which a call at the marker replaces.
use Rattle.std.specs.Prelude.{[]}
use Rattle.seq_words.specs.Seats.{Wording}

abbrev pub no_words : Wording
no_words = record { table = record { words = 0; slots = 0; views_name = 0; atom = 0; block = 0; offset = 0; slot_names = [] }; told = record { weights = []; costs = []; passes = [] }; limit = 0 }
