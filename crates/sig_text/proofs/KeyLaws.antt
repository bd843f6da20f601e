-- The keys of a table, and those of the data that it stands for.
use Rattle.std.proofs.Common.{◌≡◌, List, [], ◌∷◌, string_bytes, refl, ap}
use Rattle.std.specs.Map.{keys_of}
use Rattle.std.specs.List.{list_all}
use Rattle.std.specs.Prelude.{◌&&◌}
use Rattle.toml.specs.View.{members_view}
use Rattle.toml.proofs.Views.{Entry}
use Rattle.sig_types.specs.declared.refusals.Key.{Key}
use Rattle.sig_text.specs.Keys.{is_known, are_known}

pub by_names : (known : List Key) (es : List Entry) → are_known known (members_view es) ≡ list_all (λ k. is_known known (string_bytes k)) (keys_of es)
by_names known [] = refl
by_names known (e ∷ es) = ap (λ b. is_known known (string_bytes e.0) && b) (by_names known es)
