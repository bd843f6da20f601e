use Rattle.std.proofs.Common.{◌≡◌, ◌&&◌, true, length, map}
use Rattle.toml.specs.View.{members_view}
use Rattle.sig_text.specs.Keys.{are_known, values_at}
use Rattle.sig_text.proofs.Found.{completed, seen}
use Rattle.sig_text.proofs.keys.found_in.Given as goal

-- whether another key was seen, and what was found so far, completed by the entries that are left
abbrev pub invariant-loop-name : goal.invariant-loop-name
invariant-loop-name l =
    (are_known l.known (members_view l.fn.table.entries) ≡ (l.no_other && are_known l.known (members_view l.name-iterator)))
    × (length l.values ≡ 7)
    × (l.no_other ≡ true → completed l.known (map seen l.values) (members_view l.name-iterator) ≡ values_at l.known (members_view l.fn.table.entries))
