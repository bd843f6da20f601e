-- Looks at the groups that a report lists, and at the one that was missed.
use Rattle.std.specs.Prelude.{ℕ, ◌+◌, Bool, true, not, ◌&&◌, ◌||◌, nat_eq, nat_le, nat_lt, max, List, [], ◌∷◌, ◌++◌, length, map, Option, Some, None}
use Rattle.std.specs.List.{list_any, list_all}
use Rattle.seq_theory.specs.Problem.{Problem, all_classes, splitting, is_end, least_of}
use Rattle.seq_theory.specs.Bound.{bound, step_sum}
use Rattle.seq_theory.specs.Graph.{same_group}
use Rattle.seq_theory.specs.Claims.{Claim, claimed}
use Rattle.seq_inst.specs.Members.{members}
use Rattle.seq_inst.specs.declared.group.Group.{Group}
use Rattle.seq_cert.specs.declared.fault.BadCode.TheVariants.{C06, C07, C08, C09}
use Rattle.seq_cert.specs.declared.report.GroupLine.{GroupLine}
use Rattle.seq_cert.specs.declared.report.MissedLine.{MissedLine}
use Rattle.seq_cert.specs.Order.{is_before}
use Rattle.seq_check.specs.Looks.{Look, look}

-- the claims of the group lines
abbrev pub claim_at : GroupLine → Claim
claim_at line = record { group = members line.group; low = line.low }

abbrev pub claims_of : List GroupLine → List Claim
claims_of lines = map claim_at lines

-- whether the group has so many classes, two goals or more, and only classes that are there
abbrev pub is_sized : Problem → ℕ → Group → Bool
is_sized p size group = nat_eq size (length (members group)) && (not (is_end p (members group)) && list_all (λ c. nat_lt c p.classes) (members group))

-- whether a group line comes after the one before it, if there is one
abbrev pub comes_after : Option GroupLine → GroupLine → Bool
comes_after None line = true
comes_after (Some before) line = is_before before line

-- the most that may be claimed of a group beside the other claims: its bound, or the least sum over the splitting tests
-- of what both parts count
abbrev pub most_claimed : Problem → List Claim → List ℕ → ℕ
most_claimed p claims group = max (bound p group) (least_of (map (step_sum p (claimed p claims) group) (splitting p group)))

-- whether the group is that of all classes, with this low; of one goal nothing is asked
abbrev pub is_root : Problem → ℕ → GroupLine → Bool
is_root p low line = is_end p (all_classes p) || (same_group (members line.group) (all_classes p) && nat_eq line.low low)

abbrev pub root_looks : Problem → ℕ → ℕ → GroupLine → List GroupLine → List Look
root_looks p n low line [] = look n C08 (is_root p low line) ∷ []
root_looks p n low line (next ∷ lines) = []

-- a group line, with the one before it, those behind it and all claims
unfoldable pub group_look : Problem → ℕ → ℕ → List Claim → Option GroupLine → GroupLine → List GroupLine → List Look
group_look p n low claims before line lines =
    look n C06 (is_sized p line.size line.group && comes_after before line)
    ∷ look n C07 (nat_le line.low (most_claimed p claims (members line.group)))
    ∷ root_looks p n low line lines

-- group lines, from a line on
abbrev pub group_looks : Problem → ℕ → ℕ → List Claim → Option GroupLine → List GroupLine → List Look
group_looks p n low claims before [] = []
group_looks p n low claims before (line ∷ lines) = group_look p n low claims before line lines ++ group_looks p (n + 1) low claims (Some line) lines

-- whether the group is listed
abbrev pub is_listed : List GroupLine → Group → Bool
is_listed lines group = list_any (λ (line : GroupLine). same_group (members group) (members line.group)) lines

-- the missed group is none of those listed
unfoldable pub missed_looks : Problem → ℕ → List GroupLine → Option MissedLine → List Look
missed_looks p n lines None = []
missed_looks p n lines (Some missed) = look n C09 (is_sized p missed.size missed.group && not (is_listed lines missed.group)) ∷ []
