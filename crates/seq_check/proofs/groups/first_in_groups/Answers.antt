use Rattle.std.proofs.Common.{◌≡◌, ℕ, ◌+◌, ◌-◌, [], List, length, length-drop, take, drop, get_or, ap, sym, ◌∙◌, arith}
use Rattle.std.proofs.lemmas.List.{take_all}
use Rattle.seq_inst.specs.Instances.{problem_of}
use Rattle.seq_cert.specs.declared.report.GroupLine.{GroupLine}
use Rattle.seq_check.specs.Looks.{first_bad}
use Rattle.seq_check.specs.GroupLooks.{claims_of, group_look}
use Rattle.seq_check.proofs.GroupLines.{group_stops, groups_go_on}
use Rattle.seq_check.proofs.groups.first_in_groups.Goals as goal

no_line : GroupLine
no_line = record { size = 0; group = record { 0 = [] }; low = 0 }

-- the lines from a place on, as a slice to the end
behind : (i : ℕ) (lines : List GroupLine) → take (length lines - i) (drop i lines) ≡ drop i lines
behind i lines = let e = length-drop i lines in take_all (length lines - i) (drop i lines) (omega arith)

pub returns-then-is_some : goal.returns-then-is_some
unfolding no_line
returns-then-is_some c =
    let p = problem_of c.args.inst.now in
    let lines = c.args.lines.now in
    let i = c.loop-at.at in
    let found = c.first_in_group-bad.ensures lines c.requires.listing
    ∙ ap (λ (l : List GroupLine). first_bad (group_look p (c.args.line + i) c.args.low (claims_of lines) c.loop-at.before (get_or lines i no_line) l)) (behind (i + 1) lines) in
    group_stops p c.args.low (claims_of lines) c.args.line i c.loop-at.before lines no_line c.loop-at-test.true c.first_in_group-bad.result (sym c.if-is_some.ensures) found c.loop-at.invariant

pub loop-at-preserved : goal.loop-at-preserved
unfolding no_line
loop-at-preserved c =
    let p = problem_of c.args.inst.now in
    let lines = c.args.lines.now in
    let i = c.loop-at.at in
    let found = c.first_in_group-bad.ensures lines c.requires.listing
    ∙ ap (λ (l : List GroupLine). first_bad (group_look p (c.args.line + i) c.args.low (claims_of lines) c.loop-at.before (get_or lines i no_line) l)) (behind (i + 1) lines) in
    groups_go_on p c.args.low (claims_of lines) c.args.line i c.loop-at.before lines no_line c.loop-at-test.true c.first_in_group-bad.result (sym c.if-is_some.ensures) found c.loop-at.invariant
