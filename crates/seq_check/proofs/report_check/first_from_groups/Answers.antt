use Rattle.std.proofs.Common.{◌≡◌, ℕ, List, None, ap, sym, subst, ◌∙◌}
use Rattle.seq_inst.specs.Instances.{problem_of}
use Rattle.seq_cert.specs.declared.report.GroupLine.{GroupLine}
use Rattle.seq_check.specs.Looks.{first_bad}
use Rattle.seq_check.specs.GroupLooks.{claims_of, group_looks, missed_looks}
use Rattle.seq_check.specs.Listed.{AreLows}
use Rattle.seq_check.specs.Lines.{groups_at, missed_at, looks_from_groups}
use Rattle.seq_check.proofs.LookLaws.{stops, passes}
use Rattle.seq_check.proofs.report_check.first_from_groups.Goals as goal

pub returns-then-is_some : goal.returns-then-is_some
unfolding looks_from_groups
returns-then-is_some c =
    let p = problem_of c.args.inst.now in
    let r = c.args.report.now in
    let found : c.first_in_groups-bad.result ≡ first_bad (group_looks p (groups_at r) r.low (claims_of r.groups) None r.groups) =
    c.first_in_groups-bad.ensures ∙ ap (λ (ls : List GroupLine). first_bad (group_looks p c.args.places.groups r.low (claims_of ls) None ls)) c.as_slice-lines.ensures
    ∙ ap (λ (k : ℕ). first_bad (group_looks p k r.low (claims_of r.groups) None r.groups)) c.requires.groups in
    stops (group_looks p (groups_at r) r.low (claims_of r.groups) None r.groups) (missed_looks p (missed_at r) r.groups r.missed) c.first_in_groups-bad.result (sym c.if-is_some.ensures) found

pub returns : goal.returns
unfolding looks_from_groups
returns c =
    let p = problem_of c.args.inst.now in
    let r = c.args.report.now in
    let found : c.first_in_groups-bad.result ≡ first_bad (group_looks p (groups_at r) r.low (claims_of r.groups) None r.groups) =
    c.first_in_groups-bad.ensures ∙ ap (λ (ls : List GroupLine). first_bad (group_looks p c.args.places.groups r.low (claims_of ls) None ls)) c.as_slice-lines.ensures
    ∙ ap (λ (k : ℕ). first_bad (group_looks p k r.low (claims_of r.groups) None r.groups)) c.requires.groups in
    let lows : AreLows c.in_ok-listing.listing.lows r.groups = subst (λ (ls : List GroupLine). AreLows c.in_ok-listing.listing.lows ls) c.as_slice-lines.ensures c.in_ok-listing.ensures.lows in
    c.first_in_missed.ensures r.groups lows ∙ ap (λ (k : ℕ). first_bad (missed_looks p k r.groups r.missed)) c.requires.missed
    ∙ sym (passes (group_looks p (groups_at r) r.low (claims_of r.groups) None r.groups) (missed_looks p (missed_at r) r.groups r.missed) c.first_in_groups-bad.result (sym c.if-is_some.ensures) found)
