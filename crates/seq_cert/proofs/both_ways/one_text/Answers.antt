use Rattle.seq_cert.proofs.BodyLaws.{report_one}
use Rattle.seq_cert.proofs.Ends.{is_told, has_no_bad}
use Rattle.seq_cert.proofs.PlaceLaws.{stops_once}
use Rattle.seq_cert.proofs.both_ways.one_text.Goals as goal

pub returns-clause-told : goal.returns-clause-told
returns-clause-told c = is_told c.lines_hold.ensures

pub returns-clause-no_bad : goal.returns-clause-no_bad
returns-clause-no_bad c = has_no_bad c.lines_hold.ensures

pub returns-clause-first : goal.returns-clause-first
returns-clause-first c = stops_once

pub returns-clause-one : goal.returns-clause-one
returns-clause-one c = report_one c.lines_hold.ensures
