-- A replay that is shown, or isn't.
use Rattle.std.specs.Prelude.{Bool, true, false, List, []}
use Rattle.model_cred.specs.World.{World}
use Rattle.model_report.specs.Replay.{Report, ReportLine, plain_lines, silent}
use Rattle.model_report.specs.Report.{start_lines}

-- a report whose replay is shown, or isn't
abbrev pub shown_report : Bool → Report → Report
shown_report true r = r
shown_report false r = silent r

-- lines of a replay that is shown, or isn't
abbrev pub shown_lines : Bool → List ReportLine → List ReportLine
shown_lines true lines = lines
shown_lines false lines = plain_lines lines

-- the credential lines at the start of a replay that is shown; none of one that isn't
abbrev pub start_shown : Bool → World → List ReportLine
start_shown true w = start_lines w
start_shown false w = []
