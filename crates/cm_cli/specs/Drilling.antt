-- What a drill tells, and the verdict on its last state.
use Rattle.std.specs.Prelude.{ℕ, codes, List, [], ◌∷◌, ◌++◌}
use Rattle.cm_audit.specs.Told.{told}
use Rattle.cm_drill.specs.declared.telling.Drilled as code
use Rattle.model_drill.specs.Drill.{drilled}
use Rattle.model_report.specs.Given.{DrillGives}
use Rattle.model_report.specs.Judged.{Judged}
use Rattle.model_report.specs.Replay.{Report, ReportLine, Plain, at_line}
use Rattle.model_report.specs.Report.{drill_report, verdict_word}

-- the report of the drill of n, with what is judged
abbrev pub drill_of : ℕ → Judged → Report
drill_of n j = drill_report (drilled n) j.verdict

-- it is given so
abbrev pub GivesDrill : ℕ → Judged → Type 0
GivesDrill n j = DrillGives (drilled n) j

-- the lines of what the code tells of a drill
abbrev pub drilled_lines : code.Drilled → List ReportLine
drilled_lines d =
    Plain (at_line (codes "events ") d.events)
    ∷ Plain (at_line (codes "refused ") d.refused)
    ∷ Plain (at_line (codes "live ") d.live)
    ∷ Plain (at_line (codes "spaces ") d.spaces)
    ∷ Plain (codes "verdict " ++ verdict_word (told d.verdict)) ∷ []
