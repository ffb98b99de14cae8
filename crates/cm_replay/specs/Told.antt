-- What is told of the lines of a log before its end is known.
use Rattle.std.specs.Prelude.{◌≡◌, ◌≤◌, ℕ, ◌+◌, Bool, List, ◌++◌, take, Option, Some}
use Rattle.cm_io.specs.Sink.{then_written}
use Rattle.cm_io.specs.WholeLines.{after_lines, whole_lines}
use Rattle.cm_lines.specs.Cut.{ends_by}
use Rattle.cm_lines.specs.declared.limits.Past.TheVariants.{Line}
use Rattle.cm_log.specs.Left.{left}
use Rattle.cm_log.specs.declared.log.Log.{Log}
use Rattle.cm_replay.specs.Replay.{report_from}
use Rattle.cm_replay.specs.Shown.{shown_report}
use Rattle.cm_replay.specs.declared.replay.Replay.{Replay}
use Rattle.model_cred.specs.World.{World}
use Rattle.model_report.specs.Replay.{Report, by_end, text_of}
use Rattle.model_report.specs.Report.{replay_of}
use Rattle.model_strace.specs.Logs.{form_of_cut}
use Rattle.model_text.specs.Reading.{End, Reading}

-- What a log reads as that has these lines, and after them one that is too long: so nothing is read but what they tell.
abbrev pub read_of_lines : World → List (List ℕ) → Reading
read_of_lines w lines = form_of_cut w.form w (after_lines lines (ends_by (Some Line)))

-- The text is that of a report but for the line that ends it.
pub record IsBeforeEnd (shows : Bool) (text : List ℕ) (r : Report) : Type 0 where
  pub count : ℕ
  pub ending : End
  pub parts : text_of r.lines ≡ text ++ text_of (shown_report shows (by_end count ending)).lines

-- What is told of lines, in a world from its start: the report of a log of them.
abbrev pub lines_report : Bool → World → List (List ℕ) → Report
lines_report shows w lines = shown_report shows (replay_of w (read_of_lines w lines))

-- The same from where a replay stands, and a log.
abbrev pub report_of_lines : World → Replay → Log → List (List ℕ) → Report
report_of_lines w replay log lines = report_from w replay (left w log (after_lines lines (ends_by (Some Line))))

-- Of a log that has these bytes so many were taken at most. What is written has this text first, and then all that is
-- told of the whole lines among the bytes that were taken: their report, but for the line that ends it.
pub record TellsTaken (shows : Bool) (report : List (List ℕ) → Report) (bytes : List ℕ) (taken taken' : ℕ) (first : List ℕ)
    (written written' : Option (List ℕ)) : Type 0 where
  pub seen : ℕ
  pub all : taken' ≤ taken + seen
  pub text : List ℕ
  pub tells : IsBeforeEnd shows text (report (whole_lines (take seen bytes)))
  pub holds : written' ≡ then_written written (first ++ text)
