-- What a command that tells a report owes: its status, what is written, and the count of the sink's faults.
use Rattle.std.specs.Prelude.{◌≡◌, ◌≢◌, ◌≤◌, ℕ, List, Option}
use Rattle.cm_base.specs.declared.status.Status.{Status}
use Rattle.cm_base.specs.declared.status.Status.TheVariants as answers
use Rattle.cm_io.specs.Shelf.{Rose}
use Rattle.cm_io.specs.declared.outside.Outside.{Outside}
use Rattle.cm_io.specs.declared.outside.Outside.TheVariants as outside
use Rattle.cm_io.specs.Sink.{then_written}
use Rattle.cm_report.specs.Sent.{IsFront}
use Rattle.cm_report.specs.declared.short.Short.{Short}
use Rattle.cm_report.specs.declared.short.Short.TheVariants as short
use Rattle.model_report.specs.Replay.{Report, text_of, says, limit_hit}
use Rattle.model_report.specs.Report.{usage, bad_world_text}

-- The status is that of a report: neither a fault of reading or writing, nor out of memory.
pub record IsOfReport (answer : Status) : Type 0 where
  pub not_read_fault : answer ≢ answers.ReadFault
  pub not_write_fault : answer ≢ answers.WriteFault
  pub not_memory : answer ≢ answers.NoMemory

-- the sink's count of faults before and after a command: with `WriteFault` it rose, with any other answer it didn't change
pub record CountsWrites (answer : Status) (before now : ℕ) : Type 0 where
  pub fault : answer ≡ answers.WriteFault → Rose before now
  pub later : before ≤ now
  pub stay : answer ≢ answers.WriteFault → now ≡ before

-- The answer tells the report: with its status all of its text is written, with any other a front of it.
pub record TellsReport (r : Report) (answer : Status) (written written' : Option (List ℕ)) (faults faults' : ℕ) : Type 0 where
  pub status : IsOfReport answer → answer ≡ r.status
  pub text : IsOfReport answer → written' ≡ then_written written (text_of r.lines)
  pub front : IsFront written written' (text_of r.lines)
  pub never_read_fault : answer ≢ answers.ReadFault
  pub counts : CountsWrites answer faults faults'

-- the reports of one piece
abbrev pub short_report : Short → Report
short_report short.Usage = usage
short_report (short.BadWorld table row why) = says answers.BadWorld (bad_world_text table row why)
short_report (short.Limit limit) = limit_hit limit

-- the answer where the sink failed, or memory was wanting
abbrev pub stopped_by : Outside → Status
stopped_by outside.Failed = answers.WriteFault
stopped_by outside.NoMemory = answers.NoMemory
