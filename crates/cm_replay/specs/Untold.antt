-- Why a report of a log isn't told to its end, and what is answered then.
use Rattle.std.specs.Prelude.{◌≡◌, ◌≢◌, ◌≤◌, ℕ, Result, Err}
use Rattle.cm_io.specs.Shelf.{Rose}
use Rattle.cm_base.specs.declared.status.Status.{Status}
use Rattle.cm_base.specs.declared.status.Status.TheVariants as answers
use Rattle.cm_replay.specs.declared.untold.Untold.{Untold}
use Rattle.cm_replay.specs.declared.untold.Untold.TheVariants as untold
use Rattle.cm_io.specs.declared.outside.Outside.{Outside}
use Rattle.cm_io.specs.declared.outside.Outside.TheVariants as outside

-- what the sink's error, or out of memory, is to a report
abbrev pub untold_by : Outside → Untold
untold_by outside.Failed = untold.WriteFault
untold_by outside.NoMemory = untold.NoMemory

-- the answer
abbrev pub status_by : Untold → Status
status_by untold.ReadFault = answers.ReadFault
status_by untold.WriteFault = answers.WriteFault
status_by untold.NoMemory = answers.NoMemory

-- the sink's count of faults before and after: only a write that failed raises it
pub record UntoldFaults {T : Type 0} (before now : ℕ) (r : Result T Untold) : Type 0 where
  pub later : before ≤ now
  pub failed : r ≡ Err untold.WriteFault → Rose before now
  pub others : r ≢ Err untold.WriteFault → now ≡ before
