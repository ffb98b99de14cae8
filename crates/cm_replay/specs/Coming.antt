-- What a replay of a log comes to while the log comes: what it writes, and what is told of it.
use Rattle.std.specs.Prelude.{◌≡◌, ◌≤◌, ◌+◌, ℕ, Bool, false, length, List, ◌++◌, Option, Result, Ok, Err}
use Rattle.cm_base.specs.Limited.{limit_number}
use Rattle.cm_base.specs.declared.limited.Limited.TheVariants as limit
use Rattle.cm_base.specs.declared.status.Status.{Status}
use Rattle.cm_base.specs.declared.status.Status.TheVariants as answers
use Rattle.cm_io.specs.Cutter.{Cutting, begun}
use Rattle.cm_io.specs.Sink.{then_written}
use Rattle.cm_log.specs.Counts.{events_due, lines_read}
use Rattle.cm_log.specs.declared.log.Log.{Log}
use Rattle.cm_machine.specs.declared.machine.Machine.{Machine}
use Rattle.cm_replay.specs.Following.{EndsAs, IsCutOff, IsReady, Outgoing}
use Rattle.cm_replay.specs.declared.replay.Replay.{Replay}
use Rattle.cm_replay.specs.declared.untold.Untold.{Untold}
use Rattle.cm_replay.specs.declared.untold.Untold.TheVariants as untold
use Rattle.cm_report.specs.Sent.{IsSent}
use Rattle.model_cred.specs.Process.{State}
use Rattle.model_cred.specs.World.{World}
use Rattle.model_report.specs.Replay.{IsWithin}
use Rattle.model_text.specs.Reading.{Reading}

-- Of what waited before and more a front is written, and the rest waits; there is no more where the replay isn't shown.
pub record SendsMore (shows : Bool) (written written' : Option (List ℕ)) (waits waits' : List ℕ) : Type 0 where
  pub more : List ℕ
  pub sent : IsSent written written' waits' (waits ++ more)
  pub unshown : shows ≡ false → waits ++ more ≡ waits

-- All that waited before and more is written; there is no more where the replay isn't shown.
pub record SendsAll (shows : Bool) (written written' : Option (List ℕ)) (waits : List ℕ) : Type 0 where
  pub more : List ℕ
  pub sent : written' ≡ then_written written (waits ++ more)
  pub unshown : shows ≡ false → waits ++ more ≡ waits

-- After an accepted log, and at a fault of its reading, what is written goes on from what waited.
abbrev pub Sends : Bool → (written written' : Option (List ℕ)) (waits waits' : List ℕ) → Result (Status × Machine) Untold → Type 0
Sends shows written written' waits waits' (Ok ended) = ended.0 ≡ answers.Accepted → SendsMore shows written written' waits waits'
Sends shows written written' waits waits' (Err untold.ReadFault) = SendsAll shows written written' waits
Sends shows written written' waits waits' (Err untold.WriteFault) = Unit {0}
Sends shows written written' waits waits' (Err untold.NoMemory) = Unit {0}

-- the same of a status alone
abbrev pub SendsBy : Bool → (written written' : Option (List ℕ)) (waits waits' : List ℕ) → Result Status Untold → Type 0
SendsBy shows written written' waits waits' (Ok st) = st ≡ answers.Accepted → SendsMore shows written written' waits waits'
SendsBy shows written written' waits waits' (Err untold.ReadFault) = SendsAll shows written written' waits
SendsBy shows written written' waits waits' (Err untold.WriteFault) = Unit {0}
SendsBy shows written written' waits waits' (Err untold.NoMemory) = Unit {0}

-- The report of what was to be read ends with this status; or a front of it is sent.
abbrev pub ComesTo : World → Replay → Replay → Outgoing → Outgoing → Result Status Untold → Reading → Type 0
ComesTo w from to old new (Ok st) reading = EndsAs w from to old new st reading
ComesTo w from to old new (Err why) reading = IsCutOff w from old new reading

-- No line has come: the replay and the log are before the first one, and the cutter before the first byte of the file.
pub record Begins (w : World) (name : List ℕ) (replay : Replay) (log : Log) (cutter : Cutting) : Type 0 where
  pub ready : IsReady w replay log
  pub lines : lines_read log ≡ 0
  pub events : replay.events + events_due log ≡ 0
  pub cut : cutter ≡ begun name (limit_number limit.Line) (limit_number limit.Log)

-- Within the limits, and no user namespace went.
pub record KeepsSpaces (from to : State) : Type 0 where
  pub within : IsWithin to
  pub spaces : length from.spaces ≤ length to.spaces

-- so it is at an accepted end
abbrev pub KeepsAtEnd : Replay → Replay → Result Status Untold → Type 0
KeepsAtEnd from to (Ok st) = st ≡ answers.Accepted → KeepsSpaces from.machine.state to.machine.state
KeepsAtEnd from to (Err why) = Unit {0}

-- the answers that the replay of a log may have
abbrev pub IsReplayAnswer : Status → Type 0
IsReplayAnswer answers.Accepted = Unit {0}
IsReplayAnswer answers.Impossible = Unit {0}
IsReplayAnswer answers.BadLog = Unit {0}
IsReplayAnswer answers.Limit = Unit {0}
IsReplayAnswer _ = ⊥
