-- What is written before a fault of reading.
use Rattle.std.specs.Prelude.{◌≡◌, ◌≢◌, ◌⊎◌, ◌<◌, ℕ, Bool, true, false, IsTrue, List, [], ◌∷◌, ◌++◌, Option, IfSome}
use Rattle.cm_base.specs.declared.limited.Limited.{Limited}
use Rattle.cm_base.specs.declared.limited.Limited.TheVariants as limit
use Rattle.cm_base.specs.declared.status.Status.{Status}
use Rattle.cm_base.specs.declared.status.Status.TheVariants as answers
use Rattle.cm_cli.specs.Reading.{ReadsAs}
use Rattle.cm_io.specs.Shelf.{Files, bytes_at}
use Rattle.cm_io.specs.Sink.{then_written}
use Rattle.cm_replay.specs.Shown.{start_shown}
use Rattle.cm_replay.specs.Told.{TellsTaken, lines_report}
use Rattle.model_cred.specs.World.{World}
use Rattle.model_report.specs.Command.{Command, files_of, task_of}
use Rattle.model_report.specs.Replay.{text_of}
use Rattle.model_report.specs.Report.{shows, start_lines}
use Rattle.model_text.specs.WorldText.{Reads}

-- What is written holds the lines at the start of the replay in the world of these bytes, where that stands.
abbrev pub HoldsStart : List ℕ → (written written' : Option (List ℕ)) → Type 0
HoldsStart bytes written written' =
    (w : World) → ReadsAs bytes (Reads w)
    → (more : List ℕ) × (written' ≡ then_written written (text_of (start_lines w) ++ more))

-- What is written holds the lines at the start of a replay that is shown; nothing is written of one that isn't.
pub record HoldsShown (shows : Bool) (w : World) (written written' : Option (List ℕ)) : Type 0 where
  pub more : List ℕ
  pub holds : written' ≡ then_written written (text_of (start_shown shows w) ++ more)
  pub unshown : shows ≡ false → written' ≡ written

-- the count of this name rose
abbrev pub RoseAt : List ℕ → (before now : List ℕ → ℕ) → Type 0
RoseAt name before now = before name < now name

-- What is written before a fault of reading, of a command that names this world and this log: nothing where it was the
-- world's, and nothing where no replay is shown; the lines at the start, at the least, where it was the log's. Whose it
-- was its count tells, where the two have names of their own and the other one's is counted.
pub record WritesBefore (held : Option Files) (counted : List ℕ → Bool) (shows : Bool) (world log : List ℕ)
    (before now : List ℕ → ℕ) (written written' : Option (List ℕ))
    : Type 0 where
  pub of_world : world ≢ log → IsTrue (counted log) → RoseAt world before now → written' ≡ written
  pub unshown : shows ≡ false → written' ≡ written
  pub of_log : shows ≡ true → world ≢ log → IsTrue (counted world) → RoseAt log before now
      → IfSome held (λ files. HoldsStart (bytes_at files world) written written')
  pub either : shows ≡ true
      → IfSome held (λ files. (written' ≡ written) ⊎ HoldsStart (bytes_at files world) written written')

-- So it is of a command. (One that reads no file has no such fault.)
abbrev pub WritesBeforeFault : Option Files → (counted : List ℕ → Bool) → Command → Status → (before now : List ℕ → ℕ)
    → (written written' : Option (List ℕ)) → Type 0
WritesBeforeFault held counted command answer before now written written' =
    answer ≡ answers.ReadFault → (world log : List ℕ) (more : List (List ℕ × Limited))
    → files_of command ≡ (world, limit.World) ∷ (log, limit.Log) ∷ more
    → WritesBefore held counted (shows (task_of command (λ name. []))) world log before now written written'

-- ---- what is told of the lines before it
-- What is written has the lines at the start of the replay in the world of these bytes, where that stands, and then all
-- that is told of the whole lines among the bytes of the log that were taken.
abbrev pub HoldsLines : (world log : List ℕ) → (taken taken' : ℕ) → (written written' : Option (List ℕ)) → Type 0
HoldsLines world log taken taken' written written' =
    (w : World) → ReadsAs world (Reads w)
    → TellsTaken true (lines_report true w) log taken taken' (text_of (start_lines w)) written written'

-- So it is at a fault of reading the log, where a replay is shown.
abbrev pub WritesLines : Option Files → (counted : List ℕ → Bool) → Command → Status → (before now taken taken' : List ℕ → ℕ)
    → (written written' : Option (List ℕ)) → Type 0
WritesLines held counted command answer before now taken taken' written written' =
    answer ≡ answers.ReadFault → (world log : List ℕ) (more : List (List ℕ × Limited))
    → files_of command ≡ (world, limit.World) ∷ (log, limit.Log) ∷ more
    → shows (task_of command (λ name. [])) ≡ true → world ≢ log → IsTrue (counted world) → RoseAt log before now
    → IfSome held (λ files. HoldsLines (bytes_at files world) (bytes_at files log) (taken log) (taken' log) written written')
