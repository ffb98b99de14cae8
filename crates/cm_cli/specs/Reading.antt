-- What the files of a command come to, where the shelf tells what it holds, the counts of its faults, and what is
-- taken.
use Rattle.std.specs.Prelude.{◌≡◌, ◌≢◌, ◌⊎◌, ◌≤◌, ◌<◌, ℕ, Bool, IsTrue}
use Rattle.std.specs.Prelude.{length, List, [], ◌∷◌, Option, Some, IfSome, Result, Ok, Err, Vec}
use Rattle.std.specs.declared.alloc.Global.{Global}
use Rattle.cm_base.specs.Limited.{limit_number}
use Rattle.cm_base.specs.declared.limited.Limited.{Limited}
use Rattle.cm_base.specs.declared.limited.Limited.TheVariants as limit
use Rattle.cm_declared.specs.World.{world_of}
use Rattle.cm_declared.specs.declared.world.World as code
use Rattle.cm_cli.specs.Claims.{AfterReading, StandsIn}
pub use Rattle.cm_cli.specs.Files.{AnyRose, ApartFor, FilesFaults, IsFileOf, ReadsFiles, ReadsFor, TakesFor}
use Rattle.cm_cli.specs.declared.reading.Unread.{Unread}
use Rattle.cm_cli.specs.declared.reading.Unread.TheVariants as unread
use Rattle.cm_cli.specs.declared.reading.Unready.{Unready}
use Rattle.cm_cli.specs.declared.reading.Unready.TheVariants as unready
use Rattle.cm_io.specs.Shelf.{Files, bytes_at}
use Rattle.cm_io.specs.declared.whole.WholeError.{WholeError}
use Rattle.cm_io.specs.declared.whole.WholeError.TheVariants as whole
use Rattle.cm_report.specs.declared.short.Short.TheVariants as short
use Rattle.model_cred.specs.Process.{State}
use Rattle.model_cred.specs.World.{World}
use Rattle.model_report.specs.Command.{Command, files_of, query_of}
use Rattle.model_report.specs.Query.{Query}
use Rattle.model_strace.specs.Logs.{log_reading}
use Rattle.model_text.specs.WorldText.{WorldText, Reads, Bad, Exceeds, world_text}

-- the bytes of a world, within the limit, read so
pub record ReadsAs (bytes : List ℕ) (text : WorldText) : Type 0 where
  pub size : length bytes ≤ limit_number limit.World
  pub text_is : world_text bytes ≡ text

-- nothing in the bytes of a world is refused
abbrev pub WorldStands : List ℕ → Type 0
WorldStands bytes = (w : World) × ReadsAs bytes (Reads w)

-- the bytes of a world exceed the limit: their number does, or what they declare
abbrev pub WorldExceeds : List ℕ → Limited → Type 0
WorldExceeds bytes l = ((l ≡ limit.World) × (limit_number limit.World < length bytes)) ⊎ ReadsAs bytes (Exceeds l)

-- what the bytes of a world come to
abbrev pub IsWorldRead : Result code.World Unready → List ℕ → Type 0
IsWorldRead (Ok w) bytes = ReadsAs bytes (Reads (world_of w))
IsWorldRead (Err (unready.Refused (short.Limit l))) bytes = WorldExceeds bytes l
IsWorldRead (Err (unready.Refused (short.BadWorld table row why))) bytes = ReadsAs bytes (Bad table row why)
IsWorldRead (Err (unready.Refused short.Usage)) bytes = ⊥
IsWorldRead (Err unready.ReadFault) bytes = Unit {0}
IsWorldRead (Err unready.NoMemory) bytes = Unit {0}

-- what the bytes of a file with this limit come to
abbrev pub IsFileRead : Limited → Result (Vec ℕ Global) Unread → List ℕ → Type 0
IsFileRead limit (Ok text) bytes = (length bytes ≤ limit_number limit) × (text.items ≡ bytes)
IsFileRead limit (Err (unread.TooMuch l)) bytes = (l ≡ limit) × (limit_number limit < length bytes)
IsFileRead limit (Err unread.ReadFault) bytes = Unit {0}
IsFileRead limit (Err unread.NoMemory) bytes = Unit {0}

-- why a file was not read whole, within this limit
abbrev pub unread_by : WholeError → Limited → Unread
unread_by whole.Read limit = unread.ReadFault
unread_by whole.TooMuch limit = unread.TooMuch limit
unread_by whole.NoMemory limit = unread.NoMemory

-- the same of a world
abbrev pub unready_by : Unread → Unready
unready_by (unread.TooMuch l) = unready.Refused (short.Limit l)
unready_by unread.ReadFault = unready.ReadFault
unready_by unread.NoMemory = unready.NoMemory

-- ---- the order
-- the log isn't read where the world couldn't be, which its count of faults tells
abbrev pub LogUnread : (world log : List ℕ) (faults faults' reads reads' : List ℕ → ℕ) → Type 0
LogUnread world log faults faults' reads reads' = faults world < faults' world → reads' log ≡ reads log

-- nor, where it is told what the shelf holds, where the world doesn't stand
abbrev pub LogRefused : Option Files → (world log : List ℕ) (reads reads' : List ℕ → ℕ) → Type 0
LogRefused held world log reads reads' = IfSome held
    (λ files. ¬ WorldStands (bytes_at files world) → reads' log ≡ reads log)

-- both
pub record LogWaits (held : Option Files) (world log : List ℕ) (faults faults' reads reads' : List ℕ → ℕ) : Type 0 where
  pub unread : LogUnread world log faults faults' reads reads'
  pub refused : LogRefused held world log reads reads'

-- The texts of a world and a log: nothing in them is refused, and this holds of the world and of the state that they
-- lead to.
pub record LogStands (world log : List ℕ) (Holds : World → State → Type 0) : Type 0 where
  pub w : World
  pub reads : ReadsAs world (Reads w)
  pub after : AfterReading w (log_reading w log) (Holds w)

-- A third file isn't read where the world or the log couldn't be, which their counts of faults tell, and, where it is
-- told what the shelf holds, where anything in them is refused, or the query.
pub record ThirdWaits (held : Option Files) (q : Query) (world log third : List ℕ)
    (faults faults' reads reads' : List ℕ → ℕ)
    : Type 0 where
  pub no_world : faults world < faults' world → reads' third ≡ reads third
  pub no_log : faults log < faults' log → reads' third ≡ reads third
  pub refused : IfSome held (λ files.
      (LogStands (bytes_at files world) (bytes_at files log) (StandsIn q) → ⊥) → reads' third ≡ reads third)

-- The files of a command wait so, those that have names of their own. (That the log waits for a world which couldn't be
-- read is said beside a third file that the shelf counts: the faults of one that it doesn't may be counted under any
-- name.)
abbrev pub WaitFor : Option Files → (List ℕ → Bool) → Option Query → List (List ℕ × Limited)
    → (faults faults' reads reads' : List ℕ → ℕ)
    → Type 0
WaitFor held counted query (world ∷ log ∷ []) faults faults' reads reads' =
    world.0 ≢ log.0 → LogWaits held world.0 log.0 faults faults' reads reads'
WaitFor held counted (Some q) (world ∷ log ∷ third ∷ []) faults faults' reads reads' =
    (world.0 ≢ log.0 → LogRefused held world.0 log.0 reads reads')
    × (world.0 ≢ log.0 → world.0 ≢ third.0 → IsTrue (counted third.0)
    → LogUnread world.0 log.0 faults faults' reads reads')
    × (world.0 ≢ third.0 → log.0 ≢ third.0 → ThirdWaits held q world.0 log.0 third.0 faults faults' reads reads')
WaitFor held counted query _ faults faults' reads reads' = Unit {0}

-- the same of a command
abbrev pub ReadsInOrder : Option Files → (List ℕ → Bool) → Command → (faults faults' reads reads' : List ℕ → ℕ) → Type 0
ReadsInOrder held counted command faults faults' reads reads' =
    WaitFor held counted (query_of command) (files_of command) faults faults' reads reads'
