-- Which reads fail while the report of a log is told, and which file isn't read.
use Rattle.std.specs.Prelude.{◌≡◌, ◌≢◌, ◌⊎◌, ℕ, List}
use Rattle.cm_cli.specs.Claims.{ClaimStandsAfter}
use Rattle.cm_cli.specs.Files.{AnyRose}
use Rattle.cm_cli.specs.Query.{file_of}
use Rattle.cm_cli.specs.declared.query.Task.{Task}
use Rattle.cm_io.specs.Shelf.{Rose}
use Rattle.model_cred.specs.World.{World}
use Rattle.model_strace.specs.Logs.{log_reading}

-- The count of the log rose, whose bytes these are; or the log is accepted, the task is a claim, whose query stands
-- then, and the count of its file rose.
abbrev pub LogFails : Task → World → (log bytes : List ℕ) → (before now : List ℕ → ℕ) → Type 0
LogFails t w log bytes before now =
    Rose (before log) (now log) ⊎ (ClaimStandsAfter t w (log_reading w bytes) × AnyRose (file_of t) before now)

-- No name but the log's is read where the log isn't accepted, or no claim with a query that stands is made.
abbrev pub ThirdStaysUnread : Task → World → (log bytes : List ℕ) → (reads reads' : List ℕ → ℕ) → Type 0
ThirdStaysUnread t w log bytes reads reads' =
    (ClaimStandsAfter t w (log_reading w bytes) → ⊥) → (n : List ℕ) → n ≢ log → reads' n ≡ reads n
