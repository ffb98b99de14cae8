-- The words of the command line (choice).
use Rattle.std.specs.Prelude.{ℕ, codes, bytes_eq, nat_le, List, [], ◌∷◌, Option, Some, None, if◌then◌else◌}
use Rattle.cm_base.specs.declared.limited.Limited.{Limited}
use Rattle.cm_base.specs.declared.limited.Limited.TheVariants as limit
use Rattle.model_report.specs.Query.{Query}
use Rattle.model_report.specs.Task.{Task, NoTask, ToJudge, ToCheck, ToConfirm}
use Rattle.model_text.specs.Token.{number_token}

-- Replay of a log in a world; an audit after it, with the texts of a pid and of a right; with these, the check of a
-- certificate, and the confirmation of a run; a drill of so many events; none of the forms. Files are told by name.
pub data Command : Type 0 where
  Replay : List ℕ → List ℕ → Command
  Audit : List ℕ → List ℕ → List ℕ → List ℕ → Command
  Check : List ℕ → List ℕ → List ℕ → List ℕ → List ℕ → Command
  Confirm : List ℕ → List ℕ → List ℕ → List ℕ → List ℕ → Command
  Drill : ℕ → Command
  NoForm : Command

-- the words after `replay`
abbrev pub replay_words : List (List ℕ) → Command
replay_words (world ∷ log ∷ []) = Replay world log
replay_words _ = NoForm

-- the words after `audit`
abbrev pub audit_words : List (List ℕ) → Command
audit_words (world ∷ log ∷ pid ∷ right ∷ []) = Audit world log pid right
audit_words _ = NoForm

-- the words after `check`
abbrev pub check_words : List (List ℕ) → Command
check_words (world ∷ log ∷ pid ∷ right ∷ certificate ∷ []) = Check world log pid right certificate
check_words _ = NoForm

-- the words after `confirm`
abbrev pub confirm_words : List (List ℕ) → Command
confirm_words (world ∷ log ∷ pid ∷ right ∷ run ∷ []) = Confirm world log pid right run
confirm_words _ = NoForm

-- a drill has at most 100000 events
abbrev pub drill_of : Option ℕ → Command
drill_of None = NoForm
drill_of (Some n) = if nat_le n 100000 then Drill n else NoForm

-- the words after `drill`
abbrev pub drill_words : List (List ℕ) → Command
drill_words (n ∷ []) = drill_of (number_token n)
drill_words _ = NoForm

-- what the words ask for
abbrev pub command_of : List (List ℕ) → Command
command_of [] = NoForm
command_of (name ∷ words) =
    if bytes_eq name (codes "replay") then replay_words words
    else if bytes_eq name (codes "audit") then audit_words words
    else if bytes_eq name (codes "check") then check_words words
    else if bytes_eq name (codes "confirm") then confirm_words words
    else if bytes_eq name (codes "drill") then drill_words words
    else NoForm

-- The files that a command reads, in their order, each by its name and the limit of its size: the world, the log, and a
-- certificate or a run.
abbrev pub files_of : Command → List (List ℕ × Limited)
files_of (Replay world log) = (world, limit.World) ∷ (log, limit.Log) ∷ []
files_of (Audit world log pid right) = (world, limit.World) ∷ (log, limit.Log) ∷ []
files_of (Check world log pid right certificate) =
    (world, limit.World) ∷ (log, limit.Log) ∷ (certificate, limit.Certificate) ∷ []
files_of (Confirm world log pid right run) = (world, limit.World) ∷ (log, limit.Log) ∷ (run, limit.Run) ∷ []
files_of (Drill n) = []
files_of NoForm = []

-- the query of the two texts
abbrev pub query : List ℕ → List ℕ → Query
query pid right = record { pid = pid; right = right }

-- what a command asks after the log
abbrev pub query_of : Command → Option Query
query_of (Replay world log) = None
query_of (Audit world log pid right) = Some (query pid right)
query_of (Check world log pid right certificate) = Some (query pid right)
query_of (Confirm world log pid right run) = Some (query pid right)
query_of (Drill n) = None
query_of NoForm = None

-- the same with the bytes of the third file, the files holding these under their names
abbrev pub task_of : Command → (List ℕ → List ℕ) → Task
task_of (Replay world log) bytes = NoTask
task_of (Audit world log pid right) bytes = ToJudge (query pid right)
task_of (Check world log pid right certificate) bytes = ToCheck (query pid right) (bytes certificate)
task_of (Confirm world log pid right run) bytes = ToConfirm (query pid right) (bytes run)
task_of (Drill n) bytes = NoTask
task_of NoForm bytes = NoTask
