-- The code's command and words as those of the definitions.
use Rattle.std.specs.Prelude.{ℕ, List, map, String, string_bytes}
use Rattle.std.specs.declared.alloc.Global.{Global}
use Rattle.cm_cli.specs.declared.query.ClaimKind.{ClaimKind}
use Rattle.cm_cli.specs.declared.query.ClaimKind.TheVariants as kind
use Rattle.cm_cli.specs.declared.query.Query.{Query}
use Rattle.cm_cli.specs.declared.query.Task.{Task}
use Rattle.cm_cli.specs.declared.query.Task.TheVariants as task
use Rattle.cm_cli.specs.declared.words.Command.{Command}
use Rattle.cm_cli.specs.declared.words.Command.TheVariants as code
use Rattle.model_report.specs.Command as model

-- the bytes of the words
abbrev pub bytes_of : List (String Global) → List (List ℕ)
bytes_of words = map (λ word. string_bytes word) words

-- the command that the words name
abbrev pub command_in : List (String Global) → model.Command
command_in words = model.command_of (bytes_of words)

-- the command that puts a certificate or a run forward
abbrev pub claiming : ClaimKind → Query → List ℕ → List ℕ → List ℕ → model.Command
claiming kind.Certificate q world log file = model.Check world log q.pid.now q.right.now file
claiming kind.Run q world log file = model.Confirm world log q.pid.now q.right.now file

-- the command that asks this after the replay of a log in a world
abbrev pub asking : Task → List ℕ → List ℕ → model.Command
asking task.Nothing world log = model.Replay world log
asking (task.Judge q) world log = model.Audit world log q.pid.now q.right.now
asking (task.Claims claim) world log = claiming claim.kind claim.query world log claim.file.now

-- the command of the definitions
abbrev pub command_view : Command → model.Command
command_view (code.Log world log task) = asking task world.now log.now
command_view (code.Drill n) = model.Drill n
command_view code.NoForm = model.NoForm
