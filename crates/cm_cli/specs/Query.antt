-- The code's queries and tasks as those of the definitions.
use Rattle.std.specs.Prelude.{ℕ, Bool, true, false, List, [], ◌∷◌}
use Rattle.cm_base.specs.declared.limited.Limited.{Limited}
use Rattle.cm_base.specs.declared.limited.Limited.TheVariants as limit
use Rattle.cm_cli.specs.declared.query.ClaimKind.{ClaimKind}
use Rattle.cm_cli.specs.declared.query.ClaimKind.TheVariants as kind
use Rattle.cm_cli.specs.declared.query.Query.{Query}
use Rattle.cm_cli.specs.declared.query.Task.{Task}
use Rattle.cm_cli.specs.declared.query.Task.TheVariants as code
use Rattle.model_report.specs.Query as asked
use Rattle.model_report.specs.Task as model

abbrev pub query_view : Query → asked.Query
query_view q = record { pid = q.pid.now; right = q.right.now }

-- the limit of the size of what is put forward
abbrev pub limit_of : ClaimKind → Limited
limit_of kind.Certificate = limit.Certificate
limit_of kind.Run = limit.Run

-- the task of a claim whose file has these bytes
abbrev pub task_by : ClaimKind → asked.Query → List ℕ → model.Task
task_by kind.Certificate q text = model.ToCheck q text
task_by kind.Run q text = model.ToConfirm q text

-- the task over files that hold these bytes under their names
abbrev pub task_view : Task → (List ℕ → List ℕ) → model.Task
task_view code.Nothing bytes = model.NoTask
task_view (code.Judge q) bytes = model.ToJudge (query_view q)
task_view (code.Claims claim) bytes = task_by claim.kind (query_view claim.query) (bytes claim.file.now)

-- the replay is shown before it
abbrev pub shows_of : Task → Bool
shows_of code.Nothing = true
shows_of (code.Judge q) = true
shows_of (code.Claims claim) = false

-- its file, by its name and the limit of its size, where it has one
abbrev pub file_of : Task → List (List ℕ × Limited)
file_of code.Nothing = []
file_of (code.Judge q) = []
file_of (code.Claims claim) = (claim.file.now, limit_of claim.kind) ∷ []
