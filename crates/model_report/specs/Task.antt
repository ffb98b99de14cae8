-- What a command asks for after the log.
use Rattle.std.specs.Prelude.{ℕ, List, Option, Some, None}
use Rattle.model_report.specs.Query.{Query}

-- Nothing; a verdict on what the query asks; that a certificate of these bytes is checked, or that a run of these bytes is
-- confirmed, for what it asks.
pub data Task : Type 0 where
  NoTask : Task
  ToJudge : Query → Task
  ToCheck : Query → List ℕ → Task
  ToConfirm : Query → List ℕ → Task

-- its query
abbrev pub query_in : Task → Option Query
query_in NoTask = None
query_in (ToJudge q) = Some q
query_in (ToCheck q certificate) = Some q
query_in (ToConfirm q run) = Some q
