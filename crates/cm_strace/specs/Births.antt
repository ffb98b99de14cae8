-- A session while a birth is read whose child has held lines.
use Rattle.std.specs.Prelude.{ℕ}
use Rattle.cm_strace.specs.Queues.{Queue}
use Rattle.cm_strace_parts.specs.Savepoints.{Saved}
use Rattle.model_strace.specs.Rest.{Work}

-- the session after so many lines, without the held lines that were taken
abbrev pub work_of : ℕ → Queue → Saved → Work
work_of count q p = record { parts = p.known; held = q.left; count = count }
