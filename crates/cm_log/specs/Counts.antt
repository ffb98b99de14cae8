-- What a log counts: its lines, the events that can still come of these, and the user namespaces that it knows of.
use Rattle.std.specs.Prelude.{◌≡◌, ◌≤◌, ℕ, ◌+◌, length, List}
use Rattle.cm_base.specs.Limited.{limit_number}
use Rattle.cm_base.specs.declared.limited.Limited.TheVariants as limit
use Rattle.cm_log.specs.declared.log.Log.{Log}
use Rattle.cm_log.specs.declared.log.Log.TheVariants.{Script, Strace}
use Rattle.model_cred.specs.Made.{spaces_made}
use Rattle.model_strace.specs.Counts.{held_count, spaces_counted, spaces_known}
use Rattle.model_strace.specs.Rest.{Session, lines_fed}
use Rattle.model_text.specs.Reading.{Placed, events_of}

-- how many lines came
abbrev pub lines_read : Log → ℕ
lines_read (Script log) = log.lines
lines_read (Strace log) = lines_fed log.tracer

-- how many events the lines that came can still tell: one for each line that is held
abbrev pub events_due : Log → ℕ
events_due (Script log) = 0
events_due (Strace log) = held_count log.tracer

-- how many user namespaces its session counts while it goes on, as their numbers have a greatest one
abbrev pub spaces_in : Log → ℕ
spaces_in (Script log) = 0
spaces_in (Strace log) = spaces_counted log.tracer

-- The session knows of no more user namespaces than so many, and holds no more lines than it may.
pub record SessionWithin (n : ℕ) (session : Session) : Type 0 where
  pub spaces : spaces_known session ≤ n
  pub held : held_count session ≤ limit_number limit.Held

-- The log knows of no more user namespaces than so many; a script keeps none.
abbrev pub KnowsWithin : ℕ → Log → Type 0
KnowsWithin n (Script log) = Unit {0}
KnowsWithin n (Strace log) = SessionWithin n log.tracer

-- No line has come, and so many user namespaces are known.
pub record IsFresh (n : ℕ) (log : Log) : Type 0 where
  pub lines : lines_read log ≡ 0
  pub due : events_due log ≡ 0
  pub knows : KnowsWithin n log

-- What is counted where so many lines more came, which told these events: each line is counted, and tells one event at
-- most; and user namespaces are known by the events that make them.
pub record Counts (more : ℕ) (events : List Placed) (old new : Log) : Type 0 where
  pub lines : lines_read new ≤ lines_read old + more
  pub due : length events + events_due new ≤ events_due old + more
  pub knows : (n : ℕ) → KnowsWithin n old → KnowsWithin (n + spaces_made (events_of events)) new
