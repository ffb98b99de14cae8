-- A report that is put at the end of a text.
use Rattle.std.specs.Prelude.{◌≡◌, ℕ, List, ◌++◌}
use Rattle.cm_base.specs.declared.status.Status.{Status}
use Rattle.model_report.specs.Replay.{Report, text_of}

-- The status is that of the report, and its text is put at the end of what was there.
pub record IsPut (r : Report) (old new : List ℕ) (st : Status) : Type 0 where
  pub status : st ≡ r.status
  pub text : new ≡ old ++ text_of r.lines
