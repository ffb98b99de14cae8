-- Where a reading stops at the limit of a log's bytes, or of a line's.
use Rattle.std.specs.Prelude.{◌≡◌, Some, None}
use Rattle.cm_lines.specs.Cut.{Cut}
use Rattle.cm_lines.specs.declared.limits.Past.{Past}
use Rattle.model_cred.specs.World.{World, LogForm}
use Rattle.model_strace.specs.Logs.{form_of_cut}
use Rattle.model_text.specs.Reading.{AtEnd, Limit, Stops, limit_past}

-- It stops there only where the line after those that come is past that limit.
unfoldable pub StopsAsCut : Type 0
StopsAsCut = (form : LogForm) (w : World) (cut : Cut) (past : Past)
    → (form_of_cut form w cut).ending ≡ Stops (Limit (limit_past past)) → cut.stop ≡ Some past

-- It comes to the log's end only where all lines come.
unfoldable pub EndsAsCut : Type 0
EndsAsCut = (form : LogForm) (w : World) (cut : Cut) → (form_of_cut form w cut).ending ≡ AtEnd → cut.stop ≡ None
