-- What is written of the events of a log, of either form, is read again as they are.
use Rattle.std.proofs.Common.{◌≡◌, ◌<◌, ◌^◌, ℕ, List, length, All, subst}
use Rattle.std.proofs.lemmas.List.Elements.{All-weaker}
use Rattle.cm_base.specs.Limits.{greatest_number}
use Rattle.cm_lines.specs.Lines.{lines_of}
use Rattle.model_cred.specs.World.{World, LogForm, Script, Strace}
use Rattle.model_report_laws.proofs.Endings.{numbered}
use Rattle.model_report_laws.specs.Laws.{EventsReadBack, FormStandsFor}
use Rattle.model_strace.proofs.NamedSpaces.{EventWithin}
use Rattle.model_strace.proofs.ReadBack as strace
use Rattle.model_strace.proofs.ToldEvents.{line_can_write}
use Rattle.model_strace.specs.Logs.{form_reading}
use Rattle.model_strace.specs.ReadBack as strace_law
use Rattle.model_text.proofs.ReadBack.{lines_read_back}
use Rattle.model_text.proofs.ToldEvents as script
use Rattle.model_text.proofs.ToldEvents.{few_names}
use Rattle.model_text.specs.Line.{Tells, script_line}
use Rattle.model_text.specs.Print.{event_text}
use Rattle.model_text.specs.Reading.{Placed, Reading}
use Rattle.model_text.specs.WorldText.{Reads, world_text}
use Rattle.model_text.specs.Written.{LinesReadBack, ToldReadBack}

-- the event of a line of a script log
script_read_back : (bytes : List ℕ) (w : World) (log : List ℕ) → world_text bytes ≡ Reads w → (e : Placed)
    → FormStandsFor Script w log e.line (Tells e.event) → script_line w (event_text w e.event) ≡ Tells e.event
unfolding ToldReadBack
script_read_back bytes w log reads e stands = script.told_read_back bytes w stands.line e.event reads stands.means

-- that of a line of a log of either form, where the spaces that it names have numbers of 32 bits
pub line_read_back : (form : LogForm) (bytes : List ℕ) (w : World) (log : List ℕ) → world_text bytes ≡ Reads w → (e : Placed)
    → FormStandsFor form w log e.line (Tells e.event) → EventWithin greatest_number e.event
    → script_line w (event_text w e.event) ≡ Tells e.event
unfolding LinesReadBack
line_read_back Script bytes w log reads e stands low = script_read_back bytes w log reads e stands
line_read_back Strace bytes w log reads e stands low =
    lines_read_back bytes w e.event reads (line_can_write w (lines_of log) e.line e.event (few_names bytes w reads) stands low)

-- the events of a log of that form
form_read_back : (form : LogForm) (bytes : List ℕ) (w : World) (log : List ℕ) → world_text bytes ≡ Reads w
    → length (lines_of log) < 2 ^ 31
    → All (λ e. script_line w (event_text w e.event) ≡ Tells e.event) (form_reading form w log).events
unfolding strace_law.ToldReadBack
form_read_back Script bytes w log reads few =
    All-weaker (λ e. FormStandsFor Script w log e.line (Tells e.event))
    (λ e. script_line w (event_text w e.event) ≡ Tells e.event)
    (λ e stands. script_read_back bytes w log reads e stands)
    (form_reading Script w log).events (numbered Script w log).events
form_read_back Strace bytes w log reads few = strace.told_read_back bytes w log reads few

pub events_read_back : EventsReadBack
unfolding EventsReadBack
events_read_back words bytes w reading begins few =
    subst (λ (r : Reading). All
    (λ (e : Placed). script_line w (event_text w e.event) ≡ Tells e.event) r.events) begins.reads
    (form_read_back w.form (bytes begins.names.world) w (bytes begins.log) begins.names.reads few)
