-- What a log reads as, by the form that its world declares (choice).
use Rattle.std.specs.Prelude.{ℕ, List}
use Rattle.cm_lines.specs.Cut.{Cut}
use Rattle.model_cred.specs.World.{World, LogForm, Script, Strace}
use Rattle.model_strace.specs.Lines.{strace_of_cut}
use Rattle.model_text.specs.Reading.{Reading, log_cut, script_of_cut}

-- the reading of what is cut from a log of that form
abbrev pub form_of_cut : LogForm → World → Cut → Reading
form_of_cut Script w cut = script_of_cut w cut
form_of_cut Strace w cut = strace_of_cut w cut

-- the reading of a log of that form
abbrev pub form_reading : LogForm → World → List ℕ → Reading
form_reading form w text = form_of_cut form w (log_cut text)

-- the reading of a world's log
abbrev pub log_reading : World → List ℕ → Reading
log_reading w text = form_reading w.form w text
