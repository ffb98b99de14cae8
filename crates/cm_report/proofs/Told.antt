-- A report that is told, or that stops.
use Rattle.std.proofs.Common.{◌≡◌, ◌≢◌, ℕ, List, le_of_eq, Option, Err, refl, sym, ◌∙◌}
use Rattle.cm_base.specs.declared.status.Status.{Status}
use Rattle.cm_base.specs.declared.status.Status.TheVariants as answers
use Rattle.cm_io.specs.Sink.{WriteFaults}
use Rattle.cm_io.specs.declared.outside.Outside.{Outside}
use Rattle.cm_io.specs.declared.outside.Outside.TheVariants as outside
use Rattle.cm_report.specs.Sent.{IsFront}
use Rattle.cm_report.specs.Telling.{IsOfReport, TellsReport, stopped_by}
use Rattle.model_report.specs.Replay.{Report, text_of}

-- a report that stopped at an error: a front of it is written
pub stops : {T : Type 0} (r : Report) (why : Outside) (answer : Status) (w w' : Option (List ℕ)) (f f' : ℕ) → answer ≡ stopped_by why
    → IsFront w w' (text_of r.lines) → WriteFaults {T = T} f f' (Err why) → TellsReport r answer w w' f f'
stops r outside.Failed answer w w' f f' is front cause = record {
  status = λ told. absurd (told.not_write_fault is);
  text = λ told. absurd (told.not_write_fault is);
  front = front;
  never_read_fault = λ read. let no : answers.WriteFault ≡ answers.ReadFault = sym is ∙ read in cc;
  counts = record { fault = λ _. cause.failed refl; later = cause.later; stay = λ other. absurd (other is) };
}
stops r outside.NoMemory answer w w' f f' is front cause = record {
  status = λ told. absurd (told.not_memory is);
  text = λ told. absurd (told.not_memory is);
  front = front;
  never_read_fault = λ read. let no : answers.NoMemory ≡ answers.ReadFault = sym is ∙ read in cc;
  counts = record {
    fault = λ fault. let no : answers.NoMemory ≡ answers.WriteFault = sym is ∙ fault in cc;
    later = cause.later;
    stay = λ _. cause.no_memory refl;
  };
}

-- out of memory where the sink's count stood still
pub wants_memory : {f f' : ℕ} → f' ≡ f → WriteFaults {T = Unit {0}} f f' (Err outside.NoMemory)
wants_memory same = record { later = le_of_eq (sym same); ok = tt; failed = λ is. cc; no_memory = λ _. same }

-- a status that is none of these three is that of a report
pub of_report : (st : Status) → st ≢ answers.ReadFault → st ≢ answers.WriteFault → st ≢ answers.NoMemory → IsOfReport st
of_report st a b c = record { not_read_fault = a; not_write_fault = b; not_memory = c }
