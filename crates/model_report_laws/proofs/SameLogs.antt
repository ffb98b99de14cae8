-- Readings that are the same have the same report, whatever form of log the worlds declare.
use Rattle.std.proofs.Common.{◌≡◌, List, sym, ◌∙◌, ap, subst}
use Rattle.model_cred.specs.World.{World}
use Rattle.model_report.specs.Command.{command_of, task_of}
use Rattle.model_report.specs.Given.{LogGives}
use Rattle.model_report.specs.Judged.{Judged}
use Rattle.model_report.specs.Replay.{Report}
use Rattle.model_report.specs.Report.{report, log_report}
use Rattle.model_report.specs.Task.{Task}
use Rattle.model_report_laws.proofs.Forms.{same_text, gives_form}
use Rattle.model_report_laws.proofs.Given.{one_log_report}
use Rattle.model_report_laws.proofs.Statuses.{of_begins, gives_in}
use Rattle.model_report_laws.specs.Laws.{SameReadingSameReport, SameLogsSameReport, SameText, DifferInForm}
use Rattle.model_text.specs.Reading.{Placed, End, Reading}

pub same_reading_same_report : SameReadingSameReport
unfolding SameReadingSameReport
same_reading_same_report task j v w one other form events ending =
    subst (λ (u : World). SameText (log_report task j v one) (log_report task j u other)) (sym form)
    (subst (λ (r : Report). SameText (log_report task j v one) r)
    (ap (λ (es : List Placed). log_report task j (record v { form = w.form }) (record { events = es; ending = one.ending })) events
    ∙ ap (λ (e : End). log_report task j (record v { form = w.form }) (record { events = other.events; ending = e })) ending)
    (same_text task j v w.form one))

-- what the one reading gives in the one world the other gives in the other
same_given : (task : Task) (j : Judged) (v w : World) (one two : Reading) → DifferInForm v w → one.events ≡ two.events → one.ending ≡ two.ending
    → LogGives task w two j → LogGives task v one j
same_given task j v w one two form events ending gives =
    gives_form v w.form task one j
    (subst (λ (u : World). LogGives task u one j) form
    (subst (λ (es : List Placed). LogGives task w (record { events = es; ending = one.ending }) j) (sym events)
    (subst (λ (e : End). LogGives task w (record { events = two.events; ending = e }) j) (sym ending) gives)))

pub same_logs_same_report : SameLogsSameReport
unfolding SameLogsSameReport SameReadingSameReport
same_logs_same_report words bytes other v w one two first second begins begins' form events ending same gives gives' =
    let task : Task = task_of (command_of words) bytes in
    let there : LogGives task v one second
    = same_given task second v w one two form events ending
    (subst (λ (t : Task). LogGives t w two second) (sym same) (gives_in words other second w two begins' gives')) in
    let reports : report words bytes first ≡ log_report task second v one
    = of_begins words bytes first v one begins
    ∙ one_log_report first second task v one (gives_in words bytes first v one begins gives) there in
    subst (λ (r : Report). SameText r (report words other second)) (sym reports)
    (subst (λ (r : Report). SameText (log_report task second v one) r)
    (sym (of_begins words other second w two begins' ∙ ap (λ (t : Task). log_report t second w two) (sym same)))
    (same_reading_same_report task second v w one two form events ending))
