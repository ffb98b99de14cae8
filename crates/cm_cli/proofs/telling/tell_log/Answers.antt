use Rattle.std.proofs.Common.{◌∙◌, refl}
use Rattle.std.proofs.lemmas.Option.{IfSome_then}
use Rattle.cm_cli.proofs.FileReads.{files_as}
use Rattle.cm_cli.proofs.Replaying.{log_answer}
use Rattle.cm_cli.proofs.Stopping.{front_told, read_untold, stopped_counts, stopped_no_read, stopped_none}
use Rattle.cm_cli.proofs.Stopping.{stopped_not_usage, untold_counts}
use Rattle.cm_cli.proofs.Stopping.{untold_none, untold_not_usage, untold_read, whole_told, wrote_counts}
use Rattle.cm_cli.proofs.telling.tell_log.Goals as goal
use Rattle.cm_cli.specs.LogReport.{log_report}
use Rattle.cm_cli.specs.Query.{task_view}
use Rattle.cm_io.specs.Shelf.{bytes_at}
use Rattle.cm_replay.proofs.Held.{always, if_both}
use Rattle.cm_report.proofs.Waiting.{front_on, sent_on}

pub returns-in-Err : goal.returns-in-Err
returns-in-Err g c =
    let held = g.H.Shelf.held c.args.shelf.now in
    let e = c.in-Err.ensures in
    let read = untold_read c.in-Err.why _ refl in
    rw c.status.ensures (record {
      report = IfSome_then held e.stopped (λ files front j gives.
          front_told (log_report (task_view c.args.task (bytes_at files)) j c.args.w.now
          (bytes_at files c.args.log.now)) _ _ _ (untold_none c.in-Err.why) (front j));
      start = λ is. e.start (read is);
      tells = λ is. e.tells (read is);
      not_usage = untold_not_usage c.in-Err.why;
      counts = untold_counts c.in-Err.why _ _ e.cause;
      order = IfSome_then held e.order (λ files failed is. failed (read is));
      waits = e.waits;
      files = files_as _ _ _ _ _ (read_untold c.in-Err.why _ refl) read e.files;
    })

pub returns-in-Ok-send : goal.returns-in-Ok-send
returns-in-Ok-send g c =
    let held = g.H.Shelf.held c.args.shelf.now in
    let e = c.in-Ok.ensures in
    let told = log_answer c.in-Ok.status e.answers in
    record {
      report = if_both held e.status e.sent (λ files is sent j gives.
          whole_told (log_report (task_view c.args.task (bytes_at files)) j c.args.w.now
          (bytes_at files c.args.log.now)) _ _ _ (is j gives)
          (rw c.in-Ok-send.ensures.empty at (sent_on (sent j gives) c.in-Ok-send.ensures.sent)));
      start = λ is. absurd (told.0.not_read_fault is);
      tells = λ is. absurd (told.0.not_read_fault is);
      not_usage = told.1;
      counts = wrote_counts _ _ _ told.0 (c.in-Ok-send.ensures.cause.ok ∙ e.cause.others (λ is. cc));
      order = always held (λ files is. absurd (told.0.not_read_fault is));
      waits = e.waits;
      files = files_as _ _ _ _ _ (λ is. absurd (cc)) (λ is. absurd (told.0.not_read_fault is)) e.files;
    }

pub returns : goal.returns
returns g c =
    let held = g.H.Shelf.held c.args.shelf.now in
    let why = c.in-Err-send.why in
    let e = c.in-Ok.ensures in
    rw c.stopped.ensures (record {
      report = IfSome_then held e.sent (λ files sent j gives.
          front_told (log_report (task_view c.args.task (bytes_at files)) j c.args.w.now
          (bytes_at files c.args.log.now)) _ _ _ (stopped_none why)
          (front_on (sent j gives) c.in-Err-send.ensures.front));
      start = λ is. absurd (stopped_no_read why is);
      tells = λ is. absurd (stopped_no_read why is);
      not_usage = stopped_not_usage why;
      counts = stopped_counts why _ _ _ (e.cause.others (λ is. cc)) c.in-Err-send.ensures.cause;
      order = always held (λ files is. absurd (stopped_no_read why is));
      waits = e.waits;
      files = files_as _ _ _ _ _ (λ is. absurd (cc)) (λ is. absurd (stopped_no_read why is)) e.files;
    })
