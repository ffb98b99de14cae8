use Rattle.std.proofs.Common.{[], ◌∙◌, inl, inr, refl, rules}
use Rattle.std.proofs.lemmas.Result.{err_from_is_err_and}
use Rattle.std.proofs.lemmas.Option.{IfSome_then}
use Rattle.cm_cli.proofs.Apart.{log_alone, log_then}
use Rattle.cm_cli.proofs.FileReads.{rose_later}
use Rattle.cm_cli.proofs.LogReport.{mounts_there}
use Rattle.cm_cli.proofs.Replaying.{if_three, replay_answer}
use Rattle.cm_cli.proofs.Shown.{EndsIn, answered_sent, answered_status, claim_silent, ended_sent, ended_status}
use Rattle.cm_cli.proofs.Shown.{fault_holds, from_status, front_after, front_of_start, front_told, holds_after}
use Rattle.cm_cli.proofs.Shown.{quiet_holds, sent_after, stays_quiet, tells_after}
use Rattle.cm_cli.proofs.telling.put_log.Goals as goal
use Rattle.cm_cli.specs.Query.{file_of, shows_of}
use Rattle.cm_declared.specs.World.{world_of}
use Rattle.cm_io.proofs.FileReads.{file_within, none_read}
use Rattle.cm_io.proofs.Kept.{on_err}
use Rattle.cm_io.specs.Shelf.{bytes_at}
use Rattle.cm_replay.proofs.Held.{always, if_both}
use Rattle.cm_replay.proofs.Stopping.{err_as, none_failed, untold_as, untold_since}
use Rattle.cm_report.specs.Sent.{IsSent}
use Rattle.model_report.specs.Replay.{text_of}
use Rattle.model_report.specs.Report.{shown}
use Rattle.model_strace.specs.Logs.{log_reading}

-- the lines at the start weren't sent
pub returns-in_err-send_start : goal.returns-in_err-send_start
returns-in_err-send_start g c =
    let p = err_from_is_err_and c.from_residual.result c.from_residual.ensures.1 in
    let held = g.H.Shelf.held c.args.shelf.now in
    let t = c.args.task in
    let w = world_of c.args.w.now in
    let log = c.args.log.now in
    let b = c.shows-shown.result in
    let e = c.in_err-send_start.ensures in
    let front = rw c.requires.empty at e.stopped in
    rw (p.1, p.2) (record {
      status = always held (λ files j gives. tt);
      sent = always held (λ files j gives. tt);
      stopped = always held (λ files j.
          front_told files t w (log_reading w (bytes_at files log)) b c.shows-shown.ensures
          (front_of_start b w (log_reading w (bytes_at files log)) front) j);
      answers = tt;
      start = λ is. absurd (e.no_read_fault (err_as _ _ _ _ refl refl is));
      tells = λ is. absurd (e.no_read_fault (err_as _ _ _ _ refl refl is));
      cause = untold_as _ _ _ _ _ refl refl e.cause;
      order = always held (λ files is. absurd (e.no_read_fault (err_as _ _ _ _ refl refl is)));
      waits = always held (λ files none n other. refl);
      files = log_alone (file_of t) _ _ log _
          (none_read _ log _ _ _ (λ is. e.no_read_fault (err_as _ _ _ _ refl refl is)));
    })

-- the replay broke off
pub returns-in_err-end : goal.returns-in_err-end
returns-in_err-end g c =
    let p = err_from_is_err_and c.from_residual-in_err-end.result c.from_residual-in_err-end.ensures.1 in
    let held = g.H.Shelf.held c.args.shelf.now in
    let t = c.args.task in
    let w = world_of c.args.w.now in
    let log = c.args.log.now in
    let b = c.shows-shown.result in
    let started = rw c.requires.empty at c.in_ok-send_start.ensures.sent in
    let e = c.in_err-end.ensures in
    rw (p.1, p.2) (record {
      status = always held (λ files j gives. tt);
      sent = always held (λ files j gives. tt);
      stopped = IfSome_then held e.stopped (λ files front j.
          front_told files t w (log_reading w (bytes_at files log)) b c.shows-shown.ensures
          (front_after b w _ _ _ _ started (log_reading w (bytes_at files log)) front) j);
      answers = tt;
      start = λ is. rw c.shows-shown.ensures at
          (fault_holds b w _ _ _ _ started _ c.replay_log.new.text.items e.sends (cc));
      tells = λ is shown. rw c.shows-shown.ensures at (tells_after held b w log _ _ _ _ _ _ started (e.tells (cc)));
      cause = untold_since _ _ _ _ (c.in_ok-send_start.ensures.cause.others (λ is. cc))
          (untold_as _ _ _ _ _ refl refl e.cause);
      order = always held (λ files is. inl (e.file.faults.fault (err_as _ _ _ _ refl refl is)));
      waits = always held (λ files none n other. e.file.reads.others n other);
      files = log_alone (file_of t) _ _ log _ (file_within _ _ log _ _ _ _ e.file (search rules) (search rules)
          (err_as _ _ _ _ refl refl) (err_as _ _ _ _ refl refl));
    })

-- after an accepted log the state is within the limits, and the space of each mount stands
pub put_answer-requires : goal.put_answer-requires
put_answer-requires g c = record {
  within = c.in_ok-end.ensures.within c.in-Accepted.is;
  mounts = mounts_there (world_of c.args.w.now) c.in_ok-end.machine.state c.requires.keeps
      (c.in_ok-end.ensures.spaces c.in-Accepted.is);
}

pub returns-in-Accepted : goal.returns-in-Accepted
returns-in-Accepted g c =
    let held = g.H.Shelf.held c.args.shelf.now in
    let t = c.args.task in
    let w = world_of c.args.w.now in
    let log = c.args.log.now in
    let b = c.shows-shown.result in
    let s = c.in_ok-end.machine.state in
    let accepted = c.in-Accepted.is in
    let started = rw c.requires.empty at c.in_ok-send_start.ensures.sent in
    let first = c.in_ok-end.ensures in
    let e = c.put_answer.ensures in
    let report = rw first.file.held at e.report in
    let same = first.file.faults.others (λ is. cc) in
    let ends = if_both {R = λ files. EndsIn w (log_reading w (bytes_at files log)) b s} held first.status first.reached
    (λ files is run. record {
      status = from_status b w (log_reading w (bytes_at files log)) ∙ is ∙ accepted;
      run = run accepted;
    }) in
    let sent = IfSome_then held {Q = λ files. IsSent (g.K.Sink.written c.args.out.now)
    (g.K.Sink.written c.replay_log.new.out)
    c.replay_log.new.text.items (text_of (shown b w (log_reading w (bytes_at files log))).lines)} first.sent
    (λ files sent. sent_after b w _ _ _ _ started (log_reading w (bytes_at files log)) _ sent) in
    record {
      status = if_both held ends report (λ files here put j gives.
          answered_status files t w (log_reading w (bytes_at files log)) b c.shows-shown.ensures s here _ _ _ put j
          gives);
      sent = if_three held ends sent report (λ files here sent put j gives.
          answered_sent files t w (log_reading w (bytes_at files log)) b c.shows-shown.ensures s here _ _ _ put _ _ sent
          j gives);
      stopped = IfSome_then held sent (λ files sent j.
          on_err _ _ (front_told files t w (log_reading w (bytes_at files log)) b c.shows-shown.ensures (_, sent) j));
      answers = e.answers;
      start = λ is.
          let hidden = claim_silent t w s (e.stands is) in
          quiet_holds (shows_of t) w _ _ hidden
          (stays_quiet b w _ _ _ _ started _ (first.sends accepted) (c.shows-shown.ensures ∙ hidden));
      tells = λ is shown. absurd (let hidden = claim_silent t w s (e.stands is) in cc);
      cause = none_failed _ _ _ (first.cause.others (λ is. cc) ∙ c.in_ok-send_start.ensures.cause.others (λ is. cc))
          e.not_write_fault;
      order = IfSome_then held ends (λ files here is.
          inr (
            holds_after files t w (log_reading w (bytes_at files log)) b c.shows-shown.ensures s here (e.stands is),
            rose_later [] (file_of t) _ _ _ same (e.files.faults.fault is),
          ));
      waits = IfSome_then held ends (λ files here none n other.
          e.waits (λ holds. none
          (holds_after files t w (log_reading w (bytes_at files log)) b c.shows-shown.ensures s here holds)) n
          ∙ first.file.reads.others n other);
      files = log_then t _ _ _ log _ _ (λ is. cc) first.file e.files;
    }

pub returns-in_default : goal.returns-in_default
returns-in_default g c =
    let held = g.H.Shelf.held c.args.shelf.now in
    let t = c.args.task in
    let w = world_of c.args.w.now in
    let log = c.args.log.now in
    let b = c.shows-shown.result in
    let s = c.in_ok-end.machine.state in
    let other = c.in_default.not-Accepted in
    let started = rw c.requires.empty at c.in_ok-send_start.ensures.sent in
    let e = c.in_ok-end.ensures in
    record {
      status = IfSome_then held e.status (λ files is j gives.
          ended_status files t w (log_reading w (bytes_at files log)) b c.shows-shown.ensures s c.in_ok-end.end
          (from_status b w (log_reading w (bytes_at files log)) ∙ is) other j);
      sent = if_both held e.status e.sent (λ files is sent j gives.
          ended_sent files t w (log_reading w (bytes_at files log)) b c.shows-shown.ensures s c.in_ok-end.end
          (from_status b w (log_reading w (bytes_at files log)) ∙ is) other _ _ _
          (sent_after b w _ _ _ _ started (log_reading w (bytes_at files log)) _ sent) j);
      stopped = always held (λ files j. tt);
      answers = replay_answer _ e.answers;
      start = λ is. absurd (cc);
      tells = λ is shown. absurd (cc);
      cause = none_failed _ _ _ (e.cause.others (λ is. cc) ∙ c.in_ok-send_start.ensures.cause.others (λ is. cc))
          (λ is. cc);
      order = always held (λ files is. absurd (cc));
      waits = always held (λ files none n away. e.file.reads.others n away);
      files = log_alone (file_of t) _ _ log _ (file_within _ _ log _ _ _ _ e.file (search rules) (search rules)
          (λ is. absurd (cc)) (λ is. absurd (cc)));
    }
