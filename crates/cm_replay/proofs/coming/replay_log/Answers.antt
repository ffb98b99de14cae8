use Rattle.std.proofs.Common.{◌≡◌, ◌∙◌, ℕ, List, ap, Some, Err}
use Rattle.std.proofs.lemmas.Result.{err_from_is_err_and}
use Rattle.cm_declared.specs.World.{world_of}
use Rattle.cm_io.specs.Cutter.{Cutting, left_of}
use Rattle.cm_io.specs.Shelf.{bytes_at}
use Rattle.cm_log.specs.Left.{left}
use Rattle.cm_lines.specs.Cut.{ends_by}
use Rattle.cm_lines.specs.declared.limits.Past.TheVariants.{Line}
use Rattle.cm_replay.proofs.Pieces.{cut_report, front_is_sent, none_is_sent, whole_report}
use Rattle.cm_replay.proofs.Told.{from_start}
use Rattle.cm_replay.proofs.coming.replay_log.Goals as goal
use Rattle.cm_replay.specs.Shown.{shown_report}
use Rattle.cm_io.specs.WholeLines.{after_lines}
use Rattle.cm_replay.specs.Told.{lines_report, report_of_lines}
use Rattle.cm_replay.specs.declared.untold.Untold.{Untold}
use Rattle.model_report.specs.Report.{replay_of}
use Rattle.model_strace.specs.Logs.{log_reading}

-- nothing was written yet
pub returns-in_err-replay-clause-stopped : goal.returns-in_err-replay-clause-stopped
returns-in_err-replay-clause-stopped g c = none_is_sent (g.H.Shelf.held c.args.shelf.now) _ (g.K.Sink.written c.args.out.now) _

pub returns-in_err-log-clause-stopped : goal.returns-in_err-log-clause-stopped
returns-in_err-log-clause-stopped g c = none_is_sent (g.H.Shelf.held c.args.shelf.now) _ (g.K.Sink.written c.args.out.now) _

pub returns-in_err-cutter-clause-stopped : goal.returns-in_err-cutter-clause-stopped
returns-in_err-cutter-clause-stopped g c = none_is_sent (g.H.Shelf.held c.args.shelf.now) _ (g.K.Sink.written c.args.out.now) _

-- the replay broke off
pub returns-in_err-status-clause-stopped : goal.returns-in_err-status-clause-stopped
returns-in_err-status-clause-stopped g c =
    let w = world_of c.args.w.now in
    let name = c.args.name.now in
    let cutter = c.in_ok-cutter.cutter in
    let replay = c.in_ok-replay.replay in
    let named : cutter.name ≡ name = ap (λ (x : Cutting). x.name) c.in_ok-cutter.ensures.begun in
    front_is_sent (g.H.Shelf.held c.args.shelf.now) _ w replay c.replay_lines.new.replay
    (record { written = g.K.Sink.written c.args.out.now; waits = c.args.text.now.items })
    (record { written = g.K.Sink.written c.replay_lines.new.out; waits = c.replay_lines.new.text.items }) c.in_err-status.field-0.0
    (λ files. left w c.in_ok-log.log (left_of cutter (bytes_at files cutter.name)))
    (λ files. shown_report c.args.shows (replay_of w (log_reading w (bytes_at files name))))
    c.in_err-status.ensures.told
    (λ files. whole_report w replay c.in_ok-log.log cutter name (bytes_at files cutter.name) c.args.shows c.in_ok-replay.ensures.state
    c.in_ok-replay.ensures.none c.in_ok-replay.ensures.shows c.in_ok-log.ensures.reading
    (rw (c.number.ensures, c.number-2.ensures) at c.in_ok-cutter.ensures.begun)
    ∙ ap (λ (n : List ℕ). shown_report c.args.shows (replay_of w (log_reading w (bytes_at files n)))) named)

-- a read of the log failed
pub returns-in_err-status-clause-tells : goal.returns-in_err-status-clause-tells
returns-in_err-status-clause-tells g c =
    let p = err_from_is_err_and c.from_residual-in_err-status.result c.from_residual-in_err-status.ensures.1 in
    let w = world_of c.args.w.now in
    let replay = c.in_ok-replay.replay in
    let named = ap (λ (x : Cutting). x.name) c.in_ok-cutter.ensures.begun in
    rw (p.1, p.2) (λ is.
    from_start (g.H.Shelf.held c.args.shelf.now) c.args.shows replay.shows (report_of_lines w replay c.in_ok-log.log)
    (lines_report c.args.shows w) c.args.name.now _ _ c.args.text.now.items _ _ c.in_ok-replay.ensures.shows
    (λ lines. cut_report w replay c.in_ok-log.log (after_lines lines (ends_by (Some Line))) c.args.shows c.in_ok-replay.ensures.state
    c.in_ok-replay.ensures.none c.in_ok-replay.ensures.shows c.in_ok-log.ensures.reading)
    (rw named at (c.in_err-status.ensures.tells (ap (λ (e : Untold). Err e) is))))
