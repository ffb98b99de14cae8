use Rattle.std.proofs.Common.{◌∙◌, Err, ap, refl}
use Rattle.std.proofs.lemmas.Option.{IfSome_then}
use Rattle.cm_base.specs.declared.limited.Limited.TheVariants as limit
use Rattle.cm_cli.proofs.Apart.{apart_as}
use Rattle.cm_cli.proofs.BeforeFault.{before_asked, lines_asked, log_before, log_lines, no_fault, no_lines, world_before, world_lines}
use Rattle.cm_cli.proofs.Carried.{world_carried}
use Rattle.cm_cli.proofs.FileReads.{reads_one, takes_one}
use Rattle.cm_cli.proofs.InOrder.{all_reads, all_taken, no_read_fault, told_faults, told_waits, world_fault}
use Rattle.cm_cli.proofs.Ready.{world_gives, world_refused, world_report}
use Rattle.cm_cli.proofs.Replaying.{TellsFiles, as_told, log_answers, short_not_usage, tells_as}
use Rattle.cm_cli.proofs.Replaying.{told_not_usage, unread_answers}
use Rattle.cm_cli.proofs.Stopping.{wrote_none}
use Rattle.cm_cli.proofs.commands.run_log.Goals as goal
use Rattle.cm_cli.specs.Query.{file_of, shows_of, task_view}
use Rattle.cm_cli.specs.Words.{asking}
use Rattle.cm_cli.specs.declared.reading.Unready.TheVariants as unready
use Rattle.cm_io.proofs.ReadCounts.{pieces_then}
use Rattle.cm_io.specs.Shelf.{bytes_at}
use Rattle.cm_replay.proofs.Held.{if_both}

pub returns-in-Ok : goal.returns-in-Ok
unfolding TellsFiles
returns-in-Ok g c =
    let held = g.H.Shelf.held c.args.shelf.now in
    let t = c.args.task in
    let world = c.args.world.now in
    let log = c.args.log.now in
    let w = c.in-Ok.w in
    let first = c.in-Ok.ensures in
    let e = c.tell_log.ensures in
    let next = rw first.file.held at e.report in
    let same = first.file.faults.others (λ is. cc) in
    let reads = reads_one _ _ _ _ world limit.World _ first.file.reads first.file.takes in
    let apart = apart_as (file_of t) log _ _ _ _ _ _ first.file.counted e.files.apart in
    record {
      report = log_answers held t world log c.tell_log.result _ _
          (if_both held first.read next (λ files read told j gives.
          tells_as _ _ _ _ _
          (world_report (task_view t (bytes_at files)) j (bytes_at files world) (bytes_at files log) w read)
          (told j (world_gives (task_view t (bytes_at files)) j (bytes_at files world) (bytes_at files log) w read
          gives)))) e.not_usage;
      read_faults = told_faults held world log w first.read _ _ _ same c.tell_log.result t e.files.faults
          (rw first.file.held at e.order);
      write_faults = e.counts;
      before_fault = before_asked held _ t world log c.tell_log.result _ _ _ _ (λ is.
          log_before held (g.H.Shelf.counted c.args.shelf.now) t world log w _ _ _ _ _ _ _ first.read same (e.start is)
          apart);
      lines_told = lines_asked held _ t world log c.tell_log.result _ _ _ _ _ _ (λ is.
          log_lines held (g.H.Shelf.counted c.args.shelf.now) (shows_of t) world log w (g.H.Shelf.faults c.args.shelf.now)
          (g.H.Shelf.faults c.tell_log.new.shelf) (g.H.Shelf.taken c.args.shelf.now)
          (g.H.Shelf.taken c.read_world_file.new.shelf) (g.H.Shelf.taken c.tell_log.new.shelf)
          (g.K.Sink.written c.args.out.now) (g.K.Sink.written c.tell_log.new.out) _ first.read first.file.takes
          (λ shown. rw first.file.held at (e.tells is shown)));
      pieces = pieces_then _ _ _ first.file.pieces e.files.pieces;
      takes = all_taken t world log (g.H.Shelf.taken c.args.shelf.now) (g.H.Shelf.taken c.read_world_file.new.shelf)
          (g.H.Shelf.taken c.tell_log.new.shelf) (takes_one _ _ world limit.World first.file.takes) e.files.takes;
      reads = all_reads t world log _ _ _ _ _ _ reads e.files.reads;
      waits = told_waits held world log w first.read _ _ _ same (g.H.Shelf.counted c.args.shelf.now) _ _ _ _ _ reads t
          apart (rw first.file.held at e.waits);
      held = e.files.held ∙ first.file.held;
    }

-- a report of one piece
pub returns-in-Err-Refused : goal.returns-in-Err-Refused
unfolding TellsFiles
returns-in-Err-Refused g c =
    let held = g.H.Shelf.held c.args.shelf.now in
    let t = c.args.task in
    let world = c.args.world.now in
    let log = c.args.log.now in
    let first = rw c.in-Err-Refused.field-0-is at c.in-Err-Refused.ensures in
    let told = c.tell_short.ensures in
    world_carried t world log first.file
    (log_answers held t world log c.tell_short.result _ _
    (IfSome_then held first.read (λ files read j gives.
    tells_as _ _ _ _ _
    (world_refused (task_view t (bytes_at files)) j (bytes_at files world) (bytes_at files log)
    c.in-Err-Refused.short read)
    (as_told _ _ _ _ _ _ told)))
    (told_not_usage _ _ _ _ _ _ told
    (short_not_usage c.in-Err-Refused.short (λ is. first.not_usage (ap (λ s. Err (unready.Refused s)) is)))))
    (no_read_fault held t world log c.tell_short.result _ _ told.never_read_fault (first.file.faults.others (λ is. cc)))
    told.counts
    (no_fault held _ (asking t world log) c.tell_short.result _ _ _ _ told.never_read_fault)
    (no_lines held _ (asking t world log) c.tell_short.result _ _ _ _ _ _ told.never_read_fault)

pub returns-in-Err-ReadFault : goal.returns-in-Err-ReadFault
returns-in-Err-ReadFault g c =
    let held = g.H.Shelf.held c.args.shelf.now in
    let t = c.args.task in
    let world = c.args.world.now in
    let log = c.args.log.now in
    let first = rw c.in-Err-ReadFault.field-0-is at c.in-Err-ReadFault.ensures in
    world_carried t world log first.file (unread_answers held t world log _ _ (λ is. is.not_read_fault refl) (λ is. cc))
    (world_fault held t world log _ _ (first.file.faults.fault refl) first.file.faults.later)
    (wrote_none _ _ (λ is. cc))
    (before_asked held _ t world log _ _ _ _ _
    (λ _. world_before held (g.H.Shelf.counted c.args.shelf.now) (shows_of t) world log _ _ _ _ _ first.file.apart))
    (lines_asked held _ t world log _ _ _ _ _ _ _
    (λ _. world_lines held (g.H.Shelf.counted c.args.shelf.now) (shows_of t) world log
    (g.H.Shelf.faults c.args.shelf.now) (g.H.Shelf.faults c.read_world_file.new.shelf) _ _
    (g.H.Shelf.taken c.args.shelf.now) (g.H.Shelf.taken c.read_world_file.new.shelf)
    (g.K.Sink.written c.args.out.now) (g.K.Sink.written c.args.out.now) first.file.apart))

pub returns-in-Err-NoMemory : goal.returns-in-Err-NoMemory
returns-in-Err-NoMemory g c =
    let held = g.H.Shelf.held c.args.shelf.now in
    let t = c.args.task in
    let world = c.args.world.now in
    let log = c.args.log.now in
    let first = rw c.in-Err-NoMemory.field-0-is at c.in-Err-NoMemory.ensures in
    world_carried t world log first.file (unread_answers held t world log _ _ (λ is. is.not_memory refl) (λ is. cc))
    (no_read_fault held t world log _ _ _ (λ is. cc) (first.file.faults.others (λ is. cc))) (wrote_none _ _ (λ is. cc))
    (no_fault held _ (asking t world log) _ _ _ _ _ (λ is. cc))
    (no_lines held _ (asking t world log) _ _ _ _ _ _ _ (λ is. cc))
