use Rattle.std.proofs.Common.{arith, rules, refl, sym, ◌∙◌, ap, None, Some, Ok, Err, subst, Option}
use Rattle.std.proofs.lemmas.Result.{err_from_is_err_and}
use Rattle.cm_declared.specs.World.{world_of}
use Rattle.cm_io.proofs.FileReads.{none_read}
use Rattle.cm_io.specs.Cutter.{Fits, GoesPast}
use Rattle.cm_io.specs.Shelf.{Files}
use Rattle.cm_lines.specs.Cut.{before, ends_by}
use Rattle.cm_lines.specs.declared.limits.Past.TheVariants.{Line, Whole}
use Rattle.cm_log.specs.Left.{left}
use Rattle.cm_replay.proofs.Lines.{begun_ends, ended_left, file_ended, file_on, line_cut, line_ends, line_file, line_goes, line_is_short}
use Rattle.cm_replay.proofs.Ending.{comes_answers, report_answers}
use Rattle.cm_replay.proofs.Pieces.{end_given, gone_cut, gone_on, gone_sent, gone_start, gone_to_end, gone_to_line, grown_first, grown_more, keeps_at_end}
use Rattle.cm_replay.proofs.Pieces.{line_given, none_sends, sends_by}
use Rattle.cm_replay.proofs.Stopping.{err_as, stops_at, stops_no_read}
use Rattle.cm_replay.proofs.Told.{past_line, past_none, past_sent, sent_first, tells_taken}
use Rattle.cm_replay.proofs.coming.replay_lines.Goals as goal
use Rattle.cm_replay.specs.Following.{Outgoing}
use Rattle.cm_replay.specs.Untold.{untold_by}

-- before the first line
pub loop-replay-init : goal.loop-replay-init
loop-replay-init g c =
    let held = g.H.Shelf.held c.args.shelf.now in
    let w = world_of c.args.w.now in
    let name = c.args.cutter.now.name in
    let begun : Outgoing = record { written = g.K.Sink.written c.args.out.now; waits = c.args.text.now.items } in
    let now : Outgoing = record { written = g.K.Sink.written c.send.new.out; waits = c.send.new.text.items } in
    let begins = c.requires.begins in
    let sent = c.in_ok-send.ensures.sent in
    let empty = c.in_ok-send.ensures.empty in
    record {
      name = refl;
      line = search rules;
      whole = search rules;
      fits = c.requires.fits;
      file = none_read _ name _ _ ⊥ (λ never. never);
      ended = begun_ends held name _ _ _ _ begins.cut;
      first = sent_first _ _ _ _ sent empty;
      waits = λ _ _. empty;
      past = past_none held w name c.args.replay.now _ c.args.log.now _ _ _ _ _ empty begins.cut;
      ready = begins.ready;
      lines = search rules;
      events = search rules;
      place = search rules;
      shows = refl;
      spaces = omega arith;
      grown = grown_first c.args.replay.now.shows begun now sent empty;
      sink = search rules;
      goes = gone_sent held w c.args.replay.now begun c.args.log.now c.args.cutter.now c.args.replay.now begun
          c.args.log.now c.args.cutter.now _ _
          (gone_start held w c.args.replay.now begun c.args.log.now c.args.cutter.now) sent;
    }

-- what waited couldn't be sent before the first read
pub returns-in_err-send : goal.returns-in_err-send
returns-in_err-send g c =
    let p = err_from_is_err_and c.from_residual.result c.from_residual.ensures.1 in
    let held = g.H.Shelf.held c.args.shelf.now in
    let w = world_of c.args.w.now in
    let begun : Outgoing = record { written = g.K.Sink.written c.args.out.now; waits = c.args.text.now.items } in
    rw (p.1, p.2) (record {
      told = gone_cut held w c.args.replay.now begun c.args.log.now c.args.cutter.now c.args.replay.now begun
          (record { written = g.K.Sink.written c.send.new.out; waits = c.send.new.text.items }) c.args.log.now c.args.cutter.now
          c.args.replay.now (untold_by c.in_err-send.field-0.0)
          (gone_start held w c.args.replay.now begun c.args.log.now c.args.cutter.now) c.in_err-send.ensures.front;
      sends = none_sends c.args.replay.now.shows (g.K.Sink.written c.args.out.now) (g.K.Sink.written c.send.new.out)
          c.args.text.now.items c.send.new.text.items (Err (untold_by c.in_err-send.field-0.0)) (untold_by c.in_err-send.field-0.0) refl
          (stops_no_read _ _ refl);
      tells = λ is. absurd (stops_no_read _ _ refl is);
      answers = tt;
      keeps = tt;
      cause = stops_at _ _ _ _ refl c.in_err-send.ensures.cause;
      file = none_read _ c.args.cutter.now.name _ _ _ (stops_no_read _ _ refl);
    })

-- the line is within its limit
pub replay_line-requires-clause-line : goal.replay_line-requires-clause-line
replay_line-requires-clause-line g c =
    line_is_short c.in-Ok-Some.line _ _ c.loop-replay.invariant.line (c.in-Ok-Some.is ∙ ap (λ o. Ok o) c.in-Ok-Some.field-0-is)
    c.next_line.ensures.short

-- the report ends with the line
pub returns-in-Ends-clause-told : goal.returns-in-Ends-clause-told
returns-in-Ends-clause-told g c =
    let held = g.H.Shelf.held c.args.shelf.now in
    let w = world_of c.args.w.now in
    let begun : Outgoing = record { written = g.K.Sink.written c.args.out.now; waits = c.args.text.now.items } in
    let inv = c.loop-replay.invariant in
    let is = c.in-Ok-Some.is ∙ ap (λ o. Ok o) c.in-Ok-Some.field-0-is in
    let after = c.next_line.follows.holds-at-none in
    let follows = rw c.in-Ends.is at c.in_ok-replay_line-in-Ok-Some.ensures.follows in
    gone_to_line held w c.args.replay.now begun c.args.log.now c.args.cutter.now c.loop-replay.replay
    c.replay_line.new.replay _ _ c.loop-replay.log c.loop-replay.cutter c.next_line.follows.lender-at-none
    c.in-Ok-Some.line.now (Ok c.in-Ends.status) inv.goes
    (line_given _ held c.loop-replay.cutter c.next_line.follows.lender-at-none _ c.in-Ok-Some.line _ inv.file.held inv.name is after.gives)
    (λ cut. follows cut)

pub returns-in-Ends-clause-sends : goal.returns-in-Ends-clause-sends
returns-in-Ends-clause-sends g c =
    let w = world_of c.args.w.now in
    let inv = c.loop-replay.invariant in
    let follows = rw c.in-Ends.is at c.in_ok-replay_line-in-Ok-Some.ensures.follows in
    sends_by c.args.replay.now.shows w c.loop-replay.replay c.replay_line.new.replay
    (record { written = g.K.Sink.written c.args.out.now; waits = c.args.text.now.items })
    (record { written = g.K.Sink.written c.loop-replay.out; waits = c.loop-replay.text.items })
    (record { written = g.K.Sink.written c.replay_line.new.out; waits = c.replay_line.new.text.items })
    (left w c.loop-replay.log (before c.in-Ok-Some.line.now (ends_by None))) (Ok c.in-Ends.status) inv.shows inv.grown (follows (ends_by None))
    (λ never. absurd (cc))

pub returns-in-Ends-clause-answers : goal.returns-in-Ends-clause-answers
returns-in-Ends-clause-answers g c =
    let w = world_of c.args.w.now in
    let follows = rw c.in-Ends.is at c.in_ok-replay_line-in-Ok-Some.ensures.follows in
    report_answers w c.loop-replay.replay (left w c.loop-replay.log (before c.in-Ok-Some.line.now (ends_by None))) c.in-Ends.status
    (follows (ends_by None)).status

pub returns-in-Ends-clause-keeps : goal.returns-in-Ends-clause-keeps
returns-in-Ends-clause-keeps g c =
    let w = world_of c.args.w.now in
    let inv = c.loop-replay.invariant in
    let follows = rw c.in-Ends.is at c.in_ok-replay_line-in-Ok-Some.ensures.follows in
    keeps_at_end w c.args.replay.now c.loop-replay.replay c.replay_line.new.replay _ _
    (left w c.loop-replay.log (before c.in-Ok-Some.line.now (ends_by None))) (Ok c.in-Ends.status) inv.spaces inv.ready.within (follows (ends_by None))

pub returns-in_err-replay_line-in-Ok-Some-clause-told : goal.returns-in_err-replay_line-in-Ok-Some-clause-told
returns-in_err-replay_line-in-Ok-Some-clause-told g c =
    let held = g.H.Shelf.held c.args.shelf.now in
    let w = world_of c.args.w.now in
    let begun : Outgoing = record { written = g.K.Sink.written c.args.out.now; waits = c.args.text.now.items } in
    let inv = c.loop-replay.invariant in
    let is = c.in-Ok-Some.is ∙ ap (λ o. Ok o) c.in-Ok-Some.field-0-is in
    let after = c.next_line.follows.holds-at-none in
    let p = err_from_is_err_and c.from_residual-in_err-replay_line-in-Ok-Some.result c.from_residual-in_err-replay_line-in-Ok-Some.ensures.1 in
    rw p.1 (gone_to_line held w c.args.replay.now begun c.args.log.now c.args.cutter.now c.loop-replay.replay
    c.replay_line.new.replay (record { written = g.K.Sink.written c.loop-replay.out; waits = c.loop-replay.text.items })
    (record { written = g.K.Sink.written c.replay_line.new.out; waits = c.replay_line.new.text.items }) c.loop-replay.log
    c.loop-replay.cutter c.next_line.follows.lender-at-none c.in-Ok-Some.line.now (Err p.0) inv.goes
    (line_given _ held c.loop-replay.cutter c.next_line.follows.lender-at-none _ c.in-Ok-Some.line _ inv.file.held inv.name is after.gives)
    (λ cut. c.in_err-replay_line-in-Ok-Some.ensures.follows cut))

-- what waited couldn't be sent after the line
pub returns-in_err-send_unless-clause-told : goal.returns-in_err-send_unless-clause-told
returns-in_err-send_unless-clause-told g c =
    let held = g.H.Shelf.held c.args.shelf.now in
    let w = world_of c.args.w.now in
    let begun : Outgoing = record { written = g.K.Sink.written c.args.out.now; waits = c.args.text.now.items } in
    let inv = c.loop-replay.invariant in
    let is = c.in-Ok-Some.is ∙ ap (λ o. Ok o) c.in-Ok-Some.field-0-is in
    let after = c.next_line.follows.holds-at-none in
    let follows = rw c.in-Goes.is at c.in_ok-replay_line-in-Ok-Some.ensures.follows in
    let p = err_from_is_err_and c.from_residual-in_err-send_unless.result c.from_residual-in_err-send_unless.ensures.1 in
    rw p.1 (gone_cut held w c.args.replay.now begun c.args.log.now c.args.cutter.now c.replay_line.new.replay
    (record { written = g.K.Sink.written c.replay_line.new.out; waits = c.replay_line.new.text.items })
    (record { written = g.K.Sink.written c.send_unless.new.out; waits = c.send_unless.new.text.items }) c.replay_line.new.log
    c.next_line.follows.lender-at-none c.replay_line.new.replay p.0
    (gone_on held w c.args.replay.now begun c.args.log.now c.args.cutter.now c.loop-replay.replay
    c.replay_line.new.replay _ _ c.loop-replay.log c.replay_line.new.log c.loop-replay.cutter
    c.next_line.follows.lender-at-none c.in-Ok-Some.line.now inv.goes
    (line_given _ held c.loop-replay.cutter c.next_line.follows.lender-at-none _ c.in-Ok-Some.line _ inv.file.held inv.name is after.gives)
    (λ cut. follows cut))
    c.in_err-send_unless.ensures.front)

-- the line before was the last one
pub returns-then-has_ended-clause-told : goal.returns-then-has_ended-clause-told
returns-then-has_ended-clause-told g c =
    let held = g.H.Shelf.held c.args.shelf.now in
    let w = world_of c.args.w.now in
    let begun : Outgoing = record { written = g.K.Sink.written c.args.out.now; waits = c.args.text.now.items } in
    let inv = c.loop-replay.invariant in
    gone_to_end held w c.args.replay.now begun c.args.log.now c.args.cutter.now c.loop-replay.replay
    c.replay_end.new.replay _ _ c.loop-replay.log c.loop-replay.cutter None _ inv.goes
    (ended_left held c.loop-replay.cutter c.args.cutter.now.name inv.ended
    (sym c.has_ended.ensures ∙ c.if-has_ended.true))
    c.replay_end.ensures.told

pub returns-then-has_ended-clause-sends : goal.returns-then-has_ended-clause-sends
returns-then-has_ended-clause-sends g c =
    let w = world_of c.args.w.now in
    let inv = c.loop-replay.invariant in
    sends_by c.args.replay.now.shows w c.loop-replay.replay c.replay_end.new.replay
    (record { written = g.K.Sink.written c.args.out.now; waits = c.args.text.now.items })
    (record { written = g.K.Sink.written c.loop-replay.out; waits = c.loop-replay.text.items })
    (record { written = g.K.Sink.written c.replay_end.new.out; waits = c.replay_end.new.text.items })
    (left w c.loop-replay.log (ends_by None)) c.replay_end.result inv.shows inv.grown c.replay_end.ensures.told
    (λ is. absurd (c.replay_end.ensures.no_read_fault is))

pub returns-then-has_ended-clause-answers : goal.returns-then-has_ended-clause-answers
returns-then-has_ended-clause-answers g c =
    comes_answers (world_of c.args.w.now) c.loop-replay.replay c.replay_end.new.replay _ _ _ c.replay_end.result c.replay_end.ensures.told

pub returns-then-has_ended-clause-keeps : goal.returns-then-has_ended-clause-keeps
returns-then-has_ended-clause-keeps g c =
    keeps_at_end (world_of c.args.w.now) c.args.replay.now c.loop-replay.replay c.replay_end.new.replay _ _ _ c.replay_end.result
    c.loop-replay.invariant.spaces c.loop-replay.invariant.ready.within c.replay_end.ensures.told

-- the log ends
pub returns-in-Ok-None-clause-told : goal.returns-in-Ok-None-clause-told
returns-in-Ok-None-clause-told g c =
    let held = g.H.Shelf.held c.args.shelf.now in
    let w = world_of c.args.w.now in
    let begun : Outgoing = record { written = g.K.Sink.written c.args.out.now; waits = c.args.text.now.items } in
    let inv = c.loop-replay.invariant in
    gone_to_end held w c.args.replay.now begun c.args.log.now c.args.cutter.now c.loop-replay.replay
    c.replay_end-in-Ok-None.new.replay _ _ c.loop-replay.log c.loop-replay.cutter None _ inv.goes
    (end_given _ held c.loop-replay.cutter c.next_line.follows.lender-at-none _ None _ inv.file.held inv.name
    (c.in-Ok-None.is ∙ ap (λ o. Ok o) c.in-Ok-None.field-0-is) c.next_line.follows.holds-at-none.gives)
    c.replay_end-in-Ok-None.ensures.told

pub returns-in-Ok-None-clause-sends : goal.returns-in-Ok-None-clause-sends
returns-in-Ok-None-clause-sends g c =
    let w = world_of c.args.w.now in
    let inv = c.loop-replay.invariant in
    sends_by c.args.replay.now.shows w c.loop-replay.replay c.replay_end-in-Ok-None.new.replay
    (record { written = g.K.Sink.written c.args.out.now; waits = c.args.text.now.items })
    (record { written = g.K.Sink.written c.loop-replay.out; waits = c.loop-replay.text.items })
    (record { written = g.K.Sink.written c.replay_end-in-Ok-None.new.out; waits = c.replay_end-in-Ok-None.new.text.items })
    (left w c.loop-replay.log (ends_by None)) c.replay_end-in-Ok-None.result inv.shows inv.grown c.replay_end-in-Ok-None.ensures.told
    (λ is. absurd (c.replay_end-in-Ok-None.ensures.no_read_fault is))

pub returns-in-Ok-None-clause-answers : goal.returns-in-Ok-None-clause-answers
returns-in-Ok-None-clause-answers g c =
    comes_answers (world_of c.args.w.now) c.loop-replay.replay c.replay_end-in-Ok-None.new.replay _ _ _ c.replay_end-in-Ok-None.result c.replay_end-in-Ok-None.ensures.told

pub returns-in-Ok-None-clause-keeps : goal.returns-in-Ok-None-clause-keeps
returns-in-Ok-None-clause-keeps g c =
    keeps_at_end (world_of c.args.w.now) c.args.replay.now c.loop-replay.replay c.replay_end-in-Ok-None.new.replay _ _ _ c.replay_end-in-Ok-None.result
    c.loop-replay.invariant.spaces c.loop-replay.invariant.ready.within c.replay_end-in-Ok-None.ensures.told

-- a line is past a limit
pub returns-in-Err-TooLong-clause-told : goal.returns-in-Err-TooLong-clause-told
returns-in-Err-TooLong-clause-told g c =
    let held = g.H.Shelf.held c.args.shelf.now in
    let w = world_of c.args.w.now in
    let begun : Outgoing = record { written = g.K.Sink.written c.args.out.now; waits = c.args.text.now.items } in
    let inv = c.loop-replay.invariant in
    gone_to_end held w c.args.replay.now begun c.args.log.now c.args.cutter.now c.loop-replay.replay
    c.replay_end-in-Err-TooLong.new.replay _ _ c.loop-replay.log c.loop-replay.cutter (Some Line) _ inv.goes
    (end_given _ held c.loop-replay.cutter c.next_line.follows.lender-at-none _ (Some Line) _ inv.file.held inv.name
    (c.in-Err-TooLong.is ∙ ap (λ o. Err o) c.in-Err-TooLong.field-0-is) c.next_line.follows.holds-at-none.gives)
    c.replay_end-in-Err-TooLong.ensures.told

pub returns-in-Err-TooLong-clause-answers : goal.returns-in-Err-TooLong-clause-answers
returns-in-Err-TooLong-clause-answers g c =
    comes_answers (world_of c.args.w.now) c.loop-replay.replay c.replay_end-in-Err-TooLong.new.replay _ _ _ c.replay_end-in-Err-TooLong.result
    c.replay_end-in-Err-TooLong.ensures.told

pub returns-in-Err-TooLong-clause-sends : goal.returns-in-Err-TooLong-clause-sends
returns-in-Err-TooLong-clause-sends g c =
    let w = world_of c.args.w.now in
    let inv = c.loop-replay.invariant in
    sends_by c.args.replay.now.shows w c.loop-replay.replay c.replay_end-in-Err-TooLong.new.replay
    (record { written = g.K.Sink.written c.args.out.now; waits = c.args.text.now.items })
    (record { written = g.K.Sink.written c.loop-replay.out; waits = c.loop-replay.text.items })
    (record { written = g.K.Sink.written c.replay_end-in-Err-TooLong.new.out; waits = c.replay_end-in-Err-TooLong.new.text.items })
    (left w c.loop-replay.log (ends_by (Some Line))) c.replay_end-in-Err-TooLong.result inv.shows inv.grown c.replay_end-in-Err-TooLong.ensures.told
    (λ is. absurd (c.replay_end-in-Err-TooLong.ensures.no_read_fault is))

pub returns-in-Err-TooMuch-clause-told : goal.returns-in-Err-TooMuch-clause-told
returns-in-Err-TooMuch-clause-told g c =
    let held = g.H.Shelf.held c.args.shelf.now in
    let w = world_of c.args.w.now in
    let begun : Outgoing = record { written = g.K.Sink.written c.args.out.now; waits = c.args.text.now.items } in
    let inv = c.loop-replay.invariant in
    gone_to_end held w c.args.replay.now begun c.args.log.now c.args.cutter.now c.loop-replay.replay
    c.replay_end-in-Err-TooMuch.new.replay _ _ c.loop-replay.log c.loop-replay.cutter (Some Whole) _ inv.goes
    (end_given _ held c.loop-replay.cutter c.next_line.follows.lender-at-none _ (Some Whole) _ inv.file.held inv.name
    (c.in-Err-TooMuch.is ∙ ap (λ o. Err o) c.in-Err-TooMuch.field-0-is) c.next_line.follows.holds-at-none.gives)
    c.replay_end-in-Err-TooMuch.ensures.told

pub returns-in-Err-TooMuch-clause-answers : goal.returns-in-Err-TooMuch-clause-answers
returns-in-Err-TooMuch-clause-answers g c =
    comes_answers (world_of c.args.w.now) c.loop-replay.replay c.replay_end-in-Err-TooMuch.new.replay _ _ _ c.replay_end-in-Err-TooMuch.result
    c.replay_end-in-Err-TooMuch.ensures.told

pub returns-in-Err-TooMuch-clause-sends : goal.returns-in-Err-TooMuch-clause-sends
returns-in-Err-TooMuch-clause-sends g c =
    let w = world_of c.args.w.now in
    let inv = c.loop-replay.invariant in
    sends_by c.args.replay.now.shows w c.loop-replay.replay c.replay_end-in-Err-TooMuch.new.replay
    (record { written = g.K.Sink.written c.args.out.now; waits = c.args.text.now.items })
    (record { written = g.K.Sink.written c.loop-replay.out; waits = c.loop-replay.text.items })
    (record { written = g.K.Sink.written c.replay_end-in-Err-TooMuch.new.out; waits = c.replay_end-in-Err-TooMuch.new.text.items })
    (left w c.loop-replay.log (ends_by (Some Whole))) c.replay_end-in-Err-TooMuch.result inv.shows inv.grown c.replay_end-in-Err-TooMuch.ensures.told
    (λ is. absurd (c.replay_end-in-Err-TooMuch.ensures.no_read_fault is))

-- a line more
pub loop-replay-preserved : goal.loop-replay-preserved
loop-replay-preserved g c =
    let held = g.H.Shelf.held c.args.shelf.now in
    let w = world_of c.args.w.now in
    let name = c.args.cutter.now.name in
    let begun : Outgoing = record { written = g.K.Sink.written c.args.out.now; waits = c.args.text.now.items } in
    let inv = c.loop-replay.invariant in
    let is = c.in-Ok-Some.is ∙ ap (λ o. Ok o) c.in-Ok-Some.field-0-is in
    let new = c.next_line.follows.lender-at-none in
    let after = c.next_line.follows.holds-at-none in
    let goes = rw c.in-Goes.is at c.in_ok-replay_line-in-Ok-Some.ensures.follows in
    let one = goes (ends_by None) in
    let told = (rw c.in-Goes.is at c.in_ok-replay_line-in-Ok-Some.ensures.advances) refl in
    let open_ = sym c.has_ended.ensures ∙ c.if-has_ended.false in
    let past : GoesPast _ c.loop-replay.cutter new c.in-Ok-Some.line.now = line_goes _ c.loop-replay.cutter new c.in-Ok-Some.line _ is after.moves in
    let whole = after.same.whole in
    let sent : Outgoing = record { written = g.K.Sink.written c.replay_line.new.out; waits = c.replay_line.new.text.items } in
    record {
      name = after.same.name ∙ inv.name;
      line = after.same.line ∙ inv.line;
      whole = whole ∙ inv.whole;
      fits = subst (λ (h : Option Files). Fits h new) (sym c.next_line.ensures.file.held) after.fits;
      file = line_file _ _ _ name c.loop-replay.cutter new c.in-Ok-Some.line _ _ _ inv.name is open_ inv.file after c.next_line.ensures.file;
      ended = line_ends held _ name c.loop-replay.cutter new c.in-Ok-Some.line _ is inv.file.held inv.name after.last after.whole;
      first = inv.first;
      waits = c.in_ok-send_unless.ensures.none_waits;
      past = past_sent held w name c.args.replay.now _ c.args.log.now c.replay_line.new.replay sent c.replay_line.new.log new _ _
          (past_line held w name c.args.replay.now _ c.args.log.now c.loop-replay.replay c.replay_line.new.replay _ sent c.loop-replay.log c.replay_line.new.log
          c.loop-replay.cutter new c.in-Ok-Some.line.now _ inv.past open_ inv.file.held inv.name
          (line_cut _ c.loop-replay.cutter c.in-Ok-Some.line _ is c.next_line.ensures.cut) past.place past.lf (λ cut. goes cut))
          c.in_ok-send_unless.ensures.sent;
      ready = told.ready;
      lines = omega (arith, told.lines, inv.lines, past.on);
      events = omega (arith, told.events, inv.events, past.on);
      place = omega (arith, past.within, whole);
      shows = one.shows ∙ inv.shows;
      spaces = let first = inv.spaces in let second = one.spaces in omega (arith, first, second);
      grown = grown_more c.args.replay.now.shows begun sent _ _ _
          (grown_more c.args.replay.now.shows begun _ sent _ _ inv.grown one.sent (λ none. one.quiet (inv.shows ∙ none)))
          c.in_ok-send_unless.ensures.sent (λ _. c.in_ok-send_unless.ensures.sent);
      sink = c.in_ok-send_unless.ensures.cause.ok ∙ c.in_ok-replay_line-in-Ok-Some.ensures.cause.others (λ is. cc) ∙ inv.sink;
      goes = gone_sent held w c.args.replay.now begun c.args.log.now c.args.cutter.now c.replay_line.new.replay sent
          c.replay_line.new.log new _ _ (gone_on held w c.args.replay.now begun c.args.log.now c.args.cutter.now
          c.loop-replay.replay c.replay_line.new.replay _ sent c.loop-replay.log c.replay_line.new.log
          c.loop-replay.cutter new c.in-Ok-Some.line.now inv.goes
          (line_given _ held c.loop-replay.cutter new name c.in-Ok-Some.line _ inv.file.held inv.name is after.gives) (λ cut. goes cut))
          c.in_ok-send_unless.ensures.sent;
    }

-- a read failed: what is told of the lines before is sent
pub returns-in-Err-Read-clause-tells : goal.returns-in-Err-Read-clause-tells
returns-in-Err-Read-clause-tells g c fault =
    let held = g.H.Shelf.held c.args.shelf.now in
    let w = world_of c.args.w.now in
    let name = c.args.cutter.now.name in
    let inv = c.loop-replay.invariant in
    let open_ = sym c.has_ended.ensures ∙ c.if-has_ended.false in
    let is = c.in-Err-Read.is ∙ ap (λ o. Err o) c.in-Err-Read.field-0-is in
    tells_taken held _ w name c.args.replay.now c.loop-replay.replay (g.K.Sink.written c.args.out.now) _ c.args.log.now c.loop-replay.log
    (record { written = g.K.Sink.written c.loop-replay.out; waits = c.loop-replay.text.items }) c.loop-replay.cutter c.args.text.now.items
    (g.H.Shelf.taken c.args.shelf.now) (g.H.Shelf.taken c.loop-replay.shelf) (g.H.Shelf.taken c.next_line.new.shelf)
    inv.past (inv.waits (c.next_line.ensures.wants is) open_) open_ inv.file.held inv.name inv.first inv.file.takes.here
    (c.next_line.ensures.breaks is)

-- ---- what was read of the log
pub returns-then-has_ended-clause-file : goal.returns-then-has_ended-clause-file
returns-then-has_ended-clause-file g c =
    let inv = c.loop-replay.invariant in
    file_ended _ _ _ c.args.cutter.now.name c.loop-replay.cutter inv.whole inv.place inv.ended
    (sym c.has_ended.ensures ∙ c.if-has_ended.true) inv.file c.replay_end.ensures.no_read_fault

pub returns-in-Ends-clause-file : goal.returns-in-Ends-clause-file
returns-in-Ends-clause-file g c =
    let inv = c.loop-replay.invariant in
    let open_ = sym c.has_ended.ensures ∙ c.if-has_ended.false in
    let is = c.in-Ok-Some.is ∙ ap (λ o. Ok o) c.in-Ok-Some.field-0-is in
    file_on _ _ _ _ c.loop-replay.cutter _ inv.name inv.whole open_ c.next_line.ensures.few inv.file c.next_line.ensures.file
    (λ bad. let two = sym is ∙ bad in cc) (λ bad. absurd (cc))

pub returns-in_err-replay_line-in-Ok-Some-clause-file : goal.returns-in_err-replay_line-in-Ok-Some-clause-file
returns-in_err-replay_line-in-Ok-Some-clause-file g c =
    let p = err_from_is_err_and c.from_residual-in_err-replay_line-in-Ok-Some.result c.from_residual-in_err-replay_line-in-Ok-Some.ensures.1 in
    let inv = c.loop-replay.invariant in
    let open_ = sym c.has_ended.ensures ∙ c.if-has_ended.false in
    let is = c.in-Ok-Some.is ∙ ap (λ o. Ok o) c.in-Ok-Some.field-0-is in
    rw (p.1, p.2) (file_on _ _ _ _ c.loop-replay.cutter _ inv.name inv.whole open_ c.next_line.ensures.few inv.file c.next_line.ensures.file
    (λ bad. let two = sym is ∙ bad in cc)
    (λ bad. absurd (c.in_err-replay_line-in-Ok-Some.ensures.no_read_fault (err_as _ _ _ _ refl refl bad))))

pub returns-in_err-send_unless-clause-file : goal.returns-in_err-send_unless-clause-file
returns-in_err-send_unless-clause-file g c =
    let p = err_from_is_err_and c.from_residual-in_err-send_unless.result c.from_residual-in_err-send_unless.ensures.1 in
    let inv = c.loop-replay.invariant in
    let open_ = sym c.has_ended.ensures ∙ c.if-has_ended.false in
    let is = c.in-Ok-Some.is ∙ ap (λ o. Ok o) c.in-Ok-Some.field-0-is in
    rw (p.1, p.2) (file_on _ _ _ _ c.loop-replay.cutter _ inv.name inv.whole open_ c.next_line.ensures.few inv.file c.next_line.ensures.file
    (λ bad. let two = sym is ∙ bad in cc) (λ bad. absurd (stops_no_read _ _ refl bad)))

pub returns-in-Ok-None-clause-file : goal.returns-in-Ok-None-clause-file
returns-in-Ok-None-clause-file g c =
    let inv = c.loop-replay.invariant in
    let open_ = sym c.has_ended.ensures ∙ c.if-has_ended.false in
    let is = c.in-Ok-None.is ∙ ap (λ o. Ok o) c.in-Ok-None.field-0-is in
    file_on _ _ _ _ c.loop-replay.cutter _ inv.name inv.whole open_ c.next_line.ensures.few inv.file c.next_line.ensures.file
    (λ bad. let two = sym is ∙ bad in cc) (λ bad. absurd (c.replay_end-in-Ok-None.ensures.no_read_fault bad))

pub returns-in-Err-TooLong-clause-file : goal.returns-in-Err-TooLong-clause-file
returns-in-Err-TooLong-clause-file g c =
    let inv = c.loop-replay.invariant in
    let open_ = sym c.has_ended.ensures ∙ c.if-has_ended.false in
    let is = c.in-Err-TooLong.is ∙ ap (λ o. Err o) c.in-Err-TooLong.field-0-is in
    file_on _ _ _ _ c.loop-replay.cutter _ inv.name inv.whole open_ c.next_line.ensures.few inv.file c.next_line.ensures.file
    (λ bad. let two = sym is ∙ bad in cc) (λ bad. absurd (c.replay_end-in-Err-TooLong.ensures.no_read_fault bad))

pub returns-in-Err-TooMuch-clause-file : goal.returns-in-Err-TooMuch-clause-file
returns-in-Err-TooMuch-clause-file g c =
    let inv = c.loop-replay.invariant in
    let open_ = sym c.has_ended.ensures ∙ c.if-has_ended.false in
    let is = c.in-Err-TooMuch.is ∙ ap (λ o. Err o) c.in-Err-TooMuch.field-0-is in
    file_on _ _ _ _ c.loop-replay.cutter _ inv.name inv.whole open_ c.next_line.ensures.few inv.file c.next_line.ensures.file
    (λ bad. let two = sym is ∙ bad in cc) (λ bad. absurd (c.replay_end-in-Err-TooMuch.ensures.no_read_fault bad))

pub returns-in-Err-Read-clause-file : goal.returns-in-Err-Read-clause-file
returns-in-Err-Read-clause-file g c =
    let inv = c.loop-replay.invariant in
    let open_ = sym c.has_ended.ensures ∙ c.if-has_ended.false in
    file_on _ _ _ _ c.loop-replay.cutter _ inv.name inv.whole open_ c.next_line.ensures.few inv.file c.next_line.ensures.file
    (λ _. refl) (λ _. c.in-Err-Read.is ∙ ap (λ o. Err o) c.in-Err-Read.field-0-is)

pub returns-in-Err-NoMemory-clause-file : goal.returns-in-Err-NoMemory-clause-file
returns-in-Err-NoMemory-clause-file g c =
    let inv = c.loop-replay.invariant in
    let open_ = sym c.has_ended.ensures ∙ c.if-has_ended.false in
    let is = c.in-Err-NoMemory.is ∙ ap (λ o. Err o) c.in-Err-NoMemory.field-0-is in
    file_on _ _ _ _ c.loop-replay.cutter _ inv.name inv.whole open_ c.next_line.ensures.few inv.file c.next_line.ensures.file
    (λ bad. let two = sym is ∙ bad in cc) (λ bad. absurd (cc))
