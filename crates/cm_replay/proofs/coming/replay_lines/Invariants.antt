use Rattle.std.proofs.Common.{◌≡◌, ◌≤◌, ◌+◌, ◌-◌, [], length, false, IfSome}
use Rattle.cm_base.specs.Limited.{limit_number}
use Rattle.cm_base.specs.declared.limited.Limited.TheVariants as limit
use Rattle.cm_declared.specs.World.{world_of}
use Rattle.cm_io.specs.Cutter.{Fits, ends, is_at_hand, left_of, read_to}
use Rattle.cm_io.specs.Account.{account, ReadsFile}
use Rattle.cm_io.specs.Shelf.{bytes_at}
use Rattle.cm_log.specs.Counts.{events_due, lines_read}
use Rattle.cm_log.specs.Left.{left}
use Rattle.cm_io.specs.Sink.{then_written}
use Rattle.cm_replay.proofs.Lines.{EndsIn}
use Rattle.cm_replay.proofs.Pieces.{Grown}
use Rattle.cm_replay.proofs.Told.{GonePast}
use Rattle.cm_replay.proofs.coming.replay_lines.Given as goal
use Rattle.cm_replay.specs.Following.{GoesOn, IsReady}

-- Between two lines: of what file the cutter is, and that it fits the shelf; what was read of it; that the replay and the log
-- are ready for the next line, and have numbers for it; what was written; and, where the shelf tells what it holds, that the
-- report of what is left goes on from there.
abbrev pub invariant-loop-replay : goal.invariant-loop-replay
invariant-loop-replay g l = record {
  name : l.cutter.name ≡ l.fn.cutter.name;
  line : l.cutter.line ≡ limit_number limit.Line;
  whole : l.cutter.whole ≡ limit_number limit.Log;
  fits : Fits (g.H.Shelf.held l.shelf) l.cutter;
  file : ReadsFile (account g.H.Shelf l.fn.shelf) (account g.H.Shelf l.shelf) l.fn.cutter.name (read_to l.cutter) (ends l.cutter) ⊥;
  ended : EndsIn (g.H.Shelf.held l.fn.shelf) l.fn.cutter.name l.cutter;
  first : g.K.Sink.written l.initial.out ≡ then_written (g.K.Sink.written l.fn.out) l.fn.text.items;
  waits : is_at_hand l.cutter ≡ false → l.cutter.ended ≡ false → l.text.items ≡ [];
  past : GonePast (g.H.Shelf.held l.fn.shelf) (world_of l.w) l.fn.cutter.name l.fn.replay (g.K.Sink.written l.initial.out) l.fn.log
      l.replay (record { written = g.K.Sink.written l.out; waits = l.text.items }) l.log l.cutter;
  ready : IsReady (world_of l.w) l.replay l.log;
  lines : lines_read l.log ≤ l.cutter.place;
  events : l.replay.events + events_due l.log ≤ l.cutter.place;
  place : l.cutter.place ≤ l.cutter.whole;
  shows : l.replay.shows ≡ l.fn.replay.shows;
  spaces : length l.fn.replay.machine.state.spaces ≤ length l.replay.machine.state.spaces;
  grown : Grown l.fn.replay.shows
      (record { written = g.K.Sink.written l.fn.out; waits = l.fn.text.items })
      (record { written = g.K.Sink.written l.out; waits = l.text.items });
  sink : g.K.Sink.faults l.out ≡ g.K.Sink.faults l.fn.out;
  goes : IfSome (g.H.Shelf.held l.fn.shelf) (λ files. GoesOn (world_of l.w) l.fn.replay l.replay
      (record { written = g.K.Sink.written l.fn.out; waits = l.fn.text.items })
      (record { written = g.K.Sink.written l.out; waits = l.text.items })
      (left (world_of l.w) l.fn.log (left_of l.fn.cutter (bytes_at files l.fn.cutter.name)))
      (left (world_of l.w) l.log (left_of l.cutter (bytes_at files l.fn.cutter.name))));
}

abbrev pub decreases-loop-replay : goal.decreases-loop-replay
decreases-loop-replay g l = l.cutter.whole + 1 - l.cutter.place
