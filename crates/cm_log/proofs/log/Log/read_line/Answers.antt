use Rattle.std.proofs.Common.{◌≡◌, subst, sym}
use Rattle.cm_base.specs.Outcome.{OrNoMemory}
use Rattle.cm_declared.specs.World.{world_of}
use Rattle.cm_lines.specs.Cut.{Cut, before}
use Rattle.cm_log.proofs.Counted.{counted_line_if, counted_read}
use Rattle.cm_log.proofs.LeftAfter.{again_if, told_if}
use Rattle.cm_log.proofs.log.Log.read_line.Goals as goal
use Rattle.cm_log.specs.Counts.{Counts}
use Rattle.cm_log.specs.Left.{left, told_then}
use Rattle.cm_log.specs.declared.log.Log.{Log}
use Rattle.cm_log.specs.declared.log.Log.TheVariants.{Script, Strace}
use Rattle.cm_log.specs.declared.strace.StraceLog.{StraceLog}
use Rattle.model_strace.specs.Rest.{rest}

pub returns-in-Script-clause-counts : goal.returns-in-Script-clause-counts
returns-in-Script-clause-counts c =
    subst (λ (log : Log). OrNoMemory c.read_line.result (λ _. Counts 1 c.read_line.new.self.events.items log
    (Script c.read_line.new.self)))
    (sym c.in-Script.is) (counted_read c.read_line.result c.in-Script.log c.read_line.new.self
    c.read_line.ensures.lines c.read_line.ensures.few)

pub returns-in-Strace-clause-told : goal.returns-in-Strace-clause-told
returns-in-Strace-clause-told c =
    let w = world_of c.args.w.now in
    let now = c.feed_line.new.self in
    let events = c.feed_line.new.events.items in
    subst (λ (log : Log). OrNoMemory c.feed_line.result (λ stage. (cut : Cut)
    → left w log (before c.args.line.now cut) ≡ told_then events stage (rest w now cut)))
    (sym c.in-Strace.is) (told_if w now c.feed_line.result events
    (λ cut. rest w c.in-Strace.log.tracer (before c.args.line.now cut))
    c.feed_line.ensures.told c.feed_line.ensures.at)

pub returns-in-Strace-clause-again : goal.returns-in-Strace-clause-again
returns-in-Strace-clause-again c =
    again_if (world_of c.args.w.now) c.feed_line.new.self c.feed_line.result c.feed_line.ensures.at

pub returns-in-Strace-clause-counts : goal.returns-in-Strace-clause-counts
returns-in-Strace-clause-counts c =
    let new : StraceLog = record { tracer = c.feed_line.new.self; events = c.feed_line.new.events } in
    subst (λ (log : Log). OrNoMemory c.feed_line.result (λ _. Counts 1 new.events.items log (Strace new)))
    (sym c.in-Strace.is) (counted_line_if (world_of c.args.w.now) c.feed_line.result c.in-Strace.log new
    c.args.line.now c.feed_line.ensures.after c.feed_line.ensures.given)
