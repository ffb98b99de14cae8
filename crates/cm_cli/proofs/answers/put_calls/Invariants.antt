use Rattle.std.proofs.Common.{◌≡◌, ◌++◌, map, drop}
use Rattle.cm_declared.specs.World.{world_of}
use Rattle.model_text.specs.Print.{event_text}
use Rattle.model_report.specs.Replay.{text_of, Plain}
use Rattle.cm_cli.proofs.answers.put_calls.Given as goal

-- The lines of the calls that are left come after what is written.
abbrev pub invariant-loop-event : goal.invariant-loop-event
invariant-loop-event l =
    l.text.items ++ text_of (map (λ e. Plain (event_text (world_of l.fn.w) e)) (drop l.event-index l.run))
    ≡ l.initial.text.items ++ text_of (map (λ e. Plain (event_text (world_of l.fn.w) e)) l.run)
