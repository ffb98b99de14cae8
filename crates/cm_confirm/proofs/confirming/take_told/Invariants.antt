use Rattle.std.proofs.Common.{◌≡◌, drop}
use Rattle.cm_confirm.proofs.confirming.take_told.Given as goal
use Rattle.cm_declared.specs.World.{world_of}
use Rattle.cm_log.specs.Left.{told_then}
use Rattle.cm_state.specs.Right.{right_of}
use Rattle.model_confirm.specs.Confirm.{confirm_of}
use Rattle.model_run.specs.Within.{IsWithin}
use Rattle.model_text.specs.Reading.{Reading}

-- What the whole comes to is what the events that are left come to, from where the machine and the members are.
abbrev pub invariant-loop-event : goal.invariant-loop-event
invariant-loop-event l = record {
  same : (later : Reading) → confirm_of (world_of l.fn.w) l.initial.machine.state l.initial.members (right_of l.right)
      (told_then l.told l.stage later)
      ≡ confirm_of (world_of l.fn.w) l.machine.state l.members (right_of l.right)
      (told_then (drop l.event-index l.told) l.stage later);
  within : IsWithin l.machine.state;
}
