use Rattle.std.proofs.Common.{◌≡◌, ◌<◌, ◌+◌, ◌^◌, length}
use Rattle.cm_base.specs.Limited.{limit_number}
use Rattle.cm_base.specs.declared.limited.Limited.TheVariants as limit
use Rattle.cm_confirm.proofs.confirming.confirm.Given as goal
use Rattle.cm_confirm.specs.Lines.{lines_come}
use Rattle.cm_declared.specs.World.{world_of}
use Rattle.cm_lines.specs.Lines.{lines_of}
use Rattle.cm_log.specs.Counts.{lines_read}
use Rattle.cm_log.specs.Left.{left, IsScript}
use Rattle.cm_state.specs.Right.{right_of}
use Rattle.model_confirm.specs.Confirm.{confirm_of}
use Rattle.model_run.specs.Within.{IsWithin}
use Rattle.model_text.specs.Reading.{script_reading}

-- What the whole run comes to is what is left of it comes to, from where the machine and the members are.
abbrev pub invariant-loop-line : goal.invariant-loop-line
invariant-loop-line l = record {
  same : confirm_of (world_of l.fn.w) l.initial.machine.state l.initial.members (right_of l.right) (script_reading (world_of l.fn.w) l.text)
      ≡ confirm_of (world_of l.fn.w) l.machine.state l.members (right_of l.right)
      (left (world_of l.fn.w) l.run (lines_come (limit_number limit.Line) (lines_of l.rest)));
  within : IsWithin l.machine.state;
  script : IsScript l.run;
  lines : lines_read l.run + length l.rest < 2 ^ 31;
}

abbrev pub decreases-loop-line : goal.decreases-loop-line
decreases-loop-line l = length l.rest
