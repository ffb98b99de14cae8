use Rattle.std.proofs.Common.{◌≡◌, ◌++◌, length}
use Rattle.std.specs.Prelude.{option_map}
use Rattle.cm_strace_parts.proofs.written.read_extents.Given as goal
use Rattle.model_strace.specs.Files.{extents_of, written_extents}
use Rattle.cm_lines.specs.Lines.{lines_of}

-- the extents so far, and those of the rest, are those of the text
abbrev pub invariant-loop-line : goal.invariant-loop-line
invariant-loop-line l = option_map (λ more. l.list.items ++ more) (extents_of (lines_of l.rest))
    ≡ written_extents l.text

abbrev pub decreases-loop-line : goal.decreases-loop-line
decreases-loop-line l = length l.rest
