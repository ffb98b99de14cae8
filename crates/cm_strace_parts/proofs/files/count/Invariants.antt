use Rattle.std.proofs.Common.{◌≡◌, ◌≤◌, ◌*◌, ◌^◌, length, take}
use Rattle.cm_strace_parts.specs.Lists.{descriptors_in}
use Rattle.cm_strace_parts.proofs.files.count.Given as goal

-- so many descriptors are in the lists so far
abbrev pub invariant-loop-files : goal.invariant-loop-files
invariant-loop-files l = record {
  sum : l.sum ≡ length (descriptors_in (take l.files-index l.list));
  few : l.sum ≤ l.files-index * 2 ^ 64;
}
