use Rattle.std.proofs.Common.{◌≡◌, take}
use Rattle.std.specs.List.{fold}
use Rattle.cm_files.specs.Index.{with_byte}
use Rattle.cm_files.proofs.index.path_key.Given as goal

-- the key of the bytes so far
abbrev pub invariant-loop-byte : goal.invariant-loop-byte
invariant-loop-byte l = l.key ≡ fold with_byte 0 (take l.byte-index l.last)
