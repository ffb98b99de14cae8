use Rattle.std.proofs.Common.{take}
use Rattle.cm_script.specs.Own.{IsPlain}
use Rattle.cm_script.proofs.own.pieces.plain_len.Given as goal

-- the bytes so far are above the blank
abbrev pub invariant-loop-i : goal.invariant-loop-i
invariant-loop-i l = IsPlain (take l.i l.text)
