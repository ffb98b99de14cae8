use Rattle.std.proofs.Common.{ap, sym, inl, inr}
use Rattle.std.specs.Result.{result_ok}
use Rattle.cm_values.proofs.file_parts.bytes_of_hex.Goals as goal

pub returns-in_default : goal.returns-in_default
returns-in_default c =
    elim c.in-Err.ensures.err [
      | inl memory ↦ absurd (c.in_default.not-OutOfMemory memory)
      | inr is ↦ sym (ap result_ok is)
    ]
