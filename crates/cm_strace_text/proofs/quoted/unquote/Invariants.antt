use Rattle.std.proofs.Common.{◌≡◌, length}
use Rattle.std.specs.Prelude.{option_map}
use Rattle.cm_strace_text.proofs.quoted.unquote.Given as goal
use Rattle.cm_strace_text.specs.Quotes.{reach_is, IsShort}
use Rattle.model_strace.specs.Quoted.{Text, after_bytes, unquoted}

-- the bytes that were read, and those that the rest gives, are those of all
abbrev pub invariant-loop-rest : goal.invariant-loop-rest
invariant-loop-rest l = record {
  read : option_map (after_bytes l.bytes.items) (unquoted (reach_is l.reach) l.rest) ≡ unquoted Text l.fn.text;
  short : IsShort l.reach;
}

abbrev pub decreases-loop-rest : goal.decreases-loop-rest
decreases-loop-rest l = length l.rest
