-- The session that goes on, step by step.
use Rattle.std.specs.Prelude.{ℕ, ◌+◌, Bool, false, length, List}
use Rattle.std.specs.List.{list_any}
use Rattle.cm_strace.specs.Deeds.{line_turn}
use Rattle.cm_strace.specs.declared.deed.Deed.{Deed}
use Rattle.cm_strace.specs.declared.deed.Deed.TheVariants as deed
use Rattle.cm_strace.specs.declared.deed.Origin.{Origin}
use Rattle.model_cred.specs.World.{World}
use Rattle.model_strace.specs.After.{After, and_then}
use Rattle.model_strace.specs.Lines.{Line, is_line_of, given_at}
use Rattle.model_strace.specs.Rest.{Work, released}

-- how many user namespaces there are or may still come of the held lines, each of which makes one at most
abbrev pub uses : Work → ℕ
uses t = t.parts.spaces + length t.held

-- lines are held of the child that a deed bears
abbrev pub awaits : List Line → Deed → Bool
awaits held (deed.Bears birth) = list_any (is_line_of birth.child) held
awaits held _ = false

-- the deed of a line is done, and after it the held lines of a child are read
abbrev pub concluded : World → Origin → Deed → Work → After Work
concluded w origin d t =
    and_then (given_at origin.line (line_turn origin d t.parts))
    (λ r. released w (length t.held) r.born (record t { parts = r.parts }))
