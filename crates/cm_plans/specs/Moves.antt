-- The code's moves and what they rest on, in the words of the definitions.
use Rattle.std.specs.Prelude.{ℕ, ◌<◌, ◌==◌, find, Bool, List, Option, None, Some, length, if◌then◌else◌}
use Rattle.model_cred.specs.IdMap.{Extent, up}
use Rattle.model_cred.specs.Space.{Spaces}
use Rattle.cm_filter.specs.Filters.{permits}
use Rattle.cm_plans.specs.declared.moves.Move.{Move}
use Rattle.cm_plans.specs.declared.moves.Move.TheVariants as code
use Rattle.cm_filter.specs.declared.kind.CallKind.{CallKind}
use Rattle.cm_plans.specs.declared.query.May.{May}
use Rattle.cm_plans.specs.declared.query.Query.{Query}
use Rattle.cm_state.specs.Right.{right_of}
use Rattle.model_cred.specs.Call.{Call, kind_of}
use Rattle.model_cred.specs.Call as model_call
use Rattle.model_plans.specs.Move as model
use Rattle.model_run.specs.Own.{permitted_under}
use Rattle.model_plans.specs.Move.{Setting, Seat, becoming_uid, becoming_gid, space_at_seat}

-- the move of the definitions
abbrev pub move_of : Move → model.Move
move_of code.Raise = model.Raise
move_of code.BecomeZero = model.BecomeZero
move_of code.BecomeSought = model.BecomeSought
move_of code.BecomeGroup = model.BecomeGroup
move_of code.TakeGroup = model.TakeGroup
move_of (code.RunFile file) = model.RunFile file
move_of (code.JoinSpace n) = model.JoinSpace n.0

-- the calls that the member who moves may make: its own filter permits them, and so does the world's
abbrev pub may_do : May → CallKind → Bool
may_do may = permitted_under may.own (permits may.world)

-- what plans rest on
abbrev pub setting : Query → Setting
setting q = record {
  files = q.world.now.files;
  spaces = q.spaces.now;
  permitted = may_do q.may;
  right = right_of q.right.now;
}

-- the inside id of an optional id that isn't the effective one
abbrev pub inside_of : List Extent → ℕ → Option ℕ → Option ℕ
inside_of map effective None = None
inside_of map effective (Some id) = if effective == id then None else up map id

-- the call that makes an optional user id the effective one
abbrev pub becomes_uid : Setting → Seat → Option ℕ → Option Call
becomes_uid q seat id = find (λ call. q.permitted (kind_of call)) (becoming_uid (space_at_seat q seat) seat.cred id)

-- the same for a group id
abbrev pub becomes_gid : Setting → Seat → Option ℕ → Option Call
becomes_gid q seat id = find (λ call. q.permitted (kind_of call)) (becoming_gid (space_at_seat q seat) seat.cred id)

-- a call that a walk makes: by its kind, and naming a space that stands
abbrev pub IsOfWalk : Spaces → Call → Type 0
IsOfWalk spaces (model_call.SetUid id) = Unit {0}
IsOfWalk spaces (model_call.SetReUid r e) = Unit {0}
IsOfWalk spaces (model_call.SetResUid r e v) = Unit {0}
IsOfWalk spaces (model_call.SetGid id) = Unit {0}
IsOfWalk spaces (model_call.SetReGid r e) = Unit {0}
IsOfWalk spaces (model_call.SetResGid r e v) = Unit {0}
IsOfWalk spaces (model_call.CapSet e p i) = Unit {0}
IsOfWalk spaces (model_call.SetNs n) = n < length spaces
IsOfWalk spaces (model_call.Exec file) = Unit {0}
IsOfWalk spaces _ = ⊥

-- a move that a walk makes on its seat: not that which takes a group; a space that it names stands
abbrev pub IsMoveOfWalk : Spaces → Move → Type 0
IsMoveOfWalk spaces code.TakeGroup = ⊥
IsMoveOfWalk spaces (code.JoinSpace n) = n.0 < length spaces
IsMoveOfWalk spaces _ = Unit {0}

-- a space that the move names stands
abbrev pub IsMoveOfRun : Spaces → Move → Type 0
IsMoveOfRun spaces (code.JoinSpace n) = n.0 < length spaces
IsMoveOfRun spaces _ = Unit {0}
