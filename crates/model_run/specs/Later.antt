-- Later runs: what the members of a family do after the log.
use Rattle.std.specs.Prelude.{◌≡◌, ℕ, ◌==◌, Bool, not, IsTrue, List, [], ◌∷◌, filter}
use Rattle.std.specs.List.{list_any}
use Rattle.cm_base.specs.declared.res.Res.{Res}
use Rattle.cm_base.specs.declared.res.Res.TheVariants.{Done, Child}
use Rattle.model_cred.specs.Call.{Call, Exit, Event, kind_of}
use Rattle.cm_filter.specs.declared.kind.CallKind.{CallKind}
use Rattle.cm_filter.specs.Filters.{permits}
use Rattle.model_cred.specs.Process.{State}
use Rattle.model_cred.specs.World.{World}
use Rattle.model_run.specs.Own.{may_call}
use Rattle.model_run.specs.Step.{Step}

-- the pid is a member
abbrev pub is_member : List ℕ → ℕ → Bool
is_member members pid = list_any (λ member. member == pid) members

-- the members with the child of a birth
abbrev pub members_with : List ℕ → Res → List ℕ
members_with members (Child pid) = pid ∷ members
members_with members _ = members

-- the members without a process that exited
abbrev pub members_without : List ℕ → ℕ → Res → List ℕ
members_without members pid Done = filter (λ member. not (member == pid)) members
members_without members pid _ = members

-- The members after a member's call: the child of a birth comes to them, a process that exits goes.
abbrev pub members_after : List ℕ → ℕ → Call → Res → List ℕ
members_after members pid Exit res = members_without members pid res
members_after members pid call res = members_with members res

-- A later run: each event is a step of one who is a member at that point, of a kind that is permitted and that the
-- caller's own filter at that point doesn't exclude. The order of the members' calls is free, and the list has any
-- length. The last list is that of the members at the end.
abbrev pub Later : (CallKind → Bool) → World → State → List ℕ → List Event → State → List ℕ → Type 0
Later permitted w s members [] s' members' = (s' ≡ s) × (members' ≡ members)
Later permitted w s members (e ∷ es) s' members' =
    (mid : State) × IsTrue (is_member members e.pid) × IsTrue (may_call permitted s e.pid (kind_of e.call)) × Step w s e mid
    × Later permitted w mid (members_after members e.pid e.call e.res) es s' members'

-- a later run under the world's filter and each caller's own
abbrev pub LaterRun : World → State → List ℕ → List Event → State → List ℕ → Type 0
LaterRun w = Later (permits w.filter) w
