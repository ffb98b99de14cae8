-- The moves of plans. A move is what a member may try next: at most one call, which is found at the moment at which it
-- is made, from where the member then stands.
use Rattle.std.specs.Prelude.{ℕ, ◌==◌, Bool, find, List, [], ◌∷◌, Option, None, Some, option_map, if◌then◌else◌}
use Rattle.cm_base.specs.declared.res.FileRef.{FileRef}
use Rattle.cm_filter.specs.declared.kind.CallKind.{CallKind}
use Rattle.model_cred.specs.Call.{Call, SetUid, SetReUid, SetResUid, SetGid, SetReGid, SetResGid, SetGroups, CapSet}
use Rattle.model_cred.specs.Call.{SetNs, Exec, kind_of}
use Rattle.model_cred.specs.Credential.{Credential}
use Rattle.model_cred.specs.Files.{FileTable}
use Rattle.model_cred.specs.IdMap.{Extent, up, extents_of}
use Rattle.model_cred.specs.Process.{Process}
use Rattle.model_cred.specs.Right.{Right, Cap, Uid, Gid}
use Rattle.model_cred.specs.Space.{Space, Spaces, next_below, space_of}
use Rattle.model_rules.specs.SetId.{minus_one}
use Rattle.model_rules.specs.Zero.{zero_of}

-- Where a member stands: the number of its space, and its credential.
pub record Seat : Type 0 where
  pub space : ℕ
  pub cred : Credential

-- where a process stands
abbrev pub seat_of : Process → Seat
seat_of p = record { space = p.space; cred = p.cred }

-- What the moves of a member rest on and leave as it is: the declared files, the spaces, the kinds of calls that it may
-- make, and the right that is sought.
pub record Setting : Type 0 where
  pub files : FileTable
  pub spaces : Spaces
  pub permitted : CallKind → Bool
  pub right : Right

-- The moves: to raise the effective set to the permitted one; to make inside 0, the user id that is sought, or the
-- group id that is sought the effective one; to take the group that is sought as the only supplementary one; to run a
-- file; to join a space.
pub data Move : Type 0 where
  Raise : Move
  BecomeZero : Move
  BecomeSought : Move
  BecomeGroup : Move
  TakeGroup : Move
  RunFile : FileRef → Move
  JoinSpace : ℕ → Move

-- The user id that is sought by a member in the space `at`: that of the right; for a right over a space below `at`, the
-- owner of the next space on the way down, since in `at` the owner has each capability over it (user_namespaces(7),
-- "Capabilities"); else there is none.
abbrev pub sought_uid : Spaces → ℕ → Right → Option ℕ
sought_uid spaces at (Cap cap n) = option_map (λ next. (space_of spaces next).owner) (next_below spaces at n)
sought_uid spaces at (Uid id) = Some id
sought_uid spaces at (Gid id) = None

-- the group id that is sought
abbrev pub sought_gid : Right → Option ℕ
sought_gid (Cap cap n) = None
sought_gid (Uid id) = None
sought_gid (Gid id) = Some id

-- the calls that make an inside id the effective user id, in the order in which they are preferred (choice)
abbrev pub uid_calls : ℕ → List Call
uid_calls id = SetResUid minus_one id minus_one ∷ SetReUid minus_one id ∷ SetUid id ∷ []

-- the calls that make an inside id the effective group id, alike
abbrev pub gid_calls : ℕ → List Call
gid_calls id = SetResGid minus_one id minus_one ∷ SetReGid minus_one id ∷ SetGid id ∷ []

-- the call that makes an inside id the only supplementary group
abbrev pub group_calls : ℕ → List Call
group_calls id = SetGroups (id ∷ []) ∷ []

-- the calls with an optional inside id: none without one
abbrev pub calls_with : (ℕ → List Call) → Option ℕ → List Call
calls_with calls None = []
calls_with calls (Some id) = calls id

-- The calls that make an optional id the effective one, by the map of such ids and the id that is effective so far:
-- none where there is no id, where it is the effective one already, or where it has no inside id.
abbrev pub becoming : (ℕ → List Call) → List Extent → ℕ → Option ℕ → List Call
becoming calls map effective None = []
becoming calls map effective (Some id) = if effective == id then [] else calls_with calls (up map id)

-- the calls that make an optional user id the effective one
abbrev pub becoming_uid : Space → Credential → Option ℕ → List Call
becoming_uid s c id = becoming uid_calls (extents_of s.uids) c.uid.effective id

-- the calls that make an optional group id the effective one
abbrev pub becoming_gid : Space → Credential → Option ℕ → List Call
becoming_gid s c id = becoming gid_calls (extents_of s.gids) c.gid.effective id

-- the call that makes an optional group the only supplementary one: none where there is no group, or where it has no
-- inside id
abbrev pub taking_group : Space → Option ℕ → List Call
taking_group s None = []
taking_group s (Some id) = calls_with group_calls (up (extents_of s.gids) id)

-- the call that makes the effective set the permitted one: none where it is that already
abbrev pub raising : Credential → List Call
raising c = if c.effective == c.permitted then [] else CapSet c.permitted c.permitted c.inheritable ∷ []

-- the space of a seat
abbrev pub space_at_seat : Setting → Seat → Space
space_at_seat q seat = space_of q.spaces seat.space

-- The calls by which a member can make the move from its seat, in the order in which they are preferred; none where the
-- move has no meaning there, or would change nothing.
abbrev pub calls_of : Setting → Seat → Move → List Call
calls_of q seat Raise = raising seat.cred
calls_of q seat BecomeZero = becoming_uid (space_at_seat q seat) seat.cred (zero_of (space_at_seat q seat))
calls_of q seat BecomeSought = becoming_uid (space_at_seat q seat) seat.cred (sought_uid q.spaces seat.space q.right)
calls_of q seat BecomeGroup = becoming_gid (space_at_seat q seat) seat.cred (sought_gid q.right)
calls_of q seat TakeGroup = taking_group (space_at_seat q seat) (sought_gid q.right)
calls_of q seat (RunFile file) = Exec file ∷ []
calls_of q seat (JoinSpace n) = SetNs n ∷ []

-- The call of a move at its moment: the first of these that is permitted. Where there is none the move is left out.
abbrev pub call_of : Setting → Seat → Move → Option Call
call_of q seat move = find (λ call. q.permitted (kind_of call)) (calls_of q seat move)
