-- What single moves do where nothing is in their way.
use Rattle.std.specs.Prelude.{◌≡◌, ◌⊎◌, ◌||◌, ℕ, true, List, Some}
use Rattle.cm_filter.specs.declared.kind.CallKind.TheVariants as kind
use Rattle.model_cred.specs.Credential.{Included, is_one_of_three}
use Rattle.model_cred.specs.IdMap.{Extent, down, up, extents_of}
use Rattle.model_rules.specs.SetId.{is_given, has_setuid, has_setgid}
use Rattle.model_rules.specs.Zero.{zero_of}
use Rattle.model_plans.specs.Move.{Seat, Setting, Raise, BecomeZero, BecomeSought, BecomeGroup, space_at_seat}
use Rattle.model_plans.specs.Move.{sought_uid, sought_gid}
use Rattle.model_plans.specs.Walk.{after}

-- A raise is never refused: where capset(2) is permitted, it leaves the effective set as the permitted one, and all
-- else as it was, of each credential whose ambient set is within the permitted and inheritable ones.
unfoldable pub RaisesAreDone : Type 0
RaisesAreDone = (q : Setting) (seat : Seat) → Included seat.cred → q.permitted kind.CapSet ≡ true
    → after q seat Raise
    ≡ record { space = seat.space; cred = record seat.cred { effective = seat.cred.permitted } }

-- the inside id stands for the id in the map, both ways, and isn't -1
pub record StandsFor (map : List Extent) (inside id : ℕ) : Type 0 where
  pub up : up map id ≡ Some inside
  pub down : down map inside ≡ Some id
  pub given : is_given inside ≡ true

-- The member can make the id its effective user id: it has it as its real, effective or saved one, or has CAP_SETUID;
-- the id has an inside id in its space; and one of the three calls is permitted.
pub record CanBecome (q : Setting) (seat : Seat) (inside id : ℕ) : Type 0 where
  pub mapped : StandsFor (extents_of (space_at_seat q seat).uids) inside id
  pub allowed : (has_setuid seat.cred ≡ true) ⊎ (is_one_of_three seat.cred.uid id ≡ true)
  pub permitted : (q.permitted kind.SetResUid || q.permitted kind.SetReUid || q.permitted kind.SetUid) ≡ true

-- the same for a group id and CAP_SETGID
pub record CanBecomeGroup (q : Setting) (seat : Seat) (inside id : ℕ) : Type 0 where
  pub mapped : StandsFor (extents_of (space_at_seat q seat).gids) inside id
  pub allowed : (has_setgid seat.cred ≡ true) ⊎ (is_one_of_three seat.cred.gid id ≡ true)
  pub permitted : (q.permitted kind.SetResGid || q.permitted kind.SetReGid || q.permitted kind.SetGid) ≡ true

-- So it has the id as its effective one after the move: inside 0, the user id that is sought, or the group id.
pub record BecomesAreDone : Type 0 where
  pub zero : (q : Setting) (seat : Seat) (inside id : ℕ) → zero_of (space_at_seat q seat) ≡ Some id
      → CanBecome q seat inside id → (after q seat BecomeZero).cred.uid.effective ≡ id
  pub sought : (q : Setting) (seat : Seat) (inside id : ℕ) → sought_uid q.spaces seat.space q.right ≡ Some id
      → CanBecome q seat inside id → (after q seat BecomeSought).cred.uid.effective ≡ id
  pub group : (q : Setting) (seat : Seat) (inside id : ℕ) → sought_gid q.right ≡ Some id
      → CanBecomeGroup q seat inside id → (after q seat BecomeGroup).cred.gid.effective ≡ id
