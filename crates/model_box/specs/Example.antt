-- A worked case: a process alone in the initial space, with the ids 1000, no capabilities, and no_new_privs.
use Rattle.std.specs.Prelude.{◌≡◌, ℕ, ◌<◌, Bool, true, false, IsTrue, List, [], ◌∷◌, None}
use Rattle.cm_base.specs.CapSet.{holds, full, none}
use Rattle.cm_base.specs.Limits.{id_count}
use Rattle.model_cred.specs.Call.{Event}
use Rattle.cm_filter.specs.Filters.{no_filter}
use Rattle.cm_filter.specs.declared.kind.CallKind.{CallKind}
use Rattle.model_cred.specs.Credential.{Credential, all_four}
use Rattle.model_cred.specs.Process.{Process, State}
use Rattle.model_cred.specs.Right.{Cap, Uid}
use Rattle.model_cred.specs.Space.{first_spaces}
use Rattle.model_cred.specs.World.{World}
use Rattle.model_run.specs.Holds.{process_holds}
use Rattle.model_run.specs.Later.{Later, is_member}
use Rattle.model_box.specs.Files.{FilesFit}
use Rattle.model_box.specs.Row.{Part, Groups, MappedUids, MappedGids, PermittedCaps, InheritableCaps, BoundingCaps}
use Rattle.model_box.specs.Row.{NewPrivs, RootCounts, LockClear, Row, Standing, Fresh}

-- ids 1000, no groups, five empty sets, no securebits, no_new_privs
abbrev pub plain_cred : Credential
plain_cred = record {
  uid = all_four 1000;
  gid = all_four 1000;
  groups = [];
  inheritable = none;
  permitted = none;
  effective = none;
  bounding = none;
  ambient = none;
  securebits = 0;
  no_new_privs = true;
}

-- the process, with pid 100
abbrev pub plain_process : Process
plain_process = record { pid = 100; forebear = None; space = 0; cred = plain_cred; filter = no_filter }

-- the state in which it is alone
abbrev pub plain_state : State
plain_state = record { processes = plain_process ∷ []; spaces = first_spaces }

-- no call is excluded
abbrev pub all_permitted : CallKind → Bool
all_permitted kind = true

-- Its bounds: the ids 1000; in the initial space each id is mapped and there is no capability; in later spaces its own
-- ids alone are mapped, and there are all capabilities.
abbrev pub plain_bounds : Row → Part → ℕ → Type 0
plain_bounds (Standing n) MappedUids x = x < id_count
plain_bounds (Standing n) MappedGids x = x < id_count
plain_bounds (Standing n) PermittedCaps x = ⊥
plain_bounds (Standing n) InheritableCaps x = ⊥
plain_bounds (Standing n) BoundingCaps x = ⊥
plain_bounds (Standing n) Groups x = ⊥
plain_bounds (Fresh n) MappedUids x = x ≡ 1000
plain_bounds (Fresh n) MappedGids x = x ≡ 1000
plain_bounds (Fresh n) PermittedCaps x = IsTrue (holds full x)
plain_bounds (Fresh n) InheritableCaps x = IsTrue (holds full x)
plain_bounds (Fresh n) BoundingCaps x = IsTrue (holds full x)
plain_bounds row NewPrivs x = ⊥
plain_bounds row RootCounts x = x ≡ 0
plain_bounds row LockClear x = x ≡ 0
plain_bounds row _ x = x ≡ 1000

-- Whatever it and its descendants do, also in spaces that they make: none has another effective user id, and none has a
-- capability over the initial space.
abbrev pub PlainStaysPlain : Type 0
PlainStaysPlain =
    (w : World) → FilesFit w.files first_spaces → (events : List Event) (later : State) (members : List ℕ)
    → Later all_permitted w plain_state (100 ∷ []) events later members → (pid : ℕ) → IsTrue (is_member members pid)
    → ((id : ℕ) → (id ≡ 1000 → ⊥) → process_holds later pid (Uid id) ≡ false) × ((cap : ℕ) → process_holds later pid (Cap cap 0) ≡ false)
