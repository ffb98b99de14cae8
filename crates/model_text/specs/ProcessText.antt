-- The processes that a world's text declares (choice): a row's keys, its faults, and the process that it adds to those before
-- it. The forebear of a process is its declared parent.
use Rattle.std.specs.Prelude.{ℕ, codes, ◌==◌, ◌&&◌, Bool, true, not, nat_lt, is_none, List, [], ◌∷◌, ◌++◌, Option, Some, None, Result}
use Rattle.std.specs.Prelude.{unwrap_or, if◌then◌else◌}
use Rattle.cm_base.specs.CapSet.{full, none, is_within}
use Rattle.cm_base.specs.Limited.{limit_number}
use Rattle.cm_base.specs.Limits.{last_pid}
use Rattle.cm_base.specs.declared.faults.WorldFault.TheVariants.{TwiceNamed, NoSuchParent, NoSuchSpace, BadCaps, NotIncluded}
use Rattle.cm_base.specs.declared.limited.Limited.TheVariants as limit
use Rattle.cm_filter.specs.Filters.{no_filter}
use Rattle.model_cred.specs.Credential.{Credential, FourIds, all_four, id_set}
use Rattle.model_cred.specs.Process.{Process, insert_process, is_alive}
use Rattle.model_text.specs.CapText.{set_of_text}
use Rattle.model_text.specs.Keys.{Key, key, Text, Flag, Number, Ids, Groups, Required, Optional, a_pid, last_id, shape_checks, range_check}
use Rattle.model_text.specs.MountText.{space_of_row}
use Rattle.model_text.specs.Refusal.{Cause, Fault, Limit, first_standing, unless}
use Rattle.model_text.specs.Toml.{count, flag_of, array_items, number_from, number_of, number_or, text_of}
use Rattle.toml.specs.Data.{Data, array, Items, no_items, item, Members, get_member}

-- the keys of a process
abbrev pub process_keys : List Key
process_keys =
    key (codes "pid") a_pid Required
    ∷ key (codes "uid") Ids Optional
    ∷ key (codes "parent") a_pid Optional
    ∷ key (codes "space") Text Optional
    ∷ key (codes "gid") Ids Optional
    ∷ key (codes "groups") Groups Optional
    ∷ key (codes "permitted") Text Optional
    ∷ key (codes "effective") Text Optional
    ∷ key (codes "inheritable") Text Optional
    ∷ key (codes "ambient") Text Optional
    ∷ key (codes "bounding") Text Optional
    ∷ key (codes "securebits") (Number 0 255) Optional
    ∷ key (codes "no_new_privs") Flag Optional ∷ []

-- ---- ids
-- an id, 0 for a value that is none
abbrev pub id_of : Data → ℕ
id_of value = unwrap_or (number_from 0 last_id value) 0

-- real, effective, saved and fs id, as an array of four
abbrev pub four_of : Items → FourIds
four_of (item r (item e (item s (item f no_items)))) = record { real = id_of r; effective = id_of e; saved = id_of s; fs = id_of f }
four_of _ = all_four 0

-- the four user ids, or group ids, of a process: one id for all, or an array of four; 0 where there is none
abbrev pub ids_of : Option Data → FourIds
ids_of None = all_four 0
ids_of (Some (array ids)) = four_of ids
ids_of (Some value) = all_four (id_of value)

-- the ids of an array
abbrev pub ids_listed : Items → List ℕ
ids_listed no_items = []
ids_listed (item value values) = id_of value ∷ ids_listed values

-- ---- sets of capabilities
-- a set: that of the text, where there is one, else the default; there is no answer where the text is none
abbrev pub set_declared : ℕ → Option (List ℕ) → Option ℕ
set_declared default None = Some default
set_declared default (Some text) = set_of_text text

-- The five sets of a process (capabilities(7), "Thread capability sets").
pub record FiveSets : Type 0 where
  pub permitted : ℕ
  pub effective : ℕ
  pub inheritable : ℕ
  pub ambient : ℕ
  pub bounding : ℕ

-- five sets, where each is there
abbrev pub five_sets : Option ℕ → Option ℕ → Option ℕ → Option ℕ → Option ℕ → Option FiveSets
five_sets (Some p) (Some e) (Some i) (Some a) (Some b) = Some (record { permitted = p; effective = e; inheritable = i; ambient = a; bounding = b })
five_sets _ _ _ _ _ = None

-- no set has a capability
abbrev pub no_sets : FiveSets
no_sets = record { permitted = none; effective = none; inheritable = none; ambient = none; bounding = none }

-- the effective set is within the permitted one, the ambient set within the permitted and the inheritable one
abbrev pub are_included : FiveSets → Bool
are_included s = is_within s.effective s.permitted && is_within s.ambient s.permitted && is_within s.ambient s.inheritable

-- what is permitted and effective where it isn't declared: all where the effective user id is 0, else none
abbrev pub held_by_default : FourIds → ℕ
held_by_default uid = if uid.effective == 0 then full else none

-- the set at the key of a row
abbrev pub set_at : ℕ → List ℕ → Members → Option ℕ
set_at default key row = set_declared default (text_of (get_member key row))

-- the sets that a row declares of a process with these user ids; there is no answer where a text is no set
abbrev pub sets_with : FourIds → Members → Option FiveSets
sets_with uid row =
    five_sets
    (set_at (held_by_default uid) (codes "permitted") row)
    (set_at (held_by_default uid) (codes "effective") row)
    (set_at none (codes "inheritable") row)
    (set_at none (codes "ambient") row)
    (set_at full (codes "bounding") row)

-- the sets that a row declares
abbrev pub sets_declared : Members → Option FiveSets
sets_declared row = sets_with (ids_of (get_member (codes "uid") row)) row

-- ---- the process
-- the credential with these sets that a row declares
abbrev pub credential_with : FiveSets → Members → Credential
credential_with sets row = record {
  uid = ids_of (get_member (codes "uid") row);
  gid = ids_of (get_member (codes "gid") row);
  groups = id_set (ids_listed (array_items (get_member (codes "groups") row)));
  inheritable = sets.inheritable;
  permitted = sets.permitted;
  effective = sets.effective;
  bounding = sets.bounding;
  ambient = sets.ambient;
  securebits = number_or 0 255 0 (codes "securebits") row;
  no_new_privs = flag_of (get_member (codes "no_new_privs") row);
}

-- the pid that a row declares
abbrev pub pid_of : Members → ℕ
pid_of row = number_or 1 last_pid 1 (codes "pid") row

-- the parent that a row names, where it names one
abbrev pub parent_of_row : Members → Option ℕ
parent_of_row row = number_of 1 last_pid (get_member (codes "parent") row)

-- the parent, where one is named, is among the processes
abbrev pub has_parent : List Process → Option ℕ → Bool
has_parent before None = true
has_parent before (Some pid) = is_alive before pid

-- the list of groups is longer than the limit, repeats counted
abbrev pub has_many_groups : Members → Bool
has_many_groups row = nat_lt (limit_number limit.Groups) (count (array_items (get_member (codes "groups") row)))

-- the faults of its keys, and its limit, in their order
abbrev pub process_key_checks : Members → List (Cause × Bool)
process_key_checks row =
    shape_checks process_keys row ++ (Limit limit.Groups, has_many_groups row) ∷ range_check process_keys row ∷ []

-- the faults of a row beside these, in their order; `names` are those of the declared spaces
abbrev pub process_checks : List (List ℕ) → List Process → Members → List (Cause × Bool)
process_checks names before row =
    (Fault TwiceNamed, is_alive before (pid_of row))
    ∷ (Fault NoSuchParent, not (has_parent before (parent_of_row row)))
    ∷ (Fault NoSuchSpace, is_none (space_of_row names row))
    ∷ (Fault BadCaps, is_none (sets_declared row))
    ∷ (Fault NotIncluded, not (are_included (unwrap_or (sets_declared row) no_sets))) ∷ []

-- the process that a row without faults declares; its filter excludes nothing
abbrev pub process_declared : List (List ℕ) → Members → Process
process_declared names row = record {
  pid = pid_of row;
  forebear = parent_of_row row;
  space = unwrap_or (space_of_row names row) 0;
  cred = credential_with (unwrap_or (sets_declared row) no_sets) row;
  filter = no_filter;
}

-- the processes, by ascending pid, with that of one row more
abbrev pub process_row : List (List ℕ) → List Process → Members → Result (List Process) Cause
process_row names before row =
    unless (first_standing (process_key_checks row ++ process_checks names before row)) (insert_process (process_declared names row) before)
