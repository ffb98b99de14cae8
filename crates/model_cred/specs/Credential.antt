-- Credentials (credentials(7), capabilities(7)).
use Rattle.std.specs.Prelude.{◌≡◌, ℕ, ◌+◌, ◌<◌, ◌≤◌, ◌^◌, ◌||◌, ◌==◌, Bool, true, nat_lt, List, [], ◌∷◌, if◌then◌else◌}
use Rattle.cm_base.specs.Limits.{id_count, securebit_count}
use Rattle.cm_base.specs.CapSet.{is_within, IsCapSet}

-- The four user ids, or the four group ids, of a process (credentials(7), "User and group identifiers").
pub record FourIds : Type 0 where
  pub real : ℕ
  pub effective : ℕ
  pub saved : ℕ
  pub fs : ℕ

-- The credentials of a process: ids as the initial user namespace sees them, sets of capabilities as numbers
-- (capabilities(7), "Thread capability sets"), the securebits, and whether no_new_privs is set (prctl(2)).
pub record Credential : Type 0 where
  pub uid : FourIds
  pub gid : FourIds
  pub groups : List ℕ
  pub inheritable : ℕ
  pub permitted : ℕ
  pub effective : ℕ
  pub bounding : ℕ
  pub ambient : ℕ
  pub securebits : ℕ
  pub no_new_privs : Bool

-- The effective set is within the permitted one, the ambient set within the permitted and the inheritable one
-- (capabilities(7), "Thread capability sets").
pub record Included (c : Credential) : Type 0 where
  pub effective : is_within c.effective c.permitted ≡ true
  pub ambient_permitted : is_within c.ambient c.permitted ≡ true
  pub ambient_inheritable : is_within c.ambient c.inheritable ≡ true

-- the number is an id
abbrev pub IsId : ℕ → Type 0
IsId id = id < id_count

-- The four are ids.
pub record AreIds (ids : FourIds) : Type 0 where
  pub real : IsId ids.real
  pub effective : IsId ids.effective
  pub saved : IsId ids.saved
  pub fs : IsId ids.fs

-- the list is of ids from the low one on, ascending, each once
abbrev pub AscendFrom : ℕ → List ℕ → Type 0
AscendFrom low [] = Unit {0}
AscendFrom low (id ∷ ids) = (low ≤ id) × IsId id × AscendFrom (id + 1) ids

-- What every credential keeps. That the effective and the ambient set are sets of capabilities follows.
pub record Keeps (c : Credential) : Type 0 where
  pub included : Included c
  pub uid : AreIds c.uid
  pub gid : AreIds c.gid
  pub groups : AscendFrom 0 c.groups
  pub inheritable : IsCapSet c.inheritable
  pub permitted : IsCapSet c.permitted
  pub bounding : IsCapSet c.bounding
  pub securebits : c.securebits < 2 ^ securebit_count

-- a list of ids that ascend, each once, and one more
abbrev pub insert_id : ℕ → List ℕ → List ℕ
insert_id id [] = id ∷ []
insert_id id (other ∷ ids) =
    if nat_lt id other then id ∷ other ∷ ids
    else if id == other then other ∷ ids
    else other ∷ insert_id id ids

-- the ids of a list, ascending, each once
abbrev pub id_set : List ℕ → List ℕ
id_set [] = []
id_set (id ∷ ids) = insert_id id (id_set ids)

-- four times the one id
abbrev pub all_four : ℕ → FourIds
all_four id = record { real = id; effective = id; saved = id; fs = id }

-- the id is the real, the effective or the saved one
abbrev pub is_one_of_three : FourIds → ℕ → Bool
is_one_of_three ids id = id == ids.real || id == ids.effective || id == ids.saved
