-- Inside 0 of a space: the id to which its map takes 0 (user_namespaces(7)), which the rules treat as root.
use Rattle.std.specs.Prelude.{ℕ, ◌||◌, Bool, Option}
use Rattle.model_cred.specs.Credential.{FourIds}
use Rattle.model_cred.specs.IdMap.{down, extents_of, is_the}
use Rattle.model_cred.specs.Space.{Space}

-- the id that the space's map of user ids gives to inside 0
abbrev pub zero_of : Space → Option ℕ
zero_of s = down (extents_of s.uids) 0

-- the user id is inside 0 of the space
abbrev pub is_zero : Space → ℕ → Bool
is_zero s id = is_the (zero_of s) id

-- the real, the effective or the saved user id is inside 0
abbrev pub has_zero : Space → FourIds → Bool
has_zero s ids = is_zero s ids.real || is_zero s ids.effective || is_zero s ids.saved
