-- The power of a member over a space: which capabilities a process has in which spaces (user_namespaces(7),
-- "Capabilities").
use Rattle.std.specs.Prelude.{◌≡◌, ℕ, ◌==◌, ◌&&◌, ◌||◌, Bool, false, IsTrue, Option, None, Some}
use Rattle.std.specs.List.{list_any}
use Rattle.cm_base.specs.CapSet.{holds}
use Rattle.model_cred.specs.Credential.{Credential}
use Rattle.model_cred.specs.IdMap.{is_the}
use Rattle.model_cred.specs.Space.{Space, Spaces, space_at, chain}

-- A member of the space `at` with that effective set and effective user id has a capability over a space: over its own
-- where the capability is in its effective set; over a space whose parent is its own and whose owner is its effective
-- user id; over a space over whose parent it has the capability.
pub data Over (spaces : Spaces) (at effective euid cap : ℕ) : ℕ → Type 0 where
  here : IsTrue (holds effective cap) → Over spaces at effective euid cap at
  owned : (n : ℕ) (s : Space) → space_at spaces n ≡ Some s → s.parent ≡ Some at → s.owner ≡ euid
      → Over spaces at effective euid cap n
  above : (n p : ℕ) (s : Space) → space_at spaces n ≡ Some s → s.parent ≡ Some p → Over spaces at effective euid cap p
      → Over spaces at effective euid cap n

-- the space's parent is the member's own, and its owner is the member's effective user id
abbrev pub is_owned : ℕ → ℕ → Option Space → Bool
is_owned at euid None = false
is_owned at euid (Some s) = is_the s.parent at && s.owner == euid

-- the space gives the member the capability: it is its own, and the capability is effective; or the member owns it
abbrev pub gives_power : Spaces → ℕ → ℕ → ℕ → ℕ → ℕ → Bool
gives_power spaces at effective euid cap n = (n == at && holds effective cap) || is_owned at euid (space_at spaces n)

-- the member has the capability over the space: a space on the chain from it to the initial one gives it
abbrev pub over : Spaces → ℕ → ℕ → ℕ → ℕ → ℕ → Bool
over spaces at effective euid cap n = list_any (gives_power spaces at effective euid cap) (chain spaces n)

-- a process in the space `at` with that credential has the capability over the space
abbrev pub has_over : Spaces → ℕ → Credential → ℕ → ℕ → Bool
has_over spaces at c cap n = over spaces at c.effective c.uid.effective cap n
