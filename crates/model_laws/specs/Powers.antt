-- What holds of the power of a member over a space (user_namespaces(7), "Capabilities").
use Rattle.std.specs.Prelude.{◌≡◌, ◌≢◌, ◌↔◌, ℕ, IsTrue, false}
use Rattle.cm_base.specs.CapSet.{holds}
use Rattle.model_cred.specs.Credential.{Credential}
use Rattle.model_cred.specs.Space.{Spaces, IsTree, stands, is_at_or_above}
use Rattle.model_rules.specs.Power.{Over, over, has_over}

-- A member has a capability over a space exactly where the function that computes it says so.
unfoldable pub PowerIsComputed : Type 0
PowerIsComputed = (spaces : Spaces) (at effective euid cap n : ℕ) → IsTree spaces → IsTrue (stands spaces at)
    → Over spaces at effective euid cap n ↔ IsTrue (over spaces at effective euid cap n)

-- Nobody has a capability over a space that is above his own.
unfoldable pub NoPowerAbove : Type 0
NoPowerAbove = (spaces : Spaces) (at : ℕ) (c : Credential) (cap above : ℕ) → IsTree spaces → IsTrue (stands spaces at)
    → IsTrue (is_at_or_above spaces above at) → above ≢ at → has_over spaces at c cap above ≡ false

-- Over his own space a member has exactly the capabilities of his effective set.
unfoldable pub PowerOverOwnSpace : Type 0
PowerOverOwnSpace = (spaces : Spaces) (at : ℕ) (c : Credential) (cap : ℕ) → IsTree spaces → IsTrue (stands spaces at)
    → has_over spaces at c cap at ≡ holds c.effective cap
