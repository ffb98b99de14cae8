-- How a row meets a right to a capability.
use Rattle.std.specs.Prelude.{◌⊎◌, ℕ, IsTrue}
use Rattle.model_cred.specs.Space.{Spaces, is_at_or_above, space_of}
use Rattle.model_box.specs.Row.{Part, EffectiveUids, PermittedCaps, HasMembers}
use Rattle.model_box.specs.Spread.{IsNext}

-- A member of the row can own the space on the chain of the second whose parent is the first.
abbrev pub NextMet : Spaces → (Part → ℕ → Type 0) → ℕ → ℕ → Type 0
NextMet spaces row a n = (m : ℕ) × IsNext spaces a n m × row EffectiveUids (space_of spaces m).owner

-- A member of the row of the first can have the capability over the second.
abbrev pub CapMetAt : Spaces → (Part → ℕ → Type 0) → ℕ → ℕ → ℕ → Type 0
CapMetAt spaces row cap a n =
    (IsTrue (is_at_or_above spaces a n) × HasMembers row × row PermittedCaps cap) ⊎ NextMet spaces row a n
