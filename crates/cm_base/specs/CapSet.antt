-- Sets of capabilities, and of securebits, as numbers: bit k of the number tells whether k is in the set.
use Rattle.std.specs.Prelude.{ℕ, ◌^◌, ◌<◌, ◌==◌, Bool, bit_and, bit_or, bit_xor}
use Rattle.std.specs.Int.{bit_at}

-- capabilities(7), "Capabilities list": how many there are, CAP_CHOWN (0) to CAP_CHECKPOINT_RESTORE (40)
abbrev pub cap_count : ℕ
cap_count = 41

-- the set of all capabilities
abbrev pub full : ℕ
full = 0x1ffffffffff

-- the set of none
abbrev pub none : ℕ
none = 0

-- the capability is in the set
abbrev pub holds : ℕ → ℕ → Bool
holds set cap = bit_at set cap == 1

-- what is in the one or in the other
abbrev pub union : ℕ → ℕ → ℕ
union a b = bit_or a b

-- what is in both
abbrev pub meet : ℕ → ℕ → ℕ
meet a b = bit_and a b

-- what is in the first and not in the second
abbrev pub minus : ℕ → ℕ → ℕ
minus a b = bit_xor a (bit_and a b)

-- the set of one capability
abbrev pub single : ℕ → ℕ
single cap = 2 ^ cap

-- the set and one capability more
abbrev pub with : ℕ → ℕ → ℕ
with set cap = union set (single cap)

-- the set less one capability
abbrev pub without : ℕ → ℕ → ℕ
without set cap = minus set (single cap)

-- each member of the first is a member of the second
abbrev pub is_within : ℕ → ℕ → Bool
is_within a b = bit_and a b == a

-- the number has bits of capabilities alone
abbrev pub IsCapSet : ℕ → Type 0
IsCapSet set = set < 2 ^ cap_count
