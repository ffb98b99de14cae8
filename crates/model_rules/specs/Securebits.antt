-- The securebits flags (capabilities(7), "The securebits flags: establishing a capabilities-only environment").
use Rattle.std.specs.Prelude.{ℕ, ◌*◌, ◌/◌, ◌==◌, Bool, not, bit_and}
use Rattle.model_cred.specs.Credential.{Credential}

-- SECBIT_NOROOT: a program gives nothing to root as root
abbrev pub noroot : ℕ
noroot = 1

-- SECBIT_NO_SETUID_FIXUP: a change of user ids leaves the sets
abbrev pub no_setuid_fixup : ℕ
no_setuid_fixup = 4

-- SECBIT_KEEP_CAPS: a process that gives up root keeps its permitted set
abbrev pub keep_caps : ℕ
keep_caps = 16

-- SECBIT_NO_CAP_AMBIENT_RAISE: no capability is made ambient
abbrev pub no_cap_ambient_raise : ℕ
no_cap_ambient_raise = 64

-- the flag is set
abbrev pub has_flag : Credential → ℕ → Bool
has_flag c flag = not (bit_and c.securebits flag == 0)

-- the lock of a flag: the flag's value doubled
abbrev pub lock_of : ℕ → ℕ
lock_of flag = 2 * flag

-- the locks of all four flags
abbrev pub locks : ℕ
locks = 0xaa

-- the flags whose locks are among these securebits
abbrev pub locked_flags : ℕ → ℕ
locked_flags securebits = bit_and securebits locks / 2
