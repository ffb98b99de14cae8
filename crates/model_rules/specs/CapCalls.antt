-- The calls that change a process's sets of capabilities, its securebits and no_new_privs (capset(2), prctl(2),
-- capabilities(7)).
use Rattle.std.specs.Prelude.{ℕ, ◌^◌, ◌==◌, ◌&&◌, ◌||◌, Bool, true, not, nat_lt, bit_and, bit_xor, if◌then◌else◌}
use Rattle.cm_base.specs.Limits.{securebit_count}
use Rattle.cm_base.specs.CapSet.{holds, is_within, union, meet, minus, none, with, without}
use Rattle.cm_base.specs.declared.errno.Errno.TheVariants.{EPERM, EINVAL}
use Rattle.model_cred.specs.Credential.{Credential}
use Rattle.model_rules.specs.Answer.{Answer, done, refused}
use Rattle.model_rules.specs.Caps.{cap_setpcap, last_cap}
use Rattle.model_rules.specs.Securebits.{has_flag, keep_caps, no_cap_ambient_raise, lock_of, locks, locked_flags}

-- the caller has CAP_SETPCAP
abbrev pub has_setpcap : Credential → Bool
has_setpcap c = holds c.effective cap_setpcap

-- The new effective, permitted and inheritable sets are allowed (capabilities(7), "Programmatically adjusting
-- capability sets"): without CAP_SETPCAP the inheritable one is within the old inheritable and permitted ones; it is
-- within the old inheritable and bounding ones; the permitted one is within the old one; the effective one is within
-- the permitted one.
abbrev pub may_capset : Credential → ℕ → ℕ → ℕ → Bool
may_capset c effective permitted inheritable =
    (has_setpcap c || is_within inheritable (union c.inheritable c.permitted))
    && is_within inheritable (union c.inheritable c.bounding)
    && is_within permitted c.permitted
    && is_within effective permitted

-- the credential with these sets: what is no longer permitted or inheritable is no longer ambient
abbrev pub with_capset : Credential → ℕ → ℕ → ℕ → Credential
with_capset c effective permitted inheritable = record c {
  effective = effective;
  permitted = permitted;
  inheritable = inheritable;
  ambient = meet (meet c.ambient permitted) inheritable;
}

-- capset(2): EPERM where the new sets aren't allowed
abbrev pub capset : Credential → ℕ → ℕ → ℕ → Answer
capset c effective permitted inheritable =
    if may_capset c effective permitted inheritable then done (with_capset c effective permitted inheritable) else refused EPERM c

-- prctl(2), PR_CAPBSET_DROP: EPERM without CAP_SETPCAP, then EINVAL for no capability (the order is a choice)
abbrev pub bset_drop : Credential → ℕ → Answer
bset_drop c cap =
    if not (has_setpcap c) then refused EPERM c
    else if nat_lt last_cap cap then refused EINVAL c
    else done (record c { bounding = without c.bounding cap })

-- the capability may be made ambient: it is permitted and inheritable, and SECBIT_NO_CAP_AMBIENT_RAISE is clear
abbrev pub may_raise : Credential → ℕ → Bool
may_raise c cap = holds c.permitted cap && holds c.inheritable cap && not (has_flag c no_cap_ambient_raise)

-- prctl(2), PR_CAP_AMBIENT_RAISE: EINVAL for no capability, then EPERM where it may not be raised (the order is a choice)
abbrev pub amb_raise : Credential → ℕ → Answer
amb_raise c cap =
    if nat_lt last_cap cap then refused EINVAL c
    else if may_raise c cap then done (record c { ambient = with c.ambient cap })
    else refused EPERM c

-- prctl(2), PR_CAP_AMBIENT_LOWER: EINVAL for no capability
abbrev pub amb_lower : Credential → ℕ → Answer
amb_lower c cap = if nat_lt last_cap cap then refused EINVAL c else done (record c { ambient = without c.ambient cap })

-- prctl(2), PR_CAP_AMBIENT_CLEAR_ALL
abbrev pub amb_clear : Credential → Answer
amb_clear c = done (record c { ambient = none })

-- The new securebits are allowed (prctl(2), PR_SET_SECUREBITS; capabilities(7), "The securebits flags"): the caller has
-- CAP_SETPCAP, no locked flag changes, no lock is cleared, and there is no other bit (choice).
abbrev pub may_secure : Credential → ℕ → Bool
may_secure c bits =
    has_setpcap c
    && bit_and (bit_xor c.securebits bits) (locked_flags c.securebits) == 0
    && is_within (bit_and c.securebits locks) bits
    && nat_lt bits (2 ^ securebit_count)

-- prctl(2), PR_SET_SECUREBITS: EPERM where the new securebits aren't allowed
abbrev pub secure_bits : Credential → ℕ → Answer
secure_bits c bits = if may_secure c bits then done (record c { securebits = bits }) else refused EPERM c

-- the credential with SECBIT_KEEP_CAPS cleared
abbrev pub without_keep_caps : Credential → Credential
without_keep_caps c = record c { securebits = minus c.securebits keep_caps }

-- the credential with SECBIT_KEEP_CAPS set
abbrev pub with_keep_caps : Credential → Credential
with_keep_caps c = record c { securebits = union c.securebits keep_caps }

-- prctl(2), PR_SET_KEEPCAPS: EINVAL for another argument than 0 and 1, then EPERM under SECBIT_KEEP_CAPS_LOCKED
-- (the order is a choice)
abbrev pub set_keep_caps : Credential → ℕ → Answer
set_keep_caps c argument =
    if nat_lt 1 argument then refused EINVAL c
    else if has_flag c (lock_of keep_caps) then refused EPERM c
    else if argument == 0 then done (without_keep_caps c) else done (with_keep_caps c)

-- prctl(2), PR_SET_NO_NEW_PRIVS: EINVAL for another argument than 1; the flag is never cleared
abbrev pub set_no_new_privs : Credential → ℕ → Answer
set_no_new_privs c argument = if argument == 1 then done (record c { no_new_privs = true }) else refused EINVAL c
