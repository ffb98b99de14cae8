-- What a change of user ids does to the sets (capabilities(7), "Effect of user ID changes on capabilities").
use Rattle.std.specs.Prelude.{ℕ, ◌&&◌, not, if◌then◌else◌}
use Rattle.cm_base.specs.CapSet.{none, union, meet, minus}
use Rattle.model_cred.specs.Credential.{Credential, FourIds}
use Rattle.model_cred.specs.Space.{Space}
use Rattle.model_rules.specs.Caps.{fs_caps}
use Rattle.model_rules.specs.Securebits.{has_flag, keep_caps, no_setuid_fixup}
use Rattle.model_rules.specs.Zero.{is_zero, has_zero}

-- Without root ids the permitted, effective and ambient sets are cleared; under SECBIT_KEEP_CAPS the permitted and
-- effective ones stay. That the ambient set is cleared then too is a choice.
abbrev pub without_root : Credential → Credential
without_root c = if has_flag c keep_caps then record c { ambient = none } else record c { permitted = none; effective = none; ambient = none }

-- Where one of the three ids was inside 0 and none is now.
abbrev pub after_losing_root : Space → FourIds → Credential → Credential
after_losing_root s old c = if has_zero s old && not (has_zero s c.uid) then without_root c else c

-- Where the effective id went from inside 0 to another, the effective set is cleared; where it went from another to
-- inside 0, the effective set becomes the permitted one.
abbrev pub following_effective : Space → FourIds → Credential → Credential
following_effective s old c =
    if is_zero s old.effective && not (is_zero s c.uid.effective) then record c { effective = none }
    else if not (is_zero s old.effective) && is_zero s c.uid.effective then record c { effective = c.permitted }
    else c

-- The fixups of a change from the old user ids, in this order, unless SECBIT_NO_SETUID_FIXUP is set.
abbrev pub fixed_up : Space → FourIds → Credential → Credential
fixed_up s old c = if has_flag c no_setuid_fixup then c else following_effective s old (after_losing_root s old c)

-- Where the fs id went from inside 0 to another, the capabilities that follow it are taken out of the effective set;
-- where it went from another to inside 0, those of them that are permitted come in.
abbrev pub following_fs : Space → ℕ → Credential → Credential
following_fs s old c =
    if is_zero s old && not (is_zero s c.uid.fs) then record c { effective = minus c.effective fs_caps }
    else if not (is_zero s old) && is_zero s c.uid.fs then record c { effective = union c.effective (meet c.permitted fs_caps) }
    else c

-- The fixup of setfsuid alone (choice) from the old fs user id, unless SECBIT_NO_SETUID_FIXUP is set.
abbrev pub fs_fixed_up : Space → ℕ → Credential → Credential
fs_fixed_up s old c = if has_flag c no_setuid_fixup then c else following_fs s old c
