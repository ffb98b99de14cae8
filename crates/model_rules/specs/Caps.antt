-- The capabilities that the rules name, by their numbers (capabilities(7), "Capabilities list").
use Rattle.std.specs.Prelude.{ℕ, ◌-◌, List, [], ◌∷◌}
use Rattle.cm_base.specs.CapSet.{cap_count, none, with}

-- CAP_CHOWN
abbrev pub cap_chown : ℕ
cap_chown = 0

-- CAP_DAC_OVERRIDE
abbrev pub cap_dac_override : ℕ
cap_dac_override = 1

-- CAP_DAC_READ_SEARCH
abbrev pub cap_dac_read_search : ℕ
cap_dac_read_search = 2

-- CAP_FOWNER
abbrev pub cap_fowner : ℕ
cap_fowner = 3

-- CAP_FSETID
abbrev pub cap_fsetid : ℕ
cap_fsetid = 4

-- CAP_SETGID
abbrev pub cap_setgid : ℕ
cap_setgid = 6

-- CAP_SETUID
abbrev pub cap_setuid : ℕ
cap_setuid = 7

-- CAP_SETPCAP
abbrev pub cap_setpcap : ℕ
cap_setpcap = 8

-- CAP_LINUX_IMMUTABLE
abbrev pub cap_linux_immutable : ℕ
cap_linux_immutable = 9

-- CAP_SYS_ADMIN
abbrev pub cap_sys_admin : ℕ
cap_sys_admin = 21

-- CAP_MKNOD
abbrev pub cap_mknod : ℕ
cap_mknod = 27

-- CAP_SETFCAP
abbrev pub cap_setfcap : ℕ
cap_setfcap = 31

-- CAP_MAC_OVERRIDE
abbrev pub cap_mac_override : ℕ
cap_mac_override = 32

-- the last capability, CAP_CHECKPOINT_RESTORE
abbrev pub last_cap : ℕ
last_cap = cap_count - 1

-- the set of the capabilities in a list
abbrev pub caps_of : List ℕ → ℕ
caps_of [] = none
caps_of (cap ∷ caps) = with (caps_of caps) cap

-- the capabilities that follow the fs user id (capabilities(7), "Effect of user ID changes on capabilities")
abbrev pub fs_caps : ℕ
fs_caps = caps_of
    (cap_chown ∷ cap_dac_override ∷ cap_dac_read_search ∷ cap_fowner ∷ cap_fsetid
    ∷ cap_linux_immutable ∷ cap_mac_override ∷ cap_mknod ∷ [])
