-- Worked cases of capset(2) and the prctl(2) calls on capabilities and securebits.
use Rattle.std.proofs.Common.{true, [], ◌∷◌}
use Rattle.cm_base.specs.CapSet.{none, full}
use Rattle.cm_base.specs.declared.errno.Errno.TheVariants.{EPERM, EINVAL}
use Rattle.model_cred.specs.Call.{CapSet, BsetDrop, AmbRaise, AmbLower, AmbClear, SecureBits, KeepCaps, NoNewPrivs}
use Rattle.model_cred.specs.Credential.{Credential}
use Rattle.model_run.proofs.Worlds.{user, one, world, done, Leads, IsRefused}

-- a user with CAP_KILL (5) permitted, CAP_NET_RAW (13) inheritable, and no CAP_SETPCAP
abbrev some_caps : Credential
some_caps = record (user 1000) { permitted = 0x20; inheritable = 0x2000 }

pub sets_are_written : record {
  -- capset raises what is permitted, and makes inheritable what is permitted
  capset_raises_what_is_permitted : Leads world (one some_caps) (done 100 (CapSet 0x20 0x20 0x2020) ∷ [])
      (one (record some_caps { effective = 0x20; inheritable = 0x2020 }));
  nothing_new_is_permitted : IsRefused world (one some_caps) 100 (CapSet 0x20 0x60 0x2000) EPERM;
  effective_is_within_permitted : IsRefused world (one some_caps) 100 (CapSet 0x20 none 0x2000) EPERM;
  -- without CAP_SETPCAP inheritable is within what was inheritable or permitted
  inheritable_wants_setpcap : IsRefused world (one some_caps) 100 (CapSet 0x20 0x20 0x2400) EPERM;
  -- with CAP_SETPCAP (8) it may be any of the bounding set
  setpcap_adds_from_the_bounding_set : Leads world
      (one (record (user 1000) { permitted = 0x100; effective = 0x100; bounding = 0x500 }))
      (done 100 (CapSet 0x100 0x100 0x400) ∷ [])
      (one (record (user 1000) { permitted = 0x100; effective = 0x100; bounding = 0x500; inheritable = 0x400 }));
  past_the_bounding_set_nothing_is_added : IsRefused world
      (one (record (user 1000) { permitted = 0x100; effective = 0x100; bounding = 0x500 })) 100
      (CapSet 0x100 0x100 0x800) EPERM;
}
sets_are_written = search

-- what is no longer permitted or inheritable is no longer ambient
abbrev ambient_two : Credential
ambient_two = record (user 1000) { permitted = 0x420; inheritable = 0x420; ambient = 0x420 }

pub ambient_follows : record {
  what_is_dropped_is_not_ambient : Leads world (one ambient_two) (done 100 (CapSet none 0x400 0x420) ∷ [])
      (one (record ambient_two { permitted = 0x400; ambient = 0x400 }));
  what_is_not_inheritable_is_not_ambient : Leads world (one ambient_two) (done 100 (CapSet none 0x420 0x20) ∷ [])
      (one (record ambient_two { inheritable = 0x20; ambient = 0x20 }));
}
ambient_follows = search

pub bounding_set : record {
  -- the bounding set loses one capability, and no other set does
  the_bounding_set_loses_one : Leads world (one (user 0)) (done 100 (BsetDrop 40) ∷ [])
      (one (record (user 0) { bounding = 0x0ffffffffff }));
  past_the_last_capability_is_invalid : IsRefused world (one (user 0)) 100 (BsetDrop 41) EINVAL;
  want_of_setpcap_comes_first : IsRefused world (one (user 1000)) 100 (BsetDrop 41) EPERM;
}
bounding_set = search

pub ambient_set : record {
  -- ambient capabilities
  what_is_permitted_and_inheritable_can_be_raised : Leads world (one (record ambient_two { ambient = none }))
      (done 100 (AmbRaise 5) ∷ []) (one (record ambient_two { ambient = 0x20 }));
  what_is_not_inheritable_cannot_be_raised : IsRefused world (one (user 0)) 100 (AmbRaise 5) EPERM;
  what_is_not_permitted_cannot_be_raised : IsRefused world (one (record (user 1000) { inheritable = full })) 100
      (AmbRaise 5) EPERM;
  the_securebit_forbids_to_raise : IsRefused world (one (record ambient_two { securebits = 0x40 })) 100 (AmbRaise 5)
      EPERM;
  no_capability_can_be_raised_past_the_last : IsRefused world (one (user 1000)) 100 (AmbRaise 41) EINVAL;
  lowering_needs_nothing : Leads world (one (record ambient_two { securebits = 0x40 }))
      (done 100 (AmbLower 5) ∷ done 100 (AmbLower 7) ∷ [])
      (one (record ambient_two { securebits = 0x40; ambient = 0x400 }));
  no_capability_can_be_lowered_past_the_last : IsRefused world (one (user 0)) 100 (AmbLower 41) EINVAL;
  clearing_needs_nothing : Leads world (one ambient_two) (done 100 AmbClear ∷ [])
      (one (record ambient_two { ambient = none }));
}
ambient_set = search

pub securebits : record {
  -- securebits: 0x20 is the lock of KEEP_CAPS (0x10), 0x02 that of NOROOT (0x01)
  securebits_are_set : Leads world (one (user 0)) (done 100 (SecureBits 0x2f) ∷ [])
      (one (record (user 0) { securebits = 0x2f }));
  securebits_want_setpcap : IsRefused world (one (user 1000)) 100 (SecureBits 0) EPERM;
  a_lock_is_never_cleared : IsRefused world (one (record (user 0) { securebits = 0x03 })) 100 (SecureBits 0x01) EPERM;
  a_locked_flag_is_never_set : IsRefused world (one (record (user 0) { securebits = 0x02 })) 100 (SecureBits 0x03)
      EPERM;
  a_locked_flag_is_never_cleared : IsRefused world (one (record (user 0) { securebits = 0x03 })) 100 (SecureBits 0x02)
      EPERM;
  another_flag_may_change_beside_a_lock : Leads world (one (record (user 0) { securebits = 0x03 }))
      (done 100 (SecureBits 0x43) ∷ []) (one (record (user 0) { securebits = 0x43 }));
  there_are_no_higher_securebits : IsRefused world (one (user 0)) 100 (SecureBits 0x100) EPERM;
}
securebits = search

pub keepcaps_and_no_new_privs : record {
  -- keepcaps needs no capability
  keepcaps_sets_and_clears_the_flag : Leads world (one (user 1000))
      (done 100 (KeepCaps 1) ∷ done 100 (KeepCaps 0) ∷ done 100 (KeepCaps 1) ∷ [])
      (one (record (user 1000) { securebits = 0x10 }));
  keepcaps_takes_0_or_1 : IsRefused world (one (record (user 1000) { securebits = 0x20 })) 100 (KeepCaps 2) EINVAL;
  keepcaps_can_be_locked : IsRefused world (one (record (user 1000) { securebits = 0x20 })) 100 (KeepCaps 0) EPERM;
  -- no_new_privs is set, and never cleared
  no_new_privs_is_set : Leads world (one (user 1000)) (done 100 (NoNewPrivs 1) ∷ [])
      (one (record (user 1000) { no_new_privs = true }));
  no_new_privs_is_never_cleared : IsRefused world (one (record (user 0) { no_new_privs = true })) 100 (NoNewPrivs 0)
      EINVAL;
}
keepcaps_and_no_new_privs = search
