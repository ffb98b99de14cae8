-- Worked cases, by computation, of script lines of capset(2) and of the prctl(2) calls on capabilities, securebits and
-- no_new_privs, and of how such events are printed (the numbers are those of capabilities(7)).
use Rattle.std.proofs.Common.{◌≡◌, [], ◌∷◌, map}
use Rattle.std.specs.Prelude.{codes}
use Rattle.cm_base.specs.declared.faults.LineFault.TheVariants as fault
use Rattle.cm_base.specs.declared.res.Res.TheVariants.{Done, Err}
use Rattle.cm_base.specs.declared.errno.Errno.TheVariants.{EPERM, EINVAL, EAGAIN, EINTR}
use Rattle.model_cred.specs.Call.{CapSet, BsetDrop, AmbRaise, AmbLower, AmbClear, SecureBits, KeepCaps, NoNewPrivs}
use Rattle.model_text.proofs.CaseWorld.{the_world}
use Rattle.model_text.proofs.LineCases.{IsEvent, Have, event_of}
use Rattle.model_text.proofs.PrintCases.{print_on_literals}
use Rattle.model_text.specs.Print.{event_text}
use Rattle.model_text.specs.Token.{cap_name_or_number}

-- ---- capset
pub capsets : record {
  -- the effective set stands first, then the permitted one, then the inheritable one
  capset_of_words : IsEvent (codes "100 capset none all none = 0") (CapSet 0 0x1ffffffffff 0) Done;
  capset_of_digits : IsEvent (codes "100 capset 0000000000000020 000001FFFFFFFFFF 0000000000000400 = EPERM")
      (CapSet 0x20 0x1ffffffffff 0x400) (Err EPERM);
  capset_of_names : IsEvent (codes "100 capset CAP_KILL CAP_KILL,CAP_CHOWN,CAP_KILL CAP_CHECKPOINT_RESTORE = 0")
      (CapSet 0x20 0x21 0x10000000000) Done;
  bits_above_forty_are_dropped : IsEvent (codes "100 capset ffffffffffffffff 8000000000000001 0000020000000000 = 0")
      (CapSet 0x1ffffffffff 1 0) Done;
  capset_is_interrupted : IsEvent (codes "00100\tcapset  all\tall none =  EINTR\r")
      (CapSet 0x1ffffffffff 0x1ffffffffff 0) (Err EINTR);
  shape_of_capset : Have fault.Shape
      (codes "100 capset" ∷ codes "100 capset all all none" ∷ codes "100 capset all all none ="
      ∷ codes "100 capset all all none 0" ∷ codes "100 capset all all none = 0 0"
      ∷ codes "100 capset all all none = = 0" ∷ codes "100 capset all all = none = 0"
      ∷ codes "100 capset = all all none = 0" ∷ []);
  count_of_capset : Have fault.Count
      (codes "100 capset = 0" ∷ codes "100 capset all = 0" ∷ codes "100 capset all all = 0"
      ∷ codes "100 capset all all none none = 0" ∷ []);
  kind_of_the_effective_set : Have (fault.Argument 1)
      (codes "100 capset 0 0 0 = 0" ∷ codes "100 capset -1 -1 -1 = 0" ∷ codes "100 capset - - - = 0"
      ∷ codes "100 capset All all none = 0" ∷ codes "100 capset KILL all none = 0"
      ∷ codes "100 capset CAP_KILL, all none = 0" ∷ codes "100 capset ,CAP_KILL all none = 0"
      ∷ codes "100 capset all,CAP_KILL all none = 0" ∷ codes "100 capset CAP_FOO all none = 0"
      ∷ codes "100 capset 000001fffffffff all none = 0" ∷ []);
  kind_of_the_permitted_set : Have (fault.Argument 2)
      (codes "100 capset all ALL none = 0" ∷ codes "100 capset all 000001ffffffffff0 none = 0" ∷ []);
  kind_of_the_inheritable_set : Have (fault.Argument 3)
      (codes "100 capset all all cap_kill = 0" ∷ codes "100 capset all all 0x00000000000020 = 0"
      ∷ codes "100 capset all all 000000000000002g = 0" ∷ []);
  result_of_capset : Have fault.Outcome
      (codes "100 capset all all none = 00" ∷ codes "100 capset all all none = 1" ∷ codes "100 capset all all none = -1"
      ∷ codes "100 capset all all none = EFOO" ∷ []);
  pid_of_capset : Have fault.Pid (codes "0 capset all all none = 0" ∷ []);
}
capsets = search

-- ---- one capability, by its name or by a number
pub one_capability : record {
  bset_drop_of_a_name : IsEvent (codes "100 bset_drop CAP_SETUID = 0") (BsetDrop 7) Done;
  bset_drop_of_a_number : IsEvent (codes "100 bset_drop 7 = EPERM") (BsetDrop 7) (Err EPERM);
  leading_zeros_of_a_capability : IsEvent (codes "100 bset_drop 00040 = 0") (BsetDrop 40) Done;
  number_of_no_capability : IsEvent (codes "100 bset_drop 41 = EINVAL") (BsetDrop 41) (Err EINVAL);
  largest_number_of_no_capability : IsEvent (codes "100 bset_drop 4294967295 = EINVAL") (BsetDrop 4294967295)
      (Err EINVAL);
  amb_raise_of_a_name : IsEvent (codes "100 amb_raise CAP_NET_BIND_SERVICE = 0") (AmbRaise 10) Done;
  amb_raise_of_a_number : IsEvent (codes "100 amb_raise 0 = EPERM") (AmbRaise 0) (Err EPERM);
  amb_lower_of_a_name : IsEvent (codes "100 amb_lower CAP_CHECKPOINT_RESTORE = 0") (AmbLower 40) Done;
  amb_lower_of_no_capability : IsEvent (codes "100 amb_lower 64 = EINVAL") (AmbLower 64) (Err EINVAL);
  shape_of_one_capability : Have fault.Shape
      (codes "100 bset_drop" ∷ codes "100 bset_drop 7" ∷ codes "100 bset_drop 7 =" ∷ codes "100 bset_drop 7 = 0 0"
      ∷ codes "100 bset_drop 7 = = 0" ∷ codes "100 bset_drop = 7 = 0" ∷ []);
  count_of_one_capability : Have fault.Count
      (codes "100 bset_drop = 0" ∷ codes "100 bset_drop 7 8 = 0" ∷ codes "100 amb_raise = 0"
      ∷ codes "100 amb_raise CAP_KILL CAP_CHOWN = 0" ∷ codes "100 amb_lower = 0" ∷ []);
  kind_of_one_capability : Have (fault.Argument 1)
      (codes "100 bset_drop -1 = 0" ∷ codes "100 bset_drop +7 = 0" ∷ codes "100 bset_drop 4294967296 = 0"
      ∷ codes "100 bset_drop 0x7 = 0" ∷ codes "100 bset_drop CAP_FOO = 0" ∷ codes "100 bset_drop SETUID = 0"
      ∷ codes "100 bset_drop cap_setuid = 0" ∷ codes "100 bset_drop CAP_SETUID,CAP_KILL = 0"
      ∷ codes "100 bset_drop CAP_SETUID, = 0" ∷ codes "100 bset_drop all = 0" ∷ codes "100 bset_drop none = 0"
      ∷ codes "100 amb_raise -1 = 0" ∷ codes "100 amb_raise CAP_ = 0" ∷ codes "100 amb_lower none = 0" ∷ []);
  result_of_one_capability : Have fault.Outcome
      (codes "100 bset_drop 7 = 7" ∷ codes "100 bset_drop 7 = 00" ∷ codes "100 bset_drop 7 = einval"
      ∷ codes "100 amb_lower 5 = 1" ∷ []);
}
one_capability = search

-- ---- the whole ambient set
pub ambient_clears : record {
  amb_clear_is_done : IsEvent (codes "100 amb_clear = 0") AmbClear Done;
  amb_clear_fails : IsEvent (codes "100 amb_clear = EAGAIN") AmbClear (Err EAGAIN);
  shape_of_amb_clear : Have fault.Shape
      (codes "100 amb_clear" ∷ codes "100 amb_clear 0" ∷ codes "100 amb_clear =" ∷ codes "100 amb_clear = = 0"
      ∷ codes "100 amb_clear = 0 0" ∷ []);
  count_of_amb_clear : Have fault.Count
      (codes "100 amb_clear 0 = 0" ∷ codes "100 amb_clear CAP_KILL = 0" ∷ codes "100 amb_clear all = 0" ∷ []);
  result_of_amb_clear : Have fault.Outcome (codes "100 amb_clear = 00" ∷ codes "100 amb_clear = 1" ∷ []);
}
ambient_clears = search

-- ---- one number, whatever the rules say of it
pub one_number : record {
  securebits_of_a_number : IsEvent (codes "100 securebits 16 = 0") (SecureBits 16) Done;
  more_than_securebits_is_read : IsEvent (codes "100 securebits 256 = EPERM") (SecureBits 256) (Err EPERM);
  largest_securebits_is_read : IsEvent (codes "100 securebits 4294967295 = EPERM") (SecureBits 4294967295) (Err EPERM);
  keepcaps_is_set : IsEvent (codes "100 keepcaps 1 = 0") (KeepCaps 1) Done;
  keepcaps_of_two_is_read : IsEvent (codes "100 keepcaps 02 = EINVAL") (KeepCaps 2) (Err EINVAL);
  no_new_privs_is_set : IsEvent (codes "100 no_new_privs 1 = 0") (NoNewPrivs 1) Done;
  no_new_privs_of_zero_is_read : IsEvent (codes "100 no_new_privs 0 = EINVAL") (NoNewPrivs 0) (Err EINVAL);
  shape_of_one_number : Have fault.Shape
      (codes "100 securebits" ∷ codes "100 securebits 16" ∷ codes "100 securebits 16 =" ∷ codes "100 securebits 16 0"
      ∷ codes "100 securebits 16 = = 0" ∷ codes "100 keepcaps x y z" ∷ []);
  count_of_one_number : Have fault.Count
      (codes "100 securebits = 0" ∷ codes "100 securebits 1 2 = 0" ∷ codes "100 keepcaps = 0"
      ∷ codes "100 no_new_privs = 0" ∷ codes "100 no_new_privs 1 0 0 0 = 0" ∷ []);
  -- no id stands there, so that -1 is no number
  kind_of_one_number : Have (fault.Argument 1)
      (codes "100 securebits -1 = 0" ∷ codes "100 securebits 0x10 = 0" ∷ codes "100 securebits SECBIT_KEEP_CAPS = 0"
      ∷ codes "100 securebits 4294967296 = 0" ∷ codes "100 keepcaps -1 = 0" ∷ codes "100 keepcaps true = 0"
      ∷ codes "100 no_new_privs -1 = 0" ∷ []);
  result_of_one_number : Have fault.Outcome
      (codes "100 securebits 16 = 16" ∷ codes "100 keepcaps 1 = 1" ∷ codes "100 no_new_privs 1 = 00" ∷ []);
  names_that_are_none : Have fault.Call (codes "100 prctl 1 = 0" ∷ codes "100 Keepcaps 1 = 0" ∷ []);
}
one_number = search

-- ---- printed events
pub printed_capabilities : record {
  sets_are_printed_in_digits : event_text the_world (event_of (CapSet 0x1ffffffffff 0x400 0) Done)
      ≡ codes "100 capset 000001ffffffffff 0000000000000400 0000000000000000 = 0";
  each_digit_is_printed : event_text the_world (event_of (CapSet 0x10123456789 0x1abcdef0000 0x19abcdef012) (Err EPERM))
      ≡ codes "100 capset 0000010123456789 000001abcdef0000 0000019abcdef012 = EPERM";
  capabilities_are_printed_by_name : map cap_name_or_number (0 ∷ 5 ∷ 7 ∷ 8 ∷ 10 ∷ 21 ∷ 31 ∷ 32 ∷ 39 ∷ 40 ∷ [])
      ≡ codes "CAP_CHOWN" ∷ codes "CAP_KILL" ∷ codes "CAP_SETUID" ∷ codes "CAP_SETPCAP" ∷ codes "CAP_NET_BIND_SERVICE"
      ∷ codes "CAP_SYS_ADMIN" ∷ codes "CAP_SETFCAP" ∷ codes "CAP_MAC_OVERRIDE" ∷ codes "CAP_BPF"
      ∷ codes "CAP_CHECKPOINT_RESTORE" ∷ [];
  numbers_past_them_are_printed : map cap_name_or_number (41 ∷ 64 ∷ 4294967295 ∷ [])
      ≡ codes "41" ∷ codes "64" ∷ codes "4294967295" ∷ [];
  each_prctl_is_printed : map (λ call. event_text the_world (event_of call Done))
      (BsetDrop 0 ∷ AmbRaise 40 ∷ AmbLower 10 ∷ AmbClear ∷ SecureBits 47 ∷ KeepCaps 1 ∷ NoNewPrivs 1 ∷ [])
      ≡ codes "100 bset_drop CAP_CHOWN = 0" ∷ codes "100 amb_raise CAP_CHECKPOINT_RESTORE = 0"
      ∷ codes "100 amb_lower CAP_NET_BIND_SERVICE = 0" ∷ codes "100 amb_clear = 0" ∷ codes "100 securebits 47 = 0"
      ∷ codes "100 keepcaps 1 = 0" ∷ codes "100 no_new_privs 1 = 0" ∷ [];
  each_refusal_is_printed : map (λ call. event_text the_world (event_of call (Err EINVAL)))
      (BsetDrop 41 ∷ AmbRaise 4294967295 ∷ AmbLower 41 ∷ SecureBits 4294967295 ∷ KeepCaps 4294967295
      ∷ NoNewPrivs 0 ∷ [])
      ≡ codes "100 bset_drop 41 = EINVAL" ∷ codes "100 amb_raise 4294967295 = EINVAL"
      ∷ codes "100 amb_lower 41 = EINVAL" ∷ codes "100 securebits 4294967295 = EINVAL"
      ∷ codes "100 keepcaps 4294967295 = EINVAL" ∷ codes "100 no_new_privs 0 = EINVAL" ∷ [];
}
unfolding print_on_literals
printed_capabilities = search
