-- Worked cases, by computation, of script lines of the calls that set ids and groups, and of how such events are printed.
use Rattle.std.proofs.Common.{◌≡◌, ℕ, List, [], ◌∷◌, ◌++◌, map, replicate, flat_map}
use Rattle.std.specs.Prelude.{codes}
use Rattle.cm_base.specs.declared.faults.LineFault.{LineFault}
use Rattle.cm_base.specs.declared.faults.LineFault.TheVariants as fault
use Rattle.cm_base.specs.declared.limited.Limited.TheVariants as limit
use Rattle.cm_base.specs.declared.res.Res.{Res}
use Rattle.cm_base.specs.declared.res.Res.TheVariants.{Done, Id, Err}
use Rattle.cm_base.specs.declared.errno.Errno.TheVariants.{EPERM, EINVAL, EAGAIN}
use Rattle.model_cred.specs.Call.{Call, Event, SetUid, SetReUid, SetResUid, SetFsUid, SetGid, SetReGid, SetResGid, SetFsGid, SetGroups}
use Rattle.model_text.proofs.CaseWorld.{the_world}
use Rattle.model_text.proofs.PrintCases.{print_on_literals}
use Rattle.model_text.specs.Line.{Tells, Faulty, Exceeds, script_line}
use Rattle.model_text.specs.Print.{event_text}

-- the event of a call of process 100
abbrev pub event_of : Call → Res → Event
event_of call res = record { pid = 100; call = call; res = res }

-- the line tells this event
abbrev pub IsEvent : List ℕ → Call → Res → Type 0
IsEvent line call res = script_line the_world line ≡ Tells (event_of call res)

-- each of the lines has this fault
abbrev pub Have : LineFault → List (List ℕ) → Type 0
Have why lines = map (script_line the_world) lines ≡ map (λ _. Faulty why) lines

-- ---- one id
pub one_id : record {
  setuid_is_done : IsEvent (codes "100 setuid 33 = 0") (SetUid 33) Done;
  setuid_is_refused : IsEvent (codes "100 setuid 33 = EPERM") (SetUid 33) (Err EPERM);
  setuid_of_minus_one : IsEvent (codes "100 setuid -1 = EINVAL") (SetUid 4294967295) (Err EINVAL);
  setuid_of_the_largest_number : IsEvent (codes "100 setuid 4294967295 = EINVAL") (SetUid 4294967295) (Err EINVAL);
  setgid_with_leading_zeros : IsEvent (codes "00100\tsetgid  0034 = 0 ") (SetGid 34) Done;
  setgid_is_interrupted : IsEvent (codes "100 setgid 34 = EAGAIN") (SetGid 34) (Err EAGAIN);
  shape_of_one_id : Have fault.Shape
      (codes "100 setuid" ∷ codes "100 setuid 1" ∷ codes "100 setuid 1 =" ∷ codes "100 setuid 1 0"
      ∷ codes "100 setuid 1 = 0 0" ∷ codes "100 setuid 1 = = 0" ∷ codes "100 setuid 1 == 0" ∷ codes "100 setuid 1=0"
      ∷ codes "100 setuid = = 0" ∷ codes "100 setuid =" ∷ codes "100 setgid 1 = 0 ; done" ∷ []);
  count_of_one_id : Have fault.Count
      (codes "100 setuid = 0" ∷ codes "100 setuid 1 2 = 0" ∷ codes "100 setgid = 0" ∷ codes "100 setgid 1 2 = 0"
      ∷ codes "100 setgid 1 2 3 = 0" ∷ []);
  kind_of_one_id : Have (fault.Argument 1)
      (codes "100 setuid -2 = 0" ∷ codes "100 setuid +1 = 0" ∷ codes "100 setuid 4294967296 = 0"
      ∷ codes "100 setuid root = 0" ∷ codes "100 setuid 0x1 = 0" ∷ codes "100 setuid --1 = 0"
      ∷ codes "100 setgid - = 0" ∷ []);
  result_of_one_id : Have fault.Outcome
      (codes "100 setuid 1 = 00" ∷ codes "100 setuid 1 = 1" ∷ codes "100 setuid 1 = -1" ∷ codes "100 setuid 1 = EFOO"
      ∷ codes "100 setuid 1 = eperm" ∷ codes "100 setuid 1 = E" ∷ codes "100 setgid 1 = 0x0" ∷ []);
}
one_id = search

-- ---- two ids
pub two_ids : record {
  setreuid_is_done : IsEvent (codes "100 setreuid 1000 -1 = 0") (SetReUid 1000 4294967295) Done;
  setregid_is_refused : IsEvent (codes "100 setregid -1 4294967294 = EPERM") (SetReGid 4294967295 4294967294)
      (Err EPERM);
  shape_of_two_ids : Have fault.Shape (codes "100 setreuid 1 2" ∷ codes "100 setreuid 1 = 2 = 0" ∷ []);
  count_of_two_ids : Have fault.Count
      (codes "100 setreuid = 0" ∷ codes "100 setreuid 1 = 0" ∷ codes "100 setreuid 1 2 3 = 0"
      ∷ codes "100 setregid 1 = 0" ∷ []);
  kind_of_the_first_of_two : Have (fault.Argument 1) (codes "100 setregid x 1 = 0" ∷ codes "100 setreuid x y = 0" ∷ []);
  kind_of_the_second_of_two : Have (fault.Argument 2)
      (codes "100 setreuid 1 x = 0" ∷ codes "100 setregid -1 -2 = 0" ∷ []);
  result_of_two_ids : Have fault.Outcome (codes "100 setregid 1 2 = done" ∷ []);
}
two_ids = search

-- ---- three ids
pub three_ids : record {
  setresuid_keeps_two : IsEvent (codes "100 setresuid -1 1000 -1 = 0") (SetResUid 4294967295 1000 4294967295) Done;
  setresgid_is_done : IsEvent (codes "100 setresgid 33 34 35 = 0") (SetResGid 33 34 35) Done;
  shape_of_three_ids : Have fault.Shape (codes "100 setresgid 1 2 3" ∷ codes "100 setresgid 1 2 = 3 = 0" ∷ []);
  count_of_three_ids : Have fault.Count
      (codes "100 setresgid = 0" ∷ codes "100 setresgid 1 2 = 0" ∷ codes "100 setresgid 1 2 3 4 = 0"
      ∷ codes "100 setresuid 1 2 = 0" ∷ []);
  kind_of_the_third_of_three : Have (fault.Argument 3) (codes "100 setresgid 1 2 x = 0" ∷ []);
  kind_of_the_first_of_three : Have (fault.Argument 1)
      (codes "100 setresgid x y z = 0" ∷ codes "100 setresuid x 2 y = x" ∷ []);
}
three_ids = search

-- ---- the file system ids, whose result is the id from before
pub file_system_ids : record {
  setfsuid_gives_the_id_before : IsEvent (codes "100 setfsuid 5 = 1000") (SetFsUid 5) (Id 1000);
  zero_is_an_id_there : IsEvent (codes "100 setfsuid 5 = 0") (SetFsUid 5) (Id 0);
  leading_zeros_of_an_id_before : IsEvent (codes "100 setfsuid 005 = 01000") (SetFsUid 5) (Id 1000);
  setfsuid_of_minus_one_asks : IsEvent (codes "100 setfsuid -1 = 1000") (SetFsUid 4294967295) (Id 1000);
  setfsgid_gives_the_id_before : IsEvent (codes "100 setfsgid 34 = 65534") (SetFsGid 34) (Id 65534);
  largest_id_before : IsEvent (codes "100 setfsgid 34 = 4294967295") (SetFsGid 34) (Id 4294967295);
  shape_of_file_system_ids : Have fault.Shape
      (codes "100 setfsuid 5" ∷ codes "100 setfsuid 5 =" ∷ codes "100 setfsgid 5 = 0 0" ∷ []);
  count_of_file_system_ids : Have fault.Count
      (codes "100 setfsuid = 0" ∷ codes "100 setfsuid 5 6 = 0" ∷ codes "100 setfsgid = EPERM" ∷ []);
  kind_of_file_system_ids : Have (fault.Argument 1) (codes "100 setfsgid x = 0" ∷ codes "100 setfsuid x = EPERM" ∷ []);
  result_of_file_system_ids : Have fault.Outcome
      (codes "100 setfsuid 5 = EAGAIN" ∷ codes "100 setfsuid 5 = -1" ∷ codes "100 setfsuid 5 = 4294967296"
      ∷ codes "100 setfsgid 5 = EINVAL" ∷ []);
  -- where the caller's filter excludes it
  setfsuid_is_excluded : IsEvent (codes "100 setfsuid 5 = EPERM") (SetFsUid 5) (Err EPERM);
  setfsgid_is_excluded : IsEvent (codes "100 setfsgid 5 = EPERM") (SetFsGid 5) (Err EPERM);
}
file_system_ids = search

-- ---- groups
pub groups : record {
  setgroups_of_none : IsEvent (codes "100 setgroups = 0") (SetGroups []) Done;
  setgroups_of_one : IsEvent (codes "100 setgroups 10 = 0") (SetGroups (10 ∷ [])) Done;
  setgroups_as_they_stand : IsEvent (codes "100 setgroups 34 010 34 = 0") (SetGroups (34 ∷ 10 ∷ 34 ∷ [])) Done;
  setgroups_of_minus_one : IsEvent (codes "100 setgroups 10 -1 = EINVAL") (SetGroups (10 ∷ 4294967295 ∷ []))
      (Err EINVAL);
  setgroups_is_refused : IsEvent (codes "100 setgroups = EPERM") (SetGroups []) (Err EPERM);
  shape_of_groups : Have fault.Shape
      (codes "100 setgroups" ∷ codes "100 setgroups 10" ∷ codes "100 setgroups =" ∷ codes "100 setgroups 10 ="
      ∷ codes "100 setgroups 10 = = 0" ∷ codes "100 setgroups = = 0" ∷ codes "100 setgroups = 10 = 0"
      ∷ codes "100 setgroups = 0 0" ∷ codes "100 setgroups 10 0" ∷ []);
  -- the first `=` is followed by exactly one token, which is no result
  equals_as_a_result : Have fault.Outcome
      (codes "100 setgroups = =" ∷ codes "100 setgroups 10 = =" ∷ codes "100 setuid 1 = =" ∷ []);
  kind_of_a_group : Have (fault.Argument 2)
      (codes "100 setgroups 10 x = 0" ∷ codes "100 setgroups 10 x y = z"
      ∷ codes "100 setgroups 10 4294967296 = 0" ∷ []);
  kind_of_the_first_group : Have (fault.Argument 1)
      (codes "100 setgroups x = 0" ∷ codes "100 setgroups 10,11 = 0" ∷ codes "100 setgroups - = 0" ∷ []);
  kind_of_the_fourth_group : Have (fault.Argument 4) (codes "100 setgroups 1 2 3 0x4 5 = 0" ∷ []);
  result_of_groups : Have fault.Outcome (codes "100 setgroups 10 = 10" ∷ codes "100 setgroups = 00" ∷ []);
}
groups = search

-- so many groups 7, each after a space
abbrev groups_7 : ℕ → List ℕ
groups_7 n = flat_map (λ group. codes " " ++ group) (replicate n (codes "7"))

pub most_groups : record {
  most_groups_are_read : script_line the_world (codes "100 setgroups" ++ groups_7 1024 ++ codes " = 0")
      ≡ Tells (event_of (SetGroups (replicate 1024 7)) Done);
  one_group_more_is_over_the_limit : script_line the_world (codes "100 setgroups" ++ groups_7 1025 ++ codes " = EINVAL")
      ≡ Exceeds limit.Groups;
  -- the limit comes after each fault of its line
  a_fault_comes_before_the_limit : map (script_line the_world)
      ((codes "100 setgroups" ++ groups_7 1025 ++ codes " = 1")
      ∷ (codes "100 setgroups" ++ groups_7 1025 ++ codes " x = 1") ∷ (codes "100 setgroups" ++ groups_7 1025) ∷ [])
      ≡ Faulty fault.Outcome ∷ Faulty (fault.Argument 1026) ∷ Faulty fault.Shape ∷ [];
}
most_groups = search

-- ---- printed events
pub printed_ids_and_groups : record {
  no_groups_are_printed : event_text the_world (event_of (SetGroups []) Done) ≡ codes "100 setgroups = 0";
  groups_are_printed : event_text the_world (event_of (SetGroups (34 ∷ 10 ∷ 34 ∷ 4294967295 ∷ [])) (Err EINVAL))
      ≡ codes "100 setgroups 34 10 34 -1 = EINVAL";
  one_id_is_printed : event_text the_world (event_of (SetUid 33) (Err EPERM)) ≡ codes "100 setuid 33 = EPERM";
  two_ids_are_printed : event_text the_world (event_of (SetReGid 4294967295 34) Done) ≡ codes "100 setregid -1 34 = 0";
  three_ids_are_printed : event_text the_world (event_of (SetResGid 33 34 35) Done)
      ≡ codes "100 setresgid 33 34 35 = 0";
  id_before_is_printed : event_text the_world (event_of (SetFsUid 4294967295) (Id 1000))
      ≡ codes "100 setfsuid -1 = 1000";
  -- a result is no id: it is printed as its number
  largest_id_before_is_printed : event_text the_world (event_of (SetFsGid 34) (Id 4294967295))
      ≡ codes "100 setfsgid 34 = 4294967295";
  each_name_is_printed : map (λ call. event_text the_world (event_of call Done))
      (SetGid 1 ∷ SetReUid 1 2 ∷ SetFsGid 3 ∷ SetResUid 4 5 6 ∷ [])
      ≡ codes "100 setgid 1 = 0" ∷ codes "100 setreuid 1 2 = 0" ∷ codes "100 setfsgid 3 = 0"
      ∷ codes "100 setresuid 4 5 6 = 0" ∷ [];
}
unfolding print_on_literals
printed_ids_and_groups = search
