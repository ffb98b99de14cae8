-- Worked cases, by computation, of script lines that name spaces (setns(2), user_namespaces(7)), and of how such events
-- are printed.
use Rattle.std.proofs.Common.{◌≡◌, true, false, [], ◌∷◌, map}
use Rattle.std.specs.Prelude.{codes}
use Rattle.cm_base.specs.declared.faults.LineFault.TheVariants as fault
use Rattle.cm_base.specs.declared.res.Res.TheVariants.{Done, Err}
use Rattle.cm_base.specs.declared.errno.Errno.TheVariants.{EPERM, EINVAL}
use Rattle.model_cred.specs.Call.{SetNs, WriteUidMap, WriteGidMap, WriteSetgroups}
use Rattle.model_text.proofs.CaseWorld.{the_world}
use Rattle.model_text.proofs.LineCases.{IsEvent, Have, event_of}
use Rattle.model_text.proofs.PrintCases.{print_on_literals}
use Rattle.model_text.specs.Print.{event_text}

-- ---- the token of a space
pub tokens_of_spaces : record {
  the_initial_space_by_its_name : IsEvent (codes "100 setns init = 0") (SetNs 0) Done;
  a_declared_space_by_its_name : IsEvent (codes "100 setns pod = 0") (SetNs 1) Done;
  another_declared_space : IsEvent (codes "100 setns box-1.a = EINVAL") (SetNs 2) (Err EINVAL);
  the_initial_space_by_its_number : IsEvent (codes "100 setns #0 = 0") (SetNs 0) Done;
  leading_zeros_of_a_space : IsEvent (codes "100 setns #002 = 0") (SetNs 2) Done;
  -- whether the space stands is for the machine to say
  a_space_past_the_declared_ones : IsEvent (codes "100 setns #7 = 0") (SetNs 7) Done;
  the_largest_number_of_a_space : IsEvent (codes "100 setns #4294967295 = 0") (SetNs 4294967295) Done;
  tokens_of_no_space : Have (fault.Argument 1)
      (codes "100 setns bod = 0" ∷ codes "100 setns POD = 0" ∷ codes "100 setns Init = 0" ∷ codes "100 setns # = 0"
      ∷ codes "100 setns #-1 = 0" ∷ codes "100 setns #4294967296 = 0" ∷ codes "100 setns 1 = 0"
      ∷ codes "100 setns #1x = 0" ∷ codes "100 setns ##1 = 0" ∷ codes "100 setns #pod = 0" ∷ codes "100 setns - = 0"
      ∷ codes "100 setns podx = 0" ∷ codes "100 setns po = 0" ∷ codes "100 setns root = 0" ∷ []);
  count_of_setns : Have fault.Count (codes "100 setns = 0" ∷ codes "100 setns #1 #2 = 0" ∷ []);
  shape_of_setns : Have fault.Shape
      (codes "100 setns #1" ∷ codes "100 setns x y z" ∷ codes "100 setns #1 =" ∷ codes "100 setns #1 = 0 0" ∷ []);
  result_of_setns : Have fault.Outcome
      (codes "100 setns #1 = 1" ∷ codes "100 setns pod = pod" ∷ codes "100 setns init = 00" ∷ []);
}
tokens_of_spaces = search

-- ---- maps
pub written_maps : record {
  a_map_of_one_line : IsEvent (codes "100 write_uid_map #1 0 1000 1 = 0")
      (WriteUidMap 1 (record { inside = 0; outside = 1000; length = 1 } ∷ [])) Done;
  a_map_of_two_lines : IsEvent (codes "100 write_gid_map pod 0 100 50 050 4294967295 0 = EINVAL")
      (WriteGidMap 1 (record { inside = 0; outside = 100; length = 50 } ∷ record { inside = 50; outside = 4294967295; length = 0 } ∷ []))
      (Err EINVAL);
  -- that no list without a line is a map is for the rules to say
  a_map_of_no_line : IsEvent (codes "100 write_uid_map init = EINVAL") (WriteUidMap 0 []) (Err EINVAL);
  counts_of_maps : Have fault.Count
      (codes "100 write_uid_map = 0" ∷ codes "100 write_uid_map #1 0 = 0" ∷ codes "100 write_uid_map #1 0 0 = 0"
      ∷ codes "100 write_uid_map #1 0 0 1 2 = 0" ∷ codes "100 write_gid_map 0 0 1 = 0"
      ∷ codes "100 write_gid_map x y z = 0" ∷ []);
  kind_of_the_space_of_a_map : Have (fault.Argument 1)
      (codes "100 write_uid_map 0 0 0 1 = 0" ∷ codes "100 write_gid_map box 0 0 1 = 0"
      ∷ codes "100 write_uid_map -1 x y z = 0" ∷ codes "100 write_uid_map 1 = 0" ∷ []);
  -- no id stands there, so that -1 is no number
  kind_of_an_outside_id : Have (fault.Argument 3)
      (codes "100 write_uid_map #1 0 -1 1 = 0" ∷ codes "100 write_gid_map #1 0 x y = 0" ∷ []);
  kind_of_a_later_length : Have (fault.Argument 7)
      (codes "100 write_uid_map #1 0 0 1 1 1 x = 0" ∷ codes "100 write_gid_map #1 0 0 1 1 1 4294967296 2 2 y = 0" ∷ []);
  shape_of_maps : Have fault.Shape
      (codes "100 write_uid_map" ∷ codes "100 write_uid_map #1 0 0 1" ∷ codes "100 write_uid_map #1 0 0 1 = 0 0" ∷ []);
  result_of_maps : Have fault.Outcome (codes "100 write_uid_map #1 0 0 1 = 1" ∷ codes "100 write_gid_map #1 = 00" ∷ []);
}
written_maps = search

-- ---- the word of a setgroups file
pub words_of_setgroups : record {
  the_word_deny : IsEvent (codes "100 write_setgroups #1 deny = 0") (WriteSetgroups 1 true) Done;
  the_word_allow : IsEvent (codes "100 write_setgroups init allow = EPERM") (WriteSetgroups 0 false) (Err EPERM);
  other_words : Have (fault.Argument 2)
      (codes "100 write_setgroups #1 Deny = 0" ∷ codes "100 write_setgroups #1 0 = 0"
      ∷ codes "100 write_setgroups #1 allowed = 0" ∷ codes "100 write_setgroups #1 den = 0" ∷ []);
  words_of_no_space : Have (fault.Argument 1)
      (codes "100 write_setgroups deny #1 = 0" ∷ codes "100 write_setgroups x y = 0" ∷ []);
  count_of_words : Have fault.Count
      (codes "100 write_setgroups #1 = 0" ∷ codes "100 write_setgroups deny = 0"
      ∷ codes "100 write_setgroups #1 deny allow = 0" ∷ []);
}
words_of_setgroups = search

-- ---- printed events
pub printed_spaces : record {
  spaces_are_printed : map (λ space. event_text the_world (event_of (SetNs space) Done))
      (0 ∷ 1 ∷ 2 ∷ 3 ∷ 4294967295 ∷ [])
      ≡ codes "100 setns init = 0" ∷ codes "100 setns pod = 0" ∷ codes "100 setns box-1.a = 0"
      ∷ codes "100 setns #3 = 0" ∷ codes "100 setns #4294967295 = 0" ∷ [];
  -- 4294967295 is no -1 there
  maps_are_printed : event_text the_world
      (event_of (WriteUidMap 2 (record { inside = 0; outside = 100; length = 50 } ∷ record { inside = 50; outside = 4294967295; length = 1 } ∷ [])) (Err EPERM))
      ≡ codes "100 write_uid_map box-1.a 0 100 50 50 4294967295 1 = EPERM";
  other_writes_are_printed : map (λ call. event_text the_world (event_of call Done))
      (WriteGidMap 7 [] ∷ WriteGidMap 1 (record { inside = 5; outside = 6; length = 7 } ∷ []) ∷ WriteSetgroups 1 true
      ∷ WriteSetgroups 0 false ∷ [])
      ≡ codes "100 write_gid_map #7 = 0" ∷ codes "100 write_gid_map pod 5 6 7 = 0"
      ∷ codes "100 write_setgroups pod deny = 0" ∷ codes "100 write_setgroups init allow = 0" ∷ [];
}
unfolding print_on_literals
printed_spaces = search
