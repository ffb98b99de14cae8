-- Worked cases of writing id maps and the setgroups word (user_namespaces(7)), and of which lists are maps.
use Rattle.std.proofs.Common.{◌≡◌, ℕ, zero, suc, true, false, List, Some, None, [], ◌∷◌, refl}
use Rattle.cm_base.specs.declared.errno.Errno.TheVariants.{EPERM, EINVAL}
use Rattle.model_cred.specs.Call.{SetGroups, Unshare, WriteUidMap, WriteGidMap, WriteSetgroups}
use Rattle.model_cred.specs.Credential.{Credential, all_four}
use Rattle.model_cred.specs.IdMap.{Extent, down, up, initial_map}
use Rattle.model_cred.specs.MapFault.{Empty, TooMany, ZeroLength, PastEnd, Overlap, map_fault}
use Rattle.model_cred.specs.Process.{State}
use Rattle.model_cred.specs.Space.{Space, Spaces, first_spaces}
use Rattle.model_run.proofs.Worlds.{user, process, in_space, one, new_space, newcomer, with_processes, space, ids, world, done, refused, Leads, IsRefused}

-- so many extents of one id each, which stands for itself
abbrev singles : ℕ → List Extent
singles zero = []
singles (suc n) = ids n n 1 ∷ singles n

-- lists that are maps, and that are none
pub extents_up_to_340_are_a_map : map_fault (singles 340) ≡ None
extents_up_to_340_are_a_map = refl

pub more_are_too_many : map_fault (singles 341) ≡ Some TooMany
more_are_too_many = refl

pub lists : record {
  an_extent_may_end_at_the_last_id : map_fault (ids 1 1 4294967294 ∷ []) ≡ None;
  an_extent_may_not_pass_it : map_fault (ids 1 1 4294967295 ∷ []) ≡ Some (PastEnd 0);
  inside_ranges_may_not_meet : map_fault (ids 0 0 2 ∷ ids 1 5 1 ∷ []) ≡ Some (Overlap 0 1);
  outside_ranges_may_not_meet : map_fault (ids 0 0 2 ∷ ids 5 1 1 ∷ []) ≡ Some (Overlap 0 1);
  the_fault_of_one_extent_comes_first : map_fault (ids 0 0 2 ∷ ids 5 1 1 ∷ ids 9 9 0 ∷ []) ≡ Some (ZeroLength 2);
  an_empty_list_is_no_map : map_fault [] ≡ Some Empty;
}
lists = search

-- both ways through a map
abbrev two : List Extent
two = ids 0 100 5 ∷ ids 5 200 5 ∷ []

pub both_ways : record {
  an_inside_id_goes_down : down two 7 ≡ Some 202;
  past_the_end_nothing_goes_down : down two 10 ≡ None;
  an_outside_id_goes_up : up two 104 ≡ Some 4;
  between_ranges_nothing_goes_up : up two 105 ≡ None;
  minus_one_is_not_mapped : down initial_map 4294967295 ≡ None;
}
both_ways = search

-- Root without CAP_SETFCAP (31) can't map root's id from within, a user maps its own, and no map is written twice.
abbrev without_setfcap : Credential
without_setfcap = record (user 0) { permitted = 0x1ff7fffffff; effective = 0x1ff7fffffff }

abbrev two_unshared : List Extent → State
two_unshared map = record {
  processes = in_space 1 100 (newcomer 0) ∷ in_space 2 101 (newcomer 1000) ∷ [];
  spaces = record (new_space 0 1000) { uids = Some map } ∷ new_space 0 0 ∷ first_spaces;
}

pub unshared_and_mapped : record {
  root_without_setfcap_cannot_map_root : Leads world
      (with_processes (process 100 without_setfcap ∷ process 101 (user 1000) ∷ []))
      (done 100 Unshare ∷ refused 100 (WriteUidMap 1 (ids 0 0 1 ∷ [])) EPERM ∷ done 101 Unshare
      ∷ done 101 (WriteUidMap 2 (ids 0 1000 1 ∷ [])) ∷ refused 101 (WriteUidMap 2 (ids 0 1000 1 ∷ [])) EPERM ∷ [])
      (two_unshared (ids 0 1000 1 ∷ []));
  -- A user maps its own group once the setgroups word is "deny", and can then set no groups.
  a_group_is_mapped_after_deny : Leads world (with_processes (process 101 (record (user 1000) { gid = all_four 1000 }) ∷ []))
      (done 101 Unshare ∷ refused 101 (WriteGidMap 1 (ids 0 1000 1 ∷ [])) EPERM ∷ done 101 (WriteSetgroups 1 true)
      ∷ done 101 (WriteGidMap 1 (ids 0 1000 1 ∷ [])) ∷ refused 101 (SetGroups (0 ∷ [])) EPERM ∷ [])
      (record {
        processes = in_space 1 101 (record (newcomer 1000) { gid = all_four 1000 }) ∷ [];
        spaces = record (new_space 0 1000) { gids = Some (ids 0 1000 1 ∷ []); deny = true } ∷ first_spaces;
      });
}
unshared_and_mapped = search

-- A new space (1) of user 1000, with a process in that space, one in its parent, and a new space (2) in it.
abbrev spaces : List Extent → Space → Spaces
spaces map last = last ∷ record (new_space 0 1000) { uids = Some map; gids = Some map } ∷ first_spaces

abbrev beside : ℕ → Credential → Space → State
beside n c s = record { processes = in_space n 100 c ∷ []; spaces = s ∷ first_spaces }

abbrev below : ℕ → Credential → List Extent → Space → State
below n c map s = record { processes = in_space n 100 c ∷ []; spaces = spaces map s }

pub who_writes : record {
  -- 1. a map that is written isn't written again
  a_written_map_is_not_written_again : IsRefused world (beside 0 (user 0) (space 0 1000 two)) 100 (WriteUidMap 1 two)
      EPERM;
  the_map_of_the_initial_space_is_written : IsRefused world (one (user 0)) 100 (WriteUidMap 0 initial_map) EPERM;
  -- 2. a writer that sits neither in the space nor in its parent is refused, whatever power it has
  root_above_the_parent_writes_no_map : IsRefused world (below 0 (user 0) two (new_space 1 100)) 100
      (WriteUidMap 2 (ids 0 0 1 ∷ [])) EPERM;
  -- 3. a writer without CAP_SETUID over the space is refused, also for a list that is no map
  a_stranger_writes_no_map : IsRefused world (beside 0 (user 1001) (new_space 0 1000)) 100 (WriteUidMap 1 []) EPERM;
}
who_writes = search

pub lists_that_are_none : record {
  -- 4. a list that is no map is invalid
  an_empty_map_is_invalid : IsRefused world (beside 0 (user 0) (new_space 0 1000)) 100 (WriteUidMap 1 []) EINVAL;
  a_map_of_341_lines_is_invalid : IsRefused world (beside 0 (user 0) (new_space 0 1000)) 100
      (WriteUidMap 1 (singles 341)) EINVAL;
  an_empty_extent_is_invalid : IsRefused world (beside 0 (user 0) (new_space 0 1000)) 100
      (WriteUidMap 1 (ids 0 0 0 ∷ [])) EINVAL;
  an_extent_past_the_last_id_is_invalid : IsRefused world (beside 0 (user 0) (new_space 0 1000)) 100
      (WriteUidMap 1 (ids 1 0 4294967295 ∷ [])) EINVAL;
  extents_that_meet_are_invalid : IsRefused world (beside 0 (user 0) (new_space 0 1000)) 100
      (WriteGidMap 1 (ids 0 5 2 ∷ ids 1 9 1 ∷ [])) EINVAL;
  -- an invalid list comes before an id that isn't mapped in the parent
  an_invalid_list_comes_first : IsRefused world (below 1 (newcomer 100) two (new_space 1 100)) 100
      (WriteUidMap 2 (ids 0 3 4 ∷ ids 0 0 1 ∷ [])) EINVAL;
}
lists_that_are_none = search

pub outside_ranges : record {
  -- 5. an outside range that doesn't lie in one extent of the parent's map is refused
  a_range_over_two_extents_is_refused : IsRefused world (below 1 (newcomer 100) two (new_space 1 100)) 100
      (WriteUidMap 2 (ids 0 3 4 ∷ [])) EPERM;
  below_an_unwritten_map_nothing_is_mapped : IsRefused world
      (record {
        processes = in_space 1 100 (newcomer 1000) ∷ [];
        spaces = new_space 1 1000 ∷ new_space 0 1000 ∷ first_spaces;
      }) 100
      (WriteUidMap 2 (ids 0 0 1 ∷ [])) EPERM;
  -- what is stored has ids as the initial space sees them
  a_stored_map_has_ids_of_the_initial_space : Leads world (below 1 (newcomer 100) two (new_space 1 100))
      (done 100 (WriteUidMap 2 (ids 0 1 4 ∷ ids 7 5 5 ∷ [])) ∷ [])
      (below 1 (newcomer 100) two (record (new_space 1 100) { uids = Some (ids 0 101 4 ∷ ids 7 200 5 ∷ []) }));
}
outside_ranges = search

pub root_of_the_parent : record {
  -- 6. the parent's id 0: a writer in the parent needs CAP_SETFCAP, a writer in the space needs that its maker had it
  the_parent_s_0_wants_setfcap : IsRefused world (beside 0 without_setfcap (new_space 0 0)) 100
      (WriteUidMap 1 (ids 5 0 1 ∷ [])) EPERM;
  with_setfcap_the_parent_s_0_is_mapped : Leads world (beside 0 (user 0) (new_space 0 0))
      (done 100 (WriteUidMap 1 (ids 5 0 1 ∷ [])) ∷ [])
      (beside 0 (user 0) (record (new_space 0 0) { uids = Some (ids 5 0 1 ∷ []) }));
  the_maker_s_setfcap_serves_a_writer_in_the_space : Leads world
      (beside 1 (newcomer 0) (record (new_space 0 0) { creator_setfcap = true }))
      (done 100 (WriteUidMap 1 (ids 0 0 1 ∷ [])) ∷ [])
      (beside 1 (newcomer 0) (record (new_space 0 0) { creator_setfcap = true; uids = Some (ids 0 0 1 ∷ []) }));
  -- other ids and the map of groups don't want it
  without_the_parent_s_0_setfcap_is_not_wanted : Leads world (beside 0 without_setfcap (new_space 0 0))
      (done 100 (WriteUidMap 1 (ids 0 1 9 ∷ [])) ∷ done 100 (WriteGidMap 1 (ids 0 0 9 ∷ [])) ∷ [])
      (beside 0 without_setfcap (record (new_space 0 0) { uids = Some (ids 0 1 9 ∷ []); gids = Some (ids 0 0 9 ∷ []) }));
}
root_of_the_parent = search

pub own_ids : record {
  -- 7. without power over the parent one's own id alone is mapped
  two_ids_want_power_over_the_parent : IsRefused world (beside 1 (newcomer 1000) (new_space 0 1000)) 100
      (WriteUidMap 1 (ids 0 1000 2 ∷ [])) EPERM;
  two_extents_want_power_over_the_parent : IsRefused world (beside 1 (newcomer 1000) (new_space 0 1000)) 100
      (WriteUidMap 1 (ids 0 1000 1 ∷ ids 1 1001 1 ∷ [])) EPERM;
  another_s_id_wants_power_over_the_parent : IsRefused world (beside 1 (newcomer 1000) (new_space 0 1000)) 100
      (WriteUidMap 1 (ids 0 1001 1 ∷ [])) EPERM;
  one_who_is_not_the_owner_maps_nothing : IsRefused world (beside 1 (newcomer 1001) (new_space 0 1000)) 100
      (WriteUidMap 1 (ids 0 1001 1 ∷ [])) EPERM;
  a_group_wants_the_word_deny : IsRefused world
      (beside 1 (record (newcomer 1000) { gid = all_four 1000 }) (new_space 0 1000)) 100
      (WriteGidMap 1 (ids 0 1000 1 ∷ [])) EPERM;
  -- the owner in the parent maps its own id too, without any capability
  the_owner_in_the_parent_maps_its_own_id : Leads world (beside 0 (user 1000) (new_space 0 1000))
      (done 100 (WriteUidMap 1 (ids 7 1000 1 ∷ [])) ∷ [])
      (beside 0 (user 1000) (record (new_space 0 1000) { uids = Some (ids 7 1000 1 ∷ []) }));
  -- one's own id is compared through the parent's map
  one_s_own_id_is_seen_through_the_parent_s_map : Leads world (below 2 (newcomer 202) two (new_space 1 202))
      (done 100 (WriteUidMap 2 (ids 0 7 1 ∷ [])) ∷ [])
      (below 2 (newcomer 202) two (record (new_space 1 202) { uids = Some (ids 0 202 1 ∷ []) }));
}
own_ids = search

pub setgroups_word : record {
  -- the setgroups word
  deny_is_not_written_after_the_map : IsRefused world (beside 0 (user 0) (space 0 1000 two)) 100 (WriteSetgroups 1 true)
      EPERM;
  allow_is_not_written_after_deny : IsRefused world (beside 0 (user 0) (record (new_space 0 1000) { deny = true })) 100
      (WriteSetgroups 1 false) EPERM;
  allow_changes_nothing_where_it_stands : Leads world (beside 0 (user 0) (space 0 1000 two))
      (done 100 (WriteSetgroups 1 false) ∷ []) (beside 0 (user 0) (space 0 1000 two));
  deny_may_be_written_again : Leads world (beside 0 (user 1000) (new_space 0 1000))
      (done 100 (WriteSetgroups 1 true) ∷ done 100 (WriteSetgroups 1 true) ∷ [])
      (beside 0 (user 1000) (record (new_space 0 1000) { deny = true }));
  a_stranger_writes_no_word : IsRefused world (beside 0 (user 1001) (new_space 0 1000)) 100 (WriteSetgroups 1 true)
      EPERM;
  -- a new space has the word of its parent
  a_new_space_has_the_word_of_its_parent : Leads world (beside 1 (newcomer 100) (record (space 0 100 two) { deny = true; gids = Some (ids 0 0 9 ∷ []) }))
      (done 100 Unshare ∷ [])
      (record {
        processes = in_space 2 100 (newcomer 100) ∷ [];
        spaces = record (new_space 1 100) { deny = true; creator_setfcap = true } ∷ record (space 0 100 two) {
          deny = true;
          gids = Some (ids 0 0 9 ∷ []);
        } ∷ first_spaces;
      });
}
setgroups_word = search
