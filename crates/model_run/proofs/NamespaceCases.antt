-- Worked cases of making and joining spaces, and of power over them (user_namespaces(7), unshare(2), setns(2)).
use Rattle.std.proofs.Common.{◌≡◌, ℕ, zero, suc, true, false, Some, None, [], ◌∷◌, refl}
use Rattle.cm_base.specs.CapSet.{none}
use Rattle.cm_base.specs.Limits.{minus_one}
use Rattle.cm_base.specs.declared.errno.Errno.TheVariants.{EPERM, EINVAL, ENOSPC}
use Rattle.cm_base.specs.declared.res.Res.TheVariants.{Child, Err}
use Rattle.model_cred.specs.Call.{SetResUid, CloneUser, Unshare, SetNs}
use Rattle.model_cred.specs.Credential.{Credential}
use Rattle.model_cred.specs.IdMap.{initial_map}
use Rattle.model_cred.specs.Process.{State}
use Rattle.model_cred.specs.Right.{Cap}
use Rattle.model_cred.specs.Space.{Space, Spaces, first_spaces, level, is_at_or_above, next_below}
use Rattle.model_rules.specs.Power.{Over, owned, above, over}
use Rattle.model_run.specs.Holds.{process_holds}
use Rattle.model_run.specs.Ruling.{own}
use Rattle.model_run.specs.Step.{Wrong}
use Rattle.model_run.proofs.Worlds.{user, process, in_space, one, new_space, newcomer, space, ids, world, done, gives, replay, Leads, IsRefused}

-- unshare: the caller has all capabilities in the new space, and none over the initial one
abbrev unshared : State
unshared = record { processes = in_space 1 100 (newcomer 1000) ∷ []; spaces = new_space 0 1000 ∷ first_spaces }

pub unshares : record {
  unshare_gives_all_capabilities_in_the_new_space : Leads world (one (user 1000)) (done 100 Unshare ∷ []) unshared;
  they_hold_over_the_new_space : process_holds unshared 100 (Cap 21 1) ≡ true;
  they_hold_not_over_the_initial_one : process_holds unshared 100 (Cap 21 0) ≡ false;
}
unshares = search

-- a newcomer loses its inheritable, ambient and securebits, and regains its bounding set; it keeps no_new_privs and ids
abbrev seasoned : Credential
seasoned = record (user 1000) {
  groups = 5 ∷ [];
  inheritable = 0x20;
  ambient = 0x20;
  permitted = 0x80000020;
  effective = 0x80000020;
  bounding = none;
  securebits = 0x50;
  no_new_privs = true;
}

pub newcomers : record {
  a_newcomer_begins_anew : Leads world (one seasoned)
      (done 100 Unshare ∷ [])
      (record {
        processes = in_space 1 100 (record (newcomer 1000) { groups = 5 ∷ []; no_new_privs = true }) ∷ [];
        spaces = record (new_space 0 1000) { creator_setfcap = true } ∷ first_spaces;
      });
  -- whose ids aren't mapped in its space makes no space
  in_an_unmapped_space_none_is_made : IsRefused world unshared 100 Unshare EPERM;
}
newcomers = search

-- spaces nested so deep, in all of which ids are as in the initial one
abbrev nested : ℕ → Spaces
nested zero = first_spaces
nested (suc n) = space n 0 initial_map ∷ nested n

abbrev deep : ℕ → State
deep n = record { processes = in_space n 100 (user 0) ∷ []; spaces = nested n }

pub levels : record {
  the_level_counts_the_spaces_above : level (nested 32) 32 ≡ 32;
  at_level_32_no_space_is_made : IsRefused world (deep 32) 100 Unshare ENOSPC;
  at_level_31_one_is_made : Leads world (deep 31) (done 100 Unshare ∷ [])
      (record { processes = in_space 32 100 (user 0) ∷ []; spaces = record (space 31 0 []) { uids = None; gids = None; creator_setfcap = true } ∷ nested 31 });
}
levels = search

pub births_into_spaces : record {
  -- clone_user: the child is in the new space, its parent stays where it was
  a_child_is_born_into_a_new_space : Leads world (one (user 1000))
      (gives 100 CloneUser (Child 101) ∷ [])
      (record {
        processes = process 100 (user 1000) ∷ record (in_space 1 101 (newcomer 1000)) { forebear = Some 100 } ∷ [];
        spaces = new_space 0 1000 ∷ first_spaces;
      });
  -- without capabilities of its own, the parent has power over the space as its owner
  the_owner_has_power_over_it : process_holds
      (record {
        processes = process 100 (user 1000) ∷ record (in_space 1 101 (newcomer 1000)) { forebear = Some 100 } ∷ [];
        spaces = new_space 0 1000 ∷ first_spaces;
      })
      100 (Cap 21 1) ≡ true;
  at_level_32_no_child_is_born_into_a_new_space : replay world (deep 32) (gives 100 CloneUser (Child 101) ∷ [])
      ≡ Wrong (Err ENOSPC);
  the_own_answer_is_that_refusal : (own world (deep 32) (in_space 32 100 (user 0)) CloneUser).res ≡ Err ENOSPC;
}
births_into_spaces = search

-- a family of spaces: `box` (1) in the initial space, `inner` (2) in it, `other` (3) beside it
abbrev box : Space
box = space 0 1000 (ids 0 100000 65536 ∷ [])

abbrev inner : Space
inner = space 1 100000 (ids 0 101000 1000 ∷ [])

abbrev other : Space
other = space 0 1000 (ids 0 300000 65536 ∷ [])

abbrev family_of_spaces : Spaces
family_of_spaces = other ∷ inner ∷ box ∷ first_spaces

pub places_of_spaces : record {
  the_levels : level family_of_spaces 2 ≡ 2;
  the_initial_space_is_above_all : is_at_or_above family_of_spaces 0 2 ≡ true;
  a_space_is_above_itself : is_at_or_above family_of_spaces 3 3 ≡ true;
  a_space_is_not_above_its_sibling : is_at_or_above family_of_spaces 1 3 ≡ false;
  the_next_below_the_initial_space_is_the_box : next_below family_of_spaces 0 2 ≡ Some 1;
  nothing_is_next_below_the_space_itself : next_below family_of_spaces 2 2 ≡ None;
  -- the owner's power reaches the grandchildren
  the_owner_has_power_over_the_inner_space : over family_of_spaces 0 none 1000 5 2 ≡ true;
}
places_of_spaces = search

pub by_two_sentences : Over family_of_spaces 0 none 1000 5 2
by_two_sentences = above 2 1 inner refl refl (owned 1 box refl refl refl)

pub power : record {
  -- the owner of the inner space has it as a member of the box alone
  the_owner_of_the_inner_space_has_it_in_the_box : over family_of_spaces 1 none 100000 5 2 ≡ true;
  it_has_it_not_from_elsewhere : over family_of_spaces 0 none 100000 5 2 ≡ false;
  -- an effective capability reaches down, and neither up nor aside
  a_capability_reaches_down : over family_of_spaces 1 0x20 7 5 2 ≡ true;
  a_capability_does_not_reach_up : over family_of_spaces 1 0x20 7 5 0 ≡ false;
  a_capability_does_not_reach_aside : over family_of_spaces 1 0x20 7 5 3 ≡ false;
  another_capability_is_not_had : over family_of_spaces 1 0x20 7 6 2 ≡ false;
}
power = search

-- setns: the owner of the box joins it, and what is in it
abbrev visitor : ℕ → Credential → State
visitor n c = record { processes = in_space n 100 c ∷ []; spaces = family_of_spaces }

pub joins : record {
  the_owner_joins_the_box : Leads world (visitor 0 (user 1000)) (done 100 (SetNs 1) ∷ []) (visitor 1 (newcomer 1000));
  the_owner_joins_the_inner_space : Leads world (visitor 0 (user 1000)) (done 100 (SetNs 2) ∷ [])
      (visitor 2 (newcomer 1000));
  a_stranger_does_not_join : IsRefused world (visitor 0 (user 1001)) 100 (SetNs 1) EPERM;
  the_own_space_is_not_joined : IsRefused world (visitor 1 (newcomer 1000)) 100 (SetNs 1) EINVAL;
  the_space_above_is_not_joined : IsRefused world (visitor 1 (newcomer 1000)) 100 (SetNs 0) EPERM;
}
joins = search

-- a saved id that owns a space gives power over it, once it is the effective one
abbrev child : Space
child = space 0 500 (ids 0 500 1 ∷ [])

abbrev with_saved_owner : ℕ → State
with_saved_owner id = record {
  processes = process 100 (record (user 1000) { uid = record { real = 1000; effective = id; saved = 500; fs = id }; no_new_privs = true }) ∷ [];
  spaces = child ∷ first_spaces;
}

pub saved_owner : record {
  the_owner_s_id_is_taken_up : Leads world (with_saved_owner 1000) (done 100 (SetResUid minus_one 500 minus_one) ∷ [])
      (with_saved_owner 500);
  before_that_nothing_is_held : process_holds (with_saved_owner 1000) 100 (Cap 5 1) ≡ false;
  after_that_the_capability_is_held : process_holds (with_saved_owner 500) 100 (Cap 5 1) ≡ true;
}
saved_owner = search
