-- Worked cases of births, exits, and families.
use Rattle.std.proofs.Common.{◌≡◌, ℕ, true, false, Some, [], ◌∷◌, refl}
use Rattle.cm_base.specs.declared.errno.Errno.TheVariants.{EPERM}
use Rattle.cm_base.specs.declared.res.Res.TheVariants.{Done, Child, Err}
use Rattle.model_cred.specs.Call.{Fork, CloneUser, Exit}
use Rattle.cm_filter.specs.declared.kind.CallKind.TheVariants as kind
use Rattle.cm_filter.specs.Filters.{permits}
use Rattle.model_cred.specs.Credential.{Credential}
use Rattle.model_cred.specs.Process.{Process, State}
use Rattle.model_cred.specs.Right.{Uid, Gid}
use Rattle.model_run.specs.Family.{Family, itself, child, family}
use Rattle.model_run.specs.Holds.{process_holds}
use Rattle.model_run.specs.Later.{members_after}
use Rattle.model_run.specs.Ruling.{own}
use Rattle.model_run.specs.Step.{PidInUse, Wrong}
use Rattle.model_run.proofs.Worlds.{user, process, one, with_processes, world, done, gives, replay, Leads}

-- a process with a forebear
abbrev born_of : ℕ → ℕ → Credential → Process
born_of forebear pid c = record (process pid c) { forebear = Some forebear }

-- a child has its parent's credentials; a grandchild comes to the grandparent when the parent exits
abbrev after_one : State
after_one = with_processes (process 100 (user 0) ∷ born_of 100 101 (user 0) ∷ [])

abbrev after_two : State
after_two = with_processes (process 100 (user 0) ∷ born_of 100 101 (user 0) ∷ born_of 101 102 (user 0) ∷ [])

abbrev after_three : State
after_three = with_processes (process 100 (user 0) ∷ born_of 100 102 (user 0) ∷ [])

pub births_and_exits : record {
  a_child_is_a_copy : Leads world (one (user 0)) (gives 100 Fork (Child 101) ∷ []) after_one;
  a_grandchild_has_its_parent : Leads world (one (user 0))
      (gives 100 Fork (Child 101) ∷ gives 101 Fork (Child 102) ∷ []) after_two;
  an_exit_hands_children_to_the_forebear : Leads world (one (user 0))
      (gives 100 Fork (Child 101) ∷ gives 101 Fork (Child 102) ∷ done 101 Exit ∷ []) after_three;
  the_family_is_then_the_two : family after_three 100 ≡ 100 ∷ 102 ∷ [];
}
births_and_exits = search

pub the_grandchild_is_of_the_family : Family after_three 100 102
the_grandchild_is_of_the_family = child 102 100 (born_of 100 102 (user 0)) refl refl (itself refl)

pub families : record {
  the_family_of_the_grandchild_is_itself : family after_three 102 ≡ 102 ∷ [];
  who_exited_has_no_family : family after_three 101 ≡ [];
  a_family_reaches_grandchildren : family after_two 100 ≡ 100 ∷ 101 ∷ 102 ∷ [];
}
families = search

pub pids : record {
  -- a pid that is alive is born by no call
  a_living_pid_is_in_use : replay world (one (user 0))
      (gives 100 Fork (Child 101) ∷ gives 101 Fork (Child 102) ∷ done 101 Exit ∷ gives 100 Fork (Child 102) ∷ [])
      ≡ PidInUse;
  -- one that exited may be born again, before its elders in the list
  a_pid_may_be_born_again : Leads world after_three (gives 102 Fork (Child 7) ∷ done 100 Exit ∷ [])
      (with_processes (born_of 102 7 (user 0) ∷ process 102 (user 0) ∷ []));
  -- the own step of a fork gives the least pid that isn't alive
  the_least_free_pid_is_born :
      (own world (with_processes (process 1 (user 0) ∷ process 2 (user 0) ∷ process 4 (user 0) ∷ [])) (process 2 (user 0)) Fork).res
      ≡ Child 3;
  -- pids end at 4194304
  past_the_last_pid_there_is_no_child : replay world (one (user 0)) (gives 100 Fork (Child 4194305) ∷ [])
      ≡ Wrong (Child 1);
  the_last_pid_is_born : Leads world (one (user 0)) (gives 100 Fork (Child 4194304) ∷ [])
      (with_processes (process 100 (user 0) ∷ born_of 100 4194304 (user 0) ∷ []));
}
pids = search

pub members : record {
  -- members gain the child of a birth and lose one that exits, and stay where a birth is refused
  a_child_comes_to_the_members : members_after (100 ∷ []) 100 CloneUser (Child 5) ≡ 5 ∷ 100 ∷ [];
  who_exits_leaves_the_members : members_after (5 ∷ 100 ∷ []) 5 Exit Done ≡ 100 ∷ [];
  a_refused_birth_brings_no_member : members_after (100 ∷ []) 100 Fork (Err EPERM) ≡ 100 ∷ [];
}
members = search

pub filters : record {
  -- a filter of unshare (19), clone_user (18) and setns (20) permits setuid
  a_filter_excludes_what_it_names : permits 0x1c0000 kind.Unshare ≡ false;
  a_filter_permits_the_rest : permits 0x1c0000 kind.SetUid ≡ true;
}
filters = search

-- a group is held as the effective or a supplementary one, a user id as the effective one alone
abbrev of_groups : Credential
of_groups = record (user 1000) {
  uid = record { real = 0; effective = 1000; saved = 0; fs = 0 };
  gid = record { real = 1; effective = 2; saved = 3; fs = 4 };
  groups = 5 ∷ 6 ∷ [];
}

pub holding : record {
  the_effective_group_is_held : process_holds (one of_groups) 100 (Gid 2) ≡ true;
  a_supplementary_group_is_held : process_holds (one of_groups) 100 (Gid 6) ≡ true;
  a_saved_group_is_not_held : process_holds (one of_groups) 100 (Gid 3) ≡ false;
  a_real_user_id_is_not_held : process_holds (one of_groups) 100 (Uid 0) ≡ false;
  who_is_not_alive_holds_nothing : process_holds (one (user 0)) 101 (Uid 0) ≡ false;
}
holding = search
