-- Worked cases, by computation, of whole reports on user namespaces: those that are made and joined, the writes to their
-- three files, and their tokens in a report (user_namespaces(7), unshare(2), clone(2), setns(2)).
use Rattle.std.proofs.Common.{ℕ, zero, suc, List, [], ◌∷◌, ◌++◌, map, refl}
use Rattle.std.specs.Prelude.{codes}
use Rattle.cm_base.specs.declared.status.Status.TheVariants as status
use Rattle.model_cred.specs.Space.{Spaces, first_spaces}
use Rattle.model_cred.specs.World.{World}
use Rattle.model_report_laws.proofs.CaseReports.{AllSay, Replays, RowReplays, TextReplays, replay_in, world_of_100, root_line, user_line, user_at, user_ids}
use Rattle.model_report_laws.proofs.CaseReports.{line_of, of_user, ids_of, sets_of, all, none, kill, all_sets, no_sets}
use Rattle.model_report_laws.proofs.CaseReports.{no_flags, three_spaces}
use Rattle.model_run.proofs.Worlds.{in_space, ids, space, user}
use Rattle.model_text.proofs.PrintCases.{print_on_literals}
use Rattle.model_text.proofs.WorldCases.{world_on_literals, world_with}

-- user 1000 in a space of its own or one that it came to, with all capabilities there
abbrev newcomer : List ℕ → List ℕ → List ℕ
newcomer pid space = line_of pid space user_ids all_sets

-- root in a space
abbrev root_in : List ℕ → List ℕ
root_in space = line_of (codes "100") space (ids_of (codes "0,0,0,0")) all_sets

-- ---- making spaces
pub made_spaces : record {
  a_user_makes_a_space : RowReplays (codes "uid = 1000\n") (codes "100 unshare = 0\n") status.Accepted
      (user_line ∷ codes "1: 100 unshare = 0" ∷ newcomer (codes "100") (codes "#1") ∷ codes "end 1" ∷ []);
  -- whatever it had; no_new_privs alone stays
  who_comes_into_it_begins_anew : RowReplays
      (codes "uid = 1000\npermitted = \"CAP_KILL\"\ninheritable = \"CAP_KILL\"\nambient = \"CAP_KILL\"\nbounding = \"none\"\n"
      ++ codes "securebits = 47\nno_new_privs = true\n") (codes "100 unshare = 0\n") status.Accepted
      (line_of (codes "100") (codes "init") user_ids (sets_of kill kill none none kill (codes "sec=2f nnp=1"))
      ∷ codes "1: 100 unshare = 0"
      ∷ line_of (codes "100") (codes "#1") user_ids (sets_of none all all all none (codes "sec=00 nnp=1"))
      ∷ codes "end 1" ∷ []);
  without_maps_none_is_made_below_it : RowReplays (codes "uid = 1000\n")
      (codes "100 unshare = 0\n100 unshare = EPERM\n100 clone_user = EPERM\n") status.Accepted
      (user_line ∷ codes "1: 100 unshare = 0" ∷ newcomer (codes "100") (codes "#1") ∷ codes "2: 100 unshare = EPERM"
      ∷ newcomer (codes "100") (codes "#1") ∷ codes "3: 100 clone_user = EPERM" ∷ newcomer (codes "100") (codes "#1")
      ∷ codes "end 3" ∷ []);
  -- a call that failed made no space, so the number isn't taken
  errors_from_outside_make_none : RowReplays (codes "uid = 1000\n")
      (codes "100 unshare = EINVAL\n100 clone_user = EAGAIN\n100 unshare = 0\n") status.Accepted
      (user_line ∷ codes "1: 100 unshare = EINVAL" ∷ user_line ∷ codes "2: 100 clone_user = EAGAIN" ∷ user_line
      ∷ codes "3: 100 unshare = 0" ∷ newcomer (codes "100") (codes "#1") ∷ codes "end 3" ∷ []);
  -- the caller stays where it is; the child has all capabilities in its space, and by its map the id 0 there, but no
  -- other
  a_child_in_a_space_of_its_own : RowReplays (codes "uid = 1000\n")
      (codes "100 clone_user = 101\n100 write_uid_map #1 0 1000 1 = 0\n101 setuid 0 = 0\n101 setuid 5 = EINVAL\n")
      status.Accepted
      (user_line ∷ codes "1: 100 clone_user = 101" ∷ user_line ∷ newcomer (codes "101") (codes "#1")
      ∷ codes "2: 100 write_uid_map #1 0 1000 1 = 0" ∷ user_line ∷ codes "3: 101 setuid 0 = 0"
      ∷ newcomer (codes "101") (codes "#1") ∷ codes "4: 101 setuid 5 = EINVAL" ∷ newcomer (codes "101") (codes "#1")
      ∷ codes "end 4" ∷ []);
  its_pid_is_in_use : RowReplays (codes "uid = 1000\n") (codes "100 clone_user = 100\n") status.Impossible
      (user_line ∷ codes "impossible line 1: pid in use" ∷ []);
  -- the rules' own child has the least pid that isn't alive
  its_birth_is_not_refused : RowReplays (codes "uid = 1000\n") (codes "100 clone_user = EPERM\n") status.Impossible
      (user_line ∷ codes "impossible line 1: the rules give 1" ∷ []);
  -- a space outlives who made it, and its owner may come to it
  a_space_stays_after_an_exit : RowReplays (codes "uid = 1000\n")
      (codes "100 clone_user = 101\n101 exit = 0\n100 setns #1 = 0\n") status.Accepted
      (user_line ∷ codes "1: 100 clone_user = 101" ∷ user_line ∷ newcomer (codes "101") (codes "#1")
      ∷ codes "2: 101 exit = 0" ∷ codes "3: 100 setns #1 = 0" ∷ newcomer (codes "100") (codes "#1")
      ∷ codes "end 3" ∷ []);
}
unfolding print_on_literals world_on_literals
made_spaces = search

-- ---- joining spaces
-- a declared space beside process 100
abbrev with_pod : List ℕ → List ℕ
with_pod row = row ++ codes "[[space]]\nname = \"pod\"\nparent = \"init\"\nowner = 1000\n"

pub joined_spaces : record {
  -- not its own, and not the one above
  root_comes_to_a_declared_space : RowReplays (with_pod [])
      (codes "100 setns pod = 0\n100 setns pod = EINVAL\n100 setns init = EPERM\n") status.Accepted
      (root_line ∷ codes "1: 100 setns pod = 0" ∷ root_in (codes "pod") ∷ codes "2: 100 setns pod = EINVAL"
      ∷ root_in (codes "pod") ∷ codes "3: 100 setns init = EPERM" ∷ root_in (codes "pod") ∷ codes "end 3" ∷ []);
  nobody_comes_to_its_own : RowReplays (with_pod []) (codes "100 setns init = 0\n") status.Impossible
      (root_line ∷ codes "impossible line 1: the rules give EINVAL" ∷ []);
  its_owner_comes_to_it : RowReplays (with_pod (codes "uid = 1000\n")) (codes "100 setns pod = 0\n") status.Accepted
      (user_line ∷ codes "1: 100 setns pod = 0" ∷ newcomer (codes "100") (codes "pod") ∷ codes "end 1" ∷ []);
  another_user_does_not : RowReplays (with_pod (codes "uid = 1001\n")) (codes "100 setns pod = 0\n") status.Impossible
      (line_of (codes "100") (codes "init") (ids_of (codes "1001,1001,1001,1001")) no_sets
      ∷ codes "impossible line 1: the rules give EPERM" ∷ []);
  -- a number is written as the name that the space has, and after the declared ones come those that are made
  numbers_are_written_as_names : RowReplays (with_pod [])
      (codes "100 setns #0 = EINVAL\n100 write_setgroups #1 allow = 0\n100 unshare = 0\n") status.Accepted
      (root_line ∷ codes "1: 100 setns init = EINVAL" ∷ root_line ∷ codes "2: 100 write_setgroups pod allow = 0"
      ∷ root_line ∷ codes "3: 100 unshare = 0" ∷ root_in (codes "#2") ∷ codes "end 3" ∷ []);
}
unfolding print_on_literals world_on_literals
joined_spaces = search

-- logs of one call that names a space that doesn't stand
abbrev calls_of_no_space : List (List ℕ)
calls_of_no_space =
    codes "100 setns #1 = 0\n" ∷ codes "100 setns #1 = EPERM\n" ∷ codes "100 setns #4294967295 = ENOMEM\n"
    ∷ codes "100 write_uid_map #1 0 0 1 = 0\n" ∷ codes "100 write_gid_map #1 = EINVAL\n" ∷ codes "100 write_setgroups #1 deny = 0\n" ∷ []

pub spaces_that_stand : record {
  -- it is told before the rules are asked, whatever the result is
  spaces_that_do_not_stand : AllSay (map (replay_in (world_of_100 0)) calls_of_no_space) status.Impossible
      (map (λ _. root_line ∷ codes "impossible line 1: no space" ∷ []) calls_of_no_space);
  no_process_is_told_before_it : Replays (world_of_100 0) (codes "101 setns #1 = 0\n") status.Impossible
      (root_line ∷ codes "impossible line 1: no process" ∷ []);
  -- a space stands from the event on that makes it
  it_stands_once_it_is_made : Replays (world_of_100 1000) (codes "100 clone_user = 101\n100 setns #2 = 0\n")
      status.Impossible
      (user_line ∷ codes "1: 100 clone_user = 101" ∷ user_line ∷ newcomer (codes "101") (codes "#1")
      ∷ codes "impossible line 2: no space" ∷ []);
}
unfolding print_on_literals
spaces_that_stand = search

-- ---- writing the maps
-- root without CAP_SETFCAP may not map its own id 0; a user may map its own id, once
pub maps_of_root_and_of_a_user : TextReplays
    (codes "log = \"script\"\n[[process]]\npid = 100\npermitted = \"000001ff7fffffff\"\neffective = \"000001ff7fffffff\"\n"
    ++ codes "[[process]]\npid = 101\nuid = 1000\n")
    (codes "100 unshare = 0\n100 write_uid_map #1 0 0 1 = EPERM\n101 unshare = 0\n101 write_uid_map #2 0 1000 1 = 0\n"
    ++ codes "101 write_uid_map #2 0 1000 1 = EPERM\n") status.Accepted
    (line_of (codes "100") (codes "init") (ids_of (codes "0,0,0,0"))
    (sets_of none (codes "000001ff7fffffff") (codes "000001ff7fffffff") all none no_flags)
    ∷ user_at (codes "101") ∷ codes "1: 100 unshare = 0" ∷ root_in (codes "#1")
    ∷ codes "2: 100 write_uid_map #1 0 0 1 = EPERM"
    ∷ root_in (codes "#1") ∷ codes "3: 101 unshare = 0" ∷ newcomer (codes "101") (codes "#2")
    ∷ codes "4: 101 write_uid_map #2 0 1000 1 = 0" ∷ newcomer (codes "101") (codes "#2")
    ∷ codes "5: 101 write_uid_map #2 0 1000 1 = EPERM" ∷ newcomer (codes "101") (codes "#2") ∷ codes "end 5" ∷ [])
unfolding print_on_literals world_on_literals
maps_of_root_and_of_a_user = record { status = refl; text = refl }

-- process 101, all of whose ids are 1000, in the initial space and, with all capabilities, in another
abbrev of_101 : List ℕ → List ℕ → List ℕ
of_101 space sets = line_of (codes "101") space (codes " uid=1000,1000,1000,1000 gid=1000,1000,1000,1000 groups=-") sets

abbrev world_of_101 : List ℕ
world_of_101 = codes "log = \"script\"\n[[process]]\npid = 101\nuid = 1000\ngid = 1000\n"

pub written_words : record {
  a_user_denies_setgroups_before_its_gid_map : TextReplays world_of_101
      (codes "101 unshare = 0\n101 write_gid_map #1 0 1000 1 = EPERM\n101 write_setgroups #1 deny = 0\n101 write_gid_map #1 0 1000 1 = 0\n"
      ++ codes "101 setgroups 0 = EPERM\n") status.Accepted
      (of_101 (codes "init") no_sets ∷ codes "1: 101 unshare = 0" ∷ of_101 (codes "#1") all_sets
      ∷ codes "2: 101 write_gid_map #1 0 1000 1 = EPERM" ∷ of_101 (codes "#1") all_sets
      ∷ codes "3: 101 write_setgroups #1 deny = 0" ∷ of_101 (codes "#1") all_sets
      ∷ codes "4: 101 write_gid_map #1 0 1000 1 = 0" ∷ of_101 (codes "#1") all_sets ∷ codes "5: 101 setgroups 0 = EPERM"
      ∷ of_101 (codes "#1") all_sets ∷ codes "end 5" ∷ []);
  -- in a space below it the outside ids are those of the first, of which there is but the id 0, and the word is
  -- inherited
  a_space_below_its_own : TextReplays world_of_101
      (codes "101 unshare = 0\n101 write_uid_map #1 0 1000 1 = 0\n101 write_setgroups #1 deny = 0\n101 write_gid_map #1 0 1000 1 = 0\n"
      ++ codes "101 unshare = 0\n101 write_uid_map #2 0 1000 1 = EPERM\n101 write_uid_map #2 7 0 1 = 0\n101 write_setgroups #2 allow = EPERM\n")
      status.Accepted
      (of_101 (codes "init") no_sets ∷ codes "1: 101 unshare = 0" ∷ of_101 (codes "#1") all_sets
      ∷ codes "2: 101 write_uid_map #1 0 1000 1 = 0" ∷ of_101 (codes "#1") all_sets
      ∷ codes "3: 101 write_setgroups #1 deny = 0" ∷ of_101 (codes "#1") all_sets
      ∷ codes "4: 101 write_gid_map #1 0 1000 1 = 0" ∷ of_101 (codes "#1") all_sets ∷ codes "5: 101 unshare = 0"
      ∷ of_101 (codes "#2") all_sets ∷ codes "6: 101 write_uid_map #2 0 1000 1 = EPERM" ∷ of_101 (codes "#2") all_sets
      ∷ codes "7: 101 write_uid_map #2 7 0 1 = 0" ∷ of_101 (codes "#2") all_sets
      ∷ codes "8: 101 write_setgroups #2 allow = EPERM" ∷ of_101 (codes "#2") all_sets ∷ codes "end 8" ∷ []);
  -- no extent, two that meet, one without ids
  lists_that_are_no_map : RowReplays (codes "uid = 1000\n")
      (codes "100 unshare = 0\n100 write_uid_map #1 = EINVAL\n100 write_uid_map #1 0 1000 1 0 1001 1 = EINVAL\n"
      ++ codes "100 write_gid_map #1 0 0 0 = EINVAL\n") status.Accepted
      (user_line ∷ codes "1: 100 unshare = 0" ∷ newcomer (codes "100") (codes "#1")
      ∷ codes "2: 100 write_uid_map #1 = EINVAL" ∷ newcomer (codes "100") (codes "#1")
      ∷ codes "3: 100 write_uid_map #1 0 1000 1 0 1001 1 = EINVAL" ∷ newcomer (codes "100") (codes "#1")
      ∷ codes "4: 100 write_gid_map #1 0 0 0 = EINVAL" ∷ newcomer (codes "100") (codes "#1") ∷ codes "end 4" ∷ []);
  -- the maps of the initial space are written, and its word stays as it is
  files_of_the_initial_space : RowReplays []
      (codes "100 write_uid_map init 0 0 1 = EPERM\n100 write_gid_map init = EPERM\n100 write_setgroups init deny = EPERM\n"
      ++ codes "100 write_setgroups init allow = 0\n") status.Accepted
      (root_line ∷ codes "1: 100 write_uid_map init 0 0 1 = EPERM" ∷ root_line
      ∷ codes "2: 100 write_gid_map init = EPERM" ∷ root_line ∷ codes "3: 100 write_setgroups init deny = EPERM"
      ∷ root_line ∷ codes "4: 100 write_setgroups init allow = 0" ∷ root_line ∷ codes "end 4" ∷ []);
}
unfolding print_on_literals world_on_literals
written_words = search

-- ---- chains of spaces
-- the owner of a space comes to all below it, and nobody comes to one above or beside its own
pub who_comes_to_which_space : TextReplays
    (three_spaces ++ codes "[[process]]\npid = 10\nuid = 1000\n[[process]]\npid = 11\nspace = \"box\"\nuid = 100000\n"
    ++ codes "[[process]]\npid = 12\nspace = \"inner\"\nuid = 101005\n[[process]]\npid = 13\nspace = \"other\"\nuid = 300005\n")
    (codes "13 setns box = EPERM\n12 setns box = EPERM\n11 setns inner = 0\n10 setns inner = 0\n10 setns other = EPERM\n") status.Accepted
    (user_at (codes "10") ∷ of_user (codes "11") (codes "box") (codes "100000") no_sets
    ∷ of_user (codes "12") (codes "inner") (codes "101005") no_sets
    ∷ of_user (codes "13") (codes "other") (codes "300005") no_sets
    ∷ codes "1: 13 setns box = EPERM" ∷ of_user (codes "13") (codes "other") (codes "300005") no_sets
    ∷ codes "2: 12 setns box = EPERM" ∷ of_user (codes "12") (codes "inner") (codes "101005") no_sets
    ∷ codes "3: 11 setns inner = 0" ∷ of_user (codes "11") (codes "inner") (codes "100000") all_sets
    ∷ codes "4: 10 setns inner = 0" ∷ newcomer (codes "10") (codes "inner")
    ∷ codes "5: 10 setns other = EPERM" ∷ newcomer (codes "10") (codes "inner") ∷ codes "end 5" ∷ [])
unfolding print_on_literals world_on_literals
who_comes_to_which_space = record { status = refl; text = refl }

-- so many spaces, each below the one before, with all ids mapped, and root in the last one
abbrev deep : ℕ → Spaces
deep zero = first_spaces
deep (suc n) = space n 0 (ids 0 0 4294967295 ∷ []) ∷ deep n

abbrev root_at_depth : ℕ → World
root_at_depth n = record (world_with []) { start = record { processes = in_space n 100 (user 0) ∷ []; spaces = deep n } }

pub deepest_spaces : record {
  below_the_deepest_space_none_is_made : Replays (root_at_depth 32)
      (codes "100 unshare = ENOSPC\n100 clone_user = ENOSPC\n") status.Accepted
      (root_in (codes "#32") ∷ codes "1: 100 unshare = ENOSPC" ∷ root_in (codes "#32")
      ∷ codes "2: 100 clone_user = ENOSPC" ∷ root_in (codes "#32") ∷ codes "end 2" ∷ []);
  the_deepest_space_is_made : Replays (root_at_depth 31) (codes "100 unshare = 0\n100 unshare = ENOSPC\n")
      status.Accepted
      (root_in (codes "#31") ∷ codes "1: 100 unshare = 0" ∷ root_in (codes "#32") ∷ codes "2: 100 unshare = ENOSPC"
      ∷ root_in (codes "#32") ∷ codes "end 2" ∷ []);
}
unfolding print_on_literals
deepest_spaces = search
