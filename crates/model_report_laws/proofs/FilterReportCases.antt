-- Worked cases, by computation, of whole reports on filters that processes install (seccomp(2)): from the bytes of a
-- world and a log to the text.
use Rattle.std.proofs.Common.{[], ◌∷◌, ◌++◌, refl}
use Rattle.std.specs.Prelude.{codes}
use Rattle.cm_base.specs.declared.status.Status.TheVariants as status
use Rattle.model_report_laws.proofs.CaseReports.{RowReplays, root_at, root_line, user_line, sets_of, user_ids, of_100, all, none}
use Rattle.model_text.proofs.PrintCases.{print_on_literals}
use Rattle.model_text.proofs.WorldCases.{world_on_literals}

-- ---- a user installs a filter
-- only with no_new_privs; the names are printed in the order of the calls
pub a_filter_needs_no_new_privs : RowReplays (codes "uid = 1000\n")
    (codes "100 install setns = EACCES\n100 no_new_privs 1 = 0\n100 install unshare clone_user setns = 0\n"
    ++ codes "100 unshare = EPERM\n") status.Accepted
    (user_line ∷ codes "1: 100 install setns = EACCES" ∷ user_line
    ∷ codes "2: 100 no_new_privs 1 = 0"
    ∷ of_100 user_ids (sets_of none none none all none (codes "sec=00 nnp=1"))
    ∷ codes "3: 100 install clone_user unshare setns = 0"
    ∷ of_100 user_ids (sets_of none none none all none (codes "sec=00 nnp=1"))
    ∷ codes "4: 100 unshare = EPERM"
    ∷ of_100 user_ids (sets_of none none none all none (codes "sec=00 nnp=1"))
    ∷ codes "end 4" ∷ [])
unfolding print_on_literals world_on_literals
a_filter_needs_no_new_privs = record { status = refl; text = refl }

-- and then the excluded call isn't done
pub an_excluded_call_is_not_done : RowReplays (codes "uid = 1000\n")
    (codes "100 install setns = EACCES\n100 no_new_privs 1 = 0\n100 install unshare clone_user setns = 0\n"
    ++ codes "100 unshare = EPERM\n100 unshare = 0\n") status.Impossible
    (user_line ∷ codes "1: 100 install setns = EACCES" ∷ user_line
    ∷ codes "2: 100 no_new_privs 1 = 0"
    ∷ of_100 user_ids (sets_of none none none all none (codes "sec=00 nnp=1"))
    ∷ codes "3: 100 install clone_user unshare setns = 0"
    ∷ of_100 user_ids (sets_of none none none all none (codes "sec=00 nnp=1"))
    ∷ codes "4: 100 unshare = EPERM"
    ∷ of_100 user_ids (sets_of none none none all none (codes "sec=00 nnp=1"))
    ∷ codes "impossible line 5: the rules give EPERM" ∷ [])
unfolding print_on_literals world_on_literals
an_excluded_call_is_not_done = record { status = refl; text = refl }

-- what is excluded gives EPERM and nothing else, though the rules permit it, and though another error might come from
-- outside
pub an_excluded_call_fails_alone : RowReplays [] (codes "100 install unshare setfsuid = 0\n100 unshare = EPERM\n100 setfsuid 7 = EPERM\n100 unshare = ENOSPC\n")
    status.Impossible
    (root_line ∷ codes "1: 100 install setfsuid unshare = 0" ∷ root_line
    ∷ codes "2: 100 unshare = EPERM" ∷ root_line
    ∷ codes "3: 100 setfsuid 7 = EPERM" ∷ root_line
    ∷ codes "impossible line 4: the rules give EPERM" ∷ [])
unfolding print_on_literals world_on_literals
an_excluded_call_fails_alone = record { status = refl; text = refl }

-- a child has its parent's filter
pub a_child_has_the_filter : RowReplays [] (codes "100 install setuid = 0\n100 fork = 101\n101 setuid 0 = 0\n")
    status.Impossible
    (root_line ∷ codes "1: 100 install setuid = 0" ∷ root_line
    ∷ codes "2: 100 fork = 101" ∷ root_line ∷ root_at (codes "101")
    ∷ codes "impossible line 3: the rules give EPERM" ∷ [])
unfolding print_on_literals world_on_literals
a_child_has_the_filter = record { status = refl; text = refl }
