-- Worked cases of whole replays, by computation: what a log in a world comes to.
use Rattle.std.proofs.Common.{◌≡◌, [], ◌∷◌, ◌++◌}
use Rattle.std.specs.Prelude.{codes}
use Rattle.cm_base.specs.declared.status.Status.TheVariants as status
use Rattle.model_report_laws.proofs.CaseReports.{Replays, world_of_100, root_line, user_line, line_of, user_ids, all_sets}
use Rattle.model_text.proofs.PrintCases.{print_on_literals}

pub written_lines : record {
  -- the two lines, written out
  line_of_root : root_line
      ≡ (codes "> 100 init uid=0,0,0,0 gid=0,0,0,0 groups=-"
      ++ codes " inh=0000000000000000 prm=000001ffffffffff eff=000001ffffffffff bnd=000001ffffffffff amb=0000000000000000 sec=00 nnp=0");
  line_of_a_user : user_line
      ≡ (codes "> 100 init uid=1000,1000,1000,1000 gid=0,0,0,0 groups=-"
      ++ codes " inh=0000000000000000 prm=0000000000000000 eff=0000000000000000 bnd=000001ffffffffff amb=0000000000000000 sec=00 nnp=0");
  empty_log_ends : Replays (world_of_100 0) [] status.Accepted (root_line ∷ codes "end 0" ∷ []);
  root_becomes_a_user : Replays (world_of_100 0) (codes "100 setresuid 1000 1000 1000 = 0\n") status.Accepted
      (root_line ∷ codes "1: 100 setresuid 1000 1000 1000 = 0" ∷ user_line ∷ codes "end 1" ∷ []);
  user_stays_a_user : Replays (world_of_100 1000) (codes "100 setresuid -1 -1 -1 = 0\n100 setresuid 0 0 0 = 0\n")
      status.Impossible
      (user_line ∷ codes "1: 100 setresuid -1 -1 -1 = 0" ∷ user_line
      ∷ codes "impossible line 2: the rules give EPERM" ∷ []);
  blank_lines_and_comments_are_no_events : Replays (world_of_100 1000)
      (codes "\n; nothing\n100 setresuid 1000 -1 -1 = 0") status.Accepted
      (user_line ∷ codes "3: 100 setresuid 1000 -1 -1 = 0" ∷ user_line ∷ codes "end 1" ∷ []);
  refusal_that_the_rules_give : Replays (world_of_100 1000) (codes "100 setresuid 0 0 0 = EPERM\n") status.Accepted
      (user_line ∷ codes "1: 100 setresuid 0 0 0 = EPERM" ∷ user_line ∷ codes "end 1" ∷ []);
  error_from_outside_changes_nothing : Replays (world_of_100 1000) (codes "100 setresuid 1000 1000 1000 = EAGAIN\n")
      status.Accepted (user_line ∷ codes "1: 100 setresuid 1000 1000 1000 = EAGAIN" ∷ user_line ∷ codes "end 1" ∷ []);
  error_that_no_rule_gives : Replays (world_of_100 1000) (codes "100 setresuid 1000 1000 1000 = ENOSPC\n")
      status.Impossible (user_line ∷ codes "impossible line 1: the rules give 0" ∷ []);
  event_of_no_process : Replays (world_of_100 1000) (codes "101 setresuid 1000 1000 1000 = 0\n") status.Impossible
      (user_line ∷ codes "impossible line 1: no process" ∷ []);
  fault_in_the_second_line : Replays (world_of_100 1000) (codes "; a\n100 setresuid 1000 = 0\n") status.BadLog
      (user_line ∷ codes "bad log line 2: count" ∷ []);
  -- the child stands in the space that is made for it, with all capabilities
  child_in_a_space_of_its_own : Replays (world_of_100 1000) (codes "100 clone_user = 101\n") status.Accepted
      (user_line ∷ codes "1: 100 clone_user = 101" ∷ user_line ∷ line_of (codes "101") (codes "#1") user_ids all_sets
      ∷ codes "end 1" ∷ []);
}
unfolding print_on_literals
written_lines = search
