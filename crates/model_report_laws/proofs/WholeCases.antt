-- Worked cases of whole commands, by computation: from the words and the bytes of the files to the text.
use Rattle.std.proofs.Common.{ℕ, List, [], ◌∷◌}
use Rattle.std.specs.Prelude.{codes}
use Rattle.cm_base.specs.declared.status.Status.TheVariants as status
use Rattle.model_report_laws.proofs.CaseReports.{Says, TextReplays, files, none_judged, root_line, user_line, line_of, ids_of, all_sets}
use Rattle.model_report.specs.Report.{report}
use Rattle.model_text.proofs.PrintCases.{print_on_literals}
use Rattle.model_text.proofs.WorldCases.{world_on_literals}

pub whole_commands : record {
  root_gives_up_its_ids : TextReplays (codes "log = \"script\"\n[[process]]\npid = 100\nuid = 0\n")
      (codes "100 setresuid 1000 1000 1000 = 0\n") status.Accepted
      (root_line ∷ codes "1: 100 setresuid 1000 1000 1000 = 0" ∷ user_line ∷ codes "end 1" ∷ []);
  user_asks_for_root : TextReplays (codes "log = \"script\"\n[[process]]\npid = 100\nuid = 1000\n")
      (codes "100 setresuid 0 0 0 = 0\n") status.Impossible
      (user_line ∷ codes "impossible line 1: the rules give EPERM" ∷ []);
  two_processes_by_pid : TextReplays
      (codes "log = \"script\"\n[[process]]\npid = 200\nuid = [0, 0, 7, 0]\n[[process]]\npid = 100\nuid = 1000\n") []
      status.Accepted
      (user_line ∷ line_of (codes "200") (codes "init") (ids_of (codes "0,0,7,0")) all_sets ∷ codes "end 0" ∷ []);
  world_that_is_no_form : TextReplays [] (codes "100 setresuid 0 0 0 = 0\n") status.BadWorld
      (codes "bad world whole 0: MissingKey" ∷ []);
  -- a space without its name, its parent and its owner
  space_that_lacks_keys : TextReplays (codes "log = \"script\"\n[[space]]\n") [] status.BadWorld
      (codes "bad world space 1: MissingKey" ∷ []);
}
unfolding print_on_literals world_on_literals
whole_commands = search

-- the words come to the usage text
abbrev AreNoForm : List (List ℕ) → Type 0
AreNoForm words = Says (report words (files [] []) none_judged) status.Usage
    (codes "usage: credaudit replay WORLD LOG" ∷ codes "usage: credaudit audit WORLD LOG PID RIGHT"
    ∷ codes "usage: credaudit check WORLD LOG PID RIGHT CERT" ∷ codes "usage: credaudit confirm WORLD LOG PID RIGHT RUN"
    ∷ codes "usage: credaudit drill N" ∷ [])

pub words_of_no_form : record {
  no_words : AreNoForm [];
  drill_of_too_many : AreNoForm (codes "drill" ∷ codes "100001" ∷ []);
}
words_of_no_form = search
