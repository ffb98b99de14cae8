-- Worked cases, by computation, of what the check of a certificate, the confirmation of a run, and a drill write.
use Rattle.std.proofs.Common.{◌≡◌, ℕ, List, [], ◌∷◌, map, bytes_eq, Some, None, Result, Ok, Err, refl}
use Rattle.std.specs.Prelude.{codes, if◌then◌else◌}
use Rattle.cm_base.specs.declared.limited.Limited.TheVariants as limit
use Rattle.cm_base.specs.declared.status.Status.{Status}
use Rattle.cm_base.specs.declared.status.Status.TheVariants as status
use Rattle.model_box.specs.Bounds.{BoxRow}
use Rattle.model_box.specs.Row.{Standing, Fresh}
use Rattle.model_box.specs.Rule.{ExecUid, Maps}
use Rattle.model_cert.specs.Fault.{CertFault, Json, Shape, Order}
use Rattle.model_confirm.specs.Confirm.{Confirms, RefusesLine, RefusesEnd, PastLimit}
use Rattle.model_cred.specs.Space.{first_spaces}
use Rattle.model_drill.proofs.Cases.{drill_on_literals}
use Rattle.model_report.specs.Answer.{certificate_report, confirmed_report}
use Rattle.model_report.specs.Checked.{NotStart, NotClosed, MeetsRight, Holds}
use Rattle.model_report.specs.Replay.{Report}
use Rattle.model_report.specs.Report.{report}
use Rattle.model_report.specs.Told.{TellsNo}
use Rattle.model_report_laws.proofs.CaseReports.{AllSay, Says, files, judged, none_judged, world_of_100}
use Rattle.model_text.proofs.PrintCases.{print_on_literals}
use Rattle.model_text.proofs.ProcessCases.{of_row}
use Rattle.model_text.proofs.WorldCases.{world_on_literals}

-- ---- certificates
-- the report of a certificate that reads so, in the initial space alone
abbrev of_read : Result (List BoxRow) CertFault → Report
of_read read = certificate_report (world_of_100 0) first_spaces Holds read

-- a certificate that isn't read is refused by what is wrong with it; a row whose space doesn't stand is told as the document
pub certificates_that_are_not_read : AllSay
    (map (λ why. of_read (Err why)) (Json ∷ Shape None ∷ Shape (Some 0) ∷ Shape (Some 1) ∷ Order 0 ∷ Order 1 ∷ Shape (Some 2) ∷ []))
    status.Refused
    ((codes "refused json" ∷ []) ∷ (codes "refused shape document" ∷ []) ∷ (codes "refused shape init" ∷ [])
    ∷ (codes "refused shape fresh(init)" ∷ []) ∷ (codes "refused order init" ∷ []) ∷ (codes "refused order fresh(init)" ∷ [])
    ∷ (codes "refused shape document" ∷ []) ∷ [])
unfolding print_on_literals
certificates_that_are_not_read = record { statuses = refl; texts = refl }

-- one that reads as rows is refused by the first test that they fail
pub rows_that_fail : (rows : List BoxRow) → AllSay
    (map (λ x. certificate_report (world_of_100 0) first_spaces x (Ok rows))
    (NotStart (Standing 0) ∷ NotClosed (record { rule = ExecUid; row = Standing 0 }) ∷ NotClosed (record { rule = Maps; row = Fresh 0 })
    ∷ MeetsRight (Fresh 0) ∷ []))
    status.Refused
    ((codes "refused not-start init" ∷ []) ∷ (codes "refused not-closed exec_uid init" ∷ [])
    ∷ (codes "refused not-closed maps fresh(init)" ∷ []) ∷ (codes "refused meets fresh(init)" ∷ []) ∷ [])
unfolding print_on_literals
rows_that_fail rows = record { statuses = refl; texts = refl }

pub rows_that_hold : (rows : List BoxRow) → Says (of_read (Ok rows)) status.Accepted (codes "holds" ∷ [])
rows_that_hold rows = record { status = refl; text = refl }

-- ---- runs
-- the words `confirm w l 100`, a right and a run, whose file has the bytes
abbrev confirm_words : List ℕ → List (List ℕ)
confirm_words right = codes "confirm" ∷ codes "w" ∷ codes "l" ∷ codes "100" ∷ right ∷ codes "r" ∷ []

abbrev with_run : List ℕ → List ℕ → List ℕ → List ℕ → List ℕ
with_run world log run name = if bytes_eq name (codes "r") then run else files world log name

-- the confirmation of a run for a right of root's process, after this log
abbrev Confirms100 : List ℕ → List ℕ → List ℕ → Status → List (List ℕ) → Type 0
Confirms100 log right run st lines = Says (report (confirm_words right) (with_run (of_row []) log run) none_judged) st lines

-- root made 1000 its effective id, and kept 0 as its real and saved one
abbrev steps_down : List ℕ
steps_down = codes "100 setresuid -1 1000 -1 = 0\n"

pub checked_runs : record {
  a_run_that_ends_with_the_right : Confirms100 steps_down (codes "cap:CAP_SYS_ADMIN@init")
      (codes "100 capset 000001ffffffffff 000001ffffffffff 0000000000000000 = 0\n") status.Accepted
      (codes "confirmed 100" ∷ []);
  a_run_that_ends_without : Confirms100 steps_down (codes "cap:CAP_SYS_ADMIN@init") [] status.Refused
      (codes "refused end" ∷ []);
  -- lines are counted with those that tell no event
  a_call_of_no_member : Confirms100 steps_down (codes "cap:CAP_SYS_ADMIN@init")
      (codes "; a comment\n\n101 setuid 0 = 0\n") status.Refused (codes "refused line 3" ∷ []);
  a_call_that_is_no_step : Confirms100 [] (codes "uid:7") (codes "100 setuid 7 = EPERM\n") status.Refused
      (codes "refused line 1" ∷ []);
  a_line_of_a_run_with_a_fault : Confirms100 [] (codes "uid:7") (codes "100 setuid 7 = 0\n100 setuid\n") status.Refused
      (codes "refused line 2" ∷ []);
  -- a log that isn't accepted leaves its one line, and a bad query comes before the run
  a_log_that_is_impossible : Confirms100 (codes "100 setuid 0 = 0\n100 setuid 0 = EPERM\n") (codes "uid:7") []
      status.Impossible (codes "impossible line 2: the rules give 0" ∷ []);
  a_right_that_is_none : Confirms100 [] (codes "uid:x") (codes "100 setuid\n") status.BadQuery
      (codes "bad query: right" ∷ []);
  -- what a run comes to is told so
  what_runs_come_to : map (λ x. (confirmed_report x).status)
      (Confirms 7 ∷ RefusesLine 3 ∷ RefusesEnd ∷ PastLimit limit.Spaces ∷ [])
      ≡ status.Accepted ∷ status.Refused ∷ status.Refused ∷ status.Limit ∷ [];
}
unfolding print_on_literals world_on_literals
checked_runs = search

-- ---- the drill
pub drills : record {
  -- with no event, root's process holds the right
  a_drill_of_nothing : Says
      (report (codes "drill" ∷ codes "0" ∷ []) (files [] []) (judged (TellsNo (record { run = []; holder = 1 }))))
      status.Accepted
      (codes "events 0" ∷ codes "refused 0" ∷ codes "live 1" ∷ codes "spaces 1" ∷ codes "verdict no" ∷ []);
  -- of its first seven events three are refused
  a_drill_of_seven : Says
      (report (codes "drill" ∷ codes "7" ∷ []) (files [] []) (judged (TellsNo (record { run = []; holder = 1 }))))
      status.Accepted
      (codes "events 7" ∷ codes "refused 3" ∷ codes "live 1" ∷ codes "spaces 1" ∷ codes "verdict no" ∷ []);
}
unfolding print_on_literals drill_on_literals
drills = search
