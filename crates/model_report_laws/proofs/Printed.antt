-- What an audit prints is accepted: its certificate holds, and its run is confirmed.
use Rattle.std.proofs.Common.{◌≡◌, ℕ, ◌+◌, ◌*◌, ◌<◌, ◌≤◌, inl, inr, Bool, true, false, List, [], ◌∷◌, ◌++◌, append-nil, length, get_or, Some, refl, sym, ◌∙◌, ap, subst, arith}
use Rattle.std.specs.Prelude.{◌&&◌, IsTrue, Ok}
use Rattle.std.proofs.lemmas.Bool.{and_parts, lt-ltb}
use Rattle.std.proofs.lemmas.List.{get_or_default}
use Rattle.cm_base.proofs.CapSets.{holds_full, same_members, same_tests, holds_meet, meet_is_cap_set}
use Rattle.cm_base.specs.CapSet.{holds, full, meet, cap_count, IsCapSet}
use Rattle.cm_base.specs.declared.limited.Limited.{Limited}
use Rattle.cm_base.specs.declared.limited.Limited.TheVariants as limit
use Rattle.cm_base.specs.Limited.{limit_number}
use Rattle.cm_filter.specs.Filters.{permits}
use Rattle.model_box.proofs.Starts.{number_back}
use Rattle.model_box.specs.Bounds.{BoxRow, bounds_hold, row_in, no_row}
use Rattle.model_box.specs.Laws.{tested}
use Rattle.model_box.specs.Row.{PermittedCaps, InheritableCaps, BoundingCaps, row_at, row_number}
use Rattle.model_cred.specs.Space.{Spaces}
use Rattle.model_cert.proofs.Stated.{round_trip, line_round_trip}
use Rattle.model_cert.specs.Document.{certificate}
use Rattle.model_cert.specs.Laws.{AreRows}
use Rattle.model_cert.specs.Written.{certificate_text}
use Rattle.model_report.specs.Causes.{IsAccepted, AsksVerdict, ReadsAs}
use Rattle.model_report.specs.Command.{command_of, files_of, query}
use Rattle.model_report.specs.Query.{Query}
use Rattle.model_report.specs.Report.{report}
use Rattle.model_report.specs.Task.{Task, ToCheck, ToConfirm}
use Rattle.model_confirm.proofs.Confirms.{confirms_later_runs}
use Rattle.model_confirm.specs.Causes.{EndsWithHolder}
use Rattle.model_confirm.specs.Confirm.{Confirms}
use Rattle.model_confirm.specs.Laws.{ConfirmsLaterRuns}
use Rattle.model_cred.specs.Call.{Event}
use Rattle.model_cred.specs.Process.{State}
use Rattle.model_cred.specs.Right.{Right}
use Rattle.model_cred.specs.World.{World}
use Rattle.model_plans.specs.PlanRun.{Found}
use Rattle.model_report_laws.proofs.Answering.{check_holds, confirms_so}
use Rattle.model_report_laws.proofs.RunEvents.{run_reads_back}
use Rattle.model_report_laws.proofs.RunLimits.{found_within, accepted_within}
use Rattle.model_run.specs.Own.{common_filter}
use Rattle.model_run.specs.Later.{LaterRun}
use Rattle.model_run.specs.Within.{IsWithin, RunWithin}
use Rattle.model_text.specs.Written.{placed_from}
use Rattle.model_verdict.specs.InWorld.{end_in, FirstRunIn}
use Rattle.model_report_laws.proofs.Audits.{answer_alone}
use Rattle.model_report_laws.proofs.Judging.{least_is_low}
use Rattle.model_report_laws.proofs.Statuses.{accepted_fits, gives_after, first_of, second_of}
use Rattle.model_report_laws.specs.Answers.{Asking, audit_of, check_of, confirming, SameFiles, IsCertificateOf}
use Rattle.model_report_laws.specs.Answers.{PrintedCertificateHolds, PrintedRunIsConfirmed, RunReadsBack}
use Rattle.model_run.specs.Family.{family}
use Rattle.model_strace.specs.Logs.{log_reading}
use Rattle.model_text.specs.Reading.{AtEnd, Reading, events_of, script_reading}
use Rattle.model_text.specs.WorldText.{world_text}
use Rattle.model_verdict.specs.Rows.{AreLow, AreBounds}

-- ---- other words over the same world and log
-- The log is accepted for other words too, over files that hold the same under the names of the world and the log.
module _ (words other_words : List (List ℕ)) (bytes other : List ℕ → List ℕ) (world log : List ℕ) (more other_more : List (List ℕ × Limited))
    (names : files_of (command_of words) ≡ (world, limit.World) ∷ (log, limit.Log) ∷ more)
    (other_names : files_of (command_of other_words) ≡ (world, limit.World) ∷ (log, limit.Log) ∷ other_more)
    (same : SameFiles bytes other world log) (is : IsAccepted words bytes) where
  same_world : other world ≡ bytes is.comes.begins.names.world
  same_world = same.same_world ∙ ap bytes (first_of (sym names ∙ is.comes.begins.names.command))

  same_log : other log ≡ bytes is.comes.begins.log
  same_log = same.same_log ∙ ap bytes (second_of (sym names ∙ is.comes.begins.names.command))

  abbrev moved : IsAccepted other_words other
  moved = record {
    world = is.world;
    state = is.state;
    comes = record {
      events = is.comes.events;
      begins = record {
        log = log;
        names = record {
          world = world;
          more = other_more;
          command = other_names;
          size = subst (λ (text : List ℕ). length text ≤ limit_number limit.World) (sym same_world) is.comes.begins.names.size;
          reads = ap world_text same_world ∙ is.comes.begins.names.reads;
        };
        reads = ap (λ (text : List ℕ). log_reading is.world text) same_log ∙ is.comes.begins.reads;
      };
      run = is.comes.run;
    };
  }

-- ---- rows that are low have lawful sets
cap_set_of : (set : ℕ) → ((c : ℕ) → IsTrue (holds set c) → c < cap_count) → IsCapSet set
cap_set_of set low =
    let within : set ≡ meet full set = same_members set (meet full set) (λ c. same_tests (holds set c) (holds (meet full set) c)
    (λ held. holds_meet full set c ∙ both (holds full c) (holds set c) (holds_full c ∙ lt-ltb c cap_count (low c held)) held)
    (λ held. second (holds full c) (holds set c) (sym (holds_meet full set c) ∙ held))) in
    subst (λ (n : ℕ). IsCapSet n) (sym within) (meet_is_cap_set full set (omega arith))
  where
    both : (a b : Bool) → IsTrue a → IsTrue b → IsTrue (a && b)
    both true true one two = refl
    both false b one two = one
    both true false one two = two

    second : (a b : Bool) → IsTrue (a && b) → IsTrue b
    second a b is = (and_parts a b is).1

lawful_rows : (spaces : Spaces) (rows : List BoxRow) → AreBounds spaces rows → AreLow spaces (tested (bounds_hold rows)) → AreRows rows
lawful_rows spaces rows is low = λ k d there. record {
  ids = is.written k d there;
  permitted = cap_set_of (get_or rows k d).permitted (λ c held. low.low (row_at k) PermittedCaps c
      (subst (λ (row : BoxRow). IsTrue (holds row.permitted c)) (row_is k d there) held));
  inheritable = cap_set_of (get_or rows k d).inheritable (λ c held. low.low (row_at k) InheritableCaps c
      (subst (λ (row : BoxRow). IsTrue (holds row.inheritable c)) (row_is k d there) held));
  bounding = cap_set_of (get_or rows k d).bounding (λ c held. low.low (row_at k) BoundingCaps c
      (subst (λ (row : BoxRow). IsTrue (holds row.bounding c)) (row_is k d there) held));
}
  where
    row_is : (k : ℕ) (d : BoxRow) → k < length rows → get_or rows k d ≡ row_in rows (row_number (row_at k))
    row_is k d there = get_or_default rows k d no_row there ∙ ap (λ (n : ℕ). row_in rows n) (sym (number_back k))

-- ---- the certificate
-- what the query of two texts is
asked_is : (world log pid right : List ℕ) (bytes : List ℕ → List ℕ) (is : Asking (audit_of world log pid right) bytes) → query pid right ≡ is.query
asked_is world log pid right bytes is = let same : Some (query pid right) ≡ Some is.query = is.asked in cc

-- the bytes of a certificate stand for its rows
stands_for : (spaces : ℕ) (rows : List BoxRow) (bytes : List ℕ) → AreRows rows → length rows ≡ 2 * spaces → IsCertificateOf rows bytes
    → certificate spaces bytes ≡ Ok rows
stands_for spaces rows bytes lawful count (inl line) =
    ap (certificate spaces) (line ∙ append-nil (certificate_text rows ++ 10 ∷ [])) ∙ line_round_trip spaces rows lawful count
stands_for spaces rows bytes lawful count (inr text) = ap (certificate spaces) text ∙ round_trip spaces rows lawful count

pub printed_certificate_holds : PrintedCertificateHolds
unfolding PrintedCertificateHolds
printed_certificate_holds bytes other world log pid right text j k gives same shows printed small =
    let is : IsAccepted (audit_of world log pid right) bytes = shows.asking.accepted in
    let here : IsAccepted (check_of world log pid right text) other
    = moved (audit_of world log pid right) (check_of world log pid right text) bytes other world log [] ((text, limit.Certificate) ∷ []) refl refl same is in
    let task : Task = ToCheck (query pid right) (other text) in
    let asked : AsksVerdict (query pid right) is.world is.state shows.asking.process shows.asking.right
    = subst (λ (q : Query). AsksVerdict q is.world is.state shows.asking.process shows.asking.right)
    (sym (asked_is world log pid right bytes shows.asking)) shows.asking.asks in
    let low : AreLow is.state.spaces (tested (bounds_hold shows.rows))
    = least_is_low (permits (common_filter is.world is.state (family is.state shows.asking.process.pid))) is.world.files is.state (family is.state shows.asking.process.pid)
    (accepted_fits (audit_of world log pid right) bytes is).keeps (bounds_hold shows.rows) shows.least in
    let reads : ReadsAs is.state (other text) (Ok shows.rows)
    = record {
      size = small;
      reads =
          stands_for (length is.state.spaces) shows.rows (other text) (lawful_rows is.state.spaces shows.rows shows.bounds low)
          shows.bounds.count printed;
    } in
    answer_alone (check_of world log pid right text) other k gives here task refl refl
    ∙ check_holds (query pid right) is.world is.state k (other text)
    (gives_after (check_of world log pid right text) other k gives here)
    shows.asking.process shows.asking.right asked shows.rows reads
    (record { encloses = shows.least.encloses; apart = shows.apart })

-- ---- the run
events_placed : (number : ℕ) (es : List Event) → events_of (placed_from number es) ≡ es
events_placed number [] = refl
events_placed number (e ∷ es) = ap (λ (rest : List Event). e ∷ rest) (events_placed (number + 1) es)

-- the run that is found ends with its holder, as what its lines are read as
found_ends : (w : World) (s : State) (members : List ℕ) (right : Right) (found : Found) → IsWithin s → FirstRunIn w s members right found
    → EndsWithHolder w s members right (record { events = placed_from 1 found.run; ending = AtEnd }) found.holder
found_ends w s members right found within run =
    let end : State = end_in w s right run.first.plan in
    record {
      through = record {
        last = end;
        members_then = members;
        run = record {
          later = subst (λ (es : List Event). LaterRun w s members es end members) (sym (events_placed 1 found.run)) run.later;
          within =
              subst (λ (es : List Event). RunWithin w s es end) (sym (events_placed 1 found.run))
              (found_within (permits w.filter) w s members right found within run.first);
        };
        ends = refl;
      };
      holder = run.least;
    }

pub printed_run_is_confirmed : PrintedRunIsConfirmed
unfolding PrintedRunIsConfirmed RunReadsBack ConfirmsLaterRuns
printed_run_is_confirmed bytes other world log pid right run j k gives same printed text small =
    let words : List (List ℕ) = audit_of world log pid right in
    let is : IsAccepted words bytes = printed.asking.accepted in
    let here : IsAccepted (confirming world log pid right run) other
    = moved words (confirming world log pid right run) bytes other world log [] ((run, limit.Run) ∷ []) refl refl same is in
    let members : List ℕ = family is.state printed.asking.process.pid in
    let asked : AsksVerdict (query pid right) is.world is.state printed.asking.process printed.asking.right
    = subst (λ (q : Query). AsksVerdict q is.world is.state printed.asking.process printed.asking.right)
    (sym (asked_is world log pid right bytes printed.asking)) printed.asking.asks in
    let reading : script_reading is.world (other run) ≡ record { events = placed_from 1 printed.found.run; ending = AtEnd }
    = ap (script_reading is.world) text ∙ run_reads_back words bytes (report words bytes j).lines printed in
    let ends : EndsWithHolder is.world is.state members printed.asking.right (script_reading is.world (other run)) printed.found.holder
    = subst (λ (r : Reading). EndsWithHolder is.world is.state members printed.asking.right r printed.found.holder) (sym reading)
    (found_ends is.world is.state members printed.asking.right printed.found (accepted_within words bytes is) printed.run) in
    answer_alone (confirming world log pid right run) other k gives here (ToConfirm (query pid right) (other run)) refl refl
    ∙ confirms_so (query pid right) is.world is.state k (other run) printed.asking.process printed.asking.right asked small
    (Confirms printed.found.holder)
    ((confirms_later_runs is.world is.state members printed.asking.right (script_reading is.world (other run)) printed.found.holder).1 ends)
