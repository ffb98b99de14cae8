-- Each event that a report tells is read again as it was written, however long the log is: it is a step of a run within the
-- limits, so the spaces that it names stand, and these are few.
use Rattle.std.proofs.Common.{◌≡◌, ℕ, ◌<◌, ◌≤◌, Bool, true, false, not, List, [], ◌∷◌, length, refl, sym, subst, arith, All}
use Rattle.std.proofs.lemmas.Bool.{ltb-true}
use Rattle.std.proofs.lemmas.List.Elements.{All-nil, All-cons, All-head, All-tail}
use Rattle.cm_base.specs.Limited.{limit_number}
use Rattle.cm_base.specs.Limits.{greatest_number}
use Rattle.cm_base.specs.declared.limited.Limited.TheVariants as limit
use Rattle.cm_filter.specs.Filters.{excluded_kinds}
use Rattle.model_cred.specs.Call.{Call, Event, Install, SetGroups, SetNs, WriteUidMap, WriteGidMap, WriteSetgroups}
use Rattle.model_cred.specs.Process.{State}
use Rattle.model_cred.specs.Space.{Spaces, stands}
use Rattle.model_cred.specs.World.{World}
use Rattle.model_laws.proofs.MadeSpaces.{within_few}
use Rattle.model_laws.proofs.StepParts.{stepped}
use Rattle.model_report.specs.Command.{command_of, task_of}
use Rattle.model_report.specs.Report.{report, shows}
use Rattle.model_report_laws.proofs.Endings.{IsWrittenOf, begins_written, hidden_plain, tells_of_log}
use Rattle.model_report_laws.proofs.Lines.{plain_untold, written_told}
use Rattle.model_report_laws.proofs.LogEvents.{line_read_back}
use Rattle.model_report_laws.specs.Laws.{LineStandsFor, ToldEventsReadBack, told_in}
use Rattle.model_run.specs.Step.{Step, names_no_space}
use Rattle.model_run.specs.Within.{RunWithin}
use Rattle.model_strace.proofs.NamedSpaces.{EventWithin, ids_name_none, kinds_name_none, spaces_more, triples_name_none}
use Rattle.model_text.proofs.Starts.{start_spaces}
use Rattle.model_text.proofs.ToldEvents.{SpacesWithin}
use Rattle.model_text.specs.Arguments.{arguments_of}
use Rattle.model_text.specs.Line.{Tells, script_line}
use Rattle.model_text.specs.Print.{event_text}
use Rattle.model_text.specs.Reading.{Placed, events_of}

-- ---- the spaces that a step names
-- a space that stands has a number below how many there are
stands_low : (spaces : Spaces) (n : ℕ) → (b : Bool) → stands spaces n ≡ b → not b ≡ false → n ≤ length spaces
stands_low spaces n true is named = let low : n < length spaces = ltb-true n (length spaces) is in omega arith
stands_low spaces n false is named = absurd (cc)

named_low : (spaces : Spaces) (call : Call) → names_no_space spaces call ≡ false → SpacesWithin (length spaces) (arguments_of call)
named_low spaces (SetGroups ids) named = ids_name_none (length spaces) ids
named_low spaces (SetNs n) named = (stands_low spaces n (stands spaces n) refl named, tt)
named_low spaces (WriteUidMap n given) named =
    (stands_low spaces n (stands spaces n) refl named, triples_name_none (length spaces) given)
named_low spaces (WriteGidMap n given) named =
    (stands_low spaces n (stands spaces n) refl named, triples_name_none (length spaces) given)
named_low spaces (WriteSetgroups n deny) named = (stands_low spaces n (stands spaces n) refl named, tt)
named_low spaces (Install more) named = kinds_name_none (length spaces) (excluded_kinds more)
named_low spaces _ named = tt

-- those of a step from a state with few spaces have numbers of 32 bits
step_low : (w : World) (s s' : State) (e : Event) → length s.spaces ≤ limit_number limit.Spaces → Step w s e s' → EventWithin greatest_number e
step_low w s s' e few step =
    spaces_more (length s.spaces) greatest_number (omega (arith, few)) (arguments_of e.call)
    (named_low s.spaces e.call (stepped w s e s' step).spaces)

-- so have those of each event of a run within the limits
run_low : (w : World) (s s' : State) (events : List Placed) → length s.spaces ≤ limit_number limit.Spaces → RunWithin w s (events_of events) s'
    → All (λ e. EventWithin greatest_number e.event) events
run_low w s s' [] few run = All-nil (λ (e : Placed). EventWithin greatest_number e.event)
run_low w s s' (e ∷ events) few run =
    All-cons (λ (e : Placed). EventWithin greatest_number e.event) e events (step_low w s run.0 e.event few run.1)
    (run_low w run.0 s' events (within_few run.0 run.2) run.3)

-- ---- the law
-- what holds of each by two things that hold of each
all_both : (P Q R : Placed → Type 0) → ((e : Placed) → P e → Q e → R e) → (events : List Placed) → All P events → All Q events → All R events
all_both P Q R both [] first second = All-nil R
all_both P Q R both (e ∷ events) first second =
    All-cons R e events (both e (All-head P e events first) (All-head Q e events second))
    (all_both P Q R both events (All-tail P e events first) (All-tail Q e events second))

-- what is written of it is read again as it
abbrev ReadsBack : World → Placed → Type 0
ReadsBack w e = script_line w (event_text w e.event) ≡ Tells e.event

pub told_events_read_back : ToldEventsReadBack
unfolding ToldEventsReadBack
told_events_read_back words bytes j w reading begins = by (shows (task_of (command_of words) bytes)) refl where
  by : (b : Bool) → shows (task_of (command_of words) bytes) ≡ b → All (ReadsBack w) (told_in (report words bytes j).lines)
  by true shown_so =
      let told : List Placed = told_in (report words bytes j).lines in
      let is : IsWrittenOf words bytes j w reading.events (report words bytes j).lines = begins_written words bytes j w reading begins shown_so in
      let same : told ≡ is.told = written_told w is.told is.state is.end (report words bytes j).lines is.written in
      let few : length w.start.spaces ≤ limit_number limit.Spaces = start_spaces (bytes begins.names.world) w begins.names.reads in
      let low : All (λ e. EventWithin greatest_number e.event) told
      = subst (All (λ (e : Placed). EventWithin greatest_number e.event)) (sym same) (run_low w w.start is.state is.told few is.within) in
      all_both (λ e. LineStandsFor w (bytes begins.log) e.line (Tells e.event)) (λ e. EventWithin greatest_number e.event) (ReadsBack w)
      (λ e stands within. line_read_back w.form (bytes begins.names.world) w (bytes begins.log) begins.names.reads e stands within) told
      (tells_of_log words bytes j w reading begins).numbers low
  by false hidden =
      subst (All (ReadsBack w)) (sym (plain_untold (report words bytes j).lines (hidden_plain words bytes j w reading begins hidden)))
      (All-nil (ReadsBack w))
