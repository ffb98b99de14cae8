-- A replay while its log comes: where it stands between two lines, and how it ends.
use Rattle.std.proofs.Common.{◌≡◌, ◌≢◌, ◌≤◌, ℕ, List, [], ◌∷◌, ◌++◌, length, Bool, true, false, Option, Some, None, Result, Ok, Err, refl, sym}
use Rattle.std.proofs.Common.{ap, subst, ◌∙◌, append-nil, append_assoc, arith, IfSome, Bor}
use Rattle.cm_base.specs.declared.status.Status.{Status}
use Rattle.cm_base.specs.declared.status.Status.TheVariants as answers
use Rattle.cm_io.proofs.Written.{then_written_twice}
use Rattle.cm_base.specs.Limited.{limit_number}
use Rattle.cm_base.specs.declared.limited.Limited.TheVariants as limit
use Rattle.cm_io.specs.Cutter.{Cutting, Gives, begun, error_of, left_of}
use Rattle.cm_io.specs.Shelf.{Files, bytes_at}
use Rattle.cm_io.specs.Sink.{then_written}
use Rattle.cm_io.specs.declared.cutter.CutError.{CutError}
use Rattle.cm_lines.specs.Cut.{Cut, before, ends_by}
use Rattle.cm_lines.specs.declared.limits.Past.{Past}
use Rattle.cm_lines.specs.declared.limits.Past.TheVariants.{Line}
use Rattle.cm_log.specs.Left.{left}
use Rattle.cm_log.specs.declared.log.Log.{Log}
use Rattle.cm_replay.proofs.Standing.{cut_then, ends_then, goes_then, stays}
use Rattle.cm_replay.specs.Coming.{ComesTo, KeepsAtEnd, KeepsSpaces, SendsAll, SendsBy, SendsMore}
use Rattle.cm_replay.specs.Following.{EndsAs, GoesOn, IsCutOff, Outgoing}
use Rattle.cm_replay.specs.Replay.{report_from}
use Rattle.cm_replay.specs.Shown.{shown_report}
use Rattle.cm_replay.specs.declared.replay.Replay.{Replay}
use Rattle.cm_replay.specs.declared.untold.Untold.{Untold}
use Rattle.cm_replay.specs.declared.untold.Untold.TheVariants as untold
use Rattle.cm_report.proofs.Waiting.{all_waits, more_waits, none_waits, sent_on, waits_as}
use Rattle.cm_report.specs.Sent.{IsFront, IsSent}
use Rattle.model_cred.specs.Call.{Event}
use Rattle.model_cred.specs.Process.{State}
use Rattle.model_cred.specs.World.{World}
use Rattle.model_laws.proofs.MadeSpaces.{steps_make_spaces}
use Rattle.model_laws.specs.Steps.{StepsMakeSpaces}
use Rattle.model_report.specs.Causes.{RunWithin}
use Rattle.model_report.specs.Replay.{IsWithin, Report, replayed, text_of}
use Rattle.model_report.specs.Report.{replay_of}
use Rattle.model_strace.specs.Logs.{form_of_cut, log_reading}
use Rattle.model_text.specs.Reading.{Reading, events_of, log_cut}
use Rattle.std.specs.Prelude.{OnErr}
use Rattle.std.proofs.lemmas.Option.{IfSome_then}
use Rattle.cm_io.proofs.Kept.{on_err}
use Rattle.cm_replay.proofs.Held.{always, if_both}
use Rattle.cm_replay.proofs.Shown.{same_status, none_shown}

-- ---- what is written
-- All that waited at the beginning is written, and more; where the replay isn't shown, there is no more, and nothing waits.
pub record Grown (shows : Bool) (begun : Outgoing) (now : Outgoing) : Type 0 where
  pub more : List ℕ
  pub written : now.written ≡ then_written begun.written (begun.waits ++ more)
  pub quiet : shows ≡ false → IsSent begun.written now.written [] begun.waits × (now.waits ≡ [])

-- what waited was sent
pub grown_first : (shows : Bool) (begun now : Outgoing) → IsSent begun.written now.written now.waits begun.waits → now.waits ≡ []
    → Grown shows begun now
grown_first shows begun now sent empty =
    let parts : begun.waits ≡ sent.front = sent.parts ∙ ap (λ (t : List ℕ). sent.front ++ t) empty ∙ append-nil sent.front in
    record {
      more = [];
      written = sent.written ∙ ap (then_written begun.written) (sym parts ∙ sym (append-nil begun.waits));
      quiet = λ _. (waits_as now.waits [] empty sent, empty);
    }

-- more was written after it
pub grown_more : (shows : Bool) (begun now next : Outgoing) (waits whole : List ℕ) → Grown shows begun now
    → IsSent now.written next.written waits whole
    → (shows ≡ false → IsSent now.written next.written next.waits now.waits)
    → Grown shows begun next
grown_more shows begun now next waits whole grown sent quiet = record {
  more = grown.more ++ sent.front;
  written =
      sent.written ∙ ap (λ (w : Option (List ℕ)). then_written w sent.front) grown.written
      ∙ then_written_twice begun.written (begun.waits ++ grown.more) sent.front
      ∙ ap (then_written begun.written) (append_assoc begun.waits grown.more sent.front);
  quiet = λ is. still (grown.quiet is) (quiet is);
}
  where
    nothing_left : (front rest : List ℕ) → [] ≡ front ++ rest → rest ≡ []
    nothing_left [] rest is = sym is
    nothing_left (x ∷ front) rest is = absurd (cc)

    still : IsSent begun.written now.written [] begun.waits × (now.waits ≡ [])
        → IsSent now.written next.written next.waits now.waits
        → IsSent begun.written next.written [] begun.waits × (next.waits ≡ [])
    still (before, none) after =
        let empty : next.waits ≡ [] = nothing_left after.front next.waits (sym none ∙ after.parts) in (
          sent_on before (subst (λ (t : List ℕ). IsSent now.written next.written [] t) none (waits_as next.waits [] empty after)),
          empty,
        )

-- at a fault of reading
pub all_sent : (shows : Bool) (begun now : Outgoing) → Grown shows begun now → SendsAll shows begun.written now.written begun.waits
all_sent true begun now grown = record { more = grown.more; sent = grown.written; unshown = λ is. absurd (cc) }
all_sent false begun now grown =
    let quiet : IsSent begun.written now.written [] begun.waits × (now.waits ≡ []) = grown.quiet refl in
    let parts : begun.waits ≡ quiet.0.front = quiet.0.parts ∙ append-nil quiet.0.front in
    record {
      more = [];
      sent = quiet.0.written ∙ ap (then_written begun.written) (sym parts ∙ sym (append-nil begun.waits));
      unshown = λ _. append-nil begun.waits;
    }

-- at an accepted end
more_sent : (shows : Bool) (w : World) (from to : Replay) (begun now next : Outgoing) (reading : Reading) → from.shows ≡ shows
    → Grown shows begun now → EndsAs w from to now next answers.Accepted reading
    → SendsMore shows begun.written next.written begun.waits next.waits
more_sent true w from to begun now next reading is grown ends =
    let rest : List ℕ = now.waits ++ text_of (report_from w from reading).lines in
    let before : IsSent begun.written now.written [] (begun.waits ++ grown.more)
    = none_waits begun.written now.written (begun.waits ++ grown.more) grown.written in
    let whole : IsSent begun.written next.written next.waits ((begun.waits ++ grown.more) ++ rest)
    = sent_on (more_waits before rest) ends.sent in
    record {
      more = grown.more ++ rest;
      sent = subst (λ (t : List ℕ). IsSent begun.written next.written next.waits t) (append_assoc begun.waits grown.more rest) whole;
      unshown = λ never. absurd (cc);
    }
more_sent false w from to begun now next reading is grown ends =
    let quiet : IsSent begun.written now.written [] begun.waits × (now.waits ≡ []) = grown.quiet refl in
    let replay : Report = replayed w from.machine.state from.events reading.events reading.ending in
    let none : text_of (report_from w from reading).lines ≡ []
    = ap (λ (b : Bool). text_of (shown_report b replay).lines) is ∙ none_shown replay (sym (same_status from.shows replay) ∙ ends.status) in
    let sent : IsSent now.written next.written next.waits []
    = subst (λ (t : List ℕ). IsSent now.written next.written next.waits t)
    (ap (λ (t : List ℕ). now.waits ++ t) none ∙ append-nil now.waits ∙ quiet.1) ends.sent in
    record {
      more = [];
      sent =
          subst (λ (t : List ℕ). IsSent begun.written next.written next.waits t) (sym (append-nil begun.waits)) (sent_on quiet.0 sent);
      unshown = λ _. append-nil begun.waits;
    }

pub sends_by : (shows : Bool) (w : World) (from to : Replay) (begun now next : Outgoing) (reading : Reading) (result : Result Status Untold)
    → from.shows ≡ shows → Grown shows begun now → ComesTo w from to now next result reading
    → (result ≡ Err untold.ReadFault → next.written ≡ now.written)
    → SendsBy shows begun.written next.written begun.waits next.waits result
sends_by shows w from to begun now next reading (Ok st) is grown ends fault = λ accepted.
    more_sent shows w from to begun now next reading is grown
    (subst (λ (s : Status). EndsAs w from to now next s reading) accepted ends)
sends_by shows w from to begun now next reading (Err untold.ReadFault) is grown ends fault =
    subst (λ (t : Option (List ℕ)). SendsAll shows begun.written t begun.waits) (sym (fault refl)) (all_sent shows begun now grown)
sends_by shows w from to begun now next reading (Err _) is grown ends fault = tt

-- at an error that is no fault of reading nothing is asked of what was sent
pub none_sends : (shows : Bool) (written written' : Option (List ℕ)) (waits waits' : List ℕ) (r : Result Status Untold) (why : Untold)
    → r ≡ Err why → r ≢ Err untold.ReadFault → SendsBy shows written written' waits waits' r
none_sends shows written written' waits waits' (Ok st) why is other = absurd (cc)
none_sends shows written written' waits waits' (Err untold.ReadFault) why is other = absurd (other refl)
none_sends shows written written' waits waits' (Err _) why is other = tt

-- ---- what is told
pub comes_then : (w : World) (from mid to : Replay) (old now new : Outgoing) (reading between : Reading) (result : Result Status Untold)
    → GoesOn w from mid old now reading between → ComesTo w mid to now new result between → ComesTo w from to old new result reading
comes_then w from mid to old now new reading between (Ok st) goes ends = ends_then goes ends
comes_then w from mid to old now new reading between (Err why) goes cut = cut_then w from mid old now new reading between goes cut

-- what waits was sent, or waits on
pub goes_sent : {w : World} {from to : Replay} {old now : Outgoing} {reading rest : Reading} (written : Option (List ℕ)) (waits : List ℕ)
    → GoesOn w from to old now reading rest → IsSent now.written written waits now.waits
    → GoesOn w from to old (record { written = written; waits = waits }) reading rest
goes_sent {w} {from} {to} {old} {now} {reading} {rest} written waits goes sent = record {
  status = goes.status;
  sent = sent_on goes.sent (more_waits sent (text_of (report_from w to rest).lines));
  reached = goes.reached;
  shows = goes.shows;
  quiet = λ none. sent_on (goes.quiet none) sent;
  spaces = goes.spaces;
}

-- a front of what waits was sent, and no more
pub cut_sent : {w : World} {from to : Replay} {old now : Outgoing} {reading rest : Reading} (new : Outgoing)
    → GoesOn w from to old now reading rest → IsFront now.written new.written now.waits → IsCutOff w from old new reading
cut_sent {w} {from} {to} {old} {now} {reading} {rest} new goes front =
    (front.0 ++ text_of (report_from w to rest).lines, sent_on goes.sent (more_waits front.1 (text_of (report_from w to rest).lines)))

-- ---- the state
-- A run within the limits from a state within them keeps them, and no user namespace goes.
pub run_keeps : (w : World) (es : List Event) (s s' : State) → IsWithin s → RunWithin w s es s' → KeepsSpaces s s'
unfolding StepsMakeSpaces
run_keeps w [] s s' within run =
    subst (λ (t : State). KeepsSpaces s t) (sym run) (record { within = within; spaces = omega arith })
run_keeps w (e ∷ es) s s' within (mid, step, there, run) =
    let rest : KeepsSpaces mid s' = run_keeps w es mid s' there run in
    let more = steps_make_spaces w s e mid step in
    let up = rest.spaces in
    record { within = rest.within; spaces = omega (arith, more, up) }

pub keeps_at_end : (w : World) (first from to : Replay) (now next : Outgoing) (reading : Reading) (result : Result Status Untold)
    → length first.machine.state.spaces ≤ length from.machine.state.spaces → IsWithin from.machine.state
    → ComesTo w from to now next result reading → KeepsAtEnd first to result
keeps_at_end w first from to now next reading (Ok st) up within ends = λ accepted.
    let run : RunWithin w from.machine.state (events_of reading.events) to.machine.state = ends.reached accepted in
    let keeps : KeepsSpaces from.machine.state to.machine.state
    = run_keeps w (events_of reading.events) from.machine.state to.machine.state within run in
    let more = keeps.spaces in
    record { within = keeps.within; spaces = omega (arith, up, more) }
keeps_at_end w first from to now next reading (Err why) up within cut = tt

-- ---- the cutter
-- what a cutter still gave is what it gave and what it still gives
given_by : (held held' : Option Files) (old new : Cutting) (name : List ℕ) (P : List ℕ → Type 0)
    (r : Result (Option (Bor (List ℕ))) CutError) → held ≡ held' → old.name ≡ name
    → ((text : List ℕ) → Gives old new text r → P text)
    → IfSome held (λ files. Gives old new (bytes_at files old.name) r) → IfSome held' (λ files. P (bytes_at files name))
given_by held held' old new name P r same named tells gives =
    subst (λ (h : Option Files). IfSome h (λ files. P (bytes_at files name))) same (IfSome_then held gives (λ files a.
    subst (λ (n : List ℕ). P (bytes_at files n)) named (tells (bytes_at files old.name) a)))

pub line_given : (held held' : Option Files) (old new : Cutting) (name : List ℕ) (line : Bor (List ℕ)) (r : Result (Option (Bor (List ℕ))) CutError)
    → held ≡ held' → old.name ≡ name → r ≡ Ok (Some line) → IfSome held (λ files. Gives old new (bytes_at files old.name) r)
    → IfSome held' (λ files. left_of old (bytes_at files name) ≡ before line.now (left_of new (bytes_at files name)))
line_given held held' old new name line r same named is gives =
    given_by held held' old new name (λ text. left_of old text ≡ before line.now (left_of new text)) r same named
    (λ text a. subst (λ (x : Result (Option (Bor (List ℕ))) CutError). Gives old new text x) is a) gives

-- how the cutting ends, by an answer that is no line
abbrev pub EndsBy : Option Past → Result (Option (Bor (List ℕ))) CutError → Type 0
EndsBy None r = r ≡ Ok None
EndsBy (Some past) r = r ≡ Err (error_of past)

pub end_given : (held held' : Option Files) (old new : Cutting) (name : List ℕ) (past : Option Past) (r : Result (Option (Bor (List ℕ))) CutError)
    → held ≡ held' → old.name ≡ name → EndsBy past r → IfSome held (λ files. Gives old new (bytes_at files old.name) r)
    → IfSome held' (λ files. left_of old (bytes_at files name) ≡ ends_by past)
end_given held held' old new name past r same named is gives =
    given_by held held' old new name (λ text. left_of old text ≡ ends_by past) r same named
    (λ text a. ended past text is a) gives
  where
    ended : (p : Option Past) (text : List ℕ) → EndsBy p r → Gives old new text r → left_of old text ≡ ends_by p
    ended (Some Line) text ends gives' = subst (λ (x : Result (Option (Bor (List ℕ))) CutError). Gives old new text x) ends gives'
    ended _ text ends gives' = subst (λ (x : Result (Option (Bor (List ℕ))) CutError). Gives old new text x) ends gives'

-- ---- a line, and an end, where it is told what the shelf holds
module _ (held : Option Files) (w : World) (first : Replay) (begun : Outgoing) (first_log : Log) (whole : Cutting) where
  abbrev name : List ℕ
  name = whole.name

  -- what was to be read of the log
  abbrev reading : Files → Reading
  reading files = left w first_log (left_of whole (bytes_at files name))

  -- how far the replay has gone, where the cutter still gives this
  abbrev pub Gone : Replay → Outgoing → Log → Cutting → Type 0
  Gone replay out log cutter =
      IfSome held (λ files. GoesOn w first replay begun out (reading files) (left w log (left_of cutter (bytes_at files name))))

  -- at first
  pub gone_start : Gone first begun first_log whole
  gone_start = always held (λ files. stays w first begun (reading files) (reading files) refl)

  pub gone_on : (mid to : Replay) (now next : Outgoing) (log log' : Log) (old new : Cutting) (line : List ℕ)
      → Gone mid now log old
      → IfSome held (λ files. left_of old (bytes_at files name) ≡ before line (left_of new (bytes_at files name)))
      → ((cut : Cut) → GoesOn w mid to now next (left w log (before line cut)) (left w log' cut))
      → Gone to next log' new
  gone_on mid to now next log log' old new line gone given goes =
      if_both held gone given (λ files a b.
      goes_then (subst (λ (cut : Cut). GoesOn w first mid begun now (reading files) (left w log cut)) b a)
      (goes (left_of new (bytes_at files name))))

  pub gone_sent : (replay : Replay) (now : Outgoing) (log : Log) (cutter : Cutting) (written : Option (List ℕ)) (waits : List ℕ)
      → Gone replay now log cutter → IsSent now.written written waits now.waits
      → Gone replay (record { written = written; waits = waits }) log cutter
  gone_sent replay now log cutter written waits gone sent = IfSome_then held gone (λ files a. goes_sent written waits a sent)

  pub gone_cut : (replay : Replay) (now next : Outgoing) (log : Log) (cutter : Cutting) (to : Replay) (why : Untold)
      → Gone replay now log cutter → IsFront now.written next.written now.waits
      → IfSome held (λ files. ComesTo w first to begun next (Err why) (reading files))
  gone_cut replay now next log cutter to why gone front = IfSome_then held gone (λ files a. cut_sent next a front)

  -- the line with which the report ends, or at which sending failed
  pub gone_to_line : (mid to : Replay) (now next : Outgoing) (log : Log) (old new : Cutting) (line : List ℕ) (result : Result Status Untold)
      → Gone mid now log old
      → IfSome held (λ files. left_of old (bytes_at files name) ≡ before line (left_of new (bytes_at files name)))
      → ((cut : Cut) → ComesTo w mid to now next result (left w log (before line cut)))
      → IfSome held (λ files. ComesTo w first to begun next result (reading files))
  gone_to_line mid to now next log old new line result gone given comes =
      if_both held gone given (λ files a b.
      comes_then w first mid to begun now next (reading files) (left w log (left_of old (bytes_at files name))) result a
      (subst (λ (cut : Cut). ComesTo w mid to now next result (left w log cut)) (sym b) (comes (left_of new (bytes_at files name)))))

  -- the end of the log
  pub gone_to_end : (mid to : Replay) (now next : Outgoing) (log : Log) (old : Cutting) (past : Option Past) (result : Result Status Untold)
      → Gone mid now log old → IfSome held (λ files. left_of old (bytes_at files name) ≡ ends_by past)
      → ComesTo w mid to now next result (left w log (ends_by past))
      → IfSome held (λ files. ComesTo w first to begun next result (reading files))
  gone_to_end mid to now next log old past result gone given comes =
      if_both held gone given (λ files a b.
      comes_then w first mid to begun now next (reading files) (left w log (left_of old (bytes_at files name))) result a
      (subst (λ (cut : Cut). ComesTo w mid to now next result (left w log cut)) (sym b) comes))

-- ---- the whole log
-- The report of what is cut from a log, from its beginning on.
pub cut_report : (w : World) (replay : Replay) (log : Log) (cut : Cut) (shows : Bool)
    → replay.machine.state ≡ w.start → replay.events ≡ 0 → replay.shows ≡ shows
    → ((cut' : Cut) → left w log cut' ≡ form_of_cut w.form w cut')
    → report_from w replay (left w log cut) ≡ shown_report shows (replay_of w (form_of_cut w.form w cut))
cut_report w replay log cut shows state none is reads =
    let reading : Reading = form_of_cut w.form w cut in
    ap (λ (r : Reading). report_from w replay r) (reads cut)
    ∙ ap (λ (b : Bool). shown_report b (replayed w replay.machine.state replay.events reading.events reading.ending)) is
    ∙ ap (λ (s : State). shown_report shows (replayed w s replay.events reading.events reading.ending)) state
    ∙ ap (λ (n : ℕ). shown_report shows (replayed w w.start n reading.events reading.ending)) none

-- The report of what a log gives from its beginning on is that of its reading.
pub whole_report : (w : World) (replay : Replay) (log : Log) (cutter : Cutting) (name text : List ℕ) (shows : Bool)
    → replay.machine.state ≡ w.start → replay.events ≡ 0 → replay.shows ≡ shows
    → ((cut : Cut) → left w log cut ≡ form_of_cut w.form w cut)
    → cutter ≡ begun name (limit_number limit.Line) (limit_number limit.Log)
    → report_from w replay (left w log (left_of cutter text)) ≡ shown_report shows (replay_of w (log_reading w text))
whole_report w replay log cutter name text shows state none is reads first =
    ap (λ (c : Cutting). report_from w replay (left w log (left_of c text))) first
    ∙ cut_report w replay log (log_cut text) shows state none is reads

-- nothing was sent
pub none_is_sent : {T E : Type 0} (held : Option Files) (r : Result T E) (written : Option (List ℕ)) (whole : Files → List ℕ)
    → IfSome held (λ files. OnErr r (IsFront written written (whole files)))
none_is_sent held r written whole = always held (λ files. on_err r _ (whole files, all_waits written (whole files)))

-- a front of it was
pub front_is_sent : {T E : Type 0} (held : Option Files) (r : Result T E) (w : World) (from to : Replay) (old new : Outgoing) (why : Untold)
    (reading : Files → Reading) (report : Files → Report)
    → IfSome held (λ files. ComesTo w from to old new (Err why) (reading files))
    → ((files : Files) → report_from w from (reading files) ≡ report files)
    → IfSome held (λ files. OnErr r (IsFront old.written new.written (old.waits ++ text_of (report files).lines)))
front_is_sent held r w from to old new why reading report comes same =
    IfSome_then held comes (λ files cut. on_err r _
    (subst (λ (x : Report). IsFront old.written new.written (old.waits ++ text_of x.lines)) (same files) cut))
