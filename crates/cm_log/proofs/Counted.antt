-- What a log counts after a line, or where no line comes any more.
use Rattle.std.proofs.Common.{◌≡◌, ◌≤◌, ◌∙◌, ℕ, ◌+◌, List, [], None, length, refl, ap, subst, sym, arith}
use Rattle.std.specs.Prelude.{Result, Ok, Err}
use Rattle.cm_base.specs.Limited.{limit_number}
use Rattle.cm_base.specs.Outcome.{OrNoMemory}
use Rattle.cm_base.specs.declared.limited.Limited.TheVariants as limit
use Rattle.cm_lines.specs.Cut.{ends_by}
use Rattle.cm_lines.specs.declared.limits.Past.{Past}
use Rattle.cm_log.specs.Counts.{Counts, SessionWithin}
use Rattle.cm_log.specs.declared.log.Log.TheVariants.{Script, Strace}
use Rattle.cm_log.specs.declared.script.ScriptLog.{ScriptLog}
use Rattle.cm_log.specs.declared.strace.StraceLog.{StraceLog}
use Rattle.cm_strace.specs.Answers.{reading_is}
use Rattle.cm_strace.specs.Stages.{cut_off}
use Rattle.cm_strace.specs.declared.stage.Stage.{Stage}
use Rattle.model_cred.specs.Made.{spaces_made}
use Rattle.model_cred.specs.World.{World}
use Rattle.model_strace.proofs.Counts.{ends_are_not_counted, events_of_end, events_of_line, held_is_limited, lines_are_counted}
use Rattle.model_strace.proofs.KnownSpaces.{spaces_by_events}
use Rattle.model_strace.specs.Counts.{EndsAreNotCounted, EventsOfEnd, EventsOfLine, HeldIsLimited, LinesAreCounted, SpacesByEvents}
use Rattle.model_strace.specs.Counts.{held_count, spaces_known}
use Rattle.model_strace.specs.Rest.{Session, Going, Stopped, Finished, after_finish, after_line, line_answer, lines_fed, rest, session_ended, work_end}
use Rattle.model_text.specs.Reading.{Placed, End, AtEnd, Stops, Reading, events_of}

-- ---- logs of strace
-- after a line
pub counted_line : (w : World) (old new : StraceLog) (line : List ℕ) → new.tracer ≡ after_line w old.tracer line
    → new.events.items ≡ (line_answer w old.tracer line).events → Counts 1 new.events.items (Strace old) (Strace new)
unfolding LinesAreCounted EventsOfLine HeldIsLimited SpacesByEvents
counted_line w old new line after told =
    let lines : lines_fed (after_line w old.tracer line) ≤ lines_fed old.tracer + 1 = lines_are_counted w old.tracer line in
    let few : length (line_answer w old.tracer line).events + held_count (after_line w old.tracer line) ≤ held_count old.tracer + 1 =
    events_of_line w old.tracer line in
    let made : spaces_known (after_line w old.tracer line) ≤ spaces_known old.tracer + spaces_made (events_of (line_answer w old.tracer line).events) =
    spaces_by_events w old.tracer line in
    let same : length new.events.items ≡ length (line_answer w old.tracer line).events = ap length told in
    let spaces : spaces_made (events_of new.events.items)
    ≡ spaces_made (events_of (line_answer w old.tracer line).events) =
    ap (λ (es : List Placed). spaces_made (events_of es)) told in
    let held' : held_count new.tracer ≡ held_count (after_line w old.tracer line) = ap held_count after in
    let known' : spaces_known new.tracer ≡ spaces_known (after_line w old.tracer line) = ap spaces_known after in
    let lines' : lines_fed new.tracer ≡ lines_fed (after_line w old.tracer line) = ap lines_fed after in
    record {
      lines = omega (arith, lines, lines');
      due = omega (arith, few, same, held');
      knows = λ n within.
          let before : spaces_known old.tracer ≤ n = within.spaces in
          let all : SessionWithin (n + spaces_made (events_of new.events.items)) new.tracer = record {
            spaces = omega (arith, made, spaces, known', before);
            held = subst (λ (s : Session). held_count s ≤ limit_number limit.Held) (sym after) (held_is_limited w old.tracer line within.held);
          } in
          all;
    }

-- after a line that there was memory for
pub counted_line_if : {E : Type 0} (w : World) (r : Result Stage E) (old new : StraceLog) (line : List ℕ)
    → OrNoMemory r (λ _. new.tracer ≡ after_line w old.tracer line)
    → OrNoMemory r (λ at. reading_is new.events.items at ≡ line_answer w old.tracer line)
    → OrNoMemory r (λ _. Counts 1 new.events.items (Strace old) (Strace new))
counted_line_if w (Ok at) old new line after told = counted_line w old new line after (ap (λ (r : Reading). r.events) told)
counted_line_if w (Err e) old new line after told = tt

-- what a session counts that goes on no more
ended_holds_none : (count : ℕ) (ending : End) → held_count (session_ended count ending) ≡ 0
ended_holds_none count AtEnd = refl
ended_holds_none count (Stops stop) = refl

finished_holds_none : (w : World) (session : Session) → held_count (after_finish w session) ≡ 0
finished_holds_none w (Going t) = ended_holds_none t.count (work_end w t).ending
finished_holds_none w (Stopped count stop) = refl
finished_holds_none w (Finished count) = refl

ended_knows_none : (count : ℕ) (ending : End) → spaces_known (session_ended count ending) ≡ 0
ended_knows_none count AtEnd = refl
ended_knows_none count (Stops stop) = refl

finished_knows_none : (w : World) (session : Session) → spaces_known (after_finish w session) ≡ 0
finished_knows_none w (Going t) = ended_knows_none t.count (work_end w t).ending
finished_knows_none w (Stopped count stop) = refl
finished_knows_none w (Finished count) = refl

cut_off_holds_none : (past : Past) (session : Session) → held_count (cut_off past session) ≡ 0
cut_off_holds_none past (Going t) = refl
cut_off_holds_none past (Stopped count stop) = refl
cut_off_holds_none past (Finished count) = refl

cut_off_knows_none : (past : Past) (session : Session) → spaces_known (cut_off past session) ≡ 0
cut_off_knows_none past (Going t) = refl
cut_off_knows_none past (Stopped count stop) = refl
cut_off_knows_none past (Finished count) = refl

cut_off_counts_none : (past : Past) (session : Session) → lines_fed (cut_off past session) ≡ lines_fed session
cut_off_counts_none past (Going t) = refl
cut_off_counts_none past (Stopped count stop) = refl
cut_off_counts_none past (Finished count) = refl

-- so it counts, where no more events were told than lines were held
counted_over : (old new : StraceLog) → held_count new.tracer ≡ 0 → spaces_known new.tracer ≡ 0 → lines_fed new.tracer ≡ lines_fed old.tracer
    → length new.events.items ≤ held_count old.tracer → Counts 0 new.events.items (Strace old) (Strace new)
counted_over old new held known lines few = record {
  lines = omega (arith, lines);
  due = omega (arith, held, few);
  knows = λ n within.
      let all : SessionWithin (n + spaces_made (events_of new.events.items)) new.tracer =
      record { spaces = omega (arith, known); held = omega (arith, held) } in
      all;
}

-- after the log's end
pub counted_end : (w : World) (old new : StraceLog) → new.tracer ≡ after_finish w old.tracer
    → new.events.items ≡ (rest w old.tracer (ends_by None)).events → Counts 0 new.events.items (Strace old) (Strace new)
unfolding EndsAreNotCounted EventsOfEnd
counted_end w old new after told =
    let few : length (rest w old.tracer (ends_by None)).events ≤ held_count old.tracer = events_of_end w old.tracer in
    let same : length new.events.items ≡ length (rest w old.tracer (ends_by None)).events = ap length told in
    counted_over old new (ap held_count after ∙ finished_holds_none w old.tracer) (ap spaces_known after ∙ finished_knows_none w old.tracer)
    (ap lines_fed after ∙ ends_are_not_counted w old.tracer) (omega (arith, few, same))

-- after an end that there was memory for
pub counted_end_if : {E : Type 0} (w : World) (r : Result Stage E) (old new : StraceLog)
    → OrNoMemory r (λ _. new.tracer ≡ after_finish w old.tracer)
    → OrNoMemory r (λ at. reading_is new.events.items at ≡ rest w old.tracer (ends_by None))
    → OrNoMemory r (λ _. Counts 0 new.events.items (Strace old) (Strace new))
counted_end_if w (Ok at) old new after told = counted_end w old new after (ap (λ (r : Reading). r.events) told)
counted_end_if w (Err e) old new after told = tt

-- where the session was cut off
pub counted_cut_off : (past : Past) (old new : StraceLog) → new.events.items ≡ [] → new.tracer ≡ cut_off past old.tracer
    → Counts 0 new.events.items (Strace old) (Strace new)
counted_cut_off past old new none after =
    let few : length new.events.items ≡ 0 = ap (λ (es : List Placed). length es) none in
    counted_over old new (ap held_count after ∙ cut_off_holds_none past old.tracer) (ap spaces_known after ∙ cut_off_knows_none past old.tracer)
    (ap lines_fed after ∙ cut_off_counts_none past old.tracer) (omega (arith, few))

-- ---- scripts
-- a script counts its lines alone, and tells one event of each at most
pub counted_script : (more : ℕ) (events : List Placed) (old new : ScriptLog) → new.lines ≤ old.lines + more
    → length events ≤ more
    → Counts more events (Script old) (Script new)
counted_script more events old new lines few = record {
  lines = lines;
  due = omega (arith, few);
  knows = λ n within. tt;
}

-- after a line
pub counted_read : {T E : Type 0} (r : Result T E) (old new : ScriptLog) → OrNoMemory r (λ _. new.lines ≤ old.lines + 1)
    → OrNoMemory r (λ _. length new.events.items ≤ 1)
    → OrNoMemory r (λ _. Counts 1 new.events.items (Script old) (Script new))
counted_read (Ok x) old new lines few = counted_script 1 new.events.items old new lines few
counted_read (Err e) old new lines few = tt
