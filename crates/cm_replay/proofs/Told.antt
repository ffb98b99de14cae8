-- That what is told of the whole lines of a log is sent before more of it is read.
use Rattle.std.proofs.Common.{◌≡◌, ◌≤◌, ◌<◌, ℕ, ◌+◌, List, [], ◌∷◌, ◌++◌, length, take, drop, Bool, false, refl, sym}
use Rattle.std.proofs.Common.{ap, subst, ◌∙◌, append-nil, arith, Option, None, Some, Ok, IfSome}
use Rattle.cm_io.proofs.WholeLines.{LinesTo, lines_more, lines_seen, more_lines, next_given}
use Rattle.cm_io.proofs.Written.{then_written_twice}
use Rattle.cm_io.specs.Cutter.{Cutting, begun, next_of, read_to}
use Rattle.cm_io.specs.Shelf.{Files, bytes_at}
use Rattle.cm_io.specs.Sink.{then_written}
use Rattle.cm_io.specs.WholeLines.{after_lines, whole_lines}
use Rattle.cm_lines.specs.Cut.{Cut, before, ends_by}
use Rattle.cm_lines.specs.Lines.{line_len, line_size}
use Rattle.cm_lines.specs.declared.limits.Past.TheVariants.{Line}
use Rattle.cm_log.specs.Left.{left, lines_left}
use Rattle.cm_log.specs.declared.log.Log.{Log}
use Rattle.cm_log.specs.declared.log.Log.TheVariants.{Script, Strace}
use Rattle.cm_replay.proofs.Pieces.{goes_sent}
use Rattle.cm_replay.proofs.Standing.{goes_then, stays}
use Rattle.cm_replay.specs.Following.{GoesOn, Outgoing}
use Rattle.cm_replay.specs.Replay.{report_from}
use Rattle.cm_replay.specs.Shown.{shown_report}
use Rattle.cm_replay.specs.Told.{IsBeforeEnd, TellsTaken, report_of_lines}
use Rattle.cm_replay.specs.declared.replay.Replay.{Replay}
use Rattle.cm_report.specs.Sent.{IsSent}
use Rattle.cm_strace.specs.declared.stage.Stage.{Stage}
use Rattle.cm_strace.specs.declared.stage.Stage.TheVariants as stage
use Rattle.model_cred.specs.World.{World}
use Rattle.model_report.specs.Replay.{Report, by_end, replayed, text_of}
use Rattle.model_strace.specs.Rest.{Going, Session, rest}
use Rattle.model_text.specs.Reading.{Placed, Reading}

-- ---- a replay between two lines
-- all that waited was sent
pub sent_first : (old new : Option (List ℕ)) (waits text : List ℕ) → IsSent old new waits text → waits ≡ [] → new ≡ then_written old text
sent_first old new waits text sent none =
    let all : text ≡ sent.front = sent.parts ∙ ap (λ (t : List ℕ). sent.front ++ t) none ∙ append-nil sent.front in
    sent.written ∙ ap (then_written old) (sym all)

-- How far a replay has gone since it began: past these lines, which are those of the file up to the cutter's place.
pub record PastLines (held : Option Files) (w : World) (name : List ℕ) (first : Replay) (begun_ : Outgoing) (log0 : Log)
    (replay : Replay) (now : Outgoing) (log : Log) (cutter : Cutting) : Type 0 where
  pub lines : List (List ℕ)
  pub goes : (cut : Cut) → GoesOn w first replay begun_ now (left w log0 (after_lines lines cut)) (left w log cut)
  pub whole : cutter.ended ≡ false → IfSome held (λ files. LinesTo (bytes_at files name) cutter.place lines)

module _ (held : Option Files) (w : World) (name : List ℕ) (first : Replay) (written : Option (List ℕ)) (log0 : Log) where
  abbrev pub GonePast : Replay → Outgoing → Log → Cutting → Type 0
  GonePast replay now log cutter = PastLines held w name first (record { written = written; waits = [] }) log0 replay now log cutter

  -- at first
  pub past_none : (waits n : List ℕ) (l m : ℕ) (cutter : Cutting) → waits ≡ [] → cutter ≡ begun n l m
      → GonePast first (record { written = written; waits = waits }) log0 cutter
  past_none waits n l m cutter none begins =
      subst (λ (t : List ℕ). GonePast first (record { written = written; waits = t }) log0 cutter) (sym none) (record {
        lines = [];
        goes = λ cut. stays w first (record { written = written; waits = [] }) _ _ refl;
        whole = λ _. none_yet held;
      })
    where
      none_yet : (h : Option Files) → IfSome h (λ files. LinesTo (bytes_at files name) cutter.place [])
      none_yet None = tt
      none_yet (Some files) = subst (λ (c : Cutting). LinesTo (bytes_at files name) c.place []) (sym begins) (λ rest. refl)

  -- a line more
  pub past_line : (mid to : Replay) (now next : Outgoing) (log log' : Log) (old new : Cutting) (line : List ℕ) (h : Option Files)
      → GonePast mid now log old → old.ended ≡ false → h ≡ held → old.name ≡ name
      → IfSome h (λ files. next_of old (bytes_at files old.name) ≡ Ok (Some line))
      → IfSome h (λ files. new.place ≡ old.place + line_size (drop old.place (bytes_at files old.name)))
      → (new.ended ≡ false → old.place + length line < new.place)
      → ((cut : Cut) → GoesOn w mid to now next (left w log (before line cut)) (left w log' cut))
      → GonePast to next log' new
  past_line mid to now next log log' old new line h gone open_ same named next_is place_is lf goes = record {
    lines = gone.lines ++ line ∷ [];
    goes = λ cut. goes_then
        (subst (λ (c : Cut). GoesOn w first mid (record { written = written; waits = [] }) now (left w log0 c) (left w log (before line cut)))
        (sym (more_lines gone.lines line cut)) (gone.goes (before line cut))) (goes cut);
    whole = λ is. by held (gone.whole open_) (subst (λ (x : Option Files). IfSome x (λ files. next_of old (bytes_at files name) ≡ Ok (Some line))) same
        (subst (λ (n : List ℕ). IfSome h (λ files. next_of old (bytes_at files n) ≡ Ok (Some line))) named next_is))
        (subst (λ (x : Option Files). IfSome x (λ files. new.place ≡ old.place + line_size (drop old.place (bytes_at files name)))) same
        (subst (λ (n : List ℕ). IfSome h (λ files. new.place ≡ old.place + line_size (drop old.place (bytes_at files n)))) named place_is))
        (lf is);
  }
    where
      by : (x : Option Files) → IfSome x (λ files. LinesTo (bytes_at files name) old.place gone.lines)
          → IfSome x (λ files. next_of old (bytes_at files name) ≡ Ok (Some line))
          → IfSome x (λ files. new.place ≡ old.place + line_size (drop old.place (bytes_at files name)))
          → old.place + length line < new.place → IfSome x (λ files. LinesTo (bytes_at files name) new.place (gone.lines ++ line ∷ []))
      by None a b c d = tt
      by (Some files) a b c d =
          let text = bytes_at files name in
          let more = line_size (drop old.place text) in
          subst (λ (p : ℕ). LinesTo text p (gone.lines ++ line ∷ [])) (sym c)
          (lines_more text line old.place more gone.lines a refl
          (next_given old.line old.whole old.place (drop old.place text) line b) (omega (arith, c, d)))

  -- what waits was sent
  pub past_sent : (replay : Replay) (now : Outgoing) (log : Log) (cutter : Cutting) (written' : Option (List ℕ)) (waits : List ℕ)
      → GonePast replay now log cutter → IsSent now.written written' waits now.waits
      → GonePast replay (record { written = written'; waits = waits }) log cutter
  past_sent replay now log cutter written' waits gone sent =
      record { lines = gone.lines; goes = λ cut. goes_sent written' waits (gone.goes cut) sent; whole = gone.whole }

-- ---- what is told when a read fails
-- a line that is too long tells no event
none_too_long : (w : World) (log : Log) → (left w log (ends_by (Some Line))).events ≡ []
none_too_long w (Script log) = by log.stage (log.lines + 1)
  where
    by : (s : Stage) (n : ℕ) → (lines_left w s n (ends_by (Some Line))).events ≡ []
    by stage.Going n = refl
    by _ n = refl
none_too_long w (Strace log) = by log.tracer
  where
    by : (session : Session) → (rest w session (ends_by (Some Line))).events ≡ []
    by (Going t) = refl
    by _ = refl

-- so its report is the line that ends it
only_end : (w : World) (replay : Replay) (reading : Reading) (shows : Bool) → reading.events ≡ [] → replay.shows ≡ shows
    → report_from w replay reading ≡ shown_report shows (by_end replay.events reading.ending)
only_end w replay reading shows none is =
    ap (λ (b : Bool). shown_report b (replayed w replay.machine.state replay.events reading.events reading.ending)) is
    ∙ ap (λ (es : List Placed). shown_report shows (replayed w replay.machine.state replay.events es reading.ending)) none

-- the bytes that were taken before a read failed are of the line at the cutter's place, in this text
abbrev pub BreaksAt : Cutting → (taken taken' : List ℕ → ℕ) → List ℕ → Type 0
BreaksAt c taken taken' text = taken' c.name + length c.kept ≤ taken c.name + line_len (drop c.place text)

pub tells_taken : (held h : Option Files) (w : World) (name : List ℕ) (first replay : Replay) (written0 written : Option (List ℕ)) (log0 log : Log)
    (now : Outgoing) (cutter : Cutting) (text0 : List ℕ) (taken0 taken taken' : List ℕ → ℕ)
    → GonePast held w name first written log0 replay now log cutter
    → now.waits ≡ [] → cutter.ended ≡ false → h ≡ held → cutter.name ≡ name
    → written ≡ then_written written0 text0
    → taken name ≤ taken0 name + read_to cutter
    → IfSome h (λ files. BreaksAt cutter taken taken' (bytes_at files cutter.name))
    → IfSome held (λ files. TellsTaken first.shows (report_of_lines w first log0) (bytes_at files name) (taken0 name) (taken' name) text0 written0
    now.written)
tells_taken held h w name first replay written0 written log0 log now cutter text0 taken0 taken taken' gone sent_all
    open_ same named begun_ few breaks =
    by held (gone.whole open_) (subst (λ (x : Option Files). IfSome x (λ files. BreaksAt cutter taken taken' (bytes_at files cutter.name))) same breaks)
  where
    by : (x : Option Files) → IfSome x (λ files. LinesTo (bytes_at files name) cutter.place gone.lines)
        → IfSome x (λ files. BreaksAt cutter taken taken' (bytes_at files cutter.name))
        → IfSome x (λ files. TellsTaken first.shows (report_of_lines w first log0) (bytes_at files name) (taken0 name) (taken' name) text0 written0
        now.written)
    by None a b = tt
    by (Some files) a b =
        let text = bytes_at files name in
        let seen = cutter.place + line_len (drop cutter.place text) in
        let goes = gone.goes (ends_by (Some Line)) in
        let end_ = left w log (ends_by (Some Line)) in
        let within : taken' name + length cutter.kept ≤ taken name + line_len (drop cutter.place text) =
        subst (λ (n : List ℕ). taken' n + length cutter.kept ≤ taken n + line_len (drop cutter.place (bytes_at files n))) named b in
        let end_is : report_from w replay end_ ≡ shown_report first.shows (by_end replay.events end_.ending) =
        only_end w replay end_ first.shows (none_too_long w log) goes.shows in
        record {
          seen = seen;
          all = omega (arith, within, few);
          text = goes.sent.front;
          tells = record {
            count = replay.events;
            ending = end_.ending;
            parts = ap (λ (ls : List (List ℕ)). text_of (report_of_lines w first log0 ls).lines) (lines_seen text cutter.place gone.lines a)
                ∙ goes.sent.parts
                ∙ ap (λ (t : List ℕ). goes.sent.front ++ (t ++ text_of (report_from w replay end_).lines)) sent_all
                ∙ ap (λ (r : Report). goes.sent.front ++ text_of r.lines) end_is;
          };
          holds = goes.sent.written ∙ ap (λ (t : Option (List ℕ)). then_written t goes.sent.front) begun_
              ∙ then_written_twice written0 text0 goes.sent.front;
        }

-- From the beginning of a log it is the report of its lines.
pub from_start : (held : Option Files) (shows b : Bool) (of_lines of_lines' : List (List ℕ) → Report) (name : List ℕ) (taken0 taken' : ℕ) (text0 : List ℕ)
    (written written' : Option (List ℕ)) → b ≡ shows → ((lines : List (List ℕ)) → of_lines lines ≡ of_lines' lines)
    → IfSome held (λ files. TellsTaken b of_lines (bytes_at files name) taken0 taken' text0 written written')
    → IfSome held (λ files. TellsTaken shows of_lines' (bytes_at files name) taken0 taken' text0 written written')
from_start None shows b of_lines of_lines' name taken0 taken' text0 written written' is same tells = tt
from_start (Some files) shows b of_lines of_lines' name taken0 taken' text0 written written' is same tells =
    subst (λ (s : Bool). TellsTaken s of_lines' (bytes_at files name) taken0 taken' text0 written written') is (record {
      seen = tells.seen;
      all = tells.all;
      text = tells.text;
      tells = subst (λ (r : Report). IsBeforeEnd b tells.text r) (same (whole_lines (take tells.seen (bytes_at files name)))) tells.tells;
      holds = tells.holds;
    })
