-- Each number in the reading of a log of strace(1) is that of the line which tells the event or has the fault.
use Rattle.std.proofs.Common.{◌≡◌, ℕ, zero, suc, ◌+◌, Bool, true, false, not, List, [], ◌∷◌, ◌++◌, length, find}
use Rattle.std.proofs.Common.{Option, Some, None, refl, sym, ◌∙◌, subst, cond, append_assoc, length-append, arith, All}
use Rattle.std.proofs.lemmas.List.Elements.{All-nil, All-cons, All-head, All-tail, All-append}
use Rattle.std.specs.Prelude.{nat_lt, if◌then◌else◌}
use Rattle.cm_base.specs.declared.faults.LineFault.{LineFault}
use Rattle.cm_base.specs.declared.limited.Limited.TheVariants as limit
use Rattle.cm_base.specs.Limited.{limit_number}
use Rattle.model_cred.specs.World.{World}
use Rattle.model_strace.proofs.HeldLines.{next_found}
use Rattle.model_strace.specs.After.{After, Goes, Halts, preceded, and_then}
use Rattle.model_strace.specs.Body.{PidLine, Blank, NoPid, Of, row_of}
use Rattle.model_strace.specs.LineNumbers.{StandsFor, NumbersAreLines, told_by, row_told}
use Rattle.model_strace.specs.Lines.{Line, Read, Moment, Next, Progress, is_among, held, is_line_of, given_at, read_line}
use Rattle.model_strace.specs.Lines.{next_line, moment_after, then_rest, read_born, read_now, hold, arrives, line_read}
use Rattle.model_strace.specs.Lines.{row_read, rows_read, beginning, at_end, at_end_turn, ended, log_end, strace_reading}
use Rattle.model_strace.specs.Parts.{Parts, is_known, without_any_kept}
use Rattle.model_strace.specs.Turn.{Turn, Quiet, Gives, Refused, Exceeds, turn}
use Rattle.cm_lines.specs.Cut.{Cut}
use Rattle.cm_lines.specs.Lines.{lines_of}
use Rattle.cm_lines.specs.declared.limits.Past.{Past}
use Rattle.model_text.proofs.Fronts.{cuts_are_fronts}
use Rattle.model_text.specs.Fronts.{CutsAreFronts, IsFrontOf}
use Rattle.model_text.specs.Line as text
use Rattle.model_text.specs.Reading.{Placed, Stop, Fault, Limit, Stops, Reading, limit_past, log_cut}

-- Lines of a log, in a world.
module _ (w : World) (all : List (List ℕ)) where
  -- each of these events is told by the line of its number
  abbrev Told : List Placed → Type 0
  Told events = All (λ e. StandsFor w all e.line (text.Tells e.event)) events

  -- the line of that number has the fault that a stop tells
  abbrev StopStands : Stop → Type 0
  StopStands (Fault number why) = StandsFor w all number (text.Faulty why)
  StopStands (Limit l) = Unit {0}

  -- the events are told by their lines, and so is a fault; what is known then keeps this
  abbrev Stands : {S : Type 0} → (S → Type 0) → After S → Type 0
  Stands keeps (Goes events s) = Told events × keeps s
  Stands keeps (Halts events stop) = Told events × StopStands stop

  stands_preceded : {S : Type 0} (keeps : S → Type 0) (events : List Placed) (a : After S) → Told events → Stands keeps a
      → Stands keeps (preceded events a)
  stands_preceded keeps events (Goes later s) told is = (All-append (λ e. StandsFor w all e.line (text.Tells e.event)) events later told is.0, is.1)
  stands_preceded keeps events (Halts later stop) told is = (All-append (λ e. StandsFor w all e.line (text.Tells e.event)) events later told is.0, is.1)

  stands_then : {S T : Type 0} (keeps : S → Type 0) (then_keeps : T → Type 0) (a : After S) (next : S → After T) → Stands keeps a
      → ((s : S) → keeps s → Stands then_keeps (next s)) → Stands then_keeps (and_then a next)
  stands_then keeps then_keeps (Goes events s) next is later = stands_preceded then_keeps events (next s) is.0 (later s is.1)
  stands_then keeps then_keeps (Halts events stop) next is later = is

  -- ---- one line
  -- whatever is known, the line of that number tells what the line's turn then tells
  abbrev IsLine : Line → Type 0
  IsLine l = (p : Parts) → StandsFor w all l.number (told_by (turn w l.pid l.body p))

  given_stands : (number : ℕ) (t : Turn) → StandsFor w all number (told_by t) → Stands (λ (r : Read). Unit {0}) (given_at number t)
  given_stands number (Gives p e born) is = (
    All-cons (λ x. StandsFor w all x.line (text.Tells x.event))
        (record { line = number; event = e }) [] is (All-nil (λ x. StandsFor w all x.line (text.Tells x.event))),
    tt,
  )
  given_stands number (Refused why) is = (All-nil (λ e. StandsFor w all e.line (text.Tells e.event)), is)
  given_stands number _ is = (All-nil (λ e. StandsFor w all e.line (text.Tells e.event)), tt)

  line_stands : (l : Line) (p : Parts) → IsLine l → Stands (λ (r : Read). Unit {0}) (read_line w l p)
  line_stands l p is = given_stands l.number (turn w l.pid l.body p) (is p)

  -- ---- births
  -- a line that is found among lines is one of them
  found_is : (lines : List Line) (numbers : List ℕ) (pid : ℕ) (l : Line) → All IsLine lines → find (is_line_of pid) (held lines numbers) ≡ Some l → IsLine l
  found_is [] numbers pid l each found = absurd (cc)
  found_is (x ∷ lines) numbers pid l each found =
      let later : find (is_line_of pid) (held lines numbers) ≡ Some l → IsLine l = found_is lines numbers pid l (All-tail IsLine x lines each) in
      (elim (is_among x.number numbers) as (λ (b : Bool). find (is_line_of pid) (cond (not b)
      (x ∷ held lines numbers) (held lines numbers)) ≡ Some l → IsLine l) [
        | true ↦ later
        | false ↦ elim (is_line_of pid x) as (λ (b : Bool). cond b (Some x) (find (is_line_of pid) (held lines numbers)) ≡ Some l → IsLine l) [
          | true ↦ λ same. let this : x ≡ l = cc in subst IsLine this (All-head IsLine x lines each)
          | false ↦ later
        ]
      ]) found

  next_stands : (left : ℕ) (lines : List Line) (m : Moment) (x : Option Next) → ((n : Next) → x ≡ Some n → IsLine n.line)
      → ((pids : List ℕ) (m' : Moment) → Stands (λ (n : Moment). Unit {0}) (read_born w left lines pids m'))
      → Stands (λ (n : Moment). Unit {0}) (then_rest w x m (λ pids m'. read_born w left lines pids m'))
  next_stands left lines m None is later = (All-nil (λ e. StandsFor w all e.line (text.Tells e.event)), tt)
  next_stands left lines m (Some x) is later =
      stands_then (λ (r : Read). Unit {0}) (λ (n : Moment). Unit {0}) (read_line w x.line m.parts)
      (λ r. read_born w left lines (r.born ++ x.pids) (moment_after x.line r m)) (line_stands x.line m.parts (is x refl))
      (λ r _. later (r.born ++ x.pids) (moment_after x.line r m))

  born_stands : (left : ℕ) (lines : List Line) (pids : List ℕ) (m : Moment) → All IsLine lines
      → Stands (λ (n : Moment). Unit {0}) (read_born w left lines pids m)
  born_stands zero lines pids m each = (All-nil (λ e. StandsFor w all e.line (text.Tells e.event)), tt)
  born_stands (suc left) lines pids m each =
      next_stands left lines m (next_line m.parts (held lines m.read) pids)
      (λ n is. found_is lines m.read n.line.pid n.line each (next_found m.parts (held lines m.read) pids n is))
      (λ pids' m'. born_stands left lines pids' m' each)

  now_stands : (lines : List Line) (l : Line) (m : Moment) → IsLine l → All IsLine lines → Stands (λ (n : Moment). Unit {0}) (read_now w lines l m)
  now_stands lines l m is each =
      stands_then (λ (r : Read). Unit {0}) (λ (n : Moment). Unit {0}) (read_line w l m.parts)
      (λ r. read_born w (length (held lines (l.number ∷ m.read))) lines r.born (moment_after l r m)) (line_stands l m.parts is)
      (λ r _. born_stands (length (held lines (l.number ∷ m.read))) lines r.born (moment_after l r m) each)

  hold_stands : (lines : List Line) (m : Moment) → Stands (λ (n : Moment). Unit {0}) (hold lines m)
  hold_stands lines m =
      elim (nat_lt (limit_number limit.Held) (length (held lines m.read))) as (λ (b : Bool). Stands (λ (n : Moment). Unit {0})
      (if b then Halts [] (Limit limit.Held) else Goes [] m)) [
        | true ↦ (All-nil (λ e. StandsFor w all e.line (text.Tells e.event)), tt)
        | false ↦ (All-nil (λ e. StandsFor w all e.line (text.Tells e.event)), tt)
      ]

  arrives_stands : (lines : List Line) (l : Line) (m : Moment) → IsLine l → All IsLine lines → Stands (λ (n : Moment). Unit {0}) (arrives w lines l m)
  arrives_stands lines l m is each =
      elim (is_known l.pid m.parts) as (λ (b : Bool). Stands (λ (n : Moment). Unit {0}) (if b then read_now w lines l m else hold lines m)) [
        | true ↦ now_stands lines l m is each
        | false ↦ hold_stands lines m
      ]

  -- ---- the log
  -- what came so far are lines of the log
  abbrev AreLines : Progress → Type 0
  AreLines at = All IsLine at.lines

  read_stands : (lines : List Line) (l : Line) (m : Moment) → IsLine l → All IsLine lines → Stands AreLines (line_read w lines l m)
  read_stands lines l m is each =
      let with_l : All IsLine (lines ++ l ∷ []) = All-append IsLine lines (l ∷ []) each (All-cons IsLine l [] is (All-nil IsLine)) in
      stands_then (λ (n : Moment). Unit {0}) AreLines (arrives w (lines ++ l ∷ []) l m) (λ n. Goes [] (record { lines = lines ++ l ∷ []; now = n }))
      (arrives_stands (lines ++ l ∷ []) l m is with_l) (λ n _. (All-nil (λ e. StandsFor w all e.line (text.Tells e.event)), with_l))

  -- whatever is known, the line of that number tells what its row then tells
  abbrev IsRow : ℕ → PidLine → Type 0
  IsRow number row = (p : Parts) → StandsFor w all number (row_told w p row)

  row_stands : (number : ℕ) (row : PidLine) (at : Progress) → IsRow number row → AreLines at → Stands AreLines (row_read w number row at)
  row_stands number Blank at is each = (All-nil (λ e. StandsFor w all e.line (text.Tells e.event)), each)
  row_stands number NoPid at is each = (All-nil (λ e. StandsFor w all e.line (text.Tells e.event)), is at.now.parts)
  row_stands number (Of pid body) at is each = read_stands at.lines (record { number = number; pid = pid; body = body }) at.now is each

  -- the line that comes after these is that of the next number
  row_here : (before : List (List ℕ)) (line : List ℕ) (later : List (List ℕ)) (number : ℕ) → all ≡ before ++ line ∷ later → number ≡ 1 + length before
      → IsRow number (row_of line)
  row_here before line later number cut place p =
      record { before = before; line = line; later = later; cut = cut; place = place; known = p; means = refl }

  -- these lines come, and others may stand after them
  rows_stand : (before lines others : List (List ℕ)) (number : ℕ) (at : Progress) → all ≡ before ++ (lines ++ others) → number ≡ 1 + length before
      → AreLines at → Stands AreLines (rows_read w number lines at)
  rows_stand before [] others number at cut place each = (All-nil (λ e. StandsFor w all e.line (text.Tells e.event)), each)
  rows_stand before (line ∷ lines) others number at cut place each =
      let next : all ≡ (before ++ line ∷ []) ++ (lines ++ others) = cut ∙ sym (append_assoc before (line ∷ []) (lines ++ others)) in
      let longer : length (before ++ line ∷ []) ≡ length before + 1 = length-append before (line ∷ []) in
      stands_then AreLines AreLines (row_read w number (row_of line) at) (λ at'. rows_read w (number + 1) lines at')
      (row_stands number (row_of line) at (row_here before line (lines ++ others) number cut place) each)
      (λ at' each'. rows_stand (before ++ line ∷ []) lines others (number + 1) at' next (omega (arith, place, longer)) each')

  -- ---- the log's end
  -- the events are told by their lines, and so is a fault at the end
  abbrev ReadingStands : Reading → Type 0
  ReadingStands reading = Told reading.events × ((number : ℕ) (why : LineFault)
      → reading.ending ≡ Stops (Fault number why) → StandsFor w all number (text.Faulty why))

  stop_stands : (stop : Stop) → StopStands stop → (number : ℕ) (why : LineFault)
      → Stops stop ≡ Stops (Fault number why) → StandsFor w all number (text.Faulty why)
  stop_stands (Fault n y) is number why same =
      let numbers : n ≡ number = cc in
      let faults : y ≡ why = cc in
      subst (λ (k : ℕ). StandsFor w all k (text.Faulty why)) numbers (subst (λ (f : LineFault). StandsFor w all n (text.Faulty f)) faults is)
  stop_stands (Limit l) is number why same = absurd (cc)

  end_turn_stands : (number : ℕ) (t : Turn) (later : Parts → Reading) → StandsFor w all number (told_by t) → ((p : Parts) → ReadingStands (later p))
      → ReadingStands (at_end_turn number t later)
  end_turn_stands number (Quiet p) later is rest = rest p
  end_turn_stands number (Gives p e born) later is rest = (
    All-cons (λ x. StandsFor w all x.line (text.Tells x.event))
        (record { line = number; event = e }) [] is (All-nil (λ x. StandsFor w all x.line (text.Tells x.event))),
    λ n why same. absurd (cc),
  )
  end_turn_stands number (Refused why) later is rest = (All-nil (λ e. StandsFor w all e.line (text.Tells e.event)), stop_stands (Fault number why) is)
  end_turn_stands number (Exceeds l) later is rest = (All-nil (λ e. StandsFor w all e.line (text.Tells e.event)), stop_stands (Limit l) tt)

  end_stands : (lines : List Line) (p : Parts) → All IsLine lines → ReadingStands (at_end w lines p)
  end_stands [] p each = (All-nil (λ e. StandsFor w all e.line (text.Tells e.event)), λ number why same. absurd (cc))
  end_stands (l ∷ lines) p each =
      end_turn_stands l.number (turn w l.pid l.body p) (λ p'. at_end w lines p') (All-head IsLine l lines each p)
      (λ p'. end_stands lines p' (All-tail IsLine l lines each))

  -- held lines are lines
  held_are : (lines : List Line) (numbers : List ℕ) → All IsLine lines → All IsLine (held lines numbers)
  held_are [] numbers each = All-nil IsLine
  held_are (l ∷ lines) numbers each =
      let later : All IsLine (held lines numbers) = held_are lines numbers (All-tail IsLine l lines each) in
      elim (is_among l.number numbers) as (λ (b : Bool). All IsLine (cond (not b) (l ∷ held lines numbers) (held lines numbers))) [
        | true ↦ later
        | false ↦ All-cons IsLine l (held lines numbers) (All-head IsLine l lines each) later
      ]

  log_end_stands : (stop : Option Past) (at : Progress) → AreLines at → ReadingStands (log_end w stop at)
  log_end_stands None at are =
      end_stands (held at.lines at.now.read) (without_any_kept at.now.parts) (held_are at.lines at.now.read are)
  log_end_stands (Some past) at are =
      (All-nil (λ e. StandsFor w all e.line (text.Tells e.event)), stop_stands (Limit (limit_past past)) tt)

  log_stands : (stop : Option Past) (a : After Progress) → Stands AreLines a → ReadingStands (ended (log_end w stop) a)
  log_stands stop (Goes events at) is =
      let end : ReadingStands (log_end w stop at) = log_end_stands stop at is.1 in
      (All-append (λ e. StandsFor w all e.line (text.Tells e.event)) events (log_end w stop at).events is.0 end.0, end.1)
  log_stands stop (Halts events other) is = (is.0, stop_stands other is.1)

pub numbers_are_lines : NumbersAreLines
unfolding NumbersAreLines CutsAreFronts
numbers_are_lines w text =
    let cut : Cut = log_cut text in
    let f : IsFrontOf (limit_number limit.Line) (limit_number limit.Log) text cut =
    cuts_are_fronts (limit_number limit.Line) (limit_number limit.Log) text in
    let is : ReadingStands w (lines_of text) (strace_reading w text) =
    log_stands w (lines_of text) cut.stop (rows_read w 1 cut.lines (beginning w))
    (rows_stand w (lines_of text) [] cut.lines f.later 1 (beginning w) f.front refl (All-nil (IsLine w (lines_of text)))) in
    record { events = is.0; fault = is.1 }
