-- Each number of a script log's reading is that of its line, and no event is left out.
use Rattle.std.proofs.Common.{◌≡◌, ◌≤◌, inl, inr, ℕ, ◌+◌, List, [], ◌∷◌, Option, Some, None, refl, sym, ◌∙◌, ap, arith, All}
use Rattle.std.proofs.lemmas.List.Elements.{All-nil, All-cons, All-weaker}
use Rattle.std.specs.List.{cons_option}
use Rattle.cm_base.specs.declared.limited.Limited.{Limited}
use Rattle.model_cred.specs.Call.{Event}
use Rattle.model_cred.specs.World.{World}
use Rattle.cm_lines.specs.Cut.{Cut, before}
use Rattle.cm_lines.specs.declared.limits.Past.{Past}
use Rattle.model_text.specs.Line.{Line, NoEvent, Tells, Faulty, Exceeds, script_line}
use Rattle.model_text.specs.Numbers.{StandsFor, Ascend, IsWhole, AreTold, BreaksAt, IsCutShort, told_event, told_events, ReadsLines, NumbersAreLines}
use Rattle.model_text.specs.Reading.{Placed, Reading, from_line, lines_reading, cut_ending, ends_at}

-- the first line itself
abbrev here : (w : World) (from : ℕ) (line : List ℕ) (lines : List (List ℕ)) (meaning : Line)
    → script_line w line ≡ meaning → StandsFor w from (line ∷ lines) from meaning
here w from line lines meaning is = record { before = []; line = line; later = lines; cut = refl; place = omega arith; means = is }

-- a line after the first one
abbrev later : (w : World) (from : ℕ) (line : List ℕ) (lines : List (List ℕ)) (number : ℕ) (meaning : Line)
    → StandsFor w (from + 1) lines number meaning → StandsFor w from (line ∷ lines) number meaning
later w from line lines number meaning stands = record {
  before = line ∷ stands.before;
  line = stands.line;
  later = stands.later;
  cut = ap (λ (ls : List (List ℕ)). line ∷ ls) stands.cut;
  place = omega (arith, stands.place);
  means = stands.means;
}

-- numbers that ascend from the next one on do so from this one on
from_before : (from : ℕ) (events : List Placed) → Ascend (from + 1) events → Ascend from events
from_before from [] up = tt
from_before from (e ∷ events) up = (let next : from + 1 ≤ e.line = up.0 in omega (arith, next), up.1)

-- the events of lines with one line more in front, which tells none or one
told_past_none : (w : World) (line : List ℕ) (lines : List (List ℕ)) (events : List Placed) → script_line w line ≡ NoEvent
    → AreTold w lines events → AreTold w (line ∷ lines) events
told_past_none w line lines events is all = record {
  whole = All-cons (IsWhole w) line lines (inl is) all.whole;
  told = all.told ∙ sym (ap (λ (l : Line). cons_option (told_event l) (told_events w lines)) is);
}

told_past_one : (w : World) (number : ℕ) (line : List ℕ) (lines : List (List ℕ)) (e : Event) (events : List Placed)
    → script_line w line ≡ Tells e → AreTold w lines events
    → AreTold w (line ∷ lines) (record { line = number; event = e } ∷ events)
told_past_one w number line lines e events is all = record {
  whole = All-cons (IsWhole w) line lines (inr (e, is)) all.whole;
  told =
      ap (λ (es : List Event). e ∷ es) all.told
      ∙ sym (ap (λ (l : Line). cons_option (told_event l) (told_events w lines)) is);
}

breaks_past_none : (w : World) (from : ℕ) (line : List ℕ) (lines : List (List ℕ))
    (events : List Placed) (number : ℕ) (meaning : Line) → script_line w line ≡ NoEvent
    → BreaksAt w (from + 1) lines events number meaning → BreaksAt w from (line ∷ lines) events number meaning
breaks_past_none w from line lines events number meaning is breaks = record {
  stands = later w from line lines number meaning breaks.stands;
  before = told_past_none w line breaks.stands.before events is breaks.before;
}

breaks_past_one : (w : World) (from : ℕ) (line : List ℕ) (lines : List (List ℕ)) (e : Event) (events : List Placed) (number : ℕ) (meaning : Line)
    → script_line w line ≡ Tells e
    → BreaksAt w (from + 1) lines events number meaning → BreaksAt w from (line ∷ lines) (record { line = from; event = e } ∷ events) number meaning
breaks_past_one w from line lines e events number meaning is breaks = record {
  stands = later w from line lines number meaning breaks.stands;
  before = told_past_one w from line breaks.stands.before e events is breaks.before;
}

breaks_here : (w : World) (from : ℕ) (line : List ℕ) (lines : List (List ℕ)) (meaning : Line)
    → script_line w line ≡ meaning → BreaksAt w from (line ∷ lines) [] from meaning
breaks_here w from line lines meaning is = record {
  stands = here w from line lines meaning is;
  before = record { whole = All-nil (IsWhole w); told = refl };
}

-- each event that later lines tell is told by its line
told_later : (w : World) (from : ℕ) (line : List ℕ) (lines : List (List ℕ)) (events : List Placed)
    → All (λ e. StandsFor w (from + 1) lines e.line (Tells e.event)) events
    → All (λ e. StandsFor w from (line ∷ lines) e.line (Tells e.event)) events
told_later w from line lines events all =
    All-weaker (λ e. StandsFor w (from + 1) lines e.line (Tells e.event)) (λ e. StandsFor w from (line ∷ lines) e.line (Tells e.event))
    (λ e stands. later w from line lines e.line (Tells e.event) stands) events all

-- what comes is cut short after a line more
short_past_none : (w : World) (line : List ℕ) (cut : Cut) (events : List Placed) (l : Limited) → script_line w line ≡ NoEvent
    → IsCutShort w cut events l → IsCutShort w (before line cut) events l
short_past_none w line cut events l is short = record {
  past = short.past;
  stop = short.stop;
  is = short.is;
  told = told_past_none w line cut.lines events is short.told;
}

short_past_one : (w : World) (number : ℕ) (line : List ℕ) (cut : Cut) (e : Event) (events : List Placed) (l : Limited)
    → script_line w line ≡ Tells e → IsCutShort w cut events l
    → IsCutShort w (before line cut) (record { line = number; event = e } ∷ events) l
short_past_one w number line cut e events l is short = record {
  past = short.past;
  stop = short.stop;
  is = short.is;
  told = told_past_one w number line cut.lines e events is short.told;
}

-- one line more, by what it stands for
one_more : (w : World) (from : ℕ) (line : List ℕ) (cut : Cut) (rest : Reading) → ReadsLines w (from + 1) cut rest
    → (meaning : Line) → script_line w line ≡ meaning
    → ReadsLines w from (before line cut) (from_line from meaning rest)
one_more w from line cut rest reads NoEvent is = record {
  events = told_later w from line cut.lines rest.events reads.events;
  order = from_before from rest.events reads.order;
  end = λ ends. let all = reads.end ends in (all.0, told_past_none w line cut.lines rest.events is all.1);
  fault = λ number why ends. breaks_past_none w from line cut.lines rest.events number (Faulty why) is (reads.fault number why ends);
  limit = λ l ends. elim (reads.limit l ends) [
    | inl breaks ↦ inl (breaks.0, breaks_past_none w from line cut.lines rest.events breaks.0 (Exceeds l) is breaks.1)
    | inr short ↦ inr (short_past_none w line cut rest.events l is short)
  ];
}
one_more w from line cut rest reads (Tells e) is = record {
  events = All-cons (λ e. StandsFor w from (line ∷ cut.lines) e.line (Tells e.event)) (record { line = from; event = e }) rest.events
      (here w from line cut.lines (Tells e) is) (told_later w from line cut.lines rest.events reads.events);
  order = (omega arith, reads.order);
  end = λ ends. let all = reads.end ends in (all.0, told_past_one w from line cut.lines e rest.events is all.1);
  fault = λ number why ends. breaks_past_one w from line cut.lines e rest.events number (Faulty why) is (reads.fault number why ends);
  limit = λ l ends. elim (reads.limit l ends) [
    | inl breaks ↦ inl (breaks.0, breaks_past_one w from line cut.lines e rest.events breaks.0 (Exceeds l) is breaks.1)
    | inr short ↦ inr (short_past_one w from line cut e rest.events l is short)
  ];
}
one_more w from line cut rest reads (Faulty why) is = record {
  events = All-nil (λ e. StandsFor w from (line ∷ cut.lines) e.line (Tells e.event));
  order = tt;
  end = λ never. absurd (cc);
  fault = λ number other ends. let this : from ≡ number = cc in let same : why ≡ other = cc in
      rw (sym this, sym same) (breaks_here w from line cut.lines (Faulty why) is);
  limit = λ limit never. absurd (cc);
}
one_more w from line cut rest reads (Exceeds l) is = record {
  events = All-nil (λ e. StandsFor w from (line ∷ cut.lines) e.line (Tells e.event));
  order = tt;
  end = λ never. absurd (cc);
  fault = λ number why never. absurd (cc);
  limit = λ other ends. let same : l ≡ other = cc in inl (from, rw (sym same) (breaks_here w from line cut.lines (Exceeds l) is));
}

no_line : (w : World) (from : ℕ) (stop : Option Past)
    → ReadsLines w from (record { lines = []; stop = stop }) (ends_at (cut_ending stop))
no_line w from None = record {
  events = All-nil (λ e. StandsFor w from [] e.line (Tells e.event));
  order = tt;
  end = λ _. (refl, record { whole = All-nil (IsWhole w); told = refl });
  fault = λ number why never. absurd (cc);
  limit = λ limit never. absurd (cc);
}
no_line w from (Some past) = record {
  events = All-nil (λ e. StandsFor w from [] e.line (Tells e.event));
  order = tt;
  end = λ never. absurd (cc);
  fault = λ number why never. absurd (cc);
  limit = λ l ends. inr (record { past = past; stop = refl; is = cc; told = record { whole = All-nil (IsWhole w); told = refl } });
}

lines_read : (w : World) (from : ℕ) (lines : List (List ℕ)) (stop : Option Past)
    → ReadsLines w from (record { lines = lines; stop = stop }) (lines_reading w from lines stop)
lines_read w from [] stop = no_line w from stop
lines_read w from (line ∷ lines) stop =
    one_more w from line (record { lines = lines; stop = stop }) (lines_reading w (from + 1) lines stop)
    (lines_read w (from + 1) lines stop) (script_line w line) refl

-- The reading of what is cut from a log tells of its lines by their numbers.
pub numbers_are_lines : NumbersAreLines
unfolding NumbersAreLines
numbers_are_lines w cut = lines_read w 1 cut.lines cut.stop
