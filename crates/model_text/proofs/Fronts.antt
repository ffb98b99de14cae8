-- What comes of a text is made of its first lines.
use Rattle.std.proofs.Common.{◌≡◌, ℕ, zero, suc, ◌+◌, ◌-◌, ◌<◌, ◌≤◌, min, List, [], ◌∷◌, ◌++◌, length, take, drop, length-drop, Option, Some, None}
use Rattle.std.proofs.Common.{refl, sym, ap, ap₂, ◌∙◌, arith, inl, inr, All, subst, append-nil}
use Rattle.std.proofs.lemmas.List.{length-take-le}
use Rattle.std.proofs.lemmas.List.Elements.{All-nil, All-cons, All-head, All-drop}
use Rattle.std.proofs.lemmas.List.Prefix.{front_rest}
use Rattle.cm_base.specs.Limited.{limit_number}
use Rattle.cm_base.specs.declared.limited.Limited.TheVariants as limit
use Rattle.cm_lines.proofs.FirstCut.{first_comes}
use Rattle.cm_lines.proofs.FirstLine.{first_line}
use Rattle.cm_lines.proofs.Lengths.{len_within}
use Rattle.cm_lines.proofs.PastLimits.{PastLine, PastWhole, Within, limits, past_line, past_whole, past_none}
use Rattle.cm_lines.specs.Cut.{Cut, before, ends_by, cut_by, cut_lines, cut_of, past_of}
use Rattle.cm_lines.specs.Lines.{lines_of, line_len, line_size}
use Rattle.cm_lines.specs.declared.limits.Past.{Past}
use Rattle.cm_lines.specs.declared.limits.Past.TheVariants.{Line, Whole}
use Rattle.model_text.specs.Fronts.{IsFrontOf, CutsAreFronts, ShortLogsAreCut}

-- what comes of these lines, which end at that place of a text at the latest
record Front (line whole size : ℕ) (lines : List (List ℕ)) (cut : Cut) : Type 0 where
  later : List (List ℕ)
  front : lines ≡ cut.lines ++ later
  short : All (λ l. length l ≤ line) cut.lines
  all : cut.stop ≡ None → later ≡ []
  long : cut.stop ≡ Some Line → (next : List ℕ) × (after : List (List ℕ)) × (later ≡ next ∷ after) × (line < length next)
  large : cut.stop ≡ Some Whole → whole < size

front_none : (line whole size : ℕ) → Front line whole size [] (ends_by None)
front_none line whole size = record {
  later = [];
  front = refl;
  short = All-nil (λ l. length l ≤ line);
  all = λ _. refl;
  long = λ never. absurd (cc);
  large = λ never. absurd (cc);
}

front_more : (line whole size : ℕ) (l : List ℕ) (lines : List (List ℕ)) (cut : Cut) → length l ≤ line
    → Front line whole size lines cut → Front line whole size (l ∷ lines) (before l cut)
front_more line whole size l lines cut short f = record {
  later = f.later;
  front = ap (λ (ls : List (List ℕ)). l ∷ ls) f.front;
  short = All-cons (λ l. length l ≤ line) l cut.lines short f.short;
  all = f.all;
  long = f.long;
  large = f.large;
}

front_line : (line whole size : ℕ) (l : List ℕ) (lines : List (List ℕ)) → line < length l → Front line whole size (l ∷ lines) (ends_by (Some Line))
front_line line whole size l lines long = record {
  later = l ∷ lines;
  front = refl;
  short = All-nil (λ l. length l ≤ line);
  all = λ never. absurd (cc);
  long = λ _. (l, lines, refl, long);
  large = λ never. absurd (cc);
}

front_whole : (line whole size : ℕ) (lines : List (List ℕ)) → whole < size → Front line whole size lines (ends_by (Some Whole))
front_whole line whole size lines more = record {
  later = lines;
  front = refl;
  short = All-nil (λ l. length l ≤ line);
  all = λ never. absurd (cc);
  long = λ never. absurd (cc);
  large = λ _. more;
}

-- a line that so many bytes stand before, and what comes by the limit that it is past
front_by : (line whole place len size : ℕ) (end : ℕ) (l : List ℕ) (lines : List (List ℕ)) (cut : Cut) → length l ≡ len → len ≤ size
    → place + size ≤ end → Front line whole end lines cut
    → Front line whole end (l ∷ lines) (cut_by (past_of line whole place len size) l cut)
front_by line whole place len size end l lines cut is few fits f = elim (limits line whole place len size) [
  | PastLine long first ↦ rw (past_line line whole place len size long first) (front_line line whole end l lines (omega (arith, is, long)))
  | PastWhole not more ↦ rw (past_whole line whole place len size not more) (front_whole line whole end (l ∷ lines) (omega (arith, more, fits)))
  | Within not within ↦
      let short : len ≤ line = elim not [ inl short ↦ short | inr later ↦ omega (arith, later, within, few) ] in
      rw (past_none line whole place len size not within) (front_more line whole end l lines cut (omega (arith, is, short)) f)
]

fronts : (fuel line whole place : ℕ) (left : List ℕ) → length left ≤ fuel
    → Front line whole (place + length left) (lines_of left) (cut_lines line whole (place + length left) place (lines_of left))
fronts fuel line whole place [] enough = front_none line whole (place + 0)
fronts zero line whole place (byte ∷ text) enough = absurd (omega arith)
fronts (suc fuel) line whole place (byte ∷ text) enough =
    let left : List ℕ = byte ∷ text in
    let end : ℕ = place + length left in
    let len : ℕ = line_len left in
    let size : ℕ = line_size left in
    let rest : List ℕ = drop size left in
    let within : len ≤ length left = len_within left in
    let sized : size ≡ min (len + 1) (length left) = refl in
    let kept : length rest ≡ length left - size = length-drop size left in
    let same : place + size + length rest ≡ end = omega (arith, kept, sized) in
    let f : Front line whole end (lines_of rest) (cut_lines line whole end (place + size) (lines_of rest)) =
    subst (λ (e : ℕ). Front line whole e (lines_of rest) (cut_lines line whole e (place + size) (lines_of rest))) same
    (fronts fuel line whole (place + size) rest (omega (arith, kept, sized, enough))) in
    let first : List ℕ = take len left in
    rw (first_comes line whole end place left (omega arith) (omega arith))
    (subst (λ (ls : List (List ℕ)). Front line whole end ls
    (cut_by (past_of line whole place len size) first (cut_lines line whole end (place + size) (lines_of rest))))
    (sym (first_line left (omega arith)))
    (front_by line whole place len size end first (lines_of rest) (cut_lines line whole end (place + size) (lines_of rest))
    (length-take-le len left within) (omega (arith, sized, within)) (omega (arith, sized)) f))

pub cuts_are_fronts : CutsAreFronts
unfolding CutsAreFronts
cuts_are_fronts line whole text =
    let nothing : 0 + length text ≡ length text = omega arith in
    let f : Front line whole (length text) (lines_of text) (cut_of line whole text) =
    subst (λ (e : ℕ). Front line whole e (lines_of text) (cut_lines line whole e 0 (lines_of text))) nothing
    (fronts (length text) line whole 0 text (omega arith)) in
    record { later = f.later; front = f.front; short = f.short; all = f.all; long = f.long; large = f.large }

-- ---- texts within their limit

abbrev with_stop : List (List ℕ) → Option Past → Cut
with_stop lines stop = record { lines = lines; stop = stop }

-- all lines come, where each is within the limit of lines
all_come : (line : ℕ) (text : List ℕ) (lines : List (List ℕ)) (stop : Option Past) → IsFrontOf line (length text) text (with_stop lines stop)
    → All (λ l. length l ≤ line) (lines_of text) → with_stop lines stop ≡ with_stop (lines_of text) None
all_come line text lines None is short =
    let none : is.later ≡ [] = is.all refl in
    let lines_are : lines_of text ≡ lines = is.front ∙ ap (λ (more : List (List ℕ)). lines ++ more) none ∙ append-nil lines in
    ap (λ (ls : List (List ℕ)). with_stop ls None) (sym lines_are)
all_come line text lines (Some Line) is short =
    let over = is.long refl in
    let rest : drop (length lines) (lines_of text) ≡ over.0 ∷ over.1 =
    front_rest (lines_of text) lines (over.0 ∷ over.1) (is.front ∙ ap (λ (more : List (List ℕ)). lines ++ more) over.2) in
    let all : All (λ l. length l ≤ line) (over.0 ∷ over.1) =
    subst (λ (ls : List (List ℕ)). All (λ l. length l ≤ line) ls) rest
    (All-drop (λ l. length l ≤ line) (length lines) (lines_of text) short) in
    let fits : length over.0 ≤ line = All-head (λ l. length l ≤ line) over.0 over.1 all in
    absurd (let long = over.3 in omega (arith, fits, long))
all_come line text lines (Some Whole) is short = absurd (let more = is.large refl in omega (arith, more))

pub short_lines_come : (line : ℕ) (text : List ℕ) → All (λ l. length l ≤ line) (lines_of text)
    → cut_of line (length text) text ≡ record { lines = lines_of text; stop = None }
unfolding CutsAreFronts
short_lines_come line text short =
    let cut : Cut = cut_of line (length text) text in
    all_come line text cut.lines cut.stop (cuts_are_fronts line (length text) text) short

-- a line within two limits of the text is past the same limit, if any
same_past : (line whole wider place len size : ℕ) → whole ≤ wider → place + size ≤ whole → len ≤ size
    → past_of line wider place len size ≡ past_of line whole place len size
same_past line whole wider place len size wide fits few = elim (limits line whole place len size) [
  | PastLine long first ↦
      past_line line wider place len size long (omega (arith, first, wide)) ∙ sym (past_line line whole place len size long first)
  | PastWhole not more ↦ absurd (omega (arith, more, fits))
  | Within not within ↦
      let short : len ≤ line = elim not [ inl short ↦ short | inr later ↦ omega (arith, later, within, few) ] in
      past_none line wider place len size (inl short) (omega (arith, fits, wide)) ∙ sym (past_none line whole place len size not within)
]

-- what comes of the rest of a text that is within a limit
same_come : (fuel line whole place : ℕ) (left : List ℕ) → length left ≤ fuel → place + length left ≤ whole
    → cut_lines line whole (place + length left) place (lines_of left)
    ≡ cut_lines line (place + length left) (place + length left) place (lines_of left)
same_come fuel line whole place [] enough fits = refl
same_come zero line whole place (byte ∷ text) enough fits = absurd (omega arith)
same_come (suc fuel) line whole place (byte ∷ text) enough fits =
    let left : List ℕ = byte ∷ text in
    let end : ℕ = place + length left in
    let len : ℕ = line_len left in
    let size : ℕ = line_size left in
    let rest : List ℕ = drop size left in
    let within : len ≤ length left = len_within left in
    let sized : size ≡ min (len + 1) (length left) = refl in
    let kept : length rest ≡ length left - size = length-drop size left in
    let same : place + size + length rest ≡ end = omega (arith, kept, sized) in
    let later : cut_lines line whole end (place + size) (lines_of rest) ≡ cut_lines line end end (place + size) (lines_of rest) =
    subst (λ (e : ℕ). cut_lines line whole e (place + size) (lines_of rest) ≡ cut_lines line e e (place + size) (lines_of rest)) same
    (same_come fuel line whole (place + size) rest (omega (arith, kept, sized, enough)) (omega (arith, kept, sized, fits))) in
    first_comes line whole end place left (omega arith) (omega arith)
    ∙ ap₂ (λ (past : Option Past) (cut : Cut). cut_by past (take len left) cut)
    (same_past line end whole place len size fits (omega (arith, sized)) (omega (arith, sized, within))) later
    ∙ sym (first_comes line end end place left (omega arith) (omega arith))

pub short_logs_are_cut : ShortLogsAreCut
unfolding ShortLogsAreCut
short_logs_are_cut text fits =
    let nothing : 0 + length text ≡ length text = omega arith in
    let line : ℕ = limit_number limit.Line in
    let whole : ℕ = limit_number limit.Log in
    subst (λ (e : ℕ). cut_lines line whole e 0 (lines_of text) ≡ cut_lines line e e 0 (lines_of text)) nothing
    (same_come (length text) line whole 0 text (omega arith) (omega (arith, fits)))
