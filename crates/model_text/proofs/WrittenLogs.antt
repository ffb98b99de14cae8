-- What was written of events, a line for each, is read again as the same events.
use Rattle.std.proofs.Common.{◌≡◌, ℕ, ◌+◌, ◌*◌, ◌<◌, ◌≤◌, ◌==◌, Bool, true, not, List, [], ◌∷◌, ◌++◌, length}
use Rattle.std.proofs.Common.{refl, sym, subst, ap, ◌∙◌, arith, append_assoc, length-append, All, map, None}
use Rattle.std.proofs.lemmas.Bool.{and_parts, ltb-true, not-true, ne_eqb}
use Rattle.std.proofs.lemmas.List.Elements.{All-nil, All-cons, All-head, All-tail}
use Rattle.std.specs.Prelude.{codes, decimal}
use Rattle.std.specs.List.{list_all}
use Rattle.cm_base.specs.Limited.{limit_number}
use Rattle.cm_base.specs.declared.limited.Limited.TheVariants as limit
use Rattle.cm_filter.specs.Kinds.{call_name}
use Rattle.model_cred.specs.Call.{Event, kind_of}
use Rattle.model_cred.specs.World.{World}
use Rattle.model_text.proofs.Found.{all_append, all_weaker}
use Rattle.model_text.proofs.Fronts.{short_lines_come}
use Rattle.model_text.proofs.KeepsNames.{declared_names_keep}
use Rattle.model_text.proofs.ReadBack.{Written, TokensWritten, tokens_written, event_read_back}
use Rattle.model_text.proofs.Tokens.{IsToken, is_plain}
use Rattle.model_text.specs.Arguments.{Argument, argument_text, arguments_of, spaced_texts}
use Rattle.cm_lines.specs.Lines.{grown, lines_of}
use Rattle.model_text.specs.Line.{Line}
use Rattle.model_text.specs.Print.{event_text}
use Rattle.model_text.specs.Reading.{Reading, AtEnd, from_line, lines_reading, reads_on, script_of_cut}
use Rattle.model_text.specs.Token.{res_text}
use Rattle.model_text.specs.Written.{DeclaredNamesKeep, KeepsNames, IsWritable, LogsReadBack, events_text, placed_from}

-- ---- lines
-- the byte is no LF
abbrev is_inner : ℕ → Bool
is_inner byte = not (byte == 10)

plain_inner : (byte : ℕ) → is_plain byte ≡ true → is_inner byte ≡ true
plain_inner byte plain =
    let above : 32 < byte = ltb-true 32 byte plain in
    ap not (ne_eqb byte 10 (λ same. omega arith))

inner_token : (text : List ℕ) → IsToken text → list_all is_inner text ≡ true
inner_token text is = all_weaker is_plain is_inner plain_inner text is.plain

-- a line before its LF is the first of the text
line_before : (line rest : List ℕ) → list_all is_inner line ≡ true → lines_of (line ++ 10 ∷ rest) ≡ line ∷ lines_of rest
line_before [] rest inner = refl
line_before (byte ∷ line) rest inner =
    let parts : (is_inner byte ≡ true) × (list_all is_inner line ≡ true) =
    and_parts (is_inner byte) (list_all is_inner line) inner in
    rw (not-true (byte == 10) parts.0) (ap (grown byte) (line_before line rest parts.1))

-- ---- the line of an event
arguments_inner : (w : World) (arguments : List Argument) → All (Written w) arguments
    → list_all is_inner (spaced_texts w arguments) ≡ true
arguments_inner w [] all = refl
arguments_inner w (argument ∷ arguments) all =
    all_append is_inner (argument_text w argument) (spaced_texts w arguments)
    (inner_token (argument_text w argument) (All-head (Written w) argument arguments all).token)
    (arguments_inner w arguments (All-tail (Written w) argument arguments all))

event_inner : (w : World) (e : Event) → TokensWritten w e → list_all is_inner (event_text w e) ≡ true
unfolding event_text
event_inner w e are =
    let name : List ℕ = call_name (kind_of e.call) in
    let arguments : List ℕ = spaced_texts w (arguments_of e.call) in
    let call : list_all is_inner (codes " " ++ name ++ arguments) ≡ true =
    all_append is_inner (codes " " ++ name) arguments (inner_token name are.name)
    (arguments_inner w (arguments_of e.call) are.arguments) in
    let front : list_all is_inner (decimal e.pid ++ (codes " " ++ name ++ arguments)) ≡ true =
    all_append is_inner (decimal e.pid) (codes " " ++ name ++ arguments) (inner_token (decimal e.pid) are.pid) call in
    all_append is_inner (decimal e.pid ++ (codes " " ++ name ++ arguments) ++ codes " = ") (res_text e.res)
    (all_append is_inner (decimal e.pid ++ (codes " " ++ name ++ arguments)) (codes " = ") front refl)
    (inner_token (res_text e.res) are.result)

arguments_short : (w : World) (arguments : List Argument) → All (Written w) arguments
    → length (spaced_texts w arguments) ≤ 4096 * length arguments
arguments_short w [] all = omega arith
arguments_short w (argument ∷ arguments) all =
    let text : List ℕ = argument_text w argument in
    let first : length text < 4096 = (All-head (Written w) argument arguments all).token.short in
    let others : length (spaced_texts w arguments) ≤ 4096 * length arguments =
    arguments_short w arguments (All-tail (Written w) argument arguments all) in
    let sum = length-append text (spaced_texts w arguments) in
    omega (arith, first, others, sum)

-- an event of few arguments has a line within the limit of lines
pub event_short : (w : World) (e : Event) → KeepsNames w → IsWritable w e → length (arguments_of e.call) ≤ 200
    → length (event_text w e) ≤ limit_number limit.Line
unfolding event_text
event_short w e keeps can few =
    let are : TokensWritten w e = tokens_written w e keeps can in
    let name : List ℕ = call_name (kind_of e.call) in
    let arguments : List ℕ = spaced_texts w (arguments_of e.call) in
    let answer : List ℕ = res_text e.res in
    let all : length arguments ≤ 4096 * length (arguments_of e.call) =
    arguments_short w (arguments_of e.call) are.arguments in
    let one = length-append (decimal e.pid ++ (codes " " ++ name ++ arguments) ++ codes " = ") answer in
    let two = length-append (decimal e.pid ++ (codes " " ++ name ++ arguments)) (codes " = ") in
    let three = length-append (decimal e.pid) (codes " " ++ name ++ arguments) in
    let four = length-append (codes " " ++ name) arguments in
    omega (arith, all, few, one, two, three, four, are.pid.short, are.name.short, are.result.short)

-- ---- several events
-- the lines of events are their texts
lines_written : (w : World) (events : List Event) → KeepsNames w → All (IsWritable w) events
    → lines_of (events_text w events) ≡ map (event_text w) events
lines_written w [] keeps can = refl
lines_written w (e ∷ events) keeps can =
    let this : IsWritable w e = All-head (IsWritable w) e events can in
    ap lines_of (append_assoc (event_text w e) (10 ∷ []) (events_text w events))
    ∙ line_before (event_text w e) (events_text w events) (event_inner w e (tokens_written w e keeps this))
    ∙ ap (λ (ls : List (List ℕ)). event_text w e ∷ ls) (lines_written w events keeps (All-tail (IsWritable w) e events can))

-- a property of what is written of each is one of all these texts
all_texts : (P : List ℕ → Type 0) (w : World) (events : List Event) → All (λ e. P (event_text w e)) events → All P (map (event_text w) events)
all_texts P w [] all = All-nil P
all_texts P w (e ∷ events) all =
    All-cons P (event_text w e) (map (event_text w) events) (All-head (λ e. P (event_text w e)) e events all)
    (all_texts P w events (All-tail (λ e. P (event_text w e)) e events all))

lines_read : (w : World) (number : ℕ) (events : List Event) → KeepsNames w → All (IsWritable w) events
    → lines_reading w number (map (event_text w) events) None ≡ record { events = placed_from number events; ending = AtEnd }
lines_read w number [] keeps can = refl
lines_read w number (e ∷ events) keeps can =
    let rest : Reading = lines_reading w (number + 1) (map (event_text w) events) None in
    ap (λ (line : Line). from_line number line rest) (event_read_back w e keeps (All-head (IsWritable w) e events can))
    ∙ ap (reads_on (record { line = number; event = e }))
    (lines_read w (number + 1) events keeps (All-tail (IsWritable w) e events can))

pub logs_read_back : LogsReadBack
unfolding LogsReadBack DeclaredNamesKeep
logs_read_back bytes w events reads can short =
    let keeps : KeepsNames w = declared_names_keep bytes w reads in
    let line : ℕ = limit_number limit.Line in
    let are : lines_of (events_text w events) ≡ map (event_text w) events = lines_written w events keeps can in
    let all : All (λ l. length l ≤ line) (lines_of (events_text w events)) =
    subst (All (λ l. length l ≤ line)) (sym are) (all_texts (λ l. length l ≤ line) w events short) in
    ap (script_of_cut w) (short_lines_come line (events_text w events) all)
    ∙ ap (λ (ls : List (List ℕ)). lines_reading w 1 ls None) are
    ∙ lines_read w 1 events keeps can
