-- What a cutter finds at the front of what it keeps is what comes next in the file.
use Rattle.std.proofs.Common.{◌≡◌, ℕ, ◌+◌, ◌-◌, ◌<◌, ◌≤◌, ◌==◌, length, List, [], ◌∷◌, take, drop, refl, ◌∙◌, sym, ap, ap₂, subst, arith, length-take, length-drop}
use Rattle.std.proofs.Common.{◌⊎◌, Bool, false, IsTrue, inl, inr, Option, None, Some, IfSome, Ok, Err}
use Rattle.std.proofs.lemmas.Bool.{cases_Bool, cases_lt, eqb-true, eqb-false}
use Rattle.std.proofs.lemmas.List.{take-take, take_all}
use Rattle.cm_lines.specs.Lines.{line_len, line_size}
use Rattle.cm_lines.specs.Cut.{past_of}
use Rattle.cm_lines.specs.declared.limits.Past.{Past}
use Rattle.cm_lines.specs.declared.limits.Past.TheVariants.{Line, Whole}
use Rattle.cm_lines.proofs.Lengths.{len_within, len_front, len_past}
use Rattle.cm_lines.proofs.PastLimits.{PastLine, PastWhole, Within, limits, past_line, past_more, past_whole, some_past}
use Rattle.cm_io.specs.Cutter.{Cutting, FitsText, Fits, SameFile, unless_past, next_cut, next_of, error_of, is_at_hand}
use Rattle.cm_io.specs.Cutter.{past_kept, read_to}
use Rattle.cm_io.specs.CutterSteps.{KeepsMore, Finds, IsFound, found_of}
use Rattle.cm_io.specs.Shelf.{Files, bytes_at, TakesAtMost}
use Rattle.cm_io.specs.declared.cutter.CutError.{CutError}
use Rattle.cm_io.specs.declared.cutter.CutError.TheVariants.{Read, TooLong, TooMuch, NoMemory}

-- ---- what comes next
next_past : (line whole place : ℕ) (left : List ℕ) (past : Past) → 0 < length left
    → past_of line whole place (line_len left) (line_size left) ≡ Some past → next_cut line whole place left ≡ Err (error_of past)
next_past line whole place [] past some is = absurd (omega arith)
next_past line whole place (b ∷ bs) past some is = ap (λ p. unless_past p (take (line_len (b ∷ bs)) (b ∷ bs))) is

next_line : (line whole place : ℕ) (left : List ℕ) → 0 < length left
    → past_of line whole place (line_len left) (line_size left) ≡ None → next_cut line whole place left ≡ Ok (Some (take (line_len left) left))
next_line line whole place [] some is = absurd (omega arith)
next_line line whole place (b ∷ bs) some is = ap (λ p. unless_past p (take (line_len (b ∷ bs)) (b ∷ bs))) is

pub next_end : (line whole place : ℕ) (left : List ℕ) → length left ≤ 0 → next_cut line whole place left ≡ Ok None
next_end line whole place [] none = refl
next_end line whole place (b ∷ bs) none = absurd (omega arith)

-- ---- what is kept of what is left
-- as much is left
left_len : (left kept : List ℕ) → kept ≡ take (length kept) left → length kept ≤ length left
left_len left kept is = omega (arith, ap length is, length-take (length kept) left)

-- an LF that is kept ends the line
len_kept : (left kept : List ℕ) → kept ≡ take (length kept) left → line_len kept < length kept → line_len left ≡ line_len kept
len_kept left kept is within =
    let same : line_len (take (length kept) left) ≡ line_len kept = ap line_len (sym is) in
    let size : length (take (length kept) left) ≡ length kept = ap length (sym is) in
    len_front left (length kept) (omega (arith, same, size, within)) ∙ same

-- where none is kept, the line goes on
len_open : (left kept : List ℕ) → kept ≡ take (length kept) left → length kept ≤ line_len kept → length kept ≤ line_len left
len_open left kept is none =
    let same : line_len (take (length kept) left) ≡ line_len kept = ap line_len (sym is) in
    let within = len_within kept in
    len_past left (length kept) (left_len left kept is) (omega (arith, same, within, none))

-- A limit that what is kept is past.
pub past_next : (line whole place : ℕ) (left kept : List ℕ) (past : Past) → kept ≡ take (length kept) left → place ≤ whole
    → past_of line whole place (line_len kept) (line_size kept) ≡ Some past → next_cut line whole place left ≡ Err (error_of past)
past_next line whole place left kept past is reached found =
    let most = left_len left kept is in
    elim (cases_lt (line_len kept) (length kept)) [
      | inl within ↦
          let len : line_len left ≡ line_len kept = len_kept left kept is within in
          let size : line_size left ≡ line_size kept = omega (arith, len, within, most) in
          next_past line whole place left past (omega (arith, within, most))
          (ap₂ (λ (l : ℕ) (s : ℕ). past_of line whole place l s) len size ∙ found)
      | inr none ↦
          let within = len_within kept in
          let len : line_len kept ≡ length kept = omega (arith, within, none) in
          let size : line_size kept ≡ length kept = omega (arith, within, none) in
          let past_kept : past_of line whole place (length kept) (length kept) ≡ Some past =
          sym (ap₂ (λ (l : ℕ) (s : ℕ). past_of line whole place l s) len size) ∙ found in
          let further = len_open left kept is none in
          elim (cases_lt 0 (length kept)) [
            | inl some ↦
                next_past line whole place left past (omega (arith, some, most))
                (past_more line whole place (length kept) (line_len left) (line_size left) past further (omega (arith, further, most)) past_kept)
            | inr empty ↦ absurd (some_past line whole place past reached
                (let zero_len : length kept ≡ 0 = omega (arith, empty) in sym (ap (λ n. past_of line whole place n n) zero_len) ∙ past_kept))
          ]
    ]

-- A line that is kept with its LF.
pub line_next : (line whole place : ℕ) (left kept : List ℕ) → kept ≡ take (length kept) left → line_len kept < length kept
    → past_of line whole place (line_len kept) (line_size kept) ≡ None
    → (next_cut line whole place left ≡ Ok (Some (take (line_len kept) kept))) × (line_size kept ≡ line_size left)
line_next line whole place left kept is within found =
    let most = left_len left kept is in
    let len : line_len left ≡ line_len kept = len_kept left kept is within in
    let size : line_size left ≡ line_size kept = omega (arith, len, within, most) in
    let same : take (line_len kept) kept ≡ take (line_len kept) left =
    ap (λ l. take (line_len kept) l) is ∙ take-take (line_len kept) (length kept) left (omega (arith, within)) in (
      next_line line whole place left (omega (arith, within, most)) (ap₂ (λ (l : ℕ) (s : ℕ). past_of line whole place l s) len size ∙ found)
          ∙ ap (λ l. Ok (Some l)) (ap (λ n. take n left) len ∙ sym same),
      sym size,
    )

-- The last line, and the end.
pub last_next : (line whole place : ℕ) (left kept : List ℕ) → kept ≡ take (length kept) left → length left ≤ length kept → length kept ≤ line_len kept
    → past_of line whole place (line_len kept) (line_size kept) ≡ None
    → (0 < length kept → (next_cut line whole place left ≡ Ok (Some (take (length kept) kept))) × (length kept ≡ line_size left))
    × (length kept ≡ 0 → next_cut line whole place left ≡ Ok None)
last_next line whole place left kept is all none found =
    let whole_is : take (length kept) left ≡ left = take_all (length kept) left all in
    let same : kept ≡ left = is ∙ whole_is in
    let within = len_within kept in
    let len : line_len left ≡ length kept = ap line_len (sym same) ∙ omega (arith, within, none) in
    let size : line_size left ≡ line_size kept = ap line_size (sym same) in (
      λ some. (
        next_line line whole place left (omega (arith, some, ap length same))
            (ap (λ l. past_of line whole place (line_len l) (line_size l)) (sym same) ∙ found)
            ∙ ap (λ l. Ok (Some l)) (ap (λ n. take n left) len ∙ ap (λ l. take (length kept) l) (sym same)),
        omega (arith, size, within, none),
      ),
      λ empty. next_end line whole place left (omega (arith, empty, all)),
    )

-- ---- cutters
-- what comes next is told of the same file at the same place
same_next : (old cur : Cutting) (text : List ℕ) → SameFile old cur → cur.place ≡ old.place → next_of cur text ≡ next_of old text
same_next old cur text same place =
    let line = same.line in let whole = same.whole in
    ap₂ (λ (l : ℕ) (w : ℕ). next_cut l w cur.place (drop cur.place text)) line whole
    ∙ ap (λ p. next_cut old.line old.whole p (drop p text)) place

-- A limit is found.
pub past_now : (held : Option Files) (cur : Cutting) (len size : ℕ) (past : Past) → Fits held cur
    → cur.place ≤ cur.whole → len ≡ line_len cur.kept → size ≡ line_size cur.kept
    → past_of cur.line cur.whole cur.place len size ≡ Some past → IfSome held (λ files. next_of cur (bytes_at files cur.name) ≡ Err (error_of past))
past_now None cur len size past fits reached len_is size_is found = tt
past_now (Some files) cur len size past fits reached len_is size_is found =
    past_next cur.line cur.whole cur.place (drop cur.place (bytes_at files cur.name)) cur.kept past fits reached
    (sym (ap₂ (λ (l : ℕ) (s : ℕ). past_of cur.line cur.whole cur.place l s) len_is size_is) ∙ found)

is_past : (old new : Cutting) (text : List ℕ) (past : Past) (e : CutError) → e ≡ error_of past → next_of old text ≡ Err (error_of past)
    → IsFound old new text (Err e)
is_past old new text Line TooLong same is = is
is_past old new text Whole TooMuch same is = is
is_past old new text past Read same is = tt
is_past old new text past NoMemory same is = tt
is_past old new text _ _ same is = absurd (cc)

pub past_found : (held : Option Files) (old cur new : Cutting) (more : ℕ) (past : Past) (e : CutError) → KeepsMore old cur more → e ≡ error_of past
    → IfSome held (λ files. next_of cur (bytes_at files cur.name) ≡ Err (error_of past))
    → IfSome held (λ files. IsFound old new (bytes_at files old.name) (Err e))
past_found None old cur new more past e keeps same is = tt
past_found (Some files) old cur new more past e keeps same is =
    is_past old new (bytes_at files old.name) past e same (
    subst (λ (n : List ℕ). next_of old (bytes_at files n) ≡ Err (error_of past)) keeps.same.name
    (sym (same_next old cur (bytes_at files cur.name) keeps.same keeps.place) ∙ is))

-- What is found, where a line is kept with its LF.
line_found : (old cur : Cutting) (text : List ℕ) (more len size : ℕ) → KeepsMore old cur more → FitsText cur text
    → len ≡ line_len cur.kept → size ≡ line_size cur.kept → len < size → past_of cur.line cur.whole cur.place len size ≡ None
    → IsFound old cur text (Ok (found_of len size))
line_found old cur text more len size keeps fits len_is size_is below found =
    let (now, all) = line_next cur.line cur.whole cur.place (drop cur.place text) cur.kept fits (omega (arith, len_is, size_is, below))
    (sym (ap₂ (λ (l : ℕ) (s : ℕ). past_of cur.line cur.whole cur.place l s) len_is size_is) ∙ found) in
    let some : (size == 0) ≡ false = grind (arith, below) in
    rw some (
      sym (same_next old cur text keeps.same keeps.place) ∙ now ∙ ap (λ n. Ok (Some (take n cur.kept))) (sym len_is),
      size_is ∙ all ∙ ap (λ p. line_size (drop p text)) keeps.place,
    )

-- What is found, where the file ends and no LF is kept.
last_is_found : (old cur : Cutting) (text : List ℕ) (more len size : ℕ) → KeepsMore old cur more → FitsText cur text → length text ≤ read_to cur
    → len ≡ line_len cur.kept → size ≡ line_size cur.kept → size ≤ len → past_of cur.line cur.whole cur.place len size ≡ None
    → IsFound old cur text (Ok (found_of len size))
last_is_found old cur text more len size keeps fits whole len_is size_is above found =
    let within = len_within cur.kept in
    let all : len ≡ length cur.kept = omega (arith, len_is, size_is, above, within) in
    let same : size ≡ length cur.kept = omega (arith, len_is, size_is, above, within) in
    let left : length (drop cur.place text) ≤ length cur.kept = omega (arith, length-drop cur.place text, whole) in
    let (some, none) = last_next cur.line cur.whole cur.place (drop cur.place text) cur.kept fits left (omega (arith, all, len_is))
    (sym (ap₂ (λ (l : ℕ) (s : ℕ). past_of cur.line cur.whole cur.place l s) len_is size_is) ∙ found) in
    let back = sym (same_next old cur text keeps.same keeps.place) in
    elim (cases_Bool (size == 0)) [
      | inl is ↦ rw is (back ∙ none (grind (arith, is, same)))
      | inr isnt ↦
          let (now, size_all) = some (grind (arith, isnt, same)) in
          rw isnt (
            back ∙ now ∙ ap (λ n. Ok (Some (take n cur.kept))) (sym all),
            same ∙ size_all ∙ ap (λ p. line_size (drop p text)) keeps.place,
          )
    ]

-- no LF is kept where no line is at hand
pub open_kept : (cur : Cutting) → is_at_hand cur ≡ false → length cur.kept ≤ line_len cur.kept
open_kept cur none = elim (cases_lt (line_len cur.kept) (length cur.kept)) [
  | inl below ↦ absurd (grind (arith, below, none))
  | inr above ↦ above
]

-- What is found, at the end or before it, is told of what is kept, whatever is noted of the end.
found_kept : (old cur new : Cutting) (text : List ℕ) (len size : ℕ) → new.kept ≡ cur.kept → IsFound old cur text (Ok (found_of len size))
    → IsFound old new text (Ok (found_of len size))
found_kept old cur new text len size same found = elim (cases_Bool (size == 0)) [
  | inl is ↦ rw is (rw is at found)
  | inr isnt ↦
      let (next, all) = rw isnt at found in
      rw isnt (next ∙ ap (λ (k : List ℕ). Ok (Some (take len k))) (sym same), all)
]

pub line_is_found : (held : Option Files) (old cur new : Cutting) (more len size : ℕ) → KeepsMore old cur more → Fits held cur
    → IsTrue (is_at_hand cur) → new.kept ≡ cur.kept
    → len ≡ line_len cur.kept → size ≡ line_size cur.kept → past_of cur.line cur.whole cur.place len size ≡ None
    → IfSome held (λ files. IsFound old new (bytes_at files old.name) (Ok (found_of len size)))
line_is_found None old cur new more len size keeps fits hand same len_is size_is found = tt
line_is_found (Some files) old cur new more len size keeps fits hand same len_is size_is found =
    subst (λ (n : List ℕ). IsFound old new (bytes_at files n) (Ok (found_of len size))) keeps.same.name
    (found_kept old cur new (bytes_at files cur.name) len size same
    (line_found old cur (bytes_at files cur.name) more len size keeps fits len_is size_is (grind (arith, hand, len_is, size_is)) found))

pub end_is_found : (held : Option Files) (old cur new : Cutting) (more len size : ℕ) → KeepsMore old cur more → Fits held cur
    → is_at_hand cur ≡ false → new.kept ≡ cur.kept → IfSome held (λ files. length (bytes_at files cur.name) ≤ read_to cur)
    → len ≡ line_len cur.kept → size ≡ line_size cur.kept → past_of cur.line cur.whole cur.place len size ≡ None
    → IfSome held (λ files. IsFound old new (bytes_at files old.name) (Ok (found_of len size)))
end_is_found None old cur new more len size keeps fits none same whole len_is size_is found = tt
end_is_found (Some files) old cur new more len size keeps fits none same whole len_is size_is found =
    subst (λ (n : List ℕ). IsFound old new (bytes_at files n) (Ok (found_of len size))) keeps.same.name
    (found_kept old cur new (bytes_at files cur.name) len size same
    (last_is_found old cur (bytes_at files cur.name) more len size keeps fits whole len_is size_is
    (let most = open_kept cur none in omega (arith, len_is, size_is, most)) found))

-- ---- what stands at the front
-- A line that is past no limit.
past_none : (line whole place len size : ℕ) → past_of line whole place len size ≡ None → ((len ≤ line) ⊎ (whole ≤ place + line)) × (place + size ≤ whole)
past_none line whole place len size none = elim (limits line whole place len size) [
  | PastLine long first ↦ absurd (let some = past_line line whole place len size long first in cc)
  | PastWhole not more ↦ absurd (let some = past_whole line whole place len size not more in cc)
  | Within not within ↦ (not, within)
]

-- No byte.
pub no_bytes : (bytes : List ℕ) → length bytes ≡ 0 → bytes ≡ []
no_bytes [] none = refl
no_bytes (byte ∷ bytes) none = absurd (omega (arith, none))

-- It is a line, or nothing is kept.
pub finds_front : (old cur new : Cutting) (more : ℕ) → KeepsMore old cur more → past_kept cur ≡ None → new.kept ≡ cur.kept
    → Finds old new (found_of (line_len cur.kept) (line_size cur.kept))
finds_front old cur new more keeps none same =
    let (not, within) = past_none cur.line cur.whole cur.place (line_len cur.kept) (line_size cur.kept) none in
    let most = len_within cur.kept in
    let size = ap length same in
    let line = keeps.same.line in
    let whole = keeps.same.whole in
    let place = keeps.place in
    elim (cases_Bool (line_size cur.kept == 0)) [
      | inl is ↦ rw is (no_bytes new.kept (omega (arith, eqb-true (line_size cur.kept) 0 is, size)))
      | inr isnt ↦
          let some : line_size cur.kept ≡ 0 → ⊥ = eqb-false (line_size cur.kept) 0 isnt in
          rw isnt (record {
            len = omega (arith, most);
            short = elim not [ inl short ↦ omega (arith, short, line) | inr later ↦ omega (arith, later, within, most, line, whole) ];
            some = omega (arith, some);
            kept = omega (arith, size);
            within = omega (arith, within, place, whole);
          })
    ]

-- ---- more is kept
pub keeps_on : (old cur new : Cutting) (more n : ℕ) → KeepsMore old cur more → KeepsMore cur new n
    → KeepsMore old new (length new.kept - length old.kept)
keeps_on old cur new more n first then =
    let shorter : length old.kept ≤ length cur.kept = omega (arith, first.len) in
    let longer : length cur.kept ≤ length new.kept = omega (arith, then.len) in
    record {
      same = record {
        name = then.same.name ∙ first.same.name;
        line = then.same.line ∙ first.same.line;
        whole = then.same.whole ∙ first.same.whole;
      };
      place = then.place ∙ first.place;
      front = sym (take-take (length old.kept) (length cur.kept) new.kept shorter) ∙ ap (λ l. take (length old.kept) l) then.front ∙ first.front;
      len = omega (arith, shorter, longer);
      few = then.few;
    }

-- what is at hand stays so
hand_on : (old cur : Cutting) (more : ℕ) → KeepsMore old cur more → IsTrue (is_at_hand old) → IsTrue (is_at_hand cur)
hand_on old cur more keeps hand =
    let within : line_len old.kept < length old.kept = grind (arith, hand) in
    let same : line_len (take (length old.kept) cur.kept) ≡ line_len old.kept = ap line_len keeps.front in
    let size : length (take (length old.kept) cur.kept) ≡ length old.kept = ap length keeps.front in
    let len = len_front cur.kept (length old.kept) (omega (arith, same, size, within)) in
    let below : line_len cur.kept < length cur.kept = omega (arith, len, same, within, keeps.len) in
    grind (arith, below)

pub none_was : (old cur : Cutting) (more : ℕ) → KeepsMore old cur more → is_at_hand cur ≡ false → is_at_hand old ≡ false
none_was old cur more keeps none = elim (cases_Bool (is_at_hand old)) [
  | inl hand ↦ absurd (let now = hand_on old cur more keeps (rw hand refl) in cc)
  | inr isnt ↦ isnt
]

-- so nothing was, where nothing is
pub not_hand : (old cur : Cutting) (more : ℕ) (P : Type 0) → KeepsMore old cur more → is_at_hand cur ≡ false → IsTrue (is_at_hand old) → P
not_hand old cur more P keeps none hand = absurd (let now = hand_on old cur more keeps hand in cc)

-- what is noted of the end changes nothing else
pub keeps_noted : (old cur new : Cutting) (e : Bool) (more : ℕ) → new ≡ record cur { ended = e } → KeepsMore old cur more → KeepsMore old new more
keeps_noted old cur new e more is keeps = subst (λ (c : Cutting). KeepsMore old c more) (sym is) (record {
  same = record { name = keeps.same.name; line = keeps.same.line; whole = keeps.same.whole };
  place = keeps.place;
  front = keeps.front;
  len = keeps.len;
  few = keeps.few;
})

-- after a read that gave none
pub kept_same : (old new : Cutting) (n : ℕ) → KeepsMore old new n → n ≡ 0 → new.kept ≡ old.kept
kept_same old new n keeps none = sym (take_all (length old.kept) new.kept (omega (arith, keeps.len, none))) ∙ keeps.front

-- what was shown first is shown still
pub shown_first : (o : Option Past) → IfSome o (λ past. o ≡ Some past)
shown_first None = tt
shown_first (Some past) = refl

-- where a read failed, no LF was among the bytes that were taken
pub breaks_within : (held : Option Files) (old cur : Cutting) (more : ℕ) (a b c : List ℕ → ℕ) → KeepsMore old cur more → Fits held cur
    → is_at_hand cur ≡ false → TakesAtMost a b old.name (length cur.kept - length old.kept) → TakesAtMost b c old.name 0
    → IfSome held (λ files. c old.name + length old.kept ≤ a old.name + line_len (drop old.place (bytes_at files old.name)))
breaks_within None old cur more a b c keeps fits none first then = tt
breaks_within (Some files) old cur more a b c keeps fits none first then =
    let text = bytes_at files cur.name in
    let open_ : length cur.kept ≤ line_len (drop cur.place text) = len_open (drop cur.place text) cur.kept fits (open_kept cur none) in
    let here : length cur.kept ≤ line_len (drop old.place (bytes_at files old.name)) =
    subst (λ (n : List ℕ). length cur.kept ≤ line_len (drop old.place (bytes_at files n))) keeps.same.name
    (subst (λ (p : ℕ). length cur.kept ≤ line_len (drop p text)) keeps.place open_) in
    omega (arith, here, first.here, then.here, keeps.len)
