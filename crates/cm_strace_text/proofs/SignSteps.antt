-- A reader of a call that looks for the last equals sign, byte by byte.
use Rattle.std.proofs.Common.{◌≡◌, ◌≢◌, ◌∙◌, ◌<◌, ◌≤◌, ◌+◌, ◌==◌, ℕ, true, false, get_or, length, drop, List, ◌∷◌}
use Rattle.std.proofs.Common.{Option, Some, None, refl, ap, subst, sym, arith, inl, inr, if◌then◌else◌}
use Rattle.std.proofs.lemmas.Bool.{cases_Bool, cond-true, cond-false, eqb-true, ne_eqb}
use Rattle.std.proofs.lemmas.List.{drop_more, drop_all}
use Rattle.std.specs.Option.{option_or}
use Rattle.std.specs.Prelude.{IfSome}
use Rattle.model_rules.proofs.Options.{or_none}
use Rattle.cm_strace_text.proofs.QuoteEnds.{quote_signs}
use Rattle.cm_strace_text.proofs.Runs.{same_along}
use Rattle.cm_strace_text.specs.Places.{quote_end, sign_from}
use Rattle.model_strace.specs.Written.{Place, Plain, After, Quoted, plain_after, place_after, sign_here, last_sign}
use Rattle.model_text.specs.Cut.{is_blank}

-- no sign at the text's end
pub none_left : (place : Place) (text : List ℕ) (at : ℕ) → length text ≤ at → sign_from place at text ≡ None
none_left place text at ends = ap (last_sign place at) (drop_all at text ends)

-- a byte that is no sign
moves : (place next : Place) (text : List ℕ) (at byte : ℕ) → at < length text → get_or text at 0 ≡ byte
    → place_after place at byte ≡ next → sign_here place at byte ≡ None
    → sign_from place at text ≡ sign_from next (at + 1) text
moves place next text at byte below is after none =
    ap (last_sign place at) (drop_more text at 0 below)
    ∙ ap (λ (b : ℕ). last_sign place at (b ∷ drop (at + 1) text)) is
    ∙ rw (after, none) (or_none (sign_from next (at + 1) text))

-- a quoted text
pub quote_passes : (text : List ℕ) (at to : ℕ) → at < length text → get_or text at 0 ≡ 34 → to ≡ quote_end (at + 1) text
    → sign_from Plain at text ≡ option_or (sign_from Plain to text) None
quote_passes text at to below is ends =
    moves Plain Quoted text at 34 below is refl refl ∙ quote_signs text (at + 1) to ends
    ∙ sym (or_none (sign_from Plain to text))

-- a closing parenthesis in no quotes
pub paren_stands : (text : List ℕ) (at : ℕ) → at < length text → get_or text at 0 ≡ 41
    → sign_from Plain at text ≡ sign_from (After at) (at + 1) text
paren_stands text at below is = moves Plain (After at) text at 41 below is refl refl

-- another byte in no quotes
plain_passes : (text : List ℕ) (at : ℕ) → at < length text → get_or text at 0 ≢ 34 → get_or text at 0 ≢ 41
    → sign_from Plain at text ≡ sign_from Plain (at + 1) text
plain_passes text at below quote paren =
    let byte : ℕ = get_or text at 0 in
    moves Plain Plain text at byte below refl
    (cond-false (byte == 34) Quoted (if byte == 41 then After at else Plain) (ne_eqb byte 34 quote)
    ∙ cond-false (byte == 41) (After at) Plain (ne_eqb byte 41 paren)) refl

-- so many of them
pub plain_run : (text : List ℕ) (from to : ℕ) → from ≤ to → to ≤ length text
    → ((k : ℕ) → from ≤ k → k < to → (get_or text k 0 ≢ 34) × (get_or text k 0 ≢ 41))
    → sign_from Plain from text ≡ sign_from Plain to text
plain_run text from to up within none =
    same_along (λ (at : ℕ). sign_from Plain at text) from to up
    (λ k low below. let other = none k low below in plain_passes text k (omega arith) other.0 other.1)

-- a blank is no equals sign
blank_no_sign : (byte : ℕ) → is_blank byte ≡ true → (byte == 61) ≡ false
blank_no_sign byte blank =
    elim (cases_Bool (byte == 61)) [
      | inl is ↦
          let sign : is_blank 61 ≡ true = subst (λ (b : ℕ). is_blank b ≡ true) (eqb-true byte 61 is) blank in absurd (cc)
      | inr other ↦ other
    ]

-- a blank after a parenthesis
pub blank_passes : (text : List ℕ) (at : ℕ) → at < length text → is_blank (get_or text at 0) ≡ true
    → (paren : ℕ) → sign_from (After paren) at text ≡ sign_from (After paren) (at + 1) text
blank_passes text at below blank paren =
    let byte : ℕ = get_or text at 0 in
    moves (After paren) (After paren) text at byte below refl
    (cond-true (is_blank byte) (After paren) (plain_after at byte) blank)
    (cond-false (byte == 61) (Some (paren, at)) None (blank_no_sign byte blank))

-- an equals sign after a parenthesis
pub sign_stands : (text : List ℕ) (paren at : ℕ) → at < length text → get_or text at 0 ≡ 61
    → sign_from (After paren) at text ≡ option_or (sign_from Plain at text) (Some (paren, at))
sign_stands text paren at below is =
    ap (last_sign (After paren) at) (drop_more text at 0 below)
    ∙ ap (λ (b : ℕ). last_sign (After paren) at (b ∷ drop (at + 1) text)) is
    ∙ ap (λ (o : Option (ℕ × ℕ)). option_or o (Some (paren, at))) (sym (moves Plain Plain text at 61 below is refl refl))

-- another byte after it that is no blank
pub no_sign_stands : (text : List ℕ) (paren at : ℕ) → at < length text → is_blank (get_or text at 0) ≡ false
    → get_or text at 0 ≢ 61 → sign_from (After paren) at text ≡ option_or (sign_from Plain at text) None
no_sign_stands text paren at below other differs =
    let byte : ℕ = get_or text at 0 in
    let rest : List ℕ = drop (at + 1) text in
    ap (last_sign (After paren) at) (drop_more text at 0 below)
    ∙ ap (λ (place : Place). option_or (last_sign place (at + 1) rest) (sign_here (After paren) at byte))
    (cond-false (is_blank byte) (After paren) (plain_after at byte) other)
    ∙ ap (option_or (last_sign (plain_after at byte) (at + 1) rest))
    (cond-false (byte == 61) (Some (paren, at)) None (ne_eqb byte 61 differs))
    ∙ sym (ap (last_sign Plain at) (drop_more text at 0 below))
    ∙ sym (or_none (sign_from Plain at text))

-- nothing after it
pub no_sign_ends : (text : List ℕ) (paren at : ℕ) → length text ≤ at
    → sign_from (After paren) at text ≡ option_or (sign_from Plain at text) None
no_sign_ends text paren at ends =
    none_left (After paren) text at ends ∙ sym (none_left Plain text at ends) ∙ sym (or_none (sign_from Plain at text))

-- what the bytes after a closing parenthesis do
pub ruleset sign_steps = (paren_stands, blank_passes, sign_stands, no_sign_stands, no_sign_ends)

-- what two answers keep, the first of them does
pub or_keeps : (P : ℕ × ℕ → Type 0) (x y : Option (ℕ × ℕ)) → IfSome x P → IfSome y P → IfSome (option_or x y) P
or_keeps P None y first second = second
or_keeps P (Some places) y first second = first
