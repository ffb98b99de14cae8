-- Quoted texts byte by byte.
use Rattle.std.proofs.Common.{◌≡◌, ◌≢◌, ℕ, zero, suc, ◌-◌, ◌<◌, ◌≤◌, List, [], ◌∷◌, ◌++◌, Option, Some, None, length, take, drop}
use Rattle.std.proofs.Common.{get_or, refl, ap, sym, ◌∙◌, append_assoc, append-nil, arith}
use Rattle.std.proofs.lemmas.Bool.{ne_eqb}
use Rattle.std.specs.Prelude.{option_map}
use Rattle.cm_strace_text.proofs.Cuts.{after_first}
use Rattle.cm_strace_text.specs.Quotes.{preceded}
use Rattle.model_strace.specs.Quoted.{Reach, Step, Text, Goes, after_bytes, step, stepped, unquoted}

-- bytes before others, and these before what is read
after_both : (old made : List ℕ) (read : Option (List ℕ × List ℕ))
    → option_map (after_bytes old) (option_map (after_bytes made) read) ≡ option_map (after_bytes (old ++ made)) read
after_both old made None = refl
after_both old made (Some sides) = ap (λ bytes. Some (bytes, sides.1)) (sym (append_assoc old made sides.0))

-- what is read after bytes is what is read of the step after them
step_after : (old : List ℕ) (s : Step) (text : List ℕ) (next : Reach → Option (List ℕ × List ℕ))
    → option_map (after_bytes old) (stepped s text next) ≡ stepped (preceded old s) text next
step_after old (Goes made reach) text next = after_both old made (next reach)
step_after old _ text next = refl

-- a byte more of what is left, after which the reader goes on
pub byte_more : (old made : List ℕ) (reach reached : Reach) (text : List ℕ) → 1 ≤ length text
    → Goes made reached ≡ preceded old (step reach (get_or text 0 0))
    → option_map (after_bytes made) (unquoted reached (take (length text - 1) (drop 1 text)))
    ≡ option_map (after_bytes old) (unquoted reach text)
byte_more old made reach reached [] some is = absurd (omega arith)
byte_more old made reach reached (byte ∷ text) some is =
    ap (λ (left : List ℕ). option_map (after_bytes made) (unquoted reached left)) (after_first byte text)
    ∙ ap (λ (s : Step). stepped s text (λ reach'. unquoted reach' text)) is
    ∙ sym (step_after old (step reach byte) text (λ reach'. unquoted reach' text))

-- a byte that is no quote and no backslash stands for itself
plain_step : (byte : ℕ) → byte ≢ 34 → byte ≢ 92 → step Text byte ≡ Goes (byte ∷ []) Text
plain_step byte quote slash = rw (ne_eqb byte 34 quote, ne_eqb byte 92 slash) refl

-- one of them, and what is read after it
plain_byte : (old : List ℕ) (byte : ℕ) (text : List ℕ) → byte ≢ 34 → byte ≢ 92
    → option_map (after_bytes (old ++ byte ∷ [])) (unquoted Text text)
    ≡ option_map (after_bytes old) (unquoted Text (byte ∷ text))
plain_byte old byte text quote slash =
    sym (after_both old (byte ∷ []) (unquoted Text text))
    ∙ ap (λ (s : Step). option_map (after_bytes old) (stepped s text (λ reach. unquoted reach text)))
    (sym (plain_step byte quote slash))

-- so many of them
pub plain_run : (old text : List ℕ) (n : ℕ) → n ≤ length text
    → ((k : ℕ) → 0 ≤ k → k < n → (get_or text k 0 ≢ 34) × (get_or text k 0 ≢ 92))
    → option_map (after_bytes (old ++ take n text)) (unquoted Text (drop n text))
    ≡ option_map (after_bytes old) (unquoted Text text)
plain_run old text zero within none =
    ap (λ (bytes : List ℕ). option_map (after_bytes bytes) (unquoted Text text)) (append-nil old)
plain_run old [] (suc n) within none = absurd (omega (arith, within))
plain_run old (byte ∷ text) (suc n) within none =
    let here : (byte ≢ 34) × (byte ≢ 92) = none 0 (omega arith) (omega arith) in
    ap (λ (bytes : List ℕ). option_map (after_bytes bytes) (unquoted Text (drop n text)))
    (sym (append_assoc old (byte ∷ []) (take n text)))
    ∙ plain_run (old ++ byte ∷ []) text n (omega (arith, within))
    (λ k low below. none (suc k) (omega arith) (omega (arith, below)))
    ∙ plain_byte old byte text here.0 here.1
