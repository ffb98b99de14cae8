-- Pids that stand at the front of a line, digit by digit.
use Rattle.std.proofs.Common.{◌≡◌, ℕ, ◌+◌, ◌-◌, ◌*◌, ◌<◌, ◌≤◌, suc, length, take, true, false, List, [], ◌∷◌, Option, Some, None}
use Rattle.std.proofs.Common.{refl, ap, sym, ◌∙◌, arith}
use Rattle.std.proofs.lemmas.Bool.{and_from, cond-true, le-leb}
use Rattle.std.specs.List.{list_all, prefix_len}
use Rattle.std.specs.Prelude.{fold, nat_le, if◌then◌else◌}
use Rattle.cm_base.specs.Limits.{greatest_number, last_pid}
use Rattle.cm_base.specs.Number.{is_digit}
use Rattle.cm_strace_text.proofs.Cuts.{no_blank}
use Rattle.model_cred.specs.Process.{as_pid, is_pid}
use Rattle.model_strace.specs.Marks.{first_word, after_first_word}
use Rattle.model_text.specs.Cut.{is_blank}

-- the number that digits spell after digits of that value
abbrev pub number_on : ℕ → List ℕ → ℕ
number_on number text = fold (λ before byte. 10 * before + (byte - 48)) number text

-- the pid that they spell
abbrev pub pid_on : ℕ → List ℕ → Option ℕ
pid_on number text =
    if list_all (is_digit 10) text
    then (if nat_le (number_on number text) greatest_number then as_pid (number_on number text) else None)
    else None

-- a digit is no blank
digit_shows : (digit : ℕ) → digit < 10 → is_blank (48 + digit) ≡ false
digit_shows digit low = grind arith

-- so a first word goes on with it
word_goes_on : (digit : ℕ) (text : List ℕ) → digit < 10
    → first_word ((48 + digit) ∷ text) ≡ (48 + digit) ∷ first_word text
word_goes_on digit text low =
    let more : 1 + prefix_len no_blank text ≡ suc (prefix_len no_blank text) = omega arith in
    rw (digit_shows digit low, more) refl

-- and a pid too
pub pid_goes_on : (number digit : ℕ) (text : List ℕ) → digit < 10
    → pid_on number (first_word ((48 + digit) ∷ text)) ≡ pid_on (10 * number + digit) (first_word text)
pid_goes_on number digit text low =
    let word : List ℕ = first_word text in
    let digits : is_digit 10 (48 + digit) ≡ true = grind arith in
    let same : (48 + digit) - 48 ≡ digit = omega arith in
    let value : number_on number ((48 + digit) ∷ word) ≡ number_on (10 * number + digit) word =
    ap (λ (d : ℕ). number_on (10 * number + d) word) same in
    ap (pid_on number) (word_goes_on digit text low) ∙ rw (digits, value) refl

-- what follows the first word follows it after its first byte
pub rest_goes_on : (digit : ℕ) (text : List ℕ) → digit < 10
    → after_first_word ((48 + digit) ∷ text) ≡ after_first_word text
rest_goes_on digit text low =
    let n : ℕ = prefix_len no_blank text in
    let more : 1 + n ≡ suc n = omega arith in
    let longer : length ((48 + digit) ∷ take n text) ≡ suc (length (take n text)) = omega arith in
    rw (digit_shows digit low, more, longer) refl

-- digits with no more of them after them spell their number, where it is a pid
pub pid_ends : (number pid : ℕ) (text : List ℕ) → first_word text ≡ [] → (1 ≤ number) × (number ≤ last_pid) → pid ≡ number
    → pid_on number (first_word text) ≡ Some pid
pid_ends number pid text none fits same =
    let small : number ≤ 4194304 = fits.1 in
    let low : number ≤ 4294967295 = omega (arith, small) in
    ap (pid_on number) none
    ∙ cond-true (nat_le number greatest_number) (as_pid number) None (le-leb number greatest_number low)
    ∙ cond-true (is_pid number) (Some number) None
    (and_from (nat_le 1 number) (nat_le number last_pid) (le-leb 1 number fits.0) (le-leb number last_pid fits.1))
    ∙ ap (λ (n : ℕ). Some n) (sym same)
