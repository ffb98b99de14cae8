-- Lines that are blank, and those that aren't.
use Rattle.std.proofs.Common.{◌≡◌, ◌==◌, true, false, List, ℕ, [], ◌∷◌, length, refl, arith}
use Rattle.std.proofs.lemmas.Bool.{true≢false, eqb-true}
use Rattle.model_strace.specs.Body.{Blank, row_cut, pid_row}
use Rattle.model_strace.specs.Marks.{first_word, after_first_word}
use Rattle.model_text.specs.Token.{pid_token}

-- a line without a byte
pub blank_row : (text : List ℕ) → (length text == 0) ≡ true → Blank ≡ row_cut text
blank_row [] none = refl
blank_row (byte ∷ text) none = absurd (omega (arith, eqb-true (length (byte ∷ text)) 0 none))

-- one with some
pub begun_row : (text : List ℕ) → (length text == 0) ≡ false
    → row_cut text ≡ pid_row (pid_token (first_word text)) (after_first_word text)
begun_row [] some = absurd (true≢false some)
begun_row (byte ∷ text) some = refl
