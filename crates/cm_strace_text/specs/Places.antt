-- The parts of a call in the code, and its signs and the ends of quoted texts from a place on, in the words of the
-- definitions.
use Rattle.std.specs.Prelude.{ℕ, ◌+◌, ◌==◌, ◌&&◌, Bool, false, not, drop, List, [], ◌∷◌, Option, if◌then◌else◌}
use Rattle.cm_strace_text.specs.declared.written.Written.{Written}
use Rattle.model_strace.specs.Written as model

-- the places of the last sign in what stands from a place on
abbrev pub sign_from : model.Place → ℕ → List ℕ → Option (ℕ × ℕ)
sign_from place at text = model.last_sign place at (drop at text)

-- how many bytes stand in the rest of a quoted text, its last quote among them, after a backslash or not; and all, where it
-- isn't closed
abbrev pub quote_len : Bool → List ℕ → ℕ
quote_len escaped [] = 0
quote_len escaped (byte ∷ text) =
    if not escaped && byte == 34 then 1 else 1 + quote_len (not escaped && byte == 92) text

-- the place after the quote that ends a quoted text, which goes on at that place, or the text's end
unfoldable pub quote_end : ℕ → List ℕ → ℕ
quote_end at text = at + quote_len false (drop at text)

-- the parts of the definitions
abbrev pub written_is : Written → model.Written
written_is parts = record { inside = parts.inside.now; result = parts.result.now }
