-- Where the code's reader of arguments stops, in the words of the definitions, and the arguments that are left.
use Rattle.std.specs.Prelude.{ℕ, ◌+◌, ◌==◌, ◌&&◌, ◌||◌, Bool, map, List, [], ◌∷◌, Option, Some, None, if◌then◌else◌}
use Rattle.std.specs.Borrow.{Bor}
use Rattle.cm_strace_text.specs.declared.arguments.End.{End}
use Rattle.cm_strace_text.specs.declared.arguments.End.TheVariants as end
use Rattle.model_strace.specs.Marks.{trimmed}
use Rattle.model_strace.specs.Written as model
use Rattle.model_strace.specs.Written.{depth_after, is_outside, comma_parts, opens, closes}

-- the byte is a quote, a comma or a bracket
abbrev pub is_stop : ℕ → Bool
is_stop byte = byte == 34 || byte == 44 || opens byte || closes byte

-- the byte is such an end
abbrev pub ends_at : End → ℕ → Bool
ends_at end.Comma byte = byte == 44
ends_at end.Closing byte = closes byte

-- how many bytes stand before the first such end outside of all brackets and quotes
abbrev pub len_to : (ℕ → Bool) → model.Depth → List ℕ → ℕ
len_to ends depth [] = 0
len_to ends depth (byte ∷ text) = if is_outside depth && ends byte then 0 else 1 + len_to ends (depth_after depth byte) text

-- the parts that are left in a text, where there is one
abbrev pub parts_in : Option (Bor (List ℕ)) → List (List ℕ)
parts_in None = []
parts_in (Some text) = comma_parts (model.Open 0) text.now

-- the arguments that are left in a text, where there is one
abbrev pub arguments_in : Option (Bor (List ℕ)) → List (List ℕ)
arguments_in text = map trimmed (parts_in text)

-- the parts after the first one, in what stands from its end on
abbrev pub parts_after : List ℕ → List (List ℕ)
parts_after [] = []
parts_after (byte ∷ text) = comma_parts (model.Open 0) text
