-- The sets that values of JSON stand for: of capabilities as texts, of ids as arrays of intervals.
use Rattle.std.specs.Prelude.{ℕ, List, [], ◌∷◌, bytes_eq, Option, Some, None, if◌then◌else◌}
use Rattle.std.specs.Prelude.{option_map, option_and_then}
use Rattle.model_cred.specs.Intervals.{Interval}
use Rattle.model_text.specs.CapText.{set_of_text}
use Rattle.model_text.specs.Hex.{hex_set}
use Rattle.model_cert.specs.Json.{number_of}
use Rattle.serde_json.specs.Data.{Data, Items, no_items, item}
use Rattle.serde_json.specs.Find.{as_array, as_str}

-- the set, if the text is its 16 digits in lower case
abbrev pub in_digits : List ℕ → ℕ → Option ℕ
in_digits text set = if bytes_eq text (hex_set set) then Some set else None

-- the set of capabilities whose 16 digits in lower case the text is: it reads as a set of a world does, and as that set
-- is written
unfoldable pub set_of : List ℕ → Option ℕ
set_of text = option_and_then (in_digits text) (set_of_text text)

-- a set of capabilities
abbrev pub caps_of : Data → Option ℕ
caps_of d = option_and_then set_of (as_str d)

-- the interval from the one to the other, in whatever order they are
abbrev pub interval_from : Option ℕ → Option ℕ → Option Interval
interval_from first last = option_and_then (λ f. option_map (λ l. record { first = f; last = l }) last) first

-- an interval has two ends
abbrev pub two_ends : Items → Option Interval
two_ends no_items = None
two_ends (item first no_items) = None
two_ends (item first (item last no_items)) = interval_from (number_of first) (number_of last)
two_ends (item first (item last (item more ds))) = None

-- an interval
abbrev pub interval_of : Data → Option Interval
interval_of d = option_and_then two_ends (as_array d)

-- intervals, in whatever order they are
abbrev pub intervals_of : Items → Option (List Interval)
intervals_of no_items = Some []
intervals_of (item d ds) = option_and_then (λ i. option_map (λ list. i ∷ list) (intervals_of ds)) (interval_of d)

-- a set of ids
abbrev pub ids_of : Data → Option (List Interval)
ids_of d = option_and_then intervals_of (as_array d)
