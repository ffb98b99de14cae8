-- The first byte of a path after its root, where the path can't be one in /proc.
use Rattle.std.specs.Prelude.{◌≢◌, ℕ}

-- neither a `p`, nor a byte that a path, an escape or a quoted text takes otherwise: a slash, a backslash, a quote
abbrev pub IsOther : ℕ → Type 0
IsOther byte = (byte ≢ 112) × (byte ≢ 47) × (byte ≢ 92) × (byte ≢ 34)
