-- The numbers that the drill draws (choice): those of a linear congruential generator modulo 2 ^ 64, of which each draw
-- gives the upper half.
use Rattle.std.specs.Prelude.{ℕ, zero, suc, ◌+◌, ◌*◌, ◌/◌, ◌%◌, ◌^◌}

-- the number after one draw
unfoldable pub next_number : ℕ → ℕ
next_number x = (x * 6364136223846793005 + 1442695040888963407) % 2 ^ 64

-- the number after so many draws
abbrev pub number_after : ℕ → ℕ → ℕ
number_after zero x = x
number_after (suc count) x = number_after count (next_number x)

-- what the next draw gives: a number below 2 ^ 32
unfoldable pub drawn : ℕ → ℕ
drawn x = next_number x / 2 ^ 32
