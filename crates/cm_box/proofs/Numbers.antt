-- Rows by their numbers: those below twice the number of spaces are the rows of standing spaces.
use Rattle.std.proofs.Common.{ℕ, ◌*◌, ◌<◌, subst, arith}
use Rattle.model_box.specs.Row.{Row, row_at, row_number, space_under}
use Rattle.model_box.proofs.Numbers.{under_half, number_low}
use Rattle.model_box.proofs.Starts.{row_back}

pub under_low : (y n : ℕ) → y < 2 * n → space_under (row_at y) < n
under_low y n low = omega (arith, under_half y)

-- what holds of each number below that holds of each row of a standing space
pub all_rows : (P : Row → Type 0) (n : ℕ) → ((y : ℕ) → y < 2 * n → P (row_at y)) → (row : Row) → space_under row < n
    → P row
all_rows P n each row low = subst P (row_back row) (each (row_number row) (number_low row n low))
