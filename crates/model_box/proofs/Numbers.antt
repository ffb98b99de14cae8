-- Rules and rows by their numbers: a rule is one of fourteen, and a row's space is half its number.
use Rattle.std.proofs.Common.{◌≡◌, ℕ, ◌*◌, ◌/◌, ◌%◌, ◌<◌, ◌==◌, Bool, true, false, refl, arith, lit<}
use Rattle.std.specs.Prelude.{if◌then◌else◌}
use Rattle.model_box.specs.Row.{Row, Standing, Fresh, row_number, row_at, space_under}
use Rattle.model_box.specs.Rule.{Rule, SetUid, rule_number}

-- the rule of a number is one of fourteen
pub rule_low : (rule : Rule) → rule_number rule < 14
rule_low SetUid = lit< tt
rule_low _ = lit< tt

-- the space of a row by its number
pub under_half : (y : ℕ) → space_under (row_at y) ≡ y / 2
under_half y = by (y % 2 == 0) where
  by : (b : Bool) → space_under (if b then Standing (y / 2) else Fresh (y / 2)) ≡ y / 2
  by true = refl
  by false = refl

-- so the rows of so many spaces are those below twice as many
pub number_low : (row : Row) (n : ℕ) → space_under row < n → row_number row < 2 * n
number_low (Standing m) n low = omega (arith, low)
number_low (Fresh m) n low = omega (arith, low)
