-- A row that is to be put into bounds, and a right.
use Rattle.std.specs.Prelude.{ℕ}
use Rattle.model_cred.specs.Right.{Right}
use Rattle.model_cred.specs.Space.{Spaces}
use Rattle.model_box.specs.Meets.{MeetsAt}
use Rattle.model_box.specs.Row.{Part, Row}

-- The row would meet the right in that place. (Whether bounds meet it there is seen from their row there alone.)
abbrev pub RowMeets : Spaces → (Part → ℕ → Type 0) → Right → Row → Type 0
RowMeets spaces row right place = MeetsAt spaces (λ _. row) right place
