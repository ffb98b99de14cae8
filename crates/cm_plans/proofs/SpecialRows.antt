-- The rows that are tried in pairs, one by one.
use Rattle.std.proofs.Common.{◌≡◌, ℕ, Bool, true, false, List, [], ◌∷◌, ◌++◌, if◌then◌else◌, refl}
use Rattle.std.specs.Prelude.{slice_get}
use Rattle.cm_plans.specs.Special.{special_of}
use Rattle.model_cred.specs.Files.{FileRow}
use Rattle.model_plans.specs.Plan.{is_special}

pub special_step : (rows : List FileRow) (k : ℕ) (ns : List ℕ) → special_of rows (k ∷ ns) ≡ special_of rows (k ∷ []) ++ special_of rows ns
special_step rows k ns =
    elim (is_special (slice_get rows k))
    as (λ (b : Bool). (if b then k ∷ special_of rows ns else special_of rows ns) ≡ (if b then k ∷ [] else []) ++ special_of rows ns) [
      | true ↦ refl
      | false ↦ refl
    ]
