-- Which ids are outside ids of a map.
use Rattle.std.proofs.Common.{◌≡◌, ◌+◌, ◌-◌, ℕ, Bool, true, false, cond, List, [], ◌∷◌, Some, refl}
use Rattle.std.specs.Prelude.{is_some}
use Rattle.model_cred.specs.IdMap.{Extent, up, is_outside, lies_in}

-- just those that stand for an inside id
pub up_outside : (map : List Extent) (id : ℕ) → is_some (up map id) ≡ is_outside map id
up_outside [] id = refl
up_outside (e ∷ map) id =
    elim (lies_in e.outside e.length id)
    as (λ (b : Bool). is_some (cond b (Some (e.inside + (id - e.outside))) (up map id)) ≡ cond b true (is_outside map id)) [
      | true ↦ refl
      | false ↦ up_outside map id
    ]
