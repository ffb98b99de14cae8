-- Lists that hold all of an interval, and what is left of them from there on.
use Rattle.std.specs.Prelude.{◌≡◌, ℕ, ◌≤◌, List}
use Rattle.model_cred.specs.Intervals.{Interval, ids_hold, IsCanonical}
use Rattle.cm_idset.specs.Held.{Held, Between}

-- The list holds all of the interval; what is left of it is canonical, and holds what it holds from there on.
pub record Covers (list rest : List Interval) (i : Interval) : Type 0 where
  pub all : (id : ℕ) → Between i id → Held list id
  pub canonical : IsCanonical rest
  pub same : (id : ℕ) → i.first ≤ id → ids_hold rest id ≡ ids_hold list id

-- The same of what two intervals have in common.
pub record CoversCommon (list rest : List Interval) (i j : Interval) : Type 0 where
  pub all : (id : ℕ) → Between i id → Between j id → Held list id
  pub canonical : IsCanonical rest
  pub same : (id : ℕ) → i.first ≤ id → j.first ≤ id → ids_hold rest id ≡ ids_hold list id
