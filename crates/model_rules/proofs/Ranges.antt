-- Ids that lie in a range.
use Rattle.std.proofs.Common.{◌≡◌, ℕ, ◌+◌, ◌<◌, ◌≤◌, true}
use Rattle.std.specs.Prelude.{nat_lt, nat_le}
use Rattle.std.proofs.lemmas.Bool.{and_parts, and_from, ltb-true, leb-true, lt-ltb, le-leb}
use Rattle.model_cred.specs.IdMap.{lies_in}

pub lies_parts : (first count id : ℕ) → lies_in first count id ≡ true → (first ≤ id) × (id < first + count)
lies_parts first count id is =
    let parts = and_parts (nat_le first id) (nat_lt id (first + count)) is in
    (leb-true first id parts.0, ltb-true id (first + count) parts.1)

pub lies_from : (first count id : ℕ) → first ≤ id → id < first + count → lies_in first count id ≡ true
lies_from first count id low high = and_from _ _ (le-leb first id low) (lt-ltb id (first + count) high)
