-- A file without a group has no member.
use Rattle.std.proofs.Common.{◌≡◌, ℕ, false, List, [], ◌∷◌, None, refl}
use Rattle.std.specs.List.{list_any}
use Rattle.model_cred.specs.IdMap.{is_the}

pub none_is : (ids : List ℕ) → list_any (is_the None) ids ≡ false
none_is [] = refl
none_is (id ∷ ids) = none_is ids
