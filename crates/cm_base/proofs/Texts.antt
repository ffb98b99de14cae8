-- Texts that are compared byte by byte.
use Rattle.std.proofs.Common.{◌≡◌, ◌≢◌, ℕ, false, List}
use Rattle.std.specs.Prelude.{bytes_eq}
use Rattle.std.proofs.lemmas.Bool.{false_from_ne_true}
use Rattle.std.proofs.lemmas.Slice.Eq.{bytes_eq-Decides}

-- two texts that differ are two
pub text_other : (text other : List ℕ) → text ≢ other → bytes_eq text other ≡ false
text_other text other differ = false_from_ne_true (bytes_eq text other) (λ same. differ ((bytes_eq-Decides text other).0 same))
