-- The ids that may be inside 0 of a standing space, by whether its map is written.
use Rattle.std.proofs.Common.{◌≡◌, ◌∙◌, ℕ, Bool, false, List, Option, None, Some, sym}
use Rattle.std.specs.Prelude.{◌↔◌, IsTrue, is_some}
use Rattle.std.proofs.lemmas.Bool.{false≢true}
use Rattle.model_cred.specs.IdMap.{Extent, down, extents_of, is_the}
use Rattle.model_cred.specs.Space.{Space}
use Rattle.model_rules.specs.Zero.{is_zero}
use Rattle.model_box.specs.Files.{MayBeZero}

module _ (space : Space) (Mapped : ℕ → Type 0) (id : ℕ) (b : Bool) where
  pub zero_written : IsTrue (is_some space.uids) → b ≡ is_zero space id → IsTrue b ↔ MayBeZero space.uids Mapped id
  zero_written written same = by space.uids written same where
    by : (map : Option (List Extent)) → IsTrue (is_some map) → b ≡ is_the (down (extents_of map) 0) id
        → IsTrue b ↔ MayBeZero map Mapped id
    by (Some map) written same = (λ is. sym same ∙ is, λ is. same ∙ is)
    by None wrong same = absurd (false≢true wrong)

  pub zero_mapped : false ≡ is_some space.uids → IsTrue b ↔ Mapped id → IsTrue b ↔ MayBeZero space.uids Mapped id
  zero_mapped unwritten told = by space.uids unwritten where
    by : (map : Option (List Extent)) → false ≡ is_some map → IsTrue b ↔ MayBeZero map Mapped id
    by None unwritten = told
    by (Some map) wrong = absurd (false≢true wrong)
