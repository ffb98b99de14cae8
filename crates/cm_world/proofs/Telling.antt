-- What an answer of the reader tells of a text.
use Rattle.std.proofs.Common.{◌≡◌, ℕ, List, Result, Ok, Err, IfOk, ap, inl, inr}
use Rattle.std.proofs.lemmas.Bool.{cases_Bool}
use Rattle.std.proofs.lemmas.Str.{IsUtf8-from_is_utf8}
use Rattle.std.specs.Str.{IsUtf8, is_utf8}
use Rattle.cm_base.specs.declared.faults.Table.{Table}
use Rattle.cm_base.specs.declared.faults.Table.TheVariants as table
use Rattle.cm_base.specs.declared.faults.WorldFault.{WorldFault}
use Rattle.cm_base.specs.declared.faults.WorldFault.TheVariants.{Toml}
use Rattle.cm_base.specs.declared.limited.Limited.{Limited}
use Rattle.cm_world.specs.declared.error.WorldError.{WorldError}
use Rattle.cm_world.specs.declared.error.WorldError.TheVariants as error
use Rattle.cm_world.specs.Answers.{IsAnswer}
use Rattle.cm_declared.specs.World.{world_of}
use Rattle.cm_declared.specs.declared.world.World as code
use Rattle.model_text.specs.Refusal.{At}
use Rattle.model_text.proofs.KeepsNames.{declared_names_keep}
use Rattle.model_text.specs.WorldText.{Bad, Exceeds, read_text, text_as, world_text}
use Rattle.model_text.specs.Written.{DeclaredNamesKeep, KeepsNames}

module _ (r : Result code.World WorldError) (bytes : List ℕ) (answer : IsAnswer r (read_text bytes)) where
  pub bad_told : (t : Table) (row : ℕ) (why : WorldFault) → r ≡ Err (error.Bad t row why) → world_text bytes ≡ Bad t row why
  bad_told t row why is = ap text_as (rw is at answer)

  pub limit_told : (l : Limited) → r ≡ Err (error.Limit l) → world_text bytes ≡ Exceeds l
  limit_told l is = ap text_as (rw is at answer)

-- the names and paths of a world that it tells are names and paths
pub names_told : (r : Result code.World WorldError) (bytes : List ℕ) → IsAnswer r (read_text bytes) → IfOk r (λ w. KeepsNames (world_of w))
unfolding DeclaredNamesKeep
names_told (Ok w) bytes answer = declared_names_keep bytes (world_of w) (ap text_as answer)
names_told (Err why) bytes answer = tt

-- bytes that are no text
pub not_utf8 : (bytes : List ℕ) → ¬ IsUtf8 bytes → read_text bytes ≡ Err (At table.Whole 0 Toml)
not_utf8 bytes not_text =
    elim (cases_Bool (is_utf8 bytes)) [
      | inl text ↦ absurd (not_text (IsUtf8-from_is_utf8 bytes text))
      | inr other ↦ rw other
    ]
