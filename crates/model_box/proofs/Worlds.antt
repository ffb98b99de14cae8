-- What the laws of bounds ask of a state and of declared files, from what these keep.
use Rattle.std.proofs.Common.{◌≡◌, ℕ, ◌<◌, Some, None, Option, List, length, refl}
use Rattle.std.specs.Prelude.{All, IfSome, IsSomeAnd, slice_get, option_and_then}
use Rattle.std.proofs.lemmas.Bool.{lt-ltb}
use Rattle.std.proofs.lemmas.Option.{get_or_from_slice_get, slice_get_within}
use Rattle.model_cred.specs.Call.{Event}
use Rattle.model_cred.specs.Files.{FileRow, FileTable, Mount, IsProgram, KeepsFiles}
use Rattle.model_cred.specs.Process.{State, KeepsState}
use Rattle.model_cred.specs.Space.{Spaces}
use Rattle.model_cred.specs.World.{World, KeepsWorld}
use Rattle.model_rules.specs.Exec.{interpreter_of}
use Rattle.model_run.specs.Step.{Run}
use Rattle.model_box.specs.Covers.{StateFits}
use Rattle.model_box.specs.Files.{FilesFit}
use Rattle.model_box.proofs.Grows.{run_keeps_files}

-- what holds of all elements holds of the one at a place
at_place : {A : Type 0} (P : A → Type 0) (xs : List A) → All P xs → (k : ℕ) (x : A) → slice_get xs k ≡ Some x → P x
at_place P xs all k x at = rw (get_or_from_slice_get xs k x x at) at (all k x (slice_get_within xs k x at))

module _ (files : FileTable) (spaces : Spaces) (keeps : KeepsFiles files) (standing : All (λ m. m.space < length spaces) files.mounts) where
  interpreters : (row k : ℕ) → interpreter_of files row ≡ Some k → interpreter_of files k ≡ None
  interpreters row k at = script (slice_get files.rows row) refl at where
    program : (o : Option FileRow) → IsSomeAnd o (λ f. f.interpreter ≡ None) → option_and_then (λ (f : FileRow). f.interpreter) o ≡ None
    program None wrong = absurd wrong
    program (Some f) none = none

    script : (o : Option FileRow) → slice_get files.rows row ≡ o
        → option_and_then (λ (f : FileRow). f.interpreter) o ≡ Some k → interpreter_of files k ≡ None
    script None same at' = absurd (cc)
    script (Some f) same at' =
        program (slice_get files.rows k)
        (rw at' at (at_place (λ (f : FileRow). IfSome f.interpreter (IsProgram files.rows)) files.rows keeps.interpreters row f same))

  -- Files that keep what declared files keep are as the laws of bounds ask, where the spaces of their mounts stand.
  pub files_fit : FilesFit files spaces
  files_fit = record {
    mounts = λ k m at. lt-ltb m.space (length spaces) (at_place (λ (m : Mount). m.space < length spaces) files.mounts standing k m at);
    interpreters = interpreters;
  }

-- So are those of each world, at the log's beginning and after each run.
pub run_fits : (w : World) → KeepsWorld w → (events : List Event) (later : State) → Run w w.start events later → FilesFit w.files later.spaces
run_fits w keeps events later run =
    run_keeps_files w w.start events later run (files_fit w.files w.start.spaces keeps.files keeps.mounts)

-- A state that keeps what every state keeps is as the laws of bounds ask.
pub state_fits : (s : State) → KeepsState s → StateFits s
state_fits s keeps = record {
  tree = keeps.tree;
  stands = keeps.stands;
  included = λ k p low. (keeps.credentials k p low).included;
}
