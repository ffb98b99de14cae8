-- Lines that stand as events are written: which tokens may stand in one, and what it is to read arguments from the
-- front of a text, each as it is written.
use Rattle.std.specs.Prelude.{◌≡◌, ℕ, ◌<◌, length, nat_lt, false, List, ◌++◌, All, IsTrue, Some}
use Rattle.std.specs.List.{list_all}
use Rattle.cm_base.specs.declared.res.FileRef.{FileRef}
use Rattle.cm_filter.specs.declared.kind.CallKind.{CallKind}
use Rattle.model_cred.specs.Call.{Call, kind_of}
use Rattle.model_cred.specs.Files.{FileTable}
use Rattle.model_cred.specs.World.{World}
use Rattle.model_text.specs.Arguments.{Argument, Space, File, arguments_of, spaced_text, spaced_texts}
use Rattle.model_text.specs.SpaceToken.{space_of_token, space_token}
use Rattle.model_text.specs.Token.{file_text, file_token, is_equals}
use Rattle.model_text.specs.Written.{InstallsFilter, IsInRange}

-- bytes above the blank alone
abbrev pub IsPlain : List ℕ → Type 0
IsPlain text = IsTrue (list_all (λ byte. nat_lt 32 byte) text)

-- A word is a token that a line may have: at least one byte and fewer than 4096, each above the blank, and not `=`.
pub record IsWord (text : List ℕ) : Type 0 where
  pub some : 0 < length text
  pub short : length text < 4096
  pub plain : IsPlain text
  pub other : is_equals text ≡ false

-- The space is written as a word, which is read as the space.
pub record IsOwnSpace (names : List (List ℕ)) (n : ℕ) : Type 0 where
  pub word : IsWord (space_token names n)
  pub back : space_of_token names (space_token names n) ≡ Some n

-- The file is written as a word, which is read as the file.
pub record IsOwnFile (files : FileTable) (file : FileRef) : Type 0 where
  pub word : IsWord (file_text files file)
  pub back : file_token files (file_text files file) ≡ Some file

-- the argument is read as it is written
abbrev pub IsOwn : World → Argument → Type 0
IsOwn w (Space n) = IsOwnSpace w.names n
IsOwn w (File file) = IsOwnFile w.files file
IsOwn w argument = IsInRange w argument

-- The text is that of an argument after a blank, as it is written, and this after it.
pub record Takes (w : World) (text : List ℕ) (argument : Argument) (rest : List ℕ) : Type 0 where
  pub written : text ≡ spaced_text w argument ++ rest
  pub own : IsOwn w argument

-- The text is that of arguments, each after a blank and as it is written, and this after them.
pub record TakesAll (w : World) (text : List ℕ) (arguments : List Argument) (rest : List ℕ) : Type 0 where
  pub written : text ≡ spaced_texts w arguments ++ rest
  pub own : All (IsOwn w) arguments

-- The text is that of the arguments of the call, which is of that kind, and this after them.
pub record TakesCall (w : World) (kind : CallKind) (text : List ℕ) (call : Call) (rest : List ℕ) : Type 0 where
  pub of_kind : kind_of call ≡ kind
  pub filter : InstallsFilter call
  pub arguments : TakesAll w text (arguments_of call) rest
