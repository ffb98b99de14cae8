-- What kept credential lines keep true: the text of each part is that of the values that the part shows.
use Rattle.std.specs.Prelude.{◌≡◌, ◌<◌, ◌≤◌, ◌++◌, ℕ, List, All, IfSome, codes, decimal, length}
use Rattle.model_text.specs.Print.{groups_text}
use Rattle.model_text.specs.SpaceToken.{space_token}
use Rattle.cm_credentials.specs.declared.kept.KeptLines.{KeptLines}
use Rattle.cm_credentials.specs.declared.kept.KeptLine.{KeptLine}
use Rattle.cm_credentials.specs.declared.short_text.KeptNumber.{KeptNumber}
use Rattle.cm_credentials.specs.declared.short_text.KeptPlace.{KeptPlace}
use Rattle.cm_credentials.specs.declared.kept.KeptGroups.{KeptGroups}

-- a pid and a space, where the declared spaces have these names
abbrev pub KeepsPlace : List (List ℕ) → KeptPlace → Type 0
KeepsPlace names part = IfSome part.shown (λ place. part.text ≡
    codes "> " ++ decimal place.pid ++ codes " " ++ space_token names place.space.0)

-- Groups, where there is one, and no more of them than 40.
pub record KeepsGroups (part : KeptGroups) : Type 0 where
  pub few : length part.groups.items ≤ 40
  pub text : 0 < length part.groups.items → part.text.items ≡ codes " groups=" ++ groups_text part.groups.items

-- The place and the groups. The ids and the end keep what they show by their types.
pub record KeepsLine (names : List (List ℕ)) (line : KeptLine) : Type 0 where
  pub place : KeepsPlace names line.place
  pub groups : KeepsGroups line.groups

-- the number of the last line, with a colon and a space after it
abbrev pub KeepsNumber : KeptNumber → Type 0
KeepsNumber part = IfSome part.shown (λ number. part.text ≡ decimal number ++ codes ": ")

-- Each of the sixteen lines, and the number.
pub record Keeps (names : List (List ℕ)) (kept : KeptLines) : Type 0 where
  pub sixteen : length kept.lines.items ≡ 16
  pub lines : All (KeepsLine names) kept.lines.items
  pub number : KeepsNumber kept.number
