-- What each kind of verdict says.
use Rattle.std.specs.Prelude.{ℕ, Bool, true, false, List}
use Rattle.cm_audit.specs.Told.{Told, TellsNo, TellsYes, TellsUndecided}
use Rattle.model_box.specs.Bounds.{bounds_hold}
use Rattle.model_cred.specs.Process.{State}
use Rattle.model_cred.specs.Right.{Right}
use Rattle.model_cred.specs.World.{World}
use Rattle.model_verdict.specs.Decides.{LeastIn}
use Rattle.model_verdict.specs.InWorld.{BelowIn, BlameIn, FirstRunIn}

-- ---- kinds
abbrev pub is_yes : Told → Bool
is_yes (TellsYes rows) = true
is_yes _ = false

abbrev pub is_no : Told → Bool
is_no (TellsNo found) = true
is_no _ = false

abbrev pub is_undecided : Told → Bool
is_undecided (TellsUndecided blame rows) = true
is_undecided _ = false

-- ---- what they tell
-- A yes: the least bounds that are closed and cover the members.
abbrev pub YesIsLeast : World → State → List ℕ → Told → Type 0
YesIsLeast w s members (TellsYes rows) = LeastIn w s members (bounds_hold rows)
YesIsLeast w s members _ = Unit {0}

-- A no: the run of the first plan that ends with a holder, a later run, and the least holder.
abbrev pub NoIsFirst : World → State → List ℕ → Right → Told → Type 0
NoIsFirst w s members right (TellsNo found) = FirstRunIn w s members right found
NoIsFirst w s members right _ = Unit {0}

-- An undecided: what is blamed, with the bounds just before.
abbrev pub UndecidedIsBlamed : World → State → List ℕ → Right → Told → Type 0
UndecidedIsBlamed w s members right (TellsUndecided blame rows) = BlameIn w s members right blame (bounds_hold rows)
UndecidedIsBlamed w s members right _ = Unit {0}

-- These are within all bounds that are closed and cover the members, and what is blamed brings the right into them.
abbrev pub UndecidedIsBelow : World → State → List ℕ → Right → Told → Type 0
UndecidedIsBelow w s members right (TellsUndecided blame rows) = BelowIn w s members right blame (bounds_hold rows)
UndecidedIsBelow w s members right _ = Unit {0}
