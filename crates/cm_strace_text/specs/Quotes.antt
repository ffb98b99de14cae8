-- The code's reader of quoted texts in the words of the definitions.
use Rattle.std.specs.Prelude.{ℕ, List, ◌++◌, ◌≤◌}
use Rattle.cm_strace_text.specs.declared.quoted.Reach.{Reach}
use Rattle.cm_strace_text.specs.declared.quoted.Reach.TheVariants as reach
use Rattle.cm_strace_text.specs.declared.quoted.Move.{Move}
use Rattle.cm_strace_text.specs.declared.quoted.Move.TheVariants as move
use Rattle.cm_strace_text.specs.declared.quoted.Quote.{Quote}
use Rattle.cm_strace_text.specs.declared.quoted.Quote.TheVariants as quote
use Rattle.model_strace.specs.Quoted as model

-- where the reader is
abbrev pub reach_is : Reach → model.Reach
reach_is reach.Text = model.Text
reach_is reach.Slash = model.Slash
reach_is (reach.Octal value more) = model.Octal value more

-- the octal digits were so few that their value is small: three at most
abbrev pub IsShort : Reach → Type 0
IsShort (reach.Octal value more) = (more ≤ 2) × (2 ≤ more → value ≤ 7) × (1 ≤ more → value ≤ 63) × (value ≤ 511)
IsShort _ = Unit {0}

-- the same where the reader goes on
abbrev pub GoesShort : Move → Type 0
GoesShort (move.Goes reach) = IsShort reach
GoesShort _ = Unit {0}

-- the step after which these bytes are read
abbrev pub step_is : List ℕ → Move → model.Step
step_is made move.Breaks = model.Breaks
step_is made move.Closes = model.Closes made
step_is made (move.Goes reach) = model.Goes made (reach_is reach)

-- a step, with these bytes before
abbrev pub preceded : List ℕ → model.Step → model.Step
preceded before model.Breaks = model.Breaks
preceded before (model.Closes made) = model.Closes (before ++ made)
preceded before (model.Goes made reach) = model.Goes (before ++ made) reach

-- the quoted text of the definitions
abbrev pub quote_is : Quote → model.Quote
quote_is (quote.Bytes bytes) = model.Bytes bytes.items
quote_is quote.Shortened = model.Shortened
quote_is quote.NoText = model.NoText
