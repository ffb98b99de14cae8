-- Held lines that are taken one after another, those of some pids first.
use Rattle.std.specs.Prelude.{◌≡◌, ℕ, false, Bool, List, [], ◌∷◌, length, find, Option, Some, None}
use Rattle.std.specs.List.{All}
use Rattle.cm_strace.specs.Taken.{waits_before}
use Rattle.cm_strace.specs.declared.agenda.Due.{Due}
use Rattle.model_strace.specs.Lines.{Line, is_line_of}
use Rattle.model_strace.specs.Rest.{without_first}

-- All the held lines, those that are left, and the pids whose lines come next.
pub record Queue : Type 0 where
  pub all : List Line
  pub left : List Line
  pub pids : List ℕ

-- a child that was born, none of whose lines was taken yet
abbrev pub dues_of : Option ℕ → List Due
dues_of None = []
dues_of (Some child) = record { pid = child; from = 0 } ∷ []

-- of the first pid, none of the lines that are left stands before that place
abbrev pub gone_on : ℕ → List Due → List Due
gone_on from [] = []
gone_on from (due ∷ dues) = record due { from = from } ∷ dues

-- There is a flag for each line, and none of a pid's lines that are left stands before its place.
pub record Keeps (lines : List Line) (taken : List Bool) (dues : List Due) : Type 0 where
  pub flags : length taken ≡ length lines
  pub places : All (λ due. waits_before due.pid due.from lines taken ≡ false) dues

-- the first line of the first pid
abbrev pub first_line : List ℕ → List Line → Option Line
first_line [] lines = None
first_line (pid ∷ pids) lines = find (is_line_of pid) lines

-- without the line that was taken
abbrev pub without_taken : Option Line → Queue → Queue
without_taken None q = q
without_taken (Some l) q = record q { left = without_first l.pid q.left }
