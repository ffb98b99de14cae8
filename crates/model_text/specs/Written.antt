-- Which events are read again as they were written.
use Rattle.std.specs.Prelude.{◌≡◌, ◌≢◌, ℕ, ◌+◌, ◌≤◌, length, map, flat_map, List, [], ◌∷◌, ◌++◌, IsTrue, All, AllPairs}
use Rattle.cm_base.specs.CapSet.{IsCapSet}
use Rattle.cm_base.specs.Limited.{limit_number}
use Rattle.cm_base.specs.Limits.{greatest_number}
use Rattle.cm_base.specs.declared.limited.Limited.TheVariants as limit
use Rattle.cm_base.specs.declared.res.Res.{Res}
use Rattle.cm_base.specs.declared.res.Res.TheVariants as res
use Rattle.cm_filter.specs.declared.kind.CallKind.{CallKind}
use Rattle.cm_base.specs.declared.errno.Errno.TheVariants.{EPERM}
use Rattle.cm_filter.specs.Filters.{IsFilter}
use Rattle.cm_filter.specs.Shapes.{Pattern, Kinds, ResultForm, DoneOrError, DoneAlone, OldId, ChildOrError, pattern_of, result_form}
use Rattle.model_cred.specs.Call.{Call, Event, kind_of}
use Rattle.model_cred.specs.Carried.{Carries}
use Rattle.model_cred.specs.Files.{IsDeclared}
use Rattle.model_cred.specs.Process.{is_pid}
use Rattle.model_cred.specs.World.{World}
use Rattle.model_text.specs.Arguments.{Argument, Id, Number, Cap, Set, Space, Word, File, Kind, arguments_of}
use Rattle.model_text.specs.Line.{Tells, groups_fit, script_line}
use Rattle.model_text.specs.NameText.{is_name, is_path}
use Rattle.model_text.specs.Print.{event_text}
use Rattle.model_text.specs.Reading.{Placed, AtEnd, script_reading}
use Rattle.model_text.specs.Token.{can_be_excluded}
use Rattle.model_text.specs.WorldText.{Reads, world_text}

-- The names are names, and no two are equal.
pub record AreNames (names : List (List ℕ)) : Type 0 where
  pub each : All (λ name. IsTrue (is_name name)) names
  pub distinct : AllPairs (λ name other. name ≢ other) names

-- The paths are paths, and no two are equal.
pub record ArePaths (paths : List (List ℕ)) : Type 0 where
  pub each : All (λ path. IsTrue (is_path path)) paths
  pub distinct : AllPairs (λ path other. path ≢ other) paths

-- The names of a world's spaces are names, and the paths of its files are paths.
pub record KeepsNames (w : World) : Type 0 where
  pub names : AreNames w.names
  pub paths : ArePaths (map (λ row. row.path) w.files.rows)

-- So it is with each world that a text declares.
unfoldable pub DeclaredNamesKeep : Type 0
DeclaredNamesKeep = (bytes : List ℕ) (w : World) → world_text bytes ≡ Reads w → KeepsNames w

-- the argument is in its range: a number of 32 bits, a set of capabilities, a file of the table, a call that can be
-- excluded
abbrev pub IsInRange : World → Argument → Type 0
IsInRange w (Id n) = n ≤ greatest_number
IsInRange w (Number n) = n ≤ greatest_number
IsInRange w (Cap n) = n ≤ greatest_number
IsInRange w (Set n) = IsCapSet n
IsInRange w (Space n) = n ≤ greatest_number
IsInRange w (Word deny) = Unit {0}
IsInRange w (File file) = IsDeclared w.files file
IsInRange w (Kind kind) = IsTrue (can_be_excluded kind)

-- done or refused
abbrev pub IsOutcome : Res → Type 0
IsOutcome res.Done = Unit {0}
IsOutcome (res.Err e) = Unit {0}
IsOutcome _ = ⊥

-- a child or refused
abbrev pub IsBirth : Res → Type 0
IsBirth (res.Child pid) = IsTrue (is_pid pid)
IsBirth (res.Err e) = Unit {0}
IsBirth _ = ⊥

-- an id from before, or EPERM
abbrev pub IsOldId : Res → Type 0
IsOldId (res.Id n) = n ≤ greatest_number
IsOldId (res.Err e) = e ≡ EPERM
IsOldId _ = ⊥

-- the result is of the form
abbrev pub IsOfForm : ResultForm → Res → Type 0
IsOfForm DoneOrError answer = IsOutcome answer
IsOfForm DoneAlone answer = answer ≡ res.Done
IsOfForm OldId answer = IsOldId answer
IsOfForm ChildOrError answer = IsBirth answer

-- the result has a form that a call of the kind may have
abbrev pub MayAnswer : CallKind → Res → Type 0
MayAnswer kind answer = IsOfForm (result_form kind) answer

-- what is carried is a filter, where it should be one
abbrev pub CarriesFilter : (pattern : Pattern) → Carries pattern → Type 0
CarriesFilter Kinds more = IsFilter more
CarriesFilter _ _ = Unit {0}

-- the filter that a call installs, if it does, is one
abbrev pub InstallsFilter : Call → Type 0
InstallsFilter call = CarriesFilter (pattern_of (kind_of call)) call.1

-- An event over a world: its pid, its arguments and its result are in their ranges, and its groups are within their limit.
pub record IsWritable (w : World) (e : Event) : Type 0 where
  pub pid : IsTrue (is_pid e.pid)
  pub arguments : All (IsInRange w) (arguments_of e.call)
  pub groups : IsTrue (groups_fit e.call)
  pub filter : InstallsFilter e.call
  pub result : MayAnswer (kind_of e.call) e.res

-- What was written of an event over a world that a text declares is read again as the same event.
unfoldable pub LinesReadBack : Type 0
LinesReadBack = (bytes : List ℕ) (w : World) (e : Event) → world_text bytes ≡ Reads w → IsWritable w e
    → script_line w (event_text w e) ≡ Tells e

-- Each event that a script line tells over a world that a text declares is writable over it.
unfoldable pub ToldAreWritable : Type 0
ToldAreWritable = (bytes : List ℕ) (w : World) (line : List ℕ) (e : Event) → world_text bytes ≡ Reads w
    → script_line w line ≡ Tells e → IsWritable w e

-- So what was read, written, and read again is the same event.
unfoldable pub ToldReadBack : Type 0
ToldReadBack = (bytes : List ℕ) (w : World) (line : List ℕ) (e : Event) → world_text bytes ≡ Reads w
    → script_line w line ≡ Tells e → script_line w (event_text w e) ≡ Tells e

-- ---- whole logs
-- events as the lines of a script log, each with its LF
abbrev pub events_text : World → List Event → List ℕ
events_text w events = flat_map (λ e. event_text w e ++ 10 ∷ []) events

-- events, each with the number of its line, the first of which is this one
abbrev pub placed_from : ℕ → List Event → List Placed
placed_from number [] = []
placed_from number (e ∷ events) = record { line = number; event = e } ∷ placed_from (number + 1) events

-- Events that are writable over a world that a text declares, each with a line within the limit of lines, are read again
-- from these lines: all of them, in their order, and nothing else.
unfoldable pub LogsReadBack : Type 0
LogsReadBack = (bytes : List ℕ) (w : World) (events : List Event) → world_text bytes ≡ Reads w
    → All (IsWritable w) events → All (λ e. length (event_text w e) ≤ limit_number limit.Line) events
    → script_reading w (events_text w events) ≡ record { events = placed_from 1 events; ending = AtEnd }
