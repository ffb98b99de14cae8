-- What the code is told by a line of a call, in the words of the definitions.
use Rattle.std.specs.Prelude.{Result, Ok, Err, slice_get}
use Rattle.std.specs.Result.{result_map_both}
use Rattle.cm_state.specs.Call.{call_of}
use Rattle.cm_strace_calls.specs.declared.listed.Listed.{Listed}
use Rattle.cm_strace_calls.specs.declared.listed.ReadFor.{ReadFor}
use Rattle.cm_strace_calls.specs.declared.listed.ReadFor.TheVariants as read
use Rattle.cm_strace_calls.specs.declared.told.Opening.{Opening}
use Rattle.cm_strace_calls.specs.declared.told.Told.{Told}
use Rattle.cm_strace_calls.specs.declared.told.Told.TheVariants as told
use Rattle.cm_strace_text.specs.Depths.{arguments_in}
use Rattle.cm_strace_values.specs.Outcomes.{outcome_is}
use Rattle.model_strace.specs.Calls as model

-- the call of the definitions, by what its lines are read for
abbrev pub read_for_is : ReadFor → model.Listed
read_for_is (read.SetsIds kind) = model.SetsIds kind
read_for_is read.SetsGroups = model.SetsGroups
read_for_is read.SetsCaps = model.SetsCaps
read_for_is read.Prctl = model.Prctl
read_for_is read.Birth = model.Birth
read_for_is read.Unshare = model.Unshare
read_for_is read.SetNs = model.SetNs
read_for_is read.Execve = model.Execve
read_for_is read.ExecveAt = model.ExecveAt
read_for_is read.OpenFile = model.OpenFile
read_for_is read.OpenAt = model.OpenAt
read_for_is read.Creat = model.Creat
read_for_is read.Close = model.Close
read_for_is read.Dup = model.Dup
read_for_is read.DupTo = model.DupTo
read_for_is read.Fcntl = model.Fcntl
read_for_is read.Write = model.Write

-- the call of the definitions
abbrev pub listed_is : Listed → model.Listed
listed_is call = read_for_is call.read_for

-- the open of the definitions: its path is still quoted in the code, and its flags are a text
abbrev pub opening_is : Opening → model.Opening
opening_is opening = model.opening opening.path.now opening.flags.now

-- what is told, in the words of the definitions
abbrev pub told_is : Told → model.Told
told_is told.Nothing = model.Nothing
told_is (told.Faulty why) = model.Faulty why
told_is (told.Exceeds limit) = model.Exceeds limit
told_is (told.Does call res) = model.Does (call_of call) res
told_is (told.Bears user shares res) = model.Bears user shares res
told_is (told.Joins number flags outcome) = model.Joins number flags.now (outcome_is outcome)
told_is (told.Opens opening number) = model.Opens (opening_is opening) number
told_is (told.Closes number) = model.Closes number
told_is (told.Copies number) = model.Copies number
told_is (told.CopiesTo from number) = model.CopiesTo from number
told_is (told.Writes number left outcome) = model.Writes number (slice_get (arguments_in left) 0) (outcome_is outcome)

-- what is made of what was read
abbrev pub and_make : {A B E : Type 0} → (A → B) → Result A E → Result B E
and_make make read = result_map_both make (λ why. why) read

-- the next thing that is read, where this one is read
abbrev pub then_read : {A B E : Type 0} → Result A E → (A → Result B E) → Result B E
then_read (Ok x) next = next x
then_read (Err why) next = Err why
