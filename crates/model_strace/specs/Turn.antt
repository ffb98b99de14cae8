-- What a line of a log of strace(1) does, where it is read: its event, its fault or its limit, and what is known after it
-- (the reading is a choice).
use Rattle.std.specs.Prelude.{ℕ, codes, ◌==◌, ◌&&◌, ◌||◌, Bool, true, false, nat_lt, bytes_eq, length, List, [], ◌∷◌}
use Rattle.std.specs.Prelude.{◌++◌}
use Rattle.std.specs.Prelude.{Option, Some, None, option_map, if◌then◌else◌}
use Rattle.cm_base.specs.Limited.{limit_number}
use Rattle.cm_base.specs.declared.faults.LineFault.{LineFault}
use Rattle.cm_base.specs.declared.faults.LineFault.TheVariants as fault
use Rattle.cm_base.specs.declared.limited.Limited.{Limited}
use Rattle.cm_base.specs.declared.limited.Limited.TheVariants as limit
use Rattle.cm_base.specs.declared.res.Res.{Res}
use Rattle.cm_base.specs.declared.res.Res.TheVariants as res
use Rattle.model_cred.specs.Call as model
use Rattle.model_cred.specs.Call.{Call, Event}
use Rattle.model_cred.specs.World.{World}
use Rattle.model_strace.specs.Body.{Body, Silent, Ends, Superseded, Begun, Resumed, Whole, body_of}
use Rattle.model_strace.specs.Calls as calls
use Rattle.model_strace.specs.Calls.{Told, Nothing, Faulty, Does, Bears, Joins, Opens, Closes, Copies, CopiesTo, Writes}
use Rattle.model_strace.specs.Calls.{Opening, call_told}
use Rattle.model_strace.specs.Files.{Followed, UidMap, GidMap, SetgroupsWord, UserSpace, Named, file_at, relative_file}
use Rattle.model_strace.specs.Files.{is_followed, is_space}
use Rattle.model_strace.specs.Files.{written_extents, written_word}
use Rattle.model_strace.specs.Flags.{has_flag}
use Rattle.model_strace.specs.Outcome.{Outcome, Number, Error, plain_result, success}
use Rattle.model_strace.specs.Outcome as outcome
use Rattle.model_strace.specs.Parts.{Parts, Task, Descriptor, task_of, space_of, shares_files, moved, moved_to_new}
use Rattle.model_strace.specs.Parts.{kept_of, keeping, without_kept}
use Rattle.model_strace.specs.Parts.{descriptor_of, has_descriptor, without_descriptor, with_descriptor, after_exec}
use Rattle.model_strace.specs.Parts.{after_birth, after_user_birth, after_end}
use Rattle.model_strace.specs.Quoted.{Quote, Bytes, quote_of}
use Rattle.model_strace.specs.Written.{call_name, without_32}

-- What a line does: no event, and what is known then; an event, what is known then, and the pids that it gives birth to; a
-- fault; a limit that is exceeded.
pub data Turn : Type 0 where
  Quiet : Parts → Turn
  Gives : Parts → Event → List ℕ → Turn
  Refused : LineFault → Turn
  Exceeds : Limited → Turn

-- the event of a process that gives birth to none
abbrev pub gives : Parts → ℕ → Call → Res → Turn
gives p pid call result = Gives p (record { pid = pid; call = call; res = result }) []

-- the turn, unless so many descriptors are known that they exceed their limit
abbrev pub within_limit : Parts → Turn → Turn
within_limit p turn =
    if nat_lt (limit_number limit.Descriptors) (length p.descriptors) then Exceeds limit.Descriptors else turn

-- ---- calls
-- what is known after a call: unshare and setns move the process to another user namespace, execve closes descriptors
abbrev pub after_call : ℕ → Call → Res → Parts → Parts
after_call pid model.Unshare res.Done p = moved_to_new pid p
after_call pid (model.SetNs space) res.Done p = moved pid space p
after_call pid (model.Exec file) res.Done p = after_exec pid p
after_call pid call result p = p

-- a call of the process with its result
abbrev pub done : ℕ → Call → Res → Parts → Turn
done pid call result p = gives (after_call pid call result p) pid call result

-- ---- births
-- the call of a birth, in a new user namespace or not
abbrev pub birth_call : Bool → Call
birth_call user = if user then model.CloneUser else model.Fork

-- what is known after the birth of a child
abbrev pub with_child : ℕ → ℕ → Bool → Bool → Parts → Parts
with_child parent child true shares p = after_user_birth parent child shares p
with_child parent child false shares p = after_birth parent child (space_of parent p) shares p

-- the event of a birth, after which this is known
abbrev pub gives_birth : ℕ → ℕ → Bool → Parts → Turn
gives_birth parent child user p =
    within_limit p (Gives p (record { pid = parent; call = birth_call user; res = res.Child child }) (child ∷ []))

-- a birth with its result; followed descriptors can't be shared
abbrev pub bears : ℕ → Bool → Bool → Res → Parts → Turn
bears pid user shares (res.Child child) p =
    if shares && has_descriptor pid p then Refused fault.Descriptor
    else gives_birth pid child user (with_child pid child user shares p)
bears pid user shares result p = gives p pid (birth_call user) result

-- ---- setns(2)
-- the descriptor of that number is followed, where there is a number
abbrev pub followed : ℕ → Option ℕ → Parts → Option Descriptor
followed pid None p = None
followed pid (Some number) p = descriptor_of pid number p

-- the descriptor, where it is for a user namespace
abbrev pub for_space : Option Descriptor → Option Descriptor
for_space None = None
for_space (Some d) = if is_space d.file then Some d else None

-- a descriptor that isn't followed could be for any user namespace
abbrev pub joins_unknown : List ℕ → Option ℕ → Parts → Turn
joins_unknown flags None p = Quiet p
joins_unknown flags (Some n) p =
    if bytes_eq flags (codes "0") || has_flag (codes "CLONE_NEWUSER") flags then Refused fault.Descriptor else Quiet p

-- a setns to a user namespace, where it may have this result
abbrev pub joins_space : ℕ → ℕ → Option Res → Parts → Turn
joins_space pid space None p = Refused fault.Outcome
joins_space pid space (Some result) p = done pid (model.SetNs space) result p

-- a setns on a descriptor that is for a user namespace, or on another one; other flags tell nothing, whatever it answers
abbrev pub joins : ℕ → Option Descriptor → List ℕ → Outcome → Parts → Turn
joins pid None flags outcome p = joins_unknown flags (success outcome) p
joins pid (Some d) flags outcome p =
    if bytes_eq flags (codes "0") || bytes_eq flags (codes "CLONE_NEWUSER") then joins_space pid d.space (plain_result outcome) p
    else Quiet p

-- ---- open(2)
-- a descriptor more, which is followed, unless they exceed their limit then
abbrev pub follows : Descriptor → Parts → Turn
follows d p = let after = with_descriptor d p in within_limit after (Quiet after)

-- a file of that process is opened: it can be followed where the process is known and the opener shares no descriptors
abbrev pub opens_of : ℕ → ℕ → Bool → Followed → Option Task → Parts → Turn
opens_of pid number until_exec file None p = Refused fault.Descriptor
opens_of pid number until_exec file (Some task) p =
    if shares_files pid p then Refused fault.Descriptor
    else follows (record { pid = pid; number = number; file = file; space = task.space; until_exec = until_exec }) p

-- another file is opened: the descriptor of that number is no longer what it was; a relative path that may name a file which
-- is followed can't be told from one that does
abbrev pub opens_other : ℕ → ℕ → Bool → Option Followed → Parts → Turn
opens_other pid number writes None p = Quiet (without_descriptor pid number p)
opens_other pid number writes (Some file) p =
    if is_followed writes file then Refused fault.Descriptor else Quiet (without_descriptor pid number p)

-- a path is opened, by the file that it names where it is absolute
abbrev pub opens_path : ℕ → ℕ → Opening → List ℕ → Option Named → Parts → Turn
opens_path pid number opening path None p = opens_other pid number opening.writes (relative_file path) p
opens_path pid number opening path (Some name) p =
    if is_followed opening.writes name.file
    then opens_of pid number opening.until_exec name.file (task_of name.process p) p
    else Quiet (without_descriptor pid number p)

-- an open, where its path can be read, or can't be
abbrev pub opens : ℕ → ℕ → Opening → Option (List ℕ) → Parts → Turn
opens pid number opening None p = Quiet (without_descriptor pid number p)
opens pid number opening (Some path) p = opens_path pid number opening path (file_at pid path) p

-- ---- dup(2)
-- the copy of a descriptor, which can't be followed
abbrev pub copies : Option Descriptor → Parts → Turn
copies None p = Quiet p
copies (Some d) p = Refused fault.Descriptor

-- a copy that takes the place of another descriptor (dup(2), dup2)
abbrev pub copies_to : ℕ → Option Descriptor → ℕ → Parts → Turn
copies_to pid None number p = Quiet (without_descriptor pid number p)
copies_to pid (Some d) number p = Refused fault.Descriptor

-- ---- write(2)
-- the call that a text written to a descriptor is
abbrev pub written_call : Followed → ℕ → List ℕ → Option Call
written_call UidMap space text = option_map (model.WriteUidMap space) (written_extents text)
written_call GidMap space text = option_map (model.WriteGidMap space) (written_extents text)
written_call SetgroupsWord space text = option_map (model.WriteSetgroups space) (written_word text)
written_call UserSpace space text = None

-- a whole text is written, which is such a call, or none
abbrev pub wrote_call : ℕ → Option Call → Parts → Turn
wrote_call pid None p = Refused (fault.Argument 2)
wrote_call pid (Some call) p = done pid call res.Done p

-- a write that answers a number: a success writes the whole text
abbrev pub wrote : ℕ → Descriptor → ℕ → Quote → Parts → Turn
wrote pid d n (Bytes text) p =
    if n == length text then wrote_call pid (written_call d.file d.space text) p else Refused fault.Outcome
wrote pid d n _ p = Refused (fault.Argument 2)

-- a write that fails, of a text that is such a call, or none
abbrev pub failed_call : ℕ → Option Call → Res → Parts → Turn
failed_call pid None result p = Quiet p
failed_call pid (Some call) result p = gives p pid call result

-- a write that fails
abbrev pub failed_write : ℕ → Descriptor → Res → Quote → Parts → Turn
failed_write pid d result (Bytes text) p = failed_call pid (written_call d.file d.space text) result p
failed_write pid d result _ p = Quiet p

-- a write with its result, of a text
abbrev pub writes_text : ℕ → Descriptor → Quote → Outcome → Parts → Turn
writes_text pid d text (Number n) p = wrote pid d n text p
writes_text pid d text (Error e) p = failed_write pid d (res.Err e) text p
writes_text pid d text _ p = Refused fault.Outcome

-- the same, where there may be no text: the result is looked at first
abbrev pub writes_argument : ℕ → Descriptor → Option (List ℕ) → Outcome → Parts → Turn
writes_argument pid d (Some text) outcome p = writes_text pid d (quote_of text) outcome p
writes_argument pid d None outcome.Other p = Refused fault.Outcome
writes_argument pid d None _ p = Refused (fault.Argument 2)

-- a write to a descriptor that is followed for its map or its word, or to another one
abbrev pub writes : ℕ → Option Descriptor → Option (List ℕ) → Outcome → Parts → Turn
writes pid None text outcome p = Quiet p
writes pid (Some d) text outcome p = if is_space d.file then Quiet p else writes_argument pid d text outcome p

-- ---- the line
-- what a call that is told does
abbrev pub told_turn : ℕ → Told → Parts → Turn
told_turn pid Nothing p = Quiet p
told_turn pid (Faulty why) p = Refused why
told_turn pid (calls.Exceeds limit) p = Exceeds limit
told_turn pid (Does call result) p = done pid call result p
told_turn pid (Bears user shares result) p = bears pid user shares result p
told_turn pid (Joins number flags outcome) p = joins pid (for_space (followed pid number p)) flags outcome p
told_turn pid (Opens opening number) p = opens pid number opening opening.path p
told_turn pid (Closes number) p = Quiet (without_descriptor pid number p)
told_turn pid (Copies number) p = copies (descriptor_of pid number p) p
told_turn pid (CopiesTo from number) p = copies_to pid (followed pid from p) number p
told_turn pid (Writes number text outcome) p = writes pid (descriptor_of pid number p) text outcome p

-- a call whose beginning is this text, unless another one of the process isn't finished
abbrev pub begins : ℕ → List ℕ → Option (List ℕ) → Parts → Turn
begins pid text None p = Quiet (keeping pid text p)
begins pid text (Some kept) p = Refused fault.Unfinished

-- the rest of a call of that name, whose beginning is kept
abbrev pub resumes : World → ℕ → List ℕ → List ℕ → Option (List ℕ) → Parts → Turn
resumes w pid name rest None p = Refused fault.Unfinished
resumes w pid name rest (Some kept) p =
    if bytes_eq (call_name kept) (without_32 name) then told_turn pid (call_told w pid (kept ++ rest)) (without_kept pid p)
    else Refused fault.Unfinished

-- what a body of a process does
abbrev pub body_turn : World → ℕ → Body → Parts → Turn
body_turn w pid Silent p = Quiet p
body_turn w pid Ends p = gives (after_end pid p) pid model.Exit res.Done
body_turn w pid Superseded p = Refused fault.Superseded
body_turn w pid (Begun text) p = begins pid text (kept_of pid p) p
body_turn w pid (Resumed name rest) p = resumes w pid name rest (kept_of pid p) p
body_turn w pid (Whole text) p = told_turn pid (call_told w pid text) p

-- what a line of a process does
abbrev pub turn : World → ℕ → List ℕ → Parts → Turn
turn w pid text p = body_turn w pid (body_of text) p
