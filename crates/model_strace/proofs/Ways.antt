-- What the turn of a line comes to, by the ways that it may go: a law on turns looks at each way once.
use Rattle.std.proofs.Common.{◌≡◌, ℕ, ◌==◌, ◌&&◌, ◌||◌, Bool, true, false, List, [], ◌∷◌, ◌++◌, length, refl}
use Rattle.std.proofs.Common.{Option, Some, None, IfSome, if◌then◌else◌, nat_lt}
use Rattle.std.proofs.lemmas.Bool.{cond_both}
use Rattle.std.specs.Prelude.{bytes_eq, codes}
use Rattle.cm_base.specs.Limited.{limit_number}
use Rattle.cm_base.specs.declared.errno.Errno.{Errno}
use Rattle.cm_base.specs.declared.faults.LineFault.{LineFault}
use Rattle.cm_base.specs.declared.faults.LineFault.TheVariants as fault
use Rattle.cm_base.specs.declared.limited.Limited.{Limited}
use Rattle.cm_base.specs.declared.limited.Limited.TheVariants as limit
use Rattle.cm_base.specs.declared.res.Res.{Res}
use Rattle.cm_base.specs.declared.res.Res.TheVariants as res
use Rattle.model_cred.specs.Call as model
use Rattle.model_cred.specs.Call.{Call}
use Rattle.model_cred.specs.World.{World}
use Rattle.model_strace.proofs.ToldValues.{plain_may}
use Rattle.model_strace.specs.Body.{Body, Silent, Ends, Superseded, Begun, Resumed, Whole, body_of}
use Rattle.model_strace.specs.Calls as calls
use Rattle.model_strace.specs.Calls.{Told, Nothing, Faulty, Does, Bears, Joins, Opens, Closes, Copies, CopiesTo}
use Rattle.model_strace.specs.Calls.{Opening, call_told}
use Rattle.model_strace.specs.Files.{Followed, Named, file_at, is_followed, is_space, relative_file}
use Rattle.model_strace.specs.Flags.{has_flag}
use Rattle.model_strace.specs.Outcome.{Outcome, Number, Error, Other, plain_result, success}
use Rattle.model_strace.specs.Parts.{Parts, Task, Descriptor, after_end, descriptor_of, has_descriptor, kept_of, keeping}
use Rattle.model_strace.specs.Parts.{shares_files, task_of, with_descriptor, without_descriptor, without_kept}
use Rattle.model_strace.specs.Quoted.{Quote, Bytes, quote_of}
use Rattle.model_strace.specs.Turn.{Turn, Quiet, Gives, Refused, Exceeds, bears, begins, birth_call, body_turn, copies}
use Rattle.model_strace.specs.Turn.{copies_to, done, failed_call, failed_write, followed, follows, for_space, gives}
use Rattle.model_strace.specs.Turn.{gives_birth, joins, joins_space, joins_unknown, opens, opens_of, opens_other}
use Rattle.model_strace.specs.Turn.{opens_path, resumes, told_turn, turn, with_child, within_limit, writes}
use Rattle.model_strace.specs.Turn.{writes_argument, writes_text, written_call, wrote, wrote_call}
use Rattle.model_strace.specs.Written.{call_name, without_32}
use Rattle.model_text.specs.Written.{IsOutcome}

-- the descriptor is one of the process
abbrev pub IsKnown : ℕ → Parts → Descriptor → Type 0
IsKnown pid p d = (number : ℕ) × (descriptor_of pid number p ≡ Some d)

-- How a turn of the process may go where this is known, if what is told is so.
pub data Way (Is : Told → Type 0) (pid : ℕ) : Parts → Turn → Type 0 where
  Refuses : {p : Parts} (why : LineFault) → Way Is pid p (Refused why)
  Passes : {p : Parts} (l : Limited) → Is (calls.Exceeds l) → Way Is pid p (Exceeds l)
  Crowds : {p : Parts} → Way Is pid p (Exceeds limit.Descriptors)
  Rests : {p : Parts} → Way Is pid p (Quiet p)
  Drops : {p : Parts} (number : ℕ) → Way Is pid p (Quiet (without_descriptor pid number p))
  Follows : {p : Parts} (number : ℕ) (until_exec : Bool) (file : Followed) (of : ℕ) (task : Task) → task_of of p ≡ Some task
      → Way Is pid p (Quiet (with_descriptor (record {
        pid = pid;
        number = number;
        file = file;
        space = task.space;
        until_exec = until_exec;
      }) p))
  Begins : {p : Parts} (text : List ℕ) → Way Is pid p (Quiet (keeping pid text p))
  Makes : {p : Parts} (call : Call) (r : Res) → Is (Does call r) → Way Is pid p (done pid call r p)
  Births : {p : Parts} (user shares : Bool) (child : ℕ) → Is (Bears user shares (res.Child child))
      → Way Is pid p (Gives (with_child pid child user shares p) (record {
        pid = pid;
        call = birth_call user;
        res = res.Child child;
      }) (child ∷ []))
  Fails : {p : Parts} (user shares : Bool) (r : Res) → Is (Bears user shares r) → Way Is pid p (gives p pid (birth_call user) r)
  Enters : {p : Parts} (d : Descriptor) → IsKnown pid p d → (r : Res) → IsOutcome r
      → Way Is pid p (done pid (model.SetNs d.space) r p)
  Writes : {p : Parts} (d : Descriptor) → IsKnown pid p d → (text : List ℕ) (call : Call)
      → written_call d.file d.space text ≡ Some call → Way Is pid p (done pid call res.Done p)
  Unwritten : {p : Parts} (d : Descriptor) → IsKnown pid p d → (text : List ℕ) (call : Call)
      → written_call d.file d.space text ≡ Some call → (e : Errno) → Way Is pid p (gives p pid call (res.Err e))
  Exits : {p : Parts} → Way Is pid p (gives (after_end pid p) pid model.Exit res.Done)
  Resumes : {p : Parts} (t : Turn) → Way Is pid (without_kept pid p) t → Way Is pid p t

module _ (Is : Told → Type 0) (pid : ℕ) where
  if_way : (p : Parts) (b : Bool) (x y : Turn) → Way Is pid p x → Way Is pid p y → Way Is pid p (if b then x else y)
  if_way p true x y first second = first
  if_way p false x y first second = second

  within_way : (p after : Parts) (t : Turn) → Way Is pid p t → Way Is pid p (within_limit after t)
  within_way p after t way =
      if_way p (nat_lt (limit_number limit.Descriptors) (length after.descriptors)) (Exceeds limit.Descriptors) t Crowds way

  bears_way : (user shares : Bool) (r : Res) (p : Parts) → Is (Bears user shares r) → Way Is pid p (bears pid user shares r p)
  bears_way user shares (res.Child child) p is =
      let after : Parts = with_child pid child user shares p in
      if_way p (shares && has_descriptor pid p) (Refused fault.Descriptor) (gives_birth pid child user after)
      (Refuses fault.Descriptor)
      (within_way p after (Gives after (record { pid = pid; call = birth_call user; res = res.Child child }) (child ∷ []))
      (Births user shares child is))
  bears_way user shares r p is = Fails user shares r is

  -- ---- descriptors that are known
  found_known : (number : ℕ) (p : Parts) (o : Option Descriptor) → descriptor_of pid number p ≡ o → IfSome o (IsKnown pid p)
  found_known number p None is = tt
  found_known number p (Some d) is = (number, is)

  followed_known : (number : Option ℕ) (p : Parts) → IfSome (followed pid number p) (IsKnown pid p)
  followed_known None p = tt
  followed_known (Some number) p = found_known number p (descriptor_of pid number p) refl

  for_space_known : (p : Parts) (o : Option Descriptor) → IfSome o (IsKnown pid p) → IfSome (for_space o) (IsKnown pid p)
  for_space_known p None known = tt
  for_space_known p (Some d) known =
      cond_both (is_space d.file) (Some d) None (λ o. IfSome o (IsKnown pid p)) (λ _. known) (λ _. tt)

  -- ---- joins
  joins_space_way : (d : Descriptor) (r : Option Res) (p : Parts) → IsKnown pid p d → IfSome r IsOutcome
      → Way Is pid p (joins_space pid d.space r p)
  joins_space_way d None p known may = Refuses fault.Outcome
  joins_space_way d (Some r) p known may = Enters d known r may

  joins_way : (d : Option Descriptor) (flags : List ℕ) (outcome : Outcome) (p : Parts) → IfSome d (IsKnown pid p)
      → Way Is pid p (joins pid d flags outcome p)
  joins_way None flags outcome p known = unknown (success outcome)
    where
      unknown : (n : Option ℕ) → Way Is pid p (joins_unknown flags n p)
      unknown None = Rests
      unknown (Some n) =
          if_way p (bytes_eq flags (codes "0") || has_flag (codes "CLONE_NEWUSER") flags) (Refused fault.Descriptor)
          (Quiet p) (Refuses fault.Descriptor) Rests
  joins_way (Some d) flags outcome p known =
      if_way p (bytes_eq flags (codes "0") || bytes_eq flags (codes "CLONE_NEWUSER"))
      (joins_space pid d.space (plain_result outcome) p) (Quiet p)
      (joins_space_way d (plain_result outcome) p known (plain_may outcome)) Rests

  -- ---- opens and copies
  opens_of_way : (number : ℕ) (until_exec : Bool) (file : Followed) (p : Parts) (of : ℕ) (task : Option Task)
      → task_of of p ≡ task → Way Is pid p (opens_of pid number until_exec file task p)
  opens_of_way number until_exec file p of None is = Refuses fault.Descriptor
  opens_of_way number until_exec file p of (Some task) is =
      let d : Descriptor =
      record { pid = pid; number = number; file = file; space = task.space; until_exec = until_exec } in
      if_way p (shares_files pid p) (Refused fault.Descriptor) (follows d p) (Refuses fault.Descriptor)
      (within_way p (with_descriptor d p) (Quiet (with_descriptor d p)) (Follows number until_exec file of task is))

  opens_other_way : (number : ℕ) (writing : Bool) (file : Option Followed) (p : Parts)
      → Way Is pid p (opens_other pid number writing file p)
  opens_other_way number writing None p = Drops number
  opens_other_way number writing (Some file) p =
      if_way p (is_followed writing file) (Refused fault.Descriptor) (Quiet (without_descriptor pid number p))
      (Refuses fault.Descriptor) (Drops number)

  opens_path_way : (number : ℕ) (opened : Opening) (path : List ℕ) (name : Option Named) (p : Parts)
      → Way Is pid p (opens_path pid number opened path name p)
  opens_path_way number opened path None p = opens_other_way number opened.writes (relative_file path) p
  opens_path_way number opened path (Some name) p =
      if_way p (is_followed opened.writes name.file)
      (opens_of pid number opened.until_exec name.file (task_of name.process p) p)
      (Quiet (without_descriptor pid number p))
      (opens_of_way number opened.until_exec name.file p name.process (task_of name.process p) refl) (Drops number)

  opens_way : (number : ℕ) (opened : Opening) (path : Option (List ℕ)) (p : Parts)
      → Way Is pid p (opens pid number opened path p)
  opens_way number opened None p = Drops number
  opens_way number opened (Some path) p = opens_path_way number opened path (file_at pid path) p

  copies_way : (d : Option Descriptor) (p : Parts) → Way Is pid p (copies d p)
  copies_way None p = Rests
  copies_way (Some d) p = Refuses fault.Descriptor

  copies_to_way : (d : Option Descriptor) (number : ℕ) (p : Parts) → Way Is pid p (copies_to pid d number p)
  copies_to_way None number p = Drops number
  copies_to_way (Some d) number p = Refuses fault.Descriptor

  -- ---- writes
  module _ (p : Parts) (d : Descriptor) (known : IsKnown pid p d) where
    wrote_call_way : (text : List ℕ) (call : Option Call) → written_call d.file d.space text ≡ call
        → Way Is pid p (wrote_call pid call p)
    wrote_call_way text None is = Refuses (fault.Argument 2)
    wrote_call_way text (Some call) is = Writes d known text call is

    failed_call_way : (text : List ℕ) (call : Option Call) → written_call d.file d.space text ≡ call → (e : Errno)
        → Way Is pid p (failed_call pid call (res.Err e) p)
    failed_call_way text None is e = Rests
    failed_call_way text (Some call) is e = Unwritten d known text call is e

    wrote_way : (n : ℕ) (text : Quote) → Way Is pid p (wrote pid d n text p)
    wrote_way n (Bytes text) =
        if_way p (n == length text) (wrote_call pid (written_call d.file d.space text) p) (Refused fault.Outcome)
        (wrote_call_way text (written_call d.file d.space text) refl) (Refuses fault.Outcome)
    wrote_way n _ = Refuses (fault.Argument 2)

    failed_write_way : (e : Errno) (text : Quote) → Way Is pid p (failed_write pid d (res.Err e) text p)
    failed_write_way e (Bytes text) = failed_call_way text (written_call d.file d.space text) refl e
    failed_write_way e _ = Rests

    writes_text_way : (text : Quote) (outcome : Outcome) → Way Is pid p (writes_text pid d text outcome p)
    writes_text_way text (Number n) = wrote_way n text
    writes_text_way text (Error e) = failed_write_way e text
    writes_text_way text _ = Refuses fault.Outcome

    writes_argument_way : (text : Option (List ℕ)) (outcome : Outcome) → Way Is pid p (writes_argument pid d text outcome p)
    writes_argument_way (Some text) outcome = writes_text_way (quote_of text) outcome
    writes_argument_way None Other = Refuses fault.Outcome
    writes_argument_way None _ = Refuses (fault.Argument 2)

  writes_way : (d : Option Descriptor) (text : Option (List ℕ)) (outcome : Outcome) (p : Parts) → IfSome d (IsKnown pid p)
      → Way Is pid p (writes pid d text outcome p)
  writes_way None text outcome p known = Rests
  writes_way (Some d) text outcome p known =
      if_way p (is_space d.file) (Quiet p) (writes_argument pid d text outcome p) Rests
      (writes_argument_way p d known text outcome)

  -- ---- the line
  told_way : (told : Told) (p : Parts) → Is told → Way Is pid p (told_turn pid told p)
  told_way Nothing p is = Rests
  told_way (Faulty why) p is = Refuses why
  told_way (calls.Exceeds l) p is = Passes l is
  told_way (Does call r) p is = Makes call r is
  told_way (Bears user shares r) p is = bears_way user shares r p is
  told_way (Joins number flags outcome) p is =
      joins_way (for_space (followed pid number p)) flags outcome p
      (for_space_known p (followed pid number p) (followed_known number p))
  told_way (Opens opened number) p is = opens_way number opened opened.path p
  told_way (Closes number) p is = Drops number
  told_way (Copies number) p is = copies_way (descriptor_of pid number p) p
  told_way (CopiesTo from number) p is = copies_to_way (followed pid from p) number p
  told_way (calls.Writes number text outcome) p is =
      writes_way (descriptor_of pid number p) text outcome p (found_known number p (descriptor_of pid number p) refl)

  begins_way : (text : List ℕ) (kept : Option (List ℕ)) (p : Parts) → Way Is pid p (begins pid text kept p)
  begins_way text None p = Begins text
  begins_way text (Some kept) p = Refuses fault.Unfinished

  module _ (w : World) (each : (text : List ℕ) → Is (call_told w pid text)) where
    resumes_way : (name rest : List ℕ) (kept : Option (List ℕ)) (p : Parts) → Way Is pid p (resumes w pid name rest kept p)
    resumes_way name rest None p = Refuses fault.Unfinished
    resumes_way name rest (Some kept) p =
        let t : Turn = told_turn pid (call_told w pid (kept ++ rest)) (without_kept pid p) in
        if_way p (bytes_eq (call_name kept) (without_32 name)) t (Refused fault.Unfinished)
        (Resumes t (told_way (call_told w pid (kept ++ rest)) (without_kept pid p) (each (kept ++ rest))))
        (Refuses fault.Unfinished)

    body_way : (body : Body) (p : Parts) → Way Is pid p (body_turn w pid body p)
    body_way Silent p = Rests
    body_way Ends p = Exits
    body_way Superseded p = Refuses fault.Superseded
    body_way (Begun text) p = begins_way text (kept_of pid p) p
    body_way (Resumed name rest) p = resumes_way name rest (kept_of pid p) p
    body_way (Whole text) p = told_way (call_told w pid text) p (each text)

    pub turn_way : (text : List ℕ) (p : Parts) → Way Is pid p (turn w pid text p)
    turn_way text p = body_way (body_of text) p
