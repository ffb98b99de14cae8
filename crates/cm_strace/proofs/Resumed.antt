-- A call that was resumed: what it does is the same before and after its kept text goes.
use Rattle.std.proofs.Common.{◌≡◌, ℕ, ◌==◌, ◌&&◌, ◌||◌, Bool, true, false, cond, length, List, [], ◌∷◌, ◌++◌, Option}
use Rattle.std.proofs.Common.{Some, None, refl, sym, ◌∙◌, ap}
use Rattle.std.specs.Prelude.{codes, nat_lt, bytes_eq, Result, Ok, Err}
use Rattle.cm_base.specs.Limited.{limit_number}
use Rattle.cm_base.specs.Outcome.{OrNoMemory}
use Rattle.cm_base.specs.declared.faults.LineFault.TheVariants as fault
use Rattle.cm_base.specs.declared.limited.Limited.TheVariants as limit
use Rattle.cm_base.specs.declared.res.Res.{Res}
use Rattle.cm_base.specs.declared.res.Res.TheVariants as res
use Rattle.cm_state.specs.Call.{call_of}
use Rattle.cm_strace.specs.Deeds.{deed_is, begun_text}
use Rattle.cm_strace.specs.declared.deed.Deed.{Deed}
use Rattle.cm_strace.specs.declared.deed.Deed.TheVariants as deed
use Rattle.model_cred.specs.Call as model
use Rattle.model_cred.specs.Call.{Call}
use Rattle.model_cred.specs.World.{World}
use Rattle.model_strace.specs.Calls as calls
use Rattle.model_strace.specs.Calls.{Told, Nothing, Faulty, Does, Bears, Joins, Opens, Closes, Copies, CopiesTo}
use Rattle.model_strace.specs.Calls.{Writes, Opening, call_told}
use Rattle.model_strace.specs.Files.{Followed, Named, file_at, relative_file, is_followed, is_space}
use Rattle.model_strace.specs.Flags.{has_flag}
use Rattle.model_strace.specs.Outcome.{Outcome, Number, Error, plain_result, success}
use Rattle.model_strace.specs.Outcome as outcome
use Rattle.model_strace.specs.Parts.{Parts, Task, Descriptor, without_kept, descriptor_of, has_descriptor, task_of}
use Rattle.model_strace.specs.Parts.{shares_files, with_descriptor}
use Rattle.model_strace.specs.Quoted.{Quote, Bytes, quote_of}
use Rattle.model_strace.specs.Turn.{Turn, Quiet, Gives, Refused, Exceeds, after_call, done, birth_call, with_child}
use Rattle.model_strace.specs.Turn.{gives_birth, bears}
use Rattle.model_strace.specs.Turn.{for_space, joins_unknown, joins_space, joins, follows, opens_of, opens_other}
use Rattle.model_strace.specs.Turn.{opens_path, opens, copies, copies_to}
use Rattle.model_strace.specs.Turn.{written_call, wrote_call, wrote, failed_call, failed_write, writes_text}
use Rattle.model_strace.specs.Turn.{writes_argument, writes, told_turn, resumes}
use Rattle.model_strace.specs.Written.{call_name, without_32}

-- a turn with what is known changed
abbrev pub changed : (Parts → Parts) → Turn → Turn
changed change (Quiet p) = Quiet (change p)
changed change (Gives p e born) = Gives (change p) e born
changed change (Refused why) = Refused why
changed change (Exceeds limit) = Exceeds limit

-- ---- calls and births
pub after_without : (own pid : ℕ) (call : Call) (answer : Res) (p : Parts)
    → after_call pid call answer (without_kept own p) ≡ without_kept own (after_call pid call answer p)
after_without own pid model.Unshare res.Done p = refl
after_without own pid (model.SetNs space) res.Done p = refl
after_without own pid (model.Exec file) res.Done p = refl
after_without own pid call answer p = refl

done_without : (own pid : ℕ) (call : Call) (answer : Res) (p : Parts) → done pid call answer (without_kept own p)
    ≡ changed (without_kept own) (done pid call answer p)
done_without own pid call answer p =
    ap (λ q. Gives q (record { pid = pid; call = call; res = answer }) []) (after_without own pid call answer p)

child_without : (own pid child : ℕ) (user shares : Bool) (p : Parts)
    → with_child pid child user shares (without_kept own p) ≡ without_kept own (with_child pid child user shares p)
child_without own pid child true shares p = refl
child_without own pid child false shares p = refl

born_without : (own pid child : ℕ) (user : Bool) (p : Parts) → gives_birth pid child user (without_kept own p)
    ≡ changed (without_kept own) (gives_birth pid child user p)
born_without own pid child user p =
    elim (nat_lt (limit_number limit.Descriptors) (length p.descriptors)) as (λ b.
    cond b (Exceeds limit.Descriptors) (Gives (without_kept own p)
    (record { pid = pid; call = birth_call user; res = res.Child child }) (child ∷ []))
    ≡ changed (without_kept own) (cond b (Exceeds limit.Descriptors) (Gives p
    (record { pid = pid; call = birth_call user; res = res.Child child }) (child ∷ [])))) [
      | true ↦ refl
      | false ↦ refl
    ]

birth_without : (own pid child : ℕ) (user shares : Bool) (p : Parts)
    → gives_birth pid child user (with_child pid child user shares (without_kept own p))
    ≡ changed (without_kept own) (gives_birth pid child user (with_child pid child user shares p))
birth_without own pid child user shares p =
    ap (gives_birth pid child user) (child_without own pid child user shares p) ∙ born_without own pid child user
    (with_child pid child user shares p)

bears_without : (own pid : ℕ) (user shares : Bool) (answer : Res) (p : Parts)
    → bears pid user shares answer (without_kept own p) ≡ changed (without_kept own) (bears pid user shares answer p)
bears_without own pid user shares (res.Child child) p =
    elim (shares && has_descriptor pid p) as (λ b.
    cond b (Refused fault.Descriptor) (gives_birth pid child user (with_child pid child user shares
    (without_kept own p)))
    ≡ changed (without_kept own) (cond b (Refused fault.Descriptor) (gives_birth pid child user
    (with_child pid child user shares p)))) [
      | true ↦ refl
      | false ↦ birth_without own pid child user shares p
    ]
bears_without own pid user shares answer p = refl

-- ---- descriptors
joins_unknown_without : (own : ℕ) (flags : List ℕ) (n : Option ℕ) (p : Parts)
    → joins_unknown flags n (without_kept own p) ≡ changed (without_kept own) (joins_unknown flags n p)
joins_unknown_without own flags None p = refl
joins_unknown_without own flags (Some n) p =
    elim (bytes_eq flags (codes "0") || has_flag (codes "CLONE_NEWUSER") flags) as (λ b.
    cond b (Refused fault.Descriptor) (Quiet (without_kept own p))
    ≡ changed (without_kept own) (cond b (Refused fault.Descriptor) (Quiet p))) [
      | true ↦ refl
      | false ↦ refl
    ]

joins_space_without : (own pid space : ℕ) (answer : Option Res) (p : Parts)
    → joins_space pid space answer (without_kept own p) ≡ changed (without_kept own) (joins_space pid space answer p)
joins_space_without own pid space None p = refl
joins_space_without own pid space (Some answer) p = done_without own pid (model.SetNs space) answer p

joins_without : (own pid : ℕ) (d : Option Descriptor) (flags : List ℕ) (o : Outcome) (p : Parts)
    → joins pid d flags o (without_kept own p) ≡ changed (without_kept own) (joins pid d flags o p)
joins_without own pid None flags o p = joins_unknown_without own flags (success o) p
joins_without own pid (Some d) flags o p =
    elim (bytes_eq flags (codes "0") || bytes_eq flags (codes "CLONE_NEWUSER")) as (λ b.
    cond b (joins_space pid d.space (plain_result o) (without_kept own p)) (Quiet (without_kept own p))
    ≡ changed (without_kept own) (cond b (joins_space pid d.space (plain_result o) p) (Quiet p))) [
      | true ↦ joins_space_without own pid d.space (plain_result o) p
      | false ↦ refl
    ]

follows_without : (own : ℕ) (d : Descriptor) (p : Parts) → follows d (without_kept own p)
    ≡ changed (without_kept own) (follows d p)
follows_without own d p =
    elim (nat_lt (limit_number limit.Descriptors) (length (with_descriptor d p).descriptors)) as (λ b.
    cond b (Exceeds limit.Descriptors) (Quiet (with_descriptor d (without_kept own p)))
    ≡ changed (without_kept own) (cond b (Exceeds limit.Descriptors) (Quiet (with_descriptor d p)))) [
      | true ↦ refl
      | false ↦ refl
    ]

opens_of_without : (own pid number : ℕ) (until_exec : Bool) (file : Followed) (task : Option Task) (p : Parts)
    → opens_of pid number until_exec file task (without_kept own p)
    ≡ changed (without_kept own) (opens_of pid number until_exec file task p)
opens_of_without own pid number until_exec file None p = refl
opens_of_without own pid number until_exec file (Some task) p =
    let d : Descriptor = record {
      pid = pid;
      number = number;
      file = file;
      space = task.space;
      until_exec =
          until_exec;
    } in
    elim (shares_files pid p) as (λ b. cond b (Refused fault.Descriptor) (follows d (without_kept own p))
    ≡ changed (without_kept own) (cond b (Refused fault.Descriptor) (follows d p))) [
      | true ↦ refl
      | false ↦ follows_without own d p
    ]

opens_other_without : (own pid number : ℕ) (writes : Bool) (file : Option Followed) (p : Parts)
    → opens_other pid number writes file (without_kept own p) ≡ changed (without_kept own)
    (opens_other pid number writes file p)
opens_other_without own pid number writes None p = refl
opens_other_without own pid number writes (Some file) p =
    elim (is_followed writes file) as (λ b. cond b (Refused fault.Descriptor) (opens_other pid number writes None
    (without_kept own p))
    ≡ changed (without_kept own) (cond b (Refused fault.Descriptor) (opens_other pid number writes None p))) [
      | true ↦ refl
      | false ↦ refl
    ]

opens_path_without : (own pid number : ℕ) (opening : Opening) (path : List ℕ) (name : Option Named) (p : Parts)
    → opens_path pid number opening path name (without_kept own p)
    ≡ changed (without_kept own) (opens_path pid number opening path name p)
opens_path_without own pid number opening path None p = opens_other_without own pid number opening.writes
    (relative_file path) p
opens_path_without own pid number opening path (Some name) p =
    elim (is_followed opening.writes name.file) as (λ b.
    cond b (opens_of pid number opening.until_exec name.file (task_of name.process p) (without_kept own p))
    (opens_other pid number false None (without_kept own p))
    ≡ changed (without_kept own) (cond b (opens_of pid number opening.until_exec name.file
    (task_of name.process p) p) (opens_other pid number false None p))) [
      | true ↦ opens_of_without own pid number opening.until_exec name.file (task_of name.process p) p
      | false ↦ refl
    ]

opens_without : (own pid number : ℕ) (opening : Opening) (path : Option (List ℕ)) (p : Parts)
    → opens pid number opening path (without_kept own p) ≡ changed (without_kept own)
    (opens pid number opening path p)
opens_without own pid number opening None p = refl
opens_without own pid number opening (Some path) p = opens_path_without own pid number opening path
    (file_at pid path) p

copies_without : (own : ℕ) (d : Option Descriptor) (p : Parts) → copies d (without_kept own p)
    ≡ changed (without_kept own) (copies d p)
copies_without own None p = refl
copies_without own (Some d) p = refl

copies_to_without : (own pid number : ℕ) (d : Option Descriptor) (p : Parts)
    → copies_to pid d number (without_kept own p) ≡ changed (without_kept own) (copies_to pid d number p)
copies_to_without own pid number None p = refl
copies_to_without own pid number (Some d) p = refl

-- ---- writes
wrote_call_without : (own pid : ℕ) (call : Option Call) (p : Parts) → wrote_call pid call (without_kept own p)
    ≡ changed (without_kept own) (wrote_call pid call p)
wrote_call_without own pid None p = refl
wrote_call_without own pid (Some call) p = done_without own pid call res.Done p

wrote_without : (own pid : ℕ) (d : Descriptor) (n : ℕ) (q : Quote) (p : Parts)
    → wrote pid d n q (without_kept own p) ≡ changed (without_kept own) (wrote pid d n q p)
wrote_without own pid d n (Bytes text) p =
    elim (n == length text) as (λ b. cond b (wrote_call pid (written_call d.file d.space text) (without_kept own p))
    (Refused fault.Outcome)
    ≡ changed (without_kept own) (cond b (wrote_call pid (written_call d.file d.space text) p)
    (Refused fault.Outcome))) [
      | true ↦ wrote_call_without own pid (written_call d.file d.space text) p
      | false ↦ refl
    ]
wrote_without own pid d n q p = refl

failed_call_without : (own pid : ℕ) (call : Option Call) (answer : Res) (p : Parts)
    → failed_call pid call answer (without_kept own p) ≡ changed (without_kept own) (failed_call pid call answer p)
failed_call_without own pid None answer p = refl
failed_call_without own pid (Some call) answer p = refl

failed_without : (own pid : ℕ) (d : Descriptor) (answer : Res) (q : Quote) (p : Parts)
    → failed_write pid d answer q (without_kept own p) ≡ changed (without_kept own) (failed_write pid d answer q p)
failed_without own pid d answer (Bytes text) p = failed_call_without own pid
    (written_call d.file d.space text) answer p
failed_without own pid d answer q p = refl

text_without : (own pid : ℕ) (d : Descriptor) (q : Quote) (o : Outcome) (p : Parts)
    → writes_text pid d q o (without_kept own p) ≡ changed (without_kept own) (writes_text pid d q o p)
text_without own pid d q (Number n) p = wrote_without own pid d n q p
text_without own pid d q (Error e) p = failed_without own pid d (res.Err e) q p
text_without own pid d q o p = refl

argument_without : (own pid : ℕ) (d : Descriptor) (text : Option (List ℕ)) (o : Outcome) (p : Parts)
    → writes_argument pid d text o (without_kept own p) ≡ changed (without_kept own) (writes_argument pid d text o p)
argument_without own pid d (Some text) o p = text_without own pid d (quote_of text) o p
argument_without own pid d None outcome.Other p = refl
argument_without own pid d None o p = refl

writes_without : (own pid : ℕ) (d : Option Descriptor) (text : Option (List ℕ)) (o : Outcome) (p : Parts)
    → writes pid d text o (without_kept own p) ≡ changed (without_kept own) (writes pid d text o p)
writes_without own pid None text o p = refl
writes_without own pid (Some d) text o p =
    elim (is_space d.file) as (λ b. cond b (Quiet (without_kept own p)) (writes_argument pid d text o
    (without_kept own p))
    ≡ changed (without_kept own) (cond b (Quiet p) (writes_argument pid d text o p))) [
      | true ↦ refl
      | false ↦ argument_without own pid d text o p
    ]

-- ---- the call
-- what a call that is told does, without the text that is kept of a process
told_without : (own pid : ℕ) (told : Told) (p : Parts) → told_turn pid told (without_kept own p)
    ≡ changed (without_kept own) (told_turn pid told p)
told_without own pid Nothing p = refl
told_without own pid (Faulty why) p = refl
told_without own pid (calls.Exceeds limit) p = refl
told_without own pid (Does call answer) p = done_without own pid call answer p
told_without own pid (Bears user shares answer) p = bears_without own pid user shares answer p
told_without own pid (Joins None flags o) p = joins_without own pid None flags o p
told_without own pid (Joins (Some number) flags o) p = joins_without own pid (for_space
    (descriptor_of pid number p)) flags o p
told_without own pid (Opens opening number) p = opens_without own pid number opening opening.path p
told_without own pid (Closes number) p = refl
told_without own pid (Copies number) p = copies_without own (descriptor_of pid number p) p
told_without own pid (CopiesTo None number) p = refl
told_without own pid (CopiesTo (Some from) number) p = copies_to_without own pid number (descriptor_of pid from p) p
told_without own pid (Writes number text o) p = writes_without own pid (descriptor_of pid number p) text o p

-- the same of a deed
deed_without : (pid : ℕ) (d : Deed) (p : Parts) → deed_is pid d (without_kept pid p)
    ≡ changed (without_kept pid) (deed_is pid d p)
deed_without pid deed.Quiet p = refl
deed_without pid (deed.Refused why) p = refl
deed_without pid (deed.Exceeds limit) p = refl
deed_without pid (deed.Does call answer) p = done_without pid pid (call_of call) answer p
deed_without pid (deed.Bears birth) p = birth_without pid pid birth.child birth.user birth.shares p
deed_without pid deed.Ends p = refl

-- a deed that does what is told does so without the kept text
pub resumed_turn : (pid : ℕ) (d : Deed) (told : Told) (new old : Parts) → deed_is pid d new ≡ told_turn pid told old
    → deed_is pid d (without_kept pid new) ≡ told_turn pid told (without_kept pid old)
resumed_turn pid d told new old is =
    deed_without pid d new ∙ ap (changed (without_kept pid)) is ∙ sym (told_without pid pid told old)

-- the same of what is taken of a call, where memory is there
pub resumed_taken : {E : Type 0} (pid : ℕ) (r : Result Deed E) (told meant : Told) (new old : Parts) → told ≡ meant
    → OrNoMemory r (λ d. deed_is pid d new ≡ told_turn pid told old)
    → OrNoMemory r (λ d. deed_is pid d (without_kept pid new) ≡ told_turn pid meant (without_kept pid old))
resumed_taken pid (Ok d) told meant new old same is =
    resumed_turn pid d told new old is ∙ ap (λ t. told_turn pid t (without_kept pid old)) same
resumed_taken pid (Err e) told meant new old same is = tt

-- the rest of a call whose beginning is kept is the whole call
pub resumes_begun : (w : World) (pid : ℕ) (name rest : List ℕ) (kept : Option (List ℕ)) (text : List ℕ) (p : Parts)
    → begun_text name rest kept ≡ Some text
    → resumes w pid name rest kept p ≡ told_turn pid (call_told w pid text) (without_kept pid p)
resumes_begun w pid name rest None text p is = absurd (cc)
resumes_begun w pid name rest (Some kept) text p is =
    (elim (bytes_eq (call_name kept) (without_32 name)) as (λ b. cond b (Some (kept ++ rest)) None ≡ Some text
    → cond b (told_turn pid (call_told w pid (kept ++ rest)) (without_kept pid p)) (Refused fault.Unfinished)
    ≡ told_turn pid (call_told w pid text) (without_kept pid p)) [
      | true ↦ λ h. let e : kept ++ rest ≡ text = cc in ap (λ t. told_turn pid (call_told w pid t)
          (without_kept pid p)) e
      | false ↦ λ h. absurd (cc)
    ]) is
