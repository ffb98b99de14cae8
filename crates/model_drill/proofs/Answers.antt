-- What the rules answer has the form that a line of the call may tell.
use Rattle.std.proofs.Common.{ℕ, ◌+◌, ◌-◌, ◌≤◌, Bool, true, false, List, [], ◌∷◌, Option, Some, None, IfSome}
use Rattle.std.proofs.Common.{if◌then◌else◌, arith}
use Rattle.std.specs.Prelude.{Result, Ok, unwrap_or}
use Rattle.std.specs.declared.result.Result.TheVariants.{Err as Failed}
use Rattle.std.proofs.lemmas.Bool.{cond_both}
use Rattle.cm_base.specs.Limits.{greatest_number}
use Rattle.cm_base.specs.declared.errno.Errno.{Errno}
use Rattle.cm_base.specs.declared.errno.Errno.TheVariants.{EACCES, EAGAIN, EINVAL, EPERM}
use Rattle.cm_base.specs.declared.res.FileRef.{FileRef}
use Rattle.cm_base.specs.declared.res.Res.TheVariants.{Child, Err}
use Rattle.model_cred.specs.Credential.{Credential, FourIds}
use Rattle.model_cred.specs.Files.{FileTable}
use Rattle.model_cred.specs.IdMap.{Extent, extents_of, lies_in, up}
use Rattle.model_cred.specs.MapFault.{IsMap}
use Rattle.model_cred.specs.Process.{Process, State, insert_process, is_pid}
use Rattle.model_cred.specs.Space.{Space, Spaces}
use Rattle.model_rules.proofs.Ranges.{lies_parts}
use Rattle.model_rules.specs.Answer.{Answer, done, refused}
use Rattle.model_rules.specs.CapCalls.{amb_raise, bset_drop, capset, secure_bits, set_keep_caps, set_no_new_privs}
use Rattle.model_rules.specs.Exec.{execve}
use Rattle.model_rules.specs.Maps.{UidMap, Written, write_done, write_refused, write_stored, write_uid_map}
use Rattle.model_rules.specs.Namespaces.{unshare}
use Rattle.model_rules.specs.SetGroups.{setgroups, with_groups}
use Rattle.model_rules.specs.SetId.{seen_id, with_gids, with_uids}
use Rattle.model_run.specs.Ruling.{Ruling, birth}
use Rattle.model_text.specs.Written.{IsBirth, IsOutcome}
use Rattle.model_verdict.proofs.MapsBack.{Tidy, map_is_tidy}

-- ---- done or refused
-- An answer is that the call is done or refused.
pub record IsPlain (a : Answer) : Type 0 where
  pub outcome : IsOutcome a.res

pub plain_done : (c : Credential) → IsPlain (done c)
plain_done c = record { outcome = tt }

pub plain_refused : (e : Errno) (c : Credential) → IsPlain (refused e c)
plain_refused e c = record { outcome = tt }

pub plain_if : (b : Bool) (x y : Answer) → IsPlain x → IsPlain y → IsPlain (if b then x else y)
plain_if true x y first second = first
plain_if false x y first second = second

pub plain_uids : (s : Space) (c : Credential) (ids : Result FourIds Errno) → IsPlain (with_uids s c ids)
plain_uids s c (Ok ids) = plain_done _
plain_uids s c (Failed e) = plain_refused e c

pub plain_gids : (c : Credential) (ids : Result FourIds Errno) → IsPlain (with_gids c ids)
plain_gids c (Ok ids) = plain_done _
plain_gids c (Failed e) = plain_refused e c

plain_with : (c : Credential) (ids : Option (List ℕ)) → IsPlain (with_groups c ids)
plain_with c None = plain_refused EINVAL c
plain_with c (Some ids) = plain_done _

pub plain_groups : (s : Space) (c : Credential) (ids : List ℕ) → IsPlain (setgroups s c ids)
plain_groups s c ids = plain_if _ _ _ (plain_refused EPERM c) (plain_if _ _ _ (plain_refused EINVAL c) (plain_with c _))

pub plain_capset : (c : Credential) (e p i : ℕ) → IsPlain (capset c e p i)
plain_capset c e p i = plain_if _ _ _ (plain_done _) (plain_refused EPERM c)

pub plain_drop : (c : Credential) (cap : ℕ) → IsPlain (bset_drop c cap)
plain_drop c cap = plain_if _ _ _ (plain_refused EPERM c) (plain_if _ _ _ (plain_refused EINVAL c) (plain_done _))

pub plain_raise : (c : Credential) (cap : ℕ) → IsPlain (amb_raise c cap)
plain_raise c cap = plain_if _ _ _ (plain_refused EINVAL c) (plain_if _ _ _ (plain_done _) (plain_refused EPERM c))

pub plain_keep : (c : Credential) (argument : ℕ) → IsPlain (set_keep_caps c argument)
plain_keep c argument =
    plain_if _ _ _ (plain_refused EINVAL c)
    (plain_if _ _ _ (plain_refused EPERM c) (plain_if _ _ _ (plain_done _) (plain_done _)))

pub plain_secure : (c : Credential) (bits : ℕ) → IsPlain (secure_bits c bits)
plain_secure c bits = plain_if _ _ _ (plain_done _) (plain_refused EPERM c)

pub plain_bar : (c : Credential) (argument : ℕ) → IsPlain (set_no_new_privs c argument)
plain_bar c argument = plain_if _ _ _ (plain_done _) (plain_refused EINVAL c)

pub plain_unshare : (spaces : Spaces) (at : ℕ) (c : Credential) → IsPlain (unshare spaces at c)
plain_unshare spaces at c = plain_if _ _ _ (plain_refused _ c) (plain_if _ _ _ (plain_refused EPERM c) (plain_done _))

pub plain_exec : (files : FileTable) (spaces : Spaces) (at : ℕ) (c : Credential) (file : FileRef)
    → IsPlain (execve files spaces at c file)
plain_exec files spaces at c file =
    plain_if _ _ _ (plain_refused EACCES c) (plain_if _ _ _ (plain_refused EPERM c) (plain_done _))

-- ---- the same of a write
pub record IsPlainWrite (w : Written) : Type 0 where
  pub outcome : IsOutcome w.res

write_if : (b : Bool) (x y : Written) → IsPlainWrite x → IsPlainWrite y → IsPlainWrite (if b then x else y)
write_if true x y first second = first
write_if false x y first second = second

no_write : (e : Errno) (spaces : Spaces) → IsPlainWrite (write_refused e spaces)
no_write e spaces = record { outcome = tt }

a_write : (spaces : Spaces) (n : ℕ) (t : Space) → IsPlainWrite (write_done spaces n t)
a_write spaces n t = record { outcome = tt }

plain_stored : (spaces : Spaces) (at : ℕ) (c : Credential) (target : ℕ) (given : List Extent) (stored : Option (List Extent))
    → IsPlainWrite (write_stored UidMap spaces at c target given stored)
plain_stored spaces at c target given None = no_write EPERM spaces
plain_stored spaces at c target given (Some stored) = write_if _ _ _ (a_write spaces target _) (no_write EPERM spaces)

pub plain_write : (spaces : Spaces) (at : ℕ) (c : Credential) (target : ℕ) (given : List Extent)
    → IsPlainWrite (write_uid_map spaces at c target given)
plain_write spaces at c target given =
    write_if _ _ _ (no_write EPERM spaces)
    (write_if _ _ _ (no_write EINVAL spaces) (plain_stored spaces at c target given _))

-- ---- a child or refused
pub birth_may : (s : State) (child : Process) (spaces : Spaces) → IsBirth (birth s child spaces).res
birth_may s child spaces =
    cond_both (is_pid child.pid)
    (record { res = Child child.pid; state = record { processes = insert_process child s.processes; spaces = spaces } })
    (record { res = Err EAGAIN; state = s }) (λ (r : Ruling). IsBirth r.res) (λ is. is) (λ _. tt)

-- ---- an id from before
-- the number is one of 32 bits
abbrev pub Fits : ℕ → Type 0
Fits n = n ≤ greatest_number

-- the inside ids of a map are such
pub up_fits : (map : List Extent) (id : ℕ) → Tidy map → IfSome (up map id) Fits
up_fits [] id tidy = tt
up_fits (e ∷ map) id tidy =
    cond_both (lies_in e.outside e.length id) (Some (e.inside + (id - e.outside))) (up map id) (λ o. IfSome o Fits)
    (λ here. let low = lies_parts e.outside e.length id here in omega (arith, low.0, low.1, tidy.0))
    (λ _. up_fits map id tidy.2)

or_fits : (o : Option ℕ) (other : ℕ) → IfSome o Fits → Fits other → Fits (unwrap_or o other)
or_fits None other there fits = fits
or_fits (Some n) other there fits = there

-- so is an id as a space sees it
pub seen_fits : (map : Option (List Extent)) (id : ℕ) → IfSome map IsMap → Fits (seen_id (extents_of map) id)
seen_fits None id is = omega arith
seen_fits (Some map) id is = or_fits (up map id) _ (up_fits map id (map_is_tidy map is)) (omega arith)
