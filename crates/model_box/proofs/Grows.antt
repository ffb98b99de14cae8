-- Spaces never go, so what declared files keep beside them stays.
use Rattle.std.proofs.Common.{◌≡◌, ℕ, ◌<◌, ◌≤◌, Bool, true, false, Some, None, Option, List, [], ◌∷◌, length, arith}
use Rattle.std.specs.Prelude.{◌&&◌, if◌then◌else◌}
use Rattle.std.proofs.lemmas.Bool.{ltb-true, lt-ltb}
use Rattle.cm_base.specs.declared.errno.Errno.TheVariants.{EPERM, EAGAIN}
use Rattle.cm_base.specs.declared.res.Res.{Res}
use Rattle.cm_base.specs.declared.res.Res.TheVariants.{Done, Child, Err}
use Rattle.model_cred.proofs.Spaces.{length_put}
use Rattle.model_cred.specs.Call.{Call, Fork, CloneUser, Unshare, WriteUidMap, WriteGidMap, WriteSetgroups, Exit, Event, kind_of}
use Rattle.cm_filter.specs.Filters.{excludes}
use Rattle.model_cred.specs.Credential.{Credential}
use Rattle.model_cred.specs.Files.{FileTable}
use Rattle.model_cred.specs.Process.{Process, State, process_at, insert_process, is_pid}
use Rattle.model_cred.specs.Space.{Spaces, put_space, space_of}
use Rattle.model_cred.specs.World.{World}
use Rattle.model_rules.specs.Caps.{cap_sys_admin}
use Rattle.model_rules.specs.Maps.{Written, UidMap, GidMap, with_map, may_say, write_done, write_refused}
use Rattle.model_rules.specs.Namespaces.{unshare, clone_user}
use Rattle.model_rules.specs.Power.{has_over}
use Rattle.model_rules.specs.Reply.{spaces_with, spaces_after}
use Rattle.model_run.specs.Ruling.{Ruling, ruling, permitted_ruling, excluded_ruling, own, birth, birth_unless, fork_child, clone_child}
use Rattle.model_run.specs.Same.{same_res}
use Rattle.model_run.specs.Step.{Step, Run, Goes, NoSpace, PidInUse, Wrong, outcome_for, names_no_space, is_living_child, told_call, told_rules, told_child}
use Rattle.model_run.specs.Step.{answers_from_outside}
use Rattle.model_box.specs.Files.{FilesFit}
use Rattle.model_box.proofs.Writing.{choose}
use Rattle.model_box.proofs.MapWrites.{write_by}

with_grows : (res : Res) (spaces : Spaces) (at : ℕ) (c : Credential) → length spaces ≤ length (spaces_with res spaces at c)
with_grows Done spaces at c = omega arith
with_grows _ spaces at c = omega arith

same_grows : (spaces after : Spaces) → length after ≡ length spaces → length spaces ≤ length after
same_grows spaces after same = omega arith

after_grows : (spaces : Spaces) (at : ℕ) (c : Credential) (call : Call) → length spaces ≤ length (spaces_after spaces at c call)
after_grows spaces at c CloneUser = with_grows (clone_user spaces at c) spaces at c
after_grows spaces at c Unshare = with_grows (unshare spaces at c).res spaces at c
after_grows spaces at c (WriteUidMap t list) =
    write_by (λ (after : Spaces). length spaces ≤ length after) UidMap spaces at c t list (omega arith)
    (λ may mapped down maps.
    same_grows spaces (put_space t (with_map UidMap (space_of spaces t) mapped) spaces)
    (length_put t (with_map UidMap (space_of spaces t) mapped) spaces))
after_grows spaces at c (WriteGidMap t list) =
    write_by (λ (after : Spaces). length spaces ≤ length after) GidMap spaces at c t list (omega arith)
    (λ may mapped down maps.
    same_grows spaces (put_space t (with_map GidMap (space_of spaces t) mapped) spaces)
    (length_put t (with_map GidMap (space_of spaces t) mapped) spaces))
after_grows spaces at c (WriteSetgroups t deny) =
    choose (λ (w : Written). length spaces ≤ length w.spaces) (has_over spaces at c cap_sys_admin t && may_say (space_of spaces t) deny)
    (write_done spaces t (record (space_of spaces t) { deny = deny })) (write_refused EPERM spaces)
    (λ _.
    same_grows spaces (put_space t (record (space_of spaces t) { deny = deny }) spaces)
    (length_put t (record (space_of spaces t) { deny = deny }) spaces))
    (λ _. omega arith)
after_grows spaces at c _ = omega arith

birth_grows : (s : State) (baby : Process) (after : Spaces) → length s.spaces ≤ length after → length s.spaces ≤ length (birth s baby after).state.spaces
birth_grows s baby after more =
    choose (λ (r : Ruling). length s.spaces ≤ length r.state.spaces) (is_pid baby.pid)
    (record { res = Child baby.pid; state = record { processes = insert_process baby s.processes; spaces = after } }) (record { res = Err EAGAIN; state = s })
    (λ _. more) (λ _. omega arith)

unless_grows : (res : Res) (s : State) (baby : Process) (after : Spaces) → length s.spaces ≤ length after
    → length s.spaces ≤ length (birth_unless res s baby after).state.spaces
unless_grows (Err e) s baby after more = omega arith
unless_grows _ s baby after more = birth_grows s baby after more

permitted_grows : (w : World) (s : State) (p : Process) (call : Call) (pid : ℕ) → length s.spaces ≤ length (permitted_ruling w s p call pid).state.spaces
permitted_grows w s p Fork pid = birth_grows s (fork_child p pid) s.spaces (omega arith)
permitted_grows w s p CloneUser pid =
    unless_grows (clone_user s.spaces p.space p.cred) s (clone_child s.spaces p pid)
    (spaces_after s.spaces p.space p.cred CloneUser) (after_grows s.spaces p.space p.cred CloneUser)
permitted_grows w s p Exit pid = omega arith
permitted_grows w s p call pid = after_grows s.spaces p.space p.cred call

ruled_grows : (w : World) (s : State) (p : Process) (call : Call) (pid : ℕ) → length s.spaces ≤ length (ruling w s p call pid).state.spaces
ruled_grows w s p call pid =
    choose (λ (r : Ruling). length s.spaces ≤ length r.state.spaces) (excludes p.filter (kind_of call)) (excluded_ruling s) (permitted_ruling w s p call pid)
    (λ _. omega arith) (λ _. permitted_grows w s p call pid)

-- an outcome goes to one state
pub goes_to : (a b : State) → Goes a ≡ Goes b → a ≡ b
goes_to a b same = cc

-- Spaces never go.
pub step_grows : (w : World) (s : State) (e : Event) (s' : State) → Step w s e s' → length s.spaces ≤ length s'.spaces
step_grows w s e s' step = named (process_at s.processes e.pid) step where
  rules : (p : Process) (b : Bool)
      → (if b then Goes (ruling w s p e.call (told_child e.res)).state else Wrong (own w s p e.call).res) ≡ Goes s' → length s.spaces ≤ length s'.spaces
  rules p true same = rw (goes_to (ruling w s p e.call (told_child e.res)).state s' same) at (ruled_grows w s p e.call (told_child e.res))
  rules p false same = absurd (cc)

  outside : (p : Process) (b : Bool)
      → (if b then Goes s else told_rules e.res (ruling w s p e.call (told_child e.res)) (own w s p e.call)) ≡ Goes s'
      → length s.spaces ≤ length s'.spaces
  outside p true same = let is : s ≡ s' = goes_to s s' same in rw is (omega arith)
  outside p false same = rules p (same_res e.res (ruling w s p e.call (told_child e.res)).res) same

  living : (p : Process) (b : Bool) → (if b then PidInUse else told_call w s p e.call e.res) ≡ Goes s' → length s.spaces ≤ length s'.spaces
  living p true same = absurd (cc)
  living p false same = outside p (answers_from_outside p e.call e.res) same

  spaced : (p : Process) (b : Bool)
      → (if b then NoSpace else if is_living_child s.processes e.res then PidInUse else told_call w s p e.call e.res)
      ≡ Goes s'
      → length s.spaces ≤ length s'.spaces
  spaced p true same = absurd (cc)
  spaced p false same = living p (is_living_child s.processes e.res) same

  named : (o : Option Process) → outcome_for w s o e ≡ Goes s' → length s.spaces ≤ length s'.spaces
  named None same = absurd (cc)
  named (Some p) same = spaced p (names_no_space s.spaces e.call) same

-- A run takes no space away.
pub run_grows : (w : World) (s : State) (es : List Event) (s' : State) → Run w s es s' → length s.spaces ≤ length s'.spaces
run_grows w s [] s' same = rw same (omega arith)
run_grows w s (e ∷ es) s' (mid, step, rest) = omega (arith, step_grows w s e mid step, run_grows w mid es s' rest)

pub files_stay : (files : FileTable) (old new : Spaces) → length old ≤ length new → FilesFit files old → FilesFit files new
files_stay files old new more fit = record {
  mounts = λ k m at. let low : m.space < length old = ltb-true m.space (length old) (fit.mounts k m at) in lt-ltb m.space (length new) (omega arith);
  interpreters = fit.interpreters;
}

-- What declared files keep at the log's beginning they keep at its end.
pub run_keeps_files : (w : World) (s : State) (es : List Event) (s' : State) → Run w s es s' → FilesFit w.files s.spaces → FilesFit w.files s'.spaces
run_keeps_files w s [] s' same fit = rw same fit
run_keeps_files w s (e ∷ es) s' (mid, step, rest) fit =
    run_keeps_files w mid es s' rest (files_stay w.files s.spaces mid.spaces (step_grows w s e mid step) fit)
