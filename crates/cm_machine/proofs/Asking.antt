-- What is asked of the rules: kept, what a call changes is what they give, and undone, nothing has changed.
use Rattle.std.proofs.Common.{◌≡◌, ℕ, ◌<◌, ◌==◌, ◌&&◌, ◌||◌, not, length, List, Bool, true, false, Option, Some, None}
use Rattle.std.proofs.Common.{if◌then◌else◌, refl, sym, ◌∙◌, ap, subst, arith, get_or, slice_get, slice_set}
use Rattle.std.proofs.lemmas.List.{length-set, get_or-set_same}
use Rattle.std.specs.Prelude.{nat_lt, is_none, Result, Ok, IfSome, OnErr}
use Rattle.std.specs.declared.result.Result.TheVariants.{Err}
use Rattle.std.proofs.lemmas.Bool.{cond_both}
use Rattle.cm_base.specs.Limits.{greatest_number}
use Rattle.cm_base.specs.declared.errno.Errno.TheVariants.{EAGAIN, EPERM, EINVAL, EACCES, ENOSPC}
use Rattle.cm_base.specs.Outcome.{OrNoMemory}
use Rattle.cm_base.specs.declared.id.SpaceId.{SpaceId}
use Rattle.cm_base.specs.declared.memory.NoMemory.{NoMemory}
use Rattle.cm_base.specs.declared.res.FileRef.{FileRef}
use Rattle.cm_base.specs.declared.res.Res.{Res}
use Rattle.cm_base.specs.declared.res.Res.TheVariants as res
use Rattle.cm_machine.proofs.Changing.{get_put, put_back, same_put, same_there, undone_is}
use Rattle.cm_machine.proofs.Groups.{fs_fixed, gids_keep, uids_keep}
use Rattle.cm_machine.specs.Asking.{IsAsked, CanKeep, pid_number, change_by, groups_change, birth_change, inner_birth_change, where_done}
use Rattle.cm_machine.specs.Asking.{cred_after, kept, makes_new, undone, undone_cred, born_inside, without_groups}
use Rattle.cm_filter.specs.Filters.{Filter}
use Rattle.cm_machine.specs.Outcomes.{takes_memory}
use Rattle.cm_machine.specs.declared.change.Change.{Change}
use Rattle.cm_machine.specs.declared.change.Change.TheVariants as change
use Rattle.cm_machine.specs.declared.ruling.Asked.{Asked}
use Rattle.cm_nscalls.proofs.Written.{written}
use Rattle.cm_nscalls.specs.Answers.{spaces_told, stored_list}
use Rattle.cm_nscalls.specs.File.{file_of}
use Rattle.cm_nscalls.specs.declared.file.MapFile.{MapFile}
use Rattle.cm_nscalls.specs.declared.file.MapFile.TheVariants as file
use Rattle.cm_state.proofs.Places.{get_of_at, pid_of_at, pid_of_put, put_ascends, put_at}
use Rattle.cm_state.specs.Places.{pid_at}
use Rattle.cm_state.specs.Call.{call_of}
use Rattle.cm_state.specs.declared.call.Call.{Call}
use Rattle.cm_state.specs.declared.call.Call.TheVariants.{SetUid, SetReUid, SetResUid, SetFsUid, SetGid, SetReGid, SetResGid, SetGroups, Fork, Exit}
use Rattle.cm_state.specs.declared.call.Call.TheVariants.{CloneUser, Unshare, SetNs, WriteUidMap, WriteGidMap, WriteSetgroups, Exec, Install}
use Rattle.model_cred.specs.Call as model
use Rattle.model_cred.specs.Credential.{Credential}
use Rattle.model_cred.specs.Files.{FileTable}
use Rattle.model_cred.specs.Process.{Process, State, Ascends, is_alive, is_pid, put_process, insert_process}
use Rattle.model_cred.specs.IdMap.{Extent, extents_of}
use Rattle.model_cred.specs.Space.{Space, Spaces, level, space_of}
use Rattle.model_cred.specs.World.{World}
use Rattle.model_rules.proofs.Spaces.{stands_there}
use Rattle.model_rules.specs.Answer.{Answer, done, refused}
use Rattle.model_rules.specs.Caps.{cap_sys_admin}
use Rattle.model_rules.specs.Exec.{execve, may_exec, own_sets, run_file, would_lack, cred_after as exec_cred}
use Rattle.model_rules.specs.Install.{install, installed, may_install}
use Rattle.model_rules.specs.Maps.{Written, UidMap, GidMap, may_say, write_done, write_refused, write_setgroups}
use Rattle.model_rules.specs.Namespaces.{as_newcomer, clone_user, deepest, is_mapped_in, join, unshare}
use Rattle.model_rules.specs.Power.{has_over}
use Rattle.model_rules.specs.Reply.{place_after, spaces_with}
use Rattle.model_rules.specs.SetGroups.{all_down, most_groups, setgroups, with_groups}
use Rattle.model_rules.specs.SetId.{has_setgid}
use Rattle.model_run.specs.Ruling.{Ruling, permitted_ruling, birth_unless, clone_child, fork_child, spaces_left, state_without, with_cred}
use Rattle.model_run.specs.Step.{names_no_space}

-- a birth that is possible or not
abbrev birth_if : Bool → ℕ → State → State → Ruling
birth_if b n s after = if b then record { res = res.Child n; state = after } else record { res = res.Err EAGAIN; state = s }

-- ---- what is undone

-- with the groups that it had the credential is as before
regrouped : (c : Credential) (groups : List ℕ) → groups ≡ c.groups → record c { groups = groups } ≡ c
regrouped c groups same = ap (λ (gs : List ℕ). record c { groups = gs }) same

-- what is still to be made has changed nothing
birth_still : (r : Res) (old c : Credential) → undone_cred (birth_change r) old c ≡ c
birth_still res.Done old c = refl
birth_still _ old c = refl

inner_still : (r : Res) (old c : Credential) → undone_cred (inner_birth_change r) old c ≡ c
inner_still res.Done old c = refl
inner_still _ old c = refl

done_still : (r : Res) (to_make : Change) (old c : Credential) → undone_cred to_make old c ≡ c → undone_cred (where_done r to_make) old c ≡ c
done_still res.Done to_make old c same = same
done_still _ to_make old c same = refl

groups_back : (s : Space) (old c : Credential) (ids : List ℕ)
    → undone_cred (groups_change (setgroups s c ids).res c.groups) old (setgroups s c ids).cred ≡ c
groups_back s old c ids =
    cond_both (not (has_setgid c) || is_none s.gids || s.deny) (refused EPERM c)
    (if nat_lt most_groups (length ids) then refused EINVAL c else with_groups c o) P
    (λ _. refl)
    (λ _. cond_both (nat_lt most_groups (length ids)) (refused EINVAL c) (with_groups c o) P (λ _. refl) (λ _. mapped o))
  where
    o : Option (List ℕ)
    o = all_down (extents_of s.gids) ids

    P : Answer → Type 0
    P a = undone_cred (groups_change a.res c.groups) old a.cred ≡ c

    mapped : (q : Option (List ℕ)) → P (with_groups c q)
    mapped None = refl
    mapped (Some ks) = refl

-- execve keeps the groups
exec_groups : (files : FileTable) (spaces : Spaces) (at : ℕ) (c : Credential) (name : FileRef) → (execve files spaces at c name).cred.groups ≡ c.groups
exec_groups files spaces at c name =
    cond_both (not (may_exec (space_of spaces at) c files name)) (refused EACCES c)
    (if would_lack c (own_sets spaces at c (run_file files name)) then refused EPERM c else done (exec_cred spaces at c (run_file files name))) P
    (λ _. refl)
    (λ _. cond_both (would_lack c (own_sets spaces at c (run_file files name))) (refused EPERM c) (done (exec_cred spaces at c (run_file files name))) P
    (λ _. refl) (λ _. refl))
  where
    P : Answer → Type 0
    P a = a.cred.groups ≡ c.groups

-- the caller's credential is as before
restored : (w : World) (s : State) (p : Process) (call : Call) (n : ℕ)
    → undone_cred (change_by s.spaces (call_of call) (permitted_ruling w s p (call_of call) n).res p.cred) (without_groups p.cred)
    (cred_after w s.spaces p (call_of call)) ≡ p.cred
restored w s p (SetUid id) n = regrouped p.cred _ (uids_keep (space_of s.spaces p.space) p.cred _)
restored w s p (SetReUid r e) n = regrouped p.cred _ (uids_keep (space_of s.spaces p.space) p.cred _)
restored w s p (SetResUid r e v) n = regrouped p.cred _ (uids_keep (space_of s.spaces p.space) p.cred _)
restored w s p (SetFsUid id) n = regrouped p.cred _ (fs_fixed (space_of s.spaces p.space) p.cred.uid.fs _)
restored w s p (SetGid id) n = regrouped p.cred _ (gids_keep p.cred _)
restored w s p (SetReGid r e) n = regrouped p.cred _ (gids_keep p.cred _)
restored w s p (SetResGid r e v) n = regrouped p.cred _ (gids_keep p.cred _)
restored w s p (SetGroups ids) n = groups_back (space_of s.spaces p.space) _ p.cred ids
restored w s p Fork n = birth_still _ _ p.cred
restored w s p CloneUser n = inner_still _ _ p.cred
restored w s p Unshare n = done_still _ change.Space _ p.cred refl
restored w s p (SetNs m) n = done_still _ (change.Join m) _ p.cred refl
restored w s p (WriteUidMap m given) n = done_still _ (change.Map file.UidMap m (stored_list UidMap s.spaces m.0 given)) _ p.cred refl
restored w s p (WriteGidMap m given) n = done_still _ (change.Map file.GidMap m (stored_list GidMap s.spaces m.0 given)) _ p.cred refl
restored w s p (WriteSetgroups m deny) n = done_still _ (change.Word m deny) _ p.cred refl
restored w s p (Exec name) n = regrouped p.cred _ (exec_groups w.files s.spaces p.space p.cred name)
restored w s p Exit n = refl
restored w s p (Install more) n = done_still _ (change.Install more) _ p.cred refl
restored w s p call n = regrouped p.cred _ (grind arith)

-- ---- what is kept

born_kept : (s after : State) (p : Process) (n : ℕ) (b : Bool) → after ≡ record s { processes = insert_process (fork_child p n) s.processes }
    → kept (birth_change (birth_if b n s after).res) p s ≡ (birth_if b n s after).state
born_kept s after p n true is = sym is
born_kept s after p n false is = refl

inner_born_kept : (s after : State) (p : Process) (n : ℕ) (b : Bool) → after ≡ born_inside s p n
    → kept (inner_birth_change (birth_if b n s after).res) p s ≡ (birth_if b n s after).state
inner_born_kept s after p n true is = sym is
inner_born_kept s after p n false is = refl

grouped_kept : (groups : List ℕ) (r : Res) (q : Process) (t : State) → kept (groups_change r groups) q t ≡ t
grouped_kept groups res.Done q t = refl
grouped_kept groups _ q t = refl

-- a process that has its credential and its place again
module _ (s : State) (p : Process) (same : with_cred s p p.cred ≡ s) where
  -- the state where the caller has such an answer, which leaves those spaces and that place
  abbrev left : Spaces → ℕ → Credential → State
  left spaces place c = with_cred (record s { spaces = spaces }) (record p { space = place }) c

  abbrev Makes : Change → Answer → Type 0
  Makes to_make a = kept (where_done a.res to_make) p s ≡ left (spaces_with a.res s.spaces p.space p.cred) (place_after a.res p.space (length s.spaces)) a.cred

  entered_kept : Makes change.Space (unshare s.spaces p.space p.cred)
  entered_kept =
      cond_both (not (nat_lt (level s.spaces p.space) deepest)) (refused ENOSPC p.cred)
      (if not (is_mapped_in (space_of s.spaces p.space) p.cred) then refused EPERM p.cred else done (as_newcomer p.cred)) (Makes change.Space)
      (λ _. sym same)
      (λ _. cond_both (not (is_mapped_in (space_of s.spaces p.space) p.cred)) (refused EPERM p.cred) (done (as_newcomer p.cred)) (Makes change.Space)
      (λ _. sym same) (λ _. refl))

  -- a birth into a new space, where making that space has such an answer
  abbrev inner_birth : ℕ → Answer → Ruling
  inner_birth n a = birth_unless a.res s (clone_child s.spaces p n) (spaces_with a.res s.spaces p.space p.cred)

  abbrev Bears : ℕ → Answer → Type 0
  Bears n a = kept (inner_birth_change (inner_birth n a).res) p s ≡ (inner_birth n a).state

  inner_kept : (n : ℕ) → Bears n (unshare s.spaces p.space p.cred)
  inner_kept n =
      cond_both (not (nat_lt (level s.spaces p.space) deepest)) (refused ENOSPC p.cred)
      (if not (is_mapped_in (space_of s.spaces p.space) p.cred) then refused EPERM p.cred else done (as_newcomer p.cred)) (Bears n)
      (λ _. refl)
      (λ _. cond_both (not (is_mapped_in (space_of s.spaces p.space) p.cred)) (refused EPERM p.cred) (done (as_newcomer p.cred)) (Bears n)
      (λ _. refl) (λ _. inner_born_kept s (born_inside s p n) p n (is_pid n) refl))

  joined_kept : (m : SpaceId) → kept (where_done (join s.spaces p.space p.cred m.0).res (change.Join m)) p s
      ≡ left s.spaces (place_after (join s.spaces p.space p.cred m.0).res p.space m.0) (join s.spaces p.space p.cred m.0).cred
  joined_kept m =
      cond_both (m.0 == p.space) (refused EINVAL p.cred)
      (if not (has_over s.spaces p.space p.cred cap_sys_admin m.0) then refused EPERM p.cred else done (as_newcomer p.cred)) P
      (λ _. sym same)
      (λ _. cond_both (not (has_over s.spaces p.space p.cred cap_sys_admin m.0)) (refused EPERM p.cred) (done (as_newcomer p.cred)) P
      (λ _. sym same) (λ _. refl))
    where
      P : Answer → Type 0
      P a = kept (where_done a.res (change.Join m)) p s ≡ left s.spaces (place_after a.res p.space m.0) a.cred

  -- the spaces alone are others
  others : (spaces : Spaces) → record s { spaces = spaces } ≡ left spaces p.space p.cred
  others spaces = ap (λ (t : State). record t { spaces = spaces }) (sym same)

  map_kept : (which : MapFile) (m : SpaceId) (given : List Extent) (r : Res) (spaces : Spaces)
      → spaces ≡ spaces_told (file_of which) s.spaces m.0 given r
      → kept (where_done r (change.Map which m (stored_list (file_of which) s.spaces m.0 given))) p s ≡ left spaces p.space p.cred
  map_kept which m given res.Done spaces is = ap (λ (ss : Spaces). record s { spaces = ss }) (sym is) ∙ others spaces
  map_kept which m given _ spaces is = ap (λ (ss : Spaces). record s { spaces = ss }) (sym is) ∙ others spaces

  word_kept : (m : SpaceId) (deny : Bool) → kept (where_done (write_setgroups s.spaces p.space p.cred m.0 deny).res (change.Word m deny)) p s
      ≡ left (write_setgroups s.spaces p.space p.cred m.0 deny).spaces p.space p.cred
  word_kept m deny =
      cond_both (has_over s.spaces p.space p.cred cap_sys_admin m.0 && may_say (space_of s.spaces m.0) deny)
      (write_done s.spaces m.0 (record (space_of s.spaces m.0) { deny = deny })) (write_refused EPERM s.spaces) P (λ _. others _) (λ _. sym same)
    where
      P : Written → Type 0
      P w = kept (where_done w.res (change.Word m deny)) p s ≡ left w.spaces p.space p.cred

  -- an install
  install_kept : (more : Filter) → kept (where_done (install p.cred).res (change.Install more)) p s
      ≡ with_cred s (record p { filter = installed (install p.cred).res p.filter more }) (install p.cred).cred
  install_kept more = cond_both (may_install p.cred) (done p.cred) (refused EACCES p.cred) P (λ _. refl) (λ _. sym same) where
    P : Answer → Type 0
    P a = kept (where_done a.res (change.Install more)) p s ≡ with_cred s (record p { filter = installed a.res p.filter more }) a.cred

-- the state is the one that the rules give
kept_is : (w : World) (s : State) (p : Process) (call : Call) (n : ℕ) → with_cred s p p.cred ≡ s
    → kept (change_by s.spaces (call_of call) (permitted_ruling w s p (call_of call) n).res p.cred) (record p { cred = cred_after w s.spaces p (call_of call) })
    (with_cred s p (cred_after w s.spaces p (call_of call)))
    ≡ (permitted_ruling w s p (call_of call) n).state
kept_is w s p (SetGroups ids) n same = grouped_kept p.cred.groups (setgroups (space_of s.spaces p.space) p.cred ids).res _ _
kept_is w s p Fork n same =
    ap (kept (birth_change (permitted_ruling w s p model.Fork n).res) p) same
    ∙ born_kept s (record s { processes = insert_process (fork_child p n) s.processes }) p n (is_pid n) refl
kept_is w s p CloneUser n same = ap (kept (inner_birth_change (permitted_ruling w s p model.CloneUser n).res) p) same ∙ inner_kept s p same n
kept_is w s p Unshare n same = ap (kept (where_done (permitted_ruling w s p model.Unshare n).res change.Space) p) same ∙ entered_kept s p same
kept_is w s p (SetNs m) n same = ap (kept (where_done (permitted_ruling w s p (model.SetNs m.0) n).res (change.Join m)) p) same ∙ joined_kept s p same m
kept_is w s p (WriteUidMap m given) n same =
    ap (kept (where_done (permitted_ruling w s p (model.WriteUidMap m.0 given) n).res (change.Map file.UidMap m (stored_list UidMap s.spaces m.0 given))) p) same
    ∙ map_kept s p same file.UidMap m given _ _ (written UidMap s.spaces p.space p.cred m.0 given)
kept_is w s p (WriteGidMap m given) n same =
    ap (kept (where_done (permitted_ruling w s p (model.WriteGidMap m.0 given) n).res (change.Map file.GidMap m (stored_list GidMap s.spaces m.0 given))) p) same
    ∙ map_kept s p same file.GidMap m given _ _ (written GidMap s.spaces p.space p.cred m.0 given)
kept_is w s p (WriteSetgroups m deny) n same =
    ap (kept (where_done (permitted_ruling w s p (model.WriteSetgroups m.0 deny) n).res (change.Word m deny)) p) same ∙ word_kept s p same m deny
kept_is w s p Exit n same = ap (λ (t : State). state_without t p) same
kept_is w s p (Install more) n same =
    ap (kept (where_done (permitted_ruling w s p (model.Install more) n).res (change.Install more)) p) same ∙ install_kept s p same more
kept_is w s p call n same = refl

-- ---- the process at its place

-- with its old credential the state is as before
old_put : (s : State) (at : ℕ) (old new : Process) → Ascends s.processes → at < length s.processes → old ≡ get_or s.processes at old
    → new ≡ record old { cred = new.cred } → with_cred (record s { processes = slice_set s.processes at new }) new old.cred ≡ s
old_put s at old new up h is rest =
    let pid : old.pid ≡ pid_at s.processes at = sym (pid_of_at s.processes at old h is) in
    let named : new.pid ≡ old.pid = ap (λ (p : Process). p.pid) rest in
    let within : at < length (slice_set s.processes at new) = rw (length-set s.processes at new) h in
    ap (λ (p : Process). record s { processes = put_process (record p { cred = old.cred }) (slice_set s.processes at new) }) rest
    ∙ ap (λ (ps : List Process). record s { processes = ps })
    (put_at (slice_set s.processes at new) at old (put_ascends s.processes at new up h (named ∙ pid)) within (sym named ∙ sym (pid_of_put s.processes at new h))
    ∙ put_back s.processes at new old (get_of_at s.processes at old h is))

-- ---- what is still to be made can be made

born_can : (n : ℕ) (s t after : State) (b : Bool) → (b ≡ true → is_alive t.processes n ≡ false) → CanKeep (birth_change (birth_if b n s after).res) t
born_can n s t after true free = free refl
born_can n s t after false free = tt

-- the state after the birth of such a child, with those spaces
abbrev born_of : State → Process → ℕ → Spaces → State
born_of s p n spaces = record { processes = insert_process (clone_child s.spaces p n) s.processes; spaces = spaces }

inner_born_can : (n : ℕ) (s t after : State) (b : Bool) → (b ≡ true → is_alive t.processes n ≡ false) → length t.spaces < greatest_number
    → CanKeep (inner_birth_change (birth_if b n s after).res) t
inner_born_can n s t after true free room = (free refl, room)
inner_born_can n s t after false free room = tt

inner_can : (n : ℕ) (s t : State) (p : Process) (spaces : Spaces) (r : Res) → (is_pid n ≡ true → is_alive t.processes n ≡ false)
    → length t.spaces < greatest_number → CanKeep (inner_birth_change (birth_unless r s (clone_child s.spaces p n) spaces).res) t
inner_can n s t p spaces (res.Err e) free room = tt
inner_can n s t p spaces _ free room = inner_born_can n s t (born_of s p n spaces) (is_pid n) free room

grouped_can : (groups : List ℕ) (r : Res) (t : State) → CanKeep (groups_change r groups) t
grouped_can groups res.Done t = tt
grouped_can groups _ t = tt

done_can : (r : Res) (to_make : Change) (t : State) → CanKeep to_make t → CanKeep (where_done r to_make) t
done_can res.Done to_make t can = can
done_can _ to_make t can = tt

can_is : (w : World) (s : State) (p : Process) (call : Call) (n : ℕ) → with_cred s p p.cred ≡ s → (is_pid n ≡ true → is_alive s.processes n ≡ false)
    → names_no_space s.spaces (call_of call) ≡ false → length s.spaces < greatest_number
    → CanKeep (change_by s.spaces (call_of call) (permitted_ruling w s p (call_of call) n).res p.cred) (with_cred s p (cred_after w s.spaces p (call_of call)))
can_is w s p (SetGroups ids) n same free stand room = grouped_can p.cred.groups (setgroups (space_of s.spaces p.space) p.cred ids).res _
can_is w s p Fork n same free stand room =
    born_can n s (with_cred s p p.cred) (record s { processes = insert_process (fork_child p n) s.processes }) (is_pid n)
    (λ is. ap (λ (t : State). is_alive t.processes n) same ∙ free is)
can_is w s p CloneUser n same free stand room =
    inner_can n s (with_cred s p p.cred) p (spaces_left s p model.CloneUser) (clone_user s.spaces p.space p.cred)
    (λ is. ap (λ (t : State). is_alive t.processes n) same ∙ free is) room
can_is w s p Unshare n same free stand room = done_can _ change.Space (with_cred s p p.cred) room
can_is w s p (SetNs m) n same free stand room = done_can _ (change.Join m) (with_cred s p p.cred) (stands_there s.spaces m.0 stand)
can_is w s p (WriteUidMap m given) n same free stand room =
    done_can _ (change.Map file.UidMap m (stored_list UidMap s.spaces m.0 given)) (with_cred s p p.cred) (stands_there s.spaces m.0 stand)
can_is w s p (WriteGidMap m given) n same free stand room =
    done_can _ (change.Map file.GidMap m (stored_list GidMap s.spaces m.0 given)) (with_cred s p p.cred) (stands_there s.spaces m.0 stand)
can_is w s p (WriteSetgroups m deny) n same free stand room = done_can _ (change.Word m deny) (with_cred s p p.cred) (stands_there s.spaces m.0 stand)
can_is w s p (Install more) n same free stand room = done_can _ (change.Install more) (with_cred s p p.cred) tt
can_is w s p call n same free stand room = tt

free_number : (processes : List Process) (child : Option ℕ) → IfSome child (λ pid. is_alive processes pid ≡ false)
    → is_pid (pid_number child) ≡ true → is_alive processes (pid_number child) ≡ false
free_number processes None free is = absurd (cc)
free_number processes (Some pid) free is = free

-- ---- what is asked for the process at a place

module _ (w : World) (s : State) (call : Call) (child : Option ℕ) (at : ℕ) (old new : Process) (up : Ascends s.processes) (h : at < length s.processes)
    (is : old ≡ get_or s.processes at old) (rest : new ≡ record old { cred = new.cred }) where
  abbrev k : model.Call
  k = call_of call

  abbrev given : Ruling
  given = permitted_ruling w s old k (pid_number child)

  abbrev leaves : Credential
  leaves = cred_after w s.spaces old k

  abbrev fields : Credential
  fields = without_groups old.cred

  abbrev after : State
  after = record s { processes = slice_set s.processes at new }

  -- what was made of it
  record Made (asked : Asked) : Type 0 where
    pub answers : asked.res ≡ given.res
    pub change : asked.change ≡ change_by s.spaces k asked.res old.cred
    pub cred : new.cred ≡ leaves

  by : (asked : Asked) → Made asked → asked.change ≡ change_by s.spaces k given.res old.cred
  by asked made = made.change ∙ ap (λ (r : Res). change_by s.spaces k r old.cred) made.answers

  new_is : (asked : Asked) → Made asked → new ≡ record old { cred = leaves }
  new_is asked made = rest ∙ ap (λ (c : Credential). record old { cred = c }) made.cred

  pid : (asked : Asked) → Made asked → new.pid ≡ pid_at s.processes at
  pid asked made = ap (λ (q : Process). q.pid) rest ∙ sym (pid_of_at s.processes at old h is)

  after_is : (asked : Asked) → Made asked → after ≡ with_cred s old leaves
  after_is asked made =
      ap (λ (ps : List Process). record s { processes = ps })
      (sym (put_at s.processes at new up h (pid asked made)) ∙ ap (λ (q : Process). put_process q s.processes) (new_is asked made))

  asked_old : (asked : Asked) → Made asked → IsAsked asked fields at after s given
  asked_old asked made = record {
    caller = new;
    there = get_put s.processes at new h;
    answers = made.answers;
    keeps = ap (λ (ch : Change). kept ch new after) (by asked made)
        ∙ ap (λ (q : Process). kept (change_by s.spaces k given.res old.cred) q after) (new_is asked made)
        ∙ ap (kept (change_by s.spaces k given.res old.cred) (record old { cred = leaves })) (after_is asked made)
        ∙ kept_is w s old call (pid_number child) (same_put s at old up h is);
    undoes = ap (λ (ch : Change). undone ch fields new after) (by asked made)
        ∙ undone_is (change_by s.spaces k given.res old.cred) fields after at new
        (put_ascends s.processes at new up h (pid asked made)) (rw (length-set s.processes at new) h)
        (sym (get_or-set_same s.processes at new new h))
        ∙ ap (λ (c : Credential). with_cred after new (undone_cred (change_by s.spaces k given.res old.cred) fields c)) made.cred
        ∙ ap (with_cred after new) (restored w s old call (pid_number child))
        ∙ old_put s at old new up h is rest;
  }

  -- it was asked of the rules
  pub asked_is : (r : Result Res NoMemory) (changed : Change) → OrNoMemory r (λ res. res ≡ given.res)
      → OrNoMemory r (λ res. changed ≡ change_by s.spaces k res old.cred)
      → OrNoMemory r (λ _. new.cred ≡ leaves)
      → OrNoMemory r (λ res. (p : Process) → slice_get s.processes at ≡ Some p
      → IsAsked (record { res = res; change = changed }) (without_groups p.cred) at after s (permitted_ruling w s p k (pid_number child)))
  asked_is (Ok res) changed answers change cred = λ p there.
      let asked : Asked = record { res = res; change = changed } in
      subst (λ (q : Process). IsAsked asked (without_groups q.cred) at after s (permitted_ruling w s q k (pid_number child)))
      (same_there s.processes at old p h is there)
      (asked_old asked (record { answers = answers; change = change; cred = cred }))
  asked_is (Err why) changed answers change cred = tt

  -- and what is still to be made of it can be made
  pub asked_can : (r : Result Res NoMemory) (changed : Change) → IfSome child (λ pid. is_alive s.processes pid ≡ false)
      → names_no_space s.spaces k ≡ false → length s.spaces < greatest_number → OrNoMemory r (λ res. res ≡ given.res)
      → OrNoMemory r (λ res. changed ≡ change_by s.spaces k res old.cred) → OrNoMemory r (λ _. new.cred ≡ leaves)
      → OrNoMemory r (λ _. CanKeep changed after)
  asked_can (Ok res) changed free stand room answers change cred =
      let asked : Asked = record { res = res; change = changed } in
      let made : Made asked = record { answers = answers; change = change; cred = cred } in
      subst (CanKeep changed) (sym (after_is asked made))
      (subst (λ (ch : Change). CanKeep ch (with_cred s old leaves)) (sym (by asked made))
      (can_is w s old call (pid_number child) (same_put s at old up h is) (free_number s.processes child free) stand room))
  asked_can (Err why) changed free stand room answers change cred = tt

-- ---- what can take memory

where_made : (P : Type 0) (r : Res) (to_make : Change) → (makes_new to_make ≡ true → P) → makes_new (where_done r to_make) ≡ true → P
where_made P res.Done to_make old is = old is
where_made P _ to_make old is = absurd (cc)

-- a call of which a process or a space is still to be made can
made_takes : (spaces : Spaces) (call : Call) (r : Res) (c : Credential)
    → makes_new (change_by spaces (call_of call) r c) ≡ true → takes_memory (call_of call) ≡ true
made_takes spaces (SetGroups ids) r c is = refl
made_takes spaces Fork r c is = refl
made_takes spaces CloneUser r c is = refl
made_takes spaces Unshare r c is = refl
made_takes spaces (SetNs m) r c is = where_made _ r (change.Join m) (λ new. absurd (cc)) is
made_takes spaces (WriteUidMap m given) r c is = refl
made_takes spaces (WriteGidMap m given) r c is = refl
made_takes spaces (WriteSetgroups m deny) r c is = where_made _ r (change.Word m deny) (λ new. absurd (cc)) is
made_takes spaces (Install more) r c is = where_made _ r (change.Install more) (λ new. absurd (cc)) is
made_takes spaces call r c is = absurd (cc)

pub asked_takes : (r : Result Res NoMemory) (changed : Change) (spaces : Spaces) (call : Call) (c : Credential)
    → OrNoMemory r (λ res. changed ≡ change_by spaces (call_of call) res c)
    → OrNoMemory r (λ _. makes_new changed ≡ true → takes_memory (call_of call) ≡ true)
asked_takes (Ok res) changed spaces call c change = λ is. made_takes spaces call res c (sym (ap makes_new change) ∙ is)
asked_takes (Err why) changed spaces call c change = tt

-- ---- what is left of it

-- undone, the state is as before
pub undone_before : (asked : Asked) (fields old : Credential) (at : ℕ) (left before new : State) (rules : Ruling) → IsAsked asked fields at left before rules
    → old ≡ fields → ((p : Process) → slice_get left.processes at ≡ Some p → new ≡ undone asked.change old p left) → new ≡ before
undone_before asked fields old at left before new rules is same undo =
    undo is.caller is.there ∙ ap (λ (c : Credential). undone asked.change c is.caller left) same ∙ is.undoes

-- and so it is where there was nothing to undo
pub nothing_before : (asked : Asked) (fields : Credential) (at : ℕ) (left before new : State) (rules : Ruling) → IsAsked asked fields at left before rules
    → ((old : Credential) (p : Process) → undone asked.change old p left ≡ left) → new ≡ left → new ≡ before
nothing_before asked fields at left before new rules is nothing same = same ∙ sym (nothing fields is.caller) ∙ is.undoes

-- what holds holds at an error too
pub on_err : {T E P : Type 0} (r : Result T E) → P → OnErr r P
on_err (Ok value) holds = tt
on_err (Err why) holds = holds
