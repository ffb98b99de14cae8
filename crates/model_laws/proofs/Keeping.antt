-- Each step keeps what a state keeps.
use Rattle.std.proofs.Common.{◌≡◌, ℕ, ◌<◌, ◌≤◌, Bool, true, false, List, [], ◌∷◌, length, Some, if◌then◌else◌, refl, sym, inl, inr, subst, arith}
use Rattle.std.specs.Prelude.{All}
use Rattle.std.proofs.lemmas.List.Elements.{All-weaker}
use Rattle.cm_base.specs.declared.errno.Errno.TheVariants.{EAGAIN}
use Rattle.cm_base.specs.declared.res.Res.{Res}
use Rattle.cm_base.specs.declared.res.Res.TheVariants.{Done, Id, Child, Err}
use Rattle.model_cred.specs.Call.{Call, SetUid, SetReUid, SetResUid, SetFsUid, SetGid, SetReGid, SetResGid, SetFsGid}
use Rattle.model_cred.specs.Call.{SetGroups, CapSet, BsetDrop, AmbRaise, AmbLower, AmbClear, SecureBits, KeepCaps}
use Rattle.model_cred.specs.Call.{NoNewPrivs, Fork, CloneUser, Unshare, SetNs, WriteUidMap, WriteGidMap, WriteSetgroups}
use Rattle.model_cred.specs.Call.{Exec, Exit, Install, Event}
use Rattle.cm_filter.specs.Filters.{Filter}
use Rattle.cm_filter.specs.declared.kind.CallKind.{CallKind}
use Rattle.model_cred.specs.Credential.{Credential, Keeps}
use Rattle.model_cred.specs.Files.{FileTable, KeepsFiles}
use Rattle.model_cred.specs.IdMap.{extents_of}
use Rattle.model_cred.specs.Process.{Process, State, KeepsState, process_at, put_process, insert_process, without_process, is_alive, is_pid}
use Rattle.model_cred.specs.Space.{Spaces, KeepsSpace, space_of}
use Rattle.model_cred.specs.World.{World}
use Rattle.model_rules.proofs.Spaces.{keeps_space_of, stands_there}
use Rattle.model_rules.specs.Answer.{Answer}
use Rattle.model_rules.specs.Maps.{UidMap, GidMap, Written}
use Rattle.model_rules.specs.Namespaces.{unshare, clone_user, join}
use Rattle.model_rules.specs.Reply.{Reply, reply, spaces_after, stays, place_after, spaces_with, writes}
use Rattle.model_rules.specs.SetId.{has_setuid, has_setgid}
use Rattle.model_run.specs.Later.{Later, members_after}
use Rattle.model_run.specs.Ruling.{Ruling, ruling, permitted_ruling, birth_unless, reply_to, state_left, filter_left, state_without}
use Rattle.model_run.specs.Ruling.{fork_child, clone_child}
use Rattle.model_run.specs.Step.{Run, told_child, names_no_space, is_living_child}
use Rattle.model_laws.specs.Runs.{StepKeeps, RunKeeps, LaterKeeps, WorldRunKeeps}
use Rattle.model_laws.proofs.Credentials.{Good, good_uids, good_gids, good_setfsuid, good_setfsgid, good_setgroups}
use Rattle.model_laws.proofs.Credentials.{good_capset, good_bset_drop, good_amb_raise, good_amb_lower, good_amb_clear}
use Rattle.model_laws.proofs.Credentials.{good_secure_bits, good_keep_caps, good_no_new_privs, good_unshare, good_join}
use Rattle.model_laws.proofs.Credentials.{good_execve, good_install, keeps_newcomer}
use Rattle.model_laws.proofs.Ids.{setresid_ids, setreid_ids, setid_ids}
use Rattle.model_cred.proofs.Orders.{ascends_forth, ascends_back, ascends_put, ascends_insert, ascends_without, all_put, all_insert, all_without, all_found}
use Rattle.model_laws.proofs.StepParts.{Stepped, Answers, stepped, by_filter}
use Rattle.model_laws.proofs.Trees.{KeepsTree, GoodWrite, good_map, good_word}

-- What a reply leaves: the caller is in a space that stands and keeps what a credential keeps, and the spaces are a tree
-- of as many or more.
record GoodReply (spaces : Spaces) (r : Reply) (after : Spaces) : Type 0 where
  space : r.space < length after
  cred : Keeps r.cred
  tree : KeepsTree after
  grows : length spaces ≤ length after

stays_good : (spaces : Spaces) (at : ℕ) (a : Answer) → at < length spaces → KeepsTree spaces → Good a → GoodReply spaces (stays at a) spaces
stays_good spaces at a there tree good = record { space = there; cred = good.cred; tree = tree; grows = omega arith }

-- a space that is made
record Made (spaces : Spaces) (at : ℕ) (r : Res) (after : Spaces) : Type 0 where
  tree : KeepsTree after
  place : place_after r at (length spaces) < length after
  old : at < length after
  grows : length spaces ≤ length after

made : (r : Res) (spaces : Spaces) (at : ℕ) (c : Credential) → at < length spaces → KeepsTree spaces → Keeps c → Made spaces at r (spaces_with r spaces at c)
made r spaces at c there tree keeps = grind arith

joined : (r : Res) (at target : ℕ) (count : ℕ) → at < count → target < count → place_after r at target < count
joined r at target count there other = grind arith

writes_good : (spaces : Spaces) (at : ℕ) (c : Credential) (a : Written) → at < length spaces → Keeps c
    → GoodWrite spaces a → GoodReply spaces (writes at c a) a.spaces
writes_good spaces at c a there keeps good =
    let count : length a.spaces ≡ length spaces = good.count in
    record { space = omega arith; cred = keeps; tree = good.keeps; grows = omega arith }

reply_good : (files : FileTable) (spaces : Spaces) (at : ℕ) (c : Credential) (call : Call) → KeepsFiles files → KeepsTree spaces → at < length spaces → Keeps c
    → names_no_space spaces call ≡ false → GoodReply spaces (reply files spaces at c call) (spaces_after spaces at c call)
reply_good files spaces at c (SetUid id) has tree there keeps named =
    let s : KeepsSpace (space_of spaces at) = keeps_space_of spaces at tree.each in
    stays_good spaces at _ there tree
    (good_uids (space_of spaces at) c _ keeps
    (setid_ids (extents_of (space_of spaces at).uids) (has_setuid c) c.uid id s.uids keeps.uid))
reply_good files spaces at c (SetReUid r e) has tree there keeps named =
    let s : KeepsSpace (space_of spaces at) = keeps_space_of spaces at tree.each in
    stays_good spaces at _ there tree
    (good_uids (space_of spaces at) c _ keeps
    (setreid_ids (extents_of (space_of spaces at).uids) (has_setuid c) c.uid r e s.uids keeps.uid))
reply_good files spaces at c (SetResUid r e v) has tree there keeps named =
    let s : KeepsSpace (space_of spaces at) = keeps_space_of spaces at tree.each in
    stays_good spaces at _ there tree
    (good_uids (space_of spaces at) c _ keeps
    (setresid_ids (extents_of (space_of spaces at).uids) (has_setuid c) c.uid r e v s.uids keeps.uid))
reply_good files spaces at c (SetFsUid id) has tree there keeps named =
    stays_good spaces at _ there tree (good_setfsuid (space_of spaces at) c id (keeps_space_of spaces at tree.each) keeps)
reply_good files spaces at c (SetGid id) has tree there keeps named =
    let s : KeepsSpace (space_of spaces at) = keeps_space_of spaces at tree.each in
    stays_good spaces at _ there tree (good_gids c _ keeps (setid_ids (extents_of (space_of spaces at).gids) (has_setgid c) c.gid id s.gids keeps.gid))
reply_good files spaces at c (SetReGid r e) has tree there keeps named =
    let s : KeepsSpace (space_of spaces at) = keeps_space_of spaces at tree.each in
    stays_good spaces at _ there tree (good_gids c _ keeps (setreid_ids (extents_of (space_of spaces at).gids) (has_setgid c) c.gid r e s.gids keeps.gid))
reply_good files spaces at c (SetResGid r e v) has tree there keeps named =
    let s : KeepsSpace (space_of spaces at) = keeps_space_of spaces at tree.each in
    stays_good spaces at _ there tree (good_gids c _ keeps (setresid_ids (extents_of (space_of spaces at).gids) (has_setgid c) c.gid r e v s.gids keeps.gid))
reply_good files spaces at c (SetFsGid id) has tree there keeps named =
    stays_good spaces at _ there tree (good_setfsgid (space_of spaces at) c id (keeps_space_of spaces at tree.each) keeps)
reply_good files spaces at c (SetGroups ids) has tree there keeps named =
    stays_good spaces at _ there tree (good_setgroups (space_of spaces at) c ids (keeps_space_of spaces at tree.each) keeps)
reply_good files spaces at c (CapSet e p i) has tree there keeps named = stays_good spaces at _ there tree (good_capset c e p i keeps)
reply_good files spaces at c (BsetDrop cap) has tree there keeps named = stays_good spaces at _ there tree (good_bset_drop c cap keeps)
reply_good files spaces at c (AmbRaise cap) has tree there keeps named = stays_good spaces at _ there tree (good_amb_raise c cap keeps)
reply_good files spaces at c (AmbLower cap) has tree there keeps named = stays_good spaces at _ there tree (good_amb_lower c cap keeps)
reply_good files spaces at c AmbClear has tree there keeps named = stays_good spaces at _ there tree (good_amb_clear c keeps)
reply_good files spaces at c (SecureBits bits) has tree there keeps named = stays_good spaces at _ there tree (good_secure_bits c bits keeps)
reply_good files spaces at c (KeepCaps argument) has tree there keeps named = stays_good spaces at _ there tree (good_keep_caps c argument keeps)
reply_good files spaces at c (NoNewPrivs argument) has tree there keeps named = stays_good spaces at _ there tree (good_no_new_privs c argument keeps)
reply_good files spaces at c Fork has tree there keeps named = record { space = there; cred = keeps; tree = tree; grows = omega arith }
reply_good files spaces at c CloneUser has tree there keeps named =
    let new : Made spaces at (clone_user spaces at c) (spaces_with (clone_user spaces at c) spaces at c)
    = made (clone_user spaces at c) spaces at c there tree keeps in
    record { space = new.old; cred = keeps; tree = new.tree; grows = new.grows }
reply_good files spaces at c Unshare has tree there keeps named =
    let new : Made spaces at (unshare spaces at c).res (spaces_with (unshare spaces at c).res spaces at c)
    = made (unshare spaces at c).res spaces at c there tree keeps in
    record { space = new.place; cred = (good_unshare spaces at c keeps).cred; tree = new.tree; grows = new.grows }
reply_good files spaces at c (SetNs target) has tree there keeps named =
    record {
      space = joined (join spaces at c target).res at target (length spaces) there (stands_there spaces target named);
      cred = (good_join spaces at c target keeps).cred;
      tree = tree;
      grows = omega arith;
    }
reply_good files spaces at c (WriteUidMap target list) has tree there keeps named =
    writes_good spaces at c _ there keeps (good_map UidMap spaces at c target list (stands_there spaces target named) tree)
reply_good files spaces at c (WriteGidMap target list) has tree there keeps named =
    writes_good spaces at c _ there keeps (good_map GidMap spaces at c target list (stands_there spaces target named) tree)
reply_good files spaces at c (WriteSetgroups target deny) has tree there keeps named =
    writes_good spaces at c _ there keeps (good_word spaces at c target deny (stands_there spaces target named) tree)
reply_good files spaces at c (Exec f) has tree there keeps named = stays_good spaces at _ there tree (good_execve files spaces at c f has keeps)
reply_good files spaces at c Exit has tree there keeps named = record { space = there; cred = keeps; tree = tree; grows = omega arith }
reply_good files spaces at c (Install more) has tree there keeps named = stays_good spaces at _ there tree (good_install c keeps)

-- ---- states
tree_of : (s : State) → KeepsState s → KeepsTree s.spaces
tree_of s keeps = record { tree = keeps.tree; each = keeps.spaces }

wider : (n m : ℕ) (processes : List Process) → n ≤ m → All (λ p. p.space < n) processes → All (λ p. p.space < m) processes
wider n m processes le all = All-weaker (λ p. p.space < n) (λ p. p.space < m) (λ p low. omega arith) processes all

-- a process in the place of one, with these spaces
keeps_left : (s : State) (p : Process) (own : Filter) (r : Reply) (after : Spaces) → KeepsState s → GoodReply s.spaces r after
    → KeepsState (record { processes = put_process (record p { space = r.space; cred = r.cred; filter = own }) s.processes; spaces = after })
keeps_left s p own r after keeps good = record {
  ascends = ascends_back 0 (put_process (record p { space = r.space; cred = r.cred; filter = own }) s.processes)
      (ascends_put 0 (record p { space = r.space; cred = r.cred; filter = own }) s.processes (ascends_forth s.processes keeps.ascends));
  stands = all_put (λ q. q.space < length after) (record p { space = r.space; cred = r.cred; filter = own }) s.processes good.space
      (wider (length s.spaces) (length after) s.processes good.grows keeps.stands);
  credentials = all_put (λ q. Keeps q.cred) (record p { space = r.space; cred = r.cred; filter = own }) s.processes good.cred keeps.credentials;
  tree = good.tree.tree;
  spaces = good.tree.each;
}

-- one more process, with these spaces
keeps_born : (s : State) (child : Process) (after : Spaces) → KeepsState s → is_alive s.processes child.pid ≡ false
    → child.space < length after → Keeps child.cred
    → length s.spaces ≤ length after → KeepsTree after → KeepsState (record { processes = insert_process child s.processes; spaces = after })
keeps_born s child after keeps dead place cred grows tree = record {
  ascends = ascends_back 0 (insert_process child s.processes)
      (ascends_insert 0 child s.processes dead (omega arith) (ascends_forth s.processes keeps.ascends));
  stands = all_insert (λ q. q.space < length after) child s.processes place (wider (length s.spaces) (length after) s.processes grows keeps.stands);
  credentials = all_insert (λ q. Keeps q.cred) child s.processes cred keeps.credentials;
  tree = tree.tree;
  spaces = tree.each;
}

keeps_without : (s : State) (p : Process) → KeepsState s → KeepsState (state_without s p)
keeps_without s p keeps = record {
  ascends = ascends_back 0 (without_process p s.processes) (ascends_without 0 p s.processes (ascends_forth s.processes keeps.ascends));
  stands = all_without (λ q. q.space < length s.spaces) p s.processes (λ q f low. low) keeps.stands;
  credentials = all_without (λ q. Keeps q.cred) p s.processes (λ q f cred. cred) keeps.credentials;
  tree = keeps.tree;
  spaces = keeps.spaces;
}

-- a birth, by the test for a pid
keeps_birth : (s : State) (child : Process) (after : Spaces) (b : Bool) → KeepsState s
    → (b ≡ true → KeepsState (record { processes = insert_process child s.processes; spaces = after }))
    → KeepsState (let r : Ruling
    = if b then record {
      res = Child child.pid;
      state = record { processes = insert_process child s.processes; spaces = after };
    } else record {
      res = Err EAGAIN;
      state = s;
    } in
    r.state)
keeps_birth s child after true keeps born = born refl
keeps_birth s child after false keeps born = keeps

-- the result of making a space is that it is done, or an error
abbrev pub IsPlain : Res → Type 0
IsPlain Done = Unit {0}
IsPlain (Id n) = ⊥
IsPlain (Child n) = ⊥
IsPlain (Err e) = Unit {0}

pub clone_plain : (spaces : Spaces) (at : ℕ) (c : Credential) → IsPlain (clone_user spaces at c)
clone_plain spaces at c = grind arith

-- clone_user, by the result of making the space
keeps_clone : (r : Res) (s : State) (p : Process) (n : ℕ) → IsPlain r → KeepsState s → p.space < length s.spaces → Keeps p.cred
    → (is_pid n ≡ true → is_alive s.processes n ≡ false)
    → KeepsState (birth_unless r s (clone_child s.spaces p n) (spaces_with r s.spaces p.space p.cred)).state
keeps_clone (Err e) s p n plain keeps there cred dead = keeps
keeps_clone Done s p n plain keeps there cred dead =
    let new : Made s.spaces p.space Done (spaces_with Done s.spaces p.space p.cred) = made Done s.spaces p.space p.cred there (tree_of s keeps) cred in
    keeps_birth s (clone_child s.spaces p n) (spaces_with Done s.spaces p.space p.cred) (is_pid n) keeps (λ is.
    keeps_born s (clone_child s.spaces p n) (spaces_with Done s.spaces p.space p.cred) keeps (dead is) new.place
    (keeps_newcomer p.cred cred) new.grows new.tree)
keeps_clone _ s p n plain keeps there cred dead = absurd plain

-- a call that is neither a birth nor an exit
keeps_call : (w : World) (s : State) (p : Process) (call : Call) → KeepsFiles w.files → KeepsState s → p.space < length s.spaces → Keeps p.cred
    → names_no_space s.spaces call ≡ false → KeepsState (state_left s p call (reply_to w s p call))
keeps_call w s p call has keeps there cred named =
    keeps_left s p (filter_left p call) (reply_to w s p call) (spaces_after s.spaces p.space p.cred call) keeps
    (reply_good w.files s.spaces p.space p.cred call has (tree_of s keeps) there cred named)

keeps_permitted : (w : World) (s : State) (p : Process) (call : Call) (n : ℕ) → KeepsFiles w.files → KeepsState s → p.space < length s.spaces → Keeps p.cred
    → names_no_space s.spaces call ≡ false → (is_pid n ≡ true → is_alive s.processes n ≡ false) → KeepsState (permitted_ruling w s p call n).state
keeps_permitted w s p Fork n has keeps there cred named dead =
    keeps_birth s (fork_child p n) s.spaces (is_pid n) keeps (λ is.
    keeps_born s (fork_child p n) s.spaces keeps (dead is) there cred (omega arith) (tree_of s keeps))
keeps_permitted w s p CloneUser n has keeps there cred named dead =
    keeps_clone (clone_user s.spaces p.space p.cred) s p n (clone_plain s.spaces p.space p.cred) keeps there cred dead
keeps_permitted w s p Exit n has keeps there cred named dead = keeps_without s p keeps
keeps_permitted w s p call n has keeps there cred named dead = keeps_call w s p call has keeps there cred named

keeps_ruling : (w : World) (s : State) (p : Process) (call : Call) (n : ℕ) → KeepsFiles w.files → KeepsState s → p.space < length s.spaces → Keeps p.cred
    → names_no_space s.spaces call ≡ false → (is_pid n ≡ true → is_alive s.processes n ≡ false) → KeepsState (ruling w s p call n).state
keeps_ruling w s p call n has keeps there cred named dead =
    by_filter (λ r. KeepsState r.state) w s p call n keeps (keeps_permitted w s p call n has keeps there cred named dead)

-- the child that is told isn't alive
pub told_is_new : (processes : List Process) (res : Res) → is_living_child processes res ≡ false
    → is_pid (told_child res) ≡ true → is_alive processes (told_child res) ≡ false
told_is_new processes res dead is = grind arith

keeps_answers : (w : World) (s : State) (e : Event) (s' : State) (p : Process) → KeepsFiles w.files → KeepsState s → process_at s.processes e.pid ≡ Some p
    → names_no_space s.spaces e.call ≡ false → is_living_child s.processes e.res ≡ false → Answers w s p e.call e.res s' → KeepsState s'
keeps_answers w s e s' p has keeps lives named new (inl same) = subst KeepsState (sym same.state) keeps
keeps_answers w s e s' p has keeps lives named new (inr rules) =
    subst KeepsState (sym rules.state)
    (keeps_ruling w s p e.call (told_child e.res) has keeps
    (all_found (λ q. q.space < length s.spaces) s.processes e.pid p keeps.stands lives)
    (all_found (λ q. Keeps q.cred) s.processes e.pid p keeps.credentials lives)
    named (told_is_new s.processes e.res new))

pub step_keeps : StepKeeps
unfolding StepKeeps
step_keeps w s e s' has keeps step =
    let parts : Stepped w s e s' = stepped w s e s' step in
    keeps_answers w s e s' parts.caller has keeps parts.lives parts.spaces parts.child parts.answers

run_step : (w : World) (s : State) (es : List Event) (s' : State) → KeepsFiles w.files → KeepsState s → Run w s es s' → KeepsState s'
unfolding StepKeeps
run_step w s [] s' has keeps run = subst KeepsState (sym run) keeps
run_step w s (e ∷ es) s' has keeps run = run_step w run.0 es s' has (step_keeps w s e run.0 has keeps run.1) run.2

pub run_keeps : RunKeeps
unfolding RunKeeps
run_keeps = run_step

later_step : (permitted : CallKind → Bool) (w : World) (s : State) (members : List ℕ) (es : List Event) (s' : State) (members' : List ℕ)
    → KeepsFiles w.files → KeepsState s → Later permitted w s members es s' members' → KeepsState s'
unfolding StepKeeps
later_step permitted w s members [] s' members' has keeps later = subst KeepsState (sym later.0) keeps
later_step permitted w s members (e ∷ es) s' members' has keeps later =
    later_step permitted w later.0 (members_after members e.pid e.call e.res) es s' members' has (step_keeps w s e later.0 has keeps later.3) later.4

pub later_keeps : LaterKeeps
unfolding LaterKeeps
later_keeps = later_step

pub world_run_keeps : WorldRunKeeps
unfolding WorldRunKeeps
world_run_keeps w es s' keeps run = run_step w w.start es s' keeps.files keeps.start run
