-- How many processes live and how many spaces stand after a call.
use Rattle.std.proofs.Common.{◌≡◌, ℕ, suc, ◌+◌, ◌<◌, ◌≤◌, ◌==◌, not, Bool, true, false, cond, List, [], ◌∷◌, length, filter}
use Rattle.std.proofs.Common.{Option, Some, None, if◌then◌else◌, nat_lt, refl, sym, ap, ◌∙◌, inl, inr, arith}
use Rattle.std.proofs.lemmas.Bool.{cases_Bool, cond-true, cond-false, cond_both, eqb-true, ne_eqb, not_from_false, not_from_true}
use Rattle.std.proofs.lemmas.List.{length-map}
use Rattle.cm_base.specs.declared.errno.Errno.{Errno}
use Rattle.cm_base.specs.declared.errno.Errno.TheVariants.{EAGAIN, EPERM, EINVAL}
use Rattle.cm_base.specs.declared.res.Res.{Res}
use Rattle.cm_base.specs.declared.res.Res.TheVariants.{Done, Child, Err}
use Rattle.model_cred.proofs.Orders.{AscendsFrom, ascends_forth}
use Rattle.model_cred.proofs.Spaces.{length_put}
use Rattle.model_cred.specs.Call.{Call, Fork, CloneUser, Unshare, WriteUidMap, WriteGidMap, WriteSetgroups, Exit}
use Rattle.model_cred.specs.Credential.{Credential}
use Rattle.model_cred.specs.IdMap.{Extent}
use Rattle.model_cred.specs.Process.{Ascends, Process, State, after_exit, insert_process, is_pid, without_process}
use Rattle.model_cred.specs.Space.{Space, Spaces}
use Rattle.model_cred.specs.World.{World}
use Rattle.model_plans.proofs.Others.{put_length}
use Rattle.model_rules.specs.Maps.{MapFile, Written, UidMap, GidMap, write_done, write_map, write_refused, write_setgroups, write_stored}
use Rattle.model_rules.specs.Namespaces.{clone_user, unshare}
use Rattle.model_rules.specs.Reply.{spaces_after, spaces_with}
use Rattle.model_run.specs.Ruling.{Ruling, birth, birth_unless, clone_child, fork_child, reply_to, ruling, permitted_ruling, spaces_left, filter_left}
use Rattle.model_run.specs.Ruling.{state_left}
use Rattle.model_laws.proofs.StepParts.{by_filter}

-- ---- processes

insert_count : (new : Process) (processes : List Process) → length (insert_process new processes) ≡ suc (length processes)
insert_count new [] = refl
insert_count new (p ∷ processes) =
    elim (nat_lt new.pid p.pid)
    as (λ (b : Bool). length (cond b (new ∷ p ∷ processes) (p ∷ insert_process new processes)) ≡ suc (suc (length processes))) [
      | true ↦ refl
      | false ↦ ap suc (insert_count new processes)
    ]

-- the process has another pid
abbrev is_other : ℕ → Process → Bool
is_other pid p = not (p.pid == pid)

-- none has a pid that is below them all
others_all : (low pid : ℕ) (processes : List Process) → AscendsFrom low processes → pid < low
    → length (filter (is_other pid) processes) ≡ length processes
others_all low pid [] ascends below = refl
others_all low pid (p ∷ processes) ascends below =
    let above : low ≤ p.pid = ascends.0 in
    cond_both (is_other pid p) (p ∷ filter (is_other pid) processes) (filter (is_other pid) processes)
    (λ (left : List Process). length left ≡ suc (length processes))
    (λ _. ap suc (others_all (suc p.pid) pid processes ascends.1 (omega arith)))
    (λ same. let differ : p.pid == pid ≡ false = ne_eqb p.pid pid (λ is. omega arith) in
    absurd (let never : true ≡ false = sym (not_from_false (p.pid == pid) differ) ∙ same in cc))

-- at most one has the pid
others_count : (low pid : ℕ) (processes : List Process) → AscendsFrom low processes
    → length processes ≤ length (filter (is_other pid) processes) + 1
others_count low pid [] ascends = omega arith
others_count low pid (p ∷ processes) ascends =
    elim (cases_Bool (p.pid == pid)) [
      | inl same ↦
          let is : p.pid ≡ pid = eqb-true p.pid pid same in
          let rest : length (filter (is_other pid) processes) ≡ length processes = others_all (suc p.pid) pid processes ascends.1 (omega arith) in
          let left : filter (is_other pid) (p ∷ processes) ≡ filter (is_other pid) processes
          = cond-false (is_other pid p) (p ∷ filter (is_other pid) processes) (filter (is_other pid) processes) (not_from_true (p.pid == pid) same) in
          let count : length (filter (is_other pid) (p ∷ processes)) ≡ length processes = ap length left ∙ rest in
          omega (arith, count)
      | inr other ↦
          let rest : length processes ≤ length (filter (is_other pid) processes) + 1 = others_count (suc p.pid) pid processes ascends.1 in
          let left : filter (is_other pid) (p ∷ processes) ≡ p ∷ filter (is_other pid) processes
          = cond-true (is_other pid p) (p ∷ filter (is_other pid) processes) (filter (is_other pid) processes) (not_from_false (p.pid == pid) other) in
          let count : length (filter (is_other pid) (p ∷ processes)) ≡ suc (length (filter (is_other pid) processes)) = ap length left in
          omega (arith, count, rest)
    ]

filter_count : (test : Process → Bool) (processes : List Process) → length (filter test processes) ≤ length processes
filter_count test [] = omega arith
filter_count test (p ∷ processes) =
    let rest : length (filter test processes) ≤ length processes = filter_count test processes in
    cond_both (test p) (p ∷ filter test processes) (filter test processes)
    (λ (left : List Process). length left ≤ suc (length processes)) (λ _. omega (arith, rest)) (λ _. omega (arith, rest))

-- ---- what a call may add and take away
-- processes that are born of it
abbrev pub births : Call → ℕ
births Fork = 1
births CloneUser = 1
births _ = 0

-- processes that go by it
abbrev pub exits : Call → ℕ
exits Exit = 1
exits _ = 0

-- spaces that it makes
abbrev pub makes : Call → ℕ
makes CloneUser = 1
makes Unshare = 1
makes _ = 0

-- No more than that comes to the processes and spaces, and no more goes.
pub record Sizes (s : State) (call : Call) (t : State) : Type 0 where
  pub more : length t.processes ≤ length s.processes + births call
  pub fewer : length s.processes ≤ length t.processes + exits call
  pub spaces : length t.spaces ≤ length s.spaces + makes call

birth_sizes : (s : State) (child : Process) (call : Call) (after : Spaces) → births call ≡ 1 → exits call ≡ 0
    → length after ≤ length s.spaces + makes call → Sizes s call (birth s child after).state
birth_sizes s child call after one none fits =
    cond_both (is_pid child.pid)
    (record { res = Child child.pid; state = record { processes = insert_process child s.processes; spaces = after } })
    (record { res = Err EAGAIN; state = s }) (λ (r : Ruling). Sizes s call r.state)
    (λ _. let count = insert_count child s.processes in
    record { more = omega (arith, count, one); fewer = omega (arith, count); spaces = fits })
    (λ _. record { more = omega arith; fewer = omega arith; spaces = omega arith })

unless_sizes : (r : Res) (s : State) (child : Process) (call : Call) (after : Spaces) → births call ≡ 1 → exits call ≡ 0
    → length after ≤ length s.spaces + makes call → Sizes s call (birth_unless r s child after).state
unless_sizes (Err e) s child call after one none fits = record { more = omega arith; fewer = omega arith; spaces = omega arith }
unless_sizes _ s child call after one none fits = birth_sizes s child call after one none fits

-- ---- spaces
with_count : (r : Res) (spaces : Spaces) (at : ℕ) (c : Credential) → length (spaces_with r spaces at c) ≤ length spaces + 1
with_count Done spaces at c = omega arith
with_count _ spaces at c = omega arith

-- as many spaces as before
record SameCount (spaces : Spaces) (w : Written) : Type 0 where
  count : length w.spaces ≤ length spaces

written_if : (spaces : Spaces) (b : Bool) (x y : Written) → SameCount spaces x → SameCount spaces y → SameCount spaces (if b then x else y)
written_if spaces true x y first second = first
written_if spaces false x y first second = second

done_count : (spaces : Spaces) (target : ℕ) (t : Space) → SameCount spaces (write_done spaces target t)
done_count spaces target t = let same = length_put target t spaces in record { count = omega (arith, same) }

refused_count : (e : Errno) (spaces : Spaces) → SameCount spaces (write_refused e spaces)
refused_count e spaces = record { count = omega arith }

mapped_count : (file : MapFile) (spaces : Spaces) (at : ℕ) (c : Credential) (target : ℕ) (given : List Extent)
    (stored : Option (List Extent)) → SameCount spaces (write_stored file spaces at c target given stored)
mapped_count file spaces at c target given None = refused_count EPERM spaces
mapped_count file spaces at c target given (Some stored) =
    written_if spaces _ _ _ (done_count spaces target _) (refused_count EPERM spaces)

map_count : (file : MapFile) (spaces : Spaces) (at : ℕ) (c : Credential) (target : ℕ) (given : List Extent)
    → SameCount spaces (write_map file spaces at c target given)
map_count file spaces at c target given =
    written_if spaces _ _ _ (refused_count EPERM spaces)
    (written_if spaces _ _ _ (refused_count EINVAL spaces) (mapped_count file spaces at c target given _))

word_count : (spaces : Spaces) (at : ℕ) (c : Credential) (target : ℕ) (deny : Bool)
    → SameCount spaces (write_setgroups spaces at c target deny)
word_count spaces at c target deny = written_if spaces _ _ _ (done_count spaces target _) (refused_count EPERM spaces)

after_count : (spaces : Spaces) (at : ℕ) (c : Credential) (call : Call)
    → length (spaces_after spaces at c call) ≤ length spaces + makes call
after_count spaces at c CloneUser = with_count (clone_user spaces at c) spaces at c
after_count spaces at c Unshare = with_count (unshare spaces at c).res spaces at c
after_count spaces at c (WriteUidMap target given) = let same = (map_count UidMap spaces at c target given).count in omega (arith, same)
after_count spaces at c (WriteGidMap target given) = let same = (map_count GidMap spaces at c target given).count in omega (arith, same)
after_count spaces at c (WriteSetgroups target deny) = let same = (word_count spaces at c target deny).count in omega (arith, same)
after_count spaces at c _ = omega arith

-- ---- the calls
left_sizes : (w : World) (s : State) (p : Process) (call : Call) → births call ≡ 0 → exits call ≡ 0
    → Sizes s call (state_left s p call (reply_to w s p call))
left_sizes w s p call unborn none =
    let same = put_length (record p { space = (reply_to w s p call).space; cred = (reply_to w s p call).cred; filter = filter_left p call }) s.processes in
    record {
      more = omega (arith, same);
      fewer = omega (arith, same);
      spaces = after_count s.spaces p.space p.cred call;
    }

without_sizes : (s : State) (p : Process) → Ascends s.processes → Sizes s Exit (record s { processes = without_process p s.processes })
without_sizes s p ascends =
    let left : List Process = filter (is_other p.pid) s.processes in
    let same : length (without_process p s.processes) ≡ length left = length-map left (after_exit p) in
    let low : length left ≤ length s.processes = filter_count (is_other p.pid) s.processes in
    let high : length s.processes ≤ length left + 1 = others_count 0 p.pid s.processes (ascends_forth s.processes ascends) in
    record { more = omega (arith, same, low); fewer = omega (arith, same, high); spaces = omega arith }

permitted_sizes : (w : World) (s : State) (p : Process) (call : Call) (n : ℕ) → Ascends s.processes
    → Sizes s call (permitted_ruling w s p call n).state
permitted_sizes w s p Fork n ascends = birth_sizes s (fork_child p n) Fork s.spaces refl refl (omega arith)
permitted_sizes w s p CloneUser n ascends =
    unless_sizes (clone_user s.spaces p.space p.cred) s (clone_child s.spaces p n) CloneUser (spaces_left s p CloneUser) refl refl
    (after_count s.spaces p.space p.cred CloneUser)
permitted_sizes w s p Exit n ascends = without_sizes s p ascends
permitted_sizes w s p call n ascends = left_sizes w s p call refl refl

pub ruling_sizes : (w : World) (s : State) (p : Process) (call : Call) (n : ℕ) → Ascends s.processes
    → Sizes s call (ruling w s p call n).state
ruling_sizes w s p call n ascends =
    by_filter (λ r. Sizes s call r.state) w s p call n
    (record { more = omega arith; fewer = omega arith; spaces = omega arith }) (permitted_sizes w s p call n ascends)
