-- The pid of a child: for which calls it counts, and what a told result is held against with it.
use Rattle.std.proofs.Common.{◌≡◌, ℕ, Bool, true, false, if◌then◌else◌, List, refl, sym, ap, ◌∙◌}
use Rattle.std.proofs.lemmas.Bool.{cond-true, cond-false, eq-eqb}
use Rattle.cm_base.specs.declared.errno.Errno.TheVariants.{EAGAIN}
use Rattle.cm_base.specs.declared.res.Res.{Res}
use Rattle.cm_base.specs.declared.res.Res.TheVariants.{Done, Id, Child, Err}
use Rattle.cm_machine.specs.Asking.{GivesOwn, GivesTold, own_permitted, state_of}
use Rattle.cm_state.specs.Call.{call_of}
use Rattle.cm_state.specs.declared.call.Call.{Call}
use Rattle.cm_state.specs.declared.call.Call.TheVariants.{Fork, CloneUser}
use Rattle.model_cred.specs.Call as model
use Rattle.model_cred.specs.Process.{Process, State, is_pid, insert_process}
use Rattle.model_cred.specs.Space.{Spaces}
use Rattle.model_cred.specs.World.{World}
use Rattle.model_rules.specs.Namespaces.{clone_user}
use Rattle.model_run.specs.Outside.{comes_from_outside}
use Rattle.model_run.specs.Ruling.{Ruling, permitted_ruling, birth, birth_unless, clone_child, fork_child, free_pid, spaces_left}
use Rattle.model_run.specs.Same.{same_res}
use Rattle.model_run.specs.Step.{told_child, told_rules}

-- it counts for births alone
pub no_birth : (call : Call) → (call ≡ Fork → ⊥) → (call ≡ CloneUser → ⊥) → (w : World) (s : State) (p : Process) (n m : ℕ)
    → permitted_ruling w s p (call_of call) n ≡ permitted_ruling w s p (call_of call) m
no_birth Fork not_fork not_clone w s p n m = absurd (not_fork refl)
no_birth CloneUser not_fork not_clone w s p n m = absurd (not_clone refl)
no_birth call not_fork not_clone w s p n m = refl

-- ---- a child that is told
-- the rules give it
child_goes : (pid : ℕ) (given other : Ruling) → given.res ≡ Child pid
    → told_rules (Child pid) given other ≡ told_rules (Child pid) given given
child_goes pid given other is =
    let same : same_res (Child pid) given.res ≡ true = ap (same_res (Child pid)) is ∙ eq-eqb pid pid refl in
    cond-true (same_res (Child pid) given.res) _ _ same ∙ sym (cond-true (same_res (Child pid) given.res) _ _ same)

born_goes : (s : State) (child : Process) (after : Spaces) (other : Ruling) → is_pid child.pid ≡ true
    → told_rules (Child child.pid) (birth s child after) other ≡ told_rules (Child child.pid) (birth s child after) (birth s child after)
born_goes s child after other is =
    child_goes child.pid (birth s child after) other (ap (λ (r : Ruling). r.res) (cond-true (is_pid child.pid) _ _ is))

-- unless the space of a birth is refused
cloned_goes : (r : Res) (s : State) (child another : Process) (after : Spaces) → is_pid child.pid ≡ true
    → told_rules (Child child.pid) (birth_unless r s child after) (birth_unless r s another after)
    ≡ told_rules (Child child.pid) (birth_unless r s child after) (birth_unless r s child after)
cloned_goes (Err e) s child another after is = refl
cloned_goes _ s child another after is = born_goes s child after (birth s another after) is

pub child_given : (processes : List Process) (call : Call) (pid : ℕ) → is_pid pid ≡ true
    → GivesTold processes (call_of call) (Child pid) pid
child_given processes Fork pid is = λ w spaces p.
    born_goes (state_of processes spaces) (fork_child p pid) spaces (own_permitted w (state_of processes spaces) p model.Fork) is
child_given processes CloneUser pid is = λ w spaces p.
    cloned_goes (clone_user spaces p.space p.cred) (state_of processes spaces) (clone_child spaces p pid)
    (clone_child spaces p (free_pid (state_of processes spaces))) (spaces_left (state_of processes spaces) p model.CloneUser) is
child_given processes call pid is = λ w spaces p. refl

-- ---- another result that is told
-- it tells no child
no_child : (told : Res) → ((m : ℕ) → told ≡ Child m → ⊥) → told_child told ≡ 0
no_child (Child m) not_child = absurd (not_child m refl)
no_child _ not_child = refl

-- EAGAIN comes from outside
not_again : (told : Res) → comes_from_outside model.Fork told ≡ false → same_res told (Err EAGAIN) ≡ false
not_again (Err EAGAIN) inside = absurd (cc)
not_again _ inside = refl

not_again_inner : (told : Res) → comes_from_outside model.CloneUser told ≡ false → same_res told (Err EAGAIN) ≡ false
not_again_inner (Err EAGAIN) inside = absurd (cc)
not_again_inner _ inside = refl

-- against a birth without a pid
held : (told : Res) (b : Bool) (pid : ℕ) (s after : State) → ((m : ℕ) → told ≡ Child m → ⊥) → same_res told (Err EAGAIN) ≡ false
    → told_rules told (record { res = Err EAGAIN; state = s })
    (if b then record { res = Child pid; state = after } else record { res = Err EAGAIN; state = s })
    ≡ told_rules told (if b then record { res = Child pid; state = after } else record { res = Err EAGAIN; state = s })
    (if b then record { res = Child pid; state = after } else record { res = Err EAGAIN; state = s })
held told false pid s after not_child other = refl
held (Child m) true pid s after not_child other = absurd (not_child m refl)
held (Err e) true pid s after not_child other = cond-false (same_res (Err e) (Err EAGAIN)) _ _ other
held _ true pid s after not_child other = refl

-- against a birth, with the child that would be told and with the one of the process itself
birth_held : (told : Res) (s : State) (child : ℕ → Process) (n : ℕ) (after : Spaces) → ((m : ℕ) → (child m).pid ≡ m)
    → ((m : ℕ) → told ≡ Child m → ⊥) → same_res told (Err EAGAIN) ≡ false
    → told_rules told (birth s (child (told_child told)) after) (birth s (child n) after)
    ≡ told_rules told (birth s (child n) after) (birth s (child n) after)
birth_held told s child n after pid_is not_child other =
    ap (λ (given : Ruling). told_rules told given (birth s (child n) after))
    (cond-false (is_pid (child (told_child told)).pid) _ _ (ap is_pid (pid_is (told_child told) ∙ no_child told not_child)))
    ∙ held told (is_pid (child n).pid) (child n).pid s (record { processes = insert_process (child n) s.processes; spaces = after })
    not_child other

clone_held : (r told : Res) (s : State) (child : ℕ → Process) (n : ℕ) (after : Spaces) → ((m : ℕ) → (child m).pid ≡ m)
    → ((m : ℕ) → told ≡ Child m → ⊥) → same_res told (Err EAGAIN) ≡ false
    → told_rules told (birth_unless r s (child (told_child told)) after) (birth_unless r s (child n) after)
    ≡ told_rules told (birth_unless r s (child n) after) (birth_unless r s (child n) after)
clone_held (Err e) told s child n after pid_is not_child other = refl
clone_held _ told s child n after pid_is not_child other = birth_held told s child n after pid_is not_child other

-- of any call
call_held : (call : Call) (told : Res) (w : World) (s : State) (p : Process) → ((m : ℕ) → told ≡ Child m → ⊥)
    → comes_from_outside (call_of call) told ≡ false
    → told_rules told (permitted_ruling w s p (call_of call) (told_child told)) (own_permitted w s p (call_of call))
    ≡ told_rules told (own_permitted w s p (call_of call)) (own_permitted w s p (call_of call))
call_held Fork told w s p not_child inside =
    birth_held told s (fork_child p) (free_pid s) s.spaces (λ m. refl) not_child (not_again told inside)
call_held CloneUser told w s p not_child inside =
    clone_held (clone_user s.spaces p.space p.cred) told s (clone_child s.spaces p) (free_pid s) (spaces_left s p model.CloneUser)
    (λ m. refl) not_child (not_again_inner told inside)
call_held call told w s p not_child inside = refl

pub other_given : (processes : List Process) (call : Call) (told : Res) (n : ℕ) → ((m : ℕ) → told ≡ Child m → ⊥)
    → comes_from_outside (call_of call) told ≡ false → GivesOwn processes (call_of call) n
    → GivesTold processes (call_of call) told n
other_given processes call told n not_child inside gives = λ w spaces p.
    call_held call told w (state_of processes spaces) p not_child inside
    ∙ sym (ap (λ (given : Ruling). told_rules told given given) (gives w spaces p))
