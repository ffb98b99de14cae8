-- What a step does to the processes and to the members, of three kinds: a call changes its caller's place, credential
-- and filter, a birth brings a child, an exit takes one away.
use Rattle.std.proofs.Common.{arith, ◌≡◌, ◌⊎◌, ℕ, ◌==◌, not, Bool, true, false, List, ◌∷◌, filter, Some, if◌then◌else◌, refl, sym, ap, ◌∙◌, inl, inr, subst}
use Rattle.cm_base.specs.declared.errno.Errno.{Errno}
use Rattle.cm_base.specs.declared.errno.Errno.TheVariants.{EPERM, EAGAIN}
use Rattle.cm_base.specs.declared.res.Res.{Res}
use Rattle.cm_base.specs.declared.res.Res.TheVariants.{Done, Id, Child, Err}
use Rattle.model_cred.proofs.Lookups.{pid_of_found}
use Rattle.cm_filter.specs.Filters.{Filter}
use Rattle.model_cred.specs.Call.{Call, Fork, CloneUser, Exit, Install, Event}
use Rattle.model_cred.specs.Credential.{Credential}
use Rattle.model_cred.specs.Process.{Process, State, process_at, put_process, insert_process, without_process, is_alive, is_pid}
use Rattle.model_cred.specs.Space.{Spaces}
use Rattle.model_cred.specs.World.{World}
use Rattle.model_run.specs.Later.{members_after, members_with}
use Rattle.model_run.specs.Outside.{comes_from_outside}
use Rattle.model_rules.specs.Namespaces.{clone_user}
use Rattle.model_run.specs.Ruling.{Ruling, ruling, permitted_ruling, birth, birth_unless, reply_to, state_left, spaces_left, filter_left}
use Rattle.model_run.specs.Ruling.{fork_child, clone_child}
use Rattle.model_run.specs.Step.{Step, told_child, is_living_child}
use Rattle.model_laws.proofs.Keeping.{told_is_new}
use Rattle.model_laws.proofs.Refusals.{put_same}
use Rattle.model_laws.proofs.Results.{IsRuled, reply_plain}
use Rattle.model_laws.proofs.StepParts.{Stepped, Answers, stepped, by_filter}

-- the result is no child
abbrev pub IsChildless : Res → Type 0
IsChildless Done = Unit {0}
IsChildless (Id n) = Unit {0}
IsChildless (Child n) = ⊥
IsChildless (Err e) = Unit {0}

-- the call installs a filter
abbrev pub installs : Call → Bool
installs (Install more) = true
installs _ = false

-- and all others leave the caller's
filter_stays : (p : Process) (call : Call) → installs call ≡ false → filter_left p call ≡ p.filter
filter_stays p (Install more) wrong = absurd (cc)
filter_stays p _ is = refl

-- a call that is neither a birth nor an exit that is done
pub record Calls (before : List Process) (p : Process) (call : Call) (res : Res) (after : List Process) : Type 0 where
  pub space : ℕ
  pub cred : Credential
  pub filter : Filter
  pub processes : after ≡ put_process (record p { space = space; cred = cred; filter = filter }) before
  pub members : (members : List ℕ) (pid : ℕ) → members_after members pid call res ≡ members
  pub childless : IsChildless res
  pub kept : installs call ≡ false → filter ≡ p.filter

-- a birth
pub record Births (before : List Process) (p : Process) (call : Call) (res : Res) (after : List Process) : Type 0 where
  pub child : Process
  pub fresh : is_alive before child.pid ≡ false
  pub forebear : child.forebear ≡ Some p.pid
  pub filter : child.filter ≡ p.filter
  pub processes : after ≡ insert_process child before
  pub members : (members : List ℕ) (pid : ℕ) → members_after members pid call res ≡ child.pid ∷ members
  pub result : res ≡ Child child.pid
  pub pid_is : is_pid child.pid ≡ true

-- an exit
pub record Exits (before : List Process) (p : Process) (call : Call) (res : Res) (after : List Process) : Type 0 where
  pub exit : call ≡ Exit
  pub result : res ≡ Done
  pub processes : after ≡ without_process p before
  pub members : (members : List ℕ) (pid : ℕ) → members_after members pid call res ≡ filter (λ member. not (member == pid)) members

abbrev pub Effect : List Process → Process → Call → Res → List Process → Type 0
Effect before p call res after = Calls before p call res after ⊎ (Births before p call res after ⊎ Exits before p call res after)

-- what a step does
pub record Does (w : World) (s : State) (e : Event) (s' : State) : Type 0 where
  pub caller : Process
  pub lives : process_at s.processes e.pid ≡ Some caller
  pub named : caller.pid ≡ e.pid
  pub effect : Effect s.processes caller e.call e.res s'.processes

-- the results of the rules for other calls than births have no child
ruled_childless : (r : Res) → IsRuled r → IsChildless r
ruled_childless r is = grind arith

-- ---- members
-- without a child the members of a call that isn't an exit stay
members_stay : (r : Res) → IsChildless r → (members : List ℕ) → members_with members r ≡ members
members_stay r plain members = grind arith

-- an error leaves the members of each call
error_members : (call : Call) (e : Errno) (members : List ℕ) (pid : ℕ) → members_after members pid call (Err e) ≡ members
error_members Exit e members pid = refl
error_members _ e members pid = refl

pub outside_error : (call : Call) (res : Res) → comes_from_outside call res ≡ true → (e : Errno) × (res ≡ Err e)
outside_error call res wrong = grind arith

-- ---- the three kinds
-- an error leaves the processes, which is a call that leaves its caller as it was
error_calls : (processes : List Process) (pid : ℕ) (p : Process) (call : Call) (res : Res) (e : Errno) → process_at processes pid ≡ Some p → res ≡ Err e
    → Calls processes p call res processes
error_calls processes pid p call res e lives is = record {
  space = p.space;
  cred = p.cred;
  filter = p.filter;
  processes = sym (put_same processes pid p (pid_of_found processes pid p lives) lives);
  members = λ members n. ap (members_after members n call) is ∙ error_members call e members n;
  childless = subst IsChildless (sym is) tt;
  kept = λ _. refl;
}

-- what a step by the rules is owed of the result and the processes
record Owed (before : List Process) (p : Process) (call : Call) (res : Res) (r : Ruling) : Type 0 where
  owes : res ≡ r.res → Effect before p call res r.state.processes

owed_error : (s : State) (pid : ℕ) (p : Process) (call : Call) (res : Res) (e : Errno) → process_at s.processes pid ≡ Some p
    → Owed s.processes p call res (record { res = Err e; state = s })
owed_error s pid p call res e lives = record { owes = λ is. inl (error_calls s.processes pid p call res e lives is) }

owed_if : (before : List Process) (p : Process) (call : Call) (res : Res) (b : Bool) (x y : Ruling)
    → (b ≡ true → Owed before p call res x) → (b ≡ false → Owed before p call res y) → Owed before p call res (if b then x else y)
owed_if before p call res true x y first second = first refl
owed_if before p call res false x y first second = second refl

-- calls that are births
data IsBirth : Call → Type 0 where
  fork : IsBirth Fork
  clone : IsBirth CloneUser

birth_members : (call : Call) (n : ℕ) (members : List ℕ) (pid : ℕ) → IsBirth call → members_after members pid call (Child n) ≡ n ∷ members
birth_members _ n members pid fork = refl
birth_members _ n members pid clone = refl

owed_birth : (s : State) (pid : ℕ) (p child : Process) (after : Spaces) (call : Call) (res : Res) → process_at s.processes pid ≡ Some p
    → IsBirth call → child.forebear ≡ Some p.pid → child.filter ≡ p.filter → (is_pid child.pid ≡ true → is_alive s.processes child.pid ≡ false)
    → Owed s.processes p call res (birth s child after)
owed_birth s pid p child after call res lives births forebear filter fresh =
    owed_if s.processes p call res (is_pid child.pid)
    (record { res = Child child.pid; state = record s { processes = insert_process child s.processes; spaces = after } })
    (record { res = Err EAGAIN; state = s })
    (λ named. record {
      owes = λ is. inr (inl (record {
        child = child;
        fresh = fresh named;
        forebear = forebear;
        filter = filter;
        processes = refl;
        members = λ members n. ap (members_after members n call) is ∙ birth_members call child.pid members n births;
        result = is;
        pid_is = named;
      }));
    })
    (λ _. owed_error s pid p call res EAGAIN lives)

owed_unless : (r : Res) (s : State) (pid : ℕ) (p child : Process) (after : Spaces) (call : Call) (res : Res) → process_at s.processes pid ≡ Some p
    → IsBirth call → child.forebear ≡ Some p.pid → child.filter ≡ p.filter → (is_pid child.pid ≡ true → is_alive s.processes child.pid ≡ false)
    → Owed s.processes p call res (birth_unless r s child after)
owed_unless (Err e) s pid p child after call res lives births forebear filter fresh = owed_error s pid p call res e lives
owed_unless _ s pid p child after call res lives births forebear filter fresh = owed_birth s pid p child after call res lives births forebear filter fresh

-- a call that is neither a birth nor an exit
owed_left : (w : World) (s : State) (pid : ℕ) (p : Process) (call : Call) (res : Res)
    → ((r : Res) (members : List ℕ) (n : ℕ) → members_after members n call r ≡ members_with members r)
    → Owed s.processes p call res (record { res = (reply_to w s p call).res; state = state_left s p call (reply_to w s p call) })
owed_left w s pid p call res brings = record {
  owes = λ is.
      let plain : IsChildless res
      = subst IsChildless (sym is)
      (ruled_childless (reply_to w s p call).res (reply_plain w.files s.spaces p.space p.cred call).ruled) in
      inl (record {
        space = (reply_to w s p call).space;
        cred = (reply_to w s p call).cred;
        filter = filter_left p call;
        processes = refl;
        members = λ members n. brings res members n ∙ members_stay res plain members;
        childless = plain;
        kept = filter_stays p call;
      });
}

owed_permitted : (w : World) (s : State) (pid : ℕ) (p : Process) (call : Call) (n : ℕ) (res : Res) → process_at s.processes pid ≡ Some p
    → (is_pid n ≡ true → is_alive s.processes n ≡ false) → Owed s.processes p call res (permitted_ruling w s p call n)
owed_permitted w s pid p Fork n res lives fresh = owed_birth s pid p (fork_child p n) s.spaces Fork res lives fork refl refl fresh
owed_permitted w s pid p CloneUser n res lives fresh =
    owed_unless (clone_user s.spaces p.space p.cred) s pid p (clone_child s.spaces p n) (spaces_left s p CloneUser) CloneUser res lives clone refl refl fresh
owed_permitted w s pid p Exit n res lives fresh = record {
  owes = λ is. inr (inr (record { exit = refl; result = is; processes = refl; members = λ members m. ap (members_after members m Exit) is }));
}
owed_permitted w s pid p call n res lives fresh = owed_left w s pid p call res (λ r members m. refl)

owed : (w : World) (s : State) (pid : ℕ) (p : Process) (call : Call) (n : ℕ) (res : Res) → process_at s.processes pid ≡ Some p
    → (is_pid n ≡ true → is_alive s.processes n ≡ false) → Owed s.processes p call res (ruling w s p call n)
owed w s pid p call n res lives fresh =
    by_filter (Owed s.processes p call res) w s p call n (owed_error s pid p call res EPERM lives) (owed_permitted w s pid p call n res lives fresh)

effect_of : (w : World) (s : State) (e : Event) (s' : State) (p : Process) → process_at s.processes e.pid ≡ Some p → is_living_child s.processes e.res ≡ false
    → Answers w s p e.call e.res s' → Effect s.processes p e.call e.res s'.processes
effect_of w s e s' p lives fresh (inl outside) =
    let error : (k : Errno) × (e.res ≡ Err k) = outside_error e.call e.res outside.outside in
    subst (λ (t : State). Effect s.processes p e.call e.res t.processes) (sym outside.state)
    (inl (error_calls s.processes e.pid p e.call e.res error.0 lives error.1))
effect_of w s e s' p lives fresh (inr rules) =
    subst (λ (t : State). Effect s.processes p e.call e.res t.processes) (sym rules.state)
    ((owed w s e.pid p e.call (told_child e.res) e.res lives (told_is_new s.processes e.res fresh)).owes rules.result)

-- what each step does
pub does : (w : World) (s : State) (e : Event) (s' : State) → Step w s e s' → Does w s e s'
does w s e s' step =
    let parts : Stepped w s e s' = stepped w s e s' step in
    record {
      caller = parts.caller;
      lives = parts.lives;
      named = pid_of_found s.processes e.pid parts.caller parts.lives;
      effect = effect_of w s e s' parts.caller parts.lives parts.child parts.answers;
    }
