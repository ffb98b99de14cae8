-- What a step does to the processes: they stay, its caller stands there anew, a child of its caller comes or its caller goes;
-- all else stays. All that these laws need of the machine's definition of a step is here.
use Rattle.std.proofs.Common.{◌≡◌, ◌≢◌, ℕ, ◌⊎◌, inl, inr, Bool, true, false, cond, List, Option, Some, None, refl, sym, ◌∙◌, ap, subst, arith, option_map}
use Rattle.cm_base.specs.declared.errno.Errno.TheVariants.{EAGAIN}
use Rattle.cm_base.specs.declared.res.Res.{Res}
use Rattle.cm_base.specs.declared.res.Res.TheVariants.{Done, Id, Child, Err}
use Rattle.model_box.proofs.Grows.{goes_to}
use Rattle.model_cred.specs.Call.{Call, Event, Fork, CloneUser, Exit}
use Rattle.model_cred.specs.Process.{Process, State, process_at, is_pid, put_process, insert_process, after_exit, without_process}
use Rattle.model_cred.specs.Space.{Spaces}
use Rattle.model_cred.specs.World.{World}
use Rattle.model_rules.specs.Namespaces.{clone_user}
use Rattle.model_run.specs.Ruling.{Ruling, ruling, own, reply_to, state_left, fork_child, clone_child, birth, birth_unless, spaces_left}
use Rattle.model_run.specs.Ruling.{permitted_ruling, filter_left}
use Rattle.model_laws.proofs.StepParts.{by_filter}
use Rattle.model_run.specs.Same.{same_res}
use Rattle.model_run.specs.Step.{Outcome, Goes, NoSpace, PidInUse, Wrong, Step, outcome_for, names_no_space, is_living_child, told_child, answers_from_outside}
use Rattle.model_cred.proofs.Lookups.{pid_of_found, at_put_other, at_insert_other, IsLike, like_after_exit, at_without_other}

-- ---- whether an event goes on
-- an outcome is a step to a state, or it is none
pub goes_or_not : (o : Outcome) → ((s' : State) × (o ≡ Goes s')) ⊎ ((s' : State) → ¬ (o ≡ Goes s'))
goes_or_not (Goes s') = inl (s', refl)
goes_or_not _ = inr (λ s' is. cc)

-- ---- what the rules give for a call
-- What a call with a result leaves of the processes of a state: they stay, or another stands in the place of the caller, or
-- the child that the result tells comes, or the caller goes.
Changes : State → Process → Res → State → Type 0
Changes s p res s' =
    (s'.processes ≡ s.processes)
    ⊎ ((q : Process) × (q.pid ≡ p.pid) × (s'.processes ≡ put_process q s.processes))
    ⊎ ((q : Process) × (res ≡ Child q.pid) × (s'.processes ≡ insert_process q s.processes))
    ⊎ (s'.processes ≡ without_process p s.processes)

birth_leaves : (s : State) (p child : Process) (spaces : Spaces) → Changes s p (birth s child spaces).res (birth s child spaces).state
unfolding Changes
birth_leaves s p child spaces =
    elim (is_pid child.pid) as (λ (b : Bool). let r : Ruling =
    cond b (record { res = Child child.pid; state = record { processes = insert_process child s.processes; spaces = spaces } })
    (record { res = Err EAGAIN; state = s }) in Changes s p r.res r.state) [
      | true ↦ inr (inr (inl (child, refl, refl)))
      | false ↦ inl refl
    ]

unless_leaves : (made : Res) (s : State) (p child : Process) (spaces : Spaces)
    → Changes s p (birth_unless made s child spaces).res (birth_unless made s child spaces).state
unfolding Changes
unless_leaves (Err e) s p child spaces = inl refl
unless_leaves _ s p child spaces = birth_leaves s p child spaces

reply_leaves : (w : World) (s : State) (p : Process) (call : Call)
    → Changes s p (reply_to w s p call).res (state_left s p call (reply_to w s p call))
unfolding Changes
reply_leaves w s p call =
    inr (inl (record p { space = (reply_to w s p call).space; cred = (reply_to w s p call).cred; filter = filter_left p call }, refl, refl))

permitted_leaves : (w : World) (s : State) (p : Process) (call : Call) (pid : ℕ) → Changes s p (permitted_ruling w s p call pid).res (permitted_ruling w s p call pid).state
unfolding Changes
permitted_leaves w s p Fork pid = birth_leaves s p (fork_child p pid) s.spaces
permitted_leaves w s p CloneUser pid =
    unless_leaves (clone_user s.spaces p.space p.cred) s p (clone_child s.spaces p pid) (spaces_left s p CloneUser)
permitted_leaves w s p Exit pid = inr (inr (inr refl))
permitted_leaves w s p call pid = reply_leaves w s p call

ruling_leaves : (w : World) (s : State) (p : Process) (call : Call) (pid : ℕ) → Changes s p (ruling w s p call pid).res (ruling w s p call pid).state
unfolding Changes
ruling_leaves w s p call pid = by_filter (λ r. Changes s p r.res r.state) w s p call pid (inl refl) (permitted_leaves w s p call pid)

-- ---- the states that an event leads to
-- a result that is the rules' own tells the child that they tell
child_told : (told given : Res) (pid : ℕ) → same_res told given ≡ true → given ≡ Child pid → told ≡ Child pid
child_told (Child a) (Child b) pid same is = grind (arith, same, is)
child_told Done (Child b) pid same is = absurd (cc)
child_told (Id a) (Child b) pid same is = absurd (cc)
child_told (Err a) (Child b) pid same is = absurd (cc)
child_told told _ pid same is = absurd (cc)

changes_told : (s : State) (p : Process) (told given : Res) (s' : State) → same_res told given ≡ true → Changes s p given s' → Changes s p told s'
unfolding Changes
changes_told s p told given s' same (inl stays) = inl stays
changes_told s p told given s' same (inr (inl other)) = inr (inl other)
changes_told s p told given s' same (inr (inr (inl (q, is, comes)))) = inr (inr (inl (q, child_told told given q.pid same is, comes)))
changes_told s p told given s' same (inr (inr (inr goes))) = inr (inr (inr goes))

changes_by : (s : State) (p : Process) (told own : Res) (given : Ruling) (s' : State) (absent living outside same : Bool)
    → same_res told given.res ≡ same → Changes s p given.res given.state
    → cond absent NoSpace (cond living PidInUse (cond outside (Goes s) (cond same (Goes given.state) (Wrong own)))) ≡ Goes s' → Changes s p told s'
unfolding Changes
changes_by s p told own given s' false false true same is leaves goes = inl (ap (λ (x : State). x.processes) (sym (goes_to s s' goes)))
changes_by s p told own given s' false false false true is leaves goes =
    changes_told s p told given.res s' is (subst (λ (x : State). Changes s p given.res x) (goes_to given.state s' goes) leaves)
changes_by s p told own given s' _ _ _ _ is leaves goes = absurd (cc)

-- the caller is found, and its step changes the state so
Made : State → Event → State → Type 0
Made s e s' = (p : Process) × (process_at s.processes e.pid ≡ Some p) × Changes s p e.res s'

made_by : (w : World) (s : State) (e : Event) (s' : State) (found : Option Process)
    → process_at s.processes e.pid ≡ found → outcome_for w s found e ≡ Goes s' → Made s e s'
unfolding Made
made_by w s e s' None is goes = absurd (cc)
made_by w s e s' (Some p) is goes =
    let given : Ruling = ruling w s p e.call (told_child e.res) in (
      p,
      is,
      changes_by s p e.res (own w s p e.call).res given s' (names_no_space s.spaces e.call) (is_living_child s.processes e.res)
          (answers_from_outside p e.call e.res) (same_res e.res given.res) refl (ruling_leaves w s p e.call (told_child e.res)) goes,
    )

made : (w : World) (s : State) (e : Event) (s' : State) → Step w s e s' → Made s e s'
made w s e s' goes = made_by w s e s' (process_at s.processes e.pid) refl goes

-- ---- what an event keeps
-- the process was there before, but for its forebear
pub record WasThere (s : State) (p : Process) : Type 0 where
  pub process : Process
  pub found : process_at s.processes p.pid ≡ Some process
  pub like : IsLike process p

there_as_it_was : (s : State) (p : Process) → process_at s.processes p.pid ≡ Some p → WasThere s p
there_as_it_was s p found = record { process = p; found = found; like = record { pid = refl; space = refl; cred = refl; filter = refl } }

left_by_exit : (s : State) (gone p : Process) (found : Option Process) → process_at s.processes p.pid ≡ found
    → option_map (after_exit gone) found ≡ Some p → WasThere s p
left_by_exit s gone p None is left = absurd (cc)
left_by_exit s gone p (Some q) is left =
    let same : after_exit gone q ≡ p = cc in record { process = q; found = is; like = subst (λ (x : Process). IsLike q x) same (like_after_exit gone q) }

-- the process of a pid, where the processes are these
found_in : (ps qs : List Process) (pid : ℕ) (p : Process) → ps ≡ qs → process_at ps pid ≡ Some p → process_at qs pid ≡ Some p
found_in ps qs pid p same found = ap (λ (xs : List Process). process_at xs pid) (sym same) ∙ found

was_found : (s : State) (caller : Process) (res : Res) (s' : State) → Changes s caller res s' → (p : Process)
    → process_at s'.processes p.pid ≡ Some p → p.pid ≢ caller.pid → ((pid : ℕ) → res ≡ Child pid → p.pid ≢ pid)
    → WasThere s p
unfolding Changes
was_found s caller res s' (inl same) p found other untold = there_as_it_was s p (found_in s'.processes s.processes p.pid p same found)
was_found s caller res s' (inr (inl (q, own, put))) p found other untold =
    there_as_it_was s p
    (sym (at_put_other q s.processes p.pid (λ same. other (same ∙ own)))
    ∙ found_in s'.processes (put_process q s.processes) p.pid p put found)
was_found s caller res s' (inr (inr (inl (q, told, comes)))) p found other untold =
    there_as_it_was s p
    (sym (at_insert_other q s.processes p.pid (untold q.pid told))
    ∙ found_in s'.processes (insert_process q s.processes) p.pid p comes found)
was_found s caller res s' (inr (inr (inr goes))) p found other untold =
    left_by_exit s caller p (process_at s.processes p.pid) refl
    (sym (at_without_other caller s.processes p.pid other) ∙ found_in s'.processes (without_process caller s.processes) p.pid p goes found)

-- each process after it but the caller and the child that it tells was there before
pub others_were_there : (w : World) (s : State) (e : Event) (s' : State) → Step w s e s' → (p : Process)
    → process_at s'.processes p.pid ≡ Some p → p.pid ≢ e.pid
    → ((pid : ℕ) → e.res ≡ Child pid → p.pid ≢ pid) → WasThere s p
unfolding Made
others_were_there w s e s' goes p found other untold =
    let m : Made s e s' = made w s e s' goes in
    let own : m.0.pid ≡ e.pid = pid_of_found s.processes e.pid m.0 m.1 in
    was_found s m.0 e.res s' m.2 p found (λ same. other (same ∙ own)) untold
