-- The pids of the live processes are pids, at each state that a run from the beginning of a world reaches.
use Rattle.std.proofs.Common.{◌≡◌, ℕ, List, [], ◌∷◌, Some, All, sym, inl, inr, subst}
use Rattle.std.proofs.lemmas.Bool.{cond_both}
use Rattle.cm_base.specs.declared.errno.Errno.TheVariants.{EAGAIN}
use Rattle.cm_base.specs.declared.res.Res.{Res}
use Rattle.cm_base.specs.declared.res.Res.TheVariants.{Child, Err}
use Rattle.model_cred.proofs.Orders.{all_put, all_insert, all_without, all_found}
use Rattle.model_cred.specs.Call.{Call, Fork, CloneUser, Exit, Event}
use Rattle.model_cred.specs.Process.{Process, State, is_pid, insert_process, process_at}
use Rattle.model_cred.specs.Space.{Spaces}
use Rattle.model_cred.specs.World.{World}
use Rattle.model_drill.proofs.Callers.{HasPid}
use Rattle.model_laws.proofs.StepParts.{Stepped, Answers, stepped, by_filter}
use Rattle.model_rules.specs.Namespaces.{clone_user}
use Rattle.model_run.specs.Ruling.{Ruling, ruling, birth, birth_unless, clone_child, fork_child, reply_to, spaces_left}
use Rattle.model_run.specs.Ruling.{state_left, permitted_ruling, filter_left}
use Rattle.model_run.specs.Step.{Step, Run, told_child}

-- the pid of each live process is one
abbrev pub HavePids : State → Type 0
HavePids s = All HasPid s.processes

born_has : (s : State) (child : Process) (spaces : Spaces) → HavePids s → HavePids (birth s child spaces).state
born_has s child spaces have =
    cond_both (is_pid child.pid) (record {
      res = Child child.pid;
      state = record { processes = insert_process child s.processes; spaces = spaces };
    }) (record { res = Err EAGAIN; state = s }) (λ (r : Ruling). HavePids r.state)
    (λ is. all_insert HasPid child s.processes is have)
    (λ _. have)

cloned_has : (r : Res) (s : State) (child : Process) (spaces : Spaces) → HavePids s
    → HavePids (birth_unless r s child spaces).state
cloned_has (Err e) s child spaces have = have
cloned_has _ s child spaces have = born_has s child spaces have

call_has : (w : World) (s : State) (p : Process) (call : Call) → HavePids s → HasPid p
    → HavePids (state_left s p call (reply_to w s p call))
call_has w s p call have is =
    all_put HasPid
    (record p { space = (reply_to w s p call).space; cred = (reply_to w s p call).cred; filter = filter_left p call }) s.processes is have

permitted_has : (w : World) (s : State) (p : Process) (call : Call) (n : ℕ) → HavePids s → HasPid p
    → HavePids (permitted_ruling w s p call n).state
permitted_has w s p Fork n have is = born_has s (fork_child p n) s.spaces have
permitted_has w s p CloneUser n have is =
    cloned_has (clone_user s.spaces p.space p.cred) s (clone_child s.spaces p n) (spaces_left s p CloneUser) have
permitted_has w s p Exit n have is = all_without HasPid p s.processes (λ q f kept. kept) have
permitted_has w s p call n have is = call_has w s p call have is

ruling_has : (w : World) (s : State) (p : Process) (call : Call) (n : ℕ) → HavePids s → HasPid p
    → HavePids (ruling w s p call n).state
ruling_has w s p call n have is = by_filter (λ r. HavePids r.state) w s p call n have (permitted_has w s p call n have is)

answers_have : (w : World) (s : State) (e : Event) (s' : State) (p : Process) → HavePids s
    → process_at s.processes e.pid ≡ Some p
    → Answers w s p e.call e.res s' → HavePids s'
answers_have w s e s' p have lives (inl same) = subst HavePids (sym same.state) have
answers_have w s e s' p have lives (inr rules) =
    subst HavePids (sym rules.state)
    (ruling_has w s p e.call (told_child e.res) have (all_found HasPid s.processes e.pid p have lives))

pub step_has_pids : (w : World) (s : State) (e : Event) (s' : State) → HavePids s → Step w s e s' → HavePids s'
step_has_pids w s e s' have step =
    let parts : Stepped w s e s' = stepped w s e s' step in answers_have w s e s' parts.caller have parts.lives parts.answers

pub run_has_pids : (w : World) (s : State) (es : List Event) (s' : State) → HavePids s → Run w s es s' → HavePids s'
run_has_pids w s [] s' have run = subst HavePids (sym run) have
run_has_pids w s (e ∷ es) s' have run = run_has_pids w run.0 es s' (step_has_pids w s e run.0 have run.1) run.2
