-- A refusal changes nothing.
use Rattle.std.proofs.Common.{arith, ◌≡◌, ℕ, ◌==◌, Bool, true, false, List, [], ◌∷◌, Some, if◌then◌else◌, refl, sym, ap, ◌∙◌, inl, inr}
use Rattle.std.proofs.lemmas.Bool.{cases_Bool, cond-true, cond-false}
use Rattle.cm_base.specs.declared.errno.Errno.{Errno}
use Rattle.cm_base.specs.declared.errno.Errno.TheVariants.{EPERM}
use Rattle.cm_base.specs.declared.res.Res.{Res}
use Rattle.cm_base.specs.declared.res.Res.TheVariants.{Done, Child, Err}
use Rattle.model_cred.proofs.Lookups.{pid_of_found}
use Rattle.cm_filter.specs.Filters.{Filter}
use Rattle.model_cred.specs.Call.{Call, Fork, CloneUser, Exit}
use Rattle.model_cred.specs.Credential.{Credential}
use Rattle.model_cred.specs.Process.{Process, State, process_at, put_process}
use Rattle.model_cred.specs.Space.{Spaces}
use Rattle.model_cred.specs.World.{World}
use Rattle.model_rules.specs.Reply.{spaces_after}
use Rattle.model_rules.specs.Namespaces.{clone_user}
use Rattle.model_run.specs.Ruling.{Ruling, ruling, permitted_ruling, birth, birth_unless, reply_to, state_left, spaces_left, filter_left}
use Rattle.model_run.specs.Ruling.{fork_child, clone_child}
use Rattle.model_run.specs.Step.{told_child}
use Rattle.model_laws.specs.Steps.{OneNextState, ErrorChangesNothing}
use Rattle.model_laws.proofs.Results.{Kept, reply_plain, filter_kept}
use Rattle.model_laws.proofs.StepParts.{Stepped, Answers, stepped, by_filter}

-- a process put in its own place changes nothing
pub put_same : (processes : List Process) (pid : ℕ) (p : Process) → p.pid ≡ pid → process_at processes pid ≡ Some p → put_process p processes ≡ processes
put_same [] pid p named is = refl
put_same (q ∷ processes) pid p named is =
    elim (cases_Bool (q.pid == pid)) [
      | inl same ↦
          let it : Some q ≡ Some p = sym (cond-true (q.pid == pid) (Some q) (process_at processes pid) same) ∙ is in
          let e : p ≡ q = cc in
          cond-true (q.pid == p.pid) (p ∷ processes) (q ∷ put_process p processes) (ap (λ (n : ℕ). q.pid == n) named ∙ same)
          ∙ ap (λ (x : Process). x ∷ processes) e
      | inr other ↦
          cond-false (q.pid == p.pid) (p ∷ processes) (q ∷ put_process p processes) (ap (λ (n : ℕ). q.pid == n) named ∙ other)
          ∙ ap (λ (rest : List Process). q ∷ rest)
          (put_same processes pid p named
          (sym (cond-false (q.pid == pid) (Some q) (process_at processes pid) other) ∙ is))
    ]

-- ---- what the rules give
same_state : (s : State) (pid : ℕ) (p : Process) (n : ℕ) (c : Credential) (own : Filter) (spaces : Spaces) → process_at s.processes pid ≡ Some p
    → n ≡ p.space → c ≡ p.cred → own ≡ p.filter → spaces ≡ s.spaces
    → record s { processes = put_process (record p { space = n; cred = c; filter = own }) s.processes; spaces = spaces } ≡ s
same_state s pid p n c own spaces lives place cred filter same =
    rw (place, cred, filter, same) (ap (λ (ps : List Process). record s { processes = ps }) (put_same s.processes pid p (pid_of_found s.processes pid p lives) lives))

pub record SafeRuling (s : State) (r : Ruling) : Type 0 where
  pub keeps : (e : Errno) → r.res ≡ Err e → r.state ≡ s

ruling_either : (s : State) (b : Bool) (x y : Ruling) → SafeRuling s x → SafeRuling s y → SafeRuling s (if b then x else y)
ruling_either s true x y first second = first
ruling_either s false x y first second = second

safe_born : (s s' : State) (pid : ℕ) → SafeRuling s (record { res = Child pid; state = s' })
safe_born s s' pid = record { keeps = λ e wrong. absurd (let no : Child pid ≡ Err e = wrong in cc) }

safe_unborn : (s : State) (e : Errno) → SafeRuling s (record { res = Err e; state = s })
safe_unborn s e = record { keeps = λ _ _. refl }

safe_birth : (s : State) (child : Process) (spaces : Spaces) → SafeRuling s (birth s child spaces)
safe_birth s child spaces = grind arith

safe_birth_unless : (r : Res) (s : State) (child : Process) (spaces : Spaces) → SafeRuling s (birth_unless r s child spaces)
safe_birth_unless r s child spaces = grind arith

-- a call that is neither a birth nor an exit
safe_left : (w : World) (s : State) (pid : ℕ) (p : Process) → process_at s.processes pid ≡ Some p → (call : Call)
    → SafeRuling s (record { res = (reply_to w s p call).res; state = state_left s p call (reply_to w s p call) })
safe_left w s pid p lives call = record {
  keeps = λ e is.
      let kept : Kept s.spaces p.space p.cred (reply_to w s p call) (spaces_after s.spaces p.space p.cred call)
      = (reply_plain w.files s.spaces p.space p.cred call).kept e is in
      same_state s pid p (reply_to w s p call).space (reply_to w s p call).cred (filter_left p call)
      (spaces_after s.spaces p.space p.cred call) lives kept.space kept.cred
      (filter_kept w.files s.spaces p.space p.filter p.cred call e is) kept.spaces;
}

safe_permitted : (w : World) (s : State) (pid : ℕ) (p : Process) → process_at s.processes pid ≡ Some p
    → (call : Call) (n : ℕ) → SafeRuling s (permitted_ruling w s p call n)
safe_permitted w s pid p lives Fork n = safe_birth s (fork_child p n) s.spaces
safe_permitted w s pid p lives CloneUser n = safe_birth_unless (clone_user s.spaces p.space p.cred) s (clone_child s.spaces p n) (spaces_left s p CloneUser)
safe_permitted w s pid p lives Exit n = record { keeps = λ e wrong. absurd (let no : Done ≡ Err e = wrong in cc) }
safe_permitted w s pid p lives call n = safe_left w s pid p lives call

pub safe_ruling : (w : World) (s : State) (pid : ℕ) (p : Process) → process_at s.processes pid ≡ Some p
    → (call : Call) (n : ℕ) → SafeRuling s (ruling w s p call n)
safe_ruling w s pid p lives call n = by_filter (SafeRuling s) w s p call n (safe_unborn s EPERM) (safe_permitted w s pid p lives call n)

-- ---- as the contracts of `step` state them
pub one_next_state : OneNextState
unfolding OneNextState
one_next_state w s e a b first second = cc

answers_kept : (w : World) (s : State) (pid : ℕ) (p : Process) (call : Call) (res : Res) (s' : State) (error : Errno) → process_at s.processes pid ≡ Some p
    → Answers w s p call res s' → res ≡ Err error → s' ≡ s
answers_kept w s pid p call res s' error lives (inl same) is = same.state
answers_kept w s pid p call res s' error lives (inr rules) is =
    rules.state ∙ (safe_ruling w s pid p lives call (told_child res)).keeps error (sym rules.result ∙ is)

pub error_changes_nothing : ErrorChangesNothing
unfolding ErrorChangesNothing
error_changes_nothing w s e error s' step is =
    let parts : Stepped w s e s' = stepped w s e s' step in
    answers_kept w s e.pid parts.caller e.call e.res s' error parts.lives parts.answers is
