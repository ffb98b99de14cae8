-- A process's own step.
use Rattle.std.proofs.Common.{arith, ◌≡◌, ◌⊎◌, ℕ, Bool, true, false, List, Option, Some, None, if◌then◌else◌, refl, sym, ap, ◌∙◌, inl, inr, subst}
use Rattle.std.proofs.lemmas.Bool.{cases_Bool, cond-true, cond-false, and_parts}
use Rattle.cm_base.specs.declared.errno.Errno.{Errno}
use Rattle.cm_base.specs.declared.errno.Errno.TheVariants.{EAGAIN}
use Rattle.cm_base.specs.declared.res.Res.{Res}
use Rattle.cm_base.specs.declared.res.Res.TheVariants.{Done, Err}
use Rattle.cm_filter.specs.Filters.{excludes, permits}
use Rattle.model_cred.specs.Call.{Call, Fork, CloneUser, Exit, Event, kind_of}
use Rattle.model_cred.specs.Process.{Process, State, process_at, is_alive, is_pid}
use Rattle.model_cred.specs.Space.{Spaces}
use Rattle.model_cred.specs.World.{World}
use Rattle.model_run.specs.Outside.{comes_from_outside}
use Rattle.model_rules.specs.Namespaces.{clone_user}
use Rattle.model_run.specs.Ruling.{Ruling, ruling, permitted_ruling, excluded_ruling, own, free_pid, birth, birth_unless, reply_to, state_left, spaces_left, fork_child, clone_child}
use Rattle.model_run.specs.Same.{same_res}
use Rattle.model_run.specs.Step.{Goes, NoSpace, PidInUse, Wrong, Step, outcome, outcome_for, told_call, told_rules, told_child, names_no_space, is_living_child}
use Rattle.model_run.specs.Step.{answers_from_outside}
use Rattle.model_laws.specs.Owns.{OwnIsStep, WrongHasOwnAnswer, AllPidsLive, AgainForWantOfPids}
use Rattle.model_laws.proofs.Pids.{free_is_least}
use Rattle.model_laws.proofs.Refusals.{safe_ruling}
use Rattle.model_laws.proofs.Effects.{outside_error}
use Rattle.model_laws.proofs.Results.{IsRuled, clone_ruled, reply_plain}
use Rattle.model_laws.proofs.StepParts.{by_filter}

-- ---- births
-- The ruling with the child that the result tells is the ruling, and a child that it tells isn't alive.
record Again (s : State) (rule : ℕ → Ruling) (n : ℕ) : Type 0 where
  same : rule (told_child (rule n).res) ≡ rule n
  fresh : (is_pid n ≡ true → is_alive s.processes n ≡ false) → is_living_child s.processes (rule n).res ≡ false

again_birth : (s : State) (child : ℕ → Process) (after : Spaces) (n : ℕ) → ((m : ℕ) → (child m).pid ≡ m) → Again s (λ m. birth s (child m) after) n
again_birth s child after n named = grind arith

again_unless : (r : Res) (s : State) (child : ℕ → Process) (after : Spaces) (n : ℕ) → ((m : ℕ) → (child m).pid ≡ m)
    → Again s (λ m. birth_unless r s (child m) after) n
again_unless r s child after n named = grind arith

ruled_childless : (processes : List Process) (r : Res) → IsRuled r → is_living_child processes r ≡ false
ruled_childless processes r is = grind arith

again_left : (w : World) (s : State) (p : Process) (call : Call) (n : ℕ)
    → Again s (λ m. record { res = (reply_to w s p call).res; state = state_left s p call (reply_to w s p call) }) n
again_left w s p call n = record {
  same = refl;
  fresh =
      λ _. ruled_childless s.processes (reply_to w s p call).res (reply_plain w.files s.spaces p.space p.cred call).ruled;
}

again_permitted : (w : World) (s : State) (p : Process) (call : Call) (n : ℕ) → Again s (permitted_ruling w s p call) n
again_permitted w s p Fork n = again_birth s (fork_child p) s.spaces n (λ m. refl)
again_permitted w s p CloneUser n = again_unless (clone_user s.spaces p.space p.cred) s (clone_child s.spaces p) (spaces_left s p CloneUser) n (λ m. refl)
again_permitted w s p Exit n = record { same = refl; fresh = λ _. refl }
again_permitted w s p call n = again_left w s p call n

again : (w : World) (s : State) (p : Process) (call : Call) (n : ℕ) → Again s (ruling w s p call) n
again w s p call n = go (excludes p.filter (kind_of call)) where
  go : (b : Bool) → Again s (λ m. if b then excluded_ruling s else permitted_ruling w s p call m) n
  go true = record { same = refl; fresh = λ _. refl }
  go false = again_permitted w s p call n

-- ---- the own step
same_itself : (r : Res) → same_res r r ≡ true
same_itself r = grind arith

own_told : (w : World) (s : State) (pid : ℕ) (p : Process) (call : Call) → process_at s.processes pid ≡ Some p
    → told_call w s p call (own w s p call).res ≡ Goes (own w s p call).state
own_told w s pid p call lives =
    let r : Ruling = own w s p call in
    elim (cases_Bool (answers_from_outside p call r.res)) [
      | inl outside ↦
          let error : (e : Errno) × (r.res ≡ Err e) =
          outside_error call r.res (and_parts (permits p.filter (kind_of call)) (comes_from_outside call r.res) outside).1 in
          cond-true (answers_from_outside p call r.res) (Goes s) (told_rules r.res (ruling w s p call (told_child r.res)) r) outside
          ∙ ap (λ (t : State). Goes t) (sym ((safe_ruling w s pid p lives call (free_pid s)).keeps error.0 error.1))
      | inr inside ↦
          cond-false (answers_from_outside p call r.res) (Goes s) (told_rules r.res (ruling w s p call (told_child r.res)) r) inside
          ∙ ap (λ (x : Ruling). told_rules r.res x r) ((again w s p call (free_pid s)).same)
          ∙ cond-true (same_res r.res r.res) (Goes r.state) (Wrong r.res) (same_itself r.res)
    ]

-- the own step is a step
pub own_step : (w : World) (s : State) (e : Event) (p : Process) → process_at s.processes e.pid ≡ Some p → names_no_space s.spaces e.call ≡ false
    → e.res ≡ (own w s p e.call).res → Step w s e (own w s p e.call).state
own_step w s e p lives named told =
    let fresh : is_living_child s.processes e.res ≡ false
    = ap (is_living_child s.processes) told ∙ (again w s p e.call (free_pid s)).fresh (free_is_least s).fresh in
    ap (λ (o : Option Process). outcome_for w s o e) lives
    ∙ cond-false (names_no_space s.spaces e.call) NoSpace (if is_living_child s.processes e.res then PidInUse else told_call w s p e.call e.res) named
    ∙ cond-false (is_living_child s.processes e.res) PidInUse (told_call w s p e.call e.res) fresh
    ∙ ap (told_call w s p e.call) told
    ∙ own_told w s e.pid p e.call lives

pub own_is_step : OwnIsStep
unfolding OwnIsStep
own_is_step = own_step

-- ---- what isn't the own answer
-- a live caller of an event that is wrong for its result
record WrongAnswer (w : World) (s : State) (e : Event) (answer : Res) : Type 0 where
  caller : Process
  lives : process_at s.processes e.pid ≡ Some caller
  named : names_no_space s.spaces e.call ≡ false
  own_answer : answer ≡ (own w s caller e.call).res

wrong_rules : (w : World) (s : State) (e : Event) (answer : Res) (p : Process) → process_at s.processes e.pid ≡ Some p → names_no_space s.spaces e.call ≡ false
    → (a b : Bool) (t : State) → (if a then Goes s else if b then Goes t else Wrong (own w s p e.call).res) ≡ Wrong answer → WrongAnswer w s e answer
wrong_rules w s e answer p lives named a b t is = grind arith

wrong_call : (w : World) (s : State) (e : Event) (answer : Res) (p : Process) → process_at s.processes e.pid ≡ Some p → (a b : Bool)
    → names_no_space s.spaces e.call ≡ a
    → (if a then NoSpace else if b then PidInUse else told_call w s p e.call e.res) ≡ Wrong answer
    → WrongAnswer w s e answer
wrong_call w s e answer p lives true b named is = absurd (cc)
wrong_call w s e answer p lives false true named is = absurd (cc)
wrong_call w s e answer p lives false false named is =
    wrong_rules w s e answer p lives named (answers_from_outside p e.call e.res) (same_res e.res (ruling w s p e.call (told_child e.res)).res)
    (ruling w s p e.call (told_child e.res)).state is

wrong_event : (w : World) (s : State) (e : Event) (answer : Res) (o : Option Process) → process_at s.processes e.pid ≡ o → outcome_for w s o e ≡ Wrong answer
    → WrongAnswer w s e answer
wrong_event w s e answer None lives is = absurd (cc)
wrong_event w s e answer (Some p) lives is =
    wrong_call w s e answer p lives (names_no_space s.spaces e.call) (is_living_child s.processes e.res) refl is

pub wrong_has_own_answer : WrongHasOwnAnswer
unfolding WrongHasOwnAnswer
wrong_has_own_answer w s e answer is =
    let wrong : WrongAnswer w s e answer = wrong_event w s e answer (process_at s.processes e.pid) refl is in
    record {
      caller = wrong.caller;
      lives = wrong.lives;
      own_answer = wrong.own_answer;
      another_told = λ same.
          let goes : outcome w s e ≡ Goes (own w s wrong.caller e.call).state = own_step w s e wrong.caller wrong.lives wrong.named (same ∙ wrong.own_answer) in
          let never : Wrong answer ≡ Goes (own w s wrong.caller e.call).state = sym is ∙ goes in
          cc;
    }

-- ---- EAGAIN
-- the rules' own errors are others
never_again : (r : Res) → IsRuled r → r ≡ Err EAGAIN → ⊥
never_again r ruled is = subst IsRuled is ruled

birth_again : (s : State) (child : Process) (after : Spaces) → (birth s child after).res ≡ Err EAGAIN → is_pid child.pid ≡ false
birth_again s child after is = grind arith

unless_again : (r : Res) (s : State) (child : Process) (after : Spaces) → IsRuled r → (birth_unless r s child after).res ≡ Err EAGAIN → is_pid child.pid ≡ false
unless_again r s child after ruled is = grind arith

left_again : (w : World) (s : State) (p : Process) (call : Call) → (reply_to w s p call).res ≡ Err EAGAIN → ((call ≡ Fork) ⊎ (call ≡ CloneUser)) × AllPidsLive s
left_again w s p call is = absurd (never_again (reply_to w s p call).res (reply_plain w.files s.spaces p.space p.cred call).ruled is)

permitted_again : (w : World) (s : State) (p : Process) (call : Call) → (permitted_ruling w s p call (free_pid s)).res ≡ Err EAGAIN
    → ((call ≡ Fork) ⊎ (call ≡ CloneUser)) × AllPidsLive s
permitted_again w s p Fork is = (inl refl, (free_is_least s).none (birth_again s (fork_child p (free_pid s)) s.spaces is))
permitted_again w s p CloneUser is = (
  inr refl,
  (free_is_least s).none (unless_again (clone_user s.spaces p.space p.cred) s (clone_child s.spaces p (free_pid s)) (spaces_left s p CloneUser)
      (clone_ruled s.spaces p.space p.cred) is),
)
permitted_again w s p Exit is = absurd (let never : Done ≡ Err EAGAIN = is in cc)
permitted_again w s p call is = left_again w s p call is

own_again : (w : World) (s : State) (p : Process) (call : Call) → (own w s p call).res ≡ Err EAGAIN → ((call ≡ Fork) ⊎ (call ≡ CloneUser)) × AllPidsLive s
own_again w s p call =
    by_filter (λ r. r.res ≡ Err EAGAIN → ((call ≡ Fork) ⊎ (call ≡ CloneUser)) × AllPidsLive s) w s p call (free_pid s)
    (λ wrong. absurd (cc)) (permitted_again w s p call)

pub again_for_want_of_pids : AgainForWantOfPids
unfolding AgainForWantOfPids
again_for_want_of_pids = own_again
