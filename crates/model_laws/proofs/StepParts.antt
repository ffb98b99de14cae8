-- What a step is made of: the caller, and an error from outside or what the rules give.
use Rattle.std.proofs.Common.{arith, ◌≡◌, ◌⊎◌, ℕ, Bool, true, false, [], ◌∷◌, get_or, Option, Some, None, if◌then◌else◌, refl, sym, ap, ◌∙◌, inl, inr}
use Rattle.std.proofs.lemmas.Bool.{eqb-true, and_parts}
use Rattle.cm_base.specs.declared.errno.Errno.{Errno}
use Rattle.cm_base.specs.declared.errno.Errno.TheVariants.{EPERM, EINVAL, ENOSPC, ENOMEM, EAGAIN, EINTR, EFAULT, EIO}
use Rattle.cm_base.specs.declared.errno.Errno.TheVariants.{ENOENT, EACCES, ENOTDIR, ELOOP, ENAMETOOLONG, E2BIG, ENOEXEC}
use Rattle.cm_base.specs.declared.errno.Errno.TheVariants.{ETXTBSY, ELIBBAD}
use Rattle.cm_base.specs.declared.res.Res.{Res}
use Rattle.cm_filter.specs.Filters.{excludes, permits}
use Rattle.model_cred.specs.Call.{Call, Event, kind_of}
use Rattle.model_cred.specs.Process.{Process, State, process_at}
use Rattle.model_cred.specs.World.{World}
use Rattle.model_run.specs.Outside.{comes_from_outside}
use Rattle.model_run.specs.Ruling.{Ruling, ruling, permitted_ruling, excluded_ruling, own}
use Rattle.model_run.specs.Same.{same_res, same_errno, errno_number}
use Rattle.model_run.specs.Step.{Step, Goes, NoSpace, PidInUse, Wrong, outcome_for, names_no_space, is_living_child, told_child, told_call}
use Rattle.model_run.specs.Step.{told_rules, answers_from_outside}

-- the error of a number
abbrev errno_at : ℕ → Errno
errno_at n =
    get_or (EPERM ∷ EINVAL ∷ ENOSPC ∷ ENOMEM ∷ EAGAIN ∷ EINTR ∷ EFAULT ∷ EIO ∷ ENOENT ∷ EACCES ∷ ENOTDIR ∷ ELOOP
    ∷ ENAMETOOLONG ∷ E2BIG ∷ ENOEXEC ∷ ETXTBSY ∷ ELIBBAD ∷ []) n EPERM

errno_back : (a : Errno) → errno_at (errno_number a) ≡ a
errno_back a = grind arith

-- errors with one number are one
one_errno : (a b : Errno) → same_errno a b ≡ true → a ≡ b
one_errno a b same = sym (errno_back a) ∙ ap errno_at (eqb-true (errno_number a) (errno_number b) same) ∙ errno_back b

-- results that pass the test are one
pub one_res : (a b : Res) → same_res a b ≡ true → a ≡ b
one_res a b same = grind arith

-- What holds of the answer to an excluded call, and of what the rules give for a permitted one, holds of what they
-- give.
pub by_filter : (P : Ruling → Type 0) (w : World) (s : State) (p : Process) (call : Call) (n : ℕ)
    → P (excluded_ruling s) → P (permitted_ruling w s p call n) → P (ruling w s p call n)
by_filter P w s p call n excluded permitted = go (excludes p.filter (kind_of call)) where
  go : (b : Bool) → P (if b then excluded_ruling s else permitted_ruling w s p call n)
  go true = excluded
  go false = permitted

-- What a step of a live process with a call and a result is: what the rules give, or an error from outside with nothing
-- changed.
pub record ByRules (w : World) (s : State) (p : Process) (call : Call) (res : Res) (s' : State) : Type 0 where
  pub result : res ≡ (ruling w s p call (told_child res)).res
  pub state : s' ≡ (ruling w s p call (told_child res)).state

pub record FromOutside (s : State) (call : Call) (res : Res) (s' : State) : Type 0 where
  pub outside : comes_from_outside call res ≡ true
  pub state : s' ≡ s

abbrev pub Answers : World → State → Process → Call → Res → State → Type 0
Answers w s p call res s' = FromOutside s call res s' ⊎ ByRules w s p call res s'

-- what a step is made of
pub record Stepped (w : World) (s : State) (e : Event) (s' : State) : Type 0 where
  pub caller : Process
  pub lives : process_at s.processes e.pid ≡ Some caller
  pub spaces : names_no_space s.spaces e.call ≡ false
  pub child : is_living_child s.processes e.res ≡ false
  pub answers : Answers w s caller e.call e.res s'

goes_same : (s s' : State) → Goes s ≡ Goes s' → s' ≡ s
goes_same s s' e = cc

-- what the rules give, by the test of the result
rules_give : (w : World) (s : State) (p : Process) (call : Call) (res : Res) (s' : State)
    → (b : Bool) → same_res res (ruling w s p call (told_child res)).res ≡ b
    → (if b then Goes (ruling w s p call (told_child res)).state else Wrong (own w s p call).res) ≡ Goes s'
    → ByRules w s p call res s'
rules_give w s p call res s' true same goes =
    record {
      result = one_res res (ruling w s p call (told_child res)).res same;
      state = goes_same (ruling w s p call (told_child res)).state s' goes;
    }
rules_give w s p call res s' false other wrong = absurd (cc)

-- a call's answer, by the test for an error from outside
call_gives : (w : World) (s : State) (p : Process) (call : Call) (res : Res) (s' : State) (b : Bool) → answers_from_outside p call res ≡ b
    → (if b then Goes s else told_rules res (ruling w s p call (told_child res)) (own w s p call)) ≡ Goes s'
    → Answers w s p call res s'
call_gives w s p call res s' true outside goes =
    inl (record { outside = (and_parts (permits p.filter (kind_of call)) (comes_from_outside call res) outside).1; state = goes_same s s' goes })
call_gives w s p call res s' false inside goes =
    inr (rules_give w s p call res s' (same_res res (ruling w s p call (told_child res)).res) refl goes)

-- a live caller's step, by the tests for a space that doesn't stand and for a pid in use
caller_gives : (w : World) (s : State) (p : Process) (e : Event) (s' : State) → process_at s.processes e.pid ≡ Some p
    → (a b : Bool) → names_no_space s.spaces e.call ≡ a → is_living_child s.processes e.res ≡ b
    → (if a then NoSpace else if b then PidInUse else told_call w s p e.call e.res) ≡ Goes s'
    → Stepped w s e s'
caller_gives w s p e s' lives false false spaces child goes =
    record { caller = p; lives = lives; spaces = spaces; child = child; answers = call_gives w s p e.call e.res s' (answers_from_outside p e.call e.res) refl goes }
caller_gives w s p e s' lives true b spaces child wrong = absurd (cc)
caller_gives w s p e s' lives false true spaces child wrong = absurd (cc)

-- a step, by the caller
event_gives : (w : World) (s : State) (e : Event) (s' : State) (o : Option Process) → process_at s.processes e.pid ≡ o
    → outcome_for w s o e ≡ Goes s' → Stepped w s e s'
event_gives w s e s' None lives wrong = absurd (cc)
event_gives w s e s' (Some p) lives goes =
    caller_gives w s p e s' lives (names_no_space s.spaces e.call) (is_living_child s.processes e.res) refl refl goes

pub stepped : (w : World) (s : State) (e : Event) (s' : State) → Step w s e s' → Stepped w s e s'
stepped w s e s' step = event_gives w s e s' (process_at s.processes e.pid) refl step
