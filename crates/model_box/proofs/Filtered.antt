-- No call takes from the filter of a process, and a child has its parent's. So what a process may call only falls, and
-- after every later run each member's filter excludes what those of all members excluded at the query.
use Rattle.std.proofs.Common.{◌≡◌, ℕ, Bool, true, false, Some, None, Option, List, [], ◌∷◌, refl, sym, ap, ◌∙◌, inl, inr, subst}
use Rattle.std.specs.Prelude.{◌⊎◌, IsTrue, if◌then◌else◌}
use Rattle.std.proofs.lemmas.Bool.{false≢true, and_parts, and_from, not-true, not_from_false, false_from_ne_true}
use Rattle.cm_base.specs.declared.errno.Errno.TheVariants.{EAGAIN}
use Rattle.cm_base.specs.declared.res.Res.{Res}
use Rattle.cm_base.specs.declared.res.Res.TheVariants.{Child, Err}
use Rattle.cm_filter.specs.Filters.{Filter, excludes, permits}
use Rattle.cm_filter.specs.declared.kind.CallKind.{CallKind}
use Rattle.model_cred.proofs.Lookups.{pid_of_found}
use Rattle.model_cred.specs.Call.{Call, Fork, CloneUser, Exit, Event, kind_of}
use Rattle.model_cred.specs.Process.{Process, State, process_at, put_process, insert_process, is_alive, is_pid}
use Rattle.model_cred.specs.Space.{Spaces}
use Rattle.model_cred.specs.World.{World}
use Rattle.model_rules.specs.Namespaces.{clone_user}
use Rattle.model_rules.specs.Reply.{reply, spaces_after, filter_after}
use Rattle.model_run.specs.Later.{is_member, members_after}
use Rattle.model_run.specs.Own.{filter_of, permitted_under, may_call}
use Rattle.model_run.specs.Ruling.{Ruling, ruling, permitted_ruling, excluded_ruling, own, birth, birth_unless, fork_child, clone_child}
use Rattle.model_run.specs.Same.{same_res}
use Rattle.model_run.specs.Step.{Step, Goes, NoSpace, PidInUse, Wrong, outcome_for, names_no_space, is_living_child, told_call, told_rules, told_child}
use Rattle.model_run.specs.Step.{answers_from_outside}
use Rattle.model_run.proofs.Filters.{filter_grows, filter_found, every_kind_excludes}
use Rattle.model_box.specs.Covers.{FiltersExclude}
use Rattle.model_box.specs.Parting.{LaterBy, OnlyFalls}
use Rattle.model_box.proofs.Grows.{goes_to}
use Rattle.model_box.proofs.Partings.{is_child}
use Rattle.model_box.proofs.Processes.{put_found, insert_found, without_found, was_member}
use Rattle.model_box.proofs.Writing.{choose}

-- the second filter excludes all that the first does
abbrev pub ExcludesMore : Filter → Filter → Type 0
ExcludesMore filter more = (kind : CallKind) → IsTrue (excludes filter kind) → IsTrue (excludes more kind)

-- Where the filter of one who is alive after a call comes from: it grew from what it was, or from the caller's, whose
-- child it is.
pub data FilterFrom (s : State) (p : Process) (res : Res) (q : ℕ) (found : Process) : Type 0 where
  before : (was : Process) → process_at s.processes q ≡ Some was → ExcludesMore was.filter found.filter → FilterFrom s p res q found
  born : res ≡ Child q → ExcludesMore p.filter found.filter → FilterFrom s p res q found

abbrev FiltersFrom : State → Process → Res → State → Type 0
FiltersFrom s p res s' = (q : ℕ) (found : Process) → process_at s'.processes q ≡ Some found → FilterFrom s p res q found

-- what the rules give, where it is what is told
abbrev FiltersBy : State → Process → Res → Ruling → Type 0
FiltersBy s p res r = IsTrue (same_res res r.res) → FiltersFrom s p res r.state

all_stay : (s : State) (p : Process) (res : Res) → FiltersFrom s p res s
all_stay s p res q found found_at = before found found_at (λ kind held. held)

birth_filters : (s : State) (p : Process) (res : Res) (after : Spaces) (baby : Process) → baby.filter ≡ p.filter → FiltersBy s p res (birth s baby after)
birth_filters s p res after baby same_filter =
    choose (FiltersBy s p res) (is_pid baby.pid)
    (record { res = Child baby.pid; state = record { processes = insert_process baby s.processes; spaces = after } })
    (record { res = Err EAGAIN; state = s })
    (λ _ told q found found_at. by told q found found_at (insert_found baby s.processes q found found_at))
    (λ _ told. all_stay s p res) where
      by : IsTrue (same_res res (Child baby.pid)) → (q : ℕ) (found : Process) → process_at (insert_process baby s.processes) q ≡ Some found
          → (found ≡ baby) ⊎ (process_at s.processes q ≡ Some found) → FilterFrom s p res q found
      by told q found found_at (inl same) =
          let is : baby.pid ≡ q =
          sym (ap (λ (x : Process). x.pid) same) ∙ pid_of_found (insert_process baby s.processes) q found found_at in
          born (is_child res baby.pid told ∙ ap Child is) (λ kind held. rw (same, same_filter) held)
      by told q found found_at (inr was_at) = before found was_at (λ kind held. held)

unless_filters : (made : Res) (s : State) (p : Process) (res : Res) (after : Spaces) (baby : Process) → baby.filter ≡ p.filter
    → FiltersBy s p res (birth_unless made s baby after)
unless_filters (Err e) s p res after baby same_filter = λ told. all_stay s p res
unless_filters _ s p res after baby same_filter = birth_filters s p res after baby same_filter

module _ (w : World) (s : State) (pid : ℕ) (p : Process) (at : process_at s.processes pid ≡ Some p) where
  -- the caller is another process with its pid
  put_filters : (res : Res) (after : Spaces) (new : Process) → new.pid ≡ p.pid → ExcludesMore p.filter new.filter
      → FiltersFrom s p res (record { processes = put_process new s.processes; spaces = after })
  put_filters res after new same_pid grows q found found_at = by (put_found new s.processes q found found_at) where
    by : (found ≡ new) ⊎ (process_at s.processes q ≡ Some found) → FilterFrom s p res q found
    by (inl same) =
        let is : pid ≡ q =
        sym (pid_of_found s.processes pid p at) ∙ sym same_pid ∙ sym (ap (λ (x : Process). x.pid) same)
        ∙ pid_of_found (put_process new s.processes) q found found_at in
        before p (sym (ap (process_at s.processes) is) ∙ at) (λ kind held. rw same (grows kind held))
    by (inr was_at) = before found was_at (λ kind held. held)

  permitted_filters : (call : Call) (res : Res) (child_pid : ℕ) → FiltersBy s p res (permitted_ruling w s p call child_pid)
  permitted_filters Fork res child_pid = birth_filters s p res s.spaces (fork_child p child_pid) refl
  permitted_filters CloneUser res child_pid =
      unless_filters (clone_user s.spaces p.space p.cred) s p res (spaces_after s.spaces p.space p.cred CloneUser) (clone_child s.spaces p child_pid) refl
  permitted_filters Exit res child_pid = λ told q found found_at.
      let remains = (without_found p s.processes q found found_at).1 in
      before remains.was remains.named (λ kind held. rw remains.filter held)
  permitted_filters call res child_pid = λ told.
      put_filters res (spaces_after s.spaces p.space p.cred call)
      (record p {
        space = (reply w.files s.spaces p.space p.cred call).space;
        cred = (reply w.files s.spaces p.space p.cred call).cred;
        filter = filter_after p.filter p.cred call;
      })
      refl (filter_grows p.filter p.cred call)

  ruled_filters : (call : Call) (res : Res) (child_pid : ℕ) → FiltersBy s p res (ruling w s p call child_pid)
  ruled_filters call res child_pid =
      choose (FiltersBy s p res) (excludes p.filter (kind_of call)) (excluded_ruling s) (permitted_ruling w s p call child_pid)
      (λ _ told. all_stay s p res) (λ _. permitted_filters call res child_pid)

  told_filters : (call : Call) (res : Res) (s' : State) → told_call w s p call res ≡ Goes s' → FiltersFrom s p res s'
  told_filters call res s' step = outside (answers_from_outside p call res) step where
    rules : (b : Bool) → same_res res (ruling w s p call (told_child res)).res ≡ b
        → (if b then Goes (ruling w s p call (told_child res)).state else Wrong (own w s p call).res) ≡ Goes s'
        → FiltersFrom s p res s'
    rules true told same = rw (goes_to (ruling w s p call (told_child res)).state s' same) at (ruled_filters call res (told_child res) told)
    rules false told same = absurd (cc)

    outside : (b : Bool) → (if b then Goes s else told_rules res (ruling w s p call (told_child res)) (own w s p call)) ≡ Goes s'
        → FiltersFrom s p res s'
    outside true same = subst (FiltersFrom s p res) (goes_to s s' same) (all_stay s p res)
    outside false same = rules (same_res res (ruling w s p call (told_child res)).res) refl same

-- ---- one step
pub record StepFilters (s : State) (e : Event) (s' : State) : Type 0 where
  pub caller : Process
  pub named : process_at s.processes e.pid ≡ Some caller
  pub free : is_living_child s.processes e.res ≡ false
  pub from : (q : ℕ) (found : Process) → process_at s'.processes q ≡ Some found → FilterFrom s caller e.res q found

pub step_filters : (w : World) (s : State) (e : Event) (s' : State) → Step w s e s' → StepFilters s e s'
step_filters w s e s' step = named (process_at s.processes e.pid) refl step where
  living : (p : Process) → process_at s.processes e.pid ≡ Some p → (b : Bool) → is_living_child s.processes e.res ≡ b
      → (if b then PidInUse else told_call w s p e.call e.res) ≡ Goes s' → StepFilters s e s'
  living p at true is same = absurd (cc)
  living p at false is same = record { caller = p; named = at; free = is; from = told_filters w s e.pid p at e.call e.res s' same }

  spaced : (p : Process) → process_at s.processes e.pid ≡ Some p → (b : Bool)
      → (if b then NoSpace else if is_living_child s.processes e.res then PidInUse else told_call w s p e.call e.res) ≡ Goes s'
      → StepFilters s e s'
  spaced p at true same = absurd (cc)
  spaced p at false same = living p at (is_living_child s.processes e.res) refl same

  named : (o : Option Process) → process_at s.processes e.pid ≡ o → outcome_for w s o e ≡ Goes s' → StepFilters s e s'
  named None at same = absurd (cc)
  named (Some p) at same = spaced p at (names_no_space s.spaces e.call) same

-- a child wasn't alive
child_is_new : (s : State) (res : Res) (q : ℕ) → is_living_child s.processes res ≡ false → res ≡ Child q → IsTrue (is_alive s.processes q) → ⊥
child_is_new s res q free child alive = false≢true (sym free ∙ ap (is_living_child s.processes) child ∙ alive)

-- under a filter that excludes more no more is permitted
less_under : (permitted : CallKind → Bool) (filter more : Filter) → ExcludesMore filter more → (kind : CallKind)
    → IsTrue (permitted_under more permitted kind) → IsTrue (permitted_under filter permitted kind)
less_under permitted filter more grows kind may =
    let parts = and_parts (permitted kind) (permits more kind) may in
    and_from (permitted kind) (permits filter kind) parts.0
    (not_from_false (excludes filter kind) (false_from_ne_true (excludes filter kind)
    (λ held. false≢true (sym (not-true (excludes more kind) parts.1) ∙ grows kind held))))

-- who may call is alive
record Living (permitted : CallKind → Bool) (s : State) (q : ℕ) (kind : CallKind) : Type 0 where
  found : Process
  named : process_at s.processes q ≡ Some found
  may : IsTrue (permitted_under found.filter permitted kind)

may_living : (permitted : CallKind → Bool) (s : State) (q : ℕ) (kind : CallKind) → IsTrue (may_call permitted s q kind) → Living permitted s q kind
may_living permitted s q kind may = by (process_at s.processes q) refl where
  by : (o : Option Process) → process_at s.processes q ≡ o → Living permitted s q kind
  by None none =
      let parts = and_parts (permitted kind) (permits (filter_of s q) kind) may in
      absurd (false≢true (sym (not-true (excludes (filter_of s q) kind) parts.1) ∙ (rw none (every_kind_excludes kind))))
  by (Some p) at = record { found = p; named = at; may = rw (filter_found s q p at) at may }

may_found : (permitted : CallKind → Bool) (s : State) (q : ℕ) (p : Process) (kind : CallKind) → process_at s.processes q ≡ Some p
    → IsTrue (permitted_under p.filter permitted kind) → IsTrue (may_call permitted s q kind)
may_found permitted s q p kind at may = rw (filter_found s q p at) may

-- What a process may call only falls, and a child may call at most what its parent might.
pub only_falls : (permitted : CallKind → Bool) (w : World) → OnlyFalls w (may_call permitted)
only_falls permitted w s e s' step = record {
  still = λ q was is kind may. let now = may_living permitted s' q kind may in still q was kind now (facts.from q now.found now.named);
  child = λ q child kind may. let now = may_living permitted s' q kind may in of_child q child kind now (facts.from q now.found now.named);
} where
  facts : StepFilters s e s'
  facts = step_filters w s e s' step

  still : (q : ℕ) → IsTrue (is_alive s.processes q) → (kind : CallKind) (now : Living permitted s' q kind)
      → FilterFrom s facts.caller e.res q now.found → IsTrue (may_call permitted s q kind)
  still q alive kind now (before was was_at grows) =
      may_found permitted s q was kind was_at (less_under permitted was.filter now.found.filter grows kind now.may)
  still q alive kind now (born child grows) = absurd (child_is_new s e.res q facts.free child alive)

  of_child : (q : ℕ) → e.res ≡ Child q → (kind : CallKind) (now : Living permitted s' q kind)
      → FilterFrom s facts.caller e.res q now.found → IsTrue (may_call permitted s e.pid kind)
  of_child q child kind now (before was was_at grows) = absurd (child_is_new s e.res q facts.free child (rw was_at refl))
  of_child q child kind now (born _ grows) =
      may_found permitted s e.pid facts.caller kind facts.named (less_under permitted facts.caller.filter now.found.filter grows kind now.may)

-- ---- members
step_excludes : (excluded : Filter) (w : World) (s : State) (members : List ℕ) (e : Event) (s' : State) → Step w s e s' → IsTrue (is_member members e.pid)
    → FiltersExclude excluded s members → FiltersExclude excluded s' (members_after members e.pid e.call e.res)
step_excludes excluded w s members e s' step caller filters q found member found_at kind held = by (facts.from q found found_at) where
  facts : StepFilters s e s'
  facts = step_filters w s e s' step

  by : FilterFrom s facts.caller e.res q found → IsTrue (excludes found.filter kind)
  by (before was was_at grows) =
      let alive : IsTrue (is_alive s.processes q) = rw was_at refl in
      grows kind (filters q was (was_member s.processes members e.pid q e.call e.res facts.free alive member) was_at kind held)
  by (born child grows) = grows kind (filters e.pid facts.caller caller facts.named kind held)

-- After every later run the members exclude what they excluded at the query.
pub later_excludes : (excluded : Filter) (w : World) (may : State → ℕ → CallKind → Bool) (s : State) (members : List ℕ) (es : List Event)
    (s' : State) (members' : List ℕ) → LaterBy may w s members es s' members' → FiltersExclude excluded s members → FiltersExclude excluded s' members'
later_excludes excluded w may s members [] s' members' (same, same_members) filters = rw (same, same_members) filters
later_excludes excluded w may s members (e ∷ es) s' members' (mid, caller, allowed, step, rest) filters =
    later_excludes excluded w may mid (members_after members e.pid e.call e.res) es s' members' rest
    (step_excludes excluded w s members e mid step caller filters)
