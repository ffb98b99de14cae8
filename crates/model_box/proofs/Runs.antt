-- Whole runs: what covering bounds that are closed cover stays covered, and what they don't meet is never held.
use Rattle.std.proofs.Common.{◌≡◌, ℕ, Bool, true, false, ◌||◌, not, Some, None, Option, List, [], ◌∷◌, refl, sym, ap, ◌∙◌, inl, inr}
use Rattle.std.specs.Prelude.{◌⊎◌, IsTrue, is_some, nat_lt, if◌then◌else◌}
use Rattle.std.proofs.lemmas.Bool.{or_right, not-false, and_parts}
use Rattle.cm_base.specs.declared.errno.Errno.TheVariants.{EPERM, ENOSPC, EAGAIN}
use Rattle.cm_base.specs.declared.res.Res.{Res}
use Rattle.cm_base.specs.declared.res.Res.TheVariants.{Done, Child, Err}
use Rattle.model_cred.proofs.Lookups.{pid_of_found}
use Rattle.model_cred.specs.Call.{Call, Fork, CloneUser, Exit, Event, kind_of}
use Rattle.cm_filter.specs.Filters.{excludes}
use Rattle.cm_filter.specs.declared.kind.CallKind.{CallKind}
use Rattle.cm_filter.specs.declared.kind.CallKind.TheVariants as kind
use Rattle.model_cred.specs.Credential.{Credential}
use Rattle.model_cred.specs.Process.{Process, State, process_at, put_process, insert_process, is_alive, is_pid}
use Rattle.model_cred.specs.Space.{Spaces, space_of, level}
use Rattle.model_cred.specs.World.{World}
use Rattle.model_rules.specs.Answer.{Answer, done, refused}
use Rattle.model_rules.specs.Namespaces.{created_by, as_newcomer, is_mapped_in, deepest}
use Rattle.model_rules.specs.Reply.{reply, spaces_with, spaces_after, filter_after}
use Rattle.model_run.specs.Later.{is_member, members_after}
use Rattle.model_run.specs.Outside.{comes_from_outside}
use Rattle.model_run.specs.Ruling.{Ruling, ruling, permitted_ruling, excluded_ruling, own, birth, birth_unless, fork_child, clone_child, state_without}
use Rattle.model_run.specs.Same.{same_res}
use Rattle.model_run.specs.Step.{Step, Goes, NoSpace, PidInUse, Wrong, outcome_for, names_no_space, is_living_child, told_call, told_rules, told_child}
use Rattle.model_run.specs.Step.{answers_from_outside}
use Rattle.model_box.specs.Row.{Part, Row}
use Rattle.model_box.specs.Files.{FilesFit}
use Rattle.model_box.specs.Parting.{InCell, cell_of, parting_after, parting_then, LaterBy, Falls, OnlyFalls}
use Rattle.model_box.specs.Laws.{PermitsWithin}
use Rattle.model_box.proofs.Fits.{ClosedTogether, SpacesFit, MemberFits}
use Rattle.model_box.proofs.Grows.{goes_to}
use Rattle.model_box.proofs.Writing.{choose}
use Rattle.model_box.proofs.Partings.{cell_stays, cell_born, is_child, no_end, outside_ends_none}
use Rattle.model_box.proofs.Processes.{put_found, insert_found, without_found, was_member}
use Rattle.model_box.proofs.Steps.{AfterCall, StillFits, nothing_changes, made_still, maker_still, after_call}

-- what a run keeps of one member, whose cell has that number
pub record MemberKept (old : Spaces) (s : State) (Cell : ℕ → Type 0) (permits : ℕ → CallKind → Bool)
    (bounds : ℕ → Row → Part → ℕ → Type 0) (may : State → ℕ → CallKind → Bool) (j q : ℕ) (p : Process) : Type 0 where
  pub cell : Cell j
  pub less : PermitsWithin (may s q) (permits j)
  pub fits : MemberFits old s.spaces (bounds j) p.space p.cred

-- what a run keeps
pub record Kept (old : Spaces) (Cell : ℕ → Type 0) (permits : ℕ → CallKind → Bool) (bounds : ℕ → Row → Part → ℕ → Type 0)
    (all : Row → Part → ℕ → Type 0) (Made : ℕ → Type 0) (may : State → ℕ → CallKind → Bool)
    (s : State) (members : List ℕ) (parting : List InCell) : Type 0 where
  pub spaces : SpacesFit old s.spaces Cell bounds all Made
  pub members_kept : (q : ℕ) (p : Process) → IsTrue (is_member members q) → process_at s.processes q ≡ Some p
      → MemberKept old s Cell permits bounds may (cell_of parting q) q p

alive_is : (ps : List Process) (q : ℕ) (p : Process) → process_at ps q ≡ Some p → IsTrue (is_alive ps q)
alive_is ps q p at = ap (λ (o : Option Process). is_some o) at

module _ (w : World) (old : Spaces) (Cell : ℕ → Type 0) (permits : ℕ → CallKind → Bool) (common : CallKind → Bool)
    (bounds : ℕ → Row → Part → ℕ → Type 0) (all : Row → Part → ℕ → Type 0) (Made : ℕ → Type 0)
    (may : State → ℕ → CallKind → Bool)
    (closed : ClosedTogether w.files old Cell permits common bounds all Made) (files_fit : FilesFit w.files old) where
  abbrev KeptIn : State → List ℕ → List InCell → Type 0
  KeptIn = Kept old Cell permits bounds all Made may

  module _ (s : State) (members : List ℕ) (parting : List InCell) (kept : KeptIn s members parting)
      (pid : ℕ) (p : Process) (caller : IsTrue (is_member members pid)) (at : process_at s.processes pid ≡ Some p) where
    the_caller : MemberKept old s Cell permits bounds may (cell_of parting pid) pid p
    the_caller = kept.members_kept pid p caller at

    pid_is : p.pid ≡ pid
    pid_is = pid_of_found s.processes pid p at

    module _ (call : Call) (res : Res) (free : is_living_child s.processes res ≡ false) (s' : State)
        (falls : Falls may s (record { pid = pid; call = call; res = res }) s') where
      -- who lived and lives is kept with what it then has, where that fits its cell
      goes_on : (q : ℕ) (was found : Process) → process_at s.processes q ≡ Some was → process_at s'.processes q ≡ Some found
          → (kind_of call ≡ kind.Exit → res ≡ Done → q ≡ pid → ⊥)
          → MemberKept old s Cell permits bounds may (cell_of parting q) q was
          → MemberFits old s'.spaces (bounds (cell_of parting q)) found.space found.cred
          → MemberKept old s' Cell permits bounds may (cell_of (parting_after parting pid call res) q) q found
      goes_on q was found was_at found_at stays before fits =
          rw (cell_stays s.processes parting pid q call res free (alive_is s.processes q was was_at) stays)
          (record {
            cell = before.cell;
            less =
                λ k held. before.less k
                (falls.still q (alive_is s.processes q was was_at) (alive_is s'.processes q found found_at) k held);
            fits = fits;
          })

      -- who is a member now and was alive was kept
      was_kept : (q : ℕ) (found : Process) → IsTrue (is_member (members_after members pid call res) q) → process_at s.processes q ≡ Some found
          → MemberKept old s Cell permits bounds may (cell_of parting q) q found
      was_kept q found member found_at =
          kept.members_kept q found (was_member s.processes members pid q call res free (alive_is s.processes q found found_at) member) found_at

    -- what the rules give is kept, where it is what is told
    abbrev KeptBy : Call → Res → Ruling → Type 0
    KeptBy call res r =
        IsTrue (same_res res r.res) → Falls may s (record { pid = pid; call = call; res = res }) r.state
        → KeptIn r.state (members_after members pid call res) (parting_after parting pid call res)

    -- nothing changed
    stays_kept : (call : Call) (res : Res) → is_living_child s.processes res ≡ false → (res ≡ Done → ⊥)
        → Falls may s (record { pid = pid; call = call; res = res }) s
        → KeptIn s (members_after members pid call res) (parting_after parting pid call res)
    stays_kept call res free stays falls = record {
      spaces = kept.spaces;
      members_kept = λ q found member found_at.
          let before = was_kept call res free s falls q found member found_at in
          goes_on call res free s falls q found found found_at found_at (λ _ done _. stays done) before before.fits;
    }

    -- the caller is another process with its pid, and the spaces may have changed
    changed_kept : (call : Call) (res : Res) (free : is_living_child s.processes res ≡ false) → (kind_of call ≡ kind.Exit → ⊥)
        → (after : Spaces) (new : Process) → new.pid ≡ p.pid
        → AfterCall old s.spaces after Cell bounds all Made (cell_of parting pid) new.space new.cred
        → Falls may s (record { pid = pid; call = call; res = res }) (record { processes = put_process new s.processes; spaces = after })
        → KeptIn (record { processes = put_process new s.processes; spaces = after })
        (members_after members pid call res) (parting_after parting pid call res)
    changed_kept call res free stays after new same_pid after_ falls = record {
      spaces = after_.still.spaces;
      members_kept = λ q found member found_at. by q found member found_at (put_found new s.processes q found found_at);
    } where
      then_ : State
      then_ = record { processes = put_process new s.processes; spaces = after }

      by : (q : ℕ) (found : Process) → IsTrue (is_member (members_after members pid call res) q)
          → process_at (put_process new s.processes) q ≡ Some found
          → (found ≡ new) ⊎ (process_at s.processes q ≡ Some found)
          → MemberKept old then_ Cell permits bounds may (cell_of (parting_after parting pid call res) q) q found
      by q found member found_at (inl same) =
          let is : pid ≡ q =
          sym pid_is ∙ sym same_pid ∙ sym (ap (λ (x : Process). x.pid) same)
          ∙ pid_of_found (put_process new s.processes) q found found_at in
          goes_on call res free then_ falls q p found (sym (ap (process_at s.processes) is) ∙ at) found_at (λ exit _ _. stays exit)
          (rw (← is) the_caller) (rw (← is, same) after_.caller)
      by q found member found_at (inr before_at) =
          let before = was_kept call res free then_ falls q found member before_at in
          goes_on call res free then_ falls q found found before_at found_at (λ exit _ _. stays exit) before
          (after_.still.members (cell_of parting q) before.cell found.space found.cred before.fits)

    -- a birth
    born_kept : (call : Call) (res : Res) (free : is_living_child s.processes res ≡ false)
        → ((k : ℕ) → res ≡ Child k → cell_of (parting_after parting pid call res) k ≡ cell_of parting pid) → (kind_of call ≡ kind.Exit → ⊥)
        → (after : Spaces) (baby : Process)
        → StillFits old s.spaces after Cell bounds all Made → MemberFits old after (bounds (cell_of parting pid)) baby.space baby.cred
        → KeptBy call res (birth s baby after)
    born_kept call res free cell_is stays after baby still fits =
        choose (KeptBy call res) (is_pid baby.pid)
        (record { res = Child baby.pid; state = record { processes = insert_process baby s.processes; spaces = after } })
        (record { res = Err EAGAIN; state = s })
        (λ _ told falls. record {
          spaces = still.spaces;
          members_kept = λ q found member found_at. by told falls q found member found_at (insert_found baby s.processes q found found_at);
        })
        (λ _ told falls. stays_kept call res free (no_end res EAGAIN told) falls) where
          then_ : State
          then_ = record { processes = insert_process baby s.processes; spaces = after }

          by : IsTrue (same_res res (Child baby.pid)) → Falls may s (record { pid = pid; call = call; res = res }) then_
              → (q : ℕ) (found : Process) → IsTrue (is_member (members_after members pid call res) q)
              → process_at (insert_process baby s.processes) q ≡ Some found
              → (found ≡ baby) ⊎ (process_at s.processes q ≡ Some found)
              → MemberKept old then_ Cell permits bounds may (cell_of (parting_after parting pid call res) q) q found
          by told falls q found member found_at (inl same) =
              let is : baby.pid ≡ q =
              sym (ap (λ (x : Process). x.pid) same) ∙ pid_of_found (insert_process baby s.processes) q found found_at in
              let child : res ≡ Child q = is_child res baby.pid told ∙ ap Child is in
              rw (cell_is q child) (record {
                cell = the_caller.cell;
                less = λ k held. the_caller.less k (falls.child q child k held);
                fits = rw same fits;
              })
          by told falls q found member found_at (inr before_at) =
              let before = was_kept call res free then_ falls q found member before_at in
              goes_on call res free then_ falls q found found before_at found_at (λ exit _ _. stays exit) before
              (still.members (cell_of parting q) before.cell found.space found.cred before.fits)

    -- an exit
    left_kept : (res : Res) → is_living_child s.processes res ≡ false
        → Falls may s (record { pid = pid; call = Exit; res = res }) (state_without s p)
        → KeptIn (state_without s p) (members_after members pid Exit res) (parting_after parting pid Exit res)
    left_kept res free falls = record {
      spaces = kept.spaces;
      members_kept = λ q found member found_at.
          let gone = without_found p s.processes q found found_at in
          let before = was_kept Exit res free (state_without s p) falls q gone.1.was member gone.1.named in
          goes_on Exit res free (state_without s p) falls q gone.1.was found gone.1.named found_at
          (λ _ _ same. gone.0 (same ∙ sym pid_is)) before
          (moved (cell_of parting q) gone.1.was.space found.space gone.1.was.cred found.cred (sym gone.1.space) (sym gone.1.cred) before.fits);
    } where
      moved : (j a b : ℕ) (c d : Credential) → a ≡ b → c ≡ d → MemberFits old s.spaces (bounds j) a c → MemberFits old s.spaces (bounds j) b d
      moved j a b c d same other fits = rw (same, other) at fits

    -- a birth in a new space
    clone_kept : (res : Res) → is_living_child s.processes res ≡ false → (child_pid : ℕ) → IsTrue (permits (cell_of parting pid) kind.CloneUser)
        → KeptBy CloneUser res (permitted_ruling w s p CloneUser child_pid)
    clone_kept res free child_pid allowed =
        choose (λ (a : Answer).
        KeptBy CloneUser res (birth_unless a.res s (clone_child s.spaces p child_pid) (spaces_with a.res s.spaces p.space p.cred)))
        (not (nat_lt (level s.spaces p.space) deepest)) (refused ENOSPC p.cred)
        (if not (is_mapped_in (space_of s.spaces p.space) p.cred) then refused EPERM p.cred else done (as_newcomer p.cred))
        (λ _ told falls. stays_kept CloneUser res free (no_end res ENOSPC told) falls)
        (λ shallow.
        choose (λ (a : Answer).
        KeptBy CloneUser res (birth_unless a.res s (clone_child s.spaces p child_pid) (spaces_with a.res s.spaces p.space p.cred)))
        (not (is_mapped_in (space_of s.spaces p.space) p.cred)) (refused EPERM p.cred) (done (as_newcomer p.cred))
        (λ _ told falls. stays_kept CloneUser res free (no_end res EPERM told) falls)
        (λ mapped. made (not-false (nat_lt (level s.spaces p.space) deepest) shallow) (not-false (is_mapped_in (space_of s.spaces p.space) p.cred) mapped))) where
          either : IsTrue (permits (cell_of parting pid) kind.Unshare || permits (cell_of parting pid) kind.CloneUser)
          either = or_right (permits (cell_of parting pid) kind.Unshare) (permits (cell_of parting pid) kind.CloneUser) allowed

          made : IsTrue (nat_lt (level s.spaces p.space) deepest) → IsTrue (is_mapped_in (space_of s.spaces p.space) p.cred)
              → KeptBy CloneUser res (birth s (clone_child s.spaces p child_pid) (created_by s.spaces p.space p.cred ∷ s.spaces))
          made shallow mapped =
              born_kept CloneUser res free (λ k child. rw child (cell_born parting pid k)) (λ wrong. cc)
              (created_by s.spaces p.space p.cred ∷ s.spaces) (clone_child s.spaces p child_pid)
              (made_still w.files old Cell permits common bounds all Made closed files_fit s.spaces kept.spaces
              (cell_of parting pid) the_caller.cell p.space p.cred the_caller.fits either shallow mapped)
              (maker_still w.files old Cell permits common bounds all Made closed files_fit s.spaces kept.spaces
              (cell_of parting pid) the_caller.cell p.space p.cred the_caller.fits either shallow mapped)

    -- What the rules give for a call that the caller's filter permits is covered.
    permitted_kept : (call : Call) (res : Res) → is_living_child s.processes res ≡ false → IsTrue (permits (cell_of parting pid) (kind_of call))
        → names_no_space s.spaces call ≡ false → (child_pid : ℕ) → KeptBy call res (permitted_ruling w s p call child_pid)
    permitted_kept Fork res free allowed named child_pid =
        born_kept Fork res free (λ k child. rw child (cell_born parting pid k)) (λ wrong. cc) s.spaces (fork_child p child_pid)
        (nothing_changes w.files old Cell permits common bounds all Made closed files_fit s.spaces kept.spaces) the_caller.fits
    permitted_kept CloneUser res free allowed named child_pid = clone_kept res free child_pid allowed
    permitted_kept Exit res free allowed named child_pid = λ told falls. left_kept res free falls
    permitted_kept call res free allowed named child_pid = λ told falls.
        changed_kept call res free (λ wrong. cc) (spaces_after s.spaces p.space p.cred call)
        (record p {
          space = (reply w.files s.spaces p.space p.cred call).space;
          cred = (reply w.files s.spaces p.space p.cred call).cred;
          filter = filter_after p.filter p.cred call;
        })
        refl
        (after_call w.files old Cell permits common bounds all Made closed files_fit s.spaces kept.spaces
        (cell_of parting pid) the_caller.cell p.space p.cred the_caller.fits call allowed named) falls

    -- What the rules give is covered: nothing changes where the caller's filter excludes the call.
    ruled_kept : (call : Call) (res : Res) → is_living_child s.processes res ≡ false → IsTrue (permits (cell_of parting pid) (kind_of call))
        → names_no_space s.spaces call ≡ false → (child_pid : ℕ) → KeptBy call res (ruling w s p call child_pid)
    ruled_kept call res free allowed named child_pid =
        choose (KeptBy call res) (excludes p.filter (kind_of call)) (excluded_ruling s) (permitted_ruling w s p call child_pid)
        (λ _ told falls. stays_kept call res free (no_end res EPERM told) falls)
        (λ _. permitted_kept call res free allowed named child_pid)

    -- a step of the caller
    told_kept : (call : Call) (res : Res) (s' : State) → IsTrue (permits (cell_of parting pid) (kind_of call))
        → names_no_space s.spaces call ≡ false → is_living_child s.processes res ≡ false
        → Falls may s (record { pid = pid; call = call; res = res }) s'
        → told_call w s p call res ≡ Goes s' → KeptIn s' (members_after members pid call res) (parting_after parting pid call res)
    told_kept call res s' allowed named free falls step = outside (answers_from_outside p call res) refl step where
      rules : (b : Bool) → same_res res (ruling w s p call (told_child res)).res ≡ b
          → (if b then Goes (ruling w s p call (told_child res)).state else Wrong (own w s p call).res) ≡ Goes s'
          → KeptIn s' (members_after members pid call res) (parting_after parting pid call res)
      rules true told same =
          let is : (ruling w s p call (told_child res)).state ≡ s' = goes_to (ruling w s p call (told_child res)).state s' same in
          rw is at (ruled_kept call res free allowed named (told_child res) told (rw (← is) at falls))
      rules false told same = absurd (cc)

      outside : (b : Bool) → answers_from_outside p call res ≡ b
          → (if b then Goes s else told_rules res (ruling w s p call (told_child res)) (own w s p call)) ≡ Goes s'
          → KeptIn s' (members_after members pid call res) (parting_after parting pid call res)
      outside true out same =
          let is : s ≡ s' = goes_to s s' same in
          let told = and_parts (not (excludes p.filter (kind_of call))) (comes_from_outside call res) out in
          rw is at (stays_kept call res free (outside_ends_none call res told.1) (rw (← is) at falls))
      outside false out same = rules (same_res res (ruling w s p call (told_child res)).res) refl same

  -- Each step of a member, of a kind that it may call, keeps all members covered.
  pub step_kept : OnlyFalls w may → (s : State) (members : List ℕ) (parting : List InCell) (e : Event) (s' : State) → KeptIn s members parting
      → IsTrue (is_member members e.pid) → IsTrue (may s e.pid (kind_of e.call))
      → Step w s e s' → KeptIn s' (members_after members e.pid e.call e.res) (parting_after parting e.pid e.call e.res)
  step_kept only s members parting e s' kept caller allowed step = named (process_at s.processes e.pid) refl step where
    living : (p : Process) → process_at s.processes e.pid ≡ Some p → names_no_space s.spaces e.call ≡ false → (b : Bool) → is_living_child s.processes e.res ≡ b
        → (if b then PidInUse else told_call w s p e.call e.res) ≡ Goes s'
        → KeptIn s' (members_after members e.pid e.call e.res) (parting_after parting e.pid e.call e.res)
    living p at spaced true is same = absurd (cc)
    living p at spaced false is same =
        told_kept s members parting kept e.pid p caller at e.call e.res s'
        ((kept.members_kept e.pid p caller at).less (kind_of e.call) allowed) spaced is (only s e s' step) same

    spaced : (p : Process) → process_at s.processes e.pid ≡ Some p → (b : Bool) → names_no_space s.spaces e.call ≡ b
        → (if b then NoSpace else if is_living_child s.processes e.res then PidInUse else told_call w s p e.call e.res) ≡ Goes s'
        → KeptIn s' (members_after members e.pid e.call e.res) (parting_after parting e.pid e.call e.res)
    spaced p at true is same = absurd (cc)
    spaced p at false is same = living p at is (is_living_child s.processes e.res) refl same

    named : (o : Option Process) → process_at s.processes e.pid ≡ o → outcome_for w s o e ≡ Goes s'
        → KeptIn s' (members_after members e.pid e.call e.res) (parting_after parting e.pid e.call e.res)
    named None at same = absurd (cc)
    named (Some p) at same = spaced p at (names_no_space s.spaces e.call) refl same

  -- So does every later run, of any length.
  pub later_kept : OnlyFalls w may → (s : State) (members : List ℕ) (parting : List InCell) (es : List Event) (s' : State) (members' : List ℕ)
      → KeptIn s members parting
      → LaterBy may w s members es s' members' → KeptIn s' members' (parting_then parting es)
  later_kept only s members parting [] s' members' kept (same, same_members) = rw (same, same_members) kept
  later_kept only s members parting (e ∷ es) s' members' kept (mid, caller, allowed, step, rest) =
      later_kept only mid (members_after members e.pid e.call e.res) (parting_after parting e.pid e.call e.res) es s' members'
      (step_kept only s members parting e mid kept caller allowed step) rest
