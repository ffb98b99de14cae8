-- Runs keep that the maps of all spaces take their ids back: what is written is a map, and no map is written twice.
use Rattle.std.proofs.Common.{◌≡◌, ℕ, ◌==◌, ◌&&◌, not, List, [], ◌∷◌, Option, None, Some, if◌then◌else◌, refl, sym}
use Rattle.std.proofs.Common.{inl, inr, subst}
use Rattle.std.specs.Prelude.{All, IsTrue}
use Rattle.std.proofs.lemmas.Bool.{not-false}
use Rattle.std.proofs.lemmas.List.Elements.{All-cons, All-head, All-tail}
use Rattle.cm_base.specs.declared.errno.Errno.TheVariants.{EPERM, EINVAL, EAGAIN}
use Rattle.cm_base.specs.declared.res.Res.{Res}
use Rattle.cm_base.specs.declared.res.Res.TheVariants.{Done, Child, Err}
use Rattle.model_cred.specs.Call.{Call, Fork, CloneUser, Unshare, WriteUidMap, WriteGidMap, WriteSetgroups, Exit, Event}
use Rattle.model_cred.specs.Credential.{Credential}
use Rattle.model_cred.specs.IdMap.{Extent}
use Rattle.model_cred.specs.MapFault.{is_map}
use Rattle.model_cred.specs.Process.{Process, State, insert_process, is_pid}
use Rattle.model_cred.specs.Space.{Space, Spaces, put_space, space_of, no_space}
use Rattle.model_cred.specs.World.{World}
use Rattle.model_rules.specs.Caps.{cap_sys_admin}
use Rattle.model_rules.specs.Maps.{MapFile, UidMap, GidMap, Written, with_map, parent_map, list_down, may_write, may_map, setfcap_allows}
use Rattle.model_rules.specs.Maps.{may_say, write_done, write_refused, write_stored, write_map}
use Rattle.model_rules.specs.Namespaces.{unshare, clone_user}
use Rattle.model_rules.specs.Power.{has_over}
use Rattle.model_rules.specs.Reply.{spaces_with, spaces_after}
use Rattle.model_run.specs.Ruling.{Ruling, ruling, permitted_ruling, birth, birth_unless, fork_child, clone_child}
use Rattle.model_run.specs.Step.{Step, Run, told_child}
use Rattle.model_laws.proofs.StepParts.{Stepped, Answers, stepped, by_filter}
use Rattle.model_box.proofs.Writing.{choose}
use Rattle.model_verdict.specs.Back.{TakesBack, TakeBack, RunsKeepTakingBack}
use Rattle.model_verdict.proofs.Decided.{all_spaces, no_outside}
use Rattle.model_verdict.proofs.MapsBack.{stored_back}

-- ---- spaces
-- what holds of all spaces holds with another of which it holds
all_put : (P : Space → Type 0) (n : ℕ) (new : Space) (spaces : Spaces) → P new → All P spaces → All P (put_space n new spaces)
all_put P n new [] is all = all
all_put P n new (s ∷ older) is all =
    choose (λ (after : Spaces). All P after) (n == _) (new ∷ older) (s ∷ put_space n new older)
    (λ here. All-cons P new older is (All-tail P s older all))
    (λ later. All-cons P s (put_space n new older) (All-head P s older all) (all_put P n new older is (All-tail P s older all)))

unwritten : TakeBack no_space
unwritten = record { uids = no_outside; gids = no_outside }

of_space : (spaces : Spaces) (n : ℕ) → All TakeBack spaces → TakeBack (space_of spaces n)
of_space spaces n all = all_spaces TakeBack spaces n unwritten all

-- a space with a map written that takes its ids back
with_one : (file : MapFile) (s : Space) (map : List Extent) → TakeBack s → TakesBack map → TakeBack (with_map file s map)
with_one UidMap s map old new = record { uids = new; gids = old.gids }
with_one GidMap s map old new = record { uids = old.uids; gids = new }

written_stays : (file : MapFile) (spaces : Spaces) (at : ℕ) (c : Credential) (t : ℕ) (list : List Extent) → All TakeBack spaces
    → All TakeBack (write_map file spaces at c t list).spaces
written_stays file spaces at c t list all =
    choose (λ (w : Written). All TakeBack w.spaces) (not (may_write file spaces at c t)) (write_refused EPERM spaces)
    (if not (is_map list) then write_refused EINVAL spaces else write_stored file spaces at c t list stored)
    (λ _. all)
    (λ _. choose (λ (w : Written). All TakeBack w.spaces) (not (is_map list)) (write_refused EINVAL spaces)
    (write_stored file spaces at c t list stored)
    (λ _. all)
    (λ is. by stored refl (not-false (is_map list) is))) where
      stored : Option (List Extent)
      stored = list_down (parent_map file spaces (space_of spaces t)) list

      by : (o : Option (List Extent)) → list_down (parent_map file spaces (space_of spaces t)) list ≡ o → IsTrue (is_map list)
          → All TakeBack (write_stored file spaces at c t list o).spaces
      by None down is = all
      by (Some mapped) down is =
          choose (λ (w : Written). All TakeBack w.spaces)
          (setfcap_allows file spaces at c (space_of spaces t) list && may_map file spaces at c (space_of spaces t) mapped)
          (write_done spaces t (with_map file (space_of spaces t) mapped)) (write_refused EPERM spaces)
          (λ _. all_put TakeBack t (with_map file (space_of spaces t) mapped) spaces
          (with_one file (space_of spaces t) mapped (of_space spaces t all) (stored_back _ list mapped is down)) all)
          (λ _. all)

made_stays : (res : Res) (spaces : Spaces) (at : ℕ) (c : Credential) → All TakeBack spaces → All TakeBack (spaces_with res spaces at c)
made_stays Done spaces at c all = All-cons TakeBack _ spaces (record { uids = no_outside; gids = no_outside }) all
made_stays _ spaces at c all = all

after_stays : (spaces : Spaces) (at : ℕ) (c : Credential) (call : Call) → All TakeBack spaces → All TakeBack (spaces_after spaces at c call)
after_stays spaces at c CloneUser all = made_stays (clone_user spaces at c) spaces at c all
after_stays spaces at c Unshare all = made_stays (unshare spaces at c).res spaces at c all
after_stays spaces at c (WriteUidMap t list) all = written_stays UidMap spaces at c t list all
after_stays spaces at c (WriteGidMap t list) all = written_stays GidMap spaces at c t list all
after_stays spaces at c (WriteSetgroups t deny) all =
    choose (λ (w : Written). All TakeBack w.spaces) (has_over spaces at c cap_sys_admin t && may_say (space_of spaces t) deny)
    (write_done spaces t (record (space_of spaces t) { deny = deny })) (write_refused EPERM spaces)
    (λ _. let old : TakeBack (space_of spaces t) = of_space spaces t all in
    all_put TakeBack t (record (space_of spaces t) { deny = deny }) spaces (record { uids = old.uids; gids = old.gids }) all)
    (λ _. all)
after_stays spaces at c _ all = all

-- ---- steps and runs
birth_stays : (s : State) (child : Process) (after : Spaces) → All TakeBack s.spaces → All TakeBack after → All TakeBack (birth s child after).state.spaces
birth_stays s child after all new =
    choose (λ (r : Ruling). All TakeBack r.state.spaces) (is_pid child.pid)
    (record { res = Child child.pid; state = record { processes = insert_process child s.processes; spaces = after } })
    (record { res = Err EAGAIN; state = s }) (λ _. new) (λ _. all)

unless_stays : (res : Res) (s : State) (child : Process) (after : Spaces) → All TakeBack s.spaces → All TakeBack after
    → All TakeBack (birth_unless res s child after).state.spaces
unless_stays (Err e) s child after all new = all
unless_stays _ s child after all new = birth_stays s child after all new

permitted_stays : (w : World) (s : State) (p : Process) (call : Call) (pid : ℕ) → All TakeBack s.spaces
    → All TakeBack (permitted_ruling w s p call pid).state.spaces
permitted_stays w s p Fork pid all = birth_stays s (fork_child p pid) s.spaces all all
permitted_stays w s p CloneUser pid all =
    unless_stays (clone_user s.spaces p.space p.cred) s (clone_child s.spaces p pid) (spaces_after s.spaces p.space p.cred CloneUser) all
    (after_stays s.spaces p.space p.cred CloneUser all)
permitted_stays w s p Exit pid all = all
permitted_stays w s p call pid all = after_stays s.spaces p.space p.cred call all

ruled_stays : (w : World) (s : State) (p : Process) (call : Call) (pid : ℕ) → All TakeBack s.spaces → All TakeBack (ruling w s p call pid).state.spaces
ruled_stays w s p call pid all = by_filter (λ r. All TakeBack r.state.spaces) w s p call pid all (permitted_stays w s p call pid all)

answers_stay : (w : World) (s : State) (e : Event) (later : State) (p : Process) → All TakeBack s.spaces → Answers w s p e.call e.res later
    → All TakeBack later.spaces
answers_stay w s e later p all (inl same) = subst (λ (x : State). All TakeBack x.spaces) (sym same.state) all
answers_stay w s e later p all (inr rules) =
    subst (λ (x : State). All TakeBack x.spaces) (sym rules.state) (ruled_stays w s p e.call (told_child e.res) all)

step_stays : (w : World) (s : State) (e : Event) (later : State) → Step w s e later → All TakeBack s.spaces → All TakeBack later.spaces
step_stays w s e later step all =
    let parts : Stepped w s e later = stepped w s e later step in answers_stay w s e later parts.caller all parts.answers

run_stays : (w : World) (s : State) (es : List Event) (later : State) → Run w s es later → All TakeBack s.spaces → All TakeBack later.spaces
run_stays w s [] later same all = subst (λ (x : State). All TakeBack x.spaces) (sym same) all
run_stays w s (e ∷ es) later (mid, step, rest) all = run_stays w mid es later rest (step_stays w s e mid step all)

pub runs_keep_taking_back : RunsKeepTakingBack
unfolding RunsKeepTakingBack
runs_keep_taking_back w s events later run all = run_stays w s events later run all
