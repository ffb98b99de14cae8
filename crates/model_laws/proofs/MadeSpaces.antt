-- A step makes the user namespace that its event tells of, and no other.
use Rattle.std.proofs.Common.{◌≡◌, ◌≤◌, ℕ, ◌+◌, Bool, true, false, not, List, [], ◌∷◌, length, Option, None, Some, if◌then◌else◌, refl, sym, ap, ◌∙◌, inl, inr, arith}
use Rattle.cm_base.specs.Limited.{limit_number}
use Rattle.cm_base.specs.declared.limited.Limited.TheVariants as limit
use Rattle.cm_base.specs.declared.errno.Errno.{Errno}
use Rattle.cm_base.specs.declared.errno.Errno.TheVariants.{EAGAIN, EINVAL, EPERM}
use Rattle.cm_base.specs.declared.res.Res.{Res}
use Rattle.cm_base.specs.declared.res.Res.TheVariants.{Child, Err}
use Rattle.model_cred.proofs.Spaces.{length_put}
use Rattle.model_cred.specs.Call.{Call, Event, Fork, CloneUser, Unshare, WriteUidMap, WriteGidMap, WriteSetgroups}
use Rattle.model_cred.specs.Credential.{Credential}
use Rattle.model_cred.specs.IdMap.{Extent}
use Rattle.model_cred.specs.MapFault.{is_map}
use Rattle.model_cred.specs.Made.{spaces_made}
use Rattle.model_cred.specs.Process.{Process, State, is_pid, insert_process}
use Rattle.model_cred.specs.Space.{Spaces, space_of}
use Rattle.model_cred.specs.World.{World}
use Rattle.model_laws.proofs.Keeping.{IsPlain, clone_plain}
use Rattle.model_laws.proofs.StepParts.{Stepped, Answers, stepped, by_filter}
use Rattle.model_laws.specs.Steps.{StepsMakeSpaces}
use Rattle.model_rules.specs.Maps.{MapFile, UidMap, GidMap, Written, write_done, write_refused, write_map, write_stored, with_map, write_setgroups}
use Rattle.model_rules.specs.Maps.{parent_map, list_down, may_write}
use Rattle.model_rules.specs.Namespaces.{clone_user, unshare}
use Rattle.model_rules.specs.Reply.{spaces_with}
use Rattle.model_run.specs.Outside.{comes_from_outside}
use Rattle.model_run.specs.Ruling.{Ruling, ruling, permitted_ruling, birth_unless, clone_child, fork_child}
use Rattle.model_run.specs.Step.{told_child}
use Rattle.model_run.specs.Within.{IsWithin}

-- how many an event of that call with that result makes
abbrev made : Call → Res → ℕ
made call r = spaces_made (record { pid = 0; call = call; res = r } ∷ [])

-- ---- writes
either : (count : ℕ) (b : Bool) (x y : Written) → length x.spaces ≡ count → length y.spaces ≡ count → length (if b then x else y).spaces ≡ count
either count true x y first second = first
either count false x y first second = second

stored_count : (file : MapFile) (spaces : Spaces) (at : ℕ) (c : Credential) (target : ℕ) (given : List Extent) (o : Option (List Extent))
    → length (write_stored file spaces at c target given o).spaces ≡ length spaces
stored_count file spaces at c target given None = refl
stored_count file spaces at c target given (Some stored) =
    either (length spaces) _ (write_done spaces target (with_map file (space_of spaces target) stored)) (write_refused EPERM spaces)
    (length_put target (with_map file (space_of spaces target) stored) spaces) refl

map_count : (file : MapFile) (spaces : Spaces) (at : ℕ) (c : Credential) (target : ℕ) (given : List Extent)
    → length (write_map file spaces at c target given).spaces ≡ length spaces
map_count file spaces at c target given =
    let stored : Written = write_stored file spaces at c target given (list_down (parent_map file spaces (space_of spaces target)) given) in
    let checked : Written = if not (is_map given) then write_refused EINVAL spaces else stored in
    let count : length stored.spaces ≡ length spaces =
    stored_count file spaces at c target given (list_down (parent_map file spaces (space_of spaces target)) given) in
    either (length spaces) (not (may_write file spaces at c target)) (write_refused EPERM spaces) checked refl
    (either (length spaces) (not (is_map given)) (write_refused EINVAL spaces) stored refl count)

word_count : (spaces : Spaces) (at : ℕ) (c : Credential) (target : ℕ) (deny : Bool)
    → length (write_setgroups spaces at c target deny).spaces ≡ length spaces
word_count spaces at c target deny =
    either (length spaces) _ (write_done spaces target (record (space_of spaces target) { deny = deny })) (write_refused EPERM spaces)
    (length_put target (record (space_of spaces target) { deny = deny }) spaces) refl

-- ---- births
-- so many spaces stand after what the rules give, as stood and as the call with its result makes
abbrev Makes : State → Call → Ruling → Type 0
Makes s call r = length r.state.spaces ≡ length s.spaces + made call r.res

fork_makes : (s : State) (child : Process) (b : Bool)
    → Makes s Fork (if b then record { res = Child child.pid; state = record { processes = insert_process child s.processes; spaces = s.spaces } }
    else record { res = Err EAGAIN; state = s })
fork_makes s child true = omega arith
fork_makes s child false = omega arith

clone_makes : (r : Res) (s : State) (p : Process) (n : ℕ) → IsPlain r
    → Makes s CloneUser (birth_unless r s (clone_child s.spaces p n) (spaces_with r s.spaces p.space p.cred))
clone_makes r s p n plain = grind arith

-- ---- calls
unshared : (r : Res) (spaces : Spaces) (at : ℕ) (c : Credential) → length (spaces_with r spaces at c) ≡ length spaces + made Unshare r
unshared r spaces at c = grind arith

permitted_makes : (w : World) (s : State) (p : Process) (call : Call) (n : ℕ) → Makes s call (permitted_ruling w s p call n)
permitted_makes w s p Fork n = fork_makes s (fork_child p n) (is_pid n)
permitted_makes w s p CloneUser n = clone_makes (clone_user s.spaces p.space p.cred) s p n (clone_plain s.spaces p.space p.cred)
permitted_makes w s p Unshare n = unshared (unshare s.spaces p.space p.cred).res s.spaces p.space p.cred
permitted_makes w s p (WriteUidMap target given) n = let same = map_count UidMap s.spaces p.space p.cred target given in omega (arith, same)
permitted_makes w s p (WriteGidMap target given) n = let same = map_count GidMap s.spaces p.space p.cred target given in omega (arith, same)
permitted_makes w s p (WriteSetgroups target deny) n = let same = word_count s.spaces p.space p.cred target deny in omega (arith, same)
permitted_makes w s p call n = omega arith

-- ---- steps
-- an error makes none
error_makes : (call : Call) (e : Errno) → made call (Err e) ≡ 0
error_makes CloneUser e = refl
error_makes Unshare e = refl
error_makes call e = refl

ruling_makes : (w : World) (s : State) (p : Process) (call : Call) (n : ℕ) → Makes s call (ruling w s p call n)
ruling_makes w s p call n =
    by_filter (Makes s call) w s p call n (let none = error_makes call EPERM in omega (arith, none)) (permitted_makes w s p call n)

-- an error from outside makes none
outside_makes : (call : Call) (r : Res) → comes_from_outside call r ≡ true → made call r ≡ 0
outside_makes call r is = grind arith

answers_make : (w : World) (s : State) (p : Process) (e : Event) (s' : State) → Answers w s p e.call e.res s'
    → length s'.spaces ≡ length s.spaces + made e.call e.res
answers_make w s p e s' (inl same) =
    let none : made e.call e.res ≡ 0 = outside_makes e.call e.res same.outside in
    let spaces = ap (λ (t : State). length t.spaces) same.state in
    omega (arith, none, spaces)
answers_make w s p e s' (inr rules) =
    ap (λ (t : State). length t.spaces) rules.state
    ∙ ruling_makes w s p e.call (told_child e.res)
    ∙ sym (ap (λ (r : Res). length s.spaces + made e.call r) rules.result)

pub steps_make_spaces : StepsMakeSpaces
unfolding StepsMakeSpaces
steps_make_spaces w s e s' step =
    let st : Stepped w s e s' = stepped w s e s' step in answers_make w s st.caller e s' st.answers

-- ---- within the limits
-- a state within the limits has no more user namespaces than it may
pub within_few : (s : State) → IsWithin s → length s.spaces ≤ limit_number limit.Spaces
within_few s within = grind (arith, within)
