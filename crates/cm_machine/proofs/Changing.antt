-- A process that is changed at its place, and one that comes to the others.
use Rattle.std.proofs.Common.{Result, Ok, Err, ◌≡◌, ℕ, zero, suc, ◌<◌, ◌≤◌, length, List, [], ◌∷◌, Some, refl, sym, ◌∙◌}
use Rattle.std.proofs.Common.{ap, arith, subst, get_or, slice_get, slice_set}
use Rattle.std.specs.Prelude.{All, IfOk, OnErr}
use Rattle.std.proofs.lemmas.List.{set-get_or}
use Rattle.std.proofs.lemmas.List.Elements.{All-set, All-get_or}
use Rattle.std.proofs.lemmas.Option.{slice_get-get_or}
use Rattle.cm_base.specs.Outcome.{OrNoMemory, UnchangedOnErr}
use Rattle.cm_base.specs.declared.memory.NoMemory.{NoMemory}
use Rattle.cm_machine.specs.Asking.{OfCaller, entered, inside, undone, undone_cred}
use Rattle.cm_machine.specs.declared.change.Change.{Change}
use Rattle.cm_machine.specs.declared.change.Change.TheVariants as change
use Rattle.cm_state.proofs.Places.{pid_of_at, get_of_at, put_ascends, put_at}
use Rattle.model_cred.proofs.Orders.{all_insert}
use Rattle.model_cred.specs.Credential.{Credential}
use Rattle.model_cred.specs.Process.{Process, State, Ascends, insert_process, put_process}
use Rattle.model_cred.specs.Space.{Space, Spaces}
use Rattle.model_rules.specs.Namespaces.{created_by}
use Rattle.model_run.specs.Ruling.{with_cred}

-- all are in spaces that stand
abbrev pub AllStand : ℕ → List Process → Type 0
AllStand n ps = All (λ p. p.space < n) ps

-- where more spaces stand, they still are
pub stand_on : (ps : List Process) (n m : ℕ) → n ≤ m → AllStand n ps → AllStand m ps
stand_on ps n m le stand = λ k d h. let there = stand k d h in omega arith

-- with another process of its pid at one place, in a space that stands, the processes keep what a state keeps
pub put_keeps : (ps : List Process) (at n : ℕ) (old new : Process) → Ascends ps → AllStand n ps → at < length ps → old ≡ get_or ps at old
    → new.pid ≡ old.pid → new.space < n → Ascends (slice_set ps at new) × AllStand n (slice_set ps at new)
put_keeps ps at n old new up stand h is named there = (
  put_ascends ps at new up h (named ∙ sym (pid_of_at ps at old h is)),
  All-set (λ p. p.space < n) ps at new there stand,
)

-- the space of the process at a place stands
pub stands_at : (ps : List Process) (at n : ℕ) (old : Process) → AllStand n ps → at < length ps → old ≡ get_or ps at old → old.space < n
stands_at ps at n old stand h is = subst (λ (p : Process). p.space < n) (sym is) (All-get_or (λ p. p.space < n) ps at old h stand)

-- the process that stands there
pub same_there : (ps : List Process) (at : ℕ) (old p : Process) → at < length ps → old ≡ get_or ps at old → slice_get ps at ≡ Some p → old ≡ p
same_there ps at old p h is there = let here : Some old ≡ Some p = sym (get_of_at ps at old h is) ∙ there in cc

-- another process of its pid in its place
pub new_put : (ps : List Process) (at : ℕ) (old new : Process) → Ascends ps → at < length ps → old ≡ get_or ps at old → new.pid ≡ old.pid
    → slice_set ps at new ≡ put_process new ps
new_put ps at old new up h is named = sym (put_at ps at new up h (named ∙ sym (pid_of_at ps at old h is)))

-- with another credential of the process at a place
pub cred_put : (s : State) (at : ℕ) (old : Process) (c : Credential) → Ascends s.processes → at < length s.processes → old ≡ get_or s.processes at old
    → record s { processes = slice_set s.processes at (record old { cred = c }) } ≡ with_cred s old c
cred_put s at old c up h is = ap (λ (ps : List Process). record s { processes = ps }) (new_put s.processes at old (record old { cred = c }) up h is refl)

-- with the credential that it has the state is as it was
pub same_put : (s : State) (at : ℕ) (old : Process) → Ascends s.processes → at < length s.processes → old ≡ get_or s.processes at old
    → with_cred s old old.cred ≡ s
same_put s at old up h is =
    ap (λ (ps : List Process). record s { processes = ps })
    (put_at s.processes at old up h (sym (pid_of_at s.processes at old h is)) ∙ ap (slice_set s.processes at) is ∙ set-get_or s.processes at old)

-- what is undone of the process at a place
pub undone_is : (change : Change) (fields : Credential) (s : State) (at : ℕ) (old : Process) → Ascends s.processes → at < length s.processes
    → old ≡ get_or s.processes at old → undone change fields old s ≡ with_cred s old (undone_cred change fields old.cred)
undone_is change.Fields fields s at old up h is = refl
undone_is (change.Groups ids) fields s at old up h is = refl
undone_is _ fields s at old up h is = sym (same_put s at old up h is)

-- the process that was put there
pub get_put : (ps : List Process) (at : ℕ) (new : Process) → at < length ps → slice_get (slice_set ps at new) at ≡ Some new
get_put [] at new h = absurd (omega arith)
get_put (p ∷ ps) zero new h = refl
get_put (p ∷ ps) (suc at) new h = get_put ps at new (omega arith)

-- with the process that stood there put back they are as before
pub put_back : (ps : List Process) (at : ℕ) (new p : Process) → slice_get ps at ≡ Some p → slice_set (slice_set ps at new) at p ≡ ps
put_back [] at new p is = absurd (cc)
put_back (q ∷ ps) zero new p is = let it : q ≡ p = cc in ap (λ (r : Process). r ∷ ps) (sym it)
put_back (q ∷ ps) (suc at) new p is = ap (λ (l : List Process). q ∷ l) (put_back ps at new p is)

-- with one more process, or with the same where memory runs out, they are in spaces that stand
pub insert_keeps : {T E : Type 0} (r : Result T E) (ps after : List Process) (n : ℕ) (child : Process) → AllStand n ps → child.space < n
    → IfOk r (λ _. after ≡ insert_process child ps) → OnErr r (after ≡ ps) → AllStand n after
insert_keeps (Ok _) ps after n child stand there made same =
    subst (AllStand n) (sym made) (all_insert (λ p. p.space < n) child ps there stand)
insert_keeps (Err why) ps after n child stand there made same = subst (AllStand n) (sym same) stand

-- some process stands at a place, and in a space that stands
pub there_at : (ps : List Process) (at n : ℕ) → at < length ps → AllStand n ps → (p : Process) × (slice_get ps at ≡ Some p) × (p.space < n)
there_at [] at n h stand = absurd (omega arith)
there_at (p ∷ ps) at n h stand =
    (get_or (p ∷ ps) at p, slice_get-get_or (p ∷ ps) at p h, All-get_or (λ q. q.space < n) (p ∷ ps) at p h stand)

-- some process stands at a place
pub some_at : (ps : List Process) (at : ℕ) → at < length ps → (p : Process) × (slice_get ps at ≡ Some p)
some_at [] at h = absurd (omega arith)
some_at (p ∷ ps) at h = (get_or (p ∷ ps) at p, slice_get-get_or (p ∷ ps) at p h)

-- where a process made a space and came into it, or stayed where memory ran out, the processes keep what a state keeps
pub enter_keeps : {T : Type 0} (r : Result T NoMemory) (ps : List Process) (at : ℕ) (old new : Process) (spaces after : Spaces) (made : Space)
    → Ascends ps → AllStand (length spaces) ps → at < length ps → old ≡ get_or ps at old → OrNoMemory r (λ _. new ≡ inside old (length spaces))
    → OrNoMemory r (λ _. after ≡ made ∷ spaces) → UnchangedOnErr r new old → UnchangedOnErr r after spaces
    → Ascends (slice_set ps at new) × AllStand (length after) (slice_set ps at new)
enter_keeps (Ok _) ps at old new spaces after made up stand h is came grew still as_many =
    let more : length after ≡ suc (length spaces) = ap length grew in
    let place : new.space ≡ length spaces = ap (λ (p : Process). p.space) came in
    put_keeps ps at (length after) old new up (stand_on ps (length spaces) (length after) (omega arith) stand) h is
    (ap (λ (p : Process). p.pid) came) (omega arith)
enter_keeps (Err why) ps at old new spaces after made up stand h is came grew still as_many =
    let count : length after ≡ length spaces = ap length as_many in
    let place : new.space ≡ old.space = ap (λ (p : Process). p.space) still in
    put_keeps ps at (length after) old new up (rw count stand) h is (ap (λ (p : Process). p.pid) still)
    (rw (place, count) (stands_at ps at (length spaces) old stand h is))

-- where one more process is in the newest space, or neither is where memory runs out, they are in spaces that stand
pub both_keep : {T : Type 0} (r : Result T NoMemory) (ps after : List Process) (child : Process) (spaces more : Spaces) (made : Space)
    → AllStand (length spaces) ps → child.space ≡ length spaces → OrNoMemory r (λ _. after ≡ insert_process child ps)
    → OrNoMemory r (λ _. more ≡ made ∷ spaces) → UnchangedOnErr r after ps → UnchangedOnErr r more spaces → AllStand (length more) after
both_keep (Ok _) ps after child spaces more made stand place came grew still as_many =
    let count : length more ≡ suc (length spaces) = ap length grew in
    subst (AllStand (length more)) (sym came)
    (all_insert (λ p. p.space < length more) child ps (omega arith) (stand_on ps (length spaces) (length more) (omega arith) stand))
both_keep (Err why) ps after child spaces more made stand place came grew still as_many =
    rw (ap length as_many) (subst (AllStand (length spaces)) (sym still) stand)

-- who made a space and came into it has entered
pub entered_is : {T : Type 0} (r : Result T NoMemory) (before : State) (at : ℕ) (old new : Process) (after : Spaces) → Ascends before.processes
    → at < length before.processes → old ≡ get_or before.processes at old → OrNoMemory r (λ _. new ≡ inside old (length before.spaces))
    → OrNoMemory r (λ _. after ≡ created_by before.spaces old.space old.cred ∷ before.spaces)
    → OrNoMemory r (λ _. OfCaller before at (λ p. record { processes = slice_set before.processes at new; spaces = after } ≡ entered before p))
entered_is (Ok _) before at old new after up h is came made = λ p there.
    subst (λ (q : Process). record { processes = slice_set before.processes at new; spaces = after } ≡ entered before q)
    (same_there before.processes at old p h is there)
    (ap (λ (ss : Spaces). record { processes = slice_set before.processes at new; spaces = ss }) made
    ∙ ap (λ (ps : List Process). record { processes = ps; spaces = created_by before.spaces old.space old.cred ∷ before.spaces })
    (new_put before.processes at old new up h is (ap (λ (p : Process). p.pid) came) ∙ ap (λ (q : Process). put_process q before.processes) came))
entered_is (Err why) before at old new after up h is came made = tt
