-- Of the processes whose pids are noted as bare none has a descriptor that is followed.
use Rattle.std.proofs.Common.{◌≡◌, ◌≢◌, ℕ, ◌==◌, Bool, true, false, true≢false, not, List, [], ◌∷◌, filter}
use Rattle.std.proofs.Common.{refl, sym, ◌∙◌, ap, arith}
use Rattle.std.specs.List.{list_any}
use Rattle.cm_strace_parts.proofs.Counts.{others_of}
use Rattle.cm_strace_parts.specs.Slots.{NotesBare, notes}
use Rattle.model_strace.specs.Parts.{Descriptor, Parts, is_descriptor, is_closed_at_exec, is_of}

-- ---- what is among the descriptors
-- whether one is a process's doesn't depend on those of another one
any_other : (q pid : ℕ) (ds : List Descriptor) → q ≢ pid
    → list_any (is_of q) (others_of pid ds) ≡ list_any (is_of q) ds
any_other q pid [] apart = refl
any_other q pid (d ∷ ds) apart = let rest = any_other q pid ds apart in grind (arith, rest, apart)

-- a process has none still where those of another one alone have changed
none_then : (q pid : ℕ) (es ds : List Descriptor) → q ≢ pid → others_of pid es ≡ others_of pid ds
    → list_any (is_of q) ds ≡ false → list_any (is_of q) es ≡ false
none_then q pid es ds apart stay none =
    sym (any_other q pid es apart) ∙ ap (list_any (is_of q)) stay ∙ any_other q pid ds apart ∙ none

-- none is among those that a filter leaves, where none was before
none_left : {A : Type 0} (same keeps : A → Bool) (xs : List A) → list_any same xs ≡ false
    → list_any same (filter keeps xs) ≡ false
none_left same keeps [] none = refl
none_left same keeps (x ∷ xs) none = let rest = none_left same keeps xs in grind (arith, rest, none)

-- a filter that takes only what none is leaves all
all_left : {A : Type 0} (same keeps : A → Bool) → ((x : A) → same x ≡ false → keeps x ≡ true) → (xs : List A)
    → list_any same xs ≡ false → filter keeps xs ≡ xs
all_left same keeps others [] none = refl
all_left same keeps others (x ∷ xs) none =
    let rest = all_left same keeps others xs in
    let here = others x in
    grind (arith, rest, here, none)

-- a process without descriptors has none to forget
pub none_forgotten : {slots : List ℕ} {ds : List Descriptor} (pid number : ℕ) → NotesBare slots ds
    → notes slots pid ≡ true → filter (λ d. not (is_descriptor pid number d)) ds ≡ ds
none_forgotten {ds = ds} pid number noted is =
    all_left (is_of pid) (λ d. not (is_descriptor pid number d)) (λ d h. grind (arith, h)) ds (noted.bare pid is)

-- nor does an execve close one
pub none_closed : {slots : List ℕ} {ds : List Descriptor} (pid : ℕ) → NotesBare slots ds → notes slots pid ≡ true
    → filter (λ d. not (is_closed_at_exec pid d)) ds ≡ ds
none_closed {ds = ds} pid noted is =
    all_left (is_of pid) (λ d. not (is_closed_at_exec pid d)) (λ d h. grind (arith, h)) ds (noted.bare pid is)

-- what is known is the same where its descriptors are
pub same_parts : (p : Parts) (ds : List Descriptor) → ds ≡ p.descriptors → p ≡ record p { descriptors = ds }
same_parts p ds same = ap (λ (ds : List Descriptor). record p { descriptors = ds }) (sym same)

-- ---- what is noted
-- of no descriptors none is a process's
pub empty_bare : (slots : List ℕ) → NotesBare slots []
empty_bare slots = record { bare = λ q is. refl }

-- where no pid is noted
pub cleared_bare : {slots : List ℕ} {ds : List Descriptor} → ((q : ℕ) → notes slots q ≡ false) → NotesBare slots ds
cleared_bare none = record { bare = λ q is. absurd (true≢false (sym is ∙ none q)) }

-- after a filter
pub filtered_bare : {slots : List ℕ} {ds : List Descriptor} (keeps : Descriptor → Bool) → NotesBare slots ds
    → NotesBare slots (filter keeps ds)
filtered_bare {ds = ds} keeps noted = record { bare = λ q is. none_left (is_of q) keeps ds (noted.bare q is) }

-- after a change of the descriptors of one process, which is noted then if it has none
changed_bare : {old new : List ℕ} {ds es : List Descriptor} (pid : ℕ)
    → (notes new pid ≡ true → list_any (is_of pid) es ≡ false)
    → ((q : ℕ) → q ≢ pid → notes new q ≡ true → notes old q ≡ true) → others_of pid es ≡ others_of pid ds
    → NotesBare old ds → NotesBare new es
changed_bare {new = new} {ds = ds} {es = es} pid own others stay noted = record {
  bare = λ q is. (elim (q == pid) as (λ b. (q == pid) ≡ b → list_any (is_of q) es ≡ false) [
    | true ↦ λ same.
        let here : q ≡ pid = grind (arith, same) in
        rw here (own (ap (notes new) (sym here) ∙ is))
    | false ↦ λ differs.
        let apart : q ≢ pid = λ same. grind (arith, differs, same) in
        none_then q pid es ds apart stay (noted.bare q (others q apart is))
  ]) refl;
}

-- the same where it isn't noted
pub followed_bare : {old new : List ℕ} {ds es : List Descriptor} (pid : ℕ) → notes new pid ≡ false
    → ((q : ℕ) → q ≢ pid → notes new q ≡ notes old q) → others_of pid es ≡ others_of pid ds → NotesBare old ds
    → NotesBare new es
followed_bare pid gone others stay noted =
    changed_bare pid (λ is. absurd (true≢false (sym is ∙ gone))) (λ q apart is. sym (others q apart) ∙ is) stay noted

opposite : (is isnt : Bool) → is ≡ not isnt → is ≡ true → isnt ≡ false
opposite is isnt apart told = grind (arith, apart, told)

-- the same where it is noted if it has none
pub asked_bare : {old new : List ℕ} {ds es : List Descriptor} (pid : ℕ) (any : Bool) → notes new pid ≡ not any
    → any ≡ list_any (is_of pid) es → ((q : ℕ) → q ≢ pid → notes new q ≡ true → notes old q ≡ true)
    → others_of pid es ≡ others_of pid ds → NotesBare old ds → NotesBare new es
asked_bare {new = new} pid any own is others stay noted =
    changed_bare pid (λ told. sym is ∙ opposite (notes new pid) any own told) others stay noted
