-- The pids that are noted stay those of processes.
use Rattle.std.proofs.Common.{◌≡◌, ◌≢◌, ℕ, zero, suc, ◌<◌, ◌==◌, Bool, true, false, true≢false, not, cond}
use Rattle.std.proofs.Common.{is_some, filter, find, map, length, get_or, List, [], ◌∷◌, Option, Some, None}
use Rattle.std.proofs.Common.{refl, sym, ◌∙◌, ap, arith}
use Rattle.std.specs.Prelude.{option_map}
use Rattle.std.proofs.lemmas.Bool.{cond-true, cond-false}
use Rattle.cm_strace_parts.specs.Slots.{notes, NotesKnown}
use Rattle.cm_ordered.proofs.Among.{find_changed}
use Rattle.cm_ordered.specs.Order.{put_by}
use Rattle.cm_strace_parts.proofs.Among.{put_same}
use Rattle.model_strace.specs.Parts.{Task, is_task, task_before, put}

-- ---- what is found
-- one of the things is so
abbrev finds : {A : Type 0} → (A → Bool) → List A → Type 0
finds same xs = is_some (find same xs) ≡ true

-- the first one is so
found_first : {A : Type 0} (same : A → Bool) (x : A) (xs : List A) → same x ≡ true → finds same (x ∷ xs)
found_first same x xs is = ap is_some (cond-true (same x) (Some x) (find same xs) is)

-- one after the first is so
found_after : {A : Type 0} (same : A → Bool) (x : A) (xs : List A) → finds same xs → finds same (x ∷ xs)
found_after same x xs is = elim (same x) as (λ b. is_some (cond b (Some x) (find same xs)) ≡ true) [
  | true ↦ refl
  | false ↦ is
]

-- if the first one isn't, one after it is
found_but : {A : Type 0} (same : A → Bool) (x : A) (xs : List A) → same x ≡ false → finds same (x ∷ xs) → finds same xs
found_but same x xs isnt is = sym (ap is_some (cond-false (same x) (Some x) (find same xs) isnt)) ∙ is

-- the same first thing stands before other ones
found_behind : {A : Type 0} (same : A → Bool) (x : A) (xs ys : List A) → (finds same xs → finds same ys)
    → finds same (x ∷ xs) → finds same (x ∷ ys)
found_behind same x xs ys behind = elim (same x) as (λ b. is_some (cond b (Some x) (find same xs)) ≡ true
    → is_some (cond b (Some x) (find same ys)) ≡ true) [
      | true ↦ λ is. is
      | false ↦ behind
    ]

-- what is put is found
pub found_put : {A : Type 0} (same : A → Bool) (before : A → A → Bool) (new : A) (xs : List A) → same new ≡ true
    → finds same (put before new xs)
found_put same before new [] is = found_first same new [] is
found_put same before new (x ∷ xs) is =
    elim (before new x) as (λ b. finds same (cond b (new ∷ x ∷ xs) (cond (before x new) (x ∷ put before new xs)
    (new ∷ xs)))) [
      | true ↦ found_first same new (x ∷ xs) is
      | false ↦ elim (before x new) as (λ b. finds same (cond b (x ∷ put before new xs) (new ∷ xs))) [
        | true ↦ found_after same x (put before new xs) (found_put same before new xs is)
        | false ↦ found_first same new xs is
      ]
    ]

-- what was found is found once another thing is put that comes before or after it
pub found_still : {A : Type 0} (same : A → Bool) (before : A → A → Bool) (new : A) (xs : List A)
    → ((x : A) → before new x ≡ false → before x new ≡ false → same x ≡ false) → finds same xs
    → finds same (put before new xs)
found_still same before new [] apart is = absurd (cc)
found_still same before new (x ∷ xs) apart is =
    (elim (before new x) as (λ b. before new x ≡ b → finds same (cond b (new ∷ x ∷ xs) (cond (before x new)
    (x ∷ put before new xs) (new ∷ xs)))) [
      | true ↦ λ first. found_after same new (x ∷ xs) is
      | false ↦ λ later. (elim (before x new) as (λ b. before x new ≡ b
          → finds same (cond b (x ∷ put before new xs) (new ∷ xs))) [
            | true ↦ λ lower. found_behind same x xs (put before new xs) (found_still same before new xs apart) is
            | false ↦ λ equal. found_after same new xs (found_but same x xs (apart x later equal) is)
          ]) refl
    ]) refl

-- what was found is found among those that a filter leaves, if it leaves what is so
pub found_left : {A : Type 0} (same keeps : A → Bool) (xs : List A) → ((x : A) → keeps x ≡ false → same x ≡ false)
    → finds same xs → finds same (filter keeps xs)
found_left same keeps [] leaves is = is
found_left same keeps (x ∷ xs) leaves is =
    (elim (keeps x) as (λ b. keeps x ≡ b → finds same (cond b (x ∷ filter keeps xs) (filter keeps xs))) [
      | true ↦ λ kept. found_behind same x xs (filter keeps xs) (found_left same keeps xs leaves) is
      | false ↦ λ gone. found_left same keeps xs leaves (found_but same x xs (leaves x gone) is)
    ]) refl

some_changed : {A B : Type 0} (change : A → B) (x : Option A) → is_some (option_map change x) ≡ is_some x
some_changed change (Some x) = refl
some_changed change None = refl

-- what was found is found among changed things, if the change leaves what is so
pub found_changed : {A : Type 0} (same : A → Bool) (change : A → A) (xs : List A)
    → ((x : A) → same (change x) ≡ same x) → finds same xs → finds same (map change xs)
found_changed same change xs alike is =
    ap is_some (find_changed same same change xs alike) ∙ some_changed change (find same xs) ∙ is

-- the thing at a place is found
pub found_at : {A : Type 0} (same : A → Bool) (xs : List A) (at : ℕ) (d : A) → at < length xs
    → same (get_or xs at d) ≡ true → finds same xs
found_at same [] at d within is = absurd (omega arith)
found_at same (x ∷ xs) zero d within is = found_first same x xs is
found_at same (x ∷ xs) (suc at) d within is = found_after same x xs (found_at same xs at d (omega arith) is)

-- ---- the processes
-- those that a change leaves their pids
pub changed_noted : {slots : List ℕ} {ts : List Task} (change : Task → Task) → ((t : Task) → (change t).pid ≡ t.pid)
    → NotesKnown slots ts → NotesKnown slots (map change ts)
changed_noted {ts = ts} change same noted = record {
  known = λ q is. found_changed (is_task q) change ts (λ t. ap (λ n. n == q) (same t)) (noted.known q is);
}

-- those that are left by the end of one that isn't noted any more
pub ended_noted : {old new : List ℕ} {ts : List Task} (pid : ℕ) → notes new pid ≡ false
    → ((q : ℕ) → q ≢ pid → notes new q ≡ notes old q) → NotesKnown old ts
    → NotesKnown new (filter (λ task. not (is_task pid task)) ts)
ended_noted {new = new} {ts = ts} pid gone others noted = record {
  known = λ q is.
      let apart : q ≢ pid = λ same. true≢false (sym is ∙ ap (notes new) same ∙ gone) in
      found_left (is_task q) (λ task. not (is_task pid task)) ts (λ t left. grind (arith, apart, left))
      (noted.known q (sym (others q apart) ∙ is));
}

-- those with one that is born and noted
pub born_noted : {old new : List ℕ} {ts : List Task} (child : Task)
    → ((q : ℕ) → q ≢ child.pid → notes new q ≡ true → notes old q ≡ true) → NotesKnown old ts
    → NotesKnown new (put_by (λ (t : Task). t.pid) child ts)
born_noted {ts = ts} child others noted = rw (put_same (λ (t : Task). t.pid) child ts) (record {
  known = λ q is. (elim (child.pid == q) as (λ b. (child.pid == q) ≡ b → finds (is_task q) (put task_before child ts)) [
    | true ↦ λ same. found_put (is_task q) task_before child ts same
    | false ↦ λ differs.
        let apart : q ≢ child.pid = λ same. grind (arith, differs, same) in
        found_still (is_task q) task_before child ts (λ t later equal. grind (arith, later, equal, apart))
        (noted.known q (others q apart is))
  ]) refl;
})

-- those of which one more is noted
pub listed_noted : (old new : List ℕ) (ts : List Task) (at pid : ℕ) (t : Task) → at < length ts → t ≡ get_or ts at t
    → pid ≡ t.pid → ((q : ℕ) → q ≢ pid → notes new q ≡ true → notes old q ≡ true) → NotesKnown old ts
    → NotesKnown new ts
listed_noted old new ts at pid t within here is others noted = record {
  known = λ q told. (elim (pid == q) as (λ b. (pid == q) ≡ b → finds (is_task q) ts) [
    | true ↦ λ same. found_at (is_task q) ts at t within (ap (is_task q) (sym here) ∙ ap (λ n. n == q) (sym is) ∙ same)
    | false ↦ λ differs.
        let apart : q ≢ pid = λ same. grind (arith, differs, same) in
        noted.known q (others q apart told)
  ]) refl;
}

-- those of which none is noted
pub none_noted_of : (slots : List ℕ) (ts : List Task) → ((q : ℕ) → notes slots q ≡ false) → NotesKnown slots ts
none_noted_of slots ts none = record { known = λ q is. absurd (true≢false (sym is ∙ none q)) }
