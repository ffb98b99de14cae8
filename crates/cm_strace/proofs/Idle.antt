-- Calls on descriptors of a process of which no descriptor is followed.
use Rattle.std.proofs.Common.{◌≡◌, ℕ, ◌&&◌, ◌||◌, ◌==◌, true, false, cond, find, filter, List, [], ◌∷◌, Option, Some, None}
use Rattle.std.proofs.Common.{refl, ap, ◌∙◌}
use Rattle.std.specs.List.{list_any}
use Rattle.std.specs.Prelude.{not, slice_get}
use Rattle.cm_strace.specs.Shapes.{is_on_descriptors, shape_turn}
use Rattle.model_cred.specs.World.{World}
use Rattle.model_strace.specs.Calls.{Listed, SetsIds, SetsGroups, SetsCaps, Prctl, Birth, Unshare, SetNs, Execve, ExecveAt}
use Rattle.model_strace.specs.Calls.{OpenFile, OpenAt, Creat, Close, Dup, DupTo, Fcntl, Write, Closes, Copies, CopiesTo}
use Rattle.model_strace.specs.Calls.{Writes, Nothing, listed_told, outcome_told, returned, where_some, number_of, text_of, makes_copy}
use Rattle.model_strace.specs.Calls.{close_told, dup_told, dup_to_told, fcntl_told, write_told, written_told}
use Rattle.model_strace.specs.Outcome.{Outcome, NoReturn, Number, Error, Other, outcome_of, success}
use Rattle.model_strace.specs.Parts.{Parts, Descriptor, is_of, is_descriptor, has_descriptor}
use Rattle.model_strace.specs.Parts.{without_descriptor}
use Rattle.model_strace.specs.Turn.{Quiet, told_turn, copies, copies_to, followed, writes}
use Rattle.model_strace.specs.Written.{Written, arguments_of, written_of}

-- none of the process is found
none_found : (pid number : ℕ) (ds : List Descriptor) → list_any (is_of pid) ds ≡ false
    → find (is_descriptor pid number) ds ≡ None
none_found pid number [] none = refl
none_found pid number (d ∷ ds) none =
    (elim (d.pid == pid) as (λ own. own || list_any (is_of pid) ds ≡ false
    → cond (own && d.number == number) (Some d) (find (is_descriptor pid number) ds) ≡ None) [
      | true ↦ λ h. absurd (cc)
      | false ↦ λ h. none_found pid number ds h
    ]) none

-- all stay
all_stay : (pid number : ℕ) (ds : List Descriptor) → list_any (is_of pid) ds ≡ false
    → filter (λ d. not (is_descriptor pid number d)) ds ≡ ds
all_stay pid number [] none = refl
all_stay pid number (d ∷ ds) none =
    (elim (d.pid == pid) as (λ own. own || list_any (is_of pid) ds ≡ false
    → cond (not (own && d.number == number)) (d ∷ filter (λ d. not (is_descriptor pid number d)) ds)
    (filter (λ d. not (is_descriptor pid number d)) ds) ≡ d ∷ ds) [
      | true ↦ λ h. absurd (cc)
      | false ↦ λ h. ap (λ rest. d ∷ rest) (all_stay pid number ds h)
    ]) none

-- a descriptor that isn't followed is closed
closes_none : (pid number : ℕ) (p : Parts) → has_descriptor pid p ≡ false → Quiet (without_descriptor pid number p) ≡ Quiet p
closes_none pid number p none =
    ap (λ ds. Quiet (record p { descriptors = ds })) (all_stay pid number p.descriptors none)

-- a close
close_idle : (pid : ℕ) (arguments : List (List ℕ)) (outcome : Outcome) (p : Parts) → has_descriptor pid p ≡ false
    → told_turn pid (close_told arguments outcome) p ≡ Quiet p
close_idle pid arguments outcome p none =
    elim (success outcome) as (λ n. told_turn pid (where_some n (λ k. where_some (number_of 1 arguments) Closes)) p ≡ Quiet p) [
      | None ↦ refl
      | Some n ↦ elim (number_of 1 arguments) as (λ k. told_turn pid (where_some k Closes) p ≡ Quiet p) [
        | None ↦ refl
        | Some number ↦ closes_none pid number p none
      ]
    ]

-- a copy
dup_idle : (pid : ℕ) (arguments : List (List ℕ)) (outcome : Outcome) (p : Parts) → has_descriptor pid p ≡ false
    → told_turn pid (dup_told arguments outcome) p ≡ Quiet p
dup_idle pid arguments outcome p none =
    elim (success outcome) as (λ n. told_turn pid (where_some n (λ k. where_some (number_of 1 arguments) Copies)) p ≡ Quiet p) [
      | None ↦ refl
      | Some n ↦ elim (number_of 1 arguments) as (λ k. told_turn pid (where_some k Copies) p ≡ Quiet p) [
        | None ↦ refl
        | Some number ↦ ap (λ d. copies d p) (none_found pid number p.descriptors none)
      ]
    ]

-- none is followed, whatever its number is
follows_none : (pid : ℕ) (number : Option ℕ) (p : Parts) → has_descriptor pid p ≡ false → followed pid number p ≡ None
follows_none pid None p none = refl
follows_none pid (Some number) p none = none_found pid number p.descriptors none

-- a copy in the place of another descriptor
dup_to_idle : (pid : ℕ) (arguments : List (List ℕ)) (outcome : Outcome) (p : Parts) → has_descriptor pid p ≡ false
    → told_turn pid (dup_to_told arguments outcome) p ≡ Quiet p
dup_to_idle pid arguments outcome p none =
    elim (success outcome) as (λ n. told_turn pid (where_some n (CopiesTo (number_of 1 arguments))) p ≡ Quiet p) [
      | None ↦ refl
      | Some number ↦
          ap (λ d. copies_to pid d number p) (follows_none pid (number_of 1 arguments) p none) ∙ closes_none pid number p none
    ]

-- a copy by fcntl
fcntl_idle : (pid : ℕ) (arguments : List (List ℕ)) (outcome : Outcome) (p : Parts) → has_descriptor pid p ≡ false
    → told_turn pid (fcntl_told arguments outcome) p ≡ Quiet p
fcntl_idle pid arguments outcome p none =
    elim (makes_copy (text_of 2 arguments)) as (λ b. told_turn pid (cond b (dup_told arguments outcome) Nothing) p ≡ Quiet p) [
      | true ↦ dup_idle pid arguments outcome p none
      | false ↦ refl
    ]

-- a write
write_idle : (pid : ℕ) (arguments : List (List ℕ)) (outcome : Outcome) (p : Parts) → has_descriptor pid p ≡ false
    → told_turn pid (write_told arguments outcome) p ≡ Quiet p
write_idle pid arguments outcome p none =
    elim (number_of 1 arguments) as (λ n. told_turn pid (where_some n (λ k. Writes k (slice_get arguments 1) outcome)) p ≡ Quiet p) [
      | None ↦ refl
      | Some number ↦
          ap (λ d. writes pid d (slice_get arguments 1) outcome p) (none_found pid number p.descriptors none)
    ]

-- by its arguments and its result
returned_idle : (w : World) (pid : ℕ) (call : Listed) (arguments : List (List ℕ)) (outcome : Outcome) (p : Parts)
    → is_on_descriptors call ≡ true → has_descriptor pid p ≡ false
    → told_turn pid (returned w pid call arguments outcome) p ≡ Quiet p
returned_idle w pid Close arguments outcome p on none = close_idle pid arguments outcome p none
returned_idle w pid Dup arguments outcome p on none = dup_idle pid arguments outcome p none
returned_idle w pid DupTo arguments outcome p on none = dup_to_idle pid arguments outcome p none
returned_idle w pid Fcntl arguments outcome p on none = fcntl_idle pid arguments outcome p none
returned_idle w pid Write arguments outcome p on none = write_idle pid arguments outcome p none
returned_idle w pid (SetsIds kind) arguments outcome p on none = absurd (cc)
returned_idle w pid SetsGroups arguments outcome p on none = absurd (cc)
returned_idle w pid SetsCaps arguments outcome p on none = absurd (cc)
returned_idle w pid Prctl arguments outcome p on none = absurd (cc)
returned_idle w pid Birth arguments outcome p on none = absurd (cc)
returned_idle w pid Unshare arguments outcome p on none = absurd (cc)
returned_idle w pid SetNs arguments outcome p on none = absurd (cc)
returned_idle w pid Execve arguments outcome p on none = absurd (cc)
returned_idle w pid ExecveAt arguments outcome p on none = absurd (cc)
returned_idle w pid OpenFile arguments outcome p on none = absurd (cc)
returned_idle w pid OpenAt arguments outcome p on none = absurd (cc)
returned_idle w pid Creat arguments outcome p on none = absurd (cc)

-- the same, where it may not return
outcome_idle : (w : World) (pid : ℕ) (call : Listed) (arguments : List (List ℕ)) (outcome : Outcome) (p : Parts)
    → is_on_descriptors call ≡ true → has_descriptor pid p ≡ false
    → told_turn pid (outcome_told w pid call arguments outcome) p ≡ Quiet p
outcome_idle w pid call arguments NoReturn p on none = refl
outcome_idle w pid call arguments (Number n) p on none = returned_idle w pid call arguments (Number n) p on none
outcome_idle w pid call arguments (Error e) p on none = returned_idle w pid call arguments (Error e) p on none
outcome_idle w pid call arguments Other p on none = returned_idle w pid call arguments Other p on none

-- by its parts
parts_idle : (w : World) (pid : ℕ) (call : Listed) (parts : Option Written) (p : Parts)
    → is_on_descriptors call ≡ true → has_descriptor pid p ≡ false
    → told_turn pid (written_told w pid call parts) p ≡ shape_turn parts p
parts_idle w pid call None p on none = refl
parts_idle w pid call (Some parts) p on none =
    outcome_idle w pid call (arguments_of parts.inside) (outcome_of parts.result) p on none

-- of a call on descriptors of a process of which none is followed the shape alone tells
pub idle : (w : World) (pid : ℕ) (call : Listed) (text : List ℕ) (p : Parts)
    → is_on_descriptors call ≡ true → has_descriptor pid p ≡ false
    → told_turn pid (listed_told w pid (Some call) text) p ≡ shape_turn (written_of text) p
idle w pid call text p on none = parts_idle w pid call (written_of text) p on none
