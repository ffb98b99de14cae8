-- What lines give, one after another, and the held lines that are read after a birth.
use Rattle.std.proofs.Common.{◌≡◌, ℕ, zero, suc, true, false, cond, find, length, List, [], ◌∷◌, ◌++◌, Some}
use Rattle.std.proofs.Common.{None, refl, sym, ◌∙◌, ap, append_assoc, append-nil, slice_get}
use Rattle.std.specs.Option.{option_or}
use Rattle.cm_strace.specs.Answers.{stop_is}
use Rattle.cm_strace.specs.Given.{Gave}
use Rattle.cm_strace.specs.declared.stage.Stage.{Stage}
use Rattle.cm_strace.specs.declared.stage.Stage.TheVariants as stage
use Rattle.model_cred.specs.World.{World}
use Rattle.model_strace.specs.After.{After, Goes, Halts, preceded, and_then}
use Rattle.model_strace.specs.Lines.{Line, is_line_of, read_line, next_line, next_with}
use Rattle.model_strace.specs.Parts.{Parts, is_known}
use Rattle.model_strace.specs.Rest.{Work, without_first, then_released, released}
use Rattle.model_text.specs.Reading.{Placed, Stop}

-- ---- events before events
-- events come before all that follows
preceded_twice : {S : Type 0} (es fs : List Placed) (a : After S) → preceded es (preceded fs a) ≡ preceded (es
    ++ fs) a
preceded_twice es fs (Goes gs s) = ap (λ l. Goes l s) (sym (append_assoc es fs gs))
preceded_twice es fs (Halts gs stop) = ap (λ l. Halts l stop) (sym (append_assoc es fs gs))

-- events come before one thing after another
pub preceded_then : {S T : Type 0} (es : List Placed) (a : After S) (next : S → After T)
    → preceded es (and_then a next) ≡ and_then (preceded es a) next
preceded_then es (Goes fs s) next = preceded_twice es fs (next s)
preceded_then es (Halts fs stop) next = refl

-- what goes on after the first thing
pub goes_then : {S T : Type 0} (es fs : List Placed) (a : After S) (s : S) (next : S → After T) → Goes fs s
    ≡ preceded es a
    → preceded fs (next s) ≡ preceded es (and_then a next)
goes_then es fs a s next is = ap (λ b. and_then b next) is ∙ sym (preceded_then es a next)

-- where nothing follows the first thing
pub goes_alone : {S T : Type 0} (es fs : List Placed) (a : After S) (s : S) (next : S → After T) (t : T)
    → Goes fs s ≡ preceded es a → next s ≡ Goes [] t
    → Goes fs t ≡ preceded es (and_then a next)
goes_alone es fs a s next t is none =
    ap (λ l. Goes l t) (sym (append-nil fs)) ∙ ap (preceded fs) (sym none) ∙ goes_then es fs a s next is

-- what stops at the first thing
pub halts_then : {S T : Type 0} (es fs : List Placed) (a : After S) (stop : Stop) (next : S → After T)
    → Halts fs stop ≡ preceded es a
    → Halts fs stop ≡ preceded es (and_then a next)
halts_then es fs a stop next is = ap (λ b. and_then b next) is ∙ sym (preceded_then es a next)

-- the same, of what isn't going on
pub stopped_then : {S T : Type 0} (at : Stage) (es fs : List Placed) (a : After S) (s : S) (next : S → After T) (t : T)
    → (at ≡ stage.Going → ⊥) → Gave at fs s (preceded es a) → Gave at fs t (preceded es (and_then a next))
stopped_then stage.Going es fs a s next t stops is = absurd (stops refl)
stopped_then (stage.Stopped stop) es fs a s next t stops is = halts_then es fs a (stop_is stop) next is
stopped_then stage.Finished es fs a s next t stops is = absurd is

-- ---- held lines
-- without a next line nothing more is read
pub released_none : (w : World) (left : ℕ) (pids : List ℕ) (t : Work) → next_line t.parts t.held pids ≡ None
    → released w left pids t ≡ Goes [] t
released_none w zero pids t none = refl
released_none w (suc left) pids t none = ap (λ x. then_released w x t (λ pids' t'. released w left pids' t')) none

-- no line of a child is next where none is held
pub next_none : (p : Parts) (lines : List Line) (pid : ℕ) → find (is_line_of pid) lines ≡ None
    → next_line p lines (pid ∷ []) ≡ None
next_none p lines pid none =
    elim (is_known pid p) as (λ b. cond b (option_or (next_with (pid ∷ []) (find
    (is_line_of pid) lines)) None) None ≡ None) [
      | true ↦ ap (λ l. option_or (next_with (pid ∷ []) l) None) none
      | false ↦ refl
    ]

-- the next line is read, and then the others
pub released_next : (w : World) (left : ℕ) (pids : List ℕ) (t : Work) (l : Line) (rest : List ℕ) → length t.held
    ≡ suc left
    → next_line t.parts t.held pids ≡ Some (record { line = l; pids = rest })
    → released w (length t.held) pids t
    ≡ and_then (read_line w l t.parts) (λ r. released w left (r.born
    ++ rest) (record t { parts = r.parts; held = without_first l.pid t.held }))
released_next w left pids t l rest size next =
    ap (λ n. released w n pids t) size ∙ ap (λ x. then_released w x t (λ pids' t'. released w left pids' t')) next

-- ---- the pids
-- no pid stands first where there is none
pub none_first : (p : Parts) (lines : List Line) (pids : List ℕ) → slice_get pids 0 ≡ None → next_line p lines pids
    ≡ None
none_first p lines [] none = refl
none_first p lines (pid ∷ pids) none = absurd (cc)

-- the same lines of the same pids
pub released_same : (w : World) (m n : ℕ) (ps qs : List ℕ) (t u : Work) → m ≡ n → ps ≡ qs → t ≡ u
    → released w m ps t ≡ released w n qs u
released_same w m n ps qs t u size pids work =
    ap (λ k. released w k ps t) size ∙ ap (λ l. released w n l t) pids ∙ ap (released w n qs) work
