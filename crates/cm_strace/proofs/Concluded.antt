-- A line that is read and done: with no held lines of a child, or with them.
use Rattle.std.proofs.Common.{◌≡◌, ℕ, ◌+◌, Bool, false, length, List, None, ◌∙◌, ap, refl, sym}
use Rattle.std.specs.List.{list_any}
use Rattle.cm_strace.specs.Answers.{stop_is}
use Rattle.cm_strace.specs.Deeds.{child_of, line_turn}
use Rattle.cm_strace.specs.Given.{Gave, born_is, read_is}
use Rattle.cm_strace.specs.Works.{awaits, concluded}
use Rattle.cm_strace.specs.declared.deed.Birth.{Birth}
use Rattle.cm_strace.specs.declared.deed.Deed.{Deed}
use Rattle.cm_strace.specs.declared.deed.Deed.TheVariants as deed
use Rattle.cm_strace.specs.declared.deed.Origin.{Origin}
use Rattle.cm_strace.specs.declared.stage.Stage.{Stage}
use Rattle.cm_strace.specs.declared.stage.Stage.TheVariants as stage
use Rattle.cm_strace.proofs.HeldLines.{any_none}
use Rattle.cm_strace.proofs.Released.{goes_alone, halts_then, next_none, released_none}
use Rattle.model_cred.specs.World.{World}
use Rattle.model_strace.specs.After.{and_then, preceded}
use Rattle.model_strace.specs.Lines.{Line, Read, is_line_of, next_line, given_at}
use Rattle.model_strace.specs.Parts.{Parts}
use Rattle.model_strace.specs.Rest.{Work, read_fed, released}
use Rattle.model_strace.specs.Turn.{Turn, turn}
use Rattle.model_text.specs.Reading.{Placed}

-- no line is next after a deed that no lines wait for
born_alone : (d : Deed) (lines : List Line) (p : Parts) → awaits lines d ≡ false
    → next_line p lines (born_is (child_of d)) ≡ None
born_alone (deed.Bears birth) lines p alone = next_none p lines birth.child (any_none birth.child lines alone)
born_alone (deed.Does call answer) lines p alone = refl
born_alone deed.Ends lines p alone = refl
born_alone deed.Quiet lines p alone = refl
born_alone (deed.Refused why) lines p alone = refl
born_alone (deed.Exceeds limit) lines p alone = refl

-- no lines wait for a deed that is no birth
pub awaited_by_none : (lines : List Line) (d : Deed) → ((birth : Birth) → d ≡ deed.Bears birth → ⊥)
    → awaits lines d ≡ false
awaited_by_none lines (deed.Bears birth) other = absurd (other birth refl)
awaited_by_none lines _ other = refl

-- nor for a birth of whose child none is held
pub awaited_by_no_line : (lines held : List Line) (d : Deed) (birth : Birth) (has : Bool) → d ≡ deed.Bears birth
    → has ≡ list_any (is_line_of birth.child) held → held ≡ lines → has ≡ false → awaits lines d ≡ false
awaited_by_no_line lines held d birth has is any same none =
    ap (awaits lines) is ∙ ap (list_any (is_line_of birth.child)) (sym same) ∙ sym any ∙ none

-- then nothing follows the deed
pub concluded_alone : (w : World) (at : Stage) (es fs : List Placed) (origin : Origin) (d : Deed) (t : Work) (p : Parts)
    → awaits t.held d ≡ false
    → Gave at fs (read_is (child_of d) p) (preceded es (given_at origin.line (line_turn origin d t.parts)))
    → Gave at fs (let u : Work = record t { parts = p } in u) (preceded es (concluded w origin d t))
concluded_alone w stage.Going es fs origin d t p alone is =
    goes_alone es fs (given_at origin.line (line_turn origin d t.parts)) (read_is (child_of d) p)
    (λ r. released w (length t.held) r.born (record t { parts = r.parts })) (record t { parts = p }) is
    (released_none w (length t.held) (born_is (child_of d)) (record t { parts = p }) (born_alone d t.held p alone))
concluded_alone w (stage.Stopped stop) es fs origin d t p alone is =
    halts_then es fs (given_at origin.line (line_turn origin d t.parts)) (stop_is stop)
    (λ (r : Read). released w (length t.held) r.born (record t { parts = r.parts })) is
concluded_alone w stage.Finished es fs origin d t p alone is = absurd is

-- a line is read where its deed is known
pub concluded_read : (w : World) (origin : Origin) (body : List ℕ) (d : Deed) (p : Parts) (old : Work)
    → line_turn origin d p ≡ turn w origin.pid body old.parts → origin.line ≡ old.count + 1
    → concluded w origin d (record old { parts = p; count = old.count + 1 })
    ≡ read_fed w (record { number = old.count + 1; pid = origin.pid; body = body })
    (record old { count = old.count + 1 })
concluded_read w origin body d p old is line =
    ap (λ (n : ℕ). and_then (given_at n (line_turn origin d p)) (λ r. released w (length old.held) r.born
    (record old { parts = r.parts; count = old.count + 1 }))) line
    ∙ ap (λ (t : Turn). and_then (given_at (old.count + 1) t) (λ r. released w (length old.held) r.born
    (record old { parts = r.parts; count = old.count + 1 }))) is
