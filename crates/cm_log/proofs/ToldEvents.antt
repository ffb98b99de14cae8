-- What a line told, one event after another.
use Rattle.std.proofs.Common.{◌≡◌, ◌<◌, ℕ, suc, ◌+◌, List, ◌∷◌, length, drop, drop-cons, get_or, refl, sym, ap, add-one}
use Rattle.cm_log.specs.Left.{told_then}
use Rattle.cm_strace.specs.declared.stage.Stage.{Stage}
use Rattle.cm_strace.specs.declared.stage.Stage.TheVariants as stage
use Rattle.model_text.specs.Reading.{Placed, Reading, reads_on}

-- the first event, and what comes after it
pub told_on : (e : Placed) (es : List Placed) (at : Stage) (later : Reading)
    → told_then (e ∷ es) at later ≡ reads_on e (told_then es at later)
told_on e es stage.Going later = refl
told_on e es (stage.Stopped stop) later = refl
told_on e es stage.Finished later = refl

-- the events from that one on
pub told_from : (told : List Placed) (i : ℕ) (e : Placed) → i < length told → e ≡ get_or told i e
    → drop i told ≡ e ∷ drop (i + 1) told
told_from told i e within is = rw (add-one, drop-cons told i e within) (ap (λ (d : Placed). d ∷ drop (suc i) told)
    (sym is))
