-- What a log of strace still gives after a line, or where no line comes any more.
use Rattle.std.proofs.Common.{◌≡◌, ◌∙◌, List, [], Some, Result, Ok, Err, refl, sym, ap, append-nil}
use Rattle.cm_base.specs.Outcome.{OrNoMemory}
use Rattle.cm_lines.specs.Cut.{Cut, ends_by}
use Rattle.cm_lines.specs.declared.limits.Past.{Past}
use Rattle.cm_log.specs.Left.{EndsAgain, told_then}
use Rattle.cm_strace.specs.Answers.{reading_is}
use Rattle.cm_strace.specs.Stages.{IsAt}
use Rattle.cm_strace.specs.declared.stage.Stage.{Stage}
use Rattle.cm_strace.specs.declared.stage.Stage.TheVariants as stage
use Rattle.model_cred.specs.World.{World}
use Rattle.model_strace.specs.Rest.{Session, Going, Stopped, Finished, answered_then, rest}
use Rattle.model_text.specs.Reading.{Placed, AtEnd, Stops, Reading, ends_at}

-- after an end that end again
pub again_at : (w : World) (at : Stage) (session : Session) (cut : Cut) → IsAt at session
    → EndsAgain at (rest w session cut)
again_at w stage.Going session cut is = tt
again_at w (stage.Stopped stop) (Going t) cut is = absurd is
again_at w (stage.Stopped stop) (Stopped count halt) cut is = ap (λ s. ends_at (Stops s)) is
again_at w (stage.Stopped stop) (Finished count) cut is = absurd is
again_at w stage.Finished (Going t) cut is = absurd is
again_at w stage.Finished (Stopped count halt) cut is = absurd is
again_at w stage.Finished (Finished count) cut is = refl

-- what a line told, and then what the session gives at that stage
pub told_at : (w : World) (events : List Placed) (at : Stage) (session : Session) (cut : Cut) → IsAt at session
    → answered_then (reading_is events at) (rest w session cut) ≡ told_then events at (rest w session cut)
told_at w events stage.Going session cut is = refl
told_at w events (stage.Stopped stop) session cut is = refl
told_at w events stage.Finished (Going t) cut is = absurd is
told_at w events stage.Finished (Stopped count halt) cut is = absurd is
told_at w events stage.Finished (Finished count) cut is =
    ap (λ (es : List Placed). let r : Reading = record { events = es; ending = AtEnd } in r) (append-nil events)

-- what the end told
pub told_at_end : (events : List Placed) (at : Stage) (r later : Reading) → (at ≡ stage.Going → ⊥)
    → reading_is events at ≡ r
    → r ≡ told_then events at later
told_at_end events stage.Going r later over is = absurd (over refl)
told_at_end events (stage.Stopped stop) r later over is = sym is
told_at_end events stage.Finished r later over is = sym is

-- nothing is told where the session is cut off
pub told_cut_off : (w : World) (past : Past) (at : Stage) (old new : Session) (cut : Cut) → (at ≡ stage.Going → ⊥)
    → IsAt at new
    → rest w new cut ≡ rest w old (ends_by (Some past))
    → rest w old (ends_by (Some past)) ≡ told_then [] at (rest w new cut)
told_cut_off w past stage.Going old new cut over is told = absurd (over refl)
told_cut_off w past (stage.Stopped stop) old new cut over is told = sym told
    ∙ again_at w (stage.Stopped stop) new cut is
told_cut_off w past stage.Finished old new cut over is told = sym told ∙ again_at w stage.Finished new cut is

-- What holds of the stage at which a line or the end leaves the session, where there was memory.
module _ (w : World) (session : Session) where
  pub again_if : {E : Type 0} (r : Result Stage E) → OrNoMemory r (λ at. IsAt at session)
      → OrNoMemory r (λ at. (cut : Cut) → EndsAgain at (rest w session cut))
  again_if (Ok at) is = λ cut. again_at w at session cut is
  again_if (Err e) is = tt

  pub told_if : {E : Type 0} (r : Result Stage E) (events : List Placed) (before : Cut → Reading)
      → OrNoMemory r (λ at. (cut : Cut) → before cut ≡ answered_then (reading_is events at) (rest w session cut))
      → OrNoMemory r (λ at. IsAt at session)
      → OrNoMemory r (λ at. (cut : Cut) → before cut ≡ told_then events at (rest w session cut))
  told_if (Ok at) events before told is = λ cut. told cut ∙ told_at w events at session cut is
  told_if (Err e) events before told is = tt

  pub told_if_over : {E : Type 0} (r : Result Stage E) (events : List Placed) (before : Reading)
      → OrNoMemory r (λ at. reading_is events at ≡ before) → OrNoMemory r (λ at. at ≡ stage.Going → ⊥)
      → OrNoMemory r (λ at. (cut : Cut) → before ≡ told_then events at (rest w session cut))
  told_if_over (Ok at) events before told over = λ cut. told_at_end events at before (rest w session cut) over told
  told_if_over (Err e) events before told over = tt
