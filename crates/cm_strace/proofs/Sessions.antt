-- A session after a line, or after the log's end: it goes on, or it is stopped; at which stage it is.
use Rattle.std.proofs.Common.{◌≡◌, ℕ, List, [], refl, ap}
use Rattle.cm_strace.specs.Answers.{ending_at, reading_is}
use Rattle.cm_strace.specs.Given.{Gave}
use Rattle.cm_strace.specs.Stages.{session_is, IsAt}
use Rattle.cm_strace.specs.declared.stage.Stage.{Stage}
use Rattle.cm_strace.specs.declared.stage.Stage.TheVariants as stage
use Rattle.model_strace.specs.After.{After, Goes, Halts, preceded}
use Rattle.model_strace.specs.Rest.{Work, answer_of, session_ended, session_of}
use Rattle.model_text.specs.Reading.{End, Placed}

-- what the line answers
pub answer_after : (events : List Placed) (t : Work) (a : After Work) (at : Stage) → Gave at events t (preceded [] a)
    → reading_is events at ≡ answer_of a
answer_after events t (Goes later u) stage.Going is = cc
answer_after events t (Goes later u) (stage.Stopped stop) is = cc
answer_after events t (Halts later stop) stage.Going is = cc
answer_after events t (Halts later why) (stage.Stopped stop) is = cc
answer_after events t a stage.Finished is = absurd is

-- the session is the one after the line
pub session_after : (events : List Placed) (t : Work) (count : ℕ) (a : After Work) (at : Stage)
    → Gave at events t (preceded [] a) → t.count ≡ count → session_is at t ≡ session_of count a
session_after events t count (Goes later u) stage.Going is counted = cc
session_after events t count (Goes later u) (stage.Stopped stop) is counted = cc
session_after events t count (Halts later stop) stage.Going is counted = cc
session_after events t count (Halts later why) (stage.Stopped stop) is counted = cc
session_after events t count a stage.Finished is counted = absurd is

-- the session is at the stage that it was made with
pub at_stage : (at : Stage) (t : Work) → IsAt at (session_is at t)
at_stage stage.Going t = tt
at_stage (stage.Stopped stop) t = refl
at_stage stage.Finished t = tt

-- the session is the one after the log's end
pub session_ended_at : (at : Stage) (t : Work) (ending : End) → (at ≡ stage.Going → ⊥) → ending_at at ≡ ending
    → session_is at t ≡ session_ended t.count ending
session_ended_at stage.Going t ending over is = absurd (over refl)
session_ended_at (stage.Stopped stop) t ending over is = ap (session_ended t.count) is
session_ended_at stage.Finished t ending over is = ap (session_ended t.count) is
