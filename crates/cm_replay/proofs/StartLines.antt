-- The credential lines at the start.
use Rattle.std.proofs.Common.{◌≡◌, ℕ, ◌+◌, ◌<◌, length, List, [], ◌∷◌, ◌++◌, map, drop, get_or, Option, append-nil, sym}
use Rattle.cm_report.proofs.ReportText.{step_on}
use Rattle.cm_report.proofs.Waiting.{written_nothing}
use Rattle.cm_report.specs.Sent.{IsSent}
use Rattle.model_cred.specs.Process.{Process}
use Rattle.model_cred.specs.World.{World}
use Rattle.model_report.specs.Replay.{Credentials, text_of}

-- the line of one process, and then those of the others
pub start_step : (w : World) (ps : List Process) (i : ℕ) (p : Process) (text text' : List ℕ) → i < length ps → p ≡ get_or ps i p
    → text' ≡ text ++ text_of (Credentials w p ∷ [])
    → text ++ text_of (map (Credentials w) (drop i ps)) ≡ text' ++ text_of (map (Credentials w) (drop (i + 1) ps))
start_step w ps i p text text' within here put = step_on (Credentials w) ps i p text text' within here put

-- no lines, after a text
pub starts_silent : (a : Option (List ℕ)) (text : List ℕ) → IsSent a a text (text ++ [])
starts_silent a text = record { front = []; parts = append-nil text; written = sym (written_nothing a) }
