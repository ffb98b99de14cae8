-- What a line of a log of strace does, where it is read, exceeds no limit of a log's bytes or of a line's.
use Rattle.std.proofs.Common.{ℕ, List}
use Rattle.model_cred.specs.World.{World}
use Rattle.model_strace.proofs.ToldLimits.{IsOther, ToldStops, call_told_stops}
use Rattle.model_strace.proofs.Ways.{Way, Passes, Resumes, turn_way}
use Rattle.model_strace.specs.Parts.{Parts, without_kept}
use Rattle.model_strace.specs.Turn.{Turn, Exceeds, turn}

-- the limit that a turn exceeds, if any, is another one
abbrev pub TurnStops : Turn → Type 0
TurnStops (Exceeds l) = IsOther l
TurnStops _ = Unit {0}

way_stops : (pid : ℕ) (p : Parts) (t : Turn) → Way ToldStops pid p t → TurnStops t
way_stops pid p t (Passes l other) = other
way_stops pid p t (Resumes _ way) = way_stops pid (without_kept pid p) t way
way_stops pid p t _ = tt

pub turn_stops : (w : World) (pid : ℕ) (body : List ℕ) (p : Parts) → TurnStops (turn w pid body p)
turn_stops w pid body p =
    way_stops pid p (turn w pid body p) (turn_way ToldStops pid w (λ text. call_told_stops w pid text) body p)
