-- How many events a drill has, and what one event more adds.
use Rattle.std.proofs.Common.{◌≡◌, ℕ, zero, suc, ◌+◌, List, [], ◌∷◌, ◌++◌, length, refl, ap, add-one}
use Rattle.model_cred.specs.Call.{Event}
use Rattle.model_drill.specs.Drill.{Stand, turn, events_from, stand_after, drill_start}
use Rattle.model_drill.specs.Laws.{DrillCounts}

pub events_length : (n : ℕ) (at : Stand) → length (events_from n at) ≡ n
unfolding events_from
events_length zero at = refl
events_length (suc n) at = ap suc (events_length n (turn at).after)

pub drill_counts : DrillCounts
unfolding DrillCounts
drill_counts n = events_length n (drill_start n)

-- where the drill stands after one event more
stand_after_suc : (n : ℕ) (at : Stand) → stand_after (suc n) at ≡ (turn (stand_after n at)).after
unfolding stand_after
stand_after_suc zero at = refl
stand_after_suc (suc n) at = stand_after_suc n (turn at).after

pub stand_after_one_more : (n : ℕ) (at : Stand) → stand_after (n + 1) at ≡ (turn (stand_after n at)).after
stand_after_one_more n at = rw add-one (stand_after_suc n at)

-- the events, one more
events_from_suc : (n : ℕ) (at : Stand)
    → events_from (suc n) at ≡ events_from n at ++ (turn (stand_after n at)).event ∷ []
unfolding events_from stand_after
events_from_suc zero at = refl
events_from_suc (suc n) at = ap (λ (events : List Event). (turn at).event ∷ events) (events_from_suc n (turn at).after)

pub events_from_one_more : (n : ℕ) (at : Stand)
    → events_from (n + 1) at ≡ events_from n at ++ (turn (stand_after n at)).event ∷ []
events_from_one_more n at = rw add-one (events_from_suc n at)
