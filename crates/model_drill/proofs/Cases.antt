-- Worked cases of the drill, by computation: its world as a text declares it, and its first events, as
-- tools/plain/drill.py works them out.
use Rattle.std.proofs.Common.{◌≡◌, [], ◌∷◌, refl}
use Rattle.std.specs.Prelude.{⊤}
use Rattle.cm_base.specs.declared.errno.Errno.TheVariants.{EPERM}
use Rattle.cm_base.specs.declared.res.FileRef.TheVariants.{Plain}
use Rattle.cm_base.specs.declared.res.Res.{Res}
use Rattle.cm_base.specs.declared.res.Res.TheVariants.{Done, Id, Err}
use Rattle.cm_base.specs.Limits.{minus_one}
use Rattle.model_cred.specs.Call.{Call, Event, SetUid, SetResUid, SetFsUid, SetReUid, CapSet, BsetDrop, Exec}
use Rattle.model_drill.specs.DrillWorld.{drill_world, drill_world_text}
use Rattle.model_drill.specs.Draws.{drawn, next_number}
use Rattle.model_drill.specs.Drill.{asked_at, turn, events_from, stand_after, drill_events}
use Rattle.model_drill.specs.Laws.{DrillWorldReads}
use Rattle.model_drill.specs.Rows.{table}
use Rattle.model_text.proofs.WorldCases.{world_on_literals}

pub drill_world_reads : DrillWorldReads
unfolding DrillWorldReads drill_world drill_world_text world_on_literals
drill_world_reads = refl

-- what a proof unfolds to compute a drill
unfoldable pub drill_on_literals : ⊤
unfolding drill_world next_number drawn table asked_at turn events_from stand_after
drill_on_literals = tt

-- process 1 makes a call, and it is answered so
abbrev pub event_of : Call → Res → Event
event_of call res = record { pid = 1; call = call; res = res }

pub the_first_draw : drawn 0 ≡ 335903614
unfolding drill_on_literals
the_first_draw = refl

pub the_drill_of_one : drill_events 1 ≡ event_of (SetFsUid 0) (Id 0) ∷ []
unfolding drill_on_literals
the_drill_of_one = refl

pub the_drill_of_seven : drill_events 7
    ≡ event_of (Exec Plain) Done
    ∷ event_of (SetUid 1000) Done
    ∷ event_of (SetResUid minus_one 1000 0) (Err EPERM)
    ∷ event_of (CapSet 0 0 0) Done
    ∷ event_of (SetReUid 1001 minus_one) (Err EPERM)
    ∷ event_of (BsetDrop 13) (Err EPERM)
    ∷ event_of (SetReUid 1000 minus_one) Done ∷ []
unfolding drill_on_literals
the_drill_of_seven = refl
