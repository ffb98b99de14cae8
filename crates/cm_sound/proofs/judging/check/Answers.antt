use Rattle.cm_sound.proofs.Never.{fits, never_held}
use Rattle.cm_sound.proofs.judging.check.Goals as goal
use Rattle.cm_state.specs.Right.{right_of}
use Rattle.cm_declared.specs.World.{world_of}
use Rattle.model_box.proofs.Excludes.{fits_starts}
use Rattle.model_box.proofs.Worlds.{state_fits}

pub returns-in-None-meets-clause-never_held : goal.returns-in-None-meets-clause-never_held
returns-in-None-meets-clause-never_held c =
    λ _.
    never_held (world_of c.args.w.now) c.args.m.now.state c.args.members.now c.args.b.now (right_of c.args.right.now)
    (fits (world_of c.args.w.now) c.args.m.now.state
    (fits_starts c.args.m.now.state (state_fits c.args.m.now.state c.see_state.ensures)) c.see_files.ensures c.requires.mounts)
    c.requires.named (record {
      encloses = record { covers = c.in-None.ensures.covers; closed = c.in-None-closed_in_common.ensures.none };
      apart = c.in-None-meets.ensures.none;
    })
