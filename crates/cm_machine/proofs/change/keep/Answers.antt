use Rattle.std.proofs.Common.{◌≡◌, length, ◌∙◌, ap}
use Rattle.cm_machine.proofs.change.keep.Goals as goal
use Rattle.model_cred.proofs.Spaces.{length_put}

pub invariant_of-state : goal.invariant_of-state
invariant_of-state c =
    let count : length c.set_map.new.spaces ≡ length c.state.inside.spaces = ap length c.set_map.ensures ∙ length_put _ _ c.state.inside.spaces in
    (c.state.invariant.0, rw count c.state.invariant.1)

pub invariant_of-state-in-Word : goal.invariant_of-state-in-Word
invariant_of-state-in-Word c =
    let count : length c.set_deny.new.self ≡ length c.state-in-Word.inside.spaces
    = ap length c.set_deny.ensures ∙ length_put _ _ c.state-in-Word.inside.spaces in
    (c.state-in-Word.invariant.0, rw count c.state-in-Word.invariant.1)
