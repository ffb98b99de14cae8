use Rattle.std.proofs.Common.{ap, ◌∙◌}
use Rattle.model_cred.specs.Process.{State}
use Rattle.model_cred.specs.Space.{space_of}
use Rattle.std.proofs.lemmas.Bool.{iff_false}
use Rattle.cm_box.proofs.CoverParts.{start_not, start_rest}
use Rattle.cm_box.proofs.covers.start_held.Goals as goal

pub returns-then-not-maps_held : goal.returns-then-not-maps_held
returns-then-not-maps_held c = rw c.in-Standing.is (
    start_not c.args.st.now c.args.members.now c.args.bounds.now c.in-Standing.n.0 c.row-row.result.now c.standing.result.now
    c.row-row.ensures (c.standing.ensures ∙ ap (λ (s : State). space_of s.spaces c.in-Standing.n.0) c.st.view_is)
    (iff_false c.maps_held.ensures c.if-not-maps_held.true)
    )

pub returns-else-not-maps_held : goal.returns-else-not-maps_held
returns-else-not-maps_held c = rw c.in-Standing.is (
    start_rest c.args.st.now c.args.members.now c.args.bounds.now c.in-Standing.n.0 c.row-row.result.now
    c.standing.result.now c.members_held.result
    c.row-row.ensures (c.standing.ensures ∙ ap (λ (s : State). space_of s.spaces c.in-Standing.n.0) c.st.view_is)
    (c.maps_held.ensures.0 c.if-not-maps_held.false) c.members_held.ensures
    )
