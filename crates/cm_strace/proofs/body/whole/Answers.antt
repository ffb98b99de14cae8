use Rattle.std.proofs.Common.{◌≡◌, ◌∙◌, true, ap, sym, inl, inr}
use Rattle.cm_declared.specs.World.{world_of}
use Rattle.cm_strace.proofs.Idle.{idle}
use Rattle.cm_strace.proofs.body.whole.Goals as goal
use Rattle.cm_strace.specs.Shapes.{is_on_descriptors}
use Rattle.cm_strace_calls.specs.Told.{listed_is, read_for_is}
use Rattle.model_strace.specs.Calls.{listed_told}
use Rattle.model_strace.specs.Turn.{told_turn}

-- of a call on descriptors, of which none is followed, its shape alone tells
pub returns-in-Close-clause-turn : goal.returns-in-Close-clause-turn
returns-in-Close-clause-turn c =
    let w = world_of c.args.w.now in
    let p = c.args.parts.now.known in
    let text = c.args.text.now in
    let call = c.in-Some.call in
    let on : is_on_descriptors (listed_is call) ≡ true = elim c.in-Close.is [
      | inl is ↦ ap (λ r. is_on_descriptors (read_for_is r)) is
      | inr (inl is) ↦ ap (λ r. is_on_descriptors (read_for_is r)) is
      | inr (inr (inl is)) ↦ ap (λ r. is_on_descriptors (read_for_is r)) is
      | inr (inr (inr (inl is))) ↦ ap (λ r. is_on_descriptors (read_for_is r)) is
      | inr (inr (inr (inr is))) ↦ ap (λ r. is_on_descriptors (read_for_is r)) is
    ] in
    c.shape_deed.ensures c.args.pid p
    ∙ sym (idle w c.args.pid (listed_is call) text p on (sym c.has_descriptor.ensures ∙ c.if-not-has_descriptor.true))
    ∙ ap (λ named. told_turn c.args.pid (listed_told w c.args.pid named text) p) c.in-Some.ensures
