use Rattle.std.proofs.Common.{◌∙◌}
use Rattle.cm_strace_parts.proofs.Slots.{none_noted}
use Rattle.cm_strace_parts.proofs.known.Known.clear.Goals as goal

pub returns : goal.returns
returns c =
    let held = c.fill.ensures.items (λ y is. is) in
    let many = c.self.inside.slots.ok.0 ∙ c.self.invariant in
    λ pid. rw held (none_noted _ pid many)
