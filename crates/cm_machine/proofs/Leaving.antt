-- What stays true of the others when a process exits.
use Rattle.std.proofs.Common.{◌≡◌, ℕ, ◌<◌, List, map, filter, ◌==◌, not, ap, ◌∙◌, subst, sym}
use Rattle.cm_machine.proofs.Changing.{AllStand}
use Rattle.model_cred.specs.Process.{Process, Ascends, after_exit, without_process}
use Rattle.model_cred.proofs.Orders.{ascends_forth, ascends_back, ascends_without, all_without}

-- the others ascend, each in a space that stands
pub leave_keeps : (ps rest after : List Process) (n : ℕ) (gone : Process) → Ascends ps → AllStand n ps
    → rest ≡ filter (λ p. not (p.pid == gone.pid)) ps → after ≡ map (after_exit gone) rest → Ascends after × AllStand n after
leave_keeps ps rest after n gone up stand others handed =
    let is : without_process gone ps ≡ after = sym (handed ∙ ap (map (after_exit gone)) others) in (
      subst Ascends is (ascends_back 0 (without_process gone ps) (ascends_without 0 gone ps (ascends_forth ps up))),
      subst (AllStand n) is (all_without (λ p. p.space < n) gone ps (λ p f there. there) stand),
    )
