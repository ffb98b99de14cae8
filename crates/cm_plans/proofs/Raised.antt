-- Moves and a raise after them.
use Rattle.std.proofs.Common.{◌≡◌, refl}
use Rattle.cm_plans.specs.Choices.{choice_of}
use Rattle.cm_plans.specs.declared.choices.Choice.{Choice}
use Rattle.cm_plans.specs.declared.choices.Choice.TheVariants as code
use Rattle.model_plans.specs.Move.{Setting, Seat, Raise}
use Rattle.model_plans.specs.Plan.{then_raise}
use Rattle.model_plans.specs.Walk.{after, after_moves}

pub raised : (q : Setting) (seat : Seat) (c : Choice)
    → after q (after_moves q seat (choice_of c)) Raise ≡ after_moves q seat (then_raise (choice_of c))
raised q seat code.Nothing = refl
raised q seat _ = refl
