-- Seats that were tried, and seats like them.
use Rattle.std.proofs.Common.{◌≡◌, ℕ, List, ◌∷◌, None, map, option_map, refl, sym, ap, subst, ◌∙◌}
use Rattle.std.specs.Prelude.{All, Any}
use Rattle.cm_base.specs.declared.res.FileRef.TheVariants.{Row}
use Rattle.cm_plans.specs.Choices.{without_groups}
use Rattle.cm_plans.specs.Tried.{Tried}
use Rattle.model_plans.proofs.Lists.{unmap_none}
use Rattle.model_plans.specs.Move.{RunFile, Seat, Setting}
use Rattle.model_plans.specs.Plan.{run_row}
use Rattle.model_plans.specs.Walk.{middle_found}

-- the seat with these groups in place of its own
abbrev with_groups : List ℕ → Seat → Seat
with_groups groups seat = record { space = seat.space; cred = record seat.cred { groups = groups } }

-- two seats that are one but for their groups are one where they have the same groups
one_seat : (s t : Seat) → without_groups s ≡ without_groups t → t.cred.groups ≡ s.cred.groups → s ≡ t
one_seat s t alike groups =
    ap (with_groups s.cred.groups) alike ∙ ap (λ (gs : List ℕ). with_groups gs t) (sym groups)

pub tried_here : (q : Setting) (rows : List ℕ) (seat : Seat) (list : List Seat) → All (Tried q rows seat.cred.groups) list
    → Any (λ s. without_groups s ≡ without_groups seat) list → middle_found q seat (map run_row rows) ≡ None
tried_here q rows seat list each (k, s, below, at, alike) =
    let tried : Tried q rows seat.cred.groups s = subst (Tried q rows seat.cred.groups) at (each k s below) in
    tried seat refl alike

-- a seat from which nothing was found is one that was tried
pub to_be_tried : (q : Setting) (rows : List ℕ) (first : ℕ) (seat : Seat)
    → None ≡ option_map (λ moves. RunFile (Row first) ∷ moves) (middle_found q seat (map run_row rows))
    → Tried q rows seat.cred.groups (without_groups seat)
to_be_tried q rows first seat none t groups alike =
    ap (λ (s : Seat). middle_found q s (map run_row rows)) (sym (one_seat seat t alike groups))
    ∙ unmap_none (λ moves. RunFile (Row first) ∷ moves) (middle_found q seat (map run_row rows)) (sym none)
