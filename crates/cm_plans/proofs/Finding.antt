-- The first last choice, and the first middle one, step by step.
use Rattle.std.proofs.Common.{◌≡◌, Bool, true, false, List, [], ◌∷◌, ◌++◌, Option, None, Some, option_map, if◌then◌else◌, refl, ap, ◌∙◌}
use Rattle.std.specs.Prelude.{find}
use Rattle.std.specs.Option.{option_or}
use Rattle.model_plans.specs.Move.{Move, Setting, Seat, Raise, BecomeZero, BecomeSought, BecomeGroup, TakeGroup}
use Rattle.model_plans.specs.PlanRun.{first_some}
use Rattle.model_plans.specs.Plan.{Choice, then_raise, group_choices, middle_choices}
use Rattle.model_plans.specs.Walk.{after_moves, seat_holds, last_found, middle_found, moves_found}

module _ (q : Setting) (seat : Seat) where
  -- the member holds the right after the last choice and a raise
  abbrev pub ends_with : Choice → Bool
  ends_with last = seat_holds q (after_moves q seat (then_raise last))

  pub at_first : ends_with [] ≡ true → last_found q seat ≡ Some []
  unfolding last_found
  at_first is = ap (λ (b : Bool). if b then Some [] else find ends_with ((BecomeZero ∷ []) ∷ (BecomeSought ∷ []) ∷ group_choices q.right)) is

  past_first : ends_with [] ≡ false → last_found q seat ≡ find ends_with ((BecomeZero ∷ []) ∷ (BecomeSought ∷ []) ∷ group_choices q.right)
  unfolding last_found
  past_first is = ap (λ (b : Bool). if b then Some [] else find ends_with ((BecomeZero ∷ []) ∷ (BecomeSought ∷ []) ∷ group_choices q.right)) is

  pub at_second : ends_with [] ≡ false → ends_with (BecomeZero ∷ []) ≡ true → last_found q seat ≡ Some (BecomeZero ∷ [])
  at_second first is =
      past_first first ∙ ap (λ (b : Bool). if b then Some (BecomeZero ∷ []) else find ends_with ((BecomeSought ∷ []) ∷ group_choices q.right)) is

  past_second : ends_with [] ≡ false → ends_with (BecomeZero ∷ []) ≡ false → last_found q seat ≡ find ends_with ((BecomeSought ∷ []) ∷ group_choices q.right)
  past_second first is =
      past_first first ∙ ap (λ (b : Bool). if b then Some (BecomeZero ∷ []) else find ends_with ((BecomeSought ∷ []) ∷ group_choices q.right)) is

  pub at_third : ends_with [] ≡ false → ends_with (BecomeZero ∷ []) ≡ false → ends_with (BecomeSought ∷ []) ≡ true
      → last_found q seat ≡ Some (BecomeSought ∷ [])
  at_third first second is =
      past_second first second ∙ ap (λ (b : Bool). if b then Some (BecomeSought ∷ []) else find ends_with (group_choices q.right)) is

  pub past_third : ends_with [] ≡ false → ends_with (BecomeZero ∷ []) ≡ false → ends_with (BecomeSought ∷ []) ≡ false
      → last_found q seat ≡ find ends_with (group_choices q.right)
  past_third first second is =
      past_second first second ∙ ap (λ (b : Bool). if b then Some (BecomeSought ∷ []) else find ends_with (group_choices q.right)) is

  -- where there are no choices for a group
  pub nothing_last : group_choices q.right ≡ [] → ends_with [] ≡ false → ends_with (BecomeZero ∷ []) ≡ false → ends_with (BecomeSought ∷ []) ≡ false
      → last_found q seat ≡ None
  nothing_last none first second third = past_third first second third ∙ ap (find ends_with) none

  -- the two choices for a group
  pub at_fourth : group_choices q.right ≡ (BecomeGroup ∷ []) ∷ (TakeGroup ∷ []) ∷ []
      → ends_with [] ≡ false → ends_with (BecomeZero ∷ []) ≡ false → ends_with (BecomeSought ∷ []) ≡ false → ends_with (BecomeGroup ∷ []) ≡ true
      → last_found q seat ≡ Some (BecomeGroup ∷ [])
  at_fourth two first second third is =
      past_third first second third ∙ ap (find ends_with) two
      ∙ ap (λ (b : Bool). if b then Some (BecomeGroup ∷ []) else find ends_with ((TakeGroup ∷ []) ∷ [])) is

  pub past_fourth : group_choices q.right ≡ (BecomeGroup ∷ []) ∷ (TakeGroup ∷ []) ∷ []
      → ends_with [] ≡ false → ends_with (BecomeZero ∷ []) ≡ false → ends_with (BecomeSought ∷ []) ≡ false → ends_with (BecomeGroup ∷ []) ≡ false
      → (b : Bool) → ends_with (TakeGroup ∷ []) ≡ b → last_found q seat ≡ (if b then Some (TakeGroup ∷ []) else None)
  past_fourth two first second third fourth b is =
      past_third first second third ∙ ap (find ends_with) two
      ∙ ap (λ (o : Bool). if o then Some (BecomeGroup ∷ []) else find ends_with ((TakeGroup ∷ []) ∷ [])) fourth
      ∙ ap (λ (o : Bool). if o then Some (TakeGroup ∷ []) else None) is

  pub middle_some : (middle last : Choice) (more : List Choice) → last_found q (after_moves q seat (then_raise middle)) ≡ Some last
      → middle_found q seat (middle ∷ more) ≡ Some (then_raise middle ++ then_raise last)
  middle_some middle last more is =
      ap (λ (o : Option Choice). option_or (option_map (λ end. then_raise middle ++ then_raise end) o) (middle_found q seat more)) is

  pub middle_none : (middle : Choice) (more : List Choice) → last_found q (after_moves q seat (then_raise middle)) ≡ None
      → middle_found q seat (middle ∷ more) ≡ middle_found q seat more
  middle_none middle more is =
      ap (λ (o : Option Choice). option_or (option_map (λ end. then_raise middle ++ then_raise end) o) (middle_found q seat more)) is

  -- ---- first choices
  abbrev pub from_first : List Choice → Choice → Option (List Move)
  from_first middles first = option_map (λ rest. (Raise ∷ first) ++ rest) (middle_found q (after_moves q seat (Raise ∷ first)) middles)

  abbrev pub own_middles : List Choice
  own_middles = middle_choices q.files q.spaces seat.space

  pub moves_first : (moves : List Move) → from_first own_middles [] ≡ Some moves → moves_found q seat ≡ Some moves
  unfolding moves_found
  moves_first moves is = ap (λ (o : Option (List Move)). option_or o (first_some (from_first own_middles) ((BecomeZero ∷ []) ∷ (BecomeSought ∷ []) ∷ []))) is

  past_own : from_first own_middles [] ≡ None
      → moves_found q seat ≡ first_some (from_first own_middles) ((BecomeZero ∷ []) ∷ (BecomeSought ∷ []) ∷ [])
  unfolding moves_found
  past_own none = ap (λ (o : Option (List Move)). option_or o (first_some (from_first own_middles) ((BecomeZero ∷ []) ∷ (BecomeSought ∷ []) ∷ []))) none

  pub moves_second : (moves : List Move) → from_first own_middles [] ≡ None → from_first own_middles (BecomeZero ∷ []) ≡ Some moves
      → moves_found q seat ≡ Some moves
  moves_second moves none is =
      past_own none ∙ ap (λ (o : Option (List Move)). option_or o (first_some (from_first own_middles) ((BecomeSought ∷ []) ∷ []))) is

  or_nothing : (o : Option (List Move)) → option_or o None ≡ o
  or_nothing None = refl
  or_nothing (Some moves) = refl

  pub moves_third : from_first own_middles [] ≡ None → from_first own_middles (BecomeZero ∷ []) ≡ None
      → moves_found q seat ≡ from_first own_middles (BecomeSought ∷ [])
  moves_third none no_zero =
      past_own none ∙ ap (λ (o : Option (List Move)). option_or o (first_some (from_first own_middles) ((BecomeSought ∷ []) ∷ []))) no_zero
      ∙ or_nothing (from_first own_middles (BecomeSought ∷ []))
