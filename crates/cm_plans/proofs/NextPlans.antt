-- What comes next of a member's plans.
use Rattle.std.proofs.Common.{◌≡◌, ℕ, ◌+◌, ◌<◌, ◌≤◌, List, [], ◌∷◌, ◌++◌, map, drop, length, None, Some, refl, sym, ap, ◌∙◌, inl, inr, arith}
use Rattle.std.specs.Prelude.{slice_get}
use Rattle.std.proofs.lemmas.List.{drop_more, drop_all}
use Rattle.std.proofs.lemmas.Option.{slice_get_within, get_or_from_slice_get, slice_get_cases}
use Rattle.cm_plans.specs.Choices.{choice_of}
use Rattle.cm_plans.specs.Left.{IsNextOf, left_at, left_firsts, left_middles, with_firsts, with_middles}
use Rattle.cm_plans.specs.declared.choices.Choice.{Choice as CodeChoice}
use Rattle.cm_plans.specs.declared.choices.Choice.TheVariants.{Nothing}
use Rattle.cm_plans.specs.declared.places.Place.{Place}
use Rattle.model_cred.specs.Right.{Right, Cap, Uid, Gid}
use Rattle.model_plans.specs.Plan.{Choice, first_choices, last_choices, plan_of}

get_next : (xs : List Choice) (k : ℕ) (x : Choice) → slice_get xs k ≡ Some x → drop k xs ≡ x ∷ drop (k + 1) xs
get_next xs k x is =
    drop_more xs k x (slice_get_within xs k x is) ∙ ap (λ (y : Choice). y ∷ drop (k + 1) xs) (get_or_from_slice_get xs k x x is)

get_past : (xs : List Choice) (k : ℕ) → slice_get xs k ≡ None → drop k xs ≡ []
get_past xs k is =
    elim (slice_get_cases xs k).1 [
      | inl there ↦ absurd (let found : slice_get xs k ≡ Some there.0 = there.2 in cc)
      | inr past ↦ drop_all k xs past.0
    ]

-- without middle choices there are no plans
no_middles : (right : Right) (pid : ℕ) (firsts : List Choice) → with_firsts right pid [] firsts ≡ []
no_middles right pid [] = refl
no_middles right pid (first ∷ firsts) = no_middles right pid firsts

module _ (right : Right) (ms : List CodeChoice) (pid : ℕ) (at : Place) where
  pub next_last : (last : CodeChoice) → Some (choice_of last) ≡ slice_get (last_choices right) at.lasts
      → IsNextOf right ms pid (left_at right ms pid at) (Some (record at { lasts = at.lasts + 1 }, last))
  next_last last is =
      ap (λ (ls : List Choice). map (plan_of pid (choice_of at.first) (choice_of at.middle)) ls ++ left_middles right ms pid at)
      (get_next (last_choices right) at.lasts (choice_of last) (sym is))

  pub past_lasts : None ≡ slice_get (last_choices right) at.lasts → left_at right ms pid at ≡ left_middles right ms pid at
  past_lasts is =
      ap (λ (ls : List Choice). map (plan_of pid (choice_of at.first) (choice_of at.middle)) ls ++ left_middles right ms pid at)
      (get_past (last_choices right) at.lasts (sym is))

  pub past_middles : length ms ≤ at.middles → left_middles right ms pid at ≡ left_firsts right ms pid at
  past_middles past =
      ap (λ (left : List CodeChoice). with_middles right pid (choice_of at.first) (map choice_of left) ++ left_firsts right ms pid at)
      (drop_all at.middles ms past)

-- without middle choices nothing is left
pub without_middles : (right : Right) (ms : List CodeChoice) (pid : ℕ) (at : Place) → length ms ≤ 0 → left_firsts right ms pid at ≡ []
without_middles right [] pid at low = no_middles right pid (drop at.firsts first_choices)
without_middles right (m ∷ ms) pid at low = absurd (omega (arith, low))

-- there are at most five last choices
pub lasts_low : (right : Right) (n : ℕ) (x : Choice) → Some x ≡ slice_get (last_choices right) n → n < 5
lasts_low (Cap cap space) n x is = let low : n < 3 = slice_get_within (last_choices (Cap cap space)) n x (sym is) in omega (arith, low)
lasts_low (Uid id) n x is = let low : n < 3 = slice_get_within (last_choices (Uid id)) n x (sym is) in omega (arith, low)
lasts_low (Gid id) n x is = slice_get_within (last_choices (Gid id)) n x (sym is)

no_sixth : (right : Right) → None ≡ slice_get (last_choices right) 5
no_sixth (Cap cap n) = refl
no_sixth _ = refl

pub before_first : (right : Right) (ms : List CodeChoice) (pid n : ℕ) → length ms ≤ n
    → left_at right ms pid (record { first = Nothing; middle = Nothing; firsts = 0; middles = n; lasts = 5 })
    ≡ with_firsts right pid (map choice_of ms) first_choices
before_first right ms pid n past =
    let at : Place = record { first = Nothing; middle = Nothing; firsts = 0; middles = n; lasts = 5 } in
    past_lasts right ms pid at (no_sixth right) ∙ past_middles right ms pid at past
