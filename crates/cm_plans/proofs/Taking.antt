-- What taking a group comes to.
use Rattle.std.proofs.Common.{◌≡◌, ℕ, ◌==◌, ◌||◌, Bool, true, false, [], ◌∷◌, Option, None, Some, if◌then◌else◌, refl, sym, ap, ◌∙◌, inl, inr}
use Rattle.std.specs.Prelude.{find, not, ◌&&◌, is_none, option_and_then, option_map}
use Rattle.std.specs.List.{list_any}
use Rattle.std.proofs.lemmas.Bool.{false≢true, eq-eqb, eqb-true, or_left, or_right, or_cases}
use Rattle.cm_base.specs.declared.errno.Errno.TheVariants.{EPERM}
use Rattle.model_rules.specs.Answer.{Answer, refused}
use Rattle.model_run.specs.Holds.{holds_right}
use Rattle.model_plans.specs.Plan.{then_raise}
use Rattle.cm_filter.specs.declared.kind.CallKind.TheVariants as kind
use Rattle.cm_plans.specs.Takes.{takes, takes_by}
use Rattle.model_cred.specs.Call.{Call, SetGroups, CapSet, kind_of}
use Rattle.model_cred.specs.Credential.{Credential}
use Rattle.model_cred.specs.IdMap.{down, up, extents_of, is_the}
use Rattle.model_cred.specs.Right.{Right, Gid}
use Rattle.model_plans.specs.Move.{Setting, Seat, Raise, TakeGroup, space_at_seat, calls_with, group_calls, taking_group, sought_gid}
use Rattle.model_plans.specs.Walk.{after, after_moves, seat_after, seat_holds}
use Rattle.model_rules.specs.CapCalls.{capset, may_capset}
use Rattle.model_rules.specs.SetGroups.{with_groups}
use Rattle.model_rules.specs.SetId.{has_setgid}

-- the credential has the group
abbrev pub has_group : Credential → ℕ → Bool
has_group c g = c.gid.effective == g || list_any (λ group. group == g) c.groups

of_option : {A : Type 0} (b : Bool) (x : A) (P : Option A → Type 0) → P None → P (Some x) → P (if b then Some x else None)
of_option true x P none some = some
of_option false x P none some = none

either_group : (b : Bool) (x y : Answer) (c : Credential) (g : ℕ) → has_group x.cred g ≡ has_group c g → has_group y.cred g ≡ has_group c g
    → has_group (if b then x else y).cred g ≡ has_group c g
either_group true x y c g first second = first
either_group false x y c g first second = second

-- a raise leaves the groups
module _ (q : Setting) (seat : Seat) (g : ℕ) where
  capset_group : (e p i : ℕ) → has_group (capset seat.cred e p i).cred g ≡ has_group seat.cred g
  capset_group e p i = either_group (may_capset seat.cred e p i) _ _ seat.cred g refl refl

  raise_group : has_group (after q seat Raise).cred g ≡ has_group seat.cred g
  raise_group = elim (seat.cred.effective == seat.cred.permitted)
      as (λ (b : Bool). has_group (seat_after q seat (find (λ call. q.permitted (kind_of call))
      (if b then [] else CapSet seat.cred.permitted seat.cred.permitted seat.cred.inheritable ∷ []))).cred g ≡ has_group seat.cred g) [
        | true ↦ refl
        | false ↦ of_option (q.permitted kind.CapSet) (CapSet seat.cred.permitted seat.cred.permitted seat.cred.inheritable)
            (λ (o : Option Call). has_group (seat_after q seat o).cred g ≡ has_group seat.cred g) refl
            (capset_group seat.cred.permitted seat.cred.permitted seat.cred.inheritable)
      ]

  -- setgroups with one id, by what it looks at
  abbrev group_answer : Bool → Bool → Bool → Option ℕ → Credential
  group_answer can none deny mapped =
      (if not can || none || deny then refused EPERM seat.cred
      else with_groups seat.cred (option_and_then (λ first. option_map (λ rest. first ∷ rest) (Some [])) mapped)).cred

  abbrev group_move : Bool → Bool → Bool → Bool → Option ℕ → Credential
  group_move permitted can none deny mapped = if permitted then group_answer can none deny mapped else seat.cred

  taken_by : (permitted can none deny : Bool) (mapped : Option ℕ)
      → (permitted && can && not none && not deny && is_the mapped g) ≡ true → has_group (group_move permitted can none deny mapped) g ≡ true
  taken_by true true false false (Some x) is = or_right (seat.cred.gid.effective == g) (x == g || false)
      (or_left (x == g) false (eq-eqb x g (sym (eqb-true g x is))))
  taken_by _ _ _ _ _ is = absurd (false≢true is)

  kept_by : (permitted can none deny : Bool) (mapped : Option ℕ)
      → (permitted && can && not none && not deny && is_the mapped g) ≡ false → has_group (group_move permitted can none deny mapped) g ≡ true
      → has_group seat.cred g ≡ true
  kept_by true true false false (Some x) is has = elim (or_cases (seat.cred.gid.effective == g) (x == g || false) has) [
    | inl own ↦ or_left (seat.cred.gid.effective == g) (list_any (λ group. group == g) seat.cred.groups) own
    | inr new ↦ elim (or_cases (x == g) false new) [
      | inl same ↦ absurd (false≢true (sym is ∙ eq-eqb g x (sym (eqb-true x g same))))
      | inr wrong ↦ absurd (false≢true wrong)
    ]
  ]
  kept_by _ _ _ _ _ is has = has

  abbrev group_call : Option ℕ → Option Call
  group_call inside = find (λ call. q.permitted (kind_of call)) (calls_with group_calls inside)

  -- the credential after the move, by the inside id
  abbrev cred_by : Option ℕ → Credential
  cred_by inside = (seat_after q seat (group_call inside)).cred

  by_move : (inside : ℕ) → cred_by (Some inside)
      ≡ group_move (q.permitted kind.SetGroups) (has_setgid seat.cred) (is_none (space_at_seat q seat).gids) (space_at_seat q seat).deny
      (down (extents_of (space_at_seat q seat).gids) inside)
  by_move inside = elim (q.permitted kind.SetGroups)
      as (λ (b : Bool). (seat_after q seat (if b then Some (SetGroups (inside ∷ [])) else None)).cred
      ≡ group_move b (has_setgid seat.cred) (is_none (space_at_seat q seat).gids) (space_at_seat q seat).deny
      (down (extents_of (space_at_seat q seat).gids) inside)) [ true ↦ refl | false ↦ refl ]

  taken_in : (inside : Option ℕ) → takes_by q seat (space_at_seat q seat) g inside ≡ true → has_group (cred_by inside) g ≡ true
  taken_in None is = absurd (false≢true is)
  taken_in (Some inside) is = ap (λ (c : Credential). has_group c g) (by_move inside) ∙ taken_by _ _ _ _ _ is

  kept_in : (inside : Option ℕ) → takes_by q seat (space_at_seat q seat) g inside ≡ false → has_group (cred_by inside) g ≡ true
      → has_group seat.cred g ≡ true
  kept_in None is has = has
  kept_in (Some inside) is has = kept_by _ _ _ _ _ is (sym (ap (λ (c : Credential). has_group c g) (by_move inside)) ∙ has)

module _ (q : Setting) (seat : Seat) (g : ℕ) (right : q.right ≡ Gid g) where
  after_take : (after q seat TakeGroup).cred ≡ cred_by q seat g (up (extents_of (space_at_seat q seat).gids) g)
  after_take = ap (λ (r : Right). (seat_after q seat (find (λ call. q.permitted (kind_of call)) (taking_group (space_at_seat q seat) (sought_gid r)))).cred) right

  holds_group : (at : Seat) → seat_holds q at ≡ has_group at.cred g
  holds_group at = ap (holds_right q.spaces at.space at.cred) right

  -- after the move and a raise
  then_holds : seat_holds q (after_moves q seat (then_raise (TakeGroup ∷ []))) ≡ has_group (after q seat TakeGroup).cred g
  then_holds = holds_group (after q (after q seat TakeGroup) Raise) ∙ raise_group q (after q seat TakeGroup) g

  now_holds : seat_holds q (after_moves q seat (then_raise [])) ≡ has_group seat.cred g
  now_holds = holds_group (after q seat Raise) ∙ raise_group q seat g

  pub take_ends : takes q seat g ≡ true → seat_holds q (after_moves q seat (then_raise (TakeGroup ∷ []))) ≡ true
  take_ends is = then_holds ∙ ap (λ (c : Credential). has_group c g) after_take ∙ taken_in q seat g (up (extents_of (space_at_seat q seat).gids) g) is

  pub take_fails : takes q seat g ≡ false → seat_holds q (after_moves q seat (then_raise [])) ≡ false
      → seat_holds q (after_moves q seat (then_raise (TakeGroup ∷ []))) ≡ false
  take_fails is none = by (seat_holds q (after_moves q seat (then_raise (TakeGroup ∷ [])))) refl where
    by : (b : Bool) → seat_holds q (after_moves q seat (then_raise (TakeGroup ∷ []))) ≡ b → b ≡ false
    by false _ = refl
    by true held =
        let has : has_group seat.cred g ≡ true
        = kept_in q seat g (up (extents_of (space_at_seat q seat).gids) g) is
        (sym (ap (λ (c : Credential). has_group c g) after_take) ∙ sym then_holds ∙ held) in
        absurd (false≢true (sym none ∙ now_holds ∙ has))
