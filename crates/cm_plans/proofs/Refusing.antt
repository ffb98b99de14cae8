-- Moves that leave a member where it is: a raise of what is raised, and a move to become an id that the member neither has
-- as its real or saved one nor may take by a capability.
use Rattle.std.proofs.Common.{◌≡◌, ℕ, ◌==◌, ◌&&◌, ◌||◌, ◌<◌, Bool, true, false, List, [], ◌∷◌, Option, None, Some}
use Rattle.std.proofs.Common.{if◌then◌else◌, refl, sym, ap, ◌∙◌, inl, inr, subst, arith}
use Rattle.std.specs.Prelude.{find, All, IfSome, Result, Ok}
use Rattle.std.specs.declared.result.Result.TheVariants.{Err}
use Rattle.std.proofs.lemmas.Bool.{cases_Bool, cond-true, cond-false, cond_both, eqb-true, eq-eqb, false≢true}
use Rattle.cm_base.specs.Limits.{id_count}
use Rattle.cm_base.specs.declared.errno.Errno.{Errno}
use Rattle.cm_base.specs.declared.errno.Errno.TheVariants.{EPERM}
use Rattle.cm_idmap.proofs.Faultless.{Fits, map_fits}
use Rattle.cm_idmap.proofs.Taken.{down_maps, up_maps}
use Rattle.cm_plans.specs.Becomes.{may_be}
use Rattle.model_cred.specs.Call.{Call, CapSet, SetUid, SetReUid, SetResUid, SetGid, SetReGid, SetResGid, kind_of}
use Rattle.model_cred.specs.Credential.{Credential, FourIds, is_one_of_three, all_four}
use Rattle.model_cred.specs.IdMap.{Extent, Maps, up, down, extents_of}
use Rattle.model_cred.specs.MapFault.{IsMap}
use Rattle.model_cred.specs.Space.{KeepsSpace}
use Rattle.model_plans.specs.Move.{Seat, Setting, Raise, BecomeZero, BecomeSought, BecomeGroup, uid_calls, gid_calls, calls_with}
use Rattle.model_plans.specs.Move.{becoming_uid, becoming_gid, space_at_seat, sought_uid, sought_gid}
use Rattle.model_plans.specs.Walk.{after, seat_after}
use Rattle.model_rules.proofs.Spaces.{keeps_space_of}
use Rattle.model_rules.specs.SetId.{minus_one, asked, one_mapped, both_mapped, all_mapped, setresid, setreid, setid, saved_after}
use Rattle.model_rules.specs.SetId.{with_uids, with_gids, has_setuid, has_setgid}
use Rattle.model_rules.specs.Zero.{zero_of}

-- ---- what a map gives back
inside_is_id : (map : List Extent) (inside id : ℕ) → IsMap map → Maps map inside id → inside < id_count
inside_is_id map inside id is (k, e, below, at, takes) =
    let fits : Fits e = subst Fits at (map_fits map is k e below) in
    omega (arith, takes.before_end, fits.inside)

-- the optional list is a map, if it is there
given_back : (o : Option (List Extent)) (inside id : ℕ) → IfSome o IsMap → up (extents_of o) id ≡ Some inside
    → (down (extents_of o) inside ≡ Some id) × (inside < id_count)
given_back None inside id is there = absurd (cc)
given_back (Some map) inside id is there =
    let takes : Maps map inside id = (up_maps map inside id is).0 there in
    ((down_maps map inside id is).1 takes, inside_is_id map inside id is takes)

not_minus_one : (inside : ℕ) → inside < id_count → (inside == minus_one) ≡ false
not_minus_one inside below = elim (cases_Bool (inside == minus_one)) [
  | inl same ↦ absurd (let is : inside ≡ minus_one = eqb-true inside minus_one same in omega (arith, below, is))
  | inr other ↦ other
]

-- ---- the three calls are refused
module _ (map : List Extent) (old : FourIds) (inside id : ℕ) (back : down map inside ≡ Some id) (low : inside < id_count)
    (none : is_one_of_three old id ≡ false) where
  asked_inside : asked map old.effective inside ≡ Some id
  asked_inside = cond-false (inside == minus_one) (Some old.effective) (down map inside) (not_minus_one inside low) ∙ back

  none_of_three : (a b : Bool) → ((a && is_one_of_three old id) && b) ≡ false
  none_of_three true b = ap (λ (x : Bool). (true && x) && b) none
  none_of_three false b = refl

  none_of_two : (a : Bool) → (a && is_one_of_three old id) ≡ false
  none_of_two true = none
  none_of_two false = refl

  no_setresid : setresid map false old minus_one inside minus_one ≡ Err EPERM
  no_setresid =
      ap (λ (o : Option ℕ). all_mapped (Some old.real) o (Some old.saved) (λ real effective saved.
      if false || (is_one_of_three old real && is_one_of_three old effective && is_one_of_three old saved)
      then Ok (record { real = real; effective = effective; saved = saved; fs = effective }) else Err EPERM)) asked_inside
      ∙ cond-false (false || (is_one_of_three old old.real && is_one_of_three old id && is_one_of_three old old.saved))
      (Ok (record { real = old.real; effective = id; saved = old.saved; fs = id })) (Err EPERM)
      (none_of_three (is_one_of_three old old.real) (is_one_of_three old old.saved))

  no_setreid : setreid map false old minus_one inside ≡ Err EPERM
  no_setreid =
      ap (λ (o : Option ℕ). both_mapped (Some old.real) o (λ real effective.
      if false || ((real == old.real || real == old.effective) && is_one_of_three old effective)
      then Ok (record { real = real; effective = effective; saved = saved_after old minus_one inside effective; fs = effective })
      else Err EPERM)) asked_inside
      ∙ cond-false (false || ((old.real == old.real || old.real == old.effective) && is_one_of_three old id))
      (Ok (record { real = old.real; effective = id; saved = saved_after old minus_one inside id; fs = id })) (Err EPERM)
      (none_of_two (old.real == old.real || old.real == old.effective))

  no_setid : (id == old.real || id == old.saved) ≡ false → setid map false old inside ≡ Err EPERM
  no_setid neither =
      ap (λ (o : Option ℕ). one_mapped o (λ n.
      if false then Ok (all_four n) else if n == old.real || n == old.saved then Ok (record old { effective = n; fs = n }) else Err EPERM)) back
      ∙ cond-false (id == old.real || id == old.saved) (Ok (record old { effective = id; fs = id })) (Err EPERM) neither

-- neither of two, and not the effective one
none_is : (a b c : Bool) → (a || c) ≡ false → b ≡ false → (a || b || c) ≡ false
none_is false false false neither other = refl
none_is false true c neither other = absurd (false≢true (sym other))
none_is _ _ _ neither other = absurd (false≢true (sym neither))

other_way : (a b : ℕ) → (a == b) ≡ false → (b == a) ≡ false
other_way a b is = elim (cases_Bool (b == a)) [
  | inl same ↦ absurd (false≢true (sym is ∙ eq-eqb a b (sym (eqb-true b a same))))
  | inr other ↦ other
]

unprivileged : (b : Bool) (x y : Bool) → (b || x || y) ≡ false → (b ≡ false) × ((x || y) ≡ false)
unprivileged false x y is = (refl, is)
unprivileged true x y is = absurd (false≢true (sym is))

-- ---- the first of three calls that passes
of_three : (P : Option Call → Type 0) (test : Call → Bool) (a b c : Call) → P None → P (Some a) → P (Some b) → P (Some c)
    → P (find test (a ∷ b ∷ c ∷ []))
of_three P test a b c none one two three = by (test a) (test b) (test c)
  where
    by : (x y z : Bool) → P (if x then Some a else if y then Some b else if z then Some c else None)
    by true y z = one
    by false true z = two
    by false false true = three
    by false false false = none

module _ (q : Setting) (seat : Seat) where
  abbrev Stays : Option Call → Type 0
  Stays o = seat_after q seat o ≡ seat

  abbrev first_of : List Call → Option Call
  first_of calls = find (λ call. q.permitted (kind_of call)) calls

  refused_uids : (r : Result FourIds Errno) → r ≡ Err EPERM → (with_uids (space_at_seat q seat) seat.cred r).cred ≡ seat.cred
  refused_uids r is = ap (λ (x : Result FourIds Errno). (with_uids (space_at_seat q seat) seat.cred x).cred) is

  refused_gids : (r : Result FourIds Errno) → r ≡ Err EPERM → (with_gids seat.cred r).cred ≡ seat.cred
  refused_gids r is = ap (λ (x : Result FourIds Errno). (with_gids seat.cred x).cred) is

  seated : (c : Credential) → c ≡ seat.cred → record { space = seat.space; cred = c } ≡ seat
  seated c is = ap (λ (x : Credential). record { space = seat.space; cred = x }) is

  uid_calls_stay : (id : ℕ) → IfSome (space_at_seat q seat).uids IsMap → has_setuid seat.cred ≡ false
      → (id == seat.cred.uid.real || id == seat.cred.uid.saved) ≡ false → (seat.cred.uid.effective == id) ≡ false
      → (o : Option ℕ) → up (extents_of (space_at_seat q seat).uids) id ≡ o → Stays (first_of (calls_with uid_calls o))
  uid_calls_stay id is may neither other None there = refl
  uid_calls_stay id is may neither other (Some inside) there =
      let map : List Extent = extents_of (space_at_seat q seat).uids in
      let old : FourIds = seat.cred.uid in
      let back = given_back (space_at_seat q seat).uids inside id is there in
      let none : is_one_of_three old id ≡ false
      = none_is (id == old.real) (id == old.effective) (id == old.saved) neither (other_way old.effective id other) in
      of_three Stays (λ call. q.permitted (kind_of call)) (SetResUid minus_one inside minus_one) (SetReUid minus_one inside) (SetUid inside) refl
      (seated _ (refused_uids _ (ap (λ (b : Bool). setresid map b old minus_one inside minus_one) may ∙ no_setresid map old inside id back.0 back.1 none)))
      (seated _ (refused_uids _ (ap (λ (b : Bool). setreid map b old minus_one inside) may ∙ no_setreid map old inside id back.0 back.1 none)))
      (seated _ (refused_uids _ (ap (λ (b : Bool). setid map b old inside) may ∙ no_setid map old inside id back.0 back.1 none neither)))

  gid_calls_stay : (id : ℕ) → IfSome (space_at_seat q seat).gids IsMap → has_setgid seat.cred ≡ false
      → (id == seat.cred.gid.real || id == seat.cred.gid.saved) ≡ false → (seat.cred.gid.effective == id) ≡ false
      → (o : Option ℕ) → up (extents_of (space_at_seat q seat).gids) id ≡ o → Stays (first_of (calls_with gid_calls o))
  gid_calls_stay id is may neither other None there = refl
  gid_calls_stay id is may neither other (Some inside) there =
      let map : List Extent = extents_of (space_at_seat q seat).gids in
      let old : FourIds = seat.cred.gid in
      let back = given_back (space_at_seat q seat).gids inside id is there in
      let none : is_one_of_three old id ≡ false
      = none_is (id == old.real) (id == old.effective) (id == old.saved) neither (other_way old.effective id other) in
      of_three Stays (λ call. q.permitted (kind_of call)) (SetResGid minus_one inside minus_one) (SetReGid minus_one inside) (SetGid inside) refl
      (seated _ (refused_gids _ (ap (λ (b : Bool). setresid map b old minus_one inside minus_one) may ∙ no_setresid map old inside id back.0 back.1 none)))
      (seated _ (refused_gids _ (ap (λ (b : Bool). setreid map b old minus_one inside) may ∙ no_setreid map old inside id back.0 back.1 none)))
      (seated _ (refused_gids _ (ap (λ (b : Bool). setid map b old inside) may ∙ no_setid map old inside id back.0 back.1 none neither)))

  uid_stays : (o : Option ℕ) → KeepsSpace (space_at_seat q seat) → may_be (has_setuid seat.cred) seat.cred.uid o ≡ false
      → Stays (first_of (becoming_uid (space_at_seat q seat) seat.cred o))
  uid_stays None keeps is = refl
  uid_stays (Some id) keeps is =
      let parts = unprivileged (has_setuid seat.cred) (id == seat.cred.uid.real) (id == seat.cred.uid.saved) is in
      cond_both (seat.cred.uid.effective == id) []
      (calls_with uid_calls (up (extents_of (space_at_seat q seat).uids) id)) (λ cs. Stays (first_of cs)) (λ same. refl)
      (λ other. uid_calls_stay id keeps.uid_map parts.0 parts.1 other (up (extents_of (space_at_seat q seat).uids) id) refl)

  gid_stays : (o : Option ℕ) → KeepsSpace (space_at_seat q seat) → may_be (has_setgid seat.cred) seat.cred.gid o ≡ false
      → Stays (first_of (becoming_gid (space_at_seat q seat) seat.cred o))
  gid_stays None keeps is = refl
  gid_stays (Some id) keeps is =
      let parts = unprivileged (has_setgid seat.cred) (id == seat.cred.gid.real) (id == seat.cred.gid.saved) is in
      cond_both (seat.cred.gid.effective == id) []
      (calls_with gid_calls (up (extents_of (space_at_seat q seat).gids) id)) (λ cs. Stays (first_of cs)) (λ same. refl)
      (λ other. gid_calls_stay id keeps.gid_map parts.0 parts.1 other (up (extents_of (space_at_seat q seat).gids) id) refl)

  -- ---- the moves
  pub raise_stays : (seat.cred.effective == seat.cred.permitted) ≡ true → after q seat Raise ≡ seat
  raise_stays same =
      ap (λ (cs : List Call). seat_after q seat (first_of cs))
      (cond-true (seat.cred.effective == seat.cred.permitted) []
      (CapSet seat.cred.permitted seat.cred.permitted seat.cred.inheritable ∷ []) same)

  pub zero_stays : All KeepsSpace q.spaces → may_be (has_setuid seat.cred) seat.cred.uid (zero_of (space_at_seat q seat)) ≡ false
      → after q seat BecomeZero ≡ seat
  zero_stays keeps is = uid_stays (zero_of (space_at_seat q seat)) (keeps_space_of q.spaces seat.space keeps) is

  pub sought_stays : All KeepsSpace q.spaces → may_be (has_setuid seat.cred) seat.cred.uid (sought_uid q.spaces seat.space q.right) ≡ false
      → after q seat BecomeSought ≡ seat
  sought_stays keeps is = uid_stays (sought_uid q.spaces seat.space q.right) (keeps_space_of q.spaces seat.space keeps) is

  pub group_stays : All KeepsSpace q.spaces → may_be (has_setgid seat.cred) seat.cred.gid (sought_gid q.right) ≡ false
      → after q seat BecomeGroup ≡ seat
  group_stays keeps is = gid_stays (sought_gid q.right) (keeps_space_of q.spaces seat.space keeps) is
