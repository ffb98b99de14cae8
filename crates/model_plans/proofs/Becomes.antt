-- Who may make an id its effective one has it after the move.
use Rattle.std.proofs.Common.{◌≡◌, ◌⊎◌, ℕ, ◌==◌, ◌&&◌, ◌||◌, Bool, true, false, List, [], ◌∷◌, Option, None, Some}
use Rattle.std.proofs.Common.{if◌then◌else◌, refl, sym, ap, ◌∙◌, inl, inr}
use Rattle.std.specs.Prelude.{find, Result, Ok}
use Rattle.std.specs.declared.result.Result.TheVariants.{Err}
use Rattle.std.proofs.lemmas.Bool.{cases_Bool, cond-true, cond-false, eqb-true, eq-eqb, and_from, or_cases, or_left, or_right}
use Rattle.std.proofs.lemmas.Bool.{not-true}
use Rattle.cm_base.specs.declared.errno.Errno.{Errno}
use Rattle.cm_base.specs.declared.errno.Errno.TheVariants.{EPERM}
use Rattle.model_cred.specs.Call as model
use Rattle.model_cred.specs.Call.{Call, kind_of}
use Rattle.model_cred.specs.Credential.{Credential, FourIds, is_one_of_three, all_four}
use Rattle.model_cred.specs.IdMap.{Extent, up, down, extents_of}
use Rattle.model_cred.specs.Space.{Space}
use Rattle.model_rules.specs.SetId.{minus_one, asked, one_mapped, both_mapped, all_mapped, setresid, setreid, setid, saved_after}
use Rattle.model_rules.specs.SetId.{with_uids, with_gids, has_setuid, has_setgid}
use Rattle.model_rules.specs.Zero.{zero_of}
use Rattle.model_laws.proofs.SavedIds.{fixed_uid}
use Rattle.model_plans.specs.Move.{Seat, Setting, uid_calls, gid_calls, calls_with, becoming, becoming_uid, becoming_gid, space_at_seat}
use Rattle.model_plans.specs.Move.{sought_uid, sought_gid}
use Rattle.model_plans.specs.Walk.{seat_after}
use Rattle.model_plans.specs.Effects.{StandsFor, CanBecome, CanBecomeGroup, BecomesAreDone}

-- the new ids have this one as the effective one
record Gives (id : ℕ) (r : Result FourIds Errno) : Type 0 where
  ids : FourIds
  done : r ≡ Ok ids
  effective : ids.effective ≡ id

-- ---- the three calls, of users and of groups
asked_inside : (map : List Extent) (old inside id : ℕ) → StandsFor map inside id → asked map old inside ≡ Some id
asked_inside map old inside id stands =
    cond-false (inside == minus_one) (Some old) (down map inside) (not-true (inside == minus_one) stands.given) ∙ stands.down

-- who has the capability may, and who asks for ids that are its own
either_way : (privileged other : Bool) (A : Type 0) → (privileged ≡ true) ⊎ A → (A → other ≡ true) → (privileged || other) ≡ true
either_way privileged other A (inl has) own = or_left privileged other has
either_way privileged other A (inr is) own = or_right privileged other (own is)

gives_setresid : (map : List Extent) (privileged : Bool) (old : FourIds) (inside id : ℕ) → StandsFor map inside id
    → (privileged ≡ true) ⊎ (is_one_of_three old id ≡ true) → Gives id (setresid map privileged old minus_one inside minus_one)
gives_setresid map privileged old inside id stands allowed =
    let new : FourIds = record { real = old.real; effective = id; saved = old.saved; fs = id } in
    let may : Bool = privileged || (is_one_of_three old old.real && is_one_of_three old id && is_one_of_three old old.saved) in
    record {
      ids = new;
      done = ap (λ (o : Option ℕ). all_mapped (Some old.real) o (Some old.saved) (λ real effective saved.
          if privileged || (is_one_of_three old real && is_one_of_three old effective && is_one_of_three old saved)
          then Ok (record { real = real; effective = effective; saved = saved; fs = effective }) else Err EPERM))
          (asked_inside map old.effective inside id stands)
          ∙ cond-true may (Ok new) (Err EPERM)
          (either_way privileged _ (is_one_of_three old id ≡ true) allowed (λ it.
          and_from _ _
          (and_from _ _
          (or_left _ (old.real == old.saved) (or_left (old.real == old.real) (old.real == old.effective) (eq-eqb old.real old.real refl)))
          it)
          (or_right _ (old.saved == old.saved) (eq-eqb old.saved old.saved refl))));
      effective = refl;
    }

gives_setreid : (map : List Extent) (privileged : Bool) (old : FourIds) (inside id : ℕ) → StandsFor map inside id
    → (privileged ≡ true) ⊎ (is_one_of_three old id ≡ true) → Gives id (setreid map privileged old minus_one inside)
gives_setreid map privileged old inside id stands allowed =
    let new : FourIds = record { real = old.real; effective = id; saved = saved_after old minus_one inside id; fs = id } in
    let may : Bool = privileged || ((old.real == old.real || old.real == old.effective) && is_one_of_three old id) in
    record {
      ids = new;
      done = ap (λ (o : Option ℕ). both_mapped (Some old.real) o (λ real effective.
          if privileged || ((real == old.real || real == old.effective) && is_one_of_three old effective)
          then Ok (record { real = real; effective = effective; saved = saved_after old minus_one inside effective; fs = effective })
          else Err EPERM))
          (asked_inside map old.effective inside id stands)
          ∙ cond-true may (Ok new) (Err EPERM)
          (either_way privileged _ (is_one_of_three old id ≡ true) allowed (λ it.
          and_from _ _ (or_left (old.real == old.real) (old.real == old.effective) (eq-eqb old.real old.real refl)) it));
      effective = refl;
    }

-- one of three that isn't the effective id is the real or the saved one
real_or_saved : (old : FourIds) (id : ℕ) → (old.effective == id) ≡ false → is_one_of_three old id ≡ true → (id == old.real || id == old.saved) ≡ true
real_or_saved old id other it =
    elim (or_cases (id == old.real || id == old.effective) (id == old.saved) it) [
      | inl first ↦ elim (or_cases (id == old.real) (id == old.effective) first) [
        | inl real ↦ or_left (id == old.real) (id == old.saved) real
        | inr effective ↦
            absurd (let same : id ≡ old.effective = eqb-true id old.effective effective in
            let no : true ≡ false = sym (eq-eqb old.effective id (sym same)) ∙ other in
            cc)
      ]
      | inr saved ↦ or_right (id == old.real) (id == old.saved) saved
    ]

gives_setid : (map : List Extent) (privileged : Bool) (old : FourIds) (inside id : ℕ) → StandsFor map inside id → (old.effective == id) ≡ false
    → (privileged ≡ true) ⊎ (is_one_of_three old id ≡ true) → Gives id (setid map privileged old inside)
gives_setid map privileged old inside id stands other allowed = by privileged allowed
  where
    mapped : (b : Bool) → setid map b old inside
        ≡ (if b then Ok (all_four id) else if id == old.real || id == old.saved then Ok (record old { effective = id; fs = id }) else Err EPERM)
    mapped b = ap (λ (o : Option ℕ). one_mapped o (λ n.
        if b then Ok (all_four n) else if n == old.real || n == old.saved then Ok (record old { effective = n; fs = n }) else Err EPERM)) stands.down

    by : (b : Bool) → (b ≡ true) ⊎ (is_one_of_three old id ≡ true) → Gives id (setid map b old inside)
    by true may = record { ids = all_four id; done = mapped true; effective = refl }
    by false (inl wrong) = absurd (cc)
    by false (inr it) = record {
      ids = record old { effective = id; fs = id };
      done = mapped false
          ∙ cond-true (id == old.real || id == old.saved) (Ok (record old { effective = id; fs = id })) (Err EPERM) (real_or_saved old id other it);
      effective = refl;
    }

-- ---- what they leave
uid_made : (s : Space) (c : Credential) (r : Result FourIds Errno) (id : ℕ) → Gives id r → (with_uids s c r).cred.uid.effective ≡ id
uid_made s c r id gives =
    ap (λ (x : Result FourIds Errno). (with_uids s c x).cred.uid.effective) gives.done
    ∙ ap (λ (ids : FourIds). ids.effective) (fixed_uid s c.uid (record c { uid = gives.ids }))
    ∙ gives.effective

gid_made : (c : Credential) (r : Result FourIds Errno) (id : ℕ) → Gives id r → (with_gids c r).cred.gid.effective ≡ id
gid_made c r id gives = ap (λ (x : Result FourIds Errno). (with_gids c x).cred.gid.effective) gives.done ∙ gives.effective

-- ---- the move
-- what holds of each of three calls holds of the first that passes, where one does
of_three : (P : Option Call → Type 0) (test : Call → Bool) (a b c : Call) → (test a || test b || test c) ≡ true
    → P (Some a) → P (Some b) → P (Some c) → P (find test (a ∷ b ∷ c ∷ []))
of_three P test a b c some one two three = by (test a) (test b) (test c) some
  where
    by : (x y z : Bool) → (x || y || z) ≡ true → P (if x then Some a else if y then Some b else if z then Some c else None)
    by true y z it = one
    by false true z it = two
    by false false true it = three
    by false false false wrong = absurd (cc)

module _ (q : Setting) (seat : Seat) (inside id : ℕ) where
  abbrev first_call : List Call → Option Call
  first_call calls = find (λ call. q.permitted (kind_of call)) calls

  -- the calls of a move to another id are those with its inside id
  calls_are : (calls : ℕ → List Call) (map : List Extent) (now : ℕ) → StandsFor map inside id → (now == id) ≡ false
      → becoming calls map now (Some id) ≡ calls inside
  calls_are calls map now stands other = cond-false (now == id) [] (calls_with calls (up map id)) other ∙ ap (calls_with calls) stands.up

  uid_done : CanBecome q seat inside id
      → (seat_after q seat (first_call (becoming_uid (space_at_seat q seat) seat.cred (Some id)))).cred.uid.effective ≡ id
  uid_done can =
      let s : Space = space_at_seat q seat in
      let c : Credential = seat.cred in
      elim (cases_Bool (c.uid.effective == id)) [
        | inl same ↦
            ap (λ (calls : List Call). (seat_after q seat (first_call calls)).cred.uid.effective)
            (cond-true (c.uid.effective == id) [] (calls_with uid_calls (up (extents_of s.uids) id)) same)
            ∙ eqb-true c.uid.effective id same
        | inr other ↦
            ap (λ (calls : List Call). (seat_after q seat (first_call calls)).cred.uid.effective)
            (calls_are uid_calls (extents_of s.uids) c.uid.effective can.mapped other)
            ∙ of_three (λ o. (seat_after q seat o).cred.uid.effective ≡ id) (λ call. q.permitted (kind_of call))
            (model.SetResUid minus_one inside minus_one) (model.SetReUid minus_one inside) (model.SetUid inside) can.permitted
            (uid_made s c _ id (gives_setresid (extents_of s.uids) (has_setuid c) c.uid inside id can.mapped can.allowed))
            (uid_made s c _ id (gives_setreid (extents_of s.uids) (has_setuid c) c.uid inside id can.mapped can.allowed))
            (uid_made s c _ id (gives_setid (extents_of s.uids) (has_setuid c) c.uid inside id can.mapped other can.allowed))
      ]

  gid_done : CanBecomeGroup q seat inside id
      → (seat_after q seat (first_call (becoming_gid (space_at_seat q seat) seat.cred (Some id)))).cred.gid.effective ≡ id
  gid_done can =
      let s : Space = space_at_seat q seat in
      let c : Credential = seat.cred in
      elim (cases_Bool (c.gid.effective == id)) [
        | inl same ↦
            ap (λ (calls : List Call). (seat_after q seat (first_call calls)).cred.gid.effective)
            (cond-true (c.gid.effective == id) [] (calls_with gid_calls (up (extents_of s.gids) id)) same)
            ∙ eqb-true c.gid.effective id same
        | inr other ↦
            ap (λ (calls : List Call). (seat_after q seat (first_call calls)).cred.gid.effective)
            (calls_are gid_calls (extents_of s.gids) c.gid.effective can.mapped other)
            ∙ of_three (λ o. (seat_after q seat o).cred.gid.effective ≡ id) (λ call. q.permitted (kind_of call))
            (model.SetResGid minus_one inside minus_one) (model.SetReGid minus_one inside) (model.SetGid inside) can.permitted
            (gid_made c _ id (gives_setresid (extents_of s.gids) (has_setgid c) c.gid inside id can.mapped can.allowed))
            (gid_made c _ id (gives_setreid (extents_of s.gids) (has_setgid c) c.gid inside id can.mapped can.allowed))
            (gid_made c _ id (gives_setid (extents_of s.gids) (has_setgid c) c.gid inside id can.mapped other can.allowed))
      ]

  -- of an optional id that is this one
  uid_done_at : (o : Option ℕ) → o ≡ Some id → CanBecome q seat inside id
      → (seat_after q seat (first_call (becoming_uid (space_at_seat q seat) seat.cred o))).cred.uid.effective ≡ id
  uid_done_at o is can =
      ap (λ (x : Option ℕ). (seat_after q seat (first_call (becoming_uid (space_at_seat q seat) seat.cred x))).cred.uid.effective) is ∙ uid_done can

  gid_done_at : (o : Option ℕ) → o ≡ Some id → CanBecomeGroup q seat inside id
      → (seat_after q seat (first_call (becoming_gid (space_at_seat q seat) seat.cred o))).cred.gid.effective ≡ id
  gid_done_at o is can =
      ap (λ (x : Option ℕ). (seat_after q seat (first_call (becoming_gid (space_at_seat q seat) seat.cred x))).cred.gid.effective) is ∙ gid_done can

pub becomes_are_done : BecomesAreDone
becomes_are_done = record {
  zero = λ q seat inside id is can. uid_done_at q seat inside id (zero_of (space_at_seat q seat)) is can;
  sought = λ q seat inside id is can. uid_done_at q seat inside id (sought_uid q.spaces seat.space q.right) is can;
  group = λ q seat inside id is can. gid_done_at q seat inside id (sought_gid q.right) is can;
}
