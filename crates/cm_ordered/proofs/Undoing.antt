-- What is put back gives the list as it was.
use Rattle.std.proofs.Common.{◌≡◌, ℕ, ◌≤◌, Bool, true, false, not, cond, find, map, length, List, [], ◌∷◌, ◌++◌}
use Rattle.std.proofs.Common.{Option, Some, None, refl, sym, ◌∙◌, ap, arith, subst}
use Rattle.std.proofs.lemmas.Bool.{cond-true, cond-false}
use Rattle.std.specs.Prelude.{vec_capacity, Vec}
use Rattle.cm_ordered.specs.Order.{AllSay, Ascends, before_by, below_by, has_number, others_by, put_by}
use Rattle.cm_ordered.specs.Undone.{Undo, put_back, undone, HasRoom, saving_at, saved_list, CanUndo}
use Rattle.cm_ordered.proofs.Among.{none_found_goes}
use Rattle.cm_ordered.proofs.Order.{all_along, keeps_all, none_after}
use Rattle.cm_ordered.proofs.Puts.{put_first, put_for, put_past}

-- ---- one number
-- a thing is put as if none of its number stood there
put_others : {A : Type 0} (number : A → ℕ) (n : ℕ) (x : A) (ys : List A) → n ≡ number x → Ascends (before_by number) ys
    → put_by number x (others_by number n ys) ≡ put_by number x ys
put_others number n x [] is up = refl
put_others number n x (y ∷ ys) is up =
    (elim (has_number number n y) as (λ b. has_number number n y ≡ b
    → put_by number x (cond (not b) (y ∷ others_by number n ys) (others_by number n ys)) ≡ put_by number x (y ∷ ys)) [
      | true ↦ λ same.
          let reached : below_by number n y ≡ false = grind (arith, same) in
          let one : number y ≡ number x = grind (arith, is, same) in
          let after : AllSay (before_by number x) true ys =
          all_along (before_by number y) (before_by number x) true true ys (λ z h. grind (arith, one, h)) up.0 in
          ap (put_by number x) (keeps_all (has_number number n) ys (none_after number n y ys reached up.0))
          ∙ put_first number x ys after ∙ sym (put_for number x y ys one)
      | false ↦ λ differs. (elim (before_by number x y) as (λ b. before_by number x y ≡ b
          → cond b (x ∷ y ∷ others_by number n ys) (cond (before_by number y x)
          (y ∷ put_by number x (others_by number n ys)) (x ∷ others_by number n ys))
          ≡ cond b (x ∷ y ∷ ys) (cond (before_by number y x) (y ∷ put_by number x ys) (x ∷ ys))) [
            | true ↦ λ first.
                let reached : below_by number n y ≡ false = grind (arith, is, first) in
                ap (λ l. x ∷ y ∷ l) (keeps_all (has_number number n) ys (none_after number n y ys reached up.0))
            | false ↦ λ later.
                let lower : before_by number y x ≡ true = grind (arith, is, differs, later) in
                cond-true (before_by number y x) _ _ lower
                ∙ ap (λ l. y ∷ l) (put_others number n x ys is up.1)
                ∙ sym (cond-true (before_by number y x) _ _ lower)
          ]) refl
    ]) refl

-- what is found has what all have
found_says : {A : Type 0} (test same : A → Bool) (x : A) (ys : List A) → AllSay test true ys → find same ys ≡ Some x
    → test x ≡ true
found_says test same x [] all is = absurd (cc)
found_says test same x (y ∷ ys) all is =
    (elim (same y) as (λ b. cond b (Some y) (find same ys) ≡ Some x → test x ≡ true) [
      | true ↦ λ here. let one : y ≡ x = cc in ap test (sym one) ∙ all.0
      | false ↦ λ there. found_says test same x ys all.1 there
    ]) is

-- what is found has its number
found_number : {A : Type 0} (number : A → ℕ) (n : ℕ) (x : A) (ys : List A) → find (has_number number n) ys ≡ Some x
    → n ≡ number x
found_number number n x [] is = absurd (cc)
found_number number n x (y ∷ ys) is =
    (elim (has_number number n y) as (λ b. has_number number n y ≡ b
    → cond b (Some y) (find (has_number number n) ys) ≡ Some x → n ≡ number x) [
      | true ↦ λ same here.
          let one : y ≡ x = cc in
          let own : n ≡ number y = grind (arith, same) in
          own ∙ ap number one
      | false ↦ λ differs there. found_number number n x ys there
    ]) refl is

-- what is found stands in its place
put_found : {A : Type 0} (number : A → ℕ) (n : ℕ) (x : A) (ys : List A) → Ascends (before_by number) ys
    → find (has_number number n) ys ≡ Some x → put_by number x ys ≡ ys
put_found number n x [] up is = absurd (cc)
put_found number n x (y ∷ ys) up is =
    (elim (has_number number n y) as (λ b. has_number number n y ≡ b
    → cond b (Some y) (find (has_number number n) ys) ≡ Some x → put_by number x (y ∷ ys) ≡ y ∷ ys) [
      | true ↦ λ same here.
          let one : y ≡ x = cc in
          put_for number x y ys (ap number one) ∙ ap (λ z. z ∷ ys) (sym one)
      | false ↦ λ differs there.
          let lower : before_by number y x ≡ true =
          found_says (before_by number y) (has_number number n) x ys up.0 there in
          put_past number x y ys lower ∙ ap (λ l. y ∷ l) (put_found number n x ys up.1 there)
    ]) refl is

-- Two lists that ascend and are the same but for what stands at one number: what stands there in the first, put back
-- in the second, gives the first.
put_back_one : {A : Type 0} (number : A → ℕ) (n : ℕ) (old : Option A) (xs ys : List A) → Ascends (before_by number) xs
    → Ascends (before_by number) ys → find (has_number number n) xs ≡ old
    → others_by number n ys ≡ others_by number n xs → put_back number n old ys ≡ xs
put_back_one number n (Some x) xs ys up rises found same =
    let is : n ≡ number x = found_number number n x xs found in
    sym (put_others number n x ys is rises) ∙ ap (put_by number x) same ∙ put_others number n x xs is up
    ∙ put_found number n x xs up found
put_back_one number n None xs ys up rises found same = same ∙ sym (none_found_goes (has_number number n) xs found)

-- the same of what was found there
pub put_back_found : {A : Type 0} (number : A → ℕ) (n : ℕ) (xs ys : List A) → Ascends (before_by number) xs
    → Ascends (before_by number) ys → others_by number n ys ≡ others_by number n xs
    → put_back number n (find (has_number number n) xs) ys ≡ xs
put_back_found number n xs ys up rises same =
    put_back_one number n (find (has_number number n) xs) xs ys up rises refl same

-- ---- many numbers
-- what was saved last is put back first
pub undone_last : {A : Type 0} (number : A → ℕ) (us : List (ℕ × Option A)) (u : ℕ × Option A) (xs : List A)
    → undone number (us ++ u ∷ []) xs ≡ undone number us (put_back number u.0 u.1 xs)
undone_last number [] u xs = refl
undone_last number (v ∷ us) u xs = ap (put_back number v.0 v.1) (undone_last number us u xs)

-- there is room for one more change of a list for which there is room
room_more : {A : Type 0} (number : A → ℕ) (room : ℕ) (us : List (ℕ × Option A)) (u : ℕ × Option A) (xs : List A)
    → length xs ≤ room → HasRoom number room us (put_back number u.0 u.1 xs) → HasRoom number room (us ++ u ∷ []) xs
room_more number room [] u xs fits has = (has, fits)
room_more number room (v ∷ us) u xs fits has = (
  rw (undone_last number us u xs) has.0,
  room_more number room us u xs fits has.1,
)

-- and one change less
pub room_less : {A : Type 0} (number : A → ℕ) (room : ℕ) (us : List (ℕ × Option A)) (u : ℕ × Option A) (xs : List A)
    → HasRoom number room (us ++ u ∷ []) xs
    → (length (put_back number u.0 u.1 xs) ≤ room) × HasRoom number room us (put_back number u.0 u.1 xs)
room_less number room [] u xs has = (has.0, has.0)
room_less number room (v ∷ us) u xs has =
    let rest = room_less number room us u xs has.1 in
    (rest.0, (rw (← undone_last number us u xs) has.0, rest.1))

-- where there is more room
pub room_grown : {A : Type 0} (number : A → ℕ) (room more : ℕ) (us : List (ℕ × Option A)) (xs : List A) → room ≤ more
    → HasRoom number room us xs → HasRoom number more us xs
room_grown number room more [] xs grown has = omega (arith, grown, has)
room_grown number room more (u ∷ us) xs grown has =
    let first = has.0 in
    (omega (arith, grown, first), room_grown number room more us xs grown has.1)

-- ---- a change at one number, at which all was saved before
-- the list at the savepoint stays
pub saved_stays : {A : Type 0} (number : A → ℕ) (n room : ℕ) (xs ys : List A) (u : Undo A) → CanUndo number u xs room
    → Ascends (before_by number) ys → others_by number n ys ≡ others_by number n xs
    → saved_list number (saving_at number n xs u) ys ≡ saved_list number u xs
saved_stays number n room xs ys u can rises same =
    (elim u.saving as (λ b. u.saving ≡ b → saved_list number (cond b (record {
      saving = true;
      entries = u.entries ++ (n, find (has_number number n) xs) ∷ [];
    }) u) ys ≡ cond b (Some (undone number u.entries xs)) None) [
      | true ↦ λ saving. ap Some (undone_last number u.entries (n, find (has_number number n) xs) ys
          ∙ ap (undone number u.entries) (put_back_found number n xs ys can.ascends rises same))
      | false ↦ λ idle. cond-false u.saving _ _ idle
    ]) refl

-- it can still be put back
pub can_still : {A : Type 0} (number : A → ℕ) (n room more : ℕ) (xs ys : List A) (u : Undo A)
    → CanUndo number u xs room → Ascends (before_by number) ys → others_by number n ys ≡ others_by number n xs
    → room ≤ more → length ys ≤ more → CanUndo number (saving_at number n xs u) ys more
can_still number n room more xs ys u can rises same grown fits =
    (elim u.saving as (λ b. u.saving ≡ b → CanUndo number (cond b (record {
      saving = true;
      entries = u.entries ++ (n, find (has_number number n) xs) ∷ [];
    }) u) ys more) [
      | true ↦ λ saving. record {
        ascends = rises;
        room = λ _. room_more number more u.entries (n, find (has_number number n) xs) ys fits
            (rw (put_back_found number n xs ys can.ascends rises same)
            (room_grown number room more u.entries xs grown (can.room saving)));
      }
      | false ↦ λ idle. record { ascends = rises; room = λ is. absurd (cc) }
    ]) refl

-- ---- what is the same but at one number
-- a thing put in its place
pub others_put : {A : Type 0} (number : A → ℕ) (n : ℕ) (x : A) (ys : List A) → n ≡ number x
    → others_by number n (put_by number x ys) ≡ others_by number n ys
others_put number n x [] is = grind (arith, is)
others_put number n x (y ∷ ys) is = let rest = others_put number n x ys is in grind (arith, rest, is)

-- a thing that went
pub others_left : {A : Type 0} (number : A → ℕ) (n : ℕ) (ys : List A)
    → others_by number n (others_by number n ys) ≡ others_by number n ys
others_left number n [] = refl
others_left number n (y ∷ ys) = let rest = others_left number n ys in grind (arith, rest)

-- a change of the thing of that number, which leaves it its number
pub others_changed : {A : Type 0} (number : A → ℕ) (n : ℕ) (change : A → A) (ys : List A)
    → ((y : A) → number (change y) ≡ number y) → ((y : A) → has_number number n y ≡ false → change y ≡ y)
    → others_by number n (map change ys) ≡ others_by number n ys
others_changed number n change [] keeps stays = refl
others_changed number n change (y ∷ ys) keeps stays =
    let rest = others_changed number n change ys keeps stays in
    let here = keeps y in
    let still = stays y in
    grind (arith, rest, here, still)

-- ---- lists in memory
-- a list fits in its memory
pub vec_fits : {X Z : Type 0} (v : Vec X Z) → length v.items ≤ vec_capacity v
vec_fits v =
    let size = v.ok.0 in
    let within = v.ok.1 in
    omega (arith, size, within)

-- it can still be put back after such a change
pub vec_still : {A Z : Type 0} {number : A → ℕ} {u t : Undo A} (n : ℕ) (v w : Vec A Z)
    → CanUndo number u v.items (vec_capacity v) → t ≡ saving_at number n v.items u → Ascends (before_by number) w.items
    → others_by number n w.items ≡ others_by number n v.items → vec_capacity v ≤ vec_capacity w
    → CanUndo number t w.items (vec_capacity w)
vec_still {number = number} {u = u} n v w can saved rises same grown =
    rw saved (can_still number n (vec_capacity v) (vec_capacity w) v.items w.items u can rises same grown (vec_fits w))

-- the list at the savepoint stays
pub vec_saved : {A Z : Type 0} {number : A → ℕ} {u t : Undo A} (n : ℕ) (v w : Vec A Z)
    → CanUndo number u v.items (vec_capacity v) → t ≡ saving_at number n v.items u → Ascends (before_by number) w.items
    → others_by number n w.items ≡ others_by number n v.items
    → saved_list number t w.items ≡ saved_list number u v.items
vec_saved {number = number} {u = u} n v w can saved rises same =
    rw saved (saved_stays number n (vec_capacity v) v.items w.items u can rises same)

-- a list that is the same, with more memory
pub vec_grown : {A Z : Type 0} (number : A → ℕ) (v w : Vec A Z) (u : Undo A) → CanUndo number u v.items (vec_capacity v)
    → w.items ≡ v.items → vec_capacity v ≤ vec_capacity w → CanUndo number u w.items (vec_capacity w)
vec_grown number v w u can same grown =
    let still : CanUndo number u v.items (vec_capacity w) = record {
      ascends = can.ascends;
      room = λ is. room_grown number (vec_capacity v) (vec_capacity w) u.entries v.items grown (can.room is);
    } in
    subst (λ l. CanUndo number u l (vec_capacity w)) (sym same) still
