-- What is put among things between others.
use Rattle.std.proofs.Common.{◌≡◌, ◌==◌, Bool, true, false, cond, map, List, [], ◌∷◌, ◌++◌}
use Rattle.std.proofs.Common.{refl, sym, ◌∙◌, ap, arith, append_assoc, ℕ, ◌<◌, ◌+◌, length, take, get_or}
use Rattle.std.proofs.lemmas.List.{append-nil, take_more}
use Rattle.std.proofs.lemmas.Bool.{cond-true, cond-false}
use Rattle.cm_ordered.specs.Order.{AllSay, Ascends, before_by, put_by}
use Rattle.cm_ordered.proofs.Among.{all_append}
use Rattle.cm_ordered.proofs.Puts.{put_ascends}
use Rattle.model_strace.specs.Parts.{put, put_all}

-- ---- what is put
-- a thing is put after those that come before it
pub put_after : {A : Type 0} (before : A → A → Bool) (new : A) (front xs : List A)
    → AllSay (λ x. before x new) true front → AllSay (before new) false front
    → put before new (front ++ xs) ≡ front ++ put before new xs
put_after before new [] xs lower apart = refl
put_after before new (x ∷ front) xs lower apart =
    cond-false (before new x) _ _ apart.0 ∙ cond-true (before x new) _ _ lower.0
    ∙ ap (λ l. x ∷ l) (put_after before new front xs lower.1 apart.1)

-- a thing is put before those that come after it
pub put_before : {A : Type 0} (before : A → A → Bool) (new : A) (xs back : List A) → AllSay (before new) true back
    → put before new (xs ++ back) ≡ put before new xs ++ back
put_before before new [] [] higher = refl
put_before before new [] (x ∷ back) higher = cond-true (before new x) _ _ higher.0
put_before before new (x ∷ xs) back higher =
    elim (before new x) as (λ b. cond b (new ∷ x ∷ xs ++ back) (cond (before x new)
    (x ∷ put before new (xs ++ back)) (new ∷ xs ++ back))
    ≡ cond b (new ∷ x ∷ xs) (cond (before x new) (x ∷ put before new xs) (new ∷ xs)) ++ back) [
      | true ↦ refl
      | false ↦ elim (before x new) as (λ b. cond b (x ∷ put before new (xs ++ back)) (new ∷ xs ++ back)
          ≡ cond b (x ∷ put before new xs) (new ∷ xs) ++ back) [
            | true ↦ ap (λ l. x ∷ l) (put_before before new xs back higher)
            | false ↦ refl
          ]
    ]

-- a thing is put among those between those before it and those after it
pub put_among : {A : Type 0} (before : A → A → Bool) (new : A) (front xs back : List A)
    → AllSay (λ x. before x new) true front → AllSay (before new) false front → AllSay (before new) true back
    → put before new (front ++ (xs ++ back)) ≡ front ++ (put before new xs ++ back)
put_among before new front xs back lower apart higher =
    put_after before new front (xs ++ back) lower apart
    ∙ ap (λ l. front ++ l) (put_before before new xs back higher)

-- changed things are put as they are where the change keeps the order
pub put_changed : {A B : Type 0} (before : A → A → Bool) (later : B → B → Bool) (change : A → B) (new : A) (xs : List A)
    → ((x y : A) → later (change x) (change y) ≡ before x y)
    → map change (put before new xs) ≡ put later (change new) (map change xs)
put_changed before later change new [] same = refl
put_changed before later change new (x ∷ xs) same =
    (elim (before new x) as (λ b. later (change new) (change x) ≡ b → map change (cond b (new ∷ x ∷ xs)
    (cond (before x new) (x ∷ put before new xs) (new ∷ xs))) ≡ put later (change new) (map change (x ∷ xs))) [
      | true ↦ λ h. sym (cond-true (later (change new) (change x)) _ _ h)
      | false ↦ λ h. (elim (before x new) as (λ b. later (change x) (change new) ≡ b
          → map change (cond b (x ∷ put before new xs) (new ∷ xs)) ≡ put later (change new) (map change (x ∷ xs))) [
            | true ↦ λ g. ap (λ l. change x ∷ l) (put_changed before later change new xs same)
                ∙ sym (cond-false (later (change new) (change x)) _ _ h ∙ cond-true (later (change x) (change new)) _ _ g)
            | false ↦ λ g. sym (cond-false (later (change new) (change x)) _ _ h
                ∙ cond-false (later (change x) (change new)) _ _ g)
          ]) (same x new)
    ]) (same new x)

-- ---- more of them
-- Each of the new ones comes after all that stand there.
abbrev pub Follow : {A : Type 0} → (A → A → Bool) → List A → List A → Type 0
Follow before front [] = Unit {0}
Follow before front (new ∷ news) = AllSay (λ x. before x new) true front × Follow before front news

follow_more : {A : Type 0} (before : A → A → Bool) (new : A) (front news : List A) → AllSay (before new) true news
    → Follow before front news → Follow before (front ++ new ∷ []) news
follow_more before new front [] first after = tt
follow_more before new front (next ∷ news) first after = (
  all_append (λ x. before x next) true front (new ∷ []) after.0 (first.0, tt),
  follow_more before new front news first.1 after.1,
)

follow_nothing : {A : Type 0} (before : A → A → Bool) (news : List A) → Follow before [] news
follow_nothing before [] = tt
follow_nothing before (new ∷ news) = (tt, follow_nothing before news)

put_last : {A : Type 0} (before : A → A → Bool) (new : A) (front : List A)
    → ((x y : A) → before x y ≡ true → before y x ≡ false) → AllSay (λ x. before x new) true front
    → put before new front ≡ front ++ new ∷ []
put_last before new [] apart lower = refl
put_last before new (x ∷ front) apart lower =
    cond-false (before new x) _ _ (apart x new lower.0) ∙ cond-true (before x new) _ _ lower.0
    ∙ ap (λ l. x ∷ l) (put_last before new front apart lower.1)

put_all_last : {A : Type 0} (before : A → A → Bool) (news front : List A)
    → ((x y : A) → before x y ≡ true → before y x ≡ false) → Ascends before news → Follow before front news
    → put_all before news front ≡ front ++ news
put_all_last before [] front apart up after = sym (append-nil front)
put_all_last before (new ∷ news) front apart up after =
    ap (put_all before news) (put_last before new front apart after.0)
    ∙ put_all_last before news (front ++ new ∷ []) apart up.1 (follow_more before new front news up.0 after.1)
    ∙ append_assoc front (new ∷ []) news

-- things in their order are put as they are where there are no other ones
pub put_all_alone : {A : Type 0} (before : A → A → Bool) (news : List A)
    → ((x y : A) → before x y ≡ true → before y x ≡ false) → Ascends before news → put_all before news [] ≡ news
put_all_alone before news apart up = put_all_last before news [] apart up (follow_nothing before news)

-- things are put among those between those before each of them and those after each of them
pub put_all_among : {A B : Type 0} (before : A → A → Bool) (change : B → A) (news : List B) (front xs back : List A)
    → ((new : B) → AllSay (λ x. before x (change new)) true front)
    → ((new : B) → AllSay (before (change new)) false front)
    → ((new : B) → AllSay (before (change new)) true back)
    → put_all before (map change news) (front ++ (xs ++ back))
    ≡ front ++ (put_all before (map change news) xs ++ back)
put_all_among before change [] front xs back lower apart higher = refl
put_all_among before change (new ∷ news) front xs back lower apart higher =
    ap (put_all before (map change news))
    (put_among before (change new) front xs back (lower new) (apart new) (higher new))
    ∙ put_all_among before change news front (put before (change new) xs) back lower apart higher

-- changed things are put as they are where the change keeps the order
pub put_all_changed : {A B : Type 0} (before : A → A → Bool) (later : B → B → Bool) (change : A → B) (news xs : List A)
    → ((x y : A) → later (change x) (change y) ≡ before x y)
    → map change (put_all before news xs) ≡ put_all later (map change news) (map change xs)
put_all_changed before later change [] xs same = refl
put_all_changed before later change (new ∷ news) xs same =
    put_all_changed before later change news (put before new xs) same
    ∙ ap (put_all later (map change news)) (put_changed before later change new xs same)

put_all_more : {A : Type 0} (before : A → A → Bool) (news : List A) (new : A) (others : List A)
    → put_all before (news ++ new ∷ []) others ≡ put before new (put_all before news others)
put_all_more before [] new others = refl
put_all_more before (next ∷ news) new others = put_all_more before news new (put before next others)

-- one more is put in its place
pub put_next : {A : Type 0} (before : A → A → Bool) (news others : List A) (at : ℕ) (new : A) → at < length news
    → new ≡ get_or news at new
    → put_all before (take (at + 1) news) others ≡ put before new (put_all before (take at news) others)
put_next before news others at new within is =
    ap (λ l. put_all before l others) (take_more news at new within)
    ∙ put_all_more before (take at news) (get_or news at new) others
    ∙ ap (λ x. put before x (put_all before (take at news) others)) (sym is)

-- and also where the list of those there is said to be empty
pub put_all_empty : {A : Type 0} (before : A → A → Bool) (news others : List A)
    → ((x y : A) → before x y ≡ true → before y x ≡ false) → Ascends before news → (length others == 0) ≡ true
    → put_all before news others ≡ news
put_all_empty before news [] apart up empty = put_all_alone before news apart up
put_all_empty before news (x ∷ others) apart up empty = grind (arith, empty)

-- ---- by numbers
-- what is put by its number is put in that order
pub put_same : {A : Type 0} (number : A → ℕ) (new : A) (xs : List A) → put_by number new xs ≡ put (before_by number) new xs
put_same number new [] = refl
put_same number new (x ∷ xs) =
    ap (λ l. cond (before_by number new x) (new ∷ x ∷ xs) (cond (before_by number x new) (x ∷ l) (new ∷ xs)))
    (put_same number new xs)

-- with one more in its place the list ascends
pub put_rises : {A : Type 0} (number : A → ℕ) (new : A) (xs : List A) → Ascends (before_by number) xs
    → Ascends (before_by number) (put (before_by number) new xs)
put_rises number new xs up = rw (← put_same number new xs) (put_ascends number new xs up)

-- with all of them in their places the list ascends
pub put_all_ascends : {A : Type 0} (number : A → ℕ) (news xs : List A) → Ascends (before_by number) xs
    → Ascends (before_by number) (put_all (before_by number) news xs)
put_all_ascends number [] xs up = up
put_all_ascends number (new ∷ news) xs up =
    put_all_ascends number news (put (before_by number) new xs) (put_rises number new xs up)
